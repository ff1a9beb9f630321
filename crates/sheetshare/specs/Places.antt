-- How far a script was read.
use Rattle.std.specs.Prelude.{ℕ, ◌≡◌, ◌<◌, ◌⊎◌, List, [], ◌∷◌, ◌++◌, length, Option}
use Rattle.ss_base.specs.Search.{NoFeed}
use Rattle.script_read.specs.declared.script.ScriptKind.TheVariants as kind
use Rattle.script_read.specs.Script.{Script, script, refused_at, ended}
use Rattle.sheetshare.specs.Played.{Wrote}

-- no line of it stops it
abbrev pub GoesOn : Script → Type 0
GoesOn s = (line : ℕ) × (s.stop ≡ refused_at line kind.Unended)

-- nothing, or bytes that end with a line feed
abbrev pub EndsLine : List ℕ → Type 0
EndsLine bytes = (bytes ≡ []) ⊎ ((front : List ℕ) × (bytes ≡ front ++ 10 ∷ []))

-- one line, with its line feed if it has one
abbrev pub IsOneLine : List ℕ → Type 0
IsOneLine bytes = (line : List ℕ) × NoFeed line × ((bytes ≡ line ++ 10 ∷ []) ⊎ (bytes ≡ line))

-- At a fault of reading: of the bytes those in `left` weren't taken, no whole line among the others stops the script, and what they
-- print was written. A last line is whole without a line feed where nothing is left.
pub record FaultedAt (bytes left before : List ℕ) (new : Option (List ℕ)) : Type 0 where
  pub whole : List ℕ  -- the whole lines
  pub part : List ℕ  -- what was taken of the next line
  pub split : whole ++ (part ++ left) ≡ bytes
  pub ends : EndsLine whole ⊎ (part ++ left ≡ [])
  pub plain : NoFeed part
  pub goes_on : GoesOn (script whole)
  pub wrote : Wrote (script whole) before new

-- At the line `end`: of the bytes those in `left` weren't taken, no line before it stops the script, and behind it fewer bytes were
-- taken than one read gives.
pub record EndedAt (bytes left : List ℕ) : Type 0 where
  pub front : List ℕ  -- the lines before it
  pub last : List ℕ  -- the line `end`
  pub ahead : List ℕ  -- what was taken behind it
  pub split : front ++ (last ++ (ahead ++ left)) ≡ bytes
  pub goes_on : GoesOn (script front)
  pub one : IsOneLine last
  pub ends : (script (front ++ last)).stop ≡ ended
  pub near : length ahead < 8192
