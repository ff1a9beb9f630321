-- The lines of bytes: pieces that end at line feeds. A last piece without one is a line unless it is empty.
use Rattle.std.specs.Prelude.{ℕ, ◌≡◌, ◌≢◌, ◌+◌, ◌<◌, ◌≤◌, ◌⊎◌, nat_eq, nat_lt, ◌||◌, Bool, true, false, if◌then◌else◌, List, [], ◌∷◌, ◌++◌, length, Option, Some, None, Result, Ok, Err}
use Rattle.ss_base.specs.declared.lines.Turn.{Turn}
use Rattle.ss_base.specs.declared.lines.Turn.TheVariants as turn
use Rattle.ss_base.specs.declared.lines.LineErr.{LineErr}
use Rattle.ss_base.specs.declared.lines.LineErr.TheVariants as fault
use Rattle.ss_base.specs.Search.{NoFeed}

-- a line without its line feed, and how many bytes there are up to its end, its line feed among them
pub record Line : Type 0 where
  pub bytes : List ℕ
  pub ends : ℕ

-- a byte before the first line, where the byte behind it is byte number `next`
abbrev pub longer : ℕ → ℕ → List Line → List Line
longer b next [] = record { bytes = b ∷ []; ends = next } ∷ []
longer b next (l ∷ ls) = record { bytes = b ∷ l.bytes; ends = l.ends } ∷ ls

-- the lines of bytes that stand behind `used` others
abbrev pub lines_from : ℕ → List ℕ → List Line
lines_from used [] = []
lines_from used (b ∷ bs) =
    if nat_eq b 10
    then record { bytes = []; ends = used + 1 } ∷ lines_from (used + 1) bs
    else longer b (used + 1) (lines_from (used + 1) bs)

abbrev pub lines : List ℕ → List Line
lines bs = lines_from 0 bs

-- more than 4,096 bytes, or an end behind byte 1,048,576
abbrev pub is_long : Line → Bool
is_long l = nat_lt 4096 (length l.bytes) || nat_lt 1048576 l.ends

-- What a feed of lines keeps.
pub record FeedState : Type 0 where
  pub line : List ℕ  -- what it holds as its line
  pub ahead : List ℕ  -- the bytes that were read and belong to no line that it gave
  pub used : ℕ  -- how many bytes the lines have that it gave, with their line feeds

-- the lines that it will still give, where the source tells what it has left
abbrev pub lines_left : FeedState → Option (List ℕ) → Option (List Line)
lines_left f None = None
lines_left f (Some left) = Some (lines_from f.used (f.ahead ++ left))

-- What a reading gives, by the lines left before and after it and the line held after it: the first line left, where
-- it isn't too long; the end exactly where no line is left; and each refusal leaves the lines as they were.
abbrev pub GivesLine : Option (List Line) → Option (List Line) → List ℕ → Result Turn LineErr → Type 0
GivesLine None None held r = Unit {0}
GivesLine None (Some new) held r = ⊥
GivesLine (Some old) None held r = ⊥
GivesLine (Some old) (Some new) held (Ok turn.Line) = (l : Line) × (old ≡ l ∷ new) × (held ≡ l.bytes) × (is_long l ≡ false)
GivesLine (Some old) (Some new) held (Ok turn.End) = (old ≡ []) × (new ≡ [])
GivesLine (Some old) (Some new) held (Err fault.TooLong) = (l : Line) × (rest : List Line) × (old ≡ l ∷ rest) × (is_long l ≡ true) × (new ≡ old)
GivesLine (Some old) (Some new) held (Err fault.ReadFault) = new ≡ old

-- How far a reading moves on, by the bytes used before and after it and the line held after it: past a line of at
-- most 4,096 bytes, with its line feed if it has one, up to byte 1,048,576 at most; and else not at all.
abbrev pub MovesOn : ℕ → ℕ → List ℕ → Result Turn LineErr → Type 0
MovesOn old new held (Ok turn.Line) =
    (old < new) × (new ≤ 1048576) × (length held ≤ 4096) × ((new ≡ old + length held + 1) ⊎ (new ≡ old + length held))
MovesOn old new held (Ok turn.End) = new ≡ old
MovesOn old new held (Err fault.TooLong) = new ≡ old
MovesOn old new held (Err fault.ReadFault) = new ≡ old

-- the bytes of those lines
abbrev pub bytes_left : FeedState → Option (List ℕ) → Option (List ℕ)
bytes_left f None = None
bytes_left f (Some left) = Some (f.ahead ++ left)

-- A line is taken from the front of the bytes that are left, with its line feed; or all of them are, which have none.
abbrev pub TakesFed : FeedState → FeedState → List ℕ → List ℕ → Type 0
TakesFed old new before after = (before ≡ new.line ++ 10 ∷ after) × (new.used ≡ old.used + length new.line + 1)

abbrev pub TakesLast : FeedState → FeedState → List ℕ → List ℕ → Type 0
TakesLast old new before after = (before ≡ new.line) × (after ≡ []) × (before ≢ []) × (new.used ≡ old.used + length new.line)

abbrev pub TakesLine : FeedState → FeedState → List ℕ → List ℕ → Type 0
TakesLine old new before after = NoFeed new.line × (TakesFed old new before after ⊎ TakesLast old new before after)

-- Which bytes a reading uses up, by the bytes left before and after it: those of a line that it gives, and else none.
abbrev pub UsesBytes : FeedState → FeedState → Option (List ℕ) → Option (List ℕ) → Result Turn LineErr → Type 0
UsesBytes old new None None r = Unit {0}
UsesBytes old new None (Some after) r = ⊥
UsesBytes old new (Some before) None r = ⊥
UsesBytes old new (Some before) (Some after) (Ok turn.Line) = TakesLine old new before after
UsesBytes old new (Some before) (Some after) (Ok turn.End) = after ≡ before
UsesBytes old new (Some before) (Some after) (Err e) = after ≡ before

-- What was read and belongs to no line that was given: behind a line fewer bytes than one read gives, at the end none, and at a
-- fault no whole line.
abbrev pub IsAhead : List ℕ → Result Turn LineErr → Type 0
IsAhead ahead (Ok turn.Line) = length ahead < 8192
IsAhead ahead (Ok turn.End) = ahead ≡ []
IsAhead ahead (Err fault.TooLong) = Unit {0}
IsAhead ahead (Err fault.ReadFault) = NoFeed ahead
