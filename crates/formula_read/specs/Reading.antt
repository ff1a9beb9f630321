-- A reader of a formula's text, byte by byte: how far the token at hand was read, and the place behind that token, or
-- behind the last one where no token is at hand. A name is taken for a leaf until its end.
use Rattle.std.specs.Prelude.{ℕ, nat_eq, ◌&&◌, Bool, true, false, if◌then◌else◌, List, [], ◌∷◌, Option, Some, None, option_and_then}
use Rattle.std.specs.Option.{option_zip}
use Rattle.formula_read.specs.declared.kinds.TokenKind.{TokenKind}
use Rattle.formula_read.specs.declared.kinds.TokenKind.TheVariants as kind
use Rattle.formula_read.specs.declared.partial.Partial.{Partial}
use Rattle.formula_read.specs.declared.partial.Partial.TheVariants.{Fresh}
use Rattle.formula_read.specs.Partial.{partial_step, fresh_step, kind_at}
use Rattle.formula_read.specs.Classes.{class_begun}
use Rattle.formula_read.specs.Places.{Place, head, has, named, after}

-- the place behind the token that begins with the byte
abbrev pub after_begun : Place → ℕ → Option Place
after_begun p b = option_and_then (after p) (class_begun b)

-- the first byte of a token
abbrev pub read_first : Place → ℕ → Option (Place × Partial)
read_first p b = option_zip (after_begun p b) (fresh_step b)

-- the `=` was read
abbrev pub is_inside : Place → Bool
is_inside head = false
is_inside p = true

-- a space, which may stand behind the `=`
abbrev pub skips : Place → ℕ → Bool
skips p b = is_inside p && nat_eq b 32

-- a byte between tokens
abbrev pub read_between : Place → ℕ → Option (Place × Partial)
read_between p b = if skips p b then Some (p, Fresh) else read_first p b

abbrev pub read_between_at : Option Place → ℕ → Option (Place × Partial)
read_between_at (Some p) b = read_between p b
read_between_at None b = None

-- the place behind a name that was taken for a leaf
abbrev pub behind_name : Place → Place
behind_name (has ds) = named ds
behind_name p = p

-- the place behind the token at hand, by its kind
abbrev pub behind_token : TokenKind → Place → Place
behind_token kind.Name p = behind_name p
behind_token k p = p

abbrev pub place_after : Place → Option TokenKind → Option Place
place_after p (Some k) = Some (behind_token k p)
place_after p None = None

-- a byte that goes on with the token at hand, or ends it
abbrev pub inside : Place → Partial → ℕ → Option Partial → Option (Place × Partial)
inside p s b (Some next) = Some (p, next)
inside p s b None = read_between_at (place_after p (kind_at s (Some b))) b

abbrev pub is_fresh : Partial → Bool
is_fresh Fresh = true
is_fresh s = false

abbrev pub read_byte : Place → Partial → ℕ → Option (Place × Partial)
read_byte p s b = if is_fresh s then read_between p b else inside p s b (partial_step s b)

-- where the reader stands after the bytes, if some formula begins so
abbrev pub read_text : Option (Place × Partial) → List ℕ → Option (Place × Partial)
read_text None bs = None
read_text (Some r) [] = Some r
read_text (Some r) (b ∷ bs) = read_text (read_byte r.0 r.1 b) bs

-- where the reader stands if the text ends here: behind the token at hand, if that is whole
abbrev pub place_at_end : Place → Partial → Option Place
place_at_end p s = if is_fresh s then Some p else place_after p (kind_at s None)

abbrev pub place_ended : Option (Place × Partial) → Option Place
place_ended None = None
place_ended (Some r) = place_at_end r.0 r.1
