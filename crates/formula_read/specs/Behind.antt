-- What stands directly behind a token.
use Rattle.std.specs.Prelude.{ℕ, nat_eq, ◌||◌, Bool, false, List, [], ◌∷◌}
use Rattle.std.specs.Char.{is_ascii_digit}
use Rattle.formula_tree.specs.Tokens.{is_name_byte}
use Rattle.formula_read.specs.declared.kinds.TokenKind.{TokenKind}
use Rattle.formula_read.specs.declared.kinds.TokenKind.TheVariants as kind

-- Whether the token may be a longer or another one with this byte behind it: a digit, the second `"` of a pair, what a
-- name or a range has behind an address, the second byte of `<>`, `<=` or `>=`.
abbrev pub may_join : TokenKind → ℕ → Bool
may_join kind.Numeral b = is_ascii_digit b
may_join kind.Text b = nat_eq b 34
may_join kind.Cell b = is_name_byte b || (nat_eq b 58 || nat_eq b 40)
may_join kind.Range b = is_name_byte b || (nat_eq b 58 || nat_eq b 40)
may_join kind.Sign b = nat_eq b 61 || nat_eq b 62
may_join k b = false

-- the same of the first of the bytes behind it, if there are some
abbrev pub goes_on : TokenKind → List ℕ → Bool
goes_on k [] = false
goes_on k (b ∷ bs) = may_join k b
