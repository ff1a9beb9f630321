-- The tokens of a formula's text, and what each stands for.
use Rattle.std.specs.Prelude.{ℕ, ◌≡◌, ◌<◌, ◌≤◌, ◌^◌, nat_eq, nat_le, ◌&&◌, ◌||◌, Bool, true, false, if◌then◌else◌, List, [], ◌∷◌, ◌++◌, length, map, Some, codes}
use Rattle.std.specs.List.{list_all}
use Rattle.std.specs.Char.{is_ascii_alphabetic, is_ascii_alphanumeric, to_ascii_uppercase}
use Rattle.std.specs.Str.Parse.{IsNumeral, digits_value}
use Rattle.ss_base.specs.declared.types.Spot.{Spot}
use Rattle.ss_base.specs.declared.types.Span.{Span}
use Rattle.ss_base.specs.declared.types.CalcErr.{CalcErr}
use Rattle.ss_base.specs.declared.types.CalcErr.TheVariants.{Div0, Na, NoName, BadNum, Lost, BadKind, Circ}
use Rattle.cell_addr.specs.Cells.{cell_of, range_between}
use Rattle.formula_tree.specs.declared.operators.BinOp.{BinOp}
use Rattle.formula_tree.specs.declared.operators.BinOp.TheVariants.{Pow, Mul, Div, Add, Sub, Join, Eq, Ne, Lt, Le, Gt, Ge}

pub data TokenValue : Type 0 where
  numeral : ℕ → TokenValue
  text : List ℕ → TokenValue
  fault : CalcErr → TokenValue
  cell : Spot → TokenValue
  range : Span → TokenValue
  name : List ℕ → TokenValue  -- a function's, in upper case
  sign : BinOp → TokenValue  -- by the operator that it is between two operands
  opening : TokenValue
  closing : TokenValue
  semicolon : TokenValue

-- a byte that a text may have
abbrev pub is_printable : ℕ → Bool
is_printable b = nat_le 32 b && nat_le b 126

-- a letter, a digit, `.` or `_`
abbrev pub is_name_byte : ℕ → Bool
is_name_byte b = is_ascii_alphanumeric b || (nat_eq b 46 || nat_eq b 95)

-- a letter, then up to 31 bytes
abbrev pub is_name : List ℕ → Bool
is_name [] = false
is_name (b ∷ bs) = is_ascii_alphabetic b && (list_all is_name_byte bs && nat_le (length bs) 31)

abbrev pub upper_case : List ℕ → List ℕ
upper_case bs = map to_ascii_uppercase bs

-- a text with each `"` written twice
abbrev pub doubled : List ℕ → List ℕ
doubled [] = []
doubled (b ∷ bs) = if nat_eq b 34 then 34 ∷ 34 ∷ doubled bs else b ∷ doubled bs

abbrev pub error_name : CalcErr → List ℕ
error_name Div0 = codes "#DIV/0!"
error_name Na = codes "#N/A"
error_name NoName = codes "#NAME?"
error_name BadNum = codes "#NUM!"
error_name Lost = codes "#REF!"
error_name BadKind = codes "#VALUE!"
error_name Circ = codes "#CIRC!"

abbrev pub sign_text : BinOp → List ℕ
sign_text Pow = codes "^"
sign_text Mul = codes "*"
sign_text Div = codes "/"
sign_text Add = codes "+"
sign_text Sub = codes "-"
sign_text Join = codes "&"
sign_text Eq = codes "="
sign_text Ne = codes "<>"
sign_text Lt = codes "<"
sign_text Le = codes "<="
sign_text Gt = codes ">"
sign_text Ge = codes ">="

-- two cells with a colon between them, and the range of those corners
abbrev pub SpellsRange : List ℕ → Span → Type 0
SpellsRange bs r =
    (first last : List ℕ) × (a b : Spot) × (bs ≡ first ++ 58 ∷ last) × (cell_of first ≡ Some a) × (cell_of last ≡ Some b) × (r ≡ range_between a b)

-- the bytes spell the token
abbrev pub Spells : List ℕ → TokenValue → Type 0
Spells bs (numeral n) = IsNumeral 10 bs × (digits_value 10 bs ≡ n) × (n < 2 ^ 63)
Spells bs (text t) = (bs ≡ 34 ∷ doubled t ++ 34 ∷ []) × (list_all is_printable t ≡ true)
Spells bs (fault e) = bs ≡ error_name e
Spells bs (cell c) = cell_of bs ≡ Some c
Spells bs (range r) = SpellsRange bs r
Spells bs (name n) = (is_name bs ≡ true) × (n ≡ upper_case bs)
Spells bs (sign op) = bs ≡ sign_text op
Spells bs opening = bs ≡ codes "("
Spells bs closing = bs ≡ codes ")"
Spells bs semicolon = bs ≡ codes ";"

-- a name stands only directly before an opening bracket
abbrev pub Follows : TokenValue → List ℕ → Type 0
Follows (name n) rest = (more : List ℕ) × (rest ≡ 40 ∷ more)
Follows t rest = Unit {0}

-- a text begins with the token, spelled by the piece, and goes on with the rest
abbrev pub Fits : List ℕ → TokenValue → List ℕ → Type 0
Fits piece t rest = Spells piece t × Follows t rest

-- The next token of a text is the longest that fits. Where a cell and a name of one length fit, it is the name.
pub record IsNext (piece : List ℕ) (t : TokenValue) (rest : List ℕ) : Type 0 where
  pub fits : Fits piece t rest
  pub longest : (p : List ℕ) (u : TokenValue) (r : List ℕ) → p ++ r ≡ piece ++ rest → Fits p u r → length p ≤ length piece
  pub named : (n : List ℕ) → Fits piece (name n) rest → t ≡ name n
