-- the text of each token of a formula spells it
use Rattle.std.proofs.Common.{◌≡◌, ℕ, ◌<◌, ◌≤◌, ◌^◌, Bool, true, false, ◌&&◌, nat_eq, nat_le, List, [], ◌∷◌, ◌++◌, length, Some, None, refl, sym, ◌∙◌, arith, decimal}
use Rattle.std.specs.Char.{is_ascii_alphabetic, digit_value}
use Rattle.std.specs.List.{list_all}
use Rattle.std.specs.Str.Parse.{IsNumeral}
use Rattle.std.proofs.lemmas.Bool.{and_parts}
use Rattle.std.proofs.lemmas.Bool.Decides.{nat_tests}
use Rattle.std.proofs.lemmas.Fmt.{decimal_is_IsNumeral}
use Rattle.ss_base.specs.declared.types.Spot.{Spot}
use Rattle.ss_base.specs.declared.types.Span.{Span}
use Rattle.ss_base.specs.declared.types.CalcErr.{CalcErr}
use Rattle.ss_base.specs.declared.types.CalcErr.TheVariants.{Div0, Na, NoName, BadNum, Lost, BadKind, Circ}
use Rattle.cell_addr.specs.Cells.{cell_of, spot_text, span_text, range_between}
use Rattle.formula_tree.specs.declared.operators.BinOp.{BinOp}
use Rattle.formula_tree.specs.declared.operators.BinOp.TheVariants.{Pow, Mul, Div, Add, Sub, Join, Eq, Ne, Lt, Le, Gt, Ge}
use Rattle.formula_tree.specs.declared.operators.PreOp.{PreOp}
use Rattle.formula_tree.specs.declared.operators.PreOp.TheVariants.{Plus, Minus}
use Rattle.formula_tree.specs.declared.functions.Fun.{Fun}
use Rattle.formula_tree.specs.declared.functions.Fun.TheVariants.{Unknown}
use Rattle.formula_tree.specs.Names.{name_of}
use Rattle.formula_tree.specs.Tokens.{TokenValue, Spells, SpellsRange, is_name, is_name_byte, upper_case, error_name, sign_text}
use Rattle.formula_tree.specs.Tokens as token
use Rattle.formula_tree.specs.Grammar.{operator_of_sign}
use Rattle.formula_tree.specs.WellFormed.{IsFun, IsRange}
use Rattle.formula_print.proofs.Parting.{begins_operand, is_operand, is_behind}

-- what cell_addr says of addresses
abbrev pub ReadsCells : Type 0
ReadsCells = (s : Spot) → s.row < 9999999 → s.col < 18278 → cell_of (spot_text s) ≡ Some s

-- numerals
pub spells_numeral : (n : ℕ) → n < 2 ^ 63 → Spells (decimal n) (token.numeral n)
spells_numeral n h = let (numeral, value) = decimal_is_IsNumeral n (omega arith) in (numeral, value, h)

digit_begins : (b : ℕ) → digit_value b < 10 → begins_operand b ≡ true
digit_begins b h = grind (arith, nat_tests)

numeral_begins : (ds : List ℕ) → IsNumeral 10 ds → is_operand ds ≡ true
numeral_begins [] h = absurd (let some = h.0 in omega arith)
numeral_begins (d ∷ ds) h = digit_begins d h.1.0

pub numeral_operand : (n : ℕ) → n < 2 ^ 63 → is_operand (decimal n) ≡ true
numeral_operand n h = numeral_begins (decimal n) (spells_numeral n h).0

-- names of errors
pub fault_operand : (e : CalcErr) → is_operand (error_name e) ≡ true
fault_operand Div0 = refl
fault_operand Na = refl
fault_operand NoName = refl
fault_operand BadNum = refl
fault_operand Lost = refl
fault_operand BadKind = refl
fault_operand Circ = refl

-- addresses
letter_begins : (b : ℕ) → is_ascii_alphabetic b ≡ true → begins_operand b ≡ true
letter_begins b h = grind (arith, nat_tests)

dollar_begins : (b : ℕ) → nat_eq b 36 ≡ true → begins_operand b ≡ true
dollar_begins b h = grind (arith, nat_tests)

pub cell_begins : (bs : List ℕ) (c : Spot) → cell_of bs ≡ Some c → is_operand bs ≡ true
cell_begins [] c h = absurd (cc)
cell_begins (b ∷ bs) c h = by_tests (nat_eq b 36) (is_ascii_alphabetic b) refl refl
  where
    by_tests : (d l : Bool) → nat_eq b 36 ≡ d → is_ascii_alphabetic b ≡ l → begins_operand b ≡ true
    by_tests true l e f = dollar_begins b e
    by_tests false true e f = letter_begins b f
    by_tests false false e f = absurd (let none : cell_of (b ∷ bs) ≡ None = rw (e, f) in let clash : None ≡ Some c = sym none ∙ h in cc)

-- a range by its corners
at_most : (m n : ℕ) → m ≤ n → nat_le m n ≡ true
at_most m n h = grind (arith, nat_tests)

pub spells_range : ReadsCells → (r : Span) → IsRange r → SpellsRange (span_text r) r
spells_range reads r h =
    let first : Spot = record { row = r.top; col = r.left; abs_row = r.abs_top; abs_col = r.abs_left } in
    let last : Spot = record { row = r.bottom; col = r.right; abs_row = r.abs_bottom; abs_col = r.abs_right } in
    let between : range_between first last ≡ r = rw (at_most r.top r.bottom h.rows, at_most r.left r.right h.cols) in
    (spot_text first, spot_text last, first, last, refl, reads first h.first.0 h.first.1, reads last h.last.0 h.last.1, sym between)

-- names of functions
pub name_spelled : (f : Fun) → IsFun f → (is_name (name_of f) ≡ true) × (name_of f ≡ upper_case (name_of f))
name_spelled (Unknown n) h = (h.0, sym h.1)
name_spelled f h = (refl, refl)

pub name_begins : (n : List ℕ) → is_name n ≡ true → is_operand n ≡ true
name_begins [] h = absurd (cc)
name_begins (b ∷ bs) h = let (letter, _) = and_parts (is_ascii_alphabetic b) (list_all is_name_byte bs && nat_le (length bs) 31) h in letter_begins b letter

-- operators and signs
pub sign_behind : (op : BinOp) (r : List ℕ) → is_behind (sign_text op ++ r) ≡ true
sign_behind Pow r = refl
sign_behind Mul r = refl
sign_behind Div r = refl
sign_behind Add r = refl
sign_behind Sub r = refl
sign_behind Join r = refl
sign_behind Eq r = refl
sign_behind Ne r = refl
sign_behind Lt r = refl
sign_behind Le r = refl
sign_behind Gt r = refl
sign_behind Ge r = refl

pub prefix_operand : (op : PreOp) (r : List ℕ) → is_operand (sign_text (operator_of_sign op) ++ r) ≡ true
prefix_operand Plus r = refl
prefix_operand Minus r = refl
