-- The texts of values, where two tables have the same ones.
use Rattle.std.proofs.Common.{◌≡◌, ℕ, zero, suc, ◌+◌, ◌-◌, ◌<◌, ◌≤◌, Bool, true, false, List, ◌∷◌, ◌++◌, refl, ap, ◌∙◌, arith, Ok, Err}
use Rattle.std.specs.Prelude.{nat_lt, ◌&&◌, if◌then◌else◌, Result, IfOk}
use Rattle.std.specs.List.{flat_map, range_with_len}
use Rattle.std.proofs.lemmas.Bool.Decides.{nat_tests}
use Rattle.ss_base.specs.declared.types.Size.{Size}
use Rattle.ss_base.specs.declared.types.Span.{Span}
use Rattle.sheet_value.specs.declared.value.Value.{Value}
use Rattle.sheet_value.specs.Tables.{Table, value_at}
use Rattle.sheet_ops.specs.declared.edit.EditErr.TheVariants as fault
use Rattle.sheet_text.specs.Texts.{cell_line, refusal_text}
use Rattle.sheet_text.specs.Values.{value_text, lines_in_row, values_text, values_head_text, indexes_between, read_head_text, all_text, range_values_text, values_from, IsPartOf}

-- texts that are the same for each number from a first one on
flat_alike : (f g : ℕ → List ℕ) (first count : ℕ) → ((n : ℕ) → first ≤ n → n < first + count → f n ≡ g n) → flat_map f (range_with_len first count) ≡ flat_map g (range_with_len first count)
flat_alike f g first zero same = refl
flat_alike f g first (suc count) same =
    (λ i. same first (omega arith) (omega arith) i ++ flat_alike f g (first + 1) count (λ n low high. same n (omega (arith, low)) (omega (arith, high))) i)

-- the same values in some rows and columns
values_alike : (head : List ℕ) (V W : ℕ → ℕ → Value) (top height left width : ℕ) →
    ((row col : ℕ) → top ≤ row → row < top + height → left ≤ col → col < left + width → V row col ≡ W row col) →
    values_text head V (range_with_len top height) (range_with_len left width) ≡ values_text head W (range_with_len top height) (range_with_len left width)
values_alike head V W top height left width same =
    ap (λ (lines : List ℕ). head ++ 10 ∷ lines)
    (flat_alike (lines_in_row V (range_with_len left width)) (lines_in_row W (range_with_len left width)) top height
    (λ row low high. flat_alike (λ (col : ℕ). cell_line row col (value_text (V row col))) (λ (col : ℕ). cell_line row col (value_text (W row col))) left width
    (λ col near far. ap (λ (v : Value). cell_line row col (value_text v)) (same row col low high near far))))

-- values that begin with those of the first cell
from_first : (T : Table) → values_from 0 0 T ≡ value_at T
from_first T = λ i row col. value_at T (none_off row i) (none_off col i)
  where
    none_off : (n : ℕ) → n - 0 ≡ n
    none_off n = omega arith

-- the text of all values
pub all_same : (T : Table) (length : ℕ) (size : Size) (head : List ℕ) → head ≡ values_head_text length size → size ≡ T.size →
    values_text head (values_from 0 0 T) (range_with_len 0 (size.rows - 0)) (range_with_len 0 (size.cols - 0)) ≡ all_text length T
all_same T length size head first same =
    let rows : size.rows - 0 ≡ size.rows = omega arith in
    let cols : size.cols - 0 ≡ size.cols = omega arith in
    (λ i. values_text (first i) (from_first T i) (range_with_len 0 (rows i)) (range_with_len 0 (cols i)))
    ∙ (λ i. values_text (values_head_text length (same i)) (value_at T) (range_with_len 0 (same i).rows) (range_with_len 0 (same i).cols))

-- the text of a range that is in the visible sheet
range_within : (number : ℕ) (name : List ℕ) (range : Span) (length : ℕ) (T : Table) → range.bottom < T.size.rows → range.right < T.size.cols →
    values_text (read_head_text name length range) (value_at T) (indexes_between range.top range.bottom) (indexes_between range.left range.right) ≡ range_values_text number name range length T
range_within number name range length T rows cols =
    let low : nat_lt range.bottom T.size.rows ≡ true = grind (arith, nat_tests) in
    let near : nat_lt range.right T.size.cols ≡ true = grind (arith, nat_tests) in
    by_tests text (refusal_text number fault.OutOfSheet) (nat_lt range.bottom T.size.rows) (nat_lt range.right T.size.cols) low near
  where
    text : List ℕ
    text = values_text (read_head_text name length range) (value_at T) (indexes_between range.top range.bottom) (indexes_between range.left range.right)

    by_tests : (x y : List ℕ) (a b : Bool) → a ≡ true → b ≡ true → x ≡ (if a && b then x else y)
    by_tests x y true true p q = refl
    by_tests x y true false p q = absurd (cc)
    by_tests x y false b p q = absurd (cc)

-- the text of a range, by all values
pub range_same : (number : ℕ) (name : List ℕ) (range : Span) (length : ℕ) (T : Table) → range.bottom < T.size.rows → range.right < T.size.cols →
    values_text (read_head_text name length range) (values_from 0 0 T) (indexes_between range.top range.bottom) (indexes_between range.left range.right) ≡ range_values_text number name range length T
range_same number name range length T rows cols =
    ap (λ (V : ℕ → ℕ → Value). values_text (read_head_text name length range) V (indexes_between range.top range.bottom) (indexes_between range.left range.right)) (from_first T)
    ∙ range_within number name range length T rows cols

-- the values of a part by their addresses are those of the whole
pub part_same : (T : Table) (range : Span) (part : Table) → IsPartOf T range part → (name : List ℕ) (number length : ℕ) →
    values_text (read_head_text name length range) (values_from range.top range.left part) (indexes_between range.top range.bottom) (indexes_between range.left range.right) ≡ range_values_text number name range length T
part_same T range part is name number length =
    values_alike (read_head_text name length range) (values_from range.top range.left part) (value_at T) range.top (range.bottom + 1 - range.top) range.left (range.right + 1 - range.left) same
    ∙ range_within number name range length T is.last_row is.last_col
  where
    same : (row col : ℕ) → range.top ≤ row → row < range.top + (range.bottom + 1 - range.top) → range.left ≤ col → col < range.left + (range.right + 1 - range.left) → values_from range.top range.left part row col ≡ value_at T row col
    same row col low high near far =
        let down : range.top + (row - range.top) ≡ row = omega (arith, low) in
        let over : range.left + (col - range.left) ≡ col = omega (arith, near) in
        let rows = is.rows in
        let cols = is.cols in
        is.values (row - range.top) (col - range.left) (omega (arith, low, high, rows)) (omega (arith, near, far, cols)) ∙ (λ i. value_at T (down i) (over i))

pub if_ok : {T E : Type 0} {P Q : T → Type 0} (x : Result T E) → ((t : T) → P t → Q t) → IfOk x P → IfOk x Q
if_ok (Ok t) f a = f t a
if_ok (Err e) f a = tt
