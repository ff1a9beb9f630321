-- The value of a cell after changes.
use Rattle.std.proofs.Common.{◌≡◌, ◌≢◌, ℕ, Bool, true, false, cond, List, [], ◌∷◌, ◌++◌, refl, ap, sym, ◌∙◌, ⊎_elim, arith}
use Rattle.std.specs.Prelude.{fold, unwrap_or, Option, Some, None, All, zero, suc}
use Rattle.std.specs.declared.cmp.Ordering.{Ordering}
use Rattle.std.specs.declared.cmp.Ordering.TheVariants.{Less, Equal, Greater}
use Rattle.std.specs.Ordering.{nat_cmp, eq_by_cmp, is_eq}
use Rattle.std.specs.Cmp.{IsTotalOrder, nat_cmp_total, on_total, then_total, eq_by_cmp_equiv}
use Rattle.std.specs.Map.{lookup}
use Rattle.std.specs.BTreeMap.{BTreeMap, is_at}
use Rattle.std.specs.BTreeMap as tree
use Rattle.std.specs.FinMap as map
use Rattle.std.proofs.lemmas.Map.Lookups.{exact_unsigned, exact_pairs}
use Rattle.std.proofs.lemmas.List.Sums.{fold-append}
use Rattle.sheet_value.specs.declared.batch.Change.{Change}
use Rattle.sheet_value.specs.declared.value.Value.{Value}
use Rattle.sheet_value.specs.declared.value.Value.TheVariants as value
use Rattle.sheet_value.specs.Tables.{filled}
use Rattle.sheet_value.specs.Snapshots.{CellValues, cell_order, cell_in, with_cell, with_change}
use Rattle.value_snap.specs.Kept.{cells_of}
use Rattle.value_snap.specs.Lists.{IsElsewhere}

abbrev Cell : Type 0
Cell = ℕ × ℕ

-- ---- the order of cells
pub cell_order_total : IsTotalOrder cell_order
cell_order_total = then_total (on_total (λ (a : Cell). a.0) nat_cmp_total) (on_total (λ (a : Cell). a.1) nat_cmp_total)

pub cell_order_exact : map.IsAntisymmetric cell_order
cell_order_exact = exact_pairs nat_cmp nat_cmp exact_unsigned exact_unsigned

is_equal : (r : Ordering) → is_eq r ≡ true → r ≡ Equal
is_equal Less e = absurd (cc)
is_equal Equal e = refl
is_equal Greater e = absurd (cc)

same_cell : (a b : Cell) → eq_by_cmp cell_order a b ≡ true → a ≡ b
same_cell a b e = cell_order_exact a b (is_equal (cell_order a b) e)

-- ---- one cell more
get-with_cell : (cells : CellValues) (at : Cell) (what : Option Value) (q : Cell) → map.get (with_cell cells at what) q ≡ cond (eq_by_cmp cell_order q at) what (map.get cells q)
get-with_cell cells at None q = map.get-remove cell_order_total cells at q
get-with_cell cells at (Some v) q = map.get-insert cell_order_total cells at v q

filled-or : (v : Value) → unwrap_or (filled v) value.Empty ≡ v
filled-or value.Empty = refl
filled-or (value.Num n) = refl
filled-or (value.Text t) = refl
filled-or (value.Err e) = refl

pub filled-is : (v : Value) → (v ≡ value.Empty → ⊥) → filled v ≡ Some v
filled-is value.Empty full = absurd (full refl)
filled-is (value.Num n) full = refl
filled-is (value.Text t) full = refl
filled-is (value.Err e) full = refl

cell_changed : (cells : CellValues) (c : Change) → cell_in (with_change cells c) c.row c.col ≡ c.value
cell_changed cells c =
    ap (λ (o : Option Value). unwrap_or o value.Empty) (get-with_cell cells (c.row, c.col) (filled c.value) (c.row, c.col))
    ∙ ap (λ (t : Bool). unwrap_or (cond t (filled c.value) (map.get cells (c.row, c.col))) value.Empty) ((eq_by_cmp_equiv cell_order_total).refl (c.row, c.col))
    ∙ filled-or c.value

other_cell : (row col : ℕ) (c : Change) → IsElsewhere row col c → (t : Bool) → eq_by_cmp cell_order (row, col) (c.row, c.col) ≡ t → t ≡ false
other_cell row col c apart false is = refl
other_cell row col c apart true is =
    let same = same_cell (row, col) (c.row, c.col) is in
    absurd (⊎_elim (λ (n : c.row ≢ row). n (sym (ap (λ (a : Cell). a.0) same))) (λ (n : c.col ≢ col). n (sym (ap (λ (a : Cell). a.1) same))) apart)

cell_kept : (cells : CellValues) (row col : ℕ) (c : Change) → IsElsewhere row col c → cell_in (with_change cells c) row col ≡ cell_in cells row col
cell_kept cells row col c apart =
    ap (λ (o : Option Value). unwrap_or o value.Empty) (get-with_cell cells (c.row, c.col) (filled c.value) (row, col))
    ∙ ap (λ (t : Bool). unwrap_or (cond t (filled c.value) (map.get cells (row, col))) value.Empty) (other_cell row col c apart _ refl)

-- ---- many changes
pub cells_kept : (cells : CellValues) (row col : ℕ) (cs : List Change) → All (IsElsewhere row col) cs → cell_in (fold with_change cells cs) row col ≡ cell_in cells row col
cells_kept cells row col [] apart = refl
cells_kept cells row col (c ∷ cs) apart =
    cells_kept (with_change cells c) row col cs (λ k d h. apart (suc k) d (omega (arith, h))) ∙ cell_kept cells row col c (apart zero c (omega arith))

pub cells_changed : (cells : CellValues) (before : List Change) (c : Change) (after : List Change) → All (IsElsewhere c.row c.col) after → cell_in (fold with_change cells (before ++ c ∷ after)) c.row c.col ≡ c.value
cells_changed cells before c after apart =
    ap (λ (m : CellValues). cell_in m c.row c.col) (fold-append with_change cells before (c ∷ after))
    ∙ cells_kept (with_change (fold with_change cells before) c) c.row c.col after apart
    ∙ cell_changed (fold with_change cells before) c

-- ---- no empty value is kept
abbrev pub KeepsNoEmpty : CellValues → Type 0
KeepsNoEmpty cells = (at : Cell) → map.get cells at ≢ Some value.Empty

pub nothing_empty : KeepsNoEmpty map.empty
nothing_empty at e = let none : None ≡ Some value.Empty = sym (map.get-empty cell_order at) ∙ e in absurd (cc)

filled-full : (v : Value) → filled v ≢ Some value.Empty
filled-full value.Empty e = absurd (cc)
filled-full (value.Num n) e = absurd (cc)
filled-full (value.Text t) e = absurd (cc)
filled-full (value.Err x) e = absurd (cc)

either_full : (t : Bool) (a b : Option Value) → a ≢ Some value.Empty → b ≢ Some value.Empty → cond t a b ≢ Some value.Empty
either_full true a b f g = f
either_full false a b f g = g

pub changes_keep_no_empty : (cells : CellValues) (cs : List Change) → KeepsNoEmpty cells → KeepsNoEmpty (fold with_change cells cs)
changes_keep_no_empty cells [] none = none
changes_keep_no_empty cells (c ∷ cs) none =
    changes_keep_no_empty (with_change cells c) cs
    (λ at e. either_full (eq_by_cmp cell_order at (c.row, c.col)) (filled c.value) (map.get cells at) (filled-full c.value) (none at) (sym (get-with_cell cells (c.row, c.col) (filled c.value) at) ∙ e))

-- ---- how they are kept
find-is : (es : List (Cell × Value)) (q : Cell) → map.find cell_order q es ≡ lookup (is_at (cell_order q)) es
find-is [] q = refl
find-is (e ∷ es) q = ap (cond (is_eq (cell_order q e.0)) (Some e.1)) (find-is es q)

pub cells_get : (m : BTreeMap Cell Value) (q : Cell) → map.get (cells_of m) q ≡ tree.get cell_order m q
cells_get m q = map.get-from_entries cell_order_total m.entries q ∙ find-is m.entries q

pub put_is : (m n : BTreeMap Cell Value) (at : Cell) (what : Option Value) → tree.Updates cell_order m n at what → cells_of n ≡ with_cell (cells_of m) at what
put_is m n at what u =
    map.same_map cell_order_total cell_order_exact (cells_of n) (with_cell (cells_of m) at what)
    (λ q. cells_get n q ∙ u.0 q
    ∙ ap (λ (t : Bool). cond t what (tree.get cell_order m q)) ((eq_by_cmp_equiv cell_order_total).symm at q)
    ∙ ap (λ (o : Option Value). cond (eq_by_cmp cell_order q at) what o) (sym (cells_get m q))
    ∙ sym (get-with_cell (cells_of m) at what q))

pub value_is : (m : BTreeMap Cell Value) (row col : ℕ) (o : Option Value) → o ≡ tree.get cell_order m (row, col) → unwrap_or o value.Empty ≡ cell_in (cells_of m) row col
value_is m row col o e = ap (λ (p : Option Value). unwrap_or p value.Empty) (e ∙ sym (cells_get m (row, col)))
