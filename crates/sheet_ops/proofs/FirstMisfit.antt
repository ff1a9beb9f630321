-- The first misfit of an operation, and that there is none exactly where the operation fits.
use Rattle.std.proofs.Common.{◌≡◌, ℕ, zero, suc, ◌+◌, ◌-◌, ◌^◌, ◌<◌, ◌≤◌, min, Bool, true, false, cond, List, [], ◌∷◌, ◌++◌, length, take, drop, get_or, set, replicate, get_or-set_same, get_or-set_other, inl, inr, refl, ap, sym, ◌∙◌, arith, Some, None, All, AllPairs}
use Rattle.std.specs.Prelude.{◌&&◌, ◌||◌, ◌↔◌, ◌⊎◌, map, not, nat_eq, nat_lt, nat_le, slice_get, Result, Ok, Err, IsNone}
use Rattle.std.specs.List.{list_all, list_any}
use Rattle.std.specs.Result.{result_err}
use Rattle.std.proofs.lemmas.Bool.Decides.{nat_tests}
use Rattle.std.proofs.lemmas.List.{take_more, append-nil, append_assoc, take-append-drop, length-take-le, get_or-take}
use Rattle.std.proofs.lemmas.List.Elements.{All-nil, All-cons, All-head, All-tail}
use Rattle.std.proofs.lemmas.List.Folds.{list_all-append, list_any-append}
use Rattle.std.proofs.lemmas.List.Sums.{AllPass-from_list_all, list_all-from_AllPass}
use Rattle.std.proofs.Math.Seq.{drop-cons}
use Rattle.marked_lines.specs.Moves.{MovesBelow}
use Rattle.marked_lines.proofs.Shifts.{images_below}
use Rattle.ss_base.specs.declared.types.Size.{Size}
use Rattle.ss_base.specs.declared.types.Spot.{Spot}
use Rattle.ss_base.specs.declared.types.Span.{Span}
use Rattle.formula_tree.specs.declared.expression.Expr.{Expr}
use Rattle.formula_tree.specs.Erase.{tree_of}
use Rattle.formula_tree.specs.Tree.{Tree, Trees, num, text, fault, cell, range, pre, bin, call, none, more, trees_from}
use Rattle.formula_tree.specs.Remap.{EachReference, EachReferences}
use Rattle.sheet_ops.specs.declared.content.Content.{Content}
use Rattle.sheet_ops.specs.declared.content.Content.TheVariants as content
use Rattle.sheet_ops.specs.declared.content.Put.{Put}
use Rattle.sheet_ops.specs.declared.operation.Intent.{Intent}
use Rattle.sheet_ops.specs.declared.operation.Intent.TheVariants as intent
use Rattle.sheet_ops.specs.declared.operation.Effect.{Effect}
use Rattle.sheet_ops.specs.declared.operation.Effect.TheVariants as effect
use Rattle.sheet_ops.specs.Lines.{place_where, has_number}
use Rattle.sheet_ops.specs.Fits.{CellFits, RangeFits, ContentFits, PutsFit, SortFits, IntentFits, EffectFits, same_cell, writes_cell}
use Rattle.sheet_ops.specs.Misfits.{beside_earlier, cell_tests, range_tests, tree_tests, trees_tests, content_tests, put_tests, slot_tests, rec_tests, missing_tests, move_tests, intent_tests, effect_tests, MovesArePerm, misfit, walked}
use Rattle.sheet_ops.proofs.Ids.{same_number, true_or_false}
use Rattle.sheet_ops.proofs.Members.{has_none, none_has, other_number}

abbrev pub top : ℕ
top = 2 ^ 32 - 1

abbrev ok : ℕ → Result ℕ ℕ
ok n = Ok n

abbrev err : ℕ → Result ℕ ℕ
err n = Err n

abbrev all : List Bool → Bool
all ts = list_all (λ t. t) ts

below : (m n : ℕ) → nat_lt m n ≡ true → m < n
below m n h = grind (arith, nat_tests)

pub is_below : (m n : ℕ) → m < n → nat_lt m n ≡ true
is_below m n h = grind (arith, nat_tests)

at_most : (m n : ℕ) → nat_le m n ≡ true → m ≤ n
at_most m n h = grind (arith, nat_tests)

is_at_most : (m n : ℕ) → m ≤ n → nat_le m n ≡ true
is_at_most m n h = grind (arith, nat_tests)

not_below : (m n : ℕ) → nat_lt m n ≡ false → n ≤ m
not_below m n h = grind (arith, nat_tests)

pub is_not_below : (m n : ℕ) → n ≤ m → nat_lt m n ≡ false
is_not_below m n h = grind (arith, nat_tests)

pub same_at : {A : Type 0} (xs : List A) (k : ℕ) (d e : A) → k < length xs → get_or xs k d ≡ get_or xs k e
same_at [] k d e within = absurd (omega arith)
same_at (x ∷ xs) zero d e within = refl
same_at (x ∷ xs) (suc k) d e within = same_at xs k d e (omega arith)

-- ---- a walk from number to number
pub walked_on : (at n : ℕ) (xs ys : List Bool) → walked at xs ≡ Ok n → walked at (xs ++ ys) ≡ walked n ys
walked_on at n [] ys h = let e : at ≡ n = cc in ap (λ (m : ℕ). walked m ys) e
walked_on at n (true ∷ xs) ys h = walked_on (min (suc at) top) n xs ys h
walked_on at n (false ∷ xs) ys h = absurd (cc)

pub walked_out : (at k : ℕ) (xs ys : List Bool) → walked at xs ≡ Err k → walked at (xs ++ ys) ≡ Err k
walked_out at k [] ys h = absurd (cc)
walked_out at k (true ∷ xs) ys h = walked_out (min (suc at) top) k xs ys h
walked_out at k (false ∷ xs) ys h = h

-- by the place of the first number that breaks its rule
later : (k n : ℕ) → nat_lt (suc k) (suc n) ≡ nat_lt k n
later k n = grind (arith, nat_tests)

first_in : (n : ℕ) → nat_lt 0 (suc n) ≡ true
first_in n = grind (arith, nat_tests)

walked_from : (at : ℕ) (xs : List Bool) → at ≤ top → walked at xs ≡ cond (nat_lt (place_where not xs) (length xs)) (err (min (at + place_where not xs) top)) (ok (min (at + length xs) top))
walked_from at [] low = let e : at ≡ min (at + 0) top = omega arith in ap ok e
walked_from at (true ∷ xs) low =
    let rest = walked_from (min (suc at) top) xs (omega arith) in
    let broken : min (min (suc at) top + place_where not xs) top ≡ min (at + suc (place_where not xs)) top = omega arith in
    let whole : min (min (suc at) top + length xs) top ≡ min (at + suc (length xs)) top = omega arith in
    rest ∙ (λ i. cond (sym (later (place_where not xs) (length xs)) i) (err (broken i)) (ok (whole i)))
walked_from at (false ∷ xs) low =
    let e : at ≡ min (at + 0) top = omega arith in
    ap err e ∙ ap (λ (t : Bool). cond t (err (min (at + 0) top)) (ok (min (at + suc (length xs)) top))) (sym (first_in (length xs)))

pub misfit_walked : (xs : List Bool) (r : Result ℕ ℕ) → r ≡ walked 0 xs → result_err r ≡ misfit xs
misfit_walked xs r h = ap (λ (s : Result ℕ ℕ). result_err s) (h ∙ walked_from 0 xs (omega arith)) ∙ by_test (nat_lt (place_where not xs) (length xs))
  where
    by_test : (t : Bool) → result_err (cond t (err (min (0 + place_where not xs) top)) (ok (min (0 + length xs) top))) ≡ cond t (Some (min (place_where not xs) top)) None
    by_test true = let e : min (0 + place_where not xs) top ≡ min (place_where not xs) top = omega arith in ap (λ (n : ℕ). Some n) e
    by_test false = refl

-- ---- none is broken
place_all : (xs : List Bool) → nat_lt (place_where not xs) (length xs) ≡ not (all xs)
place_all [] = refl
place_all (true ∷ xs) = later (place_where not xs) (length xs) ∙ place_all xs
place_all (false ∷ xs) = first_in (length xs)

pub none_broken : (xs : List Bool) → IsNone (misfit xs) ↔ (all xs ≡ true)
none_broken xs = by_test (nat_lt (place_where not xs) (length xs)) (all xs) (place_all xs)
  where
    by_test : (t b : Bool) → t ≡ not b → IsNone (cond t (Some (min (place_where not xs) top)) None) ↔ (b ≡ true)
    by_test false true e = ((λ h. refl), (λ h. refl))
    by_test true false e = ((λ h. absurd (let clash : true ≡ false = h in cc)), (λ h. absurd (let clash : false ≡ true = h in cc)))
    by_test true true e = absurd (cc)
    by_test false false e = absurd (cc)

two : (a b : Bool) → a && b ≡ true → (a ≡ true) × (b ≡ true)
two true b h = (refl, h)
two false b h = absurd (cc)

from_two : (a b : Bool) → a ≡ true → b ≡ true → a && b ≡ true
from_two a b h k = rw h k

both : (xs ys : List Bool) → all (xs ++ ys) ≡ true → (all xs ≡ true) × (all ys ≡ true)
both xs ys h = two (all xs) (all ys) (sym (list_all-append (λ t. t) xs ys) ∙ h)

from_both : (xs ys : List Bool) → all xs ≡ true → all ys ≡ true → all (xs ++ ys) ≡ true
from_both xs ys h k = list_all-append (λ t. t) xs ys ∙ from_two (all xs) (all ys) h k

one : (a : Bool) → all (a ∷ []) ≡ true → a ≡ true
one a h = (two a true h).0

from_one : (a : Bool) → a ≡ true → all (a ∷ []) ≡ true
from_one a h = from_two a true h refl

-- ---- the numbers of a write
module _ (size : Size) where
  cell_fits : (s : Spot) → all (cell_tests size s) ≡ true → CellFits size s
  cell_fits s h =
      let row = two (nat_lt s.row size.rows) (all (nat_lt s.col size.cols ∷ [])) h in
      (below s.row size.rows row.0, below s.col size.cols (one (nat_lt s.col size.cols) row.1))

  cell_passes : (s : Spot) → CellFits size s → all (cell_tests size s) ≡ true
  cell_passes s f = from_two (nat_lt s.row size.rows) (all (nat_lt s.col size.cols ∷ [])) (is_below s.row size.rows f.0) (from_one (nat_lt s.col size.cols) (is_below s.col size.cols f.1))

  range_fits : (s : Span) → all (range_tests size s) ≡ true → RangeFits size s
  range_fits s h =
      let top_row = two (nat_lt s.top size.rows) (all (nat_lt s.left size.cols ∷ nat_lt s.bottom size.rows ∷ nat_lt s.right size.cols ∷ [])) h in
      let left_col = two (nat_lt s.left size.cols) (all (nat_lt s.bottom size.rows ∷ nat_lt s.right size.cols ∷ [])) top_row.1 in
      let bottom_row = two (nat_lt s.bottom size.rows) (all (nat_lt s.right size.cols ∷ [])) left_col.1 in
      ((below s.top size.rows top_row.0, below s.left size.cols left_col.0), (below s.bottom size.rows bottom_row.0, below s.right size.cols (one (nat_lt s.right size.cols) bottom_row.1)))

  range_passes : (s : Span) → RangeFits size s → all (range_tests size s) ≡ true
  range_passes s f =
      from_two (nat_lt s.top size.rows) (all (nat_lt s.left size.cols ∷ nat_lt s.bottom size.rows ∷ nat_lt s.right size.cols ∷ [])) (is_below s.top size.rows f.0.0)
      (from_two (nat_lt s.left size.cols) (all (nat_lt s.bottom size.rows ∷ nat_lt s.right size.cols ∷ [])) (is_below s.left size.cols f.0.1)
      (from_two (nat_lt s.bottom size.rows) (all (nat_lt s.right size.cols ∷ [])) (is_below s.bottom size.rows f.1.0) (from_one (nat_lt s.right size.cols) (is_below s.right size.cols f.1.1))))

  mutual
    tree_fits : (t : Tree Spot Span) → all (tree_tests size t) ≡ true → EachReference (CellFits size) (RangeFits size) t
    tree_fits (num n) h = tt
    tree_fits (text t) h = tt
    tree_fits (fault e) h = tt
    tree_fits (cell c) h = cell_fits c h
    tree_fits (range r) h = range_fits r h
    tree_fits (pre op t) h = tree_fits t h
    tree_fits (bin op s t) h = let parts = both (tree_tests size s) (tree_tests size t) h in (tree_fits s parts.0, tree_fits t parts.1)
    tree_fits (call f ts) h = trees_fit ts h

    trees_fit : (ts : Trees Spot Span) → all (trees_tests size ts) ≡ true → EachReferences (CellFits size) (RangeFits size) ts
    trees_fit none h = tt
    trees_fit (more t ts) h = let parts = both (tree_tests size t) (trees_tests size ts) h in (tree_fits t parts.0, trees_fit ts parts.1)

  mutual
    tree_passes : (t : Tree Spot Span) → EachReference (CellFits size) (RangeFits size) t → all (tree_tests size t) ≡ true
    tree_passes (num n) f = refl
    tree_passes (text t) f = refl
    tree_passes (fault e) f = refl
    tree_passes (cell c) f = cell_passes c f
    tree_passes (range r) f = range_passes r f
    tree_passes (pre op t) f = tree_passes t f
    tree_passes (bin op s t) f = from_both (tree_tests size s) (tree_tests size t) (tree_passes s f.0) (tree_passes t f.1)
    tree_passes (call g ts) f = trees_pass ts f

    trees_pass : (ts : Trees Spot Span) → EachReferences (CellFits size) (RangeFits size) ts → all (trees_tests size ts) ≡ true
    trees_pass none f = refl
    trees_pass (more t ts) f = from_both (tree_tests size t) (trees_tests size ts) (tree_passes t f.0) (trees_pass ts f.1)

  content_fits : (c : Content) → all (content_tests size c) ≡ true → ContentFits size c
  content_fits content.Empty h = tt
  content_fits (content.Num z) h = tt
  content_fits (content.Text t) h = tt
  content_fits (content.Formula t) h = tree_fits t h

  content_passes : (c : Content) → ContentFits size c → all (content_tests size c) ≡ true
  content_passes content.Empty f = refl
  content_passes (content.Num z) f = refl
  content_passes (content.Text t) f = refl
  content_passes (content.Formula t) f = tree_passes t f

same_swap : (p q : Put) → same_cell p q ≡ same_cell q p
same_swap p q = λ i. eq_swap p.row q.row i && eq_swap p.col q.col i
  where
    eq_swap : (m n : ℕ) → nat_eq m n ≡ nat_eq n m
    eq_swap m n = grind (arith, nat_tests)

-- no later cell is among the earlier ones and this one, just where none is among the earlier ones and none is this one
any_more : (earlier : List Put) (p : Put) (qs : List Put) → list_any (λ q. writes_cell (earlier ++ p ∷ []) q) qs ≡ list_any (λ q. writes_cell earlier q) qs || writes_cell qs p
any_more earlier p [] = refl
any_more earlier p (q ∷ qs) =
    (λ i. list_any-append (λ r. same_cell r q) earlier (p ∷ []) i || any_more earlier p qs i)
    ∙ (regroup (writes_cell earlier q) (same_cell p q) (list_any (λ q. writes_cell earlier q) qs) (writes_cell qs p)
    ∙ ap (λ (t : Bool). (writes_cell earlier q || list_any (λ q. writes_cell earlier q) qs) || (t || writes_cell qs p)) (same_swap p q))
  where
    regroup : (a s b c : Bool) → (a || (s || false)) || (b || c) ≡ (a || b) || (s || c)
    regroup true s b c = refl
    regroup false true true c = refl
    regroup false true false c = refl
    regroup false false b c = regroup_more b c
      where
        regroup_more : (b c : Bool) → b || c ≡ b || (false || c)
        regroup_more true c = refl
        regroup_more false c = refl

neither : (a b : Bool) → a || b ≡ false → (a ≡ false) × (b ≡ false)
neither true b h = absurd (cc)
neither false b h = (refl, h)

from_neither : (a b : Bool) → a ≡ false → b ≡ false → a || b ≡ false
from_neither a b h k = rw h k

was_false : (a : Bool) → not a ≡ true → a ≡ false
was_false true h = absurd (cc)
was_false false h = refl

is_false : (a : Bool) → a ≡ false → not a ≡ true
is_false a h = rw h refl

length_push : {A : Type 0} (xs : List A) (x : A) → length (xs ++ x ∷ []) ≡ suc (length xs)
length_push [] x = refl
length_push (y ∷ ys) x = ap suc (length_push ys x)

module _ (size : Size) where
  puts_fit : (earlier ps : List Put) → length earlier ≤ 128 → all (beside_earlier (put_tests size) earlier ps) ≡ true →
      (length earlier + length ps ≤ 128) × PutsFit size ps × (list_any (λ q. writes_cell earlier q) ps ≡ false)
  puts_fit earlier [] low h = (omega arith, tt, refl)
  puts_fit earlier (p ∷ ps) low h =
      let parts = both (put_tests size earlier p) (beside_earlier (put_tests size) (earlier ++ p ∷ []) ps) h in
      let row = two (nat_lt (length earlier) 128 && nat_lt p.row size.rows) (all ((nat_lt p.col size.cols && not (writes_cell earlier p)) ∷ content_tests size p.content)) parts.0 in
      let col = two (nat_lt p.col size.cols && not (writes_cell earlier p)) (all (content_tests size p.content)) row.1 in
      let in_row = two (nat_lt (length earlier) 128) (nat_lt p.row size.rows) row.0 in
      let in_col = two (nat_lt p.col size.cols) (not (writes_cell earlier p)) col.0 in
      let few : length earlier < 128 = below (length earlier) 128 in_row.0 in
      let more = length_push earlier p in
      let rest = puts_fit (earlier ++ p ∷ []) ps (omega (arith, few, more)) parts.1 in
      let apart = neither (list_any (λ q. writes_cell earlier q) ps) (writes_cell ps p) (sym (any_more earlier p ps) ∙ rest.2) in
      let count : length earlier + suc (length ps) ≤ 128 = let r = rest.0 in omega (arith, r, more) in
      (count, (below p.row size.rows in_row.1, below p.col size.cols in_col.0, content_fits size p.content col.1, apart.1, rest.1), from_neither (writes_cell earlier p) (list_any (λ q. writes_cell earlier q) ps) (was_false (writes_cell earlier p) in_col.1) apart.0)

  puts_pass : (earlier ps : List Put) → length earlier + length ps ≤ 128 → PutsFit size ps → list_any (λ q. writes_cell earlier q) ps ≡ false → all (beside_earlier (put_tests size) earlier ps) ≡ true
  puts_pass earlier [] few f apart = refl
  puts_pass earlier (p ∷ ps) few f apart =
      let split = neither (writes_cell earlier p) (list_any (λ q. writes_cell earlier q) ps) apart in
      let more = length_push earlier p in
      let row : nat_lt (length earlier) 128 && nat_lt p.row size.rows ≡ true = from_two (nat_lt (length earlier) 128) (nat_lt p.row size.rows) (is_below (length earlier) 128 (omega arith)) (is_below p.row size.rows f.0) in
      let col : nat_lt p.col size.cols && not (writes_cell earlier p) ≡ true = from_two (nat_lt p.col size.cols) (not (writes_cell earlier p)) (is_below p.col size.cols f.1) (is_false (writes_cell earlier p) split.0) in
      from_both (put_tests size earlier p) (beside_earlier (put_tests size) (earlier ++ p ∷ []) ps)
      (from_two (nat_lt (length earlier) 128 && nat_lt p.row size.rows) (all ((nat_lt p.col size.cols && not (writes_cell earlier p)) ∷ content_tests size p.content)) row
      (from_two (nat_lt p.col size.cols && not (writes_cell earlier p)) (all (content_tests size p.content)) col (content_passes size p.content f.2)))
      (puts_pass (earlier ++ p ∷ []) ps (omega (arith, few, more)) f.4 (any_more earlier p ps ∙ from_neither (list_any (λ q. writes_cell earlier q) ps) (writes_cell ps p) split.1 f.3))

  none_earlier : (ps : List Put) → list_any (λ q. writes_cell [] q) ps ≡ false
  none_earlier [] = refl
  none_earlier (p ∷ ps) = none_earlier ps

-- ---- elements beside earlier ones, by their index
module _ {A : Type 0} (tests : List A → A → List Bool) where
  beside_at : (earlier xs : List A) → all (beside_earlier tests earlier xs) ≡ true → (k : ℕ) (d : A) → k < length xs → all (tests (earlier ++ take k xs) (get_or xs k d)) ≡ true
  beside_at earlier [] h k d within = absurd (omega arith)
  beside_at earlier (x ∷ xs) h zero d within = ap (λ (es : List A). all (tests es x)) (append-nil earlier) ∙ (both (tests earlier x) (beside_earlier tests (earlier ++ x ∷ []) xs) h).0
  beside_at earlier (x ∷ xs) h (suc k) d within =
      ap (λ (es : List A). all (tests es (get_or xs k d))) (sym (append_assoc earlier (x ∷ []) (take k xs)))
      ∙ beside_at (earlier ++ x ∷ []) xs (both (tests earlier x) (beside_earlier tests (earlier ++ x ∷ []) xs) h).1 k d (omega arith)

  beside_all : (earlier xs : List A) → ((k : ℕ) (d : A) → k < length xs → all (tests (earlier ++ take k xs) (get_or xs k d)) ≡ true) → all (beside_earlier tests earlier xs) ≡ true
  beside_all earlier [] each = refl
  beside_all earlier (x ∷ xs) each =
      from_both (tests earlier x) (beside_earlier tests (earlier ++ x ∷ []) xs)
      (ap (λ (es : List A). all (tests es x)) (sym (append-nil earlier)) ∙ each 0 x (omega arith))
      (beside_all (earlier ++ x ∷ []) xs (λ k d within. ap (λ (es : List A). all (tests es (get_or xs k d))) (append_assoc earlier (x ∷ []) (take k xs)) ∙ each (suc k) d (omega arith)))

  beside-append : (earlier xs ys : List A) → beside_earlier tests earlier (xs ++ ys) ≡ beside_earlier tests earlier xs ++ beside_earlier tests (earlier ++ xs) ys
  beside-append earlier [] ys = ap (λ (es : List A). beside_earlier tests es ys) (sym (append-nil earlier))
  beside-append earlier (x ∷ xs) ys =
      ap (λ (ts : List Bool). tests earlier x ++ ts) (beside-append (earlier ++ x ∷ []) xs ys ∙ ap (λ (es : List A). beside_earlier tests (earlier ++ x ∷ []) xs ++ beside_earlier tests es ys) (append_assoc earlier (x ∷ []) xs))
      ∙ sym (append_assoc (tests earlier x) (beside_earlier tests (earlier ++ x ∷ []) xs) (beside_earlier tests (earlier ++ x ∷ xs) ys))

  -- one turn of a loop: all numbers so far meet their rules, and then those of one more element do, or one doesn't
  pub beside_more : (start at n : ℕ) (xs : List A) (k : ℕ) (x : A) → k < length xs → x ≡ get_or xs k x → Ok at ≡ walked start (beside_earlier tests [] (take k xs)) → Ok n ≡ walked at (tests (take k xs) x) →
      Ok n ≡ walked start (beside_earlier tests [] (take (k + 1) xs))
  beside_more start at n xs k x within is before here =
      sym (ap (λ (ys : List A). walked start (beside_earlier tests [] ys)) (take_more xs k x within ∙ ap (λ (y : A). take k xs ++ y ∷ []) (sym is))
      ∙ (ap (λ (ts : List Bool). walked start ts) (beside-append [] (take k xs) (x ∷ []))
      ∙ (walked_on start at (beside_earlier tests [] (take k xs)) (tests (take k xs) x ++ []) (sym before)
      ∙ (ap (λ (ts : List Bool). walked at ts) (append-nil (tests (take k xs) x)) ∙ sym here))))

  pub beside_out : (start at n : ℕ) (xs : List A) (k : ℕ) (x : A) → k < length xs → x ≡ get_or xs k x → Ok at ≡ walked start (beside_earlier tests [] (take k xs)) → Err n ≡ walked at (tests (take k xs) x) →
      Err n ≡ walked start (beside_earlier tests [] xs)
  beside_out start at n xs k x within is before here =
      sym (ap (λ (ys : List A). walked start (beside_earlier tests [] ys)) (sym (take-append-drop k xs) ∙ ap (λ (ys : List A). take k xs ++ ys) (drop-cons xs k x within ∙ ap (λ (y : A). y ∷ drop (suc k) xs) (sym is)))
      ∙ (ap (λ (ts : List Bool). walked start ts) (beside-append [] (take k xs) (x ∷ drop (suc k) xs))
      ∙ (walked_on start at (beside_earlier tests [] (take k xs)) (tests (take k xs) x ++ beside_earlier tests (take k xs ++ x ∷ []) (drop (suc k) xs)) (sym before)
      ∙ walked_out at n (tests (take k xs) x) (beside_earlier tests (take k xs ++ x ∷ []) (drop (suc k) xs)) (sym here))))

  -- the same of a number that is read with any default
  pub beside_more_at : (start at n : ℕ) (xs : List A) (k : ℕ) (d : A) → k < length xs → Ok at ≡ walked start (beside_earlier tests [] (take k xs)) → Ok n ≡ walked at (tests (take k xs) (get_or xs k d)) →
      Ok n ≡ walked start (beside_earlier tests [] (take (k + 1) xs))
  beside_more_at start at n xs k d within before here = beside_more start at n xs k (get_or xs k d) within (same_at xs k d (get_or xs k d) within) before here

  pub beside_out_at : (start at n : ℕ) (xs : List A) (k : ℕ) (d : A) → k < length xs → Ok at ≡ walked start (beside_earlier tests [] (take k xs)) → Err n ≡ walked at (tests (take k xs) (get_or xs k d)) →
      Err n ≡ walked start (beside_earlier tests [] xs)
  beside_out_at start at n xs k d within before here = beside_out start at n xs k (get_or xs k d) within (same_at xs k d (get_or xs k d) within) before here

-- ---- the numbers of a sort
three : (a b c : Bool) → a && b && c ≡ true → (a ≡ true) × (b ≡ true) × (c ≡ true)
three true true c h = (refl, refl, h)
three true false c h = absurd (cc)
three false b c h = absurd (cc)

from_three : (a b c : Bool) → a ≡ true → b ≡ true → c ≡ true → a && b && c ≡ true
from_three a b c h k l = rw (h, k) l

module _ (size : Size) (slots recs : List ℕ) where
  abbrev slot_pass : ℕ → ℕ → Type 0
  slot_pass k s = (nat_lt (length (take k slots)) 1024 ≡ true) × (nat_lt s size.rows ≡ true) × (list_all (λ t. nat_lt t s) (take k slots) ≡ true)

  abbrev rec_pass : ℕ → ℕ → Type 0
  rec_pass k r = (nat_lt (length (take k recs)) (length slots) ≡ true) × (nat_lt r size.rows ≡ true) × (not (has_number (take k recs) r) ≡ true)

  sort_fits : all (intent_tests size (intent.Sort slots recs)) ≡ true → SortFits size.rows slots recs
  sort_fits h =
      let whole = both (beside_earlier (slot_tests size) [] slots ++ beside_earlier (rec_tests size (length slots)) [] recs) (missing_tests size slots recs) h in
      let parts = both (beside_earlier (slot_tests size) [] slots) (beside_earlier (rec_tests size (length slots)) [] recs) whole.0 in
      record {
        few = few (λ k d within. slot_at k d within parts.0);
        slots_below = λ k d within. below (get_or slots k d) size.rows (slot_at k d within parts.0).1;
        ascending = λ i j d lt within.
            let e = AllPass-from_list_all (λ t. nat_lt t (get_or slots j d)) (take j slots) (slot_at j d within parts.0).2 i d (let l = length-take-le j slots (omega arith) in omega (arith, l)) in
            below (get_or slots i d) (get_or slots j d) (ap (λ (s : ℕ). nat_lt s (get_or slots j d)) (sym (get_or-take j slots i d lt)) ∙ e);
        as_many = as_many (λ k d within. rec_at k d within parts.1) whole.1;
        recs_below = λ k d within. below (get_or recs k d) size.rows (rec_at k d within parts.1).1;
        apart = λ i j d lt within same.
            none_has (take j recs) (get_or recs j d) (was_false (has_number (take j recs) (get_or recs j d)) (rec_at j d within parts.1).2) i d (let l = length-take-le j recs (omega arith) in omega (arith, l)) (get_or-take j recs i d lt ∙ same);
      }
    where
      slot_at : (k d : ℕ) → k < length slots → all (beside_earlier (slot_tests size) [] slots) ≡ true → slot_pass k (get_or slots k d)
      slot_at k d within h =
          three (nat_lt (length (take k slots)) 1024) (nat_lt (get_or slots k d) size.rows) (list_all (λ t. nat_lt t (get_or slots k d)) (take k slots))
          (one (nat_lt (length (take k slots)) 1024 && nat_lt (get_or slots k d) size.rows && list_all (λ t. nat_lt t (get_or slots k d)) (take k slots)) (beside_at (slot_tests size) [] slots h k d within))

      rec_at : (k d : ℕ) → k < length recs → all (beside_earlier (rec_tests size (length slots)) [] recs) ≡ true → rec_pass k (get_or recs k d)
      rec_at k d within h =
          three (nat_lt (length (take k recs)) (length slots)) (nat_lt (get_or recs k d) size.rows) (not (has_number (take k recs) (get_or recs k d)))
          (one (nat_lt (length (take k recs)) (length slots) && nat_lt (get_or recs k d) size.rows && not (has_number (take k recs) (get_or recs k d))) (beside_at (rec_tests size (length slots)) [] recs h k d within))

      few : ((k d : ℕ) → k < length slots → slot_pass k (get_or slots k d)) → length slots ≤ 1024
      few each = by_side (nat_lt 1024 (length slots)) refl
        where
          by_side : (t : Bool) → nat_lt 1024 (length slots) ≡ t → length slots ≤ 1024
          by_side false e = not_below 1024 (length slots) e
          by_side true e =
              let more : 1024 < length slots = below 1024 (length slots) e in
              let l : length (take 1024 slots) ≡ 1024 = length-take-le 1024 slots (omega arith) in
              absurd (let b : length (take 1024 slots) < 1024 = below (length (take 1024 slots)) 1024 (each 1024 0 more).0 in omega (arith, b, l))

      as_many : ((k d : ℕ) → k < length recs → rec_pass k (get_or recs k d)) → all (missing_tests size slots recs) ≡ true → length recs ≡ length slots
      as_many each h = by_side (nat_lt (length recs) (length slots)) (nat_lt (length slots) (length recs)) refl refl h
        where
          by_side : (t u : Bool) → nat_lt (length recs) (length slots) ≡ t → nat_lt (length slots) (length recs) ≡ u → all (cond t (false ∷ []) []) ≡ true → length recs ≡ length slots
          by_side true u e f h = absurd (let clash : false ≡ true = h in cc)
          by_side false false e f h = let lo = not_below (length recs) (length slots) e in let hi = not_below (length slots) (length recs) f in omega (arith, lo, hi)
          by_side false true e f h =
              let more : length slots < length recs = below (length slots) (length recs) f in
              let l : length (take (length slots) recs) ≡ length slots = length-take-le (length slots) recs (omega arith) in
              absurd (let b : length (take (length slots) recs) < length slots = below (length (take (length slots) recs)) (length slots) (each (length slots) 0 more).0 in omega (arith, b, l))

  sort_passes : SortFits size.rows slots recs → all (intent_tests size (intent.Sort slots recs)) ≡ true
  sort_passes f =
      from_both (beside_earlier (slot_tests size) [] slots ++ beside_earlier (rec_tests size (length slots)) [] recs) (missing_tests size slots recs)
      (from_both (beside_earlier (slot_tests size) [] slots) (beside_earlier (rec_tests size (length slots)) [] recs) (beside_all (slot_tests size) [] slots each_slot) (beside_all (rec_tests size (length slots)) [] recs each_rec))
      (let many = f.as_many in ap (λ (t : Bool). all (cond t (false ∷ []) [])) (is_not_below (length recs) (length slots) (omega (arith, many))))
    where
      each_slot : (k d : ℕ) → k < length slots → all (slot_tests size (take k slots) (get_or slots k d)) ≡ true
      each_slot k d within =
          let l : length (take k slots) ≡ k = length-take-le k slots (omega arith) in
          let few : length slots ≤ 1024 = f.few in
          from_one (nat_lt (length (take k slots)) 1024 && nat_lt (get_or slots k d) size.rows && list_all (λ t. nat_lt t (get_or slots k d)) (take k slots))
          (from_three (nat_lt (length (take k slots)) 1024) (nat_lt (get_or slots k d) size.rows) (list_all (λ t. nat_lt t (get_or slots k d)) (take k slots))
          (is_below (length (take k slots)) 1024 (omega (arith, l, few))) (is_below (get_or slots k d) size.rows (f.slots_below k d within))
          (list_all-from_AllPass (λ t. nat_lt t (get_or slots k d)) (take k slots) (λ i e inside.
          let i' : i < k = omega (arith, l, inside) in
          ap (λ (s : ℕ). nat_lt s (get_or slots k d)) (get_or-take k slots i e i') ∙ is_below (get_or slots i e) (get_or slots k d) (up i e i'))))
        where
          up : (i e : ℕ) → i < k → get_or slots i e < get_or slots k d
          up i e i' = let a = f.ascending i k e i' within in let b = same_at slots k e d within in omega (arith, a, b)

      each_rec : (k d : ℕ) → k < length recs → all (rec_tests size (length slots) (take k recs) (get_or recs k d)) ≡ true
      each_rec k d within =
          let l : length (take k recs) ≡ k = length-take-le k recs (omega arith) in
          let many : length recs ≡ length slots = f.as_many in
          from_one (nat_lt (length (take k recs)) (length slots) && nat_lt (get_or recs k d) size.rows && not (has_number (take k recs) (get_or recs k d)))
          (from_three (nat_lt (length (take k recs)) (length slots)) (nat_lt (get_or recs k d) size.rows) (not (has_number (take k recs) (get_or recs k d)))
          (is_below (length (take k recs)) (length slots) (omega (arith, l, many))) (is_below (get_or recs k d) size.rows (f.recs_below k d within))
          (is_false (has_number (take k recs) (get_or recs k d)) (has_none (take k recs) (get_or recs k d) (λ i e inside same.
          let i' : i < k = omega (arith, l, inside) in
          f.apart i k e i' within (sym (get_or-take k recs i e i') ∙ (same ∙ same_at recs k d e within))))))

-- ---- moves
module _ (size : Size) where
  moves_below : (earlier moves : List (ℕ × ℕ)) → all (beside_earlier (move_tests size) earlier moves) ≡ true → MovesBelow size.rows moves
  moves_below earlier [] h = All-nil (λ m. m.0 < size.rows)
  moves_below earlier (m ∷ moves) h =
      let parts = both (move_tests size earlier m) (beside_earlier (move_tests size) (earlier ++ m ∷ []) moves) h in
      let first = two (nat_lt m.0 size.rows) (all (nat_lt m.1 size.rows ∷ [])) parts.0 in
      All-cons (λ m. m.0 < size.rows) m moves (below m.0 size.rows first.0) (moves_below (earlier ++ m ∷ []) moves parts.1)

  moves_pass : (earlier moves : List (ℕ × ℕ)) → All (λ m. m.0 < size.rows) moves → All (λ m. m.1 < size.rows) moves → all (beside_earlier (move_tests size) earlier moves) ≡ true
  moves_pass earlier [] f g = refl
  moves_pass earlier (m ∷ moves) f g =
      from_both (move_tests size earlier m) (beside_earlier (move_tests size) (earlier ++ m ∷ []) moves)
      (from_two (nat_lt m.0 size.rows) (all (nat_lt m.1 size.rows ∷ [])) (is_below m.0 size.rows (All-head (λ m. m.0 < size.rows) m moves f)) (from_one (nat_lt m.1 size.rows) (is_below m.1 size.rows (All-head (λ m. m.1 < size.rows) m moves g))))
      (moves_pass (earlier ++ m ∷ []) moves (All-tail (λ m. m.0 < size.rows) m moves f) (All-tail (λ m. m.1 < size.rows) m moves g))

  -- ---- an operation fits where none of its numbers breaks its rule
  pub intent_passes : (c : Intent) → (all (intent_tests size c) ≡ true) ↔ IntentFits size c
  intent_passes (intent.Write []) = ((λ h. absurd (let clash : false ≡ true = h in cc)), (λ f. absurd (let none = f.0 in omega (arith, none))))
  intent_passes (intent.Write (p ∷ ps)) = (
    (λ h. let f = puts_fit size [] (p ∷ ps) (omega arith) h in (omega arith, let few = f.0 in omega (arith, few), f.1)),
    (λ f. puts_pass size [] (p ∷ ps) (let few = f.1 in omega (arith, few)) f.2 (none_earlier size (p ∷ ps))),
  )
  intent_passes (intent.InsRow p) = ((λ h. at_most p size.rows (one (nat_le p size.rows) h)), (λ f. from_one (nat_le p size.rows) (is_at_most p size.rows f)))
  intent_passes (intent.InsCol p) = ((λ h. at_most p size.cols (one (nat_le p size.cols) h)), (λ f. from_one (nat_le p size.cols) (is_at_most p size.cols f)))
  intent_passes (intent.DelRow p) = ((λ h. below p size.rows (one (nat_lt p size.rows) h)), (λ f. from_one (nat_lt p size.rows) (is_below p size.rows f)))
  intent_passes (intent.DelCol p) = ((λ h. below p size.cols (one (nat_lt p size.cols) h)), (λ f. from_one (nat_lt p size.cols) (is_below p size.cols f)))
  intent_passes (intent.Sort slots recs) = ((λ h. sort_fits size slots recs h), (λ f. sort_passes size slots recs f))

  pub effect_passes : (e : Effect) → MovesArePerm e → (all (effect_tests size e) ≡ true) ↔ EffectFits size e
  effect_passes (effect.Write ps) perm = (
    (λ h. let f = puts_fit size [] ps (omega arith) h in (let few = f.0 in omega (arith, few), f.1)),
    (λ f. puts_pass size [] ps (let few = f.0 in omega (arith, few)) f.1 (none_earlier size ps)),
  )
  effect_passes (effect.InsRow p) perm = ((λ h. at_most p size.rows (one (nat_le p size.rows) h)), (λ f. from_one (nat_le p size.rows) (is_at_most p size.rows f)))
  effect_passes (effect.InsCol p) perm = ((λ h. at_most p size.cols (one (nat_le p size.cols) h)), (λ f. from_one (nat_le p size.cols) (is_at_most p size.cols f)))
  effect_passes (effect.DelRow p) perm = ((λ h. below p size.rows (one (nat_lt p size.rows) h)), (λ f. from_one (nat_lt p size.rows) (is_below p size.rows f)))
  effect_passes (effect.DelCol p) perm = ((λ h. below p size.cols (one (nat_lt p size.cols) h)), (λ f. from_one (nat_lt p size.cols) (is_below p size.cols f)))
  effect_passes (effect.Move moves) perm = ((λ h. (perm, moves_below [] moves h)), (λ f. moves_pass [] moves f.1 (λ k d within. (images_below moves perm size.rows f.1 k d within).1)))

-- what both calls answer
pub intent_misfit : (size : Size) (c : Intent) → IsNone (misfit (intent_tests size c)) ↔ IntentFits size c
intent_misfit size c = ((λ h. (intent_passes size c).0 ((none_broken (intent_tests size c)).0 h)), (λ f. (none_broken (intent_tests size c)).1 ((intent_passes size c).1 f)))

pub effect_misfit : (size : Size) (e : Effect) → MovesArePerm e → IsNone (misfit (effect_tests size e)) ↔ EffectFits size e
effect_misfit size e perm = ((λ h. (effect_passes size e perm).0 ((none_broken (effect_tests size e)).0 h)), (λ f. (none_broken (effect_tests size e)).1 ((effect_passes size e perm).1 f)))

-- ---- the arguments of a call
tests-call : (size : Size) (ds es : List Expr) → trees_tests size (trees_from (map tree_of (ds ++ es))) ≡ trees_tests size (trees_from (map tree_of ds)) ++ trees_tests size (trees_from (map tree_of es))
tests-call size [] es = refl
tests-call size (d ∷ ds) es = ap (λ (ts : List Bool). tree_tests size (tree_of d) ++ ts) (tests-call size ds es) ∙ sym (append_assoc (tree_tests size (tree_of d)) (trees_tests size (trees_from (map tree_of ds))) (trees_tests size (trees_from (map tree_of es))))

pub args_more : (size : Size) (start at n : ℕ) (es : List Expr) (k : ℕ) (e : Expr) → k < length es → e ≡ get_or es k e → Ok at ≡ walked start (trees_tests size (trees_from (map tree_of (take k es)))) →
    Ok n ≡ walked at (tree_tests size (tree_of e)) → Ok n ≡ walked start (trees_tests size (trees_from (map tree_of (take (k + 1) es))))
args_more size start at n es k e within is before here =
    sym (ap (λ (ds : List Expr). walked start (trees_tests size (trees_from (map tree_of ds)))) (take_more es k e within ∙ ap (λ (d : Expr). take k es ++ d ∷ []) (sym is))
    ∙ (ap (λ (ts : List Bool). walked start ts) (tests-call size (take k es) (e ∷ []))
    ∙ (walked_on start at (trees_tests size (trees_from (map tree_of (take k es)))) (tree_tests size (tree_of e) ++ []) (sym before)
    ∙ (ap (λ (ts : List Bool). walked at ts) (append-nil (tree_tests size (tree_of e))) ∙ sym here))))

pub args_out : (size : Size) (start at n : ℕ) (es : List Expr) (k : ℕ) (e : Expr) → k < length es → e ≡ get_or es k e → Ok at ≡ walked start (trees_tests size (trees_from (map tree_of (take k es)))) →
    Err n ≡ walked at (tree_tests size (tree_of e)) → Err n ≡ walked start (trees_tests size (trees_from (map tree_of es)))
args_out size start at n es k e within is before here =
    sym (ap (λ (ds : List Expr). walked start (trees_tests size (trees_from (map tree_of ds)))) (sym (take-append-drop k es) ∙ ap (λ (ds : List Expr). take k es ++ ds) (drop-cons es k e within ∙ ap (λ (d : Expr). d ∷ drop (suc k) es) (sym is)))
    ∙ (ap (λ (ts : List Bool). walked start ts) (tests-call size (take k es) (e ∷ drop (suc k) es))
    ∙ (walked_on start at (trees_tests size (trees_from (map tree_of (take k es)))) (tree_tests size (tree_of e) ++ trees_tests size (trees_from (map tree_of (drop (suc k) es)))) (sym before)
    ∙ walked_out at n (tree_tests size (tree_of e)) (trees_tests size (trees_from (map tree_of (drop (suc k) es)))) (sym here))))

-- ---- one more slot, and one more record
module _ (size : Size) (xs : List ℕ) (k x low : ℕ) (within : k < length xs) (before : (s : ℕ) → list_all (λ t. nat_lt t s) (take k xs) ≡ nat_le low s) where
  -- what the code tests of a slot
  pub slot_test : slot_tests size (take k xs) x ≡ (nat_lt k 1024 && nat_lt x size.rows && nat_le low x) ∷ []
  slot_test = λ i. (nat_lt (length-take-le k xs (omega arith) i) 1024 && nat_lt x size.rows && before x i) ∷ []

  -- all slots so far are below what comes next
  pub slots_so_far : x ≡ get_or xs k x → low ≤ x → (s : ℕ) → list_all (λ t. nat_lt t s) (take (k + 1) xs) ≡ nat_le (x + 1) s
  slots_so_far is le s =
      ap (list_all (λ t. nat_lt t s)) (take_more xs k x within ∙ ap (λ (y : ℕ). take k xs ++ y ∷ []) (sym is))
      ∙ (list_all-append (λ t. nat_lt t s) (take k xs) (x ∷ []) ∙ (ap (λ (b : Bool). b && (nat_lt x s && true)) (before s) ∙ last low x s le))
    where
      last : (low x s : ℕ) → low ≤ x → nat_le low s && (nat_lt x s && true) ≡ nat_le (x + 1) s
      last low x s le = grind (arith, nat_tests)

module _ (size : Size) (slots : ℕ) (xs : List ℕ) (k x : ℕ) (seen : List Bool) (within : k < length xs) (before : (p : ℕ) → get_or seen p false ≡ has_number (take k xs) p) where
  pub rec_test : rec_tests size slots (take k xs) x ≡ (nat_lt k slots && nat_lt x size.rows && not (get_or seen x false)) ∷ []
  rec_test = λ i. (nat_lt (length-take-le k xs (omega arith) i) slots && nat_lt x size.rows && not (sym (before x) i)) ∷ []

  pub recs_so_far : x ≡ get_or xs k x → x < length seen → (p : ℕ) → get_or (set seen x true) p false ≡ has_number (take (k + 1) xs) p
  recs_so_far is inside p =
      by_test (true_or_false (nat_eq x p))
      ∙ sym (ap (λ (ys : List ℕ). has_number ys p) (take_more xs k x within ∙ ap (λ (y : ℕ). take k xs ++ y ∷ []) (sym is)) ∙ list_any-append (λ m. nat_eq m p) (take k xs) (x ∷ []))
    where
      or_true : (a : Bool) → a || (true || false) ≡ true
      or_true true = refl
      or_true false = refl

      or_false : (a : Bool) → a || (false || false) ≡ a
      or_false true = refl
      or_false false = refl

      by_test : ((nat_eq x p ≡ true) ⊎ (nat_eq x p ≡ false)) → get_or (set seen x true) p false ≡ has_number (take k xs) p || (nat_eq x p || false)
      by_test (inl e) =
          ap (λ (q : ℕ). get_or (set seen x true) q false) (sym (same_number x p e)) ∙ (get_or-set_same seen x true false inside
          ∙ sym (ap (λ (b : Bool). has_number (take k xs) p || (b || false)) e ∙ or_true (has_number (take k xs) p)))
      by_test (inr e) =
          get_or-set_other seen x p true false (λ q. other_number x p e (sym q)) ∙ (before p
          ∙ sym (ap (λ (b : Bool). has_number (take k xs) p || (b || false)) e ∙ or_false (has_number (take k xs) p)))

-- a walk over a sort, all but what is missing
pub sort_walked : (size : Size) (slots recs : List ℕ) (at n : ℕ) → Ok at ≡ walked 0 (beside_earlier (slot_tests size) [] slots) → Ok n ≡ walked at (beside_earlier (rec_tests size (length slots)) [] recs) →
    walked 0 (intent_tests size (intent.Sort slots recs)) ≡ walked n (missing_tests size slots recs)
sort_walked size slots recs at n first second =
    walked_on 0 n (beside_earlier (slot_tests size) [] slots ++ beside_earlier (rec_tests size (length slots)) [] recs) (missing_tests size slots recs)
    (walked_on 0 at (beside_earlier (slot_tests size) [] slots) (beside_earlier (rec_tests size (length slots)) [] recs) (sym first) ∙ sym second)

pub none_marked : (n p : ℕ) → get_or (replicate n false) p false ≡ false
none_marked zero p = refl
none_marked (suc n) zero = refl
none_marked (suc n) (suc p) = none_marked n p

-- a moved position is at least its index
pub move_at : (moves : List (ℕ × ℕ)) (k : ℕ) (m : ℕ × ℕ) → Some m ≡ slice_get moves k → (k < length moves) × (m ≡ get_or moves k m)
move_at [] k m e = absurd (cc)
move_at (n ∷ moves) zero m e = (omega arith, cc)
move_at (n ∷ moves) (suc k) m e = let (within, is) = move_at moves k m e in (omega arith, is)

pub move_rank : (moves : List (ℕ × ℕ)) → AllPairs (λ m n. m.0 < n.0) moves → (k : ℕ) (d : ℕ × ℕ) → k < length moves → k ≤ (get_or moves k d).0
move_rank moves up zero d within = omega arith
move_rank moves up (suc k) d within =
    let lt = up k (suc k) d (omega arith) within in
    let before = move_rank moves up k d (omega arith) in
    omega (arith, lt, before)

pub move_none : (moves : List (ℕ × ℕ)) (k : ℕ) → None ≡ slice_get moves k → length moves ≤ k
move_none [] k e = omega arith
move_none (m ∷ moves) zero e = absurd (cc)
move_none (m ∷ moves) (suc k) e = let rest = move_none moves k e in omega (arith, rest)
