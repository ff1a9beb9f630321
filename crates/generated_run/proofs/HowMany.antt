-- Filled cells and equal replicas counted one after another.
use Rattle.std.proofs.Common.{◌≡◌, ℕ, suc, ◌+◌, ◌*◌, ◌<◌, ◌≤◌, Bool, true, false, List, [], ◌∷◌, length, take, refl, ap, sym, subst, ◌∙◌, arith, Some, None, Ok, Err, inl, inr}
use Rattle.std.specs.Prelude.{zero, not, ◌↔◌, sum_by, slice_get, Result, IfOk}
use Rattle.std.proofs.lemmas.List.Sums.{sum_by_more, count_by-le-length, length-filter}
use Rattle.std.proofs.lemmas.Option.{slice_get_within, get_or_from_slice_get}
use mir.Val.{bool_byte}
use Rattle.ss_base.specs.declared.types.Memory.{Memory}
use Rattle.marked_lines.specs.Marks.{visible_places}
use Rattle.sheet_ops.specs.Placed.{PlacedSheet, cell_at}
use Rattle.sheet_grid.specs.Cells.{is_empty, filled_places}
use Rattle.generated_run.specs.Summary.{HowMany}

pub sum_more : (f : ℕ → ℕ) (xs : List ℕ) (k x : ℕ) → slice_get xs k ≡ Some x → sum_by f (take (k + 1) xs) ≡ sum_by f (take k xs) + f x
sum_more f xs k x e =
    let within = slice_get_within xs k x e in
    sum_by_more f xs k 0 within ∙ ap (λ (y : ℕ). sum_by f (take k xs) + f y) (get_or_from_slice_get xs k x 0 e)

pub not_past : (xs : List ℕ) (k : ℕ) → k < length xs → None ≡ slice_get xs k → ⊥
not_past [] k h e = omega arith
not_past (x ∷ xs) zero h e = cc
not_past (x ∷ xs) (suc k) h e = not_past xs k (omega arith) e

-- the cells of a row more
pub filled_more : (P : PlacedSheet) (k row cells count : ℕ) → Some row ≡ slice_get (visible_places P.rows) k → length (visible_places P.cols) ≤ 16000 → count ≡ length (filled_places P row) →
    (cells ≡ sum_by (λ r. length (filled_places P r)) (take k (visible_places P.rows))) × (cells ≤ 16000 * k) →
    (cells + count ≡ sum_by (λ r. length (filled_places P r)) (take (k + 1) (visible_places P.rows))) × (cells + count ≤ 16000 * (k + 1))
filled_more P k row cells count there few is before = (
  ((λ i. before.0 i + is i) ∙ sym (sum_more (λ r. length (filled_places P r)) (visible_places P.rows) k row (sym there))),
  (let most = count_by-le-length (λ col. not (is_empty (cell_at P row col))) (visible_places P.cols) in let here = length-filter (λ col. not (is_empty (cell_at P row col))) (visible_places P.cols) in let so_far = before.1 in omega arith),
)

module _ (P : ℕ → Type 0) where
  pub how_many_few : (p count : ℕ) → HowMany P p count → count ≤ p
  how_many_few zero count h = omega arith
  how_many_few (suc p) count (inl (here, others, is, rest)) = let few = how_many_few p others rest in omega arith
  how_many_few (suc p) count (inr (here, rest)) = let few = how_many_few p count rest in omega arith

  pub one_place : (p count : ℕ) (b : Bool) → (b ≡ true) ↔ P p → HowMany P p count → HowMany P (p + 1) (count + bool_byte b)
  one_place p count b here rest = subst (λ (n : ℕ). HowMany P n (count + bool_byte b)) (let z : suc p ≡ p + 1 = omega arith in z) (by_test b here)
    where
      by_test : (a : Bool) → (a ≡ true) ↔ P p → HowMany P (suc p) (count + bool_byte a)
      by_test true h = inl (h.0 refl, count, (let z : count + 1 ≡ suc count = omega arith in z), rest)
      by_test false h = inr ((λ x. let wrong : false ≡ true = h.1 x in cc), subst (λ (n : ℕ). HowMany P p n) (let z : count ≡ count + 0 = omega arith in z) rest)

-- the same of equal sheets
pub same_of : (A B C D : PlacedSheet) (r : Result Bool Memory) → A ≡ C → B ≡ D → IfOk r (λ s. (s ≡ true) ↔ (A ≡ B)) → IfOk r (λ s. (s ≡ true) ↔ (C ≡ D))
same_of A B C D (Ok s) p q h = ((λ t. sym p ∙ (h.0 t ∙ q)), (λ e. h.1 (p ∙ (e ∙ sym q))))
same_of A B C D (Err e) p q h = tt
