-- Moves from the numbers of one list to those of another.
use Rattle.std.proofs.Common.{◌≡◌, ℕ, zero, suc, ◌<◌, ◌≤◌, ◌≢◌, ◌⊎◌, inl, inr, List, [], ◌∷◌, length, get_or, refl, ap, sym, ◌∙◌, arith, All, AllPairs, Contains, slice_index}
use Rattle.std.specs.List.{zip}
use Rattle.std.specs.Cmp.{nat_eq_equiv, unsigned_Decides}
use Rattle.std.proofs.lemmas.List.Elements.{All-nil, All-cons, All-head, All-tail, All-contains}
use Rattle.std.proofs.lemmas.Bool.{cases_eq}
use Rattle.std.proofs.lemmas.Map.Made.{length-le_from_is_member, IsDistinct-from_AllPairs}
use Rattle.std.proofs.lemmas.Map.Views.{Contains-from_any, list_any-from_Contains}
use Rattle.marked_lines.specs.Moves.{image}
use Rattle.marked_lines.proofs.Images.{image_here, image_there}

abbrev pub IsDistinct : List ℕ → Type 0
IsDistinct xs = AllPairs (λ p q. p ≢ q) xs

IsDistinct_tail : (x : ℕ) (xs : List ℕ) → IsDistinct (x ∷ xs) → IsDistinct xs
IsDistinct_tail x xs distinct = λ i j d lt within. distinct (suc i) (suc j) d (omega arith) (omega arith)

-- a list has a number or has it nowhere
place_cases : (xs : List ℕ) (p : ℕ) → ((k : ℕ) × (k < length xs) × (slice_index xs k ≡ p)) ⊎ All (λ x. x ≢ p) xs
place_cases [] p = inr (All-nil (λ x. x ≢ p))
place_cases (x ∷ xs) p = by_head (cases_eq x p) (place_cases xs p)
  where
    by_head : (x ≡ p) ⊎ (x ≢ p) → ((k : ℕ) × (k < length xs) × (slice_index xs k ≡ p)) ⊎ All (λ y. y ≢ p) xs → ((k : ℕ) × (k < length (x ∷ xs)) × (slice_index (x ∷ xs) k ≡ p)) ⊎ All (λ y. y ≢ p) (x ∷ xs)
    by_head (inl same) rest = inl (0, omega arith, same)
    by_head (inr other) (inl found) = inl (suc found.0, omega (arith, found.1), found.2)
    by_head (inr other) (inr none) = inr (All-cons (λ y. y ≢ p) x xs other none)

Contains_place : (xs : List ℕ) (k p : ℕ) → k < length xs → slice_index xs k ≡ p → Contains xs p
Contains_place xs k p within is = (k, within, get_or_default xs k within ∙ is)
  where
    get_or_default : (ys : List ℕ) (j : ℕ) → j < length ys → get_or ys j p ≡ slice_index ys j
    get_or_default [] j inside = absurd (omega arith)
    get_or_default (y ∷ ys) zero inside = refl
    get_or_default (y ∷ ys) (suc j) inside = get_or_default ys j (omega arith)

pub image_zip-none : (xs ys : List ℕ) (p : ℕ) → All (λ x. x ≢ p) xs → image (zip xs ys) p ≡ p
image_zip-none [] ys p none = refl
image_zip-none (x ∷ xs) [] p none = refl
image_zip-none (x ∷ xs) (y ∷ ys) p none = image_there (x, y) (zip xs ys) p (All-head (λ z. z ≢ p) x xs none) ∙ image_zip-none xs ys p (All-tail (λ z. z ≢ p) x xs none)

-- the number at a place goes to the one at the same place
pub image_zip-at : (xs ys : List ℕ) → IsDistinct xs → length xs ≡ length ys → (k : ℕ) → k < length xs → image (zip xs ys) (slice_index xs k) ≡ slice_index ys k
image_zip-at [] ys distinct same k within = absurd (omega arith)
image_zip-at (x ∷ xs) [] distinct same k within = absurd (omega arith)
image_zip-at (x ∷ xs) (y ∷ ys) distinct same zero within = image_here (x, y) (zip xs ys) x refl
image_zip-at (x ∷ xs) (y ∷ ys) distinct same (suc k) within =
    image_there (x, y) (zip xs ys) (slice_index xs k) (distinct 0 (suc k) 0 (omega arith) within)
    ∙ image_zip-at xs ys (IsDistinct_tail x xs distinct) (omega arith) k (omega arith)

-- two lists without repeats that hold the same numbers are as long
length_le : (xs ys : List ℕ) → IsDistinct xs → ((p : ℕ) → Contains xs p → Contains ys p) → length xs ≤ length ys
length_le xs ys distinct within =
    length-le_from_is_member nat_eq_equiv xs ys (IsDistinct-from_AllPairs unsigned_Decides xs distinct)
    (λ q member. list_any-from_Contains nat_eq_equiv q ys (within q (Contains-from_any (λ x y same. (unsigned_Decides x y).0 same) q xs member)))

pub length_same : (xs ys : List ℕ) → IsDistinct xs → IsDistinct ys → ((p : ℕ) → Contains xs p → Contains ys p) → ((p : ℕ) → Contains ys p → Contains xs p) → length xs ≡ length ys
length_same xs ys first second to back = omega (arith, length_le xs ys first to, length_le ys xs second back)

pub none_there : (xs : List ℕ) (p : ℕ) → (Contains xs p → ⊥) → All (λ x. x ≢ p) xs
none_there xs p missing = by_place (place_cases xs p)
  where
    by_place : ((k : ℕ) × (k < length xs) × (slice_index xs k ≡ p)) ⊎ All (λ x. x ≢ p) xs → All (λ x. x ≢ p) xs
    by_place (inl found) = absurd (missing (Contains_place xs found.0 p found.1 found.2))
    by_place (inr none) = none

-- back from the second list to the first
pub zip_undoes : (xs ys : List ℕ) → IsDistinct xs → IsDistinct ys → length xs ≡ length ys → ((p : ℕ) → Contains ys p → Contains xs p) → (p : ℕ) → image (zip ys xs) (image (zip xs ys) p) ≡ p
zip_undoes xs ys first second same back p = by_place (place_cases xs p)
  where
    by_place : ((k : ℕ) × (k < length xs) × (slice_index xs k ≡ p)) ⊎ All (λ x. x ≢ p) xs → image (zip ys xs) (image (zip xs ys) p) ≡ p
    by_place (inl found) =
        let there : image (zip xs ys) p ≡ slice_index ys found.0 = ap (image (zip xs ys)) (sym found.2) ∙ image_zip-at xs ys first same found.0 found.1 in
        ap (image (zip ys xs)) there ∙ image_zip-at ys xs second (sym same) found.0 (omega (arith, found.1, same)) ∙ found.2
    by_place (inr none) =
        let gone : Contains ys p → ⊥ = λ at. All-contains (λ x. x ≢ p) xs p none (back p at) refl in
        ap (image (zip ys xs)) (image_zip-none xs ys p none) ∙ image_zip-none ys xs p (none_there ys p gone)
