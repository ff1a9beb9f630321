-- A list after each element went to the image of its position.
use Rattle.std.proofs.Common.{◌≡◌, ℕ, zero, suc, ◌+◌, ◌<◌, ◌≤◌, ◌≢◌, ◌⊎◌, inl, inr, Bool, true, false, cond, nat_eq, List, [], ◌∷◌, ◌++◌, map, take, length, get_or, set, slice_get, Some, None, refl, ap, sym, ◌∙◌, arith, All, AllPairs}
use Rattle.std.proofs.lemmas.List.{take_more, map_push, get_or_default, same_lists, get_or-set_same, get_or-set_other, get_or-take, length-take-le}
use Rattle.std.proofs.lemmas.List.Elements.{All-head, All-tail, All-map}
use Rattle.std.proofs.lemmas.Bool.{cases_eq}
use Rattle.std.proofs.lemmas.Option.{slice_get-get_or, slice_get_cases}
use Rattle.marked_lines.proofs.Shifts.{images_below}
use Rattle.marked_lines.specs.Moves.{image, turned, source, IsPerm, MovesBelow, permute, permuted_from}
use Rattle.marked_lines.proofs.Images.{image_here, image_there, image_none, image_at, image_cases, IsDistinctByFirst-from_ascending}

pub image_push-other : (moves : List (ℕ × ℕ)) (m : ℕ × ℕ) (p : ℕ) → m.0 ≢ p → image (moves ++ m ∷ []) p ≡ image moves p
image_push-other [] m p other = image_there m [] p other
image_push-other (n ∷ moves) m p other = ap (cond (nat_eq n.0 p) n.1) (image_push-other moves m p other)

pub image_push-here : (moves : List (ℕ × ℕ)) (m : ℕ × ℕ) (p : ℕ) → All (λ n. n.0 ≢ p) moves → m.0 ≡ p → image (moves ++ m ∷ []) p ≡ m.1
image_push-here [] m p none same = image_here m [] p same
image_push-here (n ∷ moves) m p none same =
    image_there n (moves ++ m ∷ []) p (All-head (λ o. o.0 ≢ p) n moves none) ∙ image_push-here moves m p (All-tail (λ o. o.0 ≢ p) n moves none) same

-- no two moves lead to one position
images_differ : (moves : List (ℕ × ℕ)) → IsPerm moves → AllPairs (λ m n. m.1 ≢ n.1) moves
images_differ moves perm i j d lt within same =
    let distinct = IsDistinctByFirst-from_ascending moves perm.ascending in
    let first = image_at moves distinct i d (omega arith) in
    let second = image_at moves distinct j d within in
    let meet : (get_or moves i d).0 ≡ (get_or moves j d).0 =
    sym (perm.back (get_or moves i d).0) ∙ ap (source moves) (first ∙ same ∙ sym second) ∙ perm.back (get_or moves j d).0 in
    distinct i j d lt within meet

-- one move more
pub source_more : (moves : List (ℕ × ℕ)) (k : ℕ) (m : ℕ × ℕ) → k < length moves → get_or moves k m ≡ m → source (take (k + 1) moves) ≡ image (map turned (take k moves) ++ turned m ∷ [])
source_more moves k m within is = ap (λ ms. image (map turned ms)) (take_more moves k m within ∙ ap (λ n. take k moves ++ n ∷ []) is) ∙ ap image (map_push turned (take k moves) m)

module _ (moves : List (ℕ × ℕ)) (perm : IsPerm moves) {A : Type 0} (xs : List A) where
  pub placed_more : (after : List A) (k : ℕ) (m : ℕ × ℕ) (x : A) → k < length moves → get_or moves k m ≡ m → m.1 < length after → ((d : A) → x ≡ get_or xs m.0 d) →
      ((j : ℕ) (d : A) → get_or after j d ≡ get_or xs (source (take k moves) j) d) → (j : ℕ) (d : A) → get_or (set after m.1 x) j d ≡ get_or xs (source (take (k + 1) moves) j) d
  placed_more after k m x within is inside read placed j e = by_place (cases_eq m.1 j)
    where
      more : source (take (k + 1) moves) j ≡ image (map turned (take k moves) ++ turned m ∷ []) j
      more = ap (λ f. f j) (source_more moves k m within is)

      none : All (λ n. n.0 ≢ m.1) (map turned (take k moves))
      none = All-map (λ n. n.0 ≢ m.1) turned (take k moves) (λ i d lt same.
          let below : i < k = omega (arith, lt, length-take-le k moves (omega arith)) in
          let at = get_or-take k moves i d below in
          let there = get_or_default moves k d m within ∙ is in
          images_differ moves perm i k d below within (ap (λ n. n.1) (sym at) ∙ same ∙ ap (λ n. n.1) (sym there)))

      by_place : (m.1 ≡ j) ⊎ (m.1 ≢ j) → get_or (set after m.1 x) j e ≡ get_or xs (source (take (k + 1) moves) j) e
      by_place (inl same) =
          let here : source (take (k + 1) moves) j ≡ m.0 = more ∙ ap (image (map turned (take k moves) ++ turned m ∷ [])) (sym same) ∙ image_push-here (map turned (take k moves)) (turned m) m.1 none refl in
          ap (λ i. get_or (set after m.1 x) i e) (sym same) ∙ get_or-set_same after m.1 x e inside ∙ read e ∙ ap (λ i. get_or xs i e) (sym here)
      by_place (inr other) =
          get_or-set_other after m.1 j x e (λ q. other (sym q)) ∙ placed j e ∙ ap (λ i. get_or xs i e) (sym (more ∙ image_push-other (map turned (take k moves)) (turned m) j other))

-- the image of a position below n is below n
image_below : (moves : List (ℕ × ℕ)) (n p : ℕ) → All (λ m. m.1 < n) moves → p < n → image moves p < n
image_below [] n p below within = within
image_below (m ∷ moves) n p below within = by_test (nat_eq m.0 p) (All-head (λ o. o.1 < n) m moves below) (image_below moves n p (All-tail (λ o. o.1 < n) m moves below) within)
  where
    by_test : (t : Bool) → m.1 < n → image moves p < n → cond t m.1 (image moves p) < n
    by_test true here rest = here
    by_test false here rest = rest

pub image_inside : (moves : List (ℕ × ℕ)) → IsPerm moves → (n p : ℕ) → MovesBelow n moves → p < n → image moves p < n
image_inside moves perm n p below within = image_below moves n p (λ k d lt. (images_below moves perm n below k d lt).1) within

pub source_below : (moves : List (ℕ × ℕ)) (n q : ℕ) → MovesBelow n moves → q < n → source moves q < n
source_below moves n q below within = image_below (map turned moves) n q (All-map (λ m. m.1 < n) turned moves below) within

pub length-permuted_from : {A : Type 0} (moves : List (ℕ × ℕ)) (all : List A) (q : ℕ) (xs : List A) → length (permuted_from moves all q xs) ≡ length xs
length-permuted_from moves all q [] = refl
length-permuted_from moves all q (x ∷ xs) = ap suc (length-permuted_from moves all (suc q) xs)

get_or-permuted_from : {A : Type 0} (moves : List (ℕ × ℕ)) (all : List A) (q : ℕ) (xs : List A) (k : ℕ) (d : A) → k < length xs → get_or (permuted_from moves all q xs) k d ≡ get_or all (source moves (q + k)) (get_or xs k d)
get_or-permuted_from moves all q [] k d within = absurd (omega arith)
get_or-permuted_from moves all q (x ∷ xs) zero d within = let e : q ≡ q + 0 = omega arith in ap (λ i. get_or all (source moves i) x) e
get_or-permuted_from moves all q (x ∷ xs) (suc k) d within =
    let e : suc q + k ≡ q + suc k = omega arith in
    get_or-permuted_from moves all (suc q) xs k d (omega arith) ∙ ap (λ i. get_or all (source moves i) (get_or xs k d)) e

-- what stands at a position afterwards
pub get_or-permute : {A : Type 0} (moves : List (ℕ × ℕ)) (xs : List A) (q : ℕ) (d : A) → MovesBelow (length xs) moves → q < length xs → get_or (permute moves xs) q d ≡ get_or xs (source moves q) d
get_or-permute moves xs q d below within =
    let e : 0 + q ≡ q = omega arith in
    get_or-permuted_from moves xs 0 xs q d within ∙ ap (λ i. get_or xs (source moves i) (get_or xs q d)) e
    ∙ get_or_default xs (source moves q) (get_or xs q d) d (source_below moves (length xs) q below within)

pub permute_from_places : {A : Type 0} (moves : List (ℕ × ℕ)) (xs ys : List A) → MovesBelow (length xs) moves → length ys ≡ length xs → ((j : ℕ) (d : A) → get_or ys j d ≡ get_or xs (source moves j) d) → ys ≡ permute moves xs
permute_from_places moves xs ys below same placed = same_lists ys (permute moves xs) (same ∙ sym (length-permuted_from moves xs 0 xs)) (λ k d within.
    let inside : k < length xs = omega (arith, within, same) in
    placed k d ∙ sym (get_or-permute moves xs k d below inside))

-- where no marked line moves, the marks are what they were
module _ (moves : List (ℕ × ℕ)) (perm : IsPerm moves) (marks : List Bool) (below : MovesBelow (length marks) moves) (unmarked : (k : ℕ) → k < length moves → get_or marks (get_or moves k (0, 0)).0 false ≡ false) where
  stays_or_unmarked : (p : ℕ) → (image moves p ≡ p) ⊎ (get_or marks p false ≡ false)
  stays_or_unmarked p = by_case (image_cases moves p)
    where
      by_case : (((k : ℕ) × (k < length moves) × ((d : ℕ × ℕ) → (get_or moves k d).0 ≡ p)) ⊎ All (λ m. m.0 ≢ p) moves) → (image moves p ≡ p) ⊎ (get_or marks p false ≡ false)
      by_case (inl (k, within, at)) = inr (ap (λ q. get_or marks q false) (sym (at (0, 0))) ∙ unmarked k within)
      by_case (inr none) = inl (image_none moves p none)

  same_mark : (q : ℕ) (d : Bool) → q < length marks → get_or marks q d ≡ get_or marks (source moves q) d
  same_mark q d within = by_cases (stays_or_unmarked q) (stays_or_unmarked (source moves q))
    where
      still : source moves q ≡ q → get_or marks q d ≡ get_or marks (source moves q) d
      still e = ap (λ p. get_or marks p d) (sym e)

      by_cases : ((image moves q ≡ q) ⊎ (get_or marks q false ≡ false)) → ((image moves (source moves q) ≡ source moves q) ⊎ (get_or marks (source moves q) false ≡ false)) → get_or marks q d ≡ get_or marks (source moves q) d
      by_cases (inl same) other = still (ap (source moves) (sym same) ∙ perm.back q)
      by_cases (inr here) (inl same) = still (sym same ∙ perm.forth q)
      by_cases (inr here) (inr there) =
          get_or_default marks q d false within ∙ (here ∙ (sym there ∙ get_or_default marks (source moves q) false d (source_below moves (length marks) q below within)))

  pub permute_unmarked : permute moves marks ≡ marks
  permute_unmarked = sym (same_lists marks (permute moves marks) (sym (length-permuted_from moves marks 0 marks)) (λ q d within. same_mark q d within ∙ sym (get_or-permute moves marks q d below within)))

-- the element at a position goes to its image
pub slice_get-permute : {A : Type 0} (moves : List (ℕ × ℕ)) → IsPerm moves → (xs : List A) → MovesBelow (length xs) moves → (p : ℕ) → p < length xs → slice_get (permute moves xs) (image moves p) ≡ slice_get xs p
slice_get-permute {A} moves perm xs below p within = by_element (slice_get_cases xs p).1
  where
    inside : image moves p < length xs
    inside = image_inside moves perm (length xs) p below within

    by_element : ((x : A) × (p < length xs) × (slice_get xs p ≡ Some x) × (get_or xs p x ≡ x)) ⊎ ((length xs ≤ p) × (slice_get xs p ≡ None)) → slice_get (permute moves xs) (image moves p) ≡ slice_get xs p
    by_element (inl (x, lt, is, at)) =
        slice_get-get_or (permute moves xs) (image moves p) x (omega (arith, inside, length-permuted_from moves xs 0 xs))
        ∙ ap Some (get_or-permute moves xs (image moves p) x below inside ∙ ap (λ i. get_or xs i x) (perm.back p) ∙ at) ∙ sym is
    by_element (inr (past, none)) = absurd (omega (arith, past, within))
