-- Pairs that were sorted by position, of which the first of each position is kept where it moves.
use Rattle.std.proofs.Common.{◌≡◌, ℕ, ◌+◌, ◌<◌, ◌≢◌, ◌⊎◌, inl, inr, Bool, true, false, not, cond, nat_eq, List, [], ◌∷◌, map, length, get_or, refl, ap, sym, ◌∙◌, arith, All, AllPairs, eqb}
use Rattle.std.proofs.lemmas.List.{get_or-map, length-map}
use Rattle.std.proofs.lemmas.List.Elements.{All-nil, All-cons, All-head, All-tail}
use Rattle.std.proofs.lemmas.List.Kept.{AllPairs-from_increasing}
use Rattle.std.proofs.lemmas.Map.Keys.{IsStrictlyIncreasing-dedup}
use Rattle.std.proofs.lemmas.Bool.{cases_eq}
use Rattle.std.proofs.lemmas.Bool.Decides.{nat_tests}
use Rattle.std.specs.Ordering.{nat_cmp, is_lt}
use Rattle.std.specs.List.{filter, dedup, dedup_from}
use Rattle.std.specs.List.Sorted.{ties, IsSorted, IsSortedByKey, IsStableByKey}
use Rattle.marked_lines.specs.Moves.{image, IsPerm}
use Rattle.marked_lines.proofs.Images.{image_here, image_there, image_none, image_at, IsDistinctByFirst-from_ascending}
use Rattle.marked_lines.proofs.Graphs.{Follows}
use Rattle.marked_lines.proofs.Canonical.{IsPerm-moves_of}

-- the pairs that begin with p say where p goes
stands_at : ℕ → ℕ × ℕ → Bool
stands_at p = ties (λ (x y : ℕ × ℕ). is_lt (nat_cmp x.0 y.0)) (p, p)

stands_at-is : (p : ℕ) (m : ℕ × ℕ) → stands_at p m ≡ nat_eq m.0 p
unfolding stands_at
stands_at-is p m = grind (arith, nat_tests)

image_filter : (pairs : List (ℕ × ℕ)) (p : ℕ) → image (filter (stands_at p) pairs) p ≡ image pairs p
image_filter [] p = refl
image_filter (m ∷ pairs) p = rw (stands_at-is p m) (by_test (cases_eq m.0 p) (image_filter pairs p))
  where
    by_test : (m.0 ≡ p) ⊎ (m.0 ≢ p) → image (filter (stands_at p) pairs) p ≡ image pairs p → image (cond (nat_eq m.0 p) (m ∷ filter (stands_at p) pairs) (filter (stands_at p) pairs)) p ≡ image (m ∷ pairs) p
    by_test (inl same) rest = let test : nat_eq m.0 p ≡ true = grind (arith, nat_tests) in rw test (image_here m (filter (stands_at p) pairs) p same)
    by_test (inr other) rest = let test : nat_eq m.0 p ≡ false = grind (arith, nat_tests) in rw test rest

image_stable : (old new : List (ℕ × ℕ)) → IsStableByKey (λ m. m.0) nat_cmp old new → (p : ℕ) → image new p ≡ image old p
unfolding stands_at
image_stable old new stable p = sym (image_filter new p) ∙ ap (λ ps. image ps p) (stable (p, p)) ∙ image_filter old p

-- the first pair of each position
abbrev pub same_position : ℕ × ℕ → ℕ × ℕ → Bool
same_position m n = nat_eq m.0 n.0

image_dedup_from : (m : ℕ × ℕ) (pairs : List (ℕ × ℕ)) (p : ℕ) → image (dedup_from same_position m pairs) p ≡ image (m ∷ pairs) p
image_dedup_from m [] p = refl
image_dedup_from m (n ∷ pairs) p = by_test (cases_eq n.0 m.0) (cases_eq m.0 p) (image_dedup_from m pairs p) (image_dedup_from n pairs p)
  where
    by_test : (n.0 ≡ m.0) ⊎ (n.0 ≢ m.0) → (m.0 ≡ p) ⊎ (m.0 ≢ p) → image (dedup_from same_position m pairs) p ≡ image (m ∷ pairs) p → image (dedup_from same_position n pairs) p ≡ image (n ∷ pairs) p →
        image (dedup_from same_position m (n ∷ pairs)) p ≡ image (m ∷ n ∷ pairs) p
    by_test (inl same) (inl here) rest next =
        let test : nat_eq n.0 m.0 ≡ true = grind (arith, nat_tests) in
        rw test (rest ∙ image_here m pairs p here ∙ sym (image_here m (n ∷ pairs) p here))
    by_test (inl same) (inr there) rest next =
        let test : nat_eq n.0 m.0 ≡ true = grind (arith, nat_tests) in
        rw test (rest ∙ image_there m pairs p there ∙ sym (image_there n pairs p (λ e. there (sym same ∙ e))) ∙ sym (image_there m (n ∷ pairs) p there))
    by_test (inr other) place rest next =
        let test : nat_eq n.0 m.0 ≡ false = grind (arith, nat_tests) in
        rw test (ap (cond (nat_eq m.0 p) m.1) next)

image_dedup : (pairs : List (ℕ × ℕ)) (p : ℕ) → image (dedup same_position pairs) p ≡ image pairs p
image_dedup [] p = refl
image_dedup (m ∷ pairs) p = image_dedup_from m pairs p

positions : List (ℕ × ℕ) → List ℕ
positions pairs = map (λ m. m.0) pairs

positions-dedup_from : (m : ℕ × ℕ) (pairs : List (ℕ × ℕ)) → positions (dedup_from same_position m pairs) ≡ dedup_from eqb m.0 (positions pairs)
unfolding positions
positions-dedup_from m [] = refl
positions-dedup_from m (n ∷ pairs) = by_test (nat_eq n.0 m.0) (positions-dedup_from m pairs) (positions-dedup_from n pairs)
  where
    by_test : (t : Bool) → positions (dedup_from same_position m pairs) ≡ dedup_from eqb m.0 (positions pairs) → positions (dedup_from same_position n pairs) ≡ dedup_from eqb n.0 (positions pairs) →
        positions (cond t (dedup_from same_position m pairs) (m ∷ dedup_from same_position n pairs)) ≡ cond t (dedup_from eqb m.0 (positions pairs)) (m.0 ∷ dedup_from eqb n.0 (positions pairs))
    by_test true rest next = rest
    by_test false rest next = ap (λ (ps : List ℕ). m.0 ∷ ps) next

positions-dedup : (pairs : List (ℕ × ℕ)) → positions (dedup same_position pairs) ≡ dedup eqb (positions pairs)
unfolding positions
positions-dedup [] = refl
positions-dedup (m ∷ pairs) = positions-dedup_from m pairs

-- they ascend after a sort
positions_sorted : (pairs : List (ℕ × ℕ)) → IsSortedByKey (λ m. m.0) nat_cmp pairs → IsSorted nat_cmp (positions pairs)
unfolding positions
positions_sorted pairs sorted k d low within =
    let inside : k + 1 < length pairs = rw length-map at within in
    let first = get_or-map (λ (m : ℕ × ℕ). m.0) pairs k (d, d) d (omega arith) in
    let second = get_or-map (λ (m : ℕ × ℕ). m.0) pairs (k + 1) (d, d) d inside in
    rw (first, second) (sorted k (d, d) low inside)

positions_ascend : (pairs : List (ℕ × ℕ)) → IsSortedByKey (λ m. m.0) nat_cmp pairs → AllPairs (λ p q. p < q) (positions (dedup same_position pairs))
positions_ascend pairs sorted = rw (positions-dedup pairs) (AllPairs-from_increasing (dedup eqb (positions pairs)) (IsStrictlyIncreasing-dedup (positions pairs) (positions_sorted pairs sorted)))

pairs_ascend : (pairs : List (ℕ × ℕ)) → AllPairs (λ p q. p < q) (positions pairs) → AllPairs (λ m n. m.0 < n.0) pairs
unfolding positions
pairs_ascend pairs up = λ i j d lt within.
    let inside : j < length (map (λ (m : ℕ × ℕ). m.0) pairs) = rw length-map within in
    let earlier : i < length pairs = omega arith in
    let h = up i j 0 lt inside in
    let first = get_or-map (λ (m : ℕ × ℕ). m.0) pairs i d 0 earlier in
    let second = get_or-map (λ (m : ℕ × ℕ). m.0) pairs j d 0 within in
    omega (arith, h, first, second)

-- pairs that follow a map are its graph over their positions
graph_of : (f : ℕ → ℕ) (pairs : List (ℕ × ℕ)) → Follows f pairs → pairs ≡ map (λ p. (p, f p)) (positions pairs)
unfolding positions
graph_of f [] follows = refl
graph_of f (m ∷ pairs) follows =
    let here : m.1 ≡ f m.0 = All-head (λ n. n.1 ≡ f n.0) m pairs follows in
    let rest = graph_of f pairs (All-tail (λ n. n.1 ≡ f n.0) m pairs follows) in
    λ i. (m.0, here i) ∷ rest i

missing : (pairs : List (ℕ × ℕ)) (p : ℕ) → All (λ q. q ≢ p) (positions pairs) → All (λ m. m.0 ≢ p) pairs
unfolding positions
missing [] p none = All-nil (λ m. m.0 ≢ p)
missing (m ∷ pairs) p none = All-cons (λ n. n.0 ≢ p) m pairs (All-head (λ q. q ≢ p) m.0 (positions pairs) none) (missing pairs p (All-tail (λ q. q ≢ p) m.0 (positions pairs) none))

pub settles : (old sorted : List (ℕ × ℕ)) → IsStableByKey (λ m. m.0) nat_cmp old sorted → IsSortedByKey (λ m. m.0) nat_cmp sorted →
    ((back : ℕ → ℕ) × ((p : ℕ) → back (image old p) ≡ p) × ((q : ℕ) → image old (back q) ≡ q)) → (left : List (ℕ × ℕ)) → left ≡ filter (λ m. not (nat_eq m.0 m.1)) (dedup same_position sorted) →
    IsPerm left × ((p : ℕ) → image left p ≡ image old p)
settles old sorted stable rises bijective left is = rw (is ∙ ap (filter (λ m. not (nat_eq m.0 m.1))) graph)
    (IsPerm-moves_of (image old) bijective.0 bijective.1 bijective.2 (positions firsts) up (λ p none. sym (same p) ∙ image_none firsts p (missing firsts p none)))
  where
    firsts : List (ℕ × ℕ)
    firsts = dedup same_position sorted

    same : (p : ℕ) → image firsts p ≡ image old p
    same p = image_dedup sorted p ∙ image_stable old sorted stable p

    up : AllPairs (λ p q. p < q) (positions firsts)
    up = positions_ascend sorted rises

    graph : firsts ≡ map (λ p. (p, image old p)) (positions firsts)
    graph = graph_of (image old) firsts (λ k d within. sym (image_at firsts (IsDistinctByFirst-from_ascending firsts (pairs_ascend firsts up)) k d within) ∙ same (get_or firsts k d).0)
