-- A permutation's moves are determined by where it takes each position.
use Rattle.std.proofs.Common.{◌≡◌, ℕ, suc, ◌<◌, ◌≤◌, ◌≢◌, ◌⊎◌, inl, inr, true, false, not, nat_eq, List, [], ◌∷◌, map, length, get_or, refl, ap, sym, ◌∙◌, arith, All, AllPairs, ⊎_elim}
use Rattle.std.proofs.lemmas.List.{get_or-map, length-map}
use Rattle.std.proofs.lemmas.List.Elements.{All-nil, All-cons, All-head, All-tail, All-map, All-weaker, All-filter, filter_passes}
use Rattle.std.proofs.lemmas.List.Kept.{AllPairs-filter}
use Rattle.std.proofs.lemmas.Bool.{cases_eq, cases_lt}
use Rattle.std.proofs.lemmas.Bool.Decides.{nat_tests}
use Rattle.marked_lines.specs.Moves.{image, source, IsPerm, MovesBelow, moves_of}
use Rattle.marked_lines.proofs.Images.{image_here, image_there, image_none, image_at, IsDistinctByFirst-from_ascending}
use Rattle.marked_lines.proofs.Graphs.{Follows, IsPerm-follows}

pub one_to_one : (moves : List (ℕ × ℕ)) → IsPerm moves → (p q : ℕ) → image moves p ≡ image moves q → p ≡ q
one_to_one moves perm p q same = sym (perm.back p) ∙ ap (source moves) same ∙ perm.back q

Ascends : List (ℕ × ℕ) → Type 0
Ascends moves = AllPairs (λ m n. m.0 < n.0) moves

Ascends-tail : (m : ℕ × ℕ) (moves : List (ℕ × ℕ)) → Ascends (m ∷ moves) → Ascends moves
unfolding Ascends
Ascends-tail m moves up = λ i j d lt within. up (suc i) (suc j) d (omega arith) (omega arith)

-- a position before the first moved one is moved by none
later_apart : (m : ℕ × ℕ) (moves : List (ℕ × ℕ)) (p : ℕ) → Ascends (m ∷ moves) → p ≤ m.0 → All (λ n. n.0 ≢ p) moves
unfolding Ascends
later_apart m moves p up le k d within same = let h = up 0 (suc k) d (omega arith) (omega arith) in omega (arith, h, same)

early_stays : (m : ℕ × ℕ) (moves : List (ℕ × ℕ)) (p : ℕ) → Ascends (m ∷ moves) → p < m.0 → image (m ∷ moves) p ≡ p
early_stays m moves p up lt = image_none (m ∷ moves) p (All-cons (λ n. n.0 ≢ p) m moves (λ same. omega (arith, same, lt)) (later_apart m moves p up (omega arith)))

Moving : List (ℕ × ℕ) → Type 0
Moving moves = All (λ m. m.0 ≢ m.1) moves

-- a list that moves its first position where another moves nothing
alone : (m : ℕ × ℕ) (moves others : List (ℕ × ℕ)) → Moving (m ∷ moves) → image others m.0 ≡ m.0 → image (m ∷ moves) m.0 ≡ image others m.0 → ⊥
unfolding Moving
alone m moves others moving stays same = All-head (λ n. n.0 ≢ n.1) m moves moving (sym stays ∙ sym same ∙ image_here m moves m.0 refl)

same_moves : (ms ns : List (ℕ × ℕ)) → Ascends ms → Ascends ns → Moving ms → Moving ns → ((p : ℕ) → image ms p ≡ image ns p) → ms ≡ ns
unfolding Moving
same_moves [] [] up rise moving moves same = refl
same_moves [] (n ∷ ns) up rise moving moves same = absurd (alone n ns [] moves refl (sym (same n.0)))
same_moves (m ∷ ms) [] up rise moving moves same = absurd (alone m ms [] moving refl (same m.0))
same_moves (m ∷ ms) (n ∷ ns) up rise moving moves same =
    by_order (cases_lt m.0 n.0) (cases_lt n.0 m.0) (same_moves ms ns (Ascends-tail m ms up) (Ascends-tail n ns rise) (All-tail (λ o. o.0 ≢ o.1) m ms moving) (All-tail (λ o. o.0 ≢ o.1) n ns moves))
  where
    by_order : (m.0 < n.0) ⊎ (n.0 ≤ m.0) → (n.0 < m.0) ⊎ (m.0 ≤ n.0) → (((p : ℕ) → image ms p ≡ image ns p) → ms ≡ ns) → m ∷ ms ≡ n ∷ ns
    by_order (inl lt) other rest = absurd (alone m ms (n ∷ ns) moving (early_stays n ns m.0 rise lt) (same m.0))
    by_order (inr le) (inl lt) rest = absurd (alone n ns (m ∷ ms) moves (early_stays m ms n.0 up lt) (sym (same n.0)))
    by_order (inr le) (inr ge) rest =
        let first : m.0 ≡ n.0 = omega arith in
        let second : m.1 ≡ n.1 = sym (image_here m ms m.0 refl) ∙ same m.0 ∙ image_here n ns m.0 (sym first) in
        let tails : (p : ℕ) → image ms p ≡ image ns p = λ p. ⊎_elim
        (λ (at : m.0 ≡ p). image_none ms p (later_apart m ms p up (omega arith)) ∙ sym (image_none ns p (later_apart n ns p rise (omega arith))))
        (λ (apart : m.0 ≢ p). sym (image_there m ms p apart) ∙ same p ∙ image_there n ns p (λ e. apart (first ∙ e)))
        (cases_eq m.0 p) in
        λ i. (first i, second i) ∷ rest tails i

-- equal maps are equal lists
pub moves_same : (ms ns : List (ℕ × ℕ)) → IsPerm ms → IsPerm ns → ((p : ℕ) → image ms p ≡ image ns p) → ms ≡ ns
unfolding Ascends Moving
moves_same ms ns perm other same = same_moves ms ns perm.ascending other.ascending perm.moving other.moving same

-- the moves of a map
module _ (f : ℕ → ℕ) where
  pair : ℕ → ℕ × ℕ
  pair p = (p, f p)

  pub image_moves_of : (positions : List ℕ) (p : ℕ) → (All (λ q. q ≢ p) positions → f p ≡ p) → image (moves_of f positions) p ≡ f p
  image_moves_of [] p rest = sym (rest (All-nil (λ q. q ≢ p)))
  image_moves_of (q ∷ positions) p rest = by_move (cases_eq q (f q)) (cases_eq q p) (image_moves_of positions p)
    where
      by_move : (q ≡ f q) ⊎ (q ≢ f q) → (q ≡ p) ⊎ (q ≢ p) → ((All (λ r. r ≢ p) positions → f p ≡ p) → image (moves_of f positions) p ≡ f p) → image (moves_of f (q ∷ positions)) p ≡ f p
      by_move (inl stays) (inl same) later =
          let test : nat_eq q (f q) ≡ true = grind (arith, nat_tests) in
          rw test (later (λ none. ap f (sym same) ∙ sym stays ∙ same))
      by_move (inl stays) (inr other) later =
          let test : nat_eq q (f q) ≡ true = grind (arith, nat_tests) in
          rw test (later (λ none. rest (All-cons (λ r. r ≢ p) q positions other none)))
      by_move (inr moves) (inl same) later =
          let test : nat_eq q (f q) ≡ false = grind (arith, nat_tests) in
          rw test (image_here (q, f q) (moves_of f positions) p same ∙ ap f same)
      by_move (inr moves) (inr other) later =
          let test : nat_eq q (f q) ≡ false = grind (arith, nat_tests) in
          rw test (image_there (q, f q) (moves_of f positions) p other ∙ later (λ none. rest (All-cons (λ r. r ≢ p) q positions other none)))

  moves_of-ascends : (positions : List ℕ) → AllPairs (λ p q. p < q) positions → AllPairs (λ m n. m.0 < n.0) (moves_of f positions)
  moves_of-ascends positions up =
      let pairs : AllPairs (λ m n. m.0 < n.0) (map (λ p. (p, f p)) positions) = λ (i j : ℕ) (d : ℕ × ℕ) (lt : i < j) (within : j < length (map (λ (p : ℕ). (p, f p)) positions)).
      let inside : j < length positions = rw length-map at within in
      let earlier : i < length positions = omega (arith, lt, inside) in
      let first = get_or-map (λ (p : ℕ). (p, f p)) positions i 0 d earlier in
      let second = get_or-map (λ (p : ℕ). (p, f p)) positions j 0 d inside in
      rw (first, second) (up i j 0 lt inside) in
      AllPairs-filter (λ m n. m.0 < n.0) (λ m. not (nat_eq m.0 m.1)) (map (λ p. (p, f p)) positions) pairs

  moves_of-moving : (positions : List ℕ) → All (λ m. m.0 ≢ m.1) (moves_of f positions)
  moves_of-moving positions = All-weaker (λ m. not (nat_eq m.0 m.1) ≡ true) (λ m. m.0 ≢ m.1) (λ m passes same. let h : nat_eq m.0 m.1 ≡ true = grind (arith, nat_tests) in absurd (let clash = sym (ap not h) ∙ passes in cc))
      (moves_of f positions) (filter_passes (λ m. not (nat_eq m.0 m.1)) (map (λ p. (p, f p)) positions))

  moves_of-follows : (positions : List ℕ) → Follows f (moves_of f positions)
  moves_of-follows positions = All-filter (λ m. not (nat_eq m.0 m.1)) (λ m. m.1 ≡ f m.0) (map (λ p. (p, f p)) positions) (All-map (λ m. m.1 ≡ f m.0) (λ p. (p, f p)) positions (λ k d within. refl))

  pub IsPerm-moves_of : (back : ℕ → ℕ) → ((p : ℕ) → back (f p) ≡ p) → ((q : ℕ) → f (back q) ≡ q) → (positions : List ℕ) → AllPairs (λ p q. p < q) positions → ((p : ℕ) → All (λ q. q ≢ p) positions → f p ≡ p) →
      IsPerm (moves_of f positions) × ((p : ℕ) → image (moves_of f positions) p ≡ f p)
  IsPerm-moves_of back undoes redoes positions up rest =
      let same : (p : ℕ) → image (moves_of f positions) p ≡ f p = λ p. image_moves_of positions p (rest p) in
      (IsPerm-follows f back undoes redoes (moves_of f positions) (moves_of-ascends positions up) (moves_of-moving positions) (moves_of-follows positions) same, same)

-- which positions a permutation moves
pub below_stay : (moves : List (ℕ × ℕ)) (n : ℕ) → MovesBelow n moves → (p : ℕ) → n ≤ p → image moves p ≡ p
below_stay moves n below p le = image_none moves p (λ k d within same. let h = below k d within in omega (arith, h, same))

pub stay_below : (moves : List (ℕ × ℕ)) → IsPerm moves → (n : ℕ) → ((p : ℕ) → n ≤ p → image moves p ≡ p) → MovesBelow n moves
stay_below moves perm n stay k d within = ⊎_elim
    (λ (lt : (get_or moves k d).0 < n). lt)
    (λ (le : n ≤ (get_or moves k d).0). absurd (perm.moving k d within (sym (stay (get_or moves k d).0 le) ∙ image_at moves (IsDistinctByFirst-from_ascending moves perm.ascending) k d within)))
    (cases_lt (get_or moves k d).0 n)
