-- Moves after an insertion, and one permutation after another.
use Rattle.std.proofs.Common.{◌≡◌, ℕ, ◌+◌, ◌-◌, ◌<◌, ◌≤◌, ◌≢◌, ◌⊎◌, inl, inr, Bool, true, false, cond, nat_eq, List, [], ◌∷◌, ◌++◌, map, length, get_or, refl, ap, sym, ◌∙◌, arith, All}
use Rattle.std.proofs.lemmas.List.Elements.{All-map}
use Rattle.std.proofs.lemmas.List.{get_or-map, length-map}
use Rattle.std.proofs.lemmas.Bool.{cases_eq, cases_lt}
use Rattle.std.proofs.lemmas.Bool.Decides.{nat_tests}
use Rattle.marked_lines.specs.Moves.{image, turned, source, IsPerm, shifted, after_insertion, MovesBelow}
use Rattle.marked_lines.proofs.Images.{image_here, image_there, image_none, image_at, image_cases, IsDistinctByFirst-from_ascending}

-- the moves of the first, each led on by the second, and behind them those of the second
pub image_composed : (first next : List (ℕ × ℕ)) (p : ℕ) → image (map (λ m. (m.0, image next m.1)) first ++ next) p ≡ image next (image first p)
image_composed [] next p = refl
image_composed (m ∷ first) next p = by_test (nat_eq m.0 p) (image_composed first next p)
  where
    by_test : (t : Bool) → image (map (λ n. (n.0, image next n.1)) first ++ next) p ≡ image next (image first p) →
        cond t (image next m.1) (image (map (λ n. (n.0, image next n.1)) first ++ next) p) ≡ image next (cond t m.1 (image first p))
    by_test true rest = refl
    by_test false rest = rest

module _ (p : ℕ) where
  moved : ℕ → ℕ → ℕ × ℕ
  moved a b = (after_insertion p a, after_insertion p b)

  pub after_insertion-apart : (q : ℕ) → after_insertion p q ≢ p
  after_insertion-apart q = by_test (cases_lt q p)
    where
      by_test : (q < p) ⊎ (p ≤ q) → after_insertion p q ≢ p
      by_test (inl below) = let is : after_insertion p q ≡ q = grind (arith, nat_tests) in λ same. omega (arith, is, same, below)
      by_test (inr above) = let is : after_insertion p q ≡ q + 1 = grind (arith, nat_tests) in λ same. omega (arith, is, same, above)

  pub after_insertion-increases : (q r : ℕ) → q < r → after_insertion p q < after_insertion p r
  after_insertion-increases q r lt = grind (arith, nat_tests)

  pub after_insertion-injective : (q r : ℕ) → after_insertion p q ≡ after_insertion p r → q ≡ r
  after_insertion-injective q r same = grind (arith, nat_tests)

  -- each position but p is one from before
  before_cases : (r : ℕ) → (r ≡ p) ⊎ ((q : ℕ) × (after_insertion p q ≡ r))
  before_cases r = by_test (cases_eq r p) (cases_lt r p)
    where
      by_test : (r ≡ p) ⊎ (r ≢ p) → (r < p) ⊎ (p ≤ r) → (r ≡ p) ⊎ ((q : ℕ) × (after_insertion p q ≡ r))
      by_test (inl same) side = inl same
      by_test (inr other) (inl below) = inr (r, grind (arith, nat_tests))
      by_test (inr other) (inr above) = inr (r - 1, grind (arith, nat_tests))

  pub image_shifted : (moves : List (ℕ × ℕ)) (q : ℕ) → image (shifted p moves) (after_insertion p q) ≡ after_insertion p (image moves q)
  image_shifted [] q = refl
  image_shifted (m ∷ moves) q = by_test (cases_eq m.0 q) (image_shifted moves q)
    where
      by_test : (m.0 ≡ q) ⊎ (m.0 ≢ q) → image (shifted p moves) (after_insertion p q) ≡ after_insertion p (image moves q) → image (shifted p (m ∷ moves)) (after_insertion p q) ≡ after_insertion p (image (m ∷ moves) q)
      by_test (inl same) rest = image_here (after_insertion p m.0, after_insertion p m.1) (shifted p moves) (after_insertion p q) (ap (after_insertion p) same) ∙ ap (after_insertion p) (sym (image_here m moves q same))
      by_test (inr other) rest =
          image_there (after_insertion p m.0, after_insertion p m.1) (shifted p moves) (after_insertion p q) (λ same. other (after_insertion-injective m.0 q same))
          ∙ rest ∙ ap (after_insertion p) (sym (image_there m moves q other))

  pub image_shifted-keeps : (moves : List (ℕ × ℕ)) → image (shifted p moves) p ≡ p
  image_shifted-keeps moves = image_none (shifted p moves) p (All-map (λ n. n.0 ≢ p) (λ (m : ℕ × ℕ). (after_insertion p m.0, after_insertion p m.1)) moves (λ k d within. after_insertion-apart (get_or moves k d).0))

  turned_shifted : (moves : List (ℕ × ℕ)) → map turned (shifted p moves) ≡ shifted p (map turned moves)
  turned_shifted [] = refl
  turned_shifted (m ∷ moves) = ap (λ (ms : List (ℕ × ℕ)). (after_insertion p m.1, after_insertion p m.0) ∷ ms) (turned_shifted moves)

  -- two lists of moves that undo each other do so after the insertion
  undone_shifted : (moves others : List (ℕ × ℕ)) → ((q : ℕ) → image others (image moves q) ≡ q) → (r : ℕ) → image (shifted p others) (image (shifted p moves) r) ≡ r
  undone_shifted moves others undoes r = by_place (before_cases r)
    where
      by_place : (r ≡ p) ⊎ ((q : ℕ) × (after_insertion p q ≡ r)) → image (shifted p others) (image (shifted p moves) r) ≡ r
      by_place (inl same) = ap (λ s. image (shifted p others) (image (shifted p moves) s)) same ∙ ap (image (shifted p others)) (image_shifted-keeps moves) ∙ image_shifted-keeps others ∙ sym same
      by_place (inr (q, is)) =
          ap (λ s. image (shifted p others) (image (shifted p moves) s)) (sym is)
          ∙ ap (image (shifted p others)) (image_shifted moves q)
          ∙ image_shifted others (image moves q)
          ∙ ap (after_insertion p) (undoes q) ∙ is

  pub IsPerm-shifted : (moves : List (ℕ × ℕ)) → IsPerm moves → IsPerm (shifted p moves)
  IsPerm-shifted moves perm = record {
    ascending = λ i j d lt within.
        let inside : j < length moves = rw length-map at within in
        let first = get_or-map (λ (m : ℕ × ℕ). (after_insertion p m.0, after_insertion p m.1)) moves i d d (omega arith) in
        let second = get_or-map (λ (m : ℕ × ℕ). (after_insertion p m.0, after_insertion p m.1)) moves j d d inside in
        let h = after_insertion-increases (get_or moves i d).0 (get_or moves j d).0 (perm.ascending i j d lt inside) in
        let P : ℕ × ℕ → ℕ × ℕ → Type 0 = λ m n. m.0 < n.0 in
        rw (first, second) h;
    moving = All-map (λ n. n.0 ≢ n.1) (λ (m : ℕ × ℕ). (after_insertion p m.0, after_insertion p m.1)) moves
        (λ k d within same. perm.moving k d within (after_insertion-injective (get_or moves k d).0 (get_or moves k d).1 same));
    back = λ r. ap (λ ms. image ms (image (shifted p moves) r)) (turned_shifted moves) ∙ undone_shifted moves (map turned moves) perm.back r;
    forth = λ r. ap (λ ms. image (shifted p moves) (image ms r)) (turned_shifted moves) ∙ undone_shifted (map turned moves) moves perm.forth r;
  }

-- an image is a moved position too
pub images_below : (moves : List (ℕ × ℕ)) → IsPerm moves → (n : ℕ) → MovesBelow n moves → All (λ m. (m.0 < n) × (m.1 < n)) moves
images_below moves perm n below k d within = (below k d within, by_place (image_cases moves m.1))
  where
    m : ℕ × ℕ
    m = get_or moves k d

    by_place : ((j : ℕ) × (j < length moves) × ((e : ℕ × ℕ) → (get_or moves j e).0 ≡ m.1)) ⊎ All (λ o. o.0 ≢ m.1) moves → m.1 < n
    by_place (inl found) = let h = below found.0 d found.1 in let same = found.2 d in omega (arith, h, same)
    by_place (inr none) =
        let at = image_at moves (IsDistinctByFirst-from_ascending moves perm.ascending) k d within in
        let stays = image_none moves m.1 none in
        absurd (perm.moving k d within (sym (perm.back m.0) ∙ ap (source moves) (at ∙ sym stays) ∙ perm.back m.1))
