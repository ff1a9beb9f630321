-- The visible lines from one position to another are those of consecutive visible indexes.
use Rattle.std.proofs.Common.{◌≡◌, ℕ, zero, suc, ◌+◌, ◌<◌, ◌≤◌, Bool, true, false, cond, List, [], ◌∷◌, length, map, refl, ap, ◌∙◌, subst, arith, inl, inr, Some, None, Option}
use Rattle.std.specs.Prelude.{◌&&◌, ◌-◌, ◌⊎◌, nat_le, nat_lt, filter, slice_index_or}
use Rattle.std.proofs.lemmas.Bool.Decides.{nat_tests}
use Rattle.marked_lines.specs.Marks.{visible_count, places_from, visible_places, visible_before, span_of}
use Rattle.marked_lines.proofs.Positions.{visible_before-le, visible_before-all}
use Rattle.sheet_graph.specs.Areas.{indexes_from}
use Rattle.sheet_graph.specs.Cursor.{less_or_not}

-- a count by position, and the positions from first to last
module _ (f : ℕ → ℕ) (first last : ℕ) where
  abbrev Counts : ℕ → List Bool → Type 0
  Counts o [] = Unit {0}
  Counts o (m ∷ ms) = (f (suc o) ≡ cond m (f o) (suc (f o))) × Counts (suc o) ms

  abbrev is_between : ℕ → Bool
  is_between p = nat_le first p && nat_le p last

  past : (o : ℕ) (ms : List Bool) → suc last ≤ o → filter is_between (places_from o ms) ≡ []
  past o [] h = refl
  past o (m ∷ ms) h = by_mark m (past (suc o) ms (omega arith))
    where
      outside : is_between o ≡ false
      outside = grind (arith, nat_tests)

      by_mark : (b : Bool) → filter is_between (places_from (suc o) ms) ≡ [] → filter is_between (places_from o (b ∷ ms)) ≡ []
      by_mark true r = r
      by_mark false r = simp outside r

  module _ (up : (p q : ℕ) → p ≤ q → f p ≤ f q) where
    inside : (o : ℕ) (ms : List Bool) → first ≤ o → Counts o ms → f (suc last) ≤ f (o + length ms) → map f (filter is_between (places_from o ms)) ≡ indexes_from (f o) (f (suc last) - f o)
    inside o [] h c e =
        let z : o + 0 ≡ o = omega arith in
        let k : f (suc last) ≤ f o = subst (λ j. f (suc last) ≤ f j) z e in
        ap (indexes_from (f o)) (let q : 0 ≡ f (suc last) - f o = omega (arith, k) in q)
    inside o (m ∷ ms) h c e =
        by_last (less_or_not o (suc last))
        (inside (suc o) ms (omega arith) c.1 (subst (λ j. f (suc last) ≤ f j) (let q : o + suc (length ms) ≡ suc o + length ms = omega arith in q) e))
      where
        by_mark : (b : Bool) → f (suc o) ≡ cond b (f o) (suc (f o)) → f (suc o) ≤ f (suc last) → is_between o ≡ true →
            map f (filter is_between (places_from (suc o) ms)) ≡ indexes_from (f (suc o)) (f (suc last) - f (suc o)) →
            map f (filter is_between (places_from o (b ∷ ms))) ≡ indexes_from (f o) (f (suc last) - f o)
        by_mark true s l t r = r ∙ (λ i. indexes_from (s i) (f (suc last) - s i))
        by_mark false s l t r =
            let q : suc (f (suc last) - suc (f o)) ≡ f (suc last) - f o = omega (arith, s, l) in
            simp t (ap (λ ns. f o ∷ ns) (r ∙ (λ i. indexes_from (s i) (f (suc last) - s i))) ∙ ap (indexes_from (f o)) q)

        by_last : ((o < suc last) ⊎ (suc last ≤ o)) → map f (filter is_between (places_from (suc o) ms)) ≡ indexes_from (f (suc o)) (f (suc last) - f (suc o)) → map f (filter is_between (places_from o (m ∷ ms))) ≡ indexes_from (f o) (f (suc last) - f o)
        by_last (inl k) r = by_mark m c.0 (up (suc o) (suc last) (omega arith)) (grind (arith, nat_tests)) r
        by_last (inr k) r =
            let l = up (suc last) o k in
            ap (map f) (past o (m ∷ ms) k) ∙ ap (indexes_from (f o)) (let q : 0 ≡ f (suc last) - f o = omega (arith, l) in q)

    before : (o : ℕ) (ms : List Bool) → o ≤ first → Counts o ms → f (suc last) ≤ f (o + length ms) → map f (filter is_between (places_from o ms)) ≡ indexes_from (f first) (f (suc last) - f first)
    before o [] h c e =
        let z : o + 0 ≡ o = omega arith in
        let k : f (suc last) ≤ f o = subst (λ j. f (suc last) ≤ f j) z e in
        let l = up o first h in
        ap (indexes_from (f first)) (let q : 0 ≡ f (suc last) - f first = omega (arith, k, l) in q)
    before o (m ∷ ms) h c e =
        by_first (less_or_not o first)
        (λ k. before (suc o) ms k c.1 (subst (λ j. f (suc last) ≤ f j) (let q : o + suc (length ms) ≡ suc o + length ms = omega arith in q) e))
      where
        by_mark : (b : Bool) → is_between o ≡ false → map f (filter is_between (places_from (suc o) ms)) ≡ indexes_from (f first) (f (suc last) - f first) →
            map f (filter is_between (places_from o (b ∷ ms))) ≡ indexes_from (f first) (f (suc last) - f first)
        by_mark true t r = r
        by_mark false t r = simp t r

        by_first : ((o < first) ⊎ (first ≤ o)) → (suc o ≤ first → map f (filter is_between (places_from (suc o) ms)) ≡ indexes_from (f first) (f (suc last) - f first)) → map f (filter is_between (places_from o (m ∷ ms))) ≡ indexes_from (f first) (f (suc last) - f first)
        by_first (inl k) r = by_mark m (grind (arith, nat_tests)) (r (omega arith))
        by_first (inr k) r =
            let q : o ≡ first = omega arith in
            inside o (m ∷ ms) k c e ∙ (λ i. indexes_from (f (q i)) (f (suc last) - f (q i)))

-- ---- visible lines before a position
before_step : (marks : List Bool) (p : ℕ) → p < length marks → visible_before marks (suc p) ≡ cond (slice_index_or marks p true) (visible_before marks p) (suc (visible_before marks p))
before_step [] p h = absurd (omega arith)
before_step (true ∷ ms) zero h = refl
before_step (false ∷ ms) zero h = refl
before_step (true ∷ ms) (suc p) h = before_step ms p (omega arith)
before_step (false ∷ ms) (suc p) h = by_mark (slice_index_or ms p true) (before_step ms p (omega arith))
  where
    by_mark : (b : Bool) → visible_before ms (suc p) ≡ cond b (visible_before ms p) (suc (visible_before ms p)) → suc (visible_before ms (suc p)) ≡ cond b (suc (visible_before ms p)) (suc (suc (visible_before ms p)))
    by_mark true r = ap suc r
    by_mark false r = ap suc r

before_all : (marks : List Bool) → visible_before marks (length marks) ≡ visible_count marks
before_all [] = refl
before_all (true ∷ ms) = before_all ms
before_all (false ∷ ms) = ap suc (before_all ms)

counts : (f : ℕ → ℕ) (first last o : ℕ) (ms : List Bool) → ((k : ℕ) → k < length ms → f (suc (o + k)) ≡ cond (slice_index_or ms k true) (f (o + k)) (suc (f (o + k)))) → Counts f first last o ms
counts f first last o [] h = tt
counts f first last o (m ∷ ms) h = (
  subst (λ j. f (suc j) ≡ cond m (f j) (suc (f j))) (let q : o + 0 ≡ o = omega arith in q) (h 0 (omega arith)),
  counts f first last (suc o) ms (λ k l. subst (λ j. f (suc j) ≡ cond (slice_index_or ms k true) (f j) (suc (f j))) (let q : o + suc k ≡ suc o + k = omega arith in q) (h (suc k) (omega arith))),
)

pub lines_counted : (marks : List Bool) (first last : ℕ) → map (visible_before marks) (filter (λ p. nat_le first p && nat_le p last) (visible_places marks)) ≡ indexes_from (visible_before marks first) (visible_before marks (suc last) - visible_before marks first)
lines_counted marks first last =
    let a = visible_before-all marks (suc last) in
    let b = before_all marks in
    before (visible_before marks) first last (visible_before-le marks) 0 marks (omega arith)
    (counts (visible_before marks) first last 0 marks (λ k l. subst (λ j. visible_before marks (suc j) ≡ cond (slice_index_or marks k true) (visible_before marks j) (suc (visible_before marks j))) (let q : k ≡ 0 + k = omega arith in q) (before_step marks k l)))
    (let q : visible_before marks (suc last) ≤ visible_before marks (length marks) = omega (arith, a, b) in subst (λ j. visible_before marks (suc last) ≤ visible_before marks j) (let z : length marks ≡ 0 + length marks = omega arith in z) q)

-- the indexes of a span
abbrev pub span_lines : Option (ℕ × ℕ) → List ℕ
span_lines None = []
span_lines (Some s) = indexes_from s.0 (s.1 + 1 - s.0)

pub lines_of_span : (marks : List Bool) (first last : ℕ) → map (visible_before marks) (filter (λ p. nat_le first p && nat_le p last) (visible_places marks)) ≡ span_lines (span_of marks first last)
lines_of_span marks first last = lines_counted marks first last ∙ by_order (less_or_not (visible_before marks first) (visible_before marks (suc last)))
  where
    by_order : ((visible_before marks first < visible_before marks (suc last)) ⊎ (visible_before marks (suc last) ≤ visible_before marks first)) →
        indexes_from (visible_before marks first) (visible_before marks (suc last) - visible_before marks first) ≡ span_lines (span_of marks first last)
    by_order (inl h) =
        let t : nat_lt (visible_before marks first) (visible_before marks (suc last)) ≡ true = grind (arith, nat_tests) in
        rw t (ap (indexes_from (visible_before marks first)) (let q : visible_before marks (suc last) - visible_before marks first ≡ visible_before marks (suc last) - 1 + 1 - visible_before marks first = omega (arith, h) in q))
    by_order (inr h) =
        let t : nat_lt (visible_before marks first) (visible_before marks (suc last)) ≡ false = grind (arith, nat_tests) in
        rw t (ap (indexes_from (visible_before marks first)) (let q : visible_before marks (suc last) - visible_before marks first ≡ 0 = omega (arith, h) in q))
