-- Positions and visible indexes lead to each other.
use Rattle.std.proofs.Common.{◌≡◌, ℕ, zero, suc, ◌+◌, ◌-◌, ◌<◌, ◌≤◌, ⊎_elim, ◌↔◌, Bool, true, false, cond, List, [], ◌∷◌, take, length, get_or, refl, ap, sym, ◌∙◌, arith, Option, Some, None, slice_get, IfSome, IsNone, nat_lt}
use Rattle.std.proofs.lemmas.Bool.{cases_lt}
use Rattle.std.proofs.lemmas.Bool.Decides.{nat_tests}
use Rattle.marked_lines.specs.Marks.{visible_count, places_from, visible_places, visible_before, place_of, visible_of, span_of}
use Rattle.marked_lines.proofs.Positions.{visible_before-le, visible_before-shown, visible_before-all, hidden_between, between_hidden}

place_at : (o : ℕ) (marks : List Bool) (p : ℕ) → get_or marks p true ≡ false → slice_get (places_from o marks) (visible_count (take p marks)) ≡ Some (o + p)
place_at o [] p shown = absurd (cc)
place_at o (true ∷ marks) zero shown = absurd (cc)
place_at o (false ∷ marks) zero shown = let e : o ≡ o + 0 = omega arith in ap Some e
place_at o (true ∷ marks) (suc p) shown = let e : suc o + p ≡ o + suc p = omega arith in place_at (suc o) marks p shown ∙ ap Some e
place_at o (false ∷ marks) (suc p) shown = let e : suc o + p ≡ o + suc p = omega arith in place_at (suc o) marks p shown ∙ ap Some e

at_place : (o : ℕ) (marks : List Bool) (v q : ℕ) → slice_get (places_from o marks) v ≡ Some q → (p : ℕ) × (q ≡ o + p) × (get_or marks p true ≡ false) × (visible_count (take p marks) ≡ v)
at_place o [] v q found = absurd (cc)
at_place o (true ∷ marks) v q found = let (p, is, shown, index) = at_place (suc o) marks v q found in (suc p, omega (arith, is), shown, index)
at_place o (false ∷ marks) zero q found = let e : o ≡ q = cc in (0, omega (arith, e), refl, refl)
at_place o (false ∷ marks) (suc v) q found = let (p, is, shown, index) = at_place (suc o) marks v q found in (suc p, omega (arith, is), shown, ap suc index)

pub place_from_index : (marks : List Bool) (p v : ℕ) → visible_of marks p ≡ Some v → place_of marks v ≡ Some p
place_from_index marks p v found = by_mark (get_or marks p true) refl found
  where
    by_mark : (m : Bool) → get_or marks p true ≡ m → cond m None (Some (visible_before marks p)) ≡ Some v → place_of marks v ≡ Some p
    by_mark true hidden none = absurd (cc)
    by_mark false shown index =
        let e : visible_before marks p ≡ v = cc in
        let z : 0 + p ≡ p = omega arith in
        ap (slice_get (visible_places marks)) (sym e) ∙ place_at 0 marks p shown ∙ ap Some z

pub index_from_place : (marks : List Bool) (p v : ℕ) → place_of marks v ≡ Some p → visible_of marks p ≡ Some v
index_from_place marks p v found =
    let (q, is, shown, index) = at_place 0 marks v p found in
    let e : p ≡ q = omega (arith, is) in
    ap (visible_of marks) e ∙ ap (λ b. cond b None (Some (visible_before marks q))) shown ∙ ap Some index

pub index_of_place : (marks : List Bool) (v : ℕ) (o : Option ℕ) → o ≡ place_of marks v → IfSome o (λ p. visible_of marks p ≡ Some v)
index_of_place marks v None is = tt
index_of_place marks v (Some p) is = index_from_place marks p v (sym is)

pub place_of_shown : (marks : List Bool) (p : ℕ) → get_or marks p true ≡ false → place_of marks (visible_before marks p) ≡ Some p
place_of_shown marks p shown = let z : 0 + p ≡ p = omega arith in place_at 0 marks p shown ∙ ap Some z

-- the index counts the visible lines before, and the line itself comes next
indexed : (marks : List Bool) (p v : ℕ) → place_of marks v ≡ Some p → (visible_before marks p ≡ v) × (visible_before marks (suc p) ≡ suc v)
indexed marks p v found =
    let (q, is, shown, index) = at_place 0 marks v p found in
    let e : p ≡ q = omega (arith, is) in
    let before : visible_before marks p ≡ v = ap (visible_before marks) e ∙ index in
    (before, visible_before-shown marks p (seen marks p (ap (λ i. get_or marks i true) e ∙ shown)) ∙ ap suc before)
  where
    seen : (ms : List Bool) (i : ℕ) → get_or ms i true ≡ false → slice_get ms i ≡ Some false
    seen [] i shown = absurd (cc)
    seen (m ∷ ms) zero shown = ap Some shown
    seen (m ∷ ms) (suc i) shown = seen ms i shown

-- the visible lines from one position to another are those with the indexes of the span
module _ (marks : List Bool) (first last v p : ℕ) (found : place_of marks v ≡ Some p) where
  pub span_holds : visible_before marks first < visible_before marks (suc last) → ((first ≤ p) × (p ≤ last)) ↔ ((visible_before marks first ≤ v) × (v ≤ visible_before marks (suc last) - 1))
  span_holds some =
      let (here, next) = indexed marks p v found in (
        λ (low, high).
            let before = visible_before-le marks first p low in
            let behind = visible_before-le marks (suc p) (suc last) (omega arith) in
            (omega (arith, before, here), omega (arith, behind, next)),
        λ (low, high). (first_in here next low, last_in here high),
      )
    where
      first_in : visible_before marks p ≡ v → visible_before marks (suc p) ≡ suc v → visible_before marks first ≤ v → first ≤ p
      first_in here next low = ⊎_elim (λ (lt : p < first). let behind = visible_before-le marks (suc p) first lt in absurd (omega (arith, behind, next, low))) (λ (le : first ≤ p). le) (cases_lt p first)

      last_in : visible_before marks p ≡ v → v ≤ visible_before marks (suc last) - 1 → p ≤ last
      last_in here high = ⊎_elim (λ (lt : last < p). let before = visible_before-le marks (suc last) p lt in absurd (omega (arith, before, here, high, some))) (λ (le : p ≤ last). le) (cases_lt last p)

  pub within_span : IfSome (span_of marks first last) (λ s. ((first ≤ p) × (p ≤ last)) ↔ ((s.0 ≤ v) × (v ≤ s.1)))
  within_span = by_test (nat_lt (visible_before marks first) (visible_before marks (suc last))) refl
    where
      by_test : (t : Bool) → nat_lt (visible_before marks first) (visible_before marks (suc last)) ≡ t →
          IfSome {T = ℕ × ℕ} (cond t (Some (visible_before marks first, visible_before marks (suc last) - 1)) None) (λ s. ((first ≤ p) × (p ≤ last)) ↔ ((s.0 ≤ v) × (v ≤ s.1)))
      by_test true some = span_holds (grind (arith, nat_tests))
      by_test false none = tt

pub span_order : (marks : List Bool) (first last : ℕ) → IfSome (span_of marks first last) (λ s. (s.0 ≤ s.1) × (s.1 < visible_count marks))
span_order marks first last = by_test (nat_lt (visible_before marks first) (visible_before marks (suc last))) refl
  where
    by_test : (t : Bool) → nat_lt (visible_before marks first) (visible_before marks (suc last)) ≡ t →
        IfSome {T = ℕ × ℕ} (cond t (Some (visible_before marks first, visible_before marks (suc last) - 1)) None) (λ s. (s.0 ≤ s.1) × (s.1 < visible_count marks))
    by_test true some =
        let lt : visible_before marks first < visible_before marks (suc last) = grind (arith, nat_tests) in
        (omega arith, omega (arith, visible_before-all marks (suc last)))
    by_test false none = tt

pub span_none : (marks : List Bool) (first last : ℕ) → first ≤ last → last < length marks → IsNone (span_of marks first last) ↔ ((p : ℕ) → first ≤ p → p ≤ last → slice_get marks p ≡ Some true)
span_none marks first last order within = by_test (nat_lt (visible_before marks first) (visible_before marks (suc last))) refl
  where
    by_test : (t : Bool) → nat_lt (visible_before marks first) (visible_before marks (suc last)) ≡ t →
        IsNone {T = ℕ × ℕ} (cond t (Some (visible_before marks first, visible_before marks (suc last) - 1)) None) ↔ ((p : ℕ) → first ≤ p → p ≤ last → slice_get marks p ≡ Some true)
    by_test true some =
        let lt : visible_before marks first < visible_before marks (suc last) = grind (arith, nat_tests) in
        (λ none. absurd (cc), λ hidden. absurd (omega (arith, lt, between_hidden marks first last order hidden)))
    by_test false rest =
        let le : visible_before marks (suc last) ≤ visible_before marks first = grind (arith, nat_tests) in
        (λ none. hidden_between marks first last within le, λ hidden. refl)
