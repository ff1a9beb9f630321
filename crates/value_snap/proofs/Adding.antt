-- The exchange that puts an entry behind the list keeps the rule.
use Rattle.std.proofs.Common.{◌≡◌, ℕ, ◌+◌, ◌<◌, ◌==◌, Bool, true, false, List, [], ◌∷◌, ◌++◌, length, refl, ap, sym, ◌∙◌, subst, arith, inl, length-append, None}
use Rattle.std.proofs.lemmas.List.{append-nil}
use Rattle.std.proofs.lemmas.Bool.Decides.{nat_tests}
use mathlib.Core.List.{IsPrefix}
use prog.Atomic.{either}
use Rattle.logbook.specs.Pages.{Cell, cell, keeps, no_nib, step, Moves, Goes}
use Rattle.value_snap.specs.declared.published.Published.{Published}
use Rattle.value_snap.specs.Lists.{IsOrdered, MayBePublished}
use Rattle.value_snap.specs.Log.{IsListed, Adds}
use Rattle.value_snap.proofs.Fronts.{full_begins, FollowsFrom, ordered_more, follows_is}

abbrev pub shown : List Published → List Published
shown list = []

abbrev pub moved : List Published → List Published → ℕ → Type 0
moved xs ys n = Unit {0}

abbrev pub AddsTo : List Published → Published → ℕ → List Cell → List Published → Type 0
AddsTo seen e n = Goes IsListed shown moved 0 (seen, (no_nib, None)) (λ k. either (k == n) (n + 1) k) (Adds (step 0 n (n + 1) e) (seen, (no_nib, None)))

goes_on : (list seen : List Published) (e : Published) (n : ℕ) → length seen ≡ n → MayBePublished seen e → IsOrdered list → IsPrefix seen list → (b : Bool) → (length list == n) ≡ b
    → AddsTo seen e n ((length list, true) ∷ (0, true) ∷ []) list
goes_on list seen e n len may ordered begins true is =
    let here : length list ≡ n = grind (arith, nat_tests) in
    let same : seen ≡ list = full_begins seen list begins (omega arith) in
    let more : IsOrdered (list ++ e ∷ []) = ordered_more 0 list e ordered (subst (λ (l : List Published). FollowsFrom 0 l e) same (follows_is seen e may)) in
    let count : either (length list == n) (n + 1) (length list) ≡ length (list ++ e ∷ []) = rw is (omega (arith, length-append list (e ∷ []))) in
    (keeps, e ∷ [], None, tt, record { words = ap (λ (k : ℕ). (k, true) ∷ (0, true) ∷ []) count; ordered = more }, inl (refl, refl), rw is (ap (λ w. w ++ e ∷ []) (sym same), more))
goes_on list seen e n len may ordered begins false is =
    let all : list ++ [] ≡ list = append-nil list in
    let count : either (length list == n) (n + 1) (length list) ≡ length (list ++ []) = rw is (ap length (sym all)) in
    (keeps, [], None, tt, record { words = ap (λ (k : ℕ). (k, true) ∷ (0, true) ∷ []) count; ordered = subst IsOrdered (sym all) ordered }, inl (refl, refl), rw is tt)

pub adding : (seen : List Published) (e : Published) (n : ℕ) → length seen ≡ n → MayBePublished seen e
    → Moves IsListed shown moved 0 (seen, (no_nib, None)) (λ k. either (k == n) (n + 1) k) (Adds (step 0 n (n + 1) e) (seen, (no_nib, None)))
adding seen e n len may cells list kept begins away =
    let P : List Cell → Type 0 = λ c. (0 < length c) × ((cell c 0).1 ≡ true) × AddsTo seen e n c list in
    subst P (sym kept.words) (omega arith, refl, goes_on list seen e n len may kept.ordered begins (length list == n) refl)
