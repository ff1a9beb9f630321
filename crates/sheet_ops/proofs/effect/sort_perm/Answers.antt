use Rattle.std.proofs.Common.{◌≡◌, ◌≢◌, ℕ, List, sym, subst, ◌∙◌, AllPairs, Contains}
use Rattle.std.specs.Prelude.{filter}
use Rattle.std.specs.List.Sorted.{IsPermutation}
use Rattle.std.proofs.lemmas.List.Sorted.{IsNonDecreasingBy-from_sort}
use Rattle.sheet_ops.specs.Lines.{has_number}
use Rattle.sheet_ops.proofs.Members.{ascending_distinct}
use Rattle.sheet_ops.proofs.Sorts.{from_distinct, to_up}
use Rattle.sheet_ops.proofs.SortMoves.{sorted_is, there, back, perm_answered}
use Rattle.sheet_ops.proofs.effect.sort_perm.Goals as goal
use Rattle.sheet_ops.proofs.effect.sort_perm.Goals.{After-deref-3}

-- the two lists that are handed on
from_is : (c : After-deref-3) → c.deref-2.result.now ≡ filter (has_number c.args.slots.now) c.args.recs.now
from_is c = c.deref-2.ensures.value ∙ rw (c.as_slice.ensures, c.as_slice-2.ensures) at c.in_ok-from.ensures

to_is : (c : After-deref-3) → c.deref-3.result.now ≡ filter (has_number c.args.recs.now) c.args.slots.now
to_is c =
    let same : c.in_ok-to.to.items ≡ filter (has_number c.args.slots.now) c.args.recs.now =
    c.in_ok-to.ensures.items ∙ (c.deref.ensures.value ∙ rw (c.as_slice.ensures, c.as_slice-2.ensures) at c.in_ok-from.ensures) in
    c.deref-3.ensures.value
    ∙ sorted_is c.requires.0 c.args.slots.now c.args.recs.now c.requires.1 c.sort_unstable.new.self.items
    (subst (λ (xs : List ℕ). IsPermutation xs c.sort_unstable.new.self.items) same c.sort_unstable.ensures.permutation)
    (IsNonDecreasingBy-from_sort (λ x. x) c.sort_unstable.new.self.items c.sort_unstable.ensures.sorted)

pub from_lists-requires-clause-from_once : goal.from_lists-requires-clause-from_once
from_lists-requires-clause-from_once c =
    subst (λ (xs : List ℕ). AllPairs (λ p q. p ≢ q) xs) (sym (from_is c)) (from_distinct c.requires.0 c.args.slots.now c.args.recs.now c.requires.1)

pub from_lists-requires-clause-to_once : goal.from_lists-requires-clause-to_once
from_lists-requires-clause-to_once c =
    subst (λ (xs : List ℕ). AllPairs (λ p q. p ≢ q) xs) (sym (to_is c)) (ascending_distinct (filter (has_number c.args.recs.now) c.args.slots.now) (to_up c.requires.0 c.args.slots.now c.args.recs.now c.requires.1))

pub from_lists-requires-clause-same : goal.from_lists-requires-clause-same
from_lists-requires-clause-same c p =
    let f = c.requires.1 in (
      (λ h. subst (λ (xs : List ℕ). Contains xs p) (sym (to_is c)) (there c.requires.0 c.args.slots.now c.args.recs.now f p (subst (λ (xs : List ℕ). Contains xs p) (from_is c) h))),
      (λ h. subst (λ (xs : List ℕ). Contains xs p) (sym (from_is c)) (back c.requires.0 c.args.slots.now c.args.recs.now f p (subst (λ (xs : List ℕ). Contains xs p) (to_is c) h))),
    )

pub returns : goal.returns
returns c =
    let d = (goal.at.returns c).After-deref-3 in
    perm_answered c.requires.0 c.args.slots.now c.args.recs.now c.requires.1 c.from_lists.result _ _ (from_is d) (to_is d) c.from_lists.ensures.bijective c.from_lists.ensures.sends c.from_lists.ensures.others
