use Rattle.std.proofs.Common.{◌≡◌, ℕ, ◌+◌, ◌<◌, Bool, true, false, cond, [], ◌∷◌, refl, arith, inl, inr}
use Rattle.std.specs.Prelude.{nat_lt}
use Rattle.std.proofs.lemmas.Bool.Decides.{nat_tests}
use Rattle.cell_walk.specs.Walks.{IsIn, MentionsWithin}
use Rattle.grid_tests.proofs.walks.walked.Goals as goal

within_chain : (count : ℕ) (ring : Bool) → 0 < count → MentionsWithin count (λ cell. cond (nat_lt (cell + 1) count) ((cell + 1) ∷ []) (cond ring (0 ∷ []) []))
within_chain count ring some c d below i = by_next (nat_lt (c + 1) count) refl i
  where
    by_ring : (r : Bool) → IsIn d (cond r (0 ∷ []) []) → d < count
    by_ring true (inl p) = omega (arith, p, some)
    by_ring true (inr k) = absurd k
    by_ring false k = absurd k

    by_next : (b : Bool) → nat_lt (c + 1) count ≡ b → IsIn d (cond b ((c + 1) ∷ []) (cond ring (0 ∷ []) [])) → d < count
    by_next true e (inl p) = let l : c + 1 < count = grind (arith, nat_tests) in omega (arith, p, l)
    by_next true e (inr k) = absurd k
    by_next false e k = by_ring ring k

pub walk_new-requires : goal.walk_new-requires
walk_new-requires c = within_chain 64000 c.args.ring (omega arith)
