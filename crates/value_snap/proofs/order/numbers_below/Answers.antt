use Rattle.std.proofs.Common.{ℕ, zero, suc, ◌+◌, ◌≡◌, ◌++◌, ◌∷◌, [], ◌∙◌, ap, refl, arith}
use Rattle.std.specs.List.{range_with_len}
use Rattle.value_snap.proofs.order.numbers_below.Goals as goal

range_more : (a n : ℕ) → range_with_len a n ++ (a + n) ∷ [] ≡ range_with_len a (n + 1)
range_more a zero = let e : 0 + 1 ≡ 1 = omega arith in let f : a + 0 ≡ a = omega arith in rw (f) refl
range_more a (suc n) = let e : suc n + 1 ≡ suc (n + 1) = omega arith in let f : a + suc n ≡ a + 1 + n = omega arith in rw (e, f) (ap (λ l. a ∷ l) (range_more (a + 1) n))

pub loop-n-preserved : goal.loop-n-preserved
loop-n-preserved c =
    c.in_ok-push.ensures.items
    ∙ ap (λ l. l ++ c.loop-n.n ∷ []) c.loop-n.invariant
    ∙ ap (λ k. range_with_len 0 c.loop-n.n ++ k ∷ []) (let e : c.loop-n.n ≡ 0 + c.loop-n.n = omega arith in e)
    ∙ range_more 0 c.loop-n.n
