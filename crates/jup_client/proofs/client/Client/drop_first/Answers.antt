use Rattle.std.proofs.Common.{◌≡◌, refl, List, ◌∷◌, ap, sym, ◌∙◌, arith}
use Rattle.sheet_ops.specs.declared.operation.Intent.{Intent}
use Rattle.jup_client.proofs.Stays.{split_first, own_client, own_state}
use Rattle.jup_client.proofs.client.Client.drop_first.Goals as goal

pub invariant_of-self : goal.invariant_of-self
invariant_of-self c =
    let xs = c.self.inside.pending.items in
    let first = c.in-Some.first.now in
    let split : xs ≡ first ∷ c.pop_front.new.self.items =
    split_first xs first (omega (arith, c.in-Some.ensures.variant.0 refl, c.self.inside.pending.ok)) c.in-Some.ensures.lookup ∙ ap (λ (ys : List Intent). first ∷ ys) (sym c.pop_front.ensures.rest) in
    own_client _ c.self.invariant first c.pop_front.new.self.items split c.size_past_own-base.result c.size_past_own-base.ensures c.if-is_big.ensures _

pub returns-clause-done : goal.returns-clause-done
returns-clause-done c =
    let xs = c.self.inside.pending.items in
    let first = c.in-Some.first.now in
    let split : xs ≡ first ∷ c.pop_front.new.self.items =
    split_first xs first (omega (arith, c.in-Some.ensures.variant.0 refl, c.self.inside.pending.ok)) c.in-Some.ensures.lookup ∙ ap (λ (ys : List Intent). first ∷ ys) (sym c.pop_front.ensures.rest) in
    own_state _ c.args.self.now c.self.view_is first c.pop_front.new.self.items split c.size_past_own-base.result c.size_past_own-base.ensures _ c.saturating_add-self-inside.ensures
