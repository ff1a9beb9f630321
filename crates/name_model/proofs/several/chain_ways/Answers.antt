use Rattle.std.proofs.Common.{◌≡◌, ◌+◌, ◌<◌, ◌≤◌, List, length, refl, ap, sym, ◌∙◌, subst, arith}
use Rattle.ss_base.specs.declared.types.Size.{Size}
use Rattle.sheet_ops.specs.declared.operation.Effect.{Effect}
use Rattle.sheet_ops.specs.declared.operation.Intent.{Intent}
use Rattle.sheet_ops.specs.Chains.{size_past}
use Rattle.sheet_ops.specs.Effects.{StepsTo}
use Rattle.sheet_ops.specs.Fits.{EffectFits}
use Rattle.sheet_ops.specs.Placed.{placed_size}
use Rattle.sheet_grid.specs.Kept.{by_numbers}
use Rattle.sheet_grid.specs.Values.{NumberedSheet, kept_in, placed_in}
use Rattle.name_model.specs.InTurn.{EachFitsInTurn, StepsEach, size_past_each, own_each_past, other_past_each}
use Rattle.name_model.proofs.Lifted.{placed-whole}
use Rattle.name_model.proofs.Named.{left_by_identity, right_by_identity, both_same}
use Rattle.name_model.proofs.Sized.{grows}
use Rattle.name_model.proofs.Turns.{grows_each, each_fits, length-own_each_past}
use Rattle.name_model.proofs.several.chain_ways.Goals as goal

pub apply_each-requires-clause-fits : goal.apply_each-requires-clause-fits
apply_each-requires-clause-fits c =
    let own = c.args.own.now in
    let other = c.args.other.now in
    let s = placed_size (placed_in c.args.sheet.now) in
    let size : placed_size (placed_in c.apply_effect.new.sheet) ≡ size_past s other = c.in_ok-apply_effect.ensures.size ∙ ap (λ (V : NumberedSheet). size_past (placed_size (placed_in V)) other) c.in_ok-left.ensures in
    let is : c.as_slice.result.now ≡ own_each_past s own other = c.as_slice.ensures ∙ (c.in_ok-own_after.ensures.own ∙ ap (λ (z : Size). own_each_past z own other) c.size.ensures.size) in
    subst (λ (z : Size). EachFitsInTurn z c.as_slice.result.now) (sym size) (subst (λ (cs : List Intent). EachFitsInTurn (size_past s other) cs) (sym is) (each_fits s own other c.requires.own c.requires.other).0)

pub apply_each-requires-clause-rows : goal.apply_each-requires-clause-rows
apply_each-requires-clause-rows c =
    let own = c.args.own.now in
    let other = c.args.other.now in
    let s = placed_size (placed_in c.args.sheet.now) in
    let size : placed_size (placed_in c.apply_effect.new.sheet) ≡ size_past s other = c.in_ok-apply_effect.ensures.size ∙ ap (λ (V : NumberedSheet). size_past (placed_size (placed_in V)) other) c.in_ok-left.ensures in
    let is : c.as_slice.result.now ≡ own_each_past s own other = c.as_slice.ensures ∙ (c.in_ok-own_after.ensures.own ∙ ap (λ (z : Size). own_each_past z own other) c.size.ensures.size) in
    let many : length (own_each_past s own other) ≡ length own = length-own_each_past s own other in
    let more : (size_past s other).rows ≤ s.rows + 1 = (grows s other).0 in
    let room : s.rows + length own + 1 ≤ 16000 = c.requires.rows in
    subst (λ (z : Size). z.rows + length c.as_slice.result.now ≤ 16000) (sym size) (subst (λ (cs : List Intent). (size_past s other).rows + length cs ≤ 16000) (sym is) (omega (arith, many, more, room)))

pub apply_each-requires-clause-cols : goal.apply_each-requires-clause-cols
apply_each-requires-clause-cols c =
    let own = c.args.own.now in
    let other = c.args.other.now in
    let s = placed_size (placed_in c.args.sheet.now) in
    let size : placed_size (placed_in c.apply_effect.new.sheet) ≡ size_past s other = c.in_ok-apply_effect.ensures.size ∙ ap (λ (V : NumberedSheet). size_past (placed_size (placed_in V)) other) c.in_ok-left.ensures in
    let is : c.as_slice.result.now ≡ own_each_past s own other = c.as_slice.ensures ∙ (c.in_ok-own_after.ensures.own ∙ ap (λ (z : Size). own_each_past z own other) c.size.ensures.size) in
    let many : length (own_each_past s own other) ≡ length own = length-own_each_past s own other in
    let more : (size_past s other).cols ≤ s.cols + 1 = (grows s other).1 in
    let room : s.cols + length own + 1 ≤ 16000 = c.requires.cols in
    subst (λ (z : Size). z.cols + length c.as_slice.result.now ≤ 16000) (sym size) (subst (λ (cs : List Intent). (size_past s other).cols + length cs ≤ 16000) (sym is) (omega (arith, many, more, room)))

pub apply_effect-requires-2-clause-fits : goal.apply_effect-requires-2-clause-fits
apply_effect-requires-2-clause-fits c =
    let own = c.args.own.now in
    let other = c.args.other.now in
    let s = placed_size (placed_in c.args.sheet.now) in
    let size : placed_size (placed_in c.apply_each-2.new.sheet) ≡ size_past_each s own =
    c.in_ok-apply_each-2.ensures.size ∙ (ap (λ (V : NumberedSheet). size_past_each (placed_size (placed_in V)) c.as_slice-2.result.now) c.in_ok-right.ensures ∙ ap (λ (cs : List Intent). size_past_each s cs) c.as_slice-2.ensures) in
    let is : c.in_ok-own_after.other_after ≡ other_past_each s own other = c.in_ok-own_after.ensures.other ∙ ap (λ (z : Size). other_past_each z own other) c.size.ensures.size in
    subst (λ (z : Size). EffectFits z c.in_ok-own_after.other_after) (sym size) (subst (λ (e : Effect). EffectFits (size_past_each s own) e) (sym is) (each_fits s own other c.requires.own c.requires.other).1)

pub apply_effect-requires-2-clause-rows : goal.apply_effect-requires-2-clause-rows
apply_effect-requires-2-clause-rows c =
    let own = c.args.own.now in
    let s = placed_size (placed_in c.args.sheet.now) in
    let size : placed_size (placed_in c.apply_each-2.new.sheet) ≡ size_past_each s own =
    c.in_ok-apply_each-2.ensures.size ∙ (ap (λ (V : NumberedSheet). size_past_each (placed_size (placed_in V)) c.as_slice-2.result.now) c.in_ok-right.ensures ∙ ap (λ (cs : List Intent). size_past_each s cs) c.as_slice-2.ensures) in
    let more : (size_past_each s own).rows ≤ s.rows + length own = (grows_each s own).0 in
    let room : s.rows + length own + 1 ≤ 16000 = c.requires.rows in
    subst (λ (z : Size). z.rows < 16000) (sym size) (omega (arith, more, room))

pub apply_effect-requires-2-clause-cols : goal.apply_effect-requires-2-clause-cols
apply_effect-requires-2-clause-cols c =
    let own = c.args.own.now in
    let s = placed_size (placed_in c.args.sheet.now) in
    let size : placed_size (placed_in c.apply_each-2.new.sheet) ≡ size_past_each s own =
    c.in_ok-apply_each-2.ensures.size ∙ (ap (λ (V : NumberedSheet). size_past_each (placed_size (placed_in V)) c.as_slice-2.result.now) c.in_ok-right.ensures ∙ ap (λ (cs : List Intent). size_past_each s cs) c.as_slice-2.ensures) in
    let more : (size_past_each s own).cols ≤ s.cols + length own = (grows_each s own).1 in
    let room : s.cols + length own + 1 ≤ 16000 = c.requires.cols in
    subst (λ (z : Size). z.cols < 16000) (sym size) (omega (arith, more, room))

pub returns-clause-left : goal.returns-clause-left
returns-clause-left c =
    let own = c.args.own.now in
    let other = c.args.other.now in
    let P = placed_in c.args.sheet.now in
    let R = placed_in c.apply_effect.new.sheet in
    let Q = placed_in c.apply_each.new.sheet in
    let is : c.as_slice.result.now ≡ own_each_past (placed_size P) own other = c.as_slice.ensures ∙ (c.in_ok-own_after.ensures.own ∙ ap (λ (z : Size). own_each_past z own other) c.size.ensures.size) in
    left_by_identity P own other c.requires.own c.requires.other R Q
    (subst (λ (V : NumberedSheet). StepsTo (placed_in V) other R) c.in_ok-left.ensures c.in_ok-apply_effect.ensures.step)
    (subst (λ (cs : List Intent). StepsEach R cs Q) is c.in_ok-apply_each.ensures.steps)

pub returns-clause-right : goal.returns-clause-right
returns-clause-right c =
    let own = c.args.own.now in
    let other = c.args.other.now in
    let P = placed_in c.args.sheet.now in
    let R = placed_in c.apply_each-2.new.sheet in
    let Q = placed_in c.apply_effect-2.new.sheet in
    let is : c.in_ok-own_after.other_after ≡ other_past_each (placed_size P) own other = c.in_ok-own_after.ensures.other ∙ ap (λ (z : Size). other_past_each z own other) c.size.ensures.size in
    right_by_identity P own other c.requires.own c.requires.other R Q
    (subst (λ (V : NumberedSheet). StepsEach (placed_in V) own R) c.in_ok-right.ensures (subst (λ (cs : List Intent). StepsEach (placed_in c.in_ok-right.right) cs R) c.as_slice-2.ensures c.in_ok-apply_each-2.ensures.steps))
    (subst (λ (e : Effect). StepsTo R e Q) is c.in_ok-apply_effect-2.ensures.step)

pub returns-clause-same : goal.returns-clause-same
returns-clause-same c =
    let P = placed_in c.args.sheet.now in
    both_same P (placed-whole (by_numbers (kept_in c.args.sheet.now)) c.size.ensures.inside) c.args.own.now c.args.other.now c.requires.own
    (placed_in c.apply_each.new.sheet) (placed_in c.apply_effect-2.new.sheet) (returns-clause-left c) (returns-clause-right c)
