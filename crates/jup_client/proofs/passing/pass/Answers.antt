use Rattle.std.proofs.Common.{◌≡◌, ◌+◌, ◌<◌, ap, sym, ◌∙◌, subst, take, reverse, length, arith, List, [], ◌∷◌, ◌++◌, refl, None}
use Rattle.std.specs.Prelude.{unwrap_or}
use Rattle.std.proofs.lemmas.List.{take_all}
use Rattle.ss_base.specs.declared.types.Size.{Size}
use Rattle.sheet_ops.specs.declared.operation.Intent.{Intent}
use Rattle.sheet_ops.specs.declared.operation.Effect.{Effect}
use Rattle.sheet_ops.specs.Naming.{effect_of_intent}
use Rattle.sheet_ops.specs.Fits.{IntentFits, EffectFits}
use Rattle.sheet_ops.specs.Squares.{Converges}
use Rattle.sheet_ops.specs.Chains.{size_past, size_after, EachFitsAfter, PassesOwn}
use Rattle.sheet_ops.specs.Transforms.{own_past, other_past}
use Rattle.sheet_ops.proofs.Sizes.{sizes_meet, grows}
use Rattle.pair_transform.specs.Changes.{replaced}
use Rattle.pair_transform.proofs.Replaced.{or_else, replaced_behind}
use Rattle.jup_client.proofs.OnePassed.{fits_at, passes_more, size_more, fits_more, sized_more, replaced_next}
use Rattle.jup_client.proofs.passing.pass.Goals as goal

pub loop-i-init : goal.loop-i-init
loop-i-init c = rw (c.new-own.ensures.items) (record { sized = refl; other_fits = c.requires.effect; passed = (refl, refl); own_fits = tt; meets = refl; few = omega arith; rows = omega arith; cols = omega arith })

pub xform_changes-requires-clause-rows : goal.xform_changes-requires-clause-rows
xform_changes-requires-clause-rows c = omega (arith, c.loop-i.invariant.rows, c.requires.rows, c.loop-i-test.true, c.len-i-end.ensures, c.args.pending.now.ok)

pub xform_changes-requires-clause-cols : goal.xform_changes-requires-clause-cols
xform_changes-requires-clause-cols c = omega (arith, c.loop-i.invariant.cols, c.requires.cols, c.loop-i-test.true, c.len-i-end.ensures, c.args.pending.now.ok)

pub xform_changes-requires-clause-own : goal.xform_changes-requires-clause-own
xform_changes-requires-clause-own c =
    let below : c.loop-i.i < length c.args.pending.now.items = omega (arith, c.loop-i-test.true, c.len-i-end.ensures, c.args.pending.now.ok) in
    let fits = fits_at c.args.base c.args.pending.now.items c.loop-i.i c.index-op.result.now below c.requires.fits in
    subst (λ (z : Size). IntentFits z c.index-op.result.now) (sym c.loop-i.invariant.sized)
    (subst (λ (op : Intent). IntentFits (size_after c.args.base (reverse (take c.loop-i.i c.args.pending.now.items))) op) (sym c.index-op.ensures) fits)

pub xform_changes-requires-clause-other : goal.xform_changes-requires-clause-other
xform_changes-requires-clause-other c = subst (EffectFits c.loop-i.size) (sym c.changed_or-before.ensures) c.loop-i.invariant.other_fits

pub size_past_own-size-requires : goal.size_past_own-size-requires
size_past_own-size-requires c =
    let below : c.loop-i.i < length c.args.pending.now.items = omega (arith, c.loop-i-test.true, c.len-i-end.ensures, c.args.pending.now.ok) in
    (omega (arith, c.loop-i.invariant.rows, c.requires.rows, below), omega (arith, c.loop-i.invariant.cols, c.requires.cols, below))

pub loop-i-preserved : goal.loop-i-preserved
loop-i-preserved c =
    let below : c.loop-i.i < length c.args.pending.now.items = omega (arith, c.loop-i-test.true, c.len-i-end.ensures, c.args.pending.now.ok) in
    let xs = c.args.pending.now.items in
    let i = c.loop-i.i in
    let op = c.index-op.result.now in
    let mid = unwrap_or c.loop-i.other c.args.effect.now in
    let done = replaced c.loop-i.own.items (take c.loop-i.i c.args.pending.now.items) in
    let c' = unwrap_or c.in_ok-own_change.own_change op in
    let last = unwrap_or c.or-other.result c.args.effect.now in
    let more = grows c.loop-i.size (effect_of_intent op) in
    let inv = c.loop-i.invariant in
    let past = c.in_ok-own_change.ensures in
    let as_before = c.changed_or-before.ensures in
    let is_last : unwrap_or c.in_ok-own_change.other_change c.changed_or-before.result.now ≡ unwrap_or c.or-other.result c.args.effect.now =
    ap (unwrap_or c.in_ok-own_change.other_change) as_before ∙ or_else c.in_ok-own_change.other_change c.loop-i.other c.args.effect.now c.or-other.result c.or-other.ensures in
    let next : replaced c.note_change.new.changes.items (take (c.loop-i.i + 1) xs) ≡ done ++ c' ∷ [] =
    replaced_next xs i op below c.index-op.ensures c.loop-i.own.items c.note_change.new.changes.items c.in_ok-own_change.own_change c.in_ok-note_change.ensures.noted in
    let pair : Converges c.loop-i.size op mid c' last =
    subst (λ (e : Effect). Converges c.loop-i.size op e c' last) as_before (subst (λ (e : Effect). Converges c.loop-i.size op c.changed_or-before.result.now c' e) is_last past.converges) in
    record {
      sized = c.size_past_own-size.ensures ∙ (ap (λ (op : Intent). size_past c.loop-i.size (effect_of_intent op)) c.index-op.ensures
          ∙ size_more c.args.base xs i op below c.loop-i.size inv.sized);
      other_fits = subst (λ (z : Size). EffectFits z last) (sym c.size_past_own-size.ensures) (subst (λ (e : Effect). EffectFits (size_past c.loop-i.size (effect_of_intent op)) e) is_last past.other_fits);
      passed = passes_more c.args.base c.args.effect.now xs i op below done mid c.loop-i.size inv.sized inv.passed c' last
          (subst (λ (d : Intent). Converges c.loop-i.size d mid c' last) c.index-op.ensures pair) (replaced c.note_change.new.changes.items (take (c.loop-i.i + 1) xs)) next;
      own_fits = fits_more (size_past c.args.base c.args.effect.now) done c' (replaced c.note_change.new.changes.items (take (c.loop-i.i + 1) xs)) next inv.own_fits (size_past c.loop-i.size mid) (sym inv.meets)
          (subst (λ (e : Effect). IntentFits (size_past c.loop-i.size e) c') as_before past.own_fits);
      meets = sized_more (size_past c.args.base c.args.effect.now) done c' (replaced c.note_change.new.changes.items (take (c.loop-i.i + 1) xs)) next
          ∙ (ap (λ (z : Size). size_past z (effect_of_intent c')) inv.meets
          ∙ (sizes_meet c.loop-i.size op mid c' last (subst (λ (e : Effect). c' ≡ own_past op e) as_before past.own) (sym is_last ∙ (past.other ∙ ap (other_past c.loop-i.size op) as_before))
          ∙ ap (λ (z : Size). size_past z last) (sym c.size_past_own-size.ensures)));
      few = c.in_ok-note_change.ensures.few;
      rows = omega (arith, more.0, ap (λ (z : Size). z.rows) c.size_past_own-size.ensures, inv.rows);
      cols = omega (arith, more.1, ap (λ (z : Size). z.cols) c.size_past_own-size.ensures, inv.cols);
    }

-- an operation that the effect leaves and that leaves it
pub loop-i-preserved-then-leaves_both : goal.loop-i-preserved-then-leaves_both
loop-i-preserved-then-leaves_both c =
    let below : c.loop-i.i < length c.args.pending.now.items = omega (arith, c.loop-i-test.true, c.len-i-end.ensures, c.args.pending.now.ok) in
    let xs = c.args.pending.now.items in
    let i = c.loop-i.i in
    let op = c.index-op.result.now in
    let size = c.loop-i.size in
    let mid = unwrap_or c.loop-i.other c.args.effect.now in
    let done = replaced c.loop-i.own.items (take c.loop-i.i c.args.pending.now.items) in
    let inv = c.loop-i.invariant in
    let as_before = c.changed_or-before.ensures in
    let sizes = c.if-leaves_both.ensures.sizes refl in
    let fits : IntentFits size op =
    subst (λ (z : Size). IntentFits z op) (sym inv.sized)
    (subst (λ (d : Intent). IntentFits (size_after c.args.base (reverse (take c.loop-i.i c.args.pending.now.items))) d) (sym c.index-op.ensures) (fits_at c.args.base xs i op below c.requires.fits)) in
    let pair : Converges size op mid op mid =
    subst (λ (e : Effect). Converges size op e op e) as_before (c.if-leaves_both.ensures.converges refl size fits (subst (EffectFits size) (sym as_before) inv.other_fits)) in
    let next : replaced c.loop-i.own.items (take (c.loop-i.i + 1) xs) ≡ done ++ op ∷ [] =
    replaced_next xs i op below c.index-op.ensures c.loop-i.own.items c.loop-i.own.items None (λ ys y many. replaced_behind c.loop-i.own.items ys (y ∷ []) (omega (arith, inv.few, many))) in
    let same_size : size_past size mid ≡ size = ap (size_past size) (sym as_before) ∙ (sizes size).1 in
    record {
      sized = sym (sizes size).0 ∙ (ap (λ (d : Intent). size_past size (effect_of_intent d)) c.index-op.ensures ∙ size_more c.args.base xs i op below size inv.sized);
      other_fits = inv.other_fits;
      passed = passes_more c.args.base c.args.effect.now xs i op below done mid size inv.sized inv.passed op mid (subst (λ (d : Intent). Converges size d mid op mid) c.index-op.ensures pair)
          (replaced c.loop-i.own.items (take (c.loop-i.i + 1) xs)) next;
      own_fits = fits_more (size_past c.args.base c.args.effect.now) done op (replaced c.loop-i.own.items (take (c.loop-i.i + 1) xs)) next inv.own_fits (size_past size mid) (sym inv.meets)
          (subst (λ (z : Size). IntentFits z op) (sym same_size) fits);
      meets = sized_more (size_past c.args.base c.args.effect.now) done op (replaced c.loop-i.own.items (take (c.loop-i.i + 1) xs)) next
          ∙ (ap (λ (z : Size). size_past z (effect_of_intent op)) inv.meets ∙ (sizes (size_past size mid)).0);
      few = omega (arith, inv.few);
      rows = omega (arith, inv.rows);
      cols = omega (arith, inv.cols);
    }

pub returns-clause-passes : goal.returns-clause-passes
returns-clause-passes c =
    let whole = take_all c.loop-i.i c.args.pending.now.items (omega (arith, c.loop-i-test.false, c.len-i-end.ensures, c.args.pending.now.ok)) in
    subst (λ (ps : List Intent). PassesOwn c.args.base c.args.effect.now (reverse ps) (reverse (replaced c.loop-i.own.items ps)) (unwrap_or c.loop-i.other c.args.effect.now)) whole c.loop-i.invariant.passed

pub returns-clause-fits : goal.returns-clause-fits
returns-clause-fits c =
    let whole = take_all c.loop-i.i c.args.pending.now.items (omega (arith, c.loop-i-test.false, c.len-i-end.ensures, c.args.pending.now.ok)) in
    subst (λ (ps : List Intent). EachFitsAfter (size_past c.args.base c.args.effect.now) (reverse (replaced c.loop-i.own.items ps))) whole c.loop-i.invariant.own_fits

pub returns-clause-last : goal.returns-clause-last
returns-clause-last c =
    let whole = take_all c.loop-i.i c.args.pending.now.items (omega (arith, c.loop-i-test.false, c.len-i-end.ensures, c.args.pending.now.ok)) in
    subst (λ (z : Size). EffectFits z (unwrap_or c.loop-i.other c.args.effect.now)) (c.loop-i.invariant.sized ∙ ap (λ (ps : List Intent). size_after c.args.base (reverse ps)) whole) c.loop-i.invariant.other_fits

pub returns-clause-sized : goal.returns-clause-sized
returns-clause-sized c =
    let whole = take_all c.loop-i.i c.args.pending.now.items (omega (arith, c.loop-i-test.false, c.len-i-end.ensures, c.args.pending.now.ok)) in
    ap (λ (ps : List Intent). size_after (size_past c.args.base c.args.effect.now) (reverse (replaced c.loop-i.own.items ps))) (sym whole)
    ∙ (c.loop-i.invariant.meets ∙ ap (λ (z : Size). size_past z (unwrap_or c.loop-i.other c.args.effect.now)) (c.loop-i.invariant.sized ∙ ap (λ (ps : List Intent). size_after c.args.base (reverse ps)) whole))
