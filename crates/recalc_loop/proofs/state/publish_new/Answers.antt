use Rattle.std.proofs.Common.{◌≡◌, List, [], false, true, map, ap, sym, ◌∙◌, subst, refl, arith}
use Rattle.std.specs.List.{AllZip}
use Rattle.std.proofs.lemmas.Result.{on_ok_weaker}
use Rattle.sheet_ops.specs.declared.operation.Effect.{Effect}
use Rattle.sheet_value.specs.declared.batch.Batch.{Batch}
use Rattle.recalc_loop.specs.Evaluations.{AreNext, IsEvaluated}
use Rattle.turn_book.specs.Passes.{items_in}
use Rattle.recalc_loop.specs.Publishing.{batch_of, published, MayHavePublished}
use Rattle.recalc_loop.proofs.Turns.{at_ok, on_ok_always, on_err_always, none_left, not_longer, none_published, batch_leads, nothing_lacks, desk_same, current_same, follows, desk_refused, desk_published, current_published}
use Rattle.recalc_loop.proofs.Evaluating.{as_many}
use Rattle.recalc_loop.proofs.state.publish_new.Goals as goal

pub returns-then-is_empty-clause-ok : goal.returns-then-is_empty-clause-ok
returns-then-is_empty-clause-ok g c =
    let size = g.J.Workplace.size in
    let sites = g.J.Workplace.sites in
    let p = c.args.pass.now in
    let e = c.args.evaluation.now in
    let (h, begins, before, whole) = c.requires.before in
    let next : AreNext size sites (items_in p.seen) e c.in_ok-effects.effects = at_ok (λ es. AreNext size sites (items_in p.seen) e es) c.args.effects c.in_ok-effects.effects c.in_ok-effects.was c.requires.effects in
    let none : AreNext size sites (items_in p.seen) e [] = subst (λ (es : List Effect). AreNext size sites (items_in p.seen) e es) (c.if-is_empty.ensures.0 refl) next in
    desk_same g.J.Workplace.book size sites g.J.Workplace.stores p h c.args.publishers.now e begins before none c.requires.desk c.requires.unspent whole

pub returns-then-is_empty-clause-current : goal.returns-then-is_empty-clause-current
returns-then-is_empty-clause-current g c =
    let size = g.J.Workplace.size in
    let sites = g.J.Workplace.sites in
    let p = c.args.pass.now in
    let e = c.args.evaluation.now in
    let (h, begins, before, whole) = c.requires.before in
    let next : AreNext size sites (items_in p.seen) e c.in_ok-effects.effects = at_ok (λ es. AreNext size sites (items_in p.seen) e es) c.args.effects c.in_ok-effects.effects c.in_ok-effects.was c.requires.effects in
    let none : AreNext size sites (items_in p.seen) e [] = subst (λ (es : List Effect). AreNext size sites (items_in p.seen) e es) (c.if-is_empty.ensures.0 refl) next in
    current_same g.J.Workplace.book size sites g.J.Workplace.stores p h c.args.publishers.now e begins before none

pub publish_all-requires-clause-follows : goal.publish_all-requires-clause-follows
publish_all-requires-clause-follows g c =
    let size = g.J.Workplace.size in
    let sites = g.J.Workplace.sites in
    let p = c.args.pass.now in
    let e = c.args.evaluation.now in
    let (h, begins, before, whole) = c.requires.before in
    let next : AreNext size sites (items_in p.seen) e c.in_ok-effects.effects = at_ok (λ es. AreNext size sites (items_in p.seen) e es) c.args.effects c.in_ok-effects.effects c.in_ok-effects.was c.requires.effects in
    let given : AreNext size sites (items_in p.seen) e c.as_slice.result.now = subst (λ (es : List Effect). AreNext size sites (items_in p.seen) e es) (sym c.as_slice.ensures) next in
    let now : IsEvaluated size (items_in p.seen) c.advance.new.self = c.in_ok-batch.ensures.evaluated size sites (items_in p.seen) given in
    follows g.J.Workplace.book size sites g.J.Workplace.stores p h c.args.publishers.now c.requires.desk e c.advance.new.self before now c.in_ok-batch.batch c.in_ok-batch.ensures.batch
    (λ k q inside. (whole k q inside).count) (not_longer h (items_in p.seen) begins)

pub returns-clause-ok : goal.returns-clause-ok
returns-clause-ok g c =
    let size = g.J.Workplace.size in
    let sites = g.J.Workplace.sites in
    let p = c.args.pass.now in
    let e = c.args.evaluation.now in
    let (h, begins, before, whole) = c.requires.before in
    let next : AreNext size sites (items_in p.seen) e c.in_ok-effects.effects = at_ok (λ es. AreNext size sites (items_in p.seen) e es) c.args.effects c.in_ok-effects.effects c.in_ok-effects.was c.requires.effects in
    let given : AreNext size sites (items_in p.seen) e c.as_slice.result.now = subst (λ (es : List Effect). AreNext size sites (items_in p.seen) e es) (sym c.as_slice.ensures) next in
    let now : IsEvaluated size (items_in p.seen) c.advance.new.self = c.in_ok-batch.ensures.evaluated size sites (items_in p.seen) given in
    on_ok_weaker c.publish_all.result
    (λ is. desk_published g.J.Workplace.book size sites g.J.Workplace.stores p h c.args.publishers.now c.requires.desk e c.advance.new.self before now c.in_ok-batch.batch c.in_ok-batch.ensures.batch
    c.publish_all.new.publishers c.publish_all.ensures.each is c.requires.unspent)
    c.publish_all.ensures.ok

pub returns-clause-current : goal.returns-clause-current
returns-clause-current g c =
    let size = g.J.Workplace.size in
    let sites = g.J.Workplace.sites in
    let p = c.args.pass.now in
    let e = c.args.evaluation.now in
    let (h, begins, before, whole) = c.requires.before in
    let next : AreNext size sites (items_in p.seen) e c.in_ok-effects.effects = at_ok (λ es. AreNext size sites (items_in p.seen) e es) c.args.effects c.in_ok-effects.effects c.in_ok-effects.was c.requires.effects in
    let given : AreNext size sites (items_in p.seen) e c.as_slice.result.now = subst (λ (es : List Effect). AreNext size sites (items_in p.seen) e es) (sym c.as_slice.ensures) next in
    let now : IsEvaluated size (items_in p.seen) c.advance.new.self = c.in_ok-batch.ensures.evaluated size sites (items_in p.seen) given in
    on_ok_weaker c.publish_all.result
    (λ is. current_published g.J.Workplace.book size sites g.J.Workplace.stores p h c.args.publishers.now c.requires.desk e c.advance.new.self before now c.in_ok-batch.batch c.in_ok-batch.ensures.batch
    c.publish_all.new.publishers c.publish_all.ensures.each is)
    c.publish_all.ensures.ok

pub returns-clause-err : goal.returns-clause-err
returns-clause-err g c =
    let size = g.J.Workplace.size in
    let sites = g.J.Workplace.sites in
    let p = c.args.pass.now in
    let e = c.args.evaluation.now in
    let (h, begins, before, whole) = c.requires.before in
    let next : AreNext size sites (items_in p.seen) e c.in_ok-effects.effects = at_ok (λ es. AreNext size sites (items_in p.seen) e es) c.args.effects c.in_ok-effects.effects c.in_ok-effects.was c.requires.effects in
    let given : AreNext size sites (items_in p.seen) e c.as_slice.result.now = subst (λ (es : List Effect). AreNext size sites (items_in p.seen) e es) (sym c.as_slice.ensures) next in
    let now : IsEvaluated size (items_in p.seen) c.advance.new.self = c.in_ok-batch.ensures.evaluated size sites (items_in p.seen) given in
    on_err_always c.publish_all.result
    (desk_refused g.J.Workplace.book size sites g.J.Workplace.stores p h c.args.publishers.now c.requires.desk e c.advance.new.self before now c.in_ok-batch.batch c.in_ok-batch.ensures.batch
    c.publish_all.new.publishers c.publish_all.ensures.each)

pub returns-clause-nothing_new : goal.returns-clause-nothing_new
returns-clause-nothing_new g c =
    let size = g.J.Workplace.size in
    let sites = g.J.Workplace.sites in
    let p = c.args.pass.now in
    let e = c.args.evaluation.now in
    let next : AreNext size sites (items_in p.seen) e c.in_ok-effects.effects = at_ok (λ es. AreNext size sites (items_in p.seen) e es) c.args.effects c.in_ok-effects.effects c.in_ok-effects.was c.requires.effects in
    let long = as_many size sites (items_in p.seen) e c.in_ok-effects.effects next in
    on_ok_always c.publish_all.result
    (λ full.
    let none : c.in_ok-effects.effects ≡ [] = none_left c.in_ok-effects.effects (omega (arith, long, full)) in
    absurd (let clash : false ≡ true = c.if-is_empty.ensures.1 none in cc))

pub returns-then-is_empty-clause-one_batch : goal.returns-then-is_empty-clause-one_batch
returns-then-is_empty-clause-one_batch g c h begins old more =
    let size = g.J.Workplace.size in
    let sites = g.J.Workplace.sites in
    let p = c.args.pass.now in
    let e = c.args.evaluation.now in
    let next : AreNext size sites (items_in p.seen) e c.in_ok-effects.effects = at_ok (λ es. AreNext size sites (items_in p.seen) e es) c.args.effects c.in_ok-effects.effects c.in_ok-effects.was c.requires.effects in
    let none : AreNext size sites (items_in p.seen) e [] = subst (λ (es : List Effect). AreNext size sites (items_in p.seen) e es) (c.if-is_empty.ensures.0 refl) next in
    absurd (more (sym (nothing_lacks size h (items_in p.seen) e old sites begins none)))

pub returns-clause-one_batch : goal.returns-clause-one_batch
returns-clause-one_batch g c h begins old =
    let size = g.J.Workplace.size in
    let sites = g.J.Workplace.sites in
    let p = c.args.pass.now in
    let e = c.args.evaluation.now in
    let next : AreNext size sites (items_in p.seen) e c.in_ok-effects.effects = at_ok (λ es. AreNext size sites (items_in p.seen) e es) c.args.effects c.in_ok-effects.effects c.in_ok-effects.was c.requires.effects in
    let given : AreNext size sites (items_in p.seen) e c.as_slice.result.now = subst (λ (es : List Effect). AreNext size sites (items_in p.seen) e es) (sym c.as_slice.ensures) next in
    let now : IsEvaluated size (items_in p.seen) c.advance.new.self = c.in_ok-batch.ensures.evaluated size sites (items_in p.seen) given in
    let leads : c.in_ok-batch.batch ≡ batch_of size h (items_in p.seen) = batch_leads size h (items_in p.seen) e old c.advance.new.self now c.in_ok-batch.batch c.in_ok-batch.ensures.batch in
    on_ok_weaker c.publish_all.result (λ is more. is ∙ ap (λ (b : Batch). map (published b) c.args.publishers.now) leads) c.publish_all.ensures.ok

pub returns-clause-kept : goal.returns-clause-kept
returns-clause-kept g c h old =
    let size = g.J.Workplace.size in
    let sites = g.J.Workplace.sites in
    let p = c.args.pass.now in
    let e = c.args.evaluation.now in
    let next : AreNext size sites (items_in p.seen) e c.in_ok-effects.effects = at_ok (λ es. AreNext size sites (items_in p.seen) e es) c.args.effects c.in_ok-effects.effects c.in_ok-effects.was c.requires.effects in
    let given : AreNext size sites (items_in p.seen) e c.as_slice.result.now = subst (λ (es : List Effect). AreNext size sites (items_in p.seen) e es) (sym c.as_slice.ensures) next in
    let now : IsEvaluated size (items_in p.seen) c.advance.new.self = c.in_ok-batch.ensures.evaluated size sites (items_in p.seen) given in
    let leads : c.in_ok-batch.batch ≡ batch_of size h (items_in p.seen) = batch_leads size h (items_in p.seen) e old c.advance.new.self now c.in_ok-batch.batch c.in_ok-batch.ensures.batch in
    subst (λ (b : Batch). AllZip (MayHavePublished b) c.args.publishers.now c.publish_all.new.publishers) leads c.publish_all.ensures.each

pub returns-in_err-effects-clause-kept : goal.returns-in_err-effects-clause-kept
returns-in_err-effects-clause-kept g c h old = none_published (batch_of g.J.Workplace.size h (items_in c.args.pass.now.seen)) c.args.publishers.now

pub returns-then-is_empty-clause-kept : goal.returns-then-is_empty-clause-kept
returns-then-is_empty-clause-kept g c h old = none_published (batch_of g.J.Workplace.size h (items_in c.args.pass.now.seen)) c.args.publishers.now

pub returns-in_err-batch-clause-kept : goal.returns-in_err-batch-clause-kept
returns-in_err-batch-clause-kept g c h old = none_published (batch_of g.J.Workplace.size h (items_in c.args.pass.now.seen)) c.args.publishers.now
