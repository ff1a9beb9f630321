use Rattle.std.proofs.Common.{◌≡◌, true, refl, ap, sym, ◌∙◌, subst, inl, inr}
use Rattle.std.specs.List.{AllZip}
use Rattle.sheet_value.specs.declared.batch.Batch.{Batch}
use Rattle.value_snap.specs.Stores.{PublisherOf}
use Rattle.recalc_loop.specs.Publishing.{published, MayHavePublished}
use Rattle.recalc_loop.proofs.Cuts.{changed_more, each_changed, each_other}
use Rattle.recalc_loop.proofs.publishing.publish_all.Goals as goal

-- nothing was published, the batch was, or the publisher is spent
keeps : (b : Batch) (p : PublisherOf) → MayHavePublished b p p
keeps b p = record { store = refl; list = inl refl }

publishes : (b : Batch) (p : PublisherOf) → MayHavePublished b p (published b p)
publishes b p = record { store = refl; list = inr refl }

spends : (b : Batch) (p q : PublisherOf) → q ≡ record p { spent = true } → MayHavePublished b p q
spends b p q is = record { store = ap (λ (r : PublisherOf). r.store) is; list = inl (ap (λ (r : PublisherOf). r.list) is) }

pub returns-in_err-publish-clause-each : goal.returns-in_err-publish-clause-each
returns-in_err-publish-clause-each g c =
    let b = c.args.batch.now in
    each_other (published b) (MayHavePublished b) (keeps b) (publishes b) c.args.publishers.now c.loop-i.publishers c.loop-i.i c.index-publishers-i.result c.publish.new.self
    c.loop-i.invariant c.index-publishers-i.is
    (spends b c.index-publishers-i.result c.publish.new.self (c.in_err-publish.ensures.err ∙ ap (λ (p : PublisherOf). record p { spent = true }) (sym c.index-publishers-i.is)))

pub loop-i-preserved : goal.loop-i-preserved
loop-i-preserved g c =
    changed_more (published c.args.batch.now) c.args.publishers.now c.loop-i.publishers c.loop-i.i c.index-publishers-i.result c.publish.new.self
    c.loop-i.invariant c.loop-i-test.true c.index-publishers-i.is
    (c.in_ok-publish.ensures.ok ∙ ap (published c.args.batch.now) (sym c.index-publishers-i.is))

pub returns-clause-each : goal.returns-clause-each
returns-clause-each g c =
    let b = c.args.batch.now in
    subst (AllZip (MayHavePublished b) c.args.publishers.now) (sym c.loop-i.invariant) (each_changed (published b) (MayHavePublished b) (keeps b) (publishes b) c.args.publishers.now c.loop-i.i)
