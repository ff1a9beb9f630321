use Rattle.std.proofs.Common.{ap, ◌∙◌, subst, List}
use Rattle.ss_base.specs.Lists.{IsPrefixOf}
use Rattle.value_snap.specs.declared.published.Published.{Published}
use Rattle.value_snap.specs.Lists.{is_ended}
use Rattle.value_snap.specs.Stores.{ReaderOf}
use Rattle.live_close.proofs.agreeing.agree.Goals as goal

pub loop-init : goal.loop-init
loop-init g c = record { next = tt; finite = tt; ended = ap (λ (l : List Published). is_ended l) (c.learn.ensures.ended c.requires.closed) ∙ c.requires.closed }

pub loop-preserved : goal.loop-preserved
loop-preserved g c = record { next = tt; finite = tt; ended = ap (λ (r : ReaderOf). is_ended r.known) c.in-Err.ensures.no_entry.0 ∙ c.loop.invariant.ended }

pub returns-in-Ok : goal.returns-in-Ok
returns-in-Ok g c = subst (λ (l : List Published). IsPrefixOf c.args.reader.known l) (c.learn.ensures.ended c.requires.closed) c.learn.ensures.kept
