use Rattle.std.proofs.Common.{◌≡◌, ℕ, List, ◌∙◌, ap, sym, subst, Err}
use Rattle.value_snap.proofs.Replays.{replay_length}
use Rattle.value_snap.specs.Views.{store_size}
use Rattle.value_snap.specs.declared.reader.ReadErr.TheVariants.{NoEntry}
use Rattle.value_snap.specs.declared.snap.View.{View}
use Rattle.live_site.proofs.Parts.{looked_on, looked_kept, looked_later}
use Rattle.live_site.proofs.reading.look.Goals as goal

pub returns-in-Ok-clause-same : goal.returns-in-Ok-clause-same
returns-in-Ok-clause-same g c = looked_on c.args.session.now c.loop.session c.read.new.self c.loop.invariant.same c.read.ensures.same

pub returns-in-Ok-clause-store : goal.returns-in-Ok-clause-store
returns-in-Ok-clause-store g c = c.read.ensures.store ∙ c.loop.invariant.store

pub returns-in-Ok-clause-kept : goal.returns-in-Ok-clause-kept
returns-in-Ok-clause-kept g c = looked_kept c.args.session.now c.loop.session c.read.new.self c.loop.invariant.known c.read.ensures.kept

pub returns-in-Err-OutOfSheet-clause-same : goal.returns-in-Err-OutOfSheet-clause-same
returns-in-Err-OutOfSheet-clause-same g c = looked_on c.args.session.now c.loop.session c.read.new.self c.loop.invariant.same c.read.ensures.same

pub returns-in-Err-OutOfSheet-clause-store : goal.returns-in-Err-OutOfSheet-clause-store
returns-in-Err-OutOfSheet-clause-store g c = c.read.ensures.store ∙ c.loop.invariant.store

pub returns-in-Err-OutOfSheet-clause-kept : goal.returns-in-Err-OutOfSheet-clause-kept
returns-in-Err-OutOfSheet-clause-kept g c = looked_kept c.args.session.now c.loop.session c.read.new.self c.loop.invariant.known c.read.ensures.kept

pub returns-in-Err-Memory-clause-same : goal.returns-in-Err-Memory-clause-same
returns-in-Err-Memory-clause-same g c = looked_on c.args.session.now c.loop.session c.read.new.self c.loop.invariant.same c.read.ensures.same

pub returns-in-Err-Memory-clause-store : goal.returns-in-Err-Memory-clause-store
returns-in-Err-Memory-clause-store g c = c.read.ensures.store ∙ c.loop.invariant.store

pub returns-in-Err-Memory-clause-kept : goal.returns-in-Err-Memory-clause-kept
returns-in-Err-Memory-clause-kept g c = looked_kept c.args.session.now c.loop.session c.read.new.self c.loop.invariant.known c.read.ensures.kept

pub returns-in-Ok-clause-length : goal.returns-in-Ok-clause-length
returns-in-Ok-clause-length g c =
    let r = c.read.new.self.reader in
    c.in-Ok.ensures.length ∙ (ap (λ (v : View). v.length) c.in-Ok.ensures.ok ∙ replay_length (store_size r.store) r.known)

pub returns-in-Ok-clause-later : goal.returns-in-Ok-clause-later
returns-in-Ok-clause-later g c = looked_later c.args.session.now c.loop.session c.in-Ok.view.length c.read.new.self.read_length c.loop.invariant.known c.in-Ok.ensures.never_older c.in-Ok.ensures.length

pub loop-preserved : goal.loop-preserved
loop-preserved g c =
    let none : c.read.result ≡ Err NoEntry = cc in
    let inv = c.loop.invariant in
    record {
      next = tt;
      finite = tt;
      same = looked_on c.args.session.now c.loop.session c.read.new.self inv.same c.read.ensures.same;
      store = c.read.ensures.store ∙ inv.store;
      known = (c.read.ensures.no_entry none).1 ∙ inv.known;
    }
