use Rattle.std.proofs.Common.{◌≡◌, ◌<◌, ◌≤◌, ℕ, List, take, refl, ap, sym, ◌∙◌, subst, arith}
use Rattle.std.proofs.lemmas.List.{take_all}
use Rattle.value_snap.specs.Views.{store_size}
use Rattle.live_script.specs.declared.script.SiteLine.{SiteLine}
use Rattle.live_script.specs.SoFar.{ActionWithin}
use Rattle.live_site.specs.Lines.{DidAll}
use Rattle.live_site.proofs.Going.{goes_nowhere, goes_further, nothing_did, at_taken, one_taken, one_more}
use Rattle.live_site.proofs.run.do_lines.Goals as goal

pub loop-line-init : goal.loop-line-init
loop-line-init g c = record {
  did = nothing_did c.args.name.now c.args.work.now c.requires.new.0 c.requires.new.1 c.requires.fresh;
  goes_on = goes_nowhere c.args.work.now.session c.args.work.now.session refl;
}

pub do_line-requires-clause-within : goal.do_line-requires-clause-within
do_line-requires-clause-within g c κs alive = at_taken (λ (x : SiteLine). ActionWithin x.action) c.args.lines.now c.loop-line.line-index c.line-item.result c.line-item.is c.loop-line-test.true c.requires.within

pub do_line-requires-clause-book : goal.do_line-requires-clause-book
do_line-requires-clause-book g c κs alive = c.loop-line.invariant.goes_on.pass.book ∙ c.requires.book

pub do_line-requires-clause-has : goal.do_line-requires-clause-has
do_line-requires-clause-has g c κs alive =
    let site : c.loop-line.work.session.client.site ≡ c.args.site.0 = c.loop-line.invariant.goes_on.site ∙ c.requires.number in
    (omega (arith, site, c.requires.from), omega (arith, site, c.requires.to))

pub do_line-requires-clause-store : goal.do_line-requires-clause-store
do_line-requires-clause-store g c κs alive =
    let on = c.loop-line.invariant.goes_on in
    let site : c.loop-line.work.session.client.site ≡ c.args.site.0 = on.site ∙ c.requires.number in
    ap g.J.Workplace.stores site ∙ sym (on.store ∙ c.requires.store)

pub do_line-requires-clause-size : goal.do_line-requires-clause-size
do_line-requires-clause-size g c κs alive =
    let on = c.loop-line.invariant.goes_on in
    ap store_size on.store ∙ (c.requires.size ∙ sym on.size)

pub loop-line-preserved : goal.loop-line-preserved
loop-line-preserved g c =
    let l = c.loop-line in
    let w = l.work in
    let v = c.do_line.new.self in
    record {
      did = subst (λ (ls : List SiteLine). DidAll c.args.name.now ls v) (one_taken c.args.lines.now l.line-index c.line-item.result c.line-item.is c.loop-line-test.true)
          (one_more c.args.name.now (take l.line-index c.args.lines.now) c.line-item.result w v l.invariant.did c.in_ok-do_line.ensures.did c.do_line.ensures.goes_on);
      goes_on = goes_further c.args.work.now.session w.session v.session l.invariant.goes_on c.do_line.ensures.goes_on;
    }

pub returns-in_err-do_line-clause-goes_on : goal.returns-in_err-do_line-clause-goes_on
returns-in_err-do_line-clause-goes_on g c = goes_further c.args.work.now.session c.loop-line.work.session c.do_line.new.self.session c.loop-line.invariant.goes_on c.do_line.ensures.goes_on

pub returns-clause-goes_on : goal.returns-clause-goes_on
returns-clause-goes_on g c = c.loop-line.invariant.goes_on

pub returns-clause-did : goal.returns-clause-did
returns-clause-did g c = subst (λ (ls : List SiteLine). DidAll c.args.name.now ls c.loop-line.work) (take_all c.loop-line.line-index c.args.lines.now (omega (arith, c.loop-line-test.false))) c.loop-line.invariant.did
