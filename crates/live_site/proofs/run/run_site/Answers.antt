use Rattle.std.proofs.Common.{◌≡◌, List, [], refl, ap, sym, ◌∙◌, subst}
use Rattle.ss_base.specs.Lists.{IsPrefixOf}
use Rattle.std.specs.Prelude.{All}
use Rattle.live_script.specs.declared.script.SiteLine.{SiteLine}
use Rattle.sheet_ops.specs.declared.operation.Entry.{Entry}
use Rattle.turn_book.specs.Passes.{PassOf, IsSamePass}
use Rattle.value_snap.specs.Stores.{ReaderOf}
use Rattle.live_script.specs.SoFar.{LinesWithin}
use Rattle.live_site.specs.Lines.{SessionGoesOn, DidAll}
use Rattle.live_site.proofs.Going.{goes_further, both_ok, site_run}
use Rattle.live_site.proofs.run.run_site.Goals as goal

pub do_lines-lines-requires-clause-within : goal.do_lines-lines-requires-clause-within
do_lines-lines-requires-clause-within g c κs alive = subst LinesWithin (sym c.as_slice-all.ensures) c.requires.within

pub leave-left-requires : goal.leave-left-requires
leave-left-requires g c = c.do_lines-lines.ensures.goes_on.pass.book ∙ c.requires.book

pub returns-clause-pass : goal.returns-clause-pass
returns-clause-pass g c =
    let t = c.leave-left.new.session in
    let on = goes_further c.args.session c.do_lines-lines.new.work.session t c.do_lines-lines.ensures.goes_on c.leave-left.ensures.goes_on in
    subst (λ (p : PassOf Entry). IsSamePass c.args.session.pass p) (sym c.finish.ensures.own.1) on.pass

pub returns-clause-reader : goal.returns-clause-reader
returns-clause-reader g c =
    let t = c.leave-left.new.session in
    let on = goes_further c.args.session c.do_lines-lines.new.work.session t c.do_lines-lines.ensures.goes_on c.leave-left.ensures.goes_on in
    ap (λ (r : ReaderOf). r.store) c.finish.ensures.own.2 ∙ on.store

pub returns-clause-known : goal.returns-clause-known
returns-clause-known g c =
    let t = c.leave-left.new.session in
    let on = goes_further c.args.session c.do_lines-lines.new.work.session t c.do_lines-lines.ensures.goes_on c.leave-left.ensures.goes_on in
    subst (λ (r : ReaderOf). IsPrefixOf c.args.session.reader.known r.known) (sym c.finish.ensures.own.2) on.known

pub returns-clause-run : goal.returns-clause-run
returns-clause-run g c done =
    let w = c.do_lines-lines.new.work in
    let t = c.leave-left.new.session in
    let left = c.leave-left.ensures in
    let own = c.finish.ensures.own in
    let on = goes_further c.args.session w.session t c.do_lines-lines.ensures.goes_on left.goes_on in
    let both = both_ok c.do_lines-lines.result c.leave-left.result (DidAll c.args.script.now.name c.as_slice-all.result.now w) (t.unpushed ≡ []) (sym c.both_done.ensures ∙ done) c.do_lines-lines.ensures.did left.all in
    let all = subst (λ (ls : List SiteLine). DidAll c.args.script.now.name ls w) c.as_slice-all.ensures both.0 in
    site_run c.args.script.now w t _ all left.goes_on left.same left.holds left.own both.1 own.0 own.1 own.2 c.finish.ensures.stands refl c.from_vec.ensures
    c.args.session.client.size c.args.site.0 on.size (on.site ∙ c.requires.number)
