use Rattle.std.proofs.Common.{List, ℕ, subst}
use Rattle.ss_base.specs.Streams.{TakesPrefix}
use Rattle.sheetshare.proofs.Loading.{summary_cut}
use Rattle.sheetshare.proofs.play.print_summary.Goals as goal

pub returns-clause-summary : goal.returns-clause-summary
returns-clause-summary g c before told =
    summary_cut c.args.number c.in-Ok.loaded.summary before _ _ c.in-Ok.ensures.summary told
    (subst (λ (text : List ℕ). TakesPrefix (g.K.Sink.taken c.args.sink.now) (g.K.Sink.taken c.write_all.new.sink) text) c.bytes.ensures c.in-Err-write_all.ensures.err)
