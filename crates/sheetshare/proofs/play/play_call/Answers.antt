use Rattle.std.proofs.Common.{ℕ, Some, ap, subst, ◌∙◌}
use Rattle.words.specs.Calls.{call_in}
use Rattle.sheetshare.specs.Played.{WroteSummary, status_of}
use Rattle.sheetshare.proofs.Loading.{same_load}
use Rattle.sheetshare.proofs.play.play_call.Goals as goal

pub returns-in-Ok-Load-clause-summary : goal.returns-in-Ok-Load-clause-summary
returns-in-Ok-Load-clause-summary g c number before asked told =
    subst (λ (n : ℕ). WroteSummary n before (g.K.Sink.taken c.print_summary.new.sink) (status_of c.print_summary.result))
    (same_load (call_in c.args.words.now) c.in-Ok-Load.number number (c.in-Ok-Load.ensures.call ∙ ap Some c.in-Ok-Load.field-0-is) asked)
    (c.print_summary.ensures.summary before told)
