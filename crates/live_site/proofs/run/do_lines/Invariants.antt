use Rattle.std.proofs.Common.{◌≡◌, take}
use Rattle.live_site.specs.Lines.{SessionGoesOn, DidAll}
use Rattle.live_site.proofs.run.do_lines.Given as goal

abbrev pub invariant-loop-line : goal.invariant-loop-line
invariant-loop-line g l = record {
  did : DidAll l.name (take l.line-index l.lines) l.work;
  goes_on : SessionGoesOn l.fn.work.session l.work.session;
}
