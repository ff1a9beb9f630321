use Rattle.std.proofs.Common.{◌≤◌, ◌-◌, ◌++◌, vec_len, vec_capacity}
use Rattle.ss_base.specs.Search.{Refills, NoFeed}
use Rattle.ss_base.proofs.search.find.Given as goal

abbrev pub invariant-loop-ahead : goal.invariant-loop-ahead
invariant-loop-ahead g l = record {
  plain : NoFeed l.line.items;
  short : vec_len l.line ≤ 4096;
  room : 4096 ≤ vec_capacity l.line;
  count : g.S.Source.faults l.fn.source ≤ g.S.Source.faults l.source;
  told : Refills (g.S.Source.left l.fn.source) (g.S.Source.left l.source) (l.fn.line.items ++ l.fn.ahead) (l.line.items ++ l.ahead);
}

abbrev pub decreases-loop-ahead : goal.decreases-loop-ahead
decreases-loop-ahead g l = 4096 - vec_len l.line
