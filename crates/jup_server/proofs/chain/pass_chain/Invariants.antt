use Rattle.std.proofs.Common.{◌≡◌, ◌≤◌, take, drop, length}
use Rattle.std.specs.Prelude.{unwrap_or}
use Rattle.sheet_ops.specs.Chains.{sizes_past, PassesChain}
use Rattle.sheet_ops.specs.Fits.{IntentFits}
use Rattle.pair_transform.specs.Changes.{replaced}
use Rattle.jup_server.proofs.chain.pass_chain.Given as goal

abbrev pub invariant-loop-i : goal.invariant-loop-i
invariant-loop-i l = record {
  sized : l.size ≡ sizes_past l.fn.base (take l.i (drop l.from l.chain.items));
  fits : IntentFits l.size (unwrap_or l.last l.own);
  passed : PassesChain l.fn.base l.own (take l.i (drop l.from l.chain.items)) (replaced l.steps.items (take l.i (drop l.from l.chain.items))) (unwrap_or l.last l.own);
  few : length l.steps.items ≤ l.i;
}
