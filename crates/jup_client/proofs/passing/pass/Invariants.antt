use Rattle.std.proofs.Common.{◌≡◌, ◌≤◌, ◌+◌, length, reverse, take}
use Rattle.std.specs.Prelude.{unwrap_or}
use Rattle.sheet_ops.specs.Chains.{size_past, size_after, EachFitsAfter, PassesOwn}
use Rattle.sheet_ops.specs.Fits.{EffectFits}
use Rattle.pair_transform.specs.Changes.{replaced}
use Rattle.jup_client.proofs.passing.pass.Given as goal

abbrev pub invariant-loop-i : goal.invariant-loop-i
invariant-loop-i l = record {
  sized : l.size ≡ size_after l.fn.base (reverse (take l.i l.pending.items));
  other_fits : EffectFits l.size (unwrap_or l.other l.effect);
  passed : PassesOwn l.fn.base l.effect (reverse (take l.i l.pending.items)) (reverse (replaced l.own.items (take l.i l.pending.items))) (unwrap_or l.other l.effect);
  own_fits : EachFitsAfter (size_past l.fn.base l.effect) (reverse (replaced l.own.items (take l.i l.pending.items)));
  meets : size_after (size_past l.fn.base l.effect) (reverse (replaced l.own.items (take l.i l.pending.items))) ≡ size_past l.size (unwrap_or l.other l.effect);
  few : length l.own.items ≤ l.i;
  rows : l.size.rows ≤ l.fn.base.rows + l.i;
  cols : l.size.cols ≤ l.fn.base.cols + l.i;
}
