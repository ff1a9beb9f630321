use Rattle.std.proofs.Common.{arith}
use Rattle.ss_base.proofs.Refilled.{Refills-on, Refills-push, NoFeed-push, not_feed}
use Rattle.ss_base.proofs.search.find.Goals as goal

pub loop-ahead-preserved : goal.loop-ahead-preserved
loop-ahead-preserved g c =
    let (rest, next) = c.in-Some.ensures in record {
      plain = rw c.push_reserved.ensures.items (NoFeed-push c.loop-ahead.line.items c.in-Some.byte c.loop-ahead.invariant.plain (not_feed c.in-Some.byte c.if-byte-eq-LINE_FEED.false));
      short = omega (arith, c.push_reserved.ensures.len, c.if-len-eq-LONGEST.false, c.len.ensures, c.loop-ahead.invariant.short);
      room = omega (arith, c.push_reserved.ensures.capacity, c.loop-ahead.invariant.room);
      count = omega (arith, c.fill.ensures.count, c.loop-ahead.invariant.count);
      told = Refills-push _ _ _ c.loop-ahead.line.items c.fill.new.self _ _ c.in-Some.byte rest (Refills-on _ _ _ _ _ _ _ c.loop-ahead.invariant.told c.fill.ensures.told) next c.push_reserved.ensures.items c.skip.ensures.rest;
    }
