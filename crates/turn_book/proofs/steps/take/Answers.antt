use Rattle.std.proofs.Common.{Some, ap, arith, ◌∙◌}
use mathlib.Core.Option.{none}
use Rattle.atomic_table.specs.Table.{step}
use Rattle.turn_book.specs.Turns.{standing_of}
use Rattle.turn_book.proofs.Allowed.{carries, take_at, took}
use Rattle.turn_book.proofs.steps.take.Goals as goal

pub compare_exchange-requires : goal.compare_exchange-requires
compare_exchange-requires g c =
    let table = c.args.table.now in (
      c.loop.invariant.same_table ∙ c.requires.table.0,
      omega (arith, c.requires.table.1.0),
      take_at g.S.Kept.opening g.S.Kept.history (g.S.Kept.opening table.key.state.value) table.key.passes table.table_id.slots c.loop.seat.id
          (standing_of c.args.seat.now.me.0) c.loop.seat.me (step table.table_id.slots 0 0 1 none) c.requires.table.1.1 (c.loop.invariant.same_view ∙ c.requires.rests),
    )

pub exchange-requires : goal.exchange-requires
exchange-requires g c =
    let table = c.args.table.now in
    let t = took g.S.Kept.opening g.S.Kept.history (g.S.Kept.opening table.key.state.value) table.key.passes (step table.table_id.slots 0 0 1 none) c.loop.seat.me c.compare_exchange.result
    c.compare_exchange.new.seat.me c.if-compare_exchange-eq0.true c.compare_exchange.ensures.2 in (
      c.compare_exchange.ensures.0 ∙ (c.loop.invariant.same_table ∙ c.requires.table.0),
      (Some t.state, carries c.compare_exchange.new.seat.me.1 (Some t.state) (ap (λ m. m.1) t.after_is)),
    )
