use Rattle.std.proofs.Common.{arith, Some, None, ◌∙◌}
use mathlib.Core.Option.{none}
use Rattle.atomic_table.specs.Table.{step}
use Rattle.atomic_table.specs.Seated.{TableId}
use Rattle.turn_book.specs.Turns.{holding, standing_of, found_of}
use Rattle.turn_book.proofs.Allowed.{exchanged_for, give_at}
use Rattle.turn_book.proofs.steps.give.Goals as goal

pub store-requires : goal.store-requires
store-requires g c =
    let table = c.args.table.now in
    let before = c.args.seat.now.me.0 in (
      ◌∙◌ {A = TableId} {a = c.exchange-taken.new.seat.table_id} c.exchange-taken.ensures.0 c.requires.table.0,
      omega (arith, c.requires.table.1.0),
      give_at g.S.Kept.opening g.S.Kept.history (g.S.Kept.opening table.key.state.value) table.key.passes table.table_id.slots c.exchange-taken.new.seat.id
          (standing_of before) (found_of before) c.args.state c.exchange-taken.new.seat.me (step table.table_id.slots 0 0 0 none) c.requires.table.1.1
          (exchanged_for c.args.seat.now.me c.exchange-taken.new.seat.me (holding (standing_of before) (found_of before)) None (Some c.args.state) c.exchange-taken.ensures.3 c.requires.holds) c.requires.opening c.requires.adds,
    )
