use Rattle.std.proofs.Common.{arith, ◌+◌, ◌∙◌}
use Rattle.std.specs.Prelude.{drop}
use Rattle.turn_book.specs.Turns.{newcomer, newcomers}
use Rattle.turn_book.proofs.Dealing.{all_dealt, dealt_one, left_over, next_dealt}
use Rattle.turn_book.proofs.Handing.{split_at}
use Rattle.turn_book.proofs.steps.deal.Goals as goal

pub split_seat-first-requires : goal.split_seat-first-requires
split_seat-first-requires g c =
    let opening = g.S.Kept.opening c.args.table.now.key.state.value in (
      c.loop-number.invariant.table,
      omega (arith, c.requires.table.1.0),
      split_at g.S.Kept.opening g.S.Kept.history opening c.args.table.now.key.passes c.loop-number.seat.id (newcomer opening c.loop-number._number)
          (drop (c.loop-number._number + 1) (newcomers opening c.args.passes).standings) c.loop-number.seat.me.0
          (next_dealt g.row.S.Denot g.row.S-Item.Denot opening c.args.passes c.loop-number._number c.loop-number.seat.me c.loop-number-test.true c.loop-number.invariant.rests),
    )

pub loop-number-preserved : goal.loop-number-preserved
loop-number-preserved g c =
    let opening = g.S.Kept.opening c.args.table.now.key.state.value in
    record {
      table = c.split_seat-first.ensures.0 ∙ c.loop-number.invariant.table;
      rests = left_over g.row.S.Denot g.row.S-Item.Denot opening c.args.passes c.loop-number._number c.loop-number.seat.me c.split_seat-first.new.seat.me
          c.loop-number.invariant.rests c.split_seat-first.ensures.2;
      dealt = dealt_one g.row.S.Denot g.row.S-Item.Denot opening c.args.passes c.args.table.now.table_id c.split_seat-first.result.table_id c.loop-number._number
          c.loop-number.dealt c.push.new.self c.loop-number.seat.me c.split_seat-first.result.me (c.split_seat-first.ensures.3 ∙ c.loop-number.invariant.table) c.loop-number-test.true
          c.loop-number.invariant.rests c.split_seat-first.ensures.4 c.loop-number.invariant.dealt c.in_ok-push.ensures.ok;
    }

pub returns : goal.returns
returns g c =
    all_dealt g.row.S.Denot g.row.S-Item.Denot (g.S.Kept.opening c.args.table.now.key.state.value) c.args.passes c.args.table.now.table_id c.loop-number._number c.loop-number.dealt
    c.loop-number-test.false c.loop-number.invariant.dealt
