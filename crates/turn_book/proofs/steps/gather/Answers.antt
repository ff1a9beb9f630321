use Rattle.std.proofs.Common.{arith, ◌++◌, map, ap, sym, ◌∙◌}
use Rattle.turn_book.specs.Turns.{standing_of, pass_of}
use Rattle.turn_book.proofs.Dealing.{gathered, got_one, last_of, rests_again}
use Rattle.turn_book.proofs.Handing.{join_at}
use Rattle.turn_book.proofs.steps.gather.Goals as goal

pub join_seat-requires : goal.join_seat-requires
join_seat-requires g c =
    let table = c.args.table.now in
    let mine = last_of table.table_id c.loop-pass.left.items c.pop-in-loop-pass.new.self.items c.in-Some.pass c.in-Some.ensures.items c.loop-pass.invariant.of_book in (
      c.loop-pass.invariant.table,
      ap (λ p. p.book) c.pass.view_is ∙ mine.0,
      ap (λ m. m.1) c.pass.invariant.1,
      omega (arith, c.requires.table.0),
      join_at g.S.Kept.opening g.S.Kept.history (g.S.Kept.opening table.key.state.value) table.key.passes c.loop-pass.seat.id c.pass.inside.seat.id c.loop-pass.seat.me.0.standings _
          c.loop-pass.seat.me.0 c.pass.inside.seat.me.0 (ap (λ m. m.0) c.loop-pass.invariant.rests) (ap (λ m. m.0) c.pass.invariant.1),
    )

pub loop-pass-preserved : goal.loop-pass-preserved
loop-pass-preserved g c =
    let table = c.args.table.now in
    let mine = last_of table.table_id c.loop-pass.left.items c.pop-in-loop-pass.new.self.items c.in-Some.pass c.in-Some.ensures.items c.loop-pass.invariant.of_book in
    let after = got_one g.row.S.Denot g.row.S-Item.Denot c.loop-pass.seat.me c.pass.inside.seat.me c.join_seat.new.seat.me c.pass.invariant.0 c.loop-pass.invariant.rests c.pass.invariant.1 c.join_seat.ensures.2 in
    record {
      table = c.join_seat.ensures.0 ∙ c.loop-pass.invariant.table;
      rests = rests_again g.row.S.Denot g.row.S-Item.Denot c.join_seat.new.seat.me _ after;
      of_book = mine.1;
      passes = ap (λ m. c.pop-in-loop-pass.new.self.items ++ map (pass_of table.table_id) m.0.standings) after
          ∙ gathered table.table_id c.pass.inside.seat.table_id c.loop-pass.left.items c.pop-in-loop-pass.new.self.items c.args.passes c.in-Some.pass c.pass.invariant.0 c.loop-pass.seat.me.0.standings
          c.in-Some.ensures.items (sym (ap (λ m. pass_of c.pass.inside.seat.table_id (standing_of m.0)) c.pass.invariant.1) ∙ c.pass.view_is) (ap (λ p. p.book) c.pass.view_is ∙ mine.0) c.loop-pass.invariant.passes;
    }
