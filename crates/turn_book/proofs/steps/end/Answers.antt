use Rattle.std.proofs.Common.{ap, subst}
use Rattle.turn_book.specs.Turns.{Ends}
use Rattle.turn_book.proofs.Closing.{ended, same_value, some_of}
use Rattle.turn_book.proofs.steps.end.Goals as goal

pub unwrap-state-requires : goal.unwrap-state-requires
unwrap-state-requires g c =
    let table = c.args.table.shared in
    let e = ended g.S.Kept.opening g.S.Kept.history (g.S.Kept.opening table.key.state.value) table.key.passes c.args.seat.id c.args.seat.me.0 _ _ c.take.result
    (ap (λ m. m.0) c.requires.rests) c.requires.all c.close_with-closed.ensures.values.2 c.take.ensures.value in
    some_of c.take.result e.0 e.1

pub returns : goal.returns
returns g c =
    let table = c.args.table.shared in
    let e = ended g.S.Kept.opening g.S.Kept.history (g.S.Kept.opening table.key.state.value) table.key.passes c.args.seat.id c.args.seat.me.0 _ _ c.take.result
    (ap (λ m. m.0) c.requires.rests) c.requires.all c.close_with-closed.ensures.values.2 c.take.ensures.value in
    subst (Ends g.S.Kept.opening g.S.Kept.history (g.S.Kept.opening table.key.state.value) table.key.passes c.args.seat.me.0.standings) (same_value c.take.result e.0 c.unwrap-state.result e.1 c.unwrap-state.ensures) e.2
