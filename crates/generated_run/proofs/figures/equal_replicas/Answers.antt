use Rattle.std.proofs.Common.{ℕ, List, ◌+◌, sym, subst, arith}
use Rattle.sheet_ops.specs.Placed.{PlacedSheet}
use Rattle.generated_run.specs.declared.held.RowHeld.{RowHeld}
use Rattle.generated_run.specs.Held.{AreRowsHeld}
use Rattle.generated_run.specs.Summary.{server_sheet, HowMany, EqualsServer}
use Rattle.generated_run.proofs.Counting.{byte_small}
use Rattle.generated_run.proofs.HowMany.{how_many_few, one_place}
use Rattle.generated_run.proofs.figures.equal_replicas.Goals as goal

pub overflow_add-equal : goal.overflow_add-equal
overflow_add-equal c =
    let few = how_many_few (EqualsServer c.args.run.now) c.loop-place.place c.loop-place.equal c.loop-place.invariant in
    let one = byte_small c.in_ok-equals_server.field-0 in
    let is = c.from.ensures in
    let most = c.sites-place-end.ensures.most in
    omega arith

pub loop-place-preserved : goal.loop-place-preserved
loop-place-preserved c =
    subst (λ (n : ℕ). HowMany (EqualsServer c.args.run.now) (c.loop-place.place + 1) (c.loop-place.equal + n)) (sym c.from.ensures)
    (one_place (EqualsServer c.args.run.now) c.loop-place.place c.loop-place.equal c.in_ok-equals_server.field-0 c.in_ok-equals_server.ensures c.loop-place.invariant)

pub equals_server-requires-clause-rows : goal.equals_server-requires-clause-rows
equals_server-requires-clause-rows c =
    subst (λ (hs : List RowHeld). AreRowsHeld (server_sheet c.args.run.now) hs) (sym c.as_slice.ensures.value) (subst (λ (P : PlacedSheet). AreRowsHeld P c.in_ok-rows.rows.items) c.server_sheet.ensures c.in_ok-rows.ensures)
