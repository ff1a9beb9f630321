use Rattle.std.proofs.Common.{ℕ, List, [], ◌∷◌, ◌+◌, ◌<◌, ◌∙◌, length, ap, sym, subst, arith}
use Rattle.std.specs.Prelude.{slice_index_or}
use Rattle.std.proofs.lemmas.List.{length-append}
use Rattle.ss_base.specs.declared.types.Size.{Size}
use Rattle.sheet_grid.specs.Values.{placed_in}
use Rattle.generated_run.specs.declared.held.RowHeld.{RowHeld}
use Rattle.generated_run.specs.Held.{IsRowHeld}
use Rattle.generated_run.proofs.HeldRows.{rows_more}
use Rattle.generated_run.proofs.held.rows_held.Goals as goal

pub loop-row-init : goal.loop-row-init
loop-row-init c = record {
  many = ap (λ (hs : List RowHeld). length hs) c.new-rows.ensures.items;
  each = λ row d h. absurd (omega arith);
}

pub loop-row-preserved : goal.loop-row-preserved
loop-row-preserved c = record {
  many =
      let longer = ap (λ (hs : List RowHeld). length hs) c.in_ok-push.ensures.items ∙ length-append c.loop-row.rows.items (c.in_ok-held.held ∷ []) in
      omega (arith, longer, c.loop-row.invariant.many);
  each =
      subst (λ (hs : List RowHeld). (row : ℕ) (d : RowHeld) → row < c.loop-row.row + 1 → IsRowHeld (placed_in c.args.sheet.now) row (slice_index_or hs row d)) (sym c.in_ok-push.ensures.items)
      (rows_more (placed_in c.args.sheet.now) c.loop-row.rows.items c.loop-row.row c.in_ok-held.held c.loop-row.invariant.many c.loop-row.invariant.each c.in_ok-held.ensures);
}

pub returns : goal.returns
returns c =
    let rows = ap (λ (s : Size). s.rows) c.size-row-end.ensures.size in
    record {
      many = omega (arith, c.loop-row.invariant.many, c.loop-row-test.false, c.loop-row.auto.row-end, rows);
      each = λ row d within. c.loop-row.invariant.each row d (omega (arith, within, c.loop-row.invariant.many));
    }
