use Rattle.std.proofs.Common.{◌<◌, ◌∙◌, ℕ, List, length, ap, sym, refl, subst}
use Rattle.std.specs.Prelude.{slice_index}
use Rattle.sheet_grid.specs.Values.{placed_in}
use Rattle.generated_run.proofs.SameSheets.{listed_within, lists_equal, lists_differ}
use Rattle.generated_run.proofs.HeldRows.{row_differs, row_by_among}
use Rattle.generated_run.proofs.comparison.same_row.Goals as goal

pub returns-then-ne : goal.returns-then-ne
returns-then-ne c =
    row_differs (placed_in c.args.a.now) c.args.row c.args.held.now c.as_slice.result.now (c.as_slice.ensures.value ∙ c.in_ok-cols.ensures) c.as_slice-2.result.now c.as_slice-2.ensures.value
    (lists_differ c.as_slice.result.now c.as_slice-2.result.now c.if-ne.ensures)

pub same_among-requires-clause-within : goal.same_among-requires-clause-within
same_among-requires-clause-within c =
    subst (λ (cols : List ℕ). (k : ℕ) → k < length cols → slice_index cols k < length (placed_in c.args.a.now).cols) (sym c.as_slice-3.ensures.value)
    (listed_within (placed_in c.args.a.now) (placed_in c.args.a.now) c.args.row refl c.in_ok-cols.cols.items c.in_ok-cols.ensures)

pub same_among-requires-clause-many : goal.same_among-requires-clause-many
same_among-requires-clause-many c =
    let same = c.as_slice-3.ensures.value ∙ (sym c.as_slice.ensures.value ∙ (lists_equal c.as_slice.result.now c.as_slice-2.result.now c.if-ne.ensures ∙ c.as_slice-2.ensures.value)) in
    ap length c.as_slice-4.ensures.value ∙ (c.requires.whole ∙ sym (ap (λ (ns : List ℕ). length ns) same))

pub returns : goal.returns
returns c =
    row_by_among (placed_in c.args.a.now) c.args.row c.args.held.now c.as_slice-3.result.now (c.as_slice-3.ensures.value ∙ c.in_ok-cols.ensures) c.as_slice-2.result.now c.as_slice-2.ensures.value
    (c.as_slice-3.ensures.value ∙ (sym c.as_slice.ensures.value ∙ lists_equal c.as_slice.result.now c.as_slice-2.result.now c.if-ne.ensures)) c.as_slice-4.result.now c.as_slice-4.ensures.value c.same_among.result c.same_among.ensures
