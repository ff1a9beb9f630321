use Rattle.std.proofs.Common.{◌<◌, ◌∙◌, ℕ, List, length, ap, sym, refl, subst}
use Rattle.std.specs.Prelude.{map, slice_index}
use Rattle.sheet_ops.specs.Placed.{cell_at}
use Rattle.sheet_grid.specs.Values.{placed_in}
use Rattle.generated_run.proofs.SameSheets.{listed_within}
use Rattle.generated_run.proofs.held.row_held.Goals as goal

pub contents_at-requires-clause-within : goal.contents_at-requires-clause-within
contents_at-requires-clause-within c =
    subst (λ (cols : List ℕ). (k : ℕ) → k < length cols → slice_index cols k < length (placed_in c.args.sheet.now).cols) (sym c.as_slice.ensures.value)
    (listed_within (placed_in c.args.sheet.now) (placed_in c.args.sheet.now) c.args.row refl c.in_ok-cols.cols.items c.in_ok-cols.ensures)

pub returns : goal.returns
returns c = record {
  cols = c.in_ok-cols.ensures;
  contents = c.in_ok-contents.ensures ∙ ap (λ (cols : List ℕ). map (cell_at (placed_in c.args.sheet.now) c.args.row) cols) c.as_slice.ensures.value;
}
