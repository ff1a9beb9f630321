use Rattle.std.proofs.Common.{◌≡◌, ◌<◌, ◌≤◌, ℕ, List, ap, sym, ◌∙◌, subst, arith, length, All}
use Rattle.std.proofs.lemmas.Result.{IfOk-weaker}
use Rattle.marked_lines.specs.Marks.{visible_count}
use Rattle.sheet_grid.specs.Values.{placed_in}
use Rattle.author_ops.specs.Copies.{line_count, line_pairs}
use Rattle.author_ops.specs.Placed.{puts_shifted, row_shift, col_shift}
use Rattle.author_ops.proofs.Shifted.{seen_parts, sources_inside}
use Rattle.author_ops.proofs.copies.puts_of.Goals as goal

pub line_count-height-requires-clause-seen : goal.line_count-height-requires-clause-seen
line_count-height-requires-clause-seen c = (seen_parts (placed_in c.args.sheet.now).rows c.args.from.now.top c.args.from.now.bottom c.args.to.now.row c.requires.seen_rows).0

pub line_count-width-requires-clause-seen : goal.line_count-width-requires-clause-seen
line_count-width-requires-clause-seen c = (seen_parts (placed_in c.args.sheet.now).cols c.args.from.now.left c.args.from.now.right c.args.to.now.col c.requires.seen_cols).0

pub puts_between-requires-clause-rows : goal.puts_between-requires-clause-rows
puts_between-requires-clause-rows c =
    subst (λ (xs : List (ℕ × ℕ)). All (λ r. r.0 < length (placed_in c.args.sheet.now).rows) xs) (sym (c.deref.ensures.value ∙ c.in_ok-rows.ensures)) (sources_inside (placed_in c.args.sheet.now).rows c.args.from.now.top c.args.to.now.row _)

pub puts_between-requires-clause-cols : goal.puts_between-requires-clause-cols
puts_between-requires-clause-cols c =
    subst (λ (xs : List (ℕ × ℕ)). All (λ r. r.0 < length (placed_in c.args.sheet.now).cols) xs) (sym (c.deref-2.ensures.value ∙ c.in_ok-cols.ensures)) (sources_inside (placed_in c.args.sheet.now).cols c.args.from.now.left c.args.to.now.col _)
