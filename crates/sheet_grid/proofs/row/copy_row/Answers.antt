use Rattle.std.proofs.Common.{◌∙◌, ◌++◌, ℕ, List, ap, sym}
use Rattle.std.specs.Map.Iter.{deref_pair}
use Rattle.std.proofs.lemmas.List.{append-nil}
use Rattle.std.proofs.lemmas.Map.Iter.{rest_more, rest_all}
use Rattle.sheet_ops.specs.declared.content.Content.{Content}
use Rattle.sheet_grid.proofs.CopiedRows.{entry_more, held_same}
use Rattle.sheet_grid.proofs.row.copy_row.Goals as goal

pub loop-col-preserved : goal.loop-col-preserved
loop-col-preserved c =
    let first = rest_more deref_pair c.loop-col.col-iterator c.next.new.self c.next.result (c.in-Some.col, c.in-Some.what) c.in-Some.is c.next.ensures.steps in
    ap (λ (es : List (ℕ × Content)). es ++ c.next.new.self) c.in_ok-copy_cell.ensures
    ∙ entry_more c.loop-col.copy.entries c.in-Some.col.now c.in-Some.what.now c.next.new.self c.args.row.now.entries c.iter-col-items.ensures.ordered
    (ap (λ (es : List (ℕ × Content)). c.loop-col.copy.entries ++ es) (sym first) ∙ c.loop-col.invariant)

pub returns : goal.returns
returns c =
    let none = rest_all deref_pair c.loop-col.col-iterator c.next.new.self c.next.result c.in-None.is c.next.ensures.steps in
    held_same c.loop-col.copy c.args.row.now (sym (append-nil c.loop-col.copy.entries) ∙ (ap (λ (es : List (ℕ × Content)). c.loop-col.copy.entries ++ es) (sym none) ∙ c.loop-col.invariant))
