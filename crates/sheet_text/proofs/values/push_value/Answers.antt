use Rattle.std.proofs.Common.{◌≡◌, ◌++◌, List, ℕ, ap, ◌∙◌, subst}
use Rattle.std.specs.Prelude.{OnOk}
use Rattle.sheet_text.specs.Texts.{cell_line}
use Rattle.sheet_text.specs.Values.{value_text, values_from}
use Rattle.sheet_text.proofs.ValueLines.{no_line, filled_is}
use Rattle.sheet_text.proofs.values.push_value.Goals as goal

pub returns-in_default : goal.returns-in_default
returns-in_default c = no_line c.args.row c.args.col (values_from c.args.values.now.top c.args.values.now.left c.args.values.now.grid.now c.args.row c.args.col) c.args.out.now.items (rw c.in_default.is at c.at.ensures)

pub returns : goal.returns
returns c =
    let value = filled_is (values_from c.args.values.now.top c.args.values.now.left c.args.values.now.grid.now c.args.row c.args.col) c.in-Some.value.now (rw c.in-Some.is at c.at.ensures) in
    subst (λ (t : List ℕ). OnOk c.push_cell.result (c.push_cell.new.out.items ≡ c.args.out.now.items ++ cell_line c.args.row c.args.col t))
    (c.deref.ensures.value ∙ (c.in_ok-text.ensures ∙ ap value_text value)) c.push_cell.ensures
