use Rattle.std.proofs.Common.{List, sym, ap, subst}
use Rattle.ss_base.specs.declared.types.Size.{Size}
use Rattle.sheet_value.specs.declared.value.Value.{Value}
use Rattle.sheet_ops.specs.declared.edit.Edit.TheVariants as edit
use Rattle.sheet_grid.specs.Values.{placed_in}
use Rattle.sort_keys.specs.Keys.{AreKeys}
use Rattle.sort_keys.proofs.Keying.{if_ok, keys_serve, none_serve, beyond}
use Rattle.sort_keys.proofs.edit_keys.keys_of_rows.Goals as goal
use Rattle.sort_keys.proofs.edit_keys.keys_of_rows.Goals.{else-last-seen-via-then-last-seen+else-col-seen, else-last-seen-via-else-last-seen}

pub returns-in-Some-clause-serve : goal.returns-in-Some-clause-serve
returns-in-Some-clause-serve c down =
    keys_serve (placed_in c.args.sheet.now) c.args.first c.args.last c.args.col c.in-Some.keys.items (rw c.in-Some.is at c.in_ok-keys.ensures.values) down

pub returns-in-None-clause-serve : goal.returns-in-None-clause-serve
returns-in-None-clause-serve c =
    if_ok c.evaluated_values.result (λ v are down. keys_serve (placed_in c.args.sheet.now) c.args.first c.args.last c.args.col v.items are down) c.evaluated_values.ensures.values

pub returns-else-last-seen-clause-many : goal.returns-else-last-seen-clause-many
returns-else-last-seen-clause-many c h k =
    let P = placed_in c.args.sheet.now in
    absurd
    (elim c.else-last-seen.branch [
      | else-last-seen-via-then-last-seen+else-col-seen w ↦ beyond P.cols c.visible-seen.result.cols c.args.col (ap (λ (z : Size). z.cols) c.visible-seen.ensures.size) w.if-col-seen.false k
      | else-last-seen-via-else-last-seen w ↦ beyond P.rows c.visible-seen.result.rows c.args.last (ap (λ (z : Size). z.rows) c.visible-seen.ensures.size) w.if-last-seen.false h
    ])

pub returns-else-last-seen-clause-serve : goal.returns-else-last-seen-clause-serve
returns-else-last-seen-clause-serve c down =
    let P = placed_in c.args.sheet.now in
    subst (λ (vs : List Value). AreKeys P (edit.Sort c.args.first c.args.last c.args.col down) vs) (sym c.new.ensures.items)
    (none_serve P c.args.first c.args.last c.args.col
    (λ h k. elim c.else-last-seen.branch [
      | else-last-seen-via-then-last-seen+else-col-seen w ↦ beyond P.cols c.visible-seen.result.cols c.args.col (ap (λ (z : Size). z.cols) c.visible-seen.ensures.size) w.if-col-seen.false k
      | else-last-seen-via-else-last-seen w ↦ beyond P.rows c.visible-seen.result.rows c.args.last (ap (λ (z : Size). z.rows) c.visible-seen.ensures.size) w.if-last-seen.false h
    ]) down)
