use Rattle.std.proofs.Common.{ℕ, List, ap, sym, ◌∙◌}
use Rattle.std.proofs.lemmas.Bool.{not-true}
use Rattle.sheet_ops.specs.Lines.{has_number}
use Rattle.pair_transform.specs.declared.staying_lines.StayingLines.{StayingLines}
use Rattle.pair_transform.specs.StayingLines.{lines_map}
use Rattle.pair_transform.proofs.InPlace.{outside_stays}
use Rattle.pair_transform.proofs.staying_lines.StayingLines.has_record.Goals as goal

pub returns-in-Sort : goal.returns-in-Sort
returns-in-Sort c = λ yes.
    let p = c.args.p in
    ap (λ (staying : StayingLines). (lines_map staying).rec p) c.in-Sort.is
    ∙ outside_stays c.in-Sort.slots.now c.in-Sort.field-1.now p
    (sym (c.is_among.ensures ∙ ap (λ (ns : List ℕ). has_number ns p) c.as_slice.ensures) ∙ not-true c.is_among.result yes)
