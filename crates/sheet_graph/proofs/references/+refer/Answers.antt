use Rattle.sheet_graph.proofs.Lists.{areas_of_call}
use Rattle.sheet_graph.proofs.references.+refer.Goals as goal

pub push_areas-returns-in-Call : goal.push_areas-returns-in-Call
push_areas-returns-in-Call t c =
    let e = areas_of_call c.args.sheet.now c.in-Call.field-0 c.in-Call.args in
    rw (c.in-Call.is, e, ← c.as_slice.ensures) c.push_all.ensures
