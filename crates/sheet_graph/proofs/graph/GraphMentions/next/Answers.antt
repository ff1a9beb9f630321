use Rattle.std.proofs.Common.{rules, ◌∙◌, ap, sym, Some}
use Rattle.std.proofs.lemmas.Option.{slice_get-get_or}
use Rattle.sheet_graph.proofs.Lists.{areas_found, areas_past}
use Rattle.sheet_graph.proofs.graph.GraphMentions.next.Goals as goal

pub returns-in-Some : goal.returns-in-Some
returns-in-Some c =
    let l = rw (c.in-Some.is, c.deref.ensures.value) at c.get.ensures.lookup in
    let e = areas_found c.args.self.now.nodes.items c.args.cell c.in-Some.node.now (slice_get-get_or c.args.self.now.nodes.items c.args.cell c.in-Some.node.now l.3.0 ∙ ap Some (sym l.1)) in
    rw (e, ← c.deref-in-Some.ensures.value, ← c.as_slice.ensures) c.next_in_areas.ensures

pub returns-in-None : goal.returns-in-None
returns-in-None c =
    let l = rw (c.in-None.is, c.deref.ensures.value) at c.get.ensures.lookup in
    let e = areas_past c.args.self.now.nodes.items c.args.cell l.3 in
    rw e (search rules)
