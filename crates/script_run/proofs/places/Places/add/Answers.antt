use Rattle.std.proofs.Common.{◌∙◌, sym, ap, is_some, not}
use Rattle.script_run.specs.Places.{pairs_of}
use Rattle.script_run.proofs.Named.{pairs_of-insert}
use Rattle.script_run.proofs.places.Places.add.Goals as goal

pub returns-in_ok-insert-clause-ok : goal.returns-in_ok-insert-clause-ok
returns-in_ok-insert-clause-ok c =
    let new = ap is_some (sym c.get.ensures) ∙ (c.is_none.ensures ∙ ap not c.if-is_none.true) in
    ap pairs_of c.in_ok-insert.ensures.entries
    ∙ pairs_of-insert c.self.inside.places c.into_vec.result c.args.place c.args.self.now c.args.name.now c.self.view_is (c.into_vec.ensures ∙ c.in_ok-name.ensures) new
