use Rattle.std.proofs.Common.{List, [], ◌∷◌, ◌++◌, sym, ◌∙◌, subst}
use Rattle.sheet_ops.specs.declared.operation.Entry.{Entry}
use Rattle.sheet_ops.specs.Represents.{ClientRepresents}
use Rattle.script_run.proofs.issue.issue.Goals as goal

pub returns-in-Ok-clause-represents : goal.returns-in-Ok-clause-represents
returns-in-Ok-clause-represents c sites H site taken valid stands first =
    subst (λ (es : List Entry). ClientRepresents c.done.new.client H es)
    (sym (c.in_ok-push.ensures.ok ∙ (λ i. c.args.seat.now.made ++ record { site = record { 0 = site i }; seen = taken i; intent = c.in_ok-kept.ensures i } ∷ [])))
    (c.in-Ok.ensures.represents sites H c.args.seat.now.made valid stands first)
