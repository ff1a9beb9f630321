use Rattle.std.proofs.Common.{[], ◌∷◌, ◌++◌}
use Rattle.sheet_ops.specs.declared.operation.Intent.{Intent}
use Rattle.sheet_ops.specs.Represents.{ClientRepresents}
use Rattle.jup_client.specs.Clients.{own_entry}
use Rattle.client_edits.proofs.Outcomes.{of_message}
use Rattle.client_edits.proofs.issuing.issue.Goals as goal

pub returns-clause-represents : goal.returns-clause-represents
returns-clause-represents c sites H G valid stands mine =
    of_message (λ (op : Intent). ClientRepresents c.edit.new.self H (G ++ own_entry c.args.client.now op ∷ []))
    c.in_ok-intent.intent
    c.args.client.now.taken
    c.edit.result
    c.edit.ensures.message
    (c.edit.ensures.represents sites H G valid stands mine)
