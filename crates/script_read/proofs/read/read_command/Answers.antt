use Rattle.std.proofs.Common.{sym, ◌∙◌, ap, Some}
use Rattle.script_read.specs.Forms.{said}
use Rattle.script_read.proofs.Within.{line_within}
use Rattle.script_read.proofs.read.read_command.Goals as goal

pub returns-in_ok-to_command-in-Some-clause-within : goal.returns-in_ok-to_command-in-Some-clause-within
returns-in_ok-to_command-in-Some-clause-within c =
    line_within c.args.line.now c.in_ok-to_command-in-Some.field-0 (sym c.form_of.ensures ∙ (ap said c.in-Some.is ∙ ap Some (sym c.in_ok-to_command-in-Some.ensures)))
