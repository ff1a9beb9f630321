use Rattle.std.proofs.Common.{◌≡◌, None, sym, ◌∙◌}
use Rattle.script_read.proofs.Forms.{form_found}
use Rattle.script_read.proofs.Found.{same_of, found_form}
use Rattle.script_read.specs.Commands.{command_of}
use Rattle.script_read.proofs.Lines.{formless}
use Rattle.script_read.proofs.laws.lines_are_commands.Goals as goal

pub returns-clause-grammar : goal.returns-clause-grammar
returns-clause-grammar c line d = (found_form line d, λ h. form_found h.1 h.0)

pub returns-clause-none : goal.returns-clause-none
returns-clause-none c line = formless (command_of line ≡ None) line (λ h. h, λ h. h)

pub returns-clause-one : goal.returns-clause-one
returns-clause-one c line d e h k = same_of d e (sym (form_found h.1 h.0) ∙ form_found k.1 k.0)
