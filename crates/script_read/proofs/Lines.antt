-- A line has a form exactly where a command is found for it.
use Rattle.std.proofs.Common.{◌≡◌, ◌↔◌, ℕ, List, refl, Option, Some, None}
use Rattle.script_read.specs.declared.command.Command.{Command}
use Rattle.script_read.specs.Commands.{command_of}
use Rattle.script_read.specs.Grammar.{IsCommand}
use Rattle.script_read.proofs.Forms.{form_found}
use Rattle.script_read.proofs.Found.{found_form}

no_form : (line : List ℕ) → command_of line ≡ None → (c : Command) → ¬ (IsCommand line c)
no_form line h c k = let f = form_found k.1 k.0 in absurd (cc)

none_by : (line : List ℕ) (o : Option Command) → command_of line ≡ o → ((c : Command) → ¬ (IsCommand line c)) → o ≡ None
none_by line None e none = refl
none_by line (Some c) e none = absurd (none c (found_form line c e))

none_found : (line : List ℕ) → ((c : Command) → ¬ (IsCommand line c)) → command_of line ≡ None
none_found line none = none_by line (command_of line) refl none

pub formless : (P : Type 0) (line : List ℕ) → P ↔ (command_of line ≡ None) → P ↔ ((c : Command) → ¬ (IsCommand line c))
formless P line h = (λ p. no_form line (h.0 p), λ none. h.1 (none_found line none))
