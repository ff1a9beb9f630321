-- What an edit comes to at a client.
use Rattle.std.specs.Prelude.{ℕ, ◌≡◌, ◌+◌, ◌++◌, ◌∷◌, [], nat_lt, if◌then◌else◌, Result, Ok, Err}
use Rattle.sheet_ops.specs.declared.edit.Edit.{Edit}
use Rattle.sheet_ops.specs.declared.edit.EditErr.{EditErr}
use Rattle.sheet_ops.specs.declared.edit.EditErr.TheVariants as fault
use Rattle.sheet_ops.specs.declared.operation.Intent.{Intent}
use Rattle.sheet_ops.specs.Effects.{effect_on}
use Rattle.sheet_ops.specs.Fits.{IsWellFormed}
use Rattle.sheet_ops.specs.Identity.{IdSheet}
use Rattle.sheet_ops.specs.Naming.{effect_of_intent}
use Rattle.sheet_ops.specs.Placed.{placed}
use Rattle.sheet_ops.specs.Represents.{ClientState}
use Rattle.author_ops.specs.Edits.{intended}
use Rattle.sort_keys.specs.Keys.{keys_of}

-- a site has 1,000 operations
abbrev pub unless_spent : ℕ → Result Intent EditErr → Result Intent EditErr
unless_spent issued (Err e) = Err e
unless_spent issued (Ok op) = if nat_lt issued 1000 then Ok op else Err fault.Spent

-- what an edit comes to at a client, whatever the lines of its sheet are called
abbrev pub Decides : ClientState → Edit → Result Intent EditErr → Type 0
Decides c e r = (X : IdSheet) → IsWellFormed X → placed X ≡ c.sheet → unless_spent c.issued (intended X e (keys_of X e)) ≡ r

-- the client with one more own operation
abbrev pub with_operation : ClientState → Intent → ClientState
with_operation c op = record c { issued = c.issued + 1; sheet = effect_on c.sheet (effect_of_intent op); pending = c.pending ++ op ∷ [] }
