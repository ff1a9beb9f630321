-- the command that a form of a line says
use Rattle.std.specs.Prelude.{Option, Some, None, option_map, ◌≡◌, ◌∷◌, [], List, ℕ}
use Rattle.sheet_ops.specs.declared.edit.Edit.TheVariants as edit
use Rattle.script_read.specs.declared.command.Command.{Command}
use Rattle.script_read.specs.declared.command.Command.TheVariants as command
use Rattle.script_read.specs.declared.form.Form.{Form}
use Rattle.script_read.specs.declared.form.Form.TheVariants as form
use Rattle.script_read.specs.Words.{words}

abbrev pub command_said : Form → Command
command_said form.Note = command.Note
command_said (form.Sheet size) = command.Sheet size
command_said (form.Site name) = command.Site name.now
command_said (form.Set name spot entry) = command.Edit name.now (edit.Set spot entry.now)
command_said (form.Clear name spot) = command.Edit name.now (edit.Clear spot)
command_said (form.InsRow name row) = command.Edit name.now (edit.InsRow row)
command_said (form.InsCol name col) = command.Edit name.now (edit.InsCol col)
command_said (form.DelRow name row) = command.Edit name.now (edit.DelRow row)
command_said (form.DelCol name col) = command.Edit name.now (edit.DelCol col)
command_said (form.Copy name from to) = command.Edit name.now (edit.Copy from to)
command_said (form.Sort name rows col down) = command.Edit name.now (edit.Sort rows.0 rows.1 col down)
command_said (form.Push name count) = command.Push name.now count
command_said (form.Pull name count) = command.Pull name.now count
command_said form.PushAll = command.PushAll
command_said form.PullAll = command.PullAll
command_said (form.Sync name) = command.Sync name.now
command_said (form.Recalc count) = command.Recalc count
command_said (form.Read name range) = command.Read name.now range
command_said form.Values = command.Values
command_said form.History = command.History
command_said form.Wire = command.Wire
command_said (form.Show name) = command.Show name.now
command_said form.ShowServer = command.ShowServer
command_said form.End = command.End

abbrev pub said : Option Form → Option Command
said form = option_map command_said form

-- a text, its first word, and what stands behind the space that ends that word, where there is one
abbrev pub CutsWord : List ℕ → List ℕ → Option (List ℕ) → Type 0
CutsWord text word None = words text ≡ word ∷ []
CutsWord text word (Some rest) = words text ≡ word ∷ words rest
