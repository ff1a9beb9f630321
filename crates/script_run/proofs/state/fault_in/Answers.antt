use Rattle.std.proofs.Common.{◌≡◌, ℕ, List, sym, ◌∙◌, ap, Option, Some, inl, inr}
use Rattle.std.specs.Prelude.{◌⊎◌}
use Rattle.ss_base.specs.declared.types.Span.{Span}
use Rattle.sheet_ops.specs.declared.edit.Edit.{Edit}
use Rattle.script_read.specs.declared.command.Command.{Command}
use Rattle.script_read.specs.declared.command.Command.TheVariants as command
use Rattle.script_read.specs.declared.script.ScriptKind.{ScriptKind}
use Rattle.script_read.specs.Script.{Declared, without_site, fault_of}
use Rattle.script_run.specs.States.{run_state_of}
use Rattle.script_run.proofs.state.fault_in.Goals as goal

-- each command that names a site
by_kind : (d : Declared) (c : Command) (name : List ℕ) (x : Option ScriptKind) → x ≡ without_site d name →
    (((e : Edit) × (c ≡ command.Edit name e)) ⊎ (((n : Option ℕ) × (c ≡ command.Push name n)) ⊎ (((n : Option ℕ) × (c ≡ command.Pull name n)) ⊎ ((c ≡ command.Sync name) ⊎ (((range : Span) × (c ≡ command.Read name range)) ⊎ (c ≡ command.Show name)))))) → x ≡ fault_of d c
by_kind d c name x h (inl (e, is)) = h ∙ ap (fault_of d) (sym is)
by_kind d c name x h (inr (inl (n, is))) = h ∙ ap (fault_of d) (sym is)
by_kind d c name x h (inr (inr (inl (n, is)))) = h ∙ ap (fault_of d) (sym is)
by_kind d c name x h (inr (inr (inr (inl is)))) = h ∙ ap (fault_of d) (sym is)
by_kind d c name x h (inr (inr (inr (inr (inl (range, is)))))) = h ∙ ap (fault_of d) (sym is)
by_kind d c name x h (inr (inr (inr (inr (inr is))))) = h ∙ ap (fault_of d) (sym is)

pub returns-in-Edit : goal.returns-in-Edit
returns-in-Edit c = by_kind (run_state_of (Some c.args.run.now) c.args.closed).declared c.args.command.now _ _ (c.site_missing.ensures c.args.closed) c.in-Edit.is
