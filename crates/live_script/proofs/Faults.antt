-- The faults of a line by its kind.
use Rattle.std.proofs.Common.{◌≡◌, ℕ, Bool, true, cond, List, length, ap, sym, ◌∙◌, Option, Some, None, inl, inr}
use Rattle.std.specs.Prelude.{◌⊎◌, ◌||◌, nat_lt}
use Rattle.std.proofs.lemmas.List.{length-map}
use Rattle.ss_base.specs.declared.types.Span.{Span}
use Rattle.sheet_ops.specs.declared.edit.Edit.{Edit}
use Rattle.script_read.specs.declared.command.Command.{Command}
use Rattle.script_read.specs.declared.command.Command.TheVariants as command
use Rattle.script_read.specs.declared.script.ScriptKind.{ScriptKind}
use Rattle.script_read.specs.declared.script.ScriptKind.TheVariants as kind
use Rattle.script_read.specs.Script.{Declared, is_declared, without_site, fault_of}
use Rattle.live_script.specs.declared.script.SiteScript.{SiteScript}
use Rattle.live_script.specs.SoFar.{declared_by}

pub missing : (sites : List SiteScript) (closed : Bool) (name : List ℕ) (b : Bool) → is_declared (declared_by true sites closed) name ≡ b → without_site (declared_by true sites closed) name ≡ cond b None (Some kind.Site)
missing sites closed name b e = ap (λ t. cond t None (Some kind.Site)) e

pub refused_site : (sites : List SiteScript) (closed : Bool) (name : List ℕ) (b : Bool) → closed || (is_declared (declared_by true sites closed) name || nat_lt 7 (length sites)) ≡ b → fault_of (declared_by true sites closed) (command.Site name) ≡ cond b (Some kind.Site) None
refused_site sites closed name b e =
    ap (λ t. cond t (Some kind.Site) None)
    ((λ i. closed || (is_declared (declared_by true sites closed) name || nat_lt 7 (length-map sites (λ (s : SiteScript). s.name) i))) ∙ e)

-- each command that names a site
pub by_kind : (d : Declared) (c : Command) (name : List ℕ) (x : Option ScriptKind) → x ≡ without_site d name →
    (((e : Edit) × (c ≡ command.Edit name e)) ⊎ (((n : Option ℕ) × (c ≡ command.Push name n)) ⊎ (((n : Option ℕ) × (c ≡ command.Pull name n)) ⊎ ((c ≡ command.Sync name) ⊎ (((range : Span) × (c ≡ command.Read name range)) ⊎ (c ≡ command.Show name)))))) → x ≡ fault_of d c
by_kind d c name x h (inl (e, is)) = h ∙ ap (fault_of d) (sym is)
by_kind d c name x h (inr (inl (n, is))) = h ∙ ap (fault_of d) (sym is)
by_kind d c name x h (inr (inr (inl (n, is)))) = h ∙ ap (fault_of d) (sym is)
by_kind d c name x h (inr (inr (inr (inl is)))) = h ∙ ap (fault_of d) (sym is)
by_kind d c name x h (inr (inr (inr (inr (inl (range, is)))))) = h ∙ ap (fault_of d) (sym is)
by_kind d c name x h (inr (inr (inr (inr (inr is))))) = h ∙ ap (fault_of d) (sym is)
