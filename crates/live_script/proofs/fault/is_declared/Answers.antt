use Rattle.std.proofs.Common.{ap, ◌∙◌}
use Rattle.std.specs.List.{list_any}
use Rattle.std.specs.Str.{bytes_eq}
use Rattle.live_script.specs.declared.script.SiteScript.{SiteScript}
use Rattle.live_script.proofs.SiteLines.{any_name}
use Rattle.live_script.proofs.fault.is_declared.Goals as goal

pub returns : goal.returns
returns c = c.has_name.ensures ∙ (ap (λ name. list_any (λ (s : SiteScript). bytes_eq name s.name) c.args.sites.now) c.bytes.ensures ∙ any_name c.args.name.now c.args.sites.now)
