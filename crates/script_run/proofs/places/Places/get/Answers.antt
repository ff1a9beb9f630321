use Rattle.std.proofs.Common.{◌∙◌, sym}
use Rattle.std.specs.Map.{lookup}
use Rattle.std.specs.Str.{bytes_eq}
use Rattle.script_run.proofs.Named.{lookup_pairs}
use Rattle.script_run.proofs.places.Places.get.Goals as goal

pub returns : goal.returns
returns c =
    c.copied.ensures ∙ (c.get.ensures.value ∙ (sym (lookup_pairs (bytes_eq c.bytes.result.now) c.self.inside.places.entries)
    ∙ (λ i. lookup (bytes_eq (c.bytes.ensures i)) (c.self.view_is i))))
