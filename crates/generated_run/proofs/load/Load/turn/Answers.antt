use Rattle.std.proofs.Common.{sym, subst}
use Rattle.script_read.specs.Commands.{EditWithin}
use Rattle.generated_run.specs.Runs.{HasSites}
use Rattle.generated_run.specs.Turns.{site_name}
use Rattle.generated_run.proofs.Within.{edit_within}
use Rattle.generated_run.proofs.Sites.{sites_edited}
use Rattle.generated_run.proofs.load.Load.turn.Goals as goal

pub edit-requires-clause-short : goal.edit-requires-clause-short
edit-requires-clause-short c =
    subst (EditWithin 4096) (sym c.in_ok-edit.ensures) (edit_within c.draws-draws.result c.draws-draws.ensures.numbers c.draws-draws.ensures.rows c.draws-draws.ensures.cols)

pub deliver-requires-clause-sites : goal.deliver-requires-clause-sites
deliver-requires-clause-sites c =
    subst HasSites (sym c.in_ok-edit-2.ensures.run) (sites_edited c.args.self.now.run (site_name c.args.place) c.in_ok-edit.edit c.requires.sites)
