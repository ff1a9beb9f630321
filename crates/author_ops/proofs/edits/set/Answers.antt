use Rattle.std.proofs.Common.{◌≡◌, ap, sym, ◌∙◌, List, Bool, Ok, Err}
use Rattle.std.proofs.lemmas.Result.{IfOk-weaker, IfErr-weaker}
use Rattle.sheet_grid.specs.Values.{placed_in}
use Rattle.sheet_ops.specs.declared.content.Content.TheVariants as content
use Rattle.author_ops.specs.Entries.{entered}
use Rattle.author_ops.specs.Edits.{place_seen, written_at}
use Rattle.author_ops.proofs.Denoting.{by_marks}
use Rattle.author_ops.proofs.Intended.{set-fits}
use Rattle.author_ops.proofs.edits.set.Goals as goal

pub returns-clause-intent : goal.returns-clause-intent
returns-clause-intent c =
    IfOk-weaker c.enter.result _ _ (λ op h X e. by_marks (placed_in c.args.sheet.now) (λ (rows cols : List Bool). written_at (place_seen rows cols c.args.at.now) (entered rows cols c.args.entry.now)) (Ok op) h X e) c.enter.ensures.intent

pub returns-clause-cause : goal.returns-clause-cause
returns-clause-cause c =
    IfErr-weaker c.enter.result _ _ (λ x h other X e. by_marks (placed_in c.args.sheet.now) (λ (rows cols : List Bool). written_at (place_seen rows cols c.args.at.now) (entered rows cols c.args.entry.now)) (Err x) (h other) X e) c.enter.ensures.cause

pub returns-clause-fits : goal.returns-clause-fits
returns-clause-fits c = IfOk-weaker c.enter.result _ _ (λ op h. set-fits (placed_in c.args.sheet.now) c.args.at.now c.args.entry.now op h) c.enter.ensures.intent
