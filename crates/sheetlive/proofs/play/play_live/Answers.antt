use Rattle.live_script.specs.Scripts.{live_script}
use Rattle.sheetlive.proofs.Ends.{wrote}
use Rattle.sheetlive.proofs.play.play_live.Goals as goal

pub returns-in-Ok-run_script-clause-script : goal.returns-in-Ok-run_script-clause-script
returns-in-Ok-run_script-clause-script g c bytes before none told taken =
    let read = c.in-Ok.ensures.script bytes told in
    wrote _ _ _ _ _ (live_script bytes) c.in-Ok.script before c.written.result c.in-Ok-run_script.noted read.0 read.1 c.in-Ok-run_script.ensures taken c.written.ensures
