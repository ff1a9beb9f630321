-- What one line comes to, by the state of the run and by what the sink has taken, before and after it.
use Rattle.std.specs.Prelude.{ℕ, ◌≡◌, List, Option, Result, Ok, Err}
use Rattle.ss_base.specs.Streams.{AddsBack, TakesPrefix}
use Rattle.script_run.specs.declared.state.Outcome.{Outcome}
use Rattle.script_run.specs.declared.state.Outcome.TheVariants as outcome
use Rattle.script_run.specs.States.{RunState, TurnGives}
use Rattle.sheetshare.specs.declared.play.Flow.{Flow}
use Rattle.sheetshare.specs.declared.play.Flow.TheVariants as flow
use Rattle.run_status.specs.declared.status.Status.{Status}
use Rattle.run_status.specs.declared.status.Status.TheVariants as status

-- all of its text was written
pub record Printed (old new : RunState) (n : ℕ) (line : List ℕ) (before after : Option (List ℕ)) : Type 0 where
  pub text : List ℕ
  pub turn : TurnGives old new n line (outcome.Goes text)
  pub written : AddsBack before after text

-- a front of its text was
pub record PrintedPrefix (old new : RunState) (n : ℕ) (line : List ℕ) (before after : Option (List ℕ)) : Type 0 where
  pub text : List ℕ
  pub turn : TurnGives old new n line (outcome.Goes text)
  pub written : TakesPrefix before after text

-- it ends the script, or is refused, and nothing was written
pub record Stops (old new : RunState) (n : ℕ) (line : List ℕ) (o : Outcome) (before after : Option (List ℕ)) : Type 0 where
  pub turn : TurnGives old new n line o
  pub unwritten : after ≡ before

abbrev pub LineGives : RunState → RunState → ℕ → List ℕ → Option (List ℕ) → Option (List ℕ) → Result Flow Status → Type 0
LineGives old new n line before after (Ok flow.GoesOn) = Printed old new n line before after
LineGives old new n line before after (Ok flow.Ended) = Stops old new n line outcome.Ended before after
LineGives old new n line before after (Err (status.Script err)) = Stops old new n line (outcome.Refused err) before after
LineGives old new n line before after (Err status.WriteFault) = PrintedPrefix old new n line before after
LineGives old new n line before after (Err status.Memory) = after ≡ before
LineGives old new n line before after (Err _) = ⊥
