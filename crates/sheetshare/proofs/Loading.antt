-- A summary as it was written.
use Rattle.std.proofs.Common.{◌≡◌, ℕ, List, ◌++◌, take, drop, ap, sym, subst, arith, length-drop, Option, Some, None}
use Rattle.std.proofs.lemmas.List.{take-append-drop}
use Rattle.ss_base.specs.Streams.{AddsBack, TakesPrefix}
use Rattle.words.specs.declared.Call.{Call}
use Rattle.words.specs.declared.Call.TheVariants as call
use Rattle.generated_run.specs.Summary.{IsSummary}
use Rattle.run_status.specs.declared.status.Status.TheVariants as status
use Rattle.sheetshare.specs.Played.{WroteSummary}

added : (before piece : List ℕ) (new : Option (List ℕ)) → AddsBack (Some before) new piece → new ≡ Some (before ++ piece)
added before piece (Some bytes) a = ap Some a
added before piece None a = absurd a

-- after a fault of writing
pub summary_cut : (number : ℕ) (text before : List ℕ) (old new : Option (List ℕ)) → IsSummary number text → old ≡ Some before → TakesPrefix old new text → WroteSummary number before new status.WriteFault
summary_cut number text before old new is told (count, short, a) = (
  take count text,
  drop count text,
  subst (IsSummary number) (sym (take-append-drop count text)) is,
  simp length-drop (omega arith),
  added before (take count text) new (subst (λ (o : Option (List ℕ)). AddsBack o new (take count text)) told a),
)

-- one list of words asks for one number
pub same_load : (asked : Option Call) (a b : ℕ) → asked ≡ Some (call.Load a) → asked ≡ Some (call.Load b) → a ≡ b
same_load asked a b h k = cc
