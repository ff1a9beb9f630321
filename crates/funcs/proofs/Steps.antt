-- Steps one after another, each of which may come to an error.
use Rattle.std.proofs.Common.{◌≡◌, Result, Err}
use Rattle.ss_base.specs.declared.types.CalcErr.{CalcErr}
use Rattle.funcs.specs.declared.stop.Stop.{Stop}
use Rattle.funcs.specs.declared.stop.Stop.TheVariants as stop
use Rattle.funcs.specs.Stops.{Yields}

-- what stops one thing stops another that comes to the same error
pub stopped : {A B : Type 0} (e : Stop) (m : Result A CalcErr) (n : Result B CalcErr) → ((d : CalcErr) → m ≡ Err d → n ≡ Err d) → Yields {A = A} (Err e) m → Yields {A = B} (Err e) n
stopped (stop.Fault d) m n follows g = follows d g
stopped stop.Memory m n follows g = tt
