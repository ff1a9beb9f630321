-- What a function of the code comes to, where memory may be wanting.
use Rattle.std.specs.Prelude.{◌≡◌, Result, Ok, Err}
use Rattle.ss_base.specs.declared.types.CalcErr.{CalcErr}
use Rattle.funcs.specs.declared.stop.Stop.{Stop}
use Rattle.funcs.specs.declared.stop.Stop.TheVariants as stop

-- this result, unless memory was wanting
abbrev pub Yields : {A : Type 0} → Result A Stop → Result A CalcErr → Type 0
Yields (Ok x) r = r ≡ Ok x
Yields (Err (stop.Fault e)) r = r ≡ Err e
Yields (Err stop.Memory) r = Unit {0}
