-- One step of a chain, and an operation past it.
use Rattle.std.specs.Prelude.{◌≡◌, Option, None, Some}
use Rattle.ss_base.specs.declared.types.Size.{Size}
use Rattle.sheet_ops.specs.declared.operation.Effect.{Effect}
use Rattle.sheet_ops.specs.declared.operation.Intent.{Intent}
use Rattle.sheet_ops.specs.Fits.{EffectFits}
use Rattle.sheet_ops.specs.Squares.{Converges}

abbrev pub StepFits : Size → Option Effect → Type 0
StepFits s None = Unit {0}
StepFits s (Some e) = EffectFits s e

-- an own step leaves the operation, and stays; an effect and the operation pass one another
abbrev pub PassesStep : Size → Intent → Option Effect → Option Effect → Intent → Type 0
PassesStep s c None done last = (done ≡ None) × (last ≡ c)
PassesStep s c (Some e) done last = (e' : Effect) × Converges s c e last e' × (done ≡ Some e')
