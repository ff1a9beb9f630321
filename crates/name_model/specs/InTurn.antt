-- Operations in turn: each on what those before it leave.
use Rattle.std.specs.Prelude.{◌≡◌, List, [], ◌∷◌, ◌++◌}
use Rattle.ss_base.specs.declared.types.Size.{Size}
use Rattle.sheet_ops.specs.declared.operation.Effect.{Effect}
use Rattle.sheet_ops.specs.declared.operation.Intent.{Intent}
use Rattle.sheet_ops.specs.LineIds.{LineId}
use Rattle.sheet_ops.specs.Identity.{IdOp, IdSheet}
use Rattle.sheet_ops.specs.Act.{act}
use Rattle.sheet_ops.specs.Chains.{size_past}
use Rattle.sheet_ops.specs.Effects.{StepsTo}
use Rattle.sheet_ops.specs.Fits.{IntentFits}
use Rattle.sheet_ops.specs.Naming.{brought, locate, effect_of_intent}
use Rattle.sheet_ops.specs.Placed.{PlacedSheet}
use Rattle.sheet_ops.specs.Transforms.{own_past, other_past}

-- the identifiers of the lines that they bring
abbrev pub brought_each : List IdOp → List LineId
brought_each [] = []
brought_each (N ∷ Ns) = brought N ++ brought_each Ns

-- the intents that they are, each by positions in the sheet that those before it leave
abbrev pub locate_each : IdSheet → List IdOp → List Intent
locate_each X [] = []
locate_each X (N ∷ Ns) = locate X N ∷ locate_each (act X N) Ns

-- the size that they leave
abbrev pub size_past_each : Size → List Intent → Size
size_past_each s [] = s
size_past_each s (c ∷ cs) = size_past_each (size_past s (effect_of_intent c)) cs

-- each fits the size that those before it leave
abbrev pub EachFitsInTurn : Size → List Intent → Type 0
EachFitsInTurn s [] = Unit {0}
EachFitsInTurn s (c ∷ cs) = IntentFits s c × EachFitsInTurn (size_past s (effect_of_intent c)) cs

-- each to be done after another's effect, as those before it have changed that
abbrev pub own_each_past : Size → List Intent → Effect → List Intent
own_each_past s [] e = []
own_each_past s (c ∷ cs) e = own_past c e ∷ own_each_past (size_past s (effect_of_intent c)) cs (other_past s c e)

-- another's effect to be done after all of them
abbrev pub other_past_each : Size → List Intent → Effect → Effect
other_past_each s [] e = e
other_past_each s (c ∷ cs) e = other_past_each (size_past s (effect_of_intent c)) cs (other_past s c e)

-- the position steps of their effects lead from one sheet by positions to another
abbrev pub StepsEach : PlacedSheet → List Intent → PlacedSheet → Type 0
StepsEach P [] Q = P ≡ Q
StepsEach P (c ∷ cs) Q = (R : PlacedSheet) × StepsTo P (effect_of_intent c) R × StepsEach R cs Q
