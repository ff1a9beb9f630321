-- Room for every effect.
use Rattle.std.proofs.Common.{◌<◌}
use Rattle.ss_base.specs.declared.types.Size.{Size}
use Rattle.sheet_ops.specs.declared.operation.Effect.{Effect}
use Rattle.sheet_ops.specs.declared.operation.Effect.TheVariants as effect
use Rattle.sheet_ops.specs.Fits.{HasRoom}

pub has_room : (size : Size) (e : Effect) → size.rows < 16000 → size.cols < 16000 → HasRoom size e
has_room size (effect.Write ps) r c = tt
has_room size (effect.InsRow p) r c = r
has_room size (effect.InsCol p) r c = c
has_room size (effect.DelRow p) r c = tt
has_room size (effect.DelCol p) r c = tt
has_room size (effect.Move moves) r c = tt
