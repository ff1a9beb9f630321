-- What is passed on of a history.
use Rattle.std.specs.Prelude.{ℕ, List, length, map}
use Rattle.std.specs.List.{range_with_len}
use Rattle.ss_base.specs.declared.types.Size.{Size}
use Rattle.sheet_ops.specs.declared.operation.Effect.{Effect}
use Rattle.sheet_ops.specs.declared.operation.Entry.{Entry}
use Rattle.sheet_ops.specs.Published.{effect_at}
use Rattle.jup_client.specs.declared.Down.{Down}
use Rattle.jup_client.specs.Clients.{down_at}

-- the effects of its entries, in order
abbrev pub effects_of : Size → List Entry → List Effect
effects_of size H = map (effect_at size H) (range_with_len 0 (length H))

-- the messages that a site is sent for its entries, in order
abbrev pub messages_of : Size → List Entry → ℕ → List Down
messages_of size H site = map (down_at size H site) (range_with_len 0 (length H))
