-- The sheets and the values that are looked at in a run.
use Rattle.std.proofs.Common.{◌≡◌, ℕ, ◌<◌, List, length, refl, ap, ◌∙◌, arith}
use Rattle.std.specs.Prelude.{slice_index_or}
use Rattle.std.proofs.lemmas.Option.{slice_get_read}
use Rattle.ss_base.specs.declared.types.Size.{Size}
use Rattle.sheet_ops.specs.declared.operation.Effect.{Effect}
use Rattle.sheet_ops.specs.History.{sheet_of, view}
use Rattle.sheet_ops.specs.Placed.{placed}
use Rattle.sheet_ops.specs.Represents.{ClientState}
use Rattle.script_run.specs.declared.room.Room.{Room}
use Rattle.script_run.specs.World.{World, seat_at, site_view}
use Rattle.script_run.specs.Runs.{IsRun}

module _ (w : World) (es : List Effect) (r : Room) (run : IsRun w es r) where
  pub server_is : r.server.sheet ≡ placed (sheet_of w.size w.history)
  server_is = run.room.server.sheet ∙ ap (λ (z : Size). placed (sheet_of z w.history)) run.room.sized

  pub replica_is : (p : ℕ) (c : ClientState) → p < length w.seats → c ≡ slice_index_or r.clients p c → c.sheet ≡ placed (site_view w p)
  replica_is p c h here =
      let within : p < length r.clients = omega (arith, h, run.room.as_many) in
      let client = run.room.clients p c (slice_get_read r.clients (length r.clients) p c refl within here) in
      client.represents.sheet ∙ (λ i. placed (view (client.sized i) w.history (client.number i) (client.taken i) (seat_at w p).made))
