use Rattle.std.proofs.Common.{◌<◌, ◌++◌, ◌∷◌, [], ℕ, List, length, ap, sym, ◌∙◌, subst, arith}
use Rattle.sheet_ops.specs.Represents.{ClientState, ServerState}
use Rattle.script_run.specs.declared.seat.Seat.{Seat}
use Rattle.script_run.specs.Runs.{IsRun}
use Rattle.script_run.specs.Places.{AreFound}
use Rattle.script_run.specs.World.{World, new_seat}
use Rattle.script_run.proofs.Named.{found_more}
use Rattle.script_run.proofs.Edited.{added_run}
use Rattle.script_run.proofs.run.Run.add_site.Goals as goal

pub invariant_of-self-2 : goal.invariant_of-self-2
invariant_of-self-2 c =
    let seats = c.self.inside.seats.items in
    let clients = c.self.inside.clients.items in
    let none = ap (λ (w : World). w.history) c.self.view_is ∙ c.requires.new in
    let few : length seats < 8 = subst (λ (w : World). length w.seats < 8) (sym c.self.view_is) c.requires.few in
    let server = c.in_ok-server.ensures.state in
    let new = c.in_ok-client.ensures.state in
    let run = added_run _ _ _ c.self.invariant.run none few c.args.name.now
    c.in_ok-server.server (ap (λ (v : ServerState). v.size) server) (omega (arith, ap (λ (v : ServerState). v.sites) server, c.len.ensures)) c.in_ok-server.ensures.represents
    c.in_ok-client.client (omega (arith, ap (λ (k : ClientState). k.site) new, c.len.ensures)) (ap (λ (k : ClientState). k.size) new) (ap (λ (k : ClientState). k.taken) new) c.in_ok-client.ensures.represents in
    let seats_are = c.in_ok-add_seat.ensures.seats in
    let clients_are = c.in_ok-add_seat.ensures.clients in
    record {
      run = subst (λ (ss : List Seat). IsRun (record { size = c.self.inside.size; history = c.self.inside.history.items; published = c.self.inside.published.length; seats = ss }) c.self.inside.effects.items (record { server = c.in_ok-server.server; clients = c.add_seat.new.clients.items })) (sym seats_are)
          (subst (λ (ks : List ClientState). IsRun (record { size = c.self.inside.size; history = c.self.inside.history.items; published = c.self.inside.published.length; seats = seats ++ new_seat c.args.name.now ∷ [] }) c.self.inside.effects.items (record { server = c.in_ok-server.server; clients = ks })) (sym clients_are) run);
      published = c.self.invariant.published;
      names = subst (λ (ss : List Seat). AreFound ss c.add_seat.new.places) (sym seats_are)
          (subst (λ (ps : List (List ℕ × ℕ)). AreFound (seats ++ new_seat c.args.name.now ∷ []) ps) (sym c.in_ok-add_seat.ensures.places)
          (found_more seats c.self.inside.places c.self.invariant.names c.args.name.now));
    }
