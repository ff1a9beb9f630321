-- A run after an edit, a run with a site more, and what is shown of a site.
use Rattle.std.proofs.Common.{◌≡◌, ◌≢◌, ℕ, suc, ◌+◌, ◌-◌, ◌<◌, ◌≤◌, Bool, true, false, cond, List, [], ◌∷◌, ◌++◌, length, take, refl, ap, sym, ◌∙◌, subst, arith, inl, inr, Some, Ok, Err}
use Rattle.std.specs.Prelude.{◌⊎◌, Result, OnOk, OnErr, nat_lt, nat_le, reverse, slice_get, slice_set, slice_index_or}
use Rattle.std.proofs.lemmas.Bool.Decides.{nat_tests}
use Rattle.std.proofs.lemmas.List.{length-append, length-reverse, take-append-le}
use Rattle.std.proofs.lemmas.Option.{slice_get_within}
use Rattle.ss_base.specs.declared.types.Site.{Site}
use Rattle.ss_base.specs.declared.types.Size.{Size}
use Rattle.sheet_ops.specs.declared.edit.Edit.{Edit}
use Rattle.sheet_ops.specs.declared.edit.EditErr.{EditErr}
use Rattle.sheet_ops.specs.declared.edit.EditErr.TheVariants as fault
use Rattle.sheet_ops.specs.declared.operation.Entry.{Entry}
use Rattle.sheet_ops.specs.declared.operation.Effect.{Effect}
use Rattle.sheet_ops.specs.declared.operation.Intent.{Intent}
use Rattle.sheet_ops.specs.Fits.{IsWellFormed}
use Rattle.sheet_ops.specs.Identity.{IdSheet}
use Rattle.sheet_ops.specs.Naming.{resolve, locate}
use Rattle.sheet_ops.specs.Placed.{placed}
use Rattle.sheet_ops.specs.History.{own_entries, operations, view_of, resolved, view, sheet_of}
use Rattle.sheet_ops.specs.Represents.{pending_of, ClientState, ClientRepresents, ServerState, ServerRepresents}
use Rattle.sheet_ops.proofs.Counts.{operations-push}
use Rattle.sheet_ops.proofs.Lengths.{one_of}
use Rattle.sheet_ops.proofs.Views.{views_fresh}
use Rattle.author_ops.specs.Edits.{intended}
use Rattle.sheet_text.specs.Shown.{shown, shown_placed}
use Rattle.sheet_text.specs.Texts.{sheet_text, head_text, server_head_text}
use Rattle.sheet_text.proofs.Seen.{shown-placed}
use Rattle.sort_keys.specs.Keys.{keys_of}
use Rattle.script_run.specs.declared.seat.Seat.{Seat}
use Rattle.script_run.specs.declared.room.Room.{Room}
use Rattle.script_run.specs.World.{World, new_seat, seat_at, put_seat, site_view, pending_at, decided, after_decided}
use Rattle.script_run.specs.Transcript.{show_text, server_text}
use Rattle.script_run.specs.Rooms.{ClientStands}
use Rattle.script_run.specs.Runs.{EachOf, SeatStands, IsRun}
use Rattle.client_edits.specs.Decided.{unless_spent, Decides}
use Rattle.script_run.specs.Issues.{entry_made, Issues}
use Rattle.sheet_ops.proofs.Beginnings.{index_before}
use Rattle.script_run.proofs.Lists.{same_or_not, some_same, get_more-before, get_more-last, index_more-last}
use Rattle.script_run.proofs.Outcomes.{on_ok, both_ways}
use Rattle.script_run.proofs.Standing.{seat_is, holds, stands, valid, run_with, run_same}

-- an edit is accepted where it denotes an intent and an operation is left
pub accepted : (issued : ℕ) (x : Result Intent EditErr) (op : Intent) → unless_spent issued x ≡ Ok op → (x ≡ Ok op) × (issued < 1000)
accepted issued (Err e) op h = absurd (cc)
accepted issued (Ok y) op h = by_count (nat_lt issued 1000) refl h
  where
    by_count : (b : Bool) → nat_lt issued 1000 ≡ b → ◌≡◌ {A = Result Intent EditErr} (cond b (Ok y) (Err fault.Spent)) (Ok op) → (◌≡◌ {A = Result Intent EditErr} (Ok y) (Ok op)) × (issued < 1000)
    by_count true k e = (e, grind (arith, nat_tests))
    by_count false k e = absurd (cc)

each_of_more : (site : ℕ) (es : List Entry) (e : Entry) → EachOf site es → e.site.0 ≡ site → EachOf site (es ++ e ∷ [])
each_of_more site [] e h k = (k, tt)
each_of_more site (x ∷ es) e h k = (h.0, each_of_more site es e h.1 k)

-- how many own entries are pending, the last one first
pub pending_length : (size : Size) (H : List Entry) (site k : ℕ) (G : List Entry) → length (pending_of size H site k G) ≡ length G - length (own_entries site (take k H))
pending_length size H site k [] = omega arith
pending_length size H site k (g ∷ G) = by_test (nat_le (suc (length G)) (length (own_entries site (take k H)))) refl (pending_length size H site k G)
  where
    by_test : (b : Bool) → nat_le (suc (length G)) (length (own_entries site (take k H))) ≡ b → length (pending_of size H site k G) ≡ length G - length (own_entries site (take k H)) →
        length (cond b [] (pending_of size H site k G ++ locate (view_of size H (resolved size H) site k G) (resolve (view_of size H (resolved size H) site g.seen G) site (suc (operations G)) g.intent) ∷ []))
        ≡ suc (length G) - length (own_entries site (take k H))
    by_test true t before = grind (arith, nat_tests)
    by_test false t before =
        let held : length (own_entries site (take k H)) ≤ length G = below (length (own_entries site (take k H))) (length G) t in
        let one = length-append (pending_of size H site k G) (locate (view_of size H (resolved size H) site k G) (resolve (view_of size H (resolved size H) site g.seen G) site (suc (operations G)) g.intent) ∷ []) in
        omega (arith, one, before, held)
      where
        below : (m n : ℕ) → nat_le (suc n) m ≡ false → m ≤ n
        below m n e = grind (arith, nat_tests)

-- an edit leaves the name of its site
pub issued_name : (site : Site) (e : Edit) (s t : Seat) (c d : ClientState) (x : Result (Unit {0}) EditErr) → OnOk x (Issues site e s t c d) → OnErr x ((t ≡ s) × (d ≡ c)) → t.name ≡ s.name
issued_name site e s t c d x ok err = both_ways x ok err (λ made. ap (λ (z : Seat). z.name) made.seat) (λ same. ap (λ (z : Seat). z.name) same.0)

module _ (w : World) (es : List Effect) (r : Room) (run : IsRun w es r) (p : ℕ) (h : p < length w.seats) (s : Seat) (at : s ≡ slice_index_or w.seats p s) (c : ClientState) (here : c ≡ slice_index_or r.clients p c) where
  abbrev seat : seat_at w p ≡ s
  seat = seat_is w es r run p h s at

  abbrev client : ClientStands w.size w.history (suc p) s c
  client = stands w es r run p h s at c here

  abbrev kept : SeatStands w.history (suc p) s
  kept = holds w es r run p h s at

  -- the client's view is what the site sees
  same_view : view c.size w.history c.site c.taken s.made ≡ site_view w p
  same_view = λ i. let t = sym seat i in view (client.sized i) w.history (client.number i) ((client.taken ∙ ap (λ (x : Seat). x.taken) (sym seat)) i) t.made

  sees : c.sheet ≡ placed (site_view w p)
  sees = client.represents.sheet ∙ ap placed same_view

  formed : IsWellFormed (site_view w p)
  formed =
      let positive : 0 < c.site = omega (arith, client.number) in
      subst (λ (X : IdSheet). IsWellFormed X) same_view
      (views_fresh c.size r.server.sites w.history (valid w es r run p h s at c here) c.site positive c.taken client.represents.within s.made client.represents.ordered.agrees client.represents.ordered.rises).formed

  -- what an edit comes to at the client it comes to in the state of the run
  pub decided_here : (e : Edit) (x : Result Intent EditErr) → Decides c e x → decided w p e ≡ x
  decided_here e x d = ap (λ n. unless_spent n (intended (site_view w p) e (keys_of (site_view w p) e))) (ap (λ (t : Seat). operations t.made) seat ∙ sym client.represents.issued) ∙ d (site_view w p) formed (sym sees)

  pub edited_run : (site : Site) → site.0 ≡ suc p → (e : Edit) (t : Seat) (d : ClientState) (x : Result (Unit {0}) EditErr) → OnOk x (Issues site e s t c d) → OnOk x (ClientRepresents d w.history t.made) → OnErr x ((t ≡ s) × (d ≡ c)) →
      IsRun (put_seat w p t) es (record r { clients = slice_set r.clients p d })
  edited_run site number e t d (Err y) ok rep err =
      subst (λ (z : Seat). IsRun (put_seat w p z) es (record r { clients = slice_set r.clients p d })) (sym err.0)
      (subst (λ (z : ClientState). IsRun (put_seat w p s) es (record r { clients = slice_set r.clients p z })) (sym err.1) (run_same w es r run p h s at c here))
  edited_run site number e t d (Ok y) ok rep err = run_with w es r run p h t d after_edit after_client
    where
      few : c.issued < 1000
      few = (accepted c.issued (intended (site_view w p) e (keys_of (site_view w p) e)) ok.intent (ok.decided (site_view w p) formed (sym sees))).1

      after_edit : SeatStands w.history (suc p) t
      after_edit = subst (λ (z : Seat). SeatStands w.history (suc p) z) (sym ok.seat) (record {
        pushed_in = omega (arith, kept.pushed_in, length-append s.made (entry_made site s ok.intent ∷ []));
        few = omega (arith, few, client.represents.issued, operations-push s.made (entry_made site s ok.intent), one_of ok.intent);
        mine = kept.mine ∙ sym (take-append-le s.pushed s.made (entry_made site s ok.intent ∷ []) kept.pushed_in);
        own = each_of_more (suc p) s.made (entry_made site s ok.intent) kept.own number;
        taken_in = kept.taken_in;
      })

      after_client : ClientStands w.size w.history (suc p) t d
      after_client = record {
        number = ok.number ∙ client.number;
        sized = ok.sized ∙ client.sized;
        taken = ok.taken ∙ (client.taken ∙ ap (λ (z : Seat). z.taken) (sym ok.seat));
        represents = rep;
      }

  pub edited_world : (site : Site) → site.0 ≡ suc p → (e : Edit) (t : Seat) (d : ClientState) (x : Result (Unit {0}) EditErr) → OnOk x (Issues site e s t c d) →
      OnOk x ((op : Intent) × (decided w p e ≡ Ok op) × (put_seat w p t ≡ after_decided w p (Ok op)))
  edited_world site number e t d x ok = on_ok x (λ (made : Issues site e s t c d). (
    made.intent,
    decided_here e (Ok made.intent) made.decided,
    ap (put_seat w p) (made.seat ∙ (λ i. let z = sym seat i in record z { made = z.made ++ record { site = record { 0 = number i }; seen = z.taken; intent = made.intent } ∷ [] })),
  )) ok

  -- what is shown of the client is what the site sees
  pub shown_here : sheet_text (head_text s.name s.taken (length c.pending) (shown_placed c.sheet)) (shown_placed c.sheet) ≡ show_text w p
  shown_here =
      let seen : shown_placed c.sheet ≡ shown (site_view w p) = ap shown_placed sees ∙ sym (shown-placed (site_view w p)) in
      let waiting : length c.pending ≡ pending_at w p =
      ap length client.represents.pending
      ∙ (pending_length c.size w.history c.site c.taken (reverse s.made)
      ∙ (λ i. length-reverse s.made i - length (own_entries (client.number i) (take (client.taken i) w.history)))
      ∙ (λ i. let t = sym seat i in length t.made - length (own_entries (suc p) (take t.taken w.history)))) in
      λ i. let t = sym seat i in sheet_text (head_text t.name t.taken (waiting i) (seen i)) (seen i)

-- what is shown of the server is the sheet of the history
pub shown_server : (w : World) (es : List Effect) (r : Room) → IsRun w es r → sheet_text (server_head_text r.server.count (shown_placed r.server.sheet)) (shown_placed r.server.sheet) ≡ server_text w
shown_server w es r run =
    let there : r.server.sheet ≡ placed (sheet_of w.size w.history) = run.room.server.sheet ∙ ap (λ (z : Size). placed (sheet_of z w.history)) run.room.sized in
    let seen : shown_placed r.server.sheet ≡ shown (sheet_of w.size w.history) = ap shown_placed there ∙ sym (shown-placed (sheet_of w.size w.history)) in
    λ i. sheet_text (server_head_text (run.room.server.count i) (seen i)) (seen i)

-- ---- a site more, before there is an entry
pub added_run : (w : World) (es : List Effect) (r : Room) → IsRun w es r → w.history ≡ [] → length w.seats < 8 → (name : List ℕ) →
    (v : ServerState) → v.size ≡ w.size → v.sites ≡ length w.seats + 1 → ServerRepresents v [] →
    (c : ClientState) → c.site ≡ length w.seats + 1 → c.size ≡ w.size → c.taken ≡ 0 → ClientRepresents c [] [] →
    IsRun (record w { seats = w.seats ++ new_seat name ∷ [] }) es (record { server = v; clients = r.clients ++ c ∷ [] })
added_run w es r run none few name v size sites server c number sized taken client = record {
  rows = run.rows;
  cols = run.cols;
  few = omega (arith, few, many);
  effects_of = run.effects_of;
  seats = λ q k. by_place q k (same_or_not q (length w.seats));
  room = record {
    sized = size;
    sites = omega (arith, sites, many);
    server = subst (ServerRepresents v) (sym none) server;
    as_many = omega (arith, length-append r.clients (c ∷ []), many, run.room.as_many);
    clients = λ q d got. by_client q d got (same_or_not q (length w.seats));
  };
}
  where
    many : length (w.seats ++ new_seat name ∷ []) ≡ length w.seats + 1
    many = length-append w.seats (new_seat name ∷ [])

    last_seat : slice_index_or (w.seats ++ new_seat name ∷ []) (length w.seats) (new_seat []) ≡ new_seat name
    last_seat = index_more-last w.seats (new_seat name) (new_seat [])

    new_holds : SeatStands w.history (suc (length w.seats)) (new_seat name)
    new_holds = subst (λ (xs : List Entry). SeatStands xs (suc (length w.seats)) (new_seat name)) (sym none) (record { pushed_in = omega arith; few = omega arith; mine = refl; own = tt; taken_in = omega arith })

    by_place : (q : ℕ) → q < length (w.seats ++ new_seat name ∷ []) → ((q ≡ length w.seats) ⊎ (q ≢ length w.seats)) → SeatStands w.history (suc q) (slice_index_or (w.seats ++ new_seat name ∷ []) q (new_seat []))
    by_place q k (inl e) =
        subst (λ n. SeatStands w.history (suc n) (slice_index_or (w.seats ++ new_seat name ∷ []) n (new_seat []))) (sym e) (subst (λ (t : Seat). SeatStands w.history (suc (length w.seats)) t) (sym last_seat) new_holds)
    by_place q k (inr d) =
        let below : q < length w.seats = omega (arith, k, many, d) in
        subst (λ (t : Seat). SeatStands w.history (suc q) t) (sym (index_before w.seats (new_seat name) (new_seat []) q below)) (run.seats q below)

    by_client : (q : ℕ) (d : ClientState) → slice_get (r.clients ++ c ∷ []) q ≡ Some d → ((q ≡ length w.seats) ⊎ (q ≢ length w.seats)) →
        ClientStands w.size w.history (suc q) (slice_index_or (w.seats ++ new_seat name ∷ []) q (new_seat [])) d
    by_client q d got (inl e) =
        let there : slice_get (r.clients ++ c ∷ []) (length w.seats) ≡ Some c = ap (slice_get (r.clients ++ c ∷ [])) (sym run.room.as_many) ∙ get_more-last r.clients c in
        let same : c ≡ d = some_same c d (sym there ∙ (ap (slice_get (r.clients ++ c ∷ [])) (sym e) ∙ got)) in
        subst (λ n. ClientStands w.size w.history (suc n) (slice_index_or (w.seats ++ new_seat name ∷ []) n (new_seat [])) d) (sym e)
        (subst (λ (t : Seat). ClientStands w.size w.history (suc (length w.seats)) t d) (sym last_seat)
        (subst (λ (x : ClientState). ClientStands w.size w.history (suc (length w.seats)) (new_seat name) x) same (record {
          number = omega (arith, number);
          sized = sized;
          taken = taken;
          represents = subst (λ (xs : List Entry). ClientRepresents c xs []) (sym none) client;
        })))
    by_client q d got (inr k) =
        let in_all = slice_get_within (r.clients ++ c ∷ []) q d got in
        let below : q < length w.seats = omega (arith, in_all, length-append r.clients (c ∷ []), run.room.as_many, k) in
        let old : slice_get r.clients q ≡ Some d = sym (get_more-before r.clients c q (omega (arith, below, run.room.as_many))) ∙ got in
        subst (λ (t : Seat). ClientStands w.size w.history (suc q) t d) (sym (index_before w.seats (new_seat name) (new_seat []) q below)) (run.room.clients q d old)
