-- One place of a run, and the run with its seat and its client changed.
use Rattle.std.proofs.Common.{◌≡◌, ◌≢◌, ℕ, suc, ◌+◌, ◌-◌, ◌<◌, ◌≤◌, true, false, List, [], ◌∷◌, ◌++◌, length, take, drop, refl, ap, sym, ◌∙◌, subst, arith, inl, inr, Some, min, max}
use Rattle.std.specs.Prelude.{◌⊎◌, nat_eq, slice_get, slice_set, slice_index_or}
use Rattle.std.proofs.lemmas.Bool.Decides.{nat_tests}
use Rattle.std.proofs.lemmas.List.{length-append, length-set, get_or-set_same, get_or-set_other, get_or_default}
use Rattle.std.proofs.lemmas.Option.{slice_get_read, slice_get_within}
use Rattle.ss_base.specs.declared.types.Size.{Size}
use Rattle.ss_base.specs.Lists.{IsPrefixOf}
use Rattle.sheet_ops.specs.declared.operation.Entry.{Entry}
use Rattle.sheet_ops.specs.declared.operation.Effect.{Effect}
use Rattle.sheet_ops.specs.History.{own_entries, IsValidHistory}
use Rattle.sheet_ops.specs.Represents.{ClientState, ClientRepresents, ServerState, ServerRepresents}
use Rattle.sheet_ops.specs.Published.{effect_at}
use Rattle.sheet_ops.proofs.Counts.{own_another, own_one_more}
use Rattle.sheet_ops.proofs.Lengths.{valid_few}
use Rattle.jup_client.proofs.Longer.{goes_on}
use Rattle.script_run.specs.declared.seat.Seat.{Seat}
use Rattle.script_run.specs.declared.room.Room.{Room}
use Rattle.script_run.specs.World.{World, new_seat, seat_at, put_seat, pushed}
use Rattle.script_run.specs.Rooms.{ClientStands}
use Rattle.script_run.specs.Runs.{SeatStands, AreEffectsOf, IsRun}
use Rattle.script_run.specs.Deliveries.{MaySubmit, MayPull}
use Rattle.script_run.proofs.Lists.{same_or_not, some_same, get_set-same, get_set-other, drop-at, take-at, there}
use Rattle.script_run.proofs.Effects.{effects_more}
use Rattle.script_run.proofs.Seats.{of_site, mine_first}

module _ (w : World) (p : ℕ) where
  pub seat_same : (s : Seat) → p < length w.seats → seat_at (put_seat w p s) p ≡ s
  seat_same s h = get_or-set_same w.seats p s (new_seat []) h

  pub seat_other : (q : ℕ) (s : Seat) → q ≢ p → seat_at (put_seat w p s) q ≡ seat_at w q
  seat_other q s d = get_or-set_other w.seats p q s (new_seat []) d

module _ (w : World) (es : List Effect) (r : Room) (run : IsRun w es r) where
  pub short : length w.history ≤ 8000
  short = let few = valid_few r.server.size r.server.sites w.history run.room.server.valid in omega (arith, few, run.room.sites, run.few)

  module _ (p : ℕ) (h : p < length w.seats) where
    -- the seat and the client replaced
    pub run_with : (s : Seat) (c : ClientState) → SeatStands w.history (suc p) s → ClientStands w.size w.history (suc p) s c → IsRun (put_seat w p s) es (record r { clients = slice_set r.clients p c })
    run_with s c holds stands = record {
      rows = run.rows;
      cols = run.cols;
      few = omega (arith, length-set w.seats p s, run.few);
      effects_of = run.effects_of;
      seats = λ q k. by_place q k (same_or_not q p);
      room = record {
        sized = run.room.sized;
        sites = run.room.sites ∙ ap (max 1) (sym (length-set w.seats p s));
        server = run.room.server;
        as_many = length-set r.clients p c ∙ (run.room.as_many ∙ sym (length-set w.seats p s));
        clients = λ q d got. by_client q d got (same_or_not q p);
      };
    }
      where
        by_place : (q : ℕ) → q < length (slice_set w.seats p s) → ((q ≡ p) ⊎ (q ≢ p)) → SeatStands w.history (suc q) (seat_at (put_seat w p s) q)
        by_place q k (inl e) = subst (λ n. SeatStands w.history (suc n) (seat_at (put_seat w p s) n)) (sym e) (subst (λ (t : Seat). SeatStands w.history (suc p) t) (sym (seat_same w p s h)) holds)
        by_place q k (inr d) = subst (λ (t : Seat). SeatStands w.history (suc q) t) (sym (seat_other w p q s d)) (run.seats q (omega (arith, k, length-set w.seats p s)))

        by_client : (q : ℕ) (d : ClientState) → slice_get (slice_set r.clients p c) q ≡ Some d → ((q ≡ p) ⊎ (q ≢ p)) → ClientStands w.size w.history (suc q) (seat_at (put_seat w p s) q) d
        by_client q d got (inl e) =
            let here : slice_get (slice_set r.clients p c) p ≡ Some c = get_set-same r.clients p c (omega (arith, h, run.room.as_many)) in
            let same : c ≡ d = some_same c d (sym here ∙ (ap (slice_get (slice_set r.clients p c)) (sym e) ∙ got)) in
            subst (λ n. ClientStands w.size w.history (suc n) (seat_at (put_seat w p s) n) d) (sym e)
            (subst (λ (t : Seat). ClientStands w.size w.history (suc p) t d) (sym (seat_same w p s h)) (subst (λ (x : ClientState). ClientStands w.size w.history (suc p) s x) same stands))
        by_client q d got (inr k) =
            subst (λ (t : Seat). ClientStands w.size w.history (suc q) t d) (sym (seat_other w p q s k)) (run.room.clients q d (sym (get_set-other r.clients p q c k) ∙ got))

    pub clients_within : p < length r.clients
    clients_within = omega (arith, h, run.room.as_many)

    module _ (s : Seat) (at : s ≡ slice_index_or w.seats p s) where
      pub seat_is : seat_at w p ≡ s
      seat_is = get_or_default w.seats p (new_seat []) s h ∙ sym at

      pub holds : SeatStands w.history (suc p) s
      holds = subst (λ (t : Seat). SeatStands w.history (suc p) t) seat_is (run.seats p h)

      pub front : IsPrefixOf (own_entries (suc p) w.history) s.made
      front = mine_first w.history (suc p) s holds

      -- ---- an own entry pushed
      pub may_submit : (site : ℕ) → site ≡ suc p → s.pushed < length s.made → MaySubmit r.server site s
      may_submit site e more =
          let (c, got) = there r.clients p clients_within in
          subst (λ n. MaySubmit r.server n s) (sym e) (record {
            history = w.history;
            client = c;
            server = run.room.server;
            stands = subst (λ (z : Size). ClientStands z w.history (suc p) s c) (sym run.room.sized) (subst (λ (t : Seat). ClientStands w.size w.history (suc p) t c) seat_is (run.room.clients p c got));
            holds = holds;
            from = omega arith;
            to = omega (arith, run.room.sites, h);
            more = more;
          })

      module _ (e : Entry) (next : slice_get s.made s.pushed ≡ Some e) where
        abbrev H' : List Entry
        H' = w.history ++ e ∷ []

        abbrev s' : Seat
        s' = record s { pushed = s.pushed + 1 }

        abbrev w' : World
        w' = record w { history = H'; seats = slice_set w.seats p s' }

        mine_test : nat_eq e.site.0 (suc p) ≡ true
        mine_test = rw (of_site (suc p) s.made s.pushed e holds.own next) (same_test (suc p))
          where
            same_test : (n : ℕ) → nat_eq n n ≡ true
            same_test n = grind (arith, nat_tests)

        other_test : (q : ℕ) → q ≢ p → nat_eq e.site.0 (suc q) ≡ false
        other_test q d = rw (of_site (suc p) s.made s.pushed e holds.own next) (apart_test p q d)
          where
            apart_test : (m n : ℕ) → n ≢ m → nat_eq (suc m) (suc n) ≡ false
            apart_test m n k = grind (arith, nat_tests)

        longer_by_one : length H' ≡ length w.history + 1
        longer_by_one = length-append w.history (e ∷ [])

        holds_here : SeatStands H' (suc p) s'
        holds_here = record {
          pushed_in = let k = slice_get_within s.made s.pushed e next in omega (arith, k);
          few = holds.few;
          mine =
              let one : suc s.pushed ≡ s.pushed + 1 = omega arith in
              own_one_more (suc p) w.history e mine_test ∙ (ap (λ (xs : List Entry). xs ++ e ∷ []) holds.mine ∙ (sym (take-at s.made s.pushed e next) ∙ ap (λ n. take n s.made) one));
          own = holds.own;
          taken_in = omega (arith, holds.taken_in, longer_by_one);
        }

        holds_other : (q : ℕ) → q ≢ p → (t : Seat) → SeatStands w.history (suc q) t → SeatStands H' (suc q) t
        holds_other q d t old = record {
          pushed_in = old.pushed_in;
          few = old.few;
          mine = own_another (suc q) w.history e (other_test q d) ∙ old.mine;
          own = old.own;
          taken_in = omega (arith, old.taken_in, longer_by_one);
        }

        -- a client beside the longer history
        client_on : (site : ℕ) (t t' : Seat) (c : ClientState) → ClientStands w.size w.history site t c → SeatStands H' site t' → t.made ≡ t'.made → t.taken ≡ t'.taken → ClientStands w.size H' site t' c
        client_on site t t' c stands old made taken = record {
          number = stands.number;
          sized = stands.sized;
          taken = stands.taken ∙ taken;
          represents =
              let first : IsPrefixOf (own_entries c.site H') t'.made = subst (λ n. IsPrefixOf (own_entries n H') t'.made) (sym stands.number) (mine_first H' site t' old) in
              goes_on c w.history H' t'.made (subst (λ (xs : List Entry). ClientRepresents c w.history xs) made stands.represents) (e ∷ [], refl) first;
        }

        -- the run is one with the entry
        pub pushed_run : (v : ServerState) → v.size ≡ r.server.size → v.sites ≡ r.server.sites → ServerRepresents v H' → (x : Effect) → x ≡ effect_at r.server.size H' (length w.history) →
            IsRun w' (es ++ x ∷ []) (record r { server = v })
        pushed_run v size sites stands x is = record {
          rows = run.rows;
          cols = run.cols;
          few = omega (arith, length-set w.seats p s', run.few);
          effects_of = effects_more w.size w.history e es x run.effects_of (is ∙ ap (λ (z : Size). effect_at z H' (length w.history)) run.room.sized);
          seats = λ q k. by_place q k (same_or_not q p);
          room = record {
            sized = size ∙ run.room.sized;
            sites = sites ∙ (run.room.sites ∙ ap (max 1) (sym (length-set w.seats p s')));
            server = stands;
            as_many = run.room.as_many ∙ sym (length-set w.seats p s');
            clients = λ q c got. by_client q c got (same_or_not q p);
          };
        }
          where
            by_place : (q : ℕ) → q < length (slice_set w.seats p s') → ((q ≡ p) ⊎ (q ≢ p)) → SeatStands H' (suc q) (seat_at w' q)
            by_place q k (inl e) = subst (λ n. SeatStands H' (suc n) (seat_at w' n)) (sym e) (subst (λ (t : Seat). SeatStands H' (suc p) t) (sym (seat_same w p s' h)) holds_here)
            by_place q k (inr d) = subst (λ (t : Seat). SeatStands H' (suc q) t) (sym (seat_other w p q s' d)) (holds_other q d (seat_at w q) (run.seats q (omega (arith, k, length-set w.seats p s'))))

            by_client : (q : ℕ) (c : ClientState) → slice_get r.clients q ≡ Some c → ((q ≡ p) ⊎ (q ≢ p)) → ClientStands w.size H' (suc q) (seat_at w' q) c
            by_client q c got (inl same) =
                let old = subst (λ (t : Seat). ClientStands w.size w.history (suc p) t c) seat_is (run.room.clients p c (ap (slice_get r.clients) (sym same) ∙ got)) in
                subst (λ n. ClientStands w.size H' (suc n) (seat_at w' n) c) (sym same)
                (subst (λ (t : Seat). ClientStands w.size H' (suc p) t c) (sym (seat_same w p s' h)) (client_on (suc p) s s' c old holds_here refl refl))
            by_client q c got (inr d) =
                let k = slice_get_within r.clients q c got in
                subst (λ (t : Seat). ClientStands w.size H' (suc q) t c) (sym (seat_other w p q s' d))
                (client_on (suc q) (seat_at w q) (seat_at w q) c (run.room.clients q c got) (holds_other q d (seat_at w q) (run.seats q (omega (arith, k, run.room.as_many)))) refl refl)

        pub pushed_world : w' ≡ pushed w p (Some 1)
        pushed_world =
            let room = slice_get_within s.made s.pushed e next in
            let one : min 1 (length s.made - s.pushed) ≡ 1 = omega (arith, room) in
            let step : pushed w p (Some 1) ≡ put_seat (record w { history = w.history ++ take 1 (drop s.pushed s.made) }) p s' =
            (λ i. let t = seat_is i in put_seat (record w { history = w.history ++ take (min 1 (length t.made - t.pushed)) (drop t.pushed t.made) }) p (record t { pushed = t.pushed + min 1 (length t.made - t.pushed) }))
            ∙ (λ i. put_seat (record w { history = w.history ++ take (one i) (drop s.pushed s.made) }) p (record s { pushed = s.pushed + one i })) in
            ap (λ (xs : List Entry). put_seat (record w { history = w.history ++ take 1 xs }) p s') (sym (drop-at s.made s.pushed e next)) ∙ sym step

      -- ---- at its client
      module _ (c : ClientState) (here : c ≡ slice_index_or r.clients p c) where
        pub got : slice_get r.clients p ≡ Some c
        got = slice_get_read r.clients (length r.clients) p c refl clients_within here

        pub stands : ClientStands w.size w.history (suc p) s c
        stands = subst (λ (t : Seat). ClientStands w.size w.history (suc p) t c) seat_is (run.room.clients p c got)

        pub valid : IsValidHistory c.size r.server.sites w.history
        valid = subst (λ (z : Size). IsValidHistory z r.server.sites w.history) (run.room.sized ∙ sym stands.sized) run.room.server.valid

        pub may_take : (site : ℕ) → site ≡ suc p → s.taken < length w.history → MayPull c site w.history es
        may_take site e more = subst (λ n. MayPull c n w.history es) (sym e) (record {
          sites = r.server.sites;
          made = s.made;
          valid = valid;
          represents = stands.represents;
          number = stands.number;
          more = omega (arith, more, stands.taken);
          mine = front;
          effects_of = subst (λ (z : Size). AreEffectsOf z w.history es) (sym stands.sized) run.effects_of;
          rows = subst (λ (z : Size). z.rows ≤ 1000) (sym stands.sized) run.rows;
          cols = subst (λ (z : Size). z.cols ≤ 64) (sym stands.sized) run.cols;
          few = omega (arith, run.room.sites, run.few);
        })

        -- the next entry of the history taken
        pub took : (d : ClientState) → d.site ≡ c.site → d.size ≡ c.size → d.taken ≡ c.taken + 1 → ClientRepresents d w.history s.made → s.taken < length w.history →
            IsRun (put_seat w p (record s { taken = s.taken + 1 })) es (record r { clients = slice_set r.clients p d })
        took d site size taken represents more =
            run_with (record s { taken = s.taken + 1 }) d
            (record { pushed_in = holds.pushed_in; few = holds.few; mine = holds.mine; own = holds.own; taken_in = omega (arith, more) })
            (record { number = site ∙ stands.number; sized = size ∙ stands.sized; taken = taken ∙ ap (λ n. n + 1) stands.taken; represents = represents })

        -- nothing changed
        pub run_same : IsRun (put_seat w p s) es (record r { clients = slice_set r.clients p c })
        run_same = run_with s c holds stands
