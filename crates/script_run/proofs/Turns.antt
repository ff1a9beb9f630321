-- What stays declared, and what a command that no fault fits does.
use Rattle.std.proofs.Common.{◌≡◌, ℕ, zero, suc, ◌+◌, ◌-◌, ◌<◌, Bool, true, false, cond, List, [], ◌∷◌, ◌++◌, length, refl, ap, sym, ◌∙◌, arith, Option, Some, None, Ok, Err}
use Rattle.std.specs.Prelude.{map, nat_lt, ◌||◌, is_some, slice_set, slice_index_or, Result}
use Rattle.std.specs.Str.{bytes_eq}
use Rattle.std.proofs.lemmas.Bool.Decides.{nat_tests}
use Rattle.std.proofs.lemmas.List.{length-map}
use Rattle.sheet_ops.specs.declared.edit.EditErr.{EditErr}
use Rattle.sheet_ops.specs.declared.operation.Intent.{Intent}
use Rattle.script_read.specs.declared.command.Command.{Command}
use Rattle.script_read.specs.declared.command.Command.TheVariants as command
use Rattle.script_read.specs.declared.script.ScriptKind.{ScriptKind}
use Rattle.script_read.specs.declared.script.ScriptKind.TheVariants as kind
use Rattle.script_read.specs.Commands.{CommandWithin}
use Rattle.script_read.specs.Script.{Declared, LineTurn, goes, stops, ended, refused_at, is_declared, without_sheet, without_site, fault_of, declared_with, turn_accepted, turn_of, turn_of_line}
use Rattle.script_run.specs.declared.seat.Seat.{Seat}
use Rattle.script_run.specs.World.{World, new_seat, seat_at, put_seat, place_in, seat_index, at_most, pushed, pulled, reading, at_each, decided, after_decided, after_command}
use Rattle.script_run.specs.Transcript.{printed}
use Rattle.script_run.specs.States.{run_state_of, IsState, HasSite, MayStep, StepGives, run_opened, closes, is_end}
use Rattle.script_run.proofs.Worlds.{position-any, position-map}

-- ---- the turn of a command by its fault
module _ (d : Declared) (n : ℕ) (c : Command) where
  by_fault : (o : Option ScriptKind) → fault_of d c ≡ o → turn_of d n c ≡ (elim o as (λ _. LineTurn) [
    | None ↦ turn_accepted d c
    | Some k ↦ stops (refused_at n k)
  ])
  by_fault o e = ap (λ (x : Option ScriptKind). elim x as (λ _. LineTurn) [
    | None ↦ turn_accepted d c
    | Some k ↦ stops (refused_at n k)
  ]) e

  pub turn_refused : (k : ScriptKind) → fault_of d c ≡ Some k → turn_of d n c ≡ stops (refused_at n k)
  turn_refused k e = by_fault (Some k) e

  pub turn_free : fault_of d c ≡ None → turn_of d n c ≡ turn_accepted d c
  turn_free e = by_fault None e

accepted_end : (d : Declared) (c : Command) → is_end c ≡ true → turn_accepted d c ≡ stops ended
accepted_end d command.End e = refl
accepted_end d command.Note e = absurd (cc)
accepted_end d (command.Sheet size) e = absurd (cc)
accepted_end d (command.Site name) e = absurd (cc)
accepted_end d (command.Edit name what) e = absurd (cc)
accepted_end d (command.Push name count) e = absurd (cc)
accepted_end d (command.Pull name count) e = absurd (cc)
accepted_end d command.PushAll e = absurd (cc)
accepted_end d command.PullAll e = absurd (cc)
accepted_end d (command.Sync name) e = absurd (cc)
accepted_end d (command.Recalc count) e = absurd (cc)
accepted_end d (command.Read name range) e = absurd (cc)
accepted_end d command.Values e = absurd (cc)
accepted_end d command.History e = absurd (cc)
accepted_end d command.Wire e = absurd (cc)
accepted_end d (command.Show name) e = absurd (cc)
accepted_end d command.ShowServer e = absurd (cc)

accepted_other : (d : Declared) (c : Command) → is_end c ≡ false → turn_accepted d c ≡ goes (declared_with d c) c
accepted_other d command.End e = absurd (cc)
accepted_other d command.Note e = refl
accepted_other d (command.Sheet size) e = refl
accepted_other d (command.Site name) e = refl
accepted_other d (command.Edit name what) e = refl
accepted_other d (command.Push name count) e = refl
accepted_other d (command.Pull name count) e = refl
accepted_other d command.PushAll e = refl
accepted_other d command.PullAll e = refl
accepted_other d (command.Sync name) e = refl
accepted_other d (command.Recalc count) e = refl
accepted_other d (command.Read name range) e = refl
accepted_other d command.Values e = refl
accepted_other d command.History e = refl
accepted_other d command.Wire e = refl
accepted_other d (command.Show name) e = refl
accepted_other d command.ShowServer e = refl

pub turn_ends : (d : Declared) (n : ℕ) (c : Command) → fault_of d c ≡ None → is_end c ≡ true → turn_of d n c ≡ stops ended
turn_ends d n c f e = turn_free d n c f ∙ accepted_end d c e

pub turn_goes : (d : Declared) (n : ℕ) (c : Command) → fault_of d c ≡ None → is_end c ≡ false → turn_of d n c ≡ goes (declared_with d c) c
turn_goes d n c f e = turn_free d n c f ∙ accepted_other d c e

-- a script ends only behind its `sheet` line
sheet_there : (d : Declared) → without_sheet d ≡ None → d.sheet ≡ true
sheet_there d e = by_test d.sheet e
  where
    by_test : (b : Bool) → ◌≡◌ {A = Option ScriptKind} (cond b None (Some kind.Sheet)) None → b ≡ true
    by_test true e = refl
    by_test false e = absurd (cc)

pub ended_open : (d : Declared) (n : ℕ) (o : Option Command) → turn_of_line d n o ≡ stops ended → d.sheet ≡ true
ended_open d n None e = absurd (cc)
ended_open d n (Some c) e = by_kind (fault_of d c) refl (sym (by_fault d n c (fault_of d c) refl) ∙ e)
  where
    at_end : (c : Command) → turn_accepted d c ≡ stops ended → fault_of d c ≡ None → d.sheet ≡ true
    at_end command.End a f = sheet_there d f
    at_end command.Note a f = absurd (cc)
    at_end (command.Sheet size) a f = absurd (cc)
    at_end (command.Site name) a f = absurd (cc)
    at_end (command.Edit name what) a f = absurd (cc)
    at_end (command.Push name count) a f = absurd (cc)
    at_end (command.Pull name count) a f = absurd (cc)
    at_end command.PushAll a f = absurd (cc)
    at_end command.PullAll a f = absurd (cc)
    at_end (command.Sync name) a f = absurd (cc)
    at_end (command.Recalc count) a f = absurd (cc)
    at_end (command.Read name range) a f = absurd (cc)
    at_end command.Values a f = absurd (cc)
    at_end command.History a f = absurd (cc)
    at_end command.Wire a f = absurd (cc)
    at_end (command.Show name) a f = absurd (cc)
    at_end command.ShowServer a f = absurd (cc)

    by_kind : (o : Option ScriptKind) → fault_of d c ≡ o → (elim o as (λ _. LineTurn) [
      | None ↦ turn_accepted d c
      | Some k ↦ stops (refused_at n k)
    ]) ≡ stops ended → d.sheet ≡ true
    by_kind None f a = at_end c a f
    by_kind (Some k) f a = absurd (cc)

-- ---- the sites that are declared are those of the seats
abbrev pub sites_of : World → List (List ℕ)
sites_of w = map (λ s. s.name) w.seats

pub sites-put : (w : World) (p : ℕ) (s : Seat) → s.name ≡ (seat_at w p).name → sites_of (put_seat w p s) ≡ sites_of w
sites-put w p s e = same w.seats p e
  where
    same : (ss : List Seat) (i : ℕ) → s.name ≡ (slice_index_or ss i (new_seat [])).name → map (λ x. x.name) (slice_set ss i s) ≡ map (λ x. x.name) ss
    same [] i k = refl
    same (x ∷ ss) zero k = ap (λ n. n ∷ map (λ y. y.name) ss) k
    same (x ∷ ss) (suc i) k = ap (λ (ns : List (List ℕ)). x.name ∷ ns) (same ss i k)

pub sites-pushed : (w : World) (p : ℕ) (n : Option ℕ) → sites_of (pushed w p n) ≡ sites_of w
sites-pushed w p n = let s = seat_at w p in let count = at_most n (length s.made - s.pushed) in sites-put w p (record s { pushed = s.pushed + count }) refl

pub sites-pulled : (w : World) (p : ℕ) (n : Option ℕ) → sites_of (pulled w p n) ≡ sites_of w
sites-pulled w p n = let s = seat_at w p in sites-put w p (record s { taken = s.taken + at_most n (length w.history - s.taken) }) refl

sites-reading : (w : World) (p : ℕ) → sites_of (reading w p) ≡ sites_of w
sites-reading w p = sites-put w p (record (seat_at w p) { read = w.published }) refl

pub sites-decided : (w : World) (p : ℕ) (x : Result Intent EditErr) → sites_of (after_decided w p x) ≡ sites_of w
sites-decided w p (Err e) = refl
sites-decided w p (Ok op) = let s = seat_at w p in sites-put w p (record s { made = s.made ++ record { site = record { 0 = suc p }; seen = s.taken; intent = op } ∷ [] }) refl

pub sites-each : (does : World → ℕ → World) → ((v : World) (p : ℕ) → sites_of (does v p) ≡ sites_of v) → (first count : ℕ) (w : World) → sites_of (at_each does first count w) ≡ sites_of w
sites-each does same first zero w = refl
sites-each does same first (suc count) w = sites-each does same (suc first) count (does w first) ∙ same w first

sites-more : (ss : List Seat) (name : List ℕ) → map (λ x. x.name) (ss ++ new_seat name ∷ []) ≡ map (λ x. x.name) ss ++ name ∷ []
sites-more [] name = refl
sites-more (x ∷ ss) name = ap (λ (ns : List (List ℕ)). x.name ∷ ns) (sites-more ss name)

-- a name is declared exactly where a seat has it
pub declared-place : (w : World) (closed : Bool) (name : List ℕ) → is_declared (run_state_of (Some w) closed).declared name ≡ is_some (place_in w.seats name)
declared-place w closed name = position-any (List ℕ) (bytes_eq name) (sites_of w) ∙ ap is_some (position-map (λ (s : Seat). s.name) (bytes_eq name) w.seats)

-- ---- before the `sheet` line
pub opened_state : (c : Command) (closed : Bool) → IsState (run_opened c) closed
opened_state command.Note closed h = refl
opened_state (command.Sheet size) closed h = refl
opened_state (command.Site name) closed h = refl
opened_state (command.Edit name what) closed h = refl
opened_state (command.Push name count) closed h = refl
opened_state (command.Pull name count) closed h = refl
opened_state command.PushAll closed h = refl
opened_state command.PullAll closed h = refl
opened_state (command.Sync name) closed h = refl
opened_state (command.Recalc count) closed h = refl
opened_state (command.Read name range) closed h = refl
opened_state command.Values closed h = refl
opened_state command.History closed h = refl
opened_state command.Wire closed h = refl
opened_state (command.Show name) closed h = refl
opened_state command.ShowServer closed h = refl
opened_state command.End closed h = refl

pub opened_gives : (closed : Bool) (n : ℕ) (c : Command) → fault_of (run_state_of None closed).declared c ≡ None → StepGives (run_state_of None closed) (run_state_of (run_opened c) closed) n c []
opened_gives closed n command.Note f = (refl, refl, refl)
opened_gives closed n (command.Sheet size) f = (refl, refl, refl)
opened_gives closed n (command.Site name) f = absurd (cc)
opened_gives closed n (command.Edit name what) f = absurd (cc)
opened_gives closed n (command.Push name count) f = absurd (cc)
opened_gives closed n (command.Pull name count) f = absurd (cc)
opened_gives closed n command.PushAll f = absurd (cc)
opened_gives closed n command.PullAll f = absurd (cc)
opened_gives closed n (command.Sync name) f = absurd (cc)
opened_gives closed n (command.Recalc count) f = absurd (cc)
opened_gives closed n (command.Read name range) f = absurd (cc)
opened_gives closed n command.Values f = absurd (cc)
opened_gives closed n command.History f = absurd (cc)
opened_gives closed n command.Wire f = absurd (cc)
opened_gives closed n (command.Show name) f = absurd (cc)
opened_gives closed n command.ShowServer f = absurd (cc)
opened_gives closed n command.End f = absurd (cc)

-- ---- behind it
module _ (w : World) (closed : Bool) where
  abbrev d : Declared
  d = (run_state_of (Some w) closed).declared

  -- the faults of a line that names a site, and of one that declares it
  pub missing : (name : List ℕ) (b : Bool) → is_declared d name ≡ b → without_site d name ≡ cond b None (Some kind.Site)
  missing name b e = ap (λ t. cond t None (Some kind.Site)) e

  pub refused_site : (name : List ℕ) (b : Bool) → closed || (is_some (place_in w.seats name) || nat_lt 7 (length w.seats)) ≡ b → fault_of d (command.Site name) ≡ cond b (Some kind.Site) None
  refused_site name b e =
      ap (λ t. cond t (Some kind.Site) None)
      ((λ i. closed || (declared-place w closed name i || nat_lt 7 (length-map w.seats (λ (s : Seat). s.name) i))) ∙ e)

  -- a site that a line names is there
  has_site : (name : List ℕ) → without_site d name ≡ None → HasSite w name
  has_site name f = sym (declared-place w closed name) ∙ by_test (is_declared d name) f
    where
      by_test : (b : Bool) → ◌≡◌ {A = Option ScriptKind} (cond b None (Some kind.Site)) None → b ≡ true
      by_test true e = refl
      by_test false e = absurd (cc)

  -- and one that a line adds has room
  has_room : (name : List ℕ) → IsState (Some w) closed → fault_of d (command.Site name) ≡ None → (length w.seats < 8) × (w.history ≡ [])
  has_room name state f = let free = by_test (closed || (is_declared d name || nat_lt 7 (length (sites_of w)))) f in
      (fewer closed (is_declared d name) free, state (not_closed closed (is_declared d name || nat_lt 7 (length (sites_of w))) free))
    where
      by_test : (b : Bool) → ◌≡◌ {A = Option ScriptKind} (cond b (Some kind.Site) None) None → b ≡ false
      by_test true e = absurd (cc)
      by_test false e = refl

      not_closed : (a b : Bool) → a || b ≡ false → a ≡ false
      not_closed true b e = e
      not_closed false b e = refl

      fewer : (a b : Bool) → a || (b || nat_lt 7 (length (sites_of w))) ≡ false → length w.seats < 8
      fewer true b e = absurd (cc)
      fewer false true e = absurd (cc)
      fewer false false e = below (length (sites_of w)) (length w.seats) e (length-map w.seats (λ (s : Seat). s.name))
        where
          below : (m n : ℕ) → nat_lt 7 m ≡ false → m ≡ n → n < 8
          below m n e same = grind (arith, nat_tests)

  pub may_step : (c : Command) → IsState (Some w) closed → CommandWithin 4096 c → fault_of d c ≡ None → MayStep w c
  may_step command.Note state within f = tt
  may_step (command.Sheet size) state within f = absurd (cc)
  may_step (command.Site name) state within f = has_room name state f
  may_step (command.Edit name what) state within f = (has_site name f, within)
  may_step (command.Push name count) state within f = has_site name f
  may_step (command.Pull name count) state within f = has_site name f
  may_step command.PushAll state within f = tt
  may_step command.PullAll state within f = tt
  may_step (command.Sync name) state within f = has_site name f
  may_step (command.Recalc count) state within f = tt
  may_step (command.Read name range) state within f = (has_site name f, within.0, within.1)
  may_step command.Values state within f = tt
  may_step command.History state within f = tt
  may_step command.Wire state within f = tt
  may_step (command.Show name) state within f = has_site name f
  may_step command.ShowServer state within f = tt
  may_step command.End state within f = tt

  open_stays : closed || false ≡ closed
  open_stays = by_test closed
    where
      by_test : (b : Bool) → b || false ≡ b
      by_test true = refl
      by_test false = refl

  now_closed : closed || true ≡ true
  now_closed = by_test closed
    where
      by_test : (b : Bool) → b || true ≡ true
      by_test true = refl
      by_test false = refl

  -- what is declared after a command
  pub declared_after : (c : Command) → fault_of d c ≡ None → (run_state_of (Some (after_command w c)) (closed || closes c)).declared ≡ declared_with d c
  declared_after command.Note f = λ i. record d { closed = open_stays i }
  declared_after (command.Sheet size) f = absurd (cc)
  declared_after (command.Site name) f = λ i. record d { sites = sites-more w.seats name i; closed = open_stays i }
  declared_after (command.Edit name what) f = λ i. record d { sites = sites-decided w (seat_index w name) (decided w (seat_index w name) what) i; closed = now_closed i }
  declared_after (command.Push name count) f = λ i. record d { sites = sites-pushed w (seat_index w name) count i; closed = now_closed i }
  declared_after (command.Pull name count) f = λ i. record d { sites = sites-pulled w (seat_index w name) count i; closed = now_closed i }
  declared_after command.PushAll f = λ i. record d { sites = sites-each (λ v p. pushed v p None) (λ v p. sites-pushed v p None) 0 (length w.seats) w i; closed = now_closed i }
  declared_after command.PullAll f = λ i. record d { sites = sites-each (λ v p. pulled v p None) (λ v p. sites-pulled v p None) 0 (length w.seats) w i; closed = now_closed i }
  declared_after (command.Sync name) f = λ i. record d { sites = sites-pushed w (seat_index w name) None i; closed = now_closed i }
  declared_after (command.Recalc count) f = λ i. record d { closed = now_closed i }
  declared_after (command.Read name range) f = λ i. record d { sites = sites-reading w (seat_index w name) i; closed = now_closed i }
  declared_after command.Values f = λ i. record d { closed = now_closed i }
  declared_after command.History f = λ i. record d { closed = now_closed i }
  declared_after command.Wire f = λ i. record d { closed = now_closed i }
  declared_after (command.Show name) f = λ i. record d { closed = now_closed i }
  declared_after command.ShowServer f = λ i. record d { closed = now_closed i }
  declared_after command.End f = λ i. record d { closed = now_closed i }

  pub stepped : (n : ℕ) (c : Command) (v : World) (text : List ℕ) → fault_of d c ≡ None → text ≡ printed w n c → v ≡ after_command w c → StepGives (run_state_of (Some w) closed) (run_state_of (Some v) (closed || closes c)) n c text
  stepped n c v text f says is = (says, ap (λ (x : World). (run_state_of (Some x) (closed || closes c)).declared) is ∙ declared_after c f, is)

  -- as long as sites may be declared there is no entry
  history_stays : (c : Command) → closes c ≡ false → (after_command w c).history ≡ w.history
  history_stays command.Note e = refl
  history_stays (command.Sheet size) e = refl
  history_stays (command.Site name) e = refl
  history_stays (command.Edit name what) e = absurd (cc)
  history_stays (command.Push name count) e = absurd (cc)
  history_stays (command.Pull name count) e = absurd (cc)
  history_stays command.PushAll e = absurd (cc)
  history_stays command.PullAll e = absurd (cc)
  history_stays (command.Sync name) e = absurd (cc)
  history_stays (command.Recalc count) e = absurd (cc)
  history_stays (command.Read name range) e = absurd (cc)
  history_stays command.Values e = absurd (cc)
  history_stays command.History e = absurd (cc)
  history_stays command.Wire e = absurd (cc)
  history_stays (command.Show name) e = absurd (cc)
  history_stays command.ShowServer e = absurd (cc)
  history_stays command.End e = absurd (cc)

  both_open : (a b : Bool) → a || b ≡ false → (a ≡ false) × (b ≡ false)
  both_open true b e = absurd (cc)
  both_open false b e = (refl, e)

  pub step_state : (c : Command) (v : World) → IsState (Some w) closed → v ≡ after_command w c → IsState (Some v) (closed || closes c)
  step_state c v state is e = let (a, b) = both_open closed (closes c) e in ap (λ (x : World). x.history) is ∙ (history_stays c b ∙ state a)

  pub refused_state : (c : Command) (v : World) → IsState (Some w) closed → (closes c ≡ false → v ≡ w) → IsState (Some v) (closed || closes c)
  refused_state c v state same e = let (a, b) = both_open closed (closes c) e in ap (λ (x : World). x.history) (same b) ∙ state a
