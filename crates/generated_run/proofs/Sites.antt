-- The eight sites of a generated run, and what its commands do by their places.
use Rattle.std.proofs.Common.{◌≡◌, ◌≢◌, ℕ, zero, suc, ◌+◌, ◌*◌, ◌%◌, ◌<◌, ◌≤◌, Bool, true, false, cond, List, [], ◌∷◌, ◌++◌, length, refl, ap, sym, ◌∙◌, subst, arith, append_assoc, Option, None, Ok, Err}
use Rattle.std.specs.Prelude.{map, nat_eq, position, unwrap_or, Result, OnOk}
use Rattle.std.specs.Str.{bytes_eq}
use Rattle.std.specs.List.{range_with_len}
use Rattle.std.proofs.Math.Nat.{zero-add}
use Rattle.std.proofs.lemmas.Fmt.{decimal_digit}
use Rattle.std.proofs.lemmas.List.{length-map}
use Rattle.std.proofs.lemmas.List.FromFn.{length-map-range_with_len, map-range_with_len_more}
use Rattle.std.proofs.lemmas.List.Sums.{fold-append}
use Rattle.sheet_ops.specs.declared.edit.Edit.{Edit}
use Rattle.sheet_ops.specs.declared.edit.EditErr.{EditErr}
use Rattle.sheet_ops.specs.declared.edit.EditErr.TheVariants as fault
use Rattle.sheet_ops.specs.declared.operation.Intent.{Intent}
use Rattle.script_read.specs.declared.command.Command.{Command}
use Rattle.script_read.specs.declared.command.Command.TheVariants as command
use Rattle.script_run.specs.declared.seat.Seat.{Seat}
use Rattle.script_run.specs.World.{World, no_world, new_seat, seat_index, decided, after_decided, after_command, pushed, pulled}
use Rattle.script_run.specs.Transcript.{site_names}
use Rattle.script_run.proofs.Worlds.{position-map}
use Rattle.script_run.proofs.Turns.{sites-pushed, sites-pulled, sites-decided}
use Rattle.generated_run.specs.declared.draws.Draws.{Draws}
use Rattle.generated_run.specs.Generator.{after_draws, draws_from}
use Rattle.generated_run.specs.Turns.{site_name, edit_of, delivery, turn_commands, turn, turns, opening_with, closing, generated_commands}
use Rattle.generated_run.specs.Runs.{after_commands, generated_world, generated_refusals, one_if_refused, refused_by, refused_among, opened_with, HasSites}
use Rattle.generated_run.proofs.Ranges.{append_none, flat_map_more}

-- ---- the place of a site by its name

abbrev names : List (List ℕ)
names = map site_name (range_with_len 0 8)

-- with their digits
abbrev plain : ℕ → List ℕ
plain p = 115 ∷ (48 + suc p) ∷ []

name_plain : (p : ℕ) → p < 8 → site_name p ≡ plain p
name_plain p h = ap (λ (ds : List ℕ). 115 ∷ ds) (decimal_digit (suc p) (omega arith))

names_plain : names ≡ map plain (range_with_len 0 8)
names_plain =
    λ i. name_plain 0 (omega arith) i
    ∷ name_plain 1 (omega arith) i
    ∷ name_plain 2 (omega arith) i
    ∷ name_plain 3 (omega arith) i
    ∷ name_plain 4 (omega arith) i
    ∷ name_plain 5 (omega arith) i
    ∷ name_plain 6 (omega arith) i
    ∷ name_plain 7 (omega arith) i
    ∷ []

plain_at : (p : ℕ) → p < 8 → unwrap_or (position (bytes_eq (plain p)) (map plain (range_with_len 0 8))) 0 ≡ p
plain_at zero h = refl
plain_at (suc zero) h = refl
plain_at (suc (suc zero)) h = refl
plain_at (suc (suc (suc zero))) h = refl
plain_at (suc (suc (suc (suc zero)))) h = refl
plain_at (suc (suc (suc (suc (suc zero))))) h = refl
plain_at (suc (suc (suc (suc (suc (suc zero)))))) h = refl
plain_at (suc (suc (suc (suc (suc (suc (suc zero))))))) h = refl
plain_at (suc (suc (suc (suc (suc (suc (suc (suc p)))))))) h = absurd (omega arith)

named_at : (p : ℕ) → p < 8 → unwrap_or (position (bytes_eq (site_name p)) names) 0 ≡ p
named_at p h = (λ i. unwrap_or (position (bytes_eq (name_plain p h i)) (names_plain i)) 0) ∙ plain_at p h

module _ (w : World) (sites : HasSites w) where
  pub index_of : (p : ℕ) → p < 8 → seat_index w (site_name p) ≡ p
  index_of p h =
      ap (λ (o : Option ℕ). unwrap_or o 0) (sym (position-map (λ (s : Seat). s.name) (bytes_eq (site_name p)) w.seats))
      ∙ (ap (λ (ns : List (List ℕ)). unwrap_or (position (bytes_eq (site_name p)) ns) 0) sites ∙ named_at p h)

  pub eight : length w.seats ≡ 8
  eight = sym (length-map w.seats (λ (s : Seat). s.name)) ∙ (ap (λ (ns : List (List ℕ)). length ns) sites ∙ length-map-range_with_len site_name 0 8)

  -- what an edit, a push and a pull do
  pub edit_does : (p : ℕ) → p < 8 → (e : Edit) → after_command w (command.Edit (site_name p) e) ≡ after_decided w p (decided w p e)
  edit_does p h e = ap (λ (q : ℕ). after_decided w q (decided w q e)) (index_of p h)

  pub edit_counts : (p : ℕ) → p < 8 → (e : Edit) → refused_by w (command.Edit (site_name p) e) ≡ one_if_refused (decided w p e)
  edit_counts p h e = ap (λ (q : ℕ). one_if_refused (decided w q e)) (index_of p h)

  pub edit_done : (p : ℕ) → p < 8 → (e : Edit) (x : Result Intent EditErr) → decided w p e ≡ x → after_decided w p x ≡ after_command w (command.Edit (site_name p) e)
  edit_done p h e x is = ap (λ (y : Result Intent EditErr). after_decided w p y) (sym is) ∙ sym (edit_does p h e)

  pub edit_counted : (p : ℕ) → p < 8 → (e : Edit) (x : Result Intent EditErr) (n : ℕ) → decided w p e ≡ x → n + one_if_refused x ≡ n + refused_by w (command.Edit (site_name p) e)
  edit_counted p h e x n is = ap (λ (k : ℕ). n + k) (ap one_if_refused (sym is) ∙ sym (edit_counts p h e))

  pub push_does : (p : ℕ) → p < 8 → after_command w (command.Push (site_name p) None) ≡ pushed w p None
  push_does p h = ap (λ (q : ℕ). pushed w q None) (index_of p h)

  pub pull_does : (p : ℕ) → p < 8 → after_command w (command.Pull (site_name p) None) ≡ pulled w p None
  pull_does p h = ap (λ (q : ℕ). pulled w q None) (index_of p h)

  -- an edit that is refused, but for want of memory
  pub refusal_done : {T E : Type 0} (r : Result T E) (p : ℕ) → p < 8 → (e : Edit) (cause : EditErr) (w1 w2 : World) (n m : ℕ) →
      (cause ≢ fault.Memory → decided w p e ≡ Err cause) → w1 ≡ w → w2 ≡ w1 → OnOk r (cause ≢ fault.Memory) → OnOk r (m ≡ n + 1) →
      OnOk r (w2 ≡ after_command w (command.Edit (site_name p) e)) × OnOk r (m ≡ n + refused_by w (command.Edit (site_name p) e))
  refusal_done (Ok x) p h e cause w1 w2 n m why one two other more =
      ((two ∙ (one ∙ edit_done p h e (Err cause) (why other))), (more ∙ edit_counted p h e (Err cause) n (why other)))
  refusal_done (Err x) p h e cause w1 w2 n m why one two other more = (tt, tt)

  -- what follows an edit, by what was drawn
  pub push_follows : {T E : Type 0} (r : Result T E) (p : ℕ) → p < 8 → (choice : ℕ) (w' : World) → choice ≡ 0 → OnOk r (w' ≡ pushed w p None) → OnOk r (w' ≡ after_commands w (delivery choice (site_name p)))
  push_follows (Ok x) p h choice w' first does = does ∙ (sym (push_does p h) ∙ ap (λ (k : ℕ). after_commands w (delivery k (site_name p))) (sym first))
  push_follows (Err x) p h choice w' first does = tt

  pub pull_follows : {T E : Type 0} (r : Result T E) (p : ℕ) → p < 8 → (choice : ℕ) (w' : World) → choice ≡ 1 → OnOk r (w' ≡ pulled w p None) → OnOk r (w' ≡ after_commands w (delivery choice (site_name p)))
  pull_follows (Ok x) p h choice w' second does = does ∙ (sym (pull_does p h) ∙ ap (λ (k : ℕ). after_commands w (delivery k (site_name p))) (sym second))
  pull_follows (Err x) p h choice w' second does = tt

-- ---- the sites stay, and a delivery refuses nothing

module _ (w : World) (name : List ℕ) where
  sites-edit : (e : Edit) → site_names (after_command w (command.Edit name e)) ≡ site_names w
  sites-edit e = sites-decided w (seat_index w name) (decided w (seat_index w name) e)

  sites-delivery : (choice : ℕ) → site_names (after_commands w (delivery choice name)) ≡ site_names w
  sites-delivery choice = by_tests (nat_eq choice 0) (nat_eq choice 1) (nat_eq choice 2)
    where
      by_tests : (a b c : Bool) → site_names (after_commands w (cond a (command.Push name None ∷ []) (cond b (command.Pull name None ∷ []) (cond c (command.Recalc None ∷ []) [])))) ≡ site_names w
      by_tests true b c = sites-pushed w (seat_index w name) None
      by_tests false true c = sites-pulled w (seat_index w name) None
      by_tests false false true = refl
      by_tests false false false = refl

  none-delivery : (choice : ℕ) → refused_among w (delivery choice name) ≡ 0
  none-delivery choice = by_tests (nat_eq choice 0) (nat_eq choice 1) (nat_eq choice 2)
    where
      by_tests : (a b c : Bool) → refused_among w (cond a (command.Push name None ∷ []) (cond b (command.Pull name None ∷ []) (cond c (command.Recalc None ∷ []) []))) ≡ 0
      by_tests true b c = refl
      by_tests false true c = refl
      by_tests false false true = refl
      by_tests false false false = refl

pub sites_edited : (w : World) (name : List ℕ) (e : Edit) → HasSites w → HasSites (after_command w (command.Edit name e))
sites_edited w name e sites = sites-edit w name e ∙ sites

pub sites_turned : (w : World) (name : List ℕ) (d : Draws) → HasSites w → HasSites (after_commands w (turn_commands name d))
sites_turned w name d sites = sites-delivery (after_command w (command.Edit name (edit_of d))) name d.delivery ∙ (sites-edit w name (edit_of d) ∙ sites)

pub turn_counts : (w : World) (name : List ℕ) (d : Draws) → refused_among w (turn_commands name d) ≡ refused_by w (command.Edit name (edit_of d))
turn_counts w name d =
    let here = refused_by w (command.Edit name (edit_of d)) in
    let rest = none-delivery (after_command w (command.Edit name (edit_of d))) name d.delivery in
    ap (λ (n : ℕ). here + n) rest ∙ (let z : here + 0 ≡ here = omega arith in z)

-- ---- one turn after another

pub refused_among-append : (w : World) (cs ds : List Command) → refused_among w (cs ++ ds) ≡ refused_among w cs + refused_among (after_commands w cs) ds
refused_among-append w [] ds = let n = refused_among w ds in let z : n ≡ 0 + n = omega arith in z
refused_among-append w (c ∷ cs) ds =
    let rest = refused_among-append (after_command w c) cs ds in
    let a = refused_by w c in
    let b = refused_among (after_command w c) cs in
    let d = refused_among (after_commands (after_command w c) cs) ds in
    ap (λ (n : ℕ). a + n) rest ∙ (let z : a + (b + d) ≡ (a + b) + d = omega arith in z)

pub turns_none : (number : ℕ) → turns number 0 ≡ []
unfolding turns
turns_none number = refl

pub turns_more : (number t : ℕ) → turns number (suc t) ≡ turns number t ++ turn number t
unfolding turns
turns_more number t = flat_map_more (turn number) t

pub draws_more : (t number : ℕ) → after_draws 7 (after_draws (7 * t) number) ≡ after_draws (7 * suc t) number
draws_more t number = ap (λ (n : ℕ). after_draws n number) (let z : suc (suc (suc (suc (suc (suc (suc (7 * t))))))) ≡ 7 * suc t = omega arith in z)

-- a run whose number is the first, after so many turns of its own
pub record IsAfterTurns (number : ℕ) (first : World) (t : ℕ) (w : World) (drawn refused : ℕ) : Type 0 where
  pub world : w ≡ after_commands first (turns number t)
  pub refusals : refused ≡ refused_among first (turns number t)
  pub few : refused ≤ t
  pub sites : HasSites w
  pub draws : drawn ≡ after_draws (7 * t) number

pub no_turn : (number : ℕ) (first : World) (refused : ℕ) → HasSites first → refused ≡ 0 → IsAfterTurns number first 0 first number refused
no_turn number first refused sites none = record {
  world = sym (ap (λ (cs : List Command). after_commands first cs) (turns_none number));
  refusals = none ∙ sym (ap (λ (cs : List Command). refused_among first cs) (turns_none number));
  few = omega arith;
  sites = sites;
  draws = refl;
}

module _ (number : ℕ) (first : World) (t : ℕ) (w : World) (drawn refused : ℕ) (before : IsAfterTurns number first t w drawn refused) where
  same_turn : (cs : List Command) → cs ≡ turn number t → after_commands first (turns number t ++ cs) ≡ after_commands w cs
  same_turn cs e = fold-append after_command first (turns number t) cs ∙ ap (λ (v : World). after_commands v cs) (sym before.world)

  pub turn_here : turn_commands (site_name (t % 8)) (draws_from drawn) ≡ turn number t
  turn_here = ap (λ (x : ℕ). turn_commands (site_name (t % 8)) (draws_from x)) before.draws

  pub one_turn : (w' : World) (drawn' refused' : ℕ) →
      w' ≡ after_commands w (turn_commands (site_name (t % 8)) (draws_from drawn)) →
      refused' ≡ refused + refused_among w (turn_commands (site_name (t % 8)) (draws_from drawn)) →
      refused' ≤ refused + 1 → drawn' ≡ after_draws 7 drawn →
      IsAfterTurns number first (t + 1) w' drawn' refused'
  one_turn w' drawn' refused' does counts few draws = subst (λ (n : ℕ). IsAfterTurns number first n w' drawn' refused') (let z : suc t ≡ t + 1 = omega arith in z) (record {
    world =
        does ∙ (ap (λ (cs : List Command). after_commands w cs) turn_here
        ∙ (sym (same_turn (turn number t) refl) ∙ sym (ap (λ (cs : List Command). after_commands first cs) (turns_more number t))));
    refusals =
        counts ∙ (ap (λ (cs : List Command). refused + refused_among w cs) turn_here
        ∙ ((λ i. before.refusals i + refused_among (before.world i) (turn number t))
        ∙ (sym (refused_among-append first (turns number t) (turn number t)) ∙ sym (ap (λ (cs : List Command). refused_among first cs) (turns_more number t)))));
    few = let old = before.few in omega arith;
    sites = subst HasSites (sym does) (sites_turned w (site_name (t % 8)) (draws_from drawn) before.sites);
    draws = draws ∙ (ap (λ (x : ℕ). after_draws 7 x) before.draws ∙ draws_more t number);
  })

-- ---- the whole

opened_from : (w : World) (ps : List ℕ) → after_commands w (map (λ p. command.Site (site_name p)) ps) ≡ record w { seats = w.seats ++ map (λ p. new_seat (site_name p)) ps }
opened_from w [] = ap (λ (ss : List Seat). record w { seats = ss }) (sym (append_none w.seats))
opened_from w (p ∷ ps) =
    opened_from (record w { seats = w.seats ++ new_seat (site_name p) ∷ [] }) ps
    ∙ ap (λ (ss : List Seat). record w { seats = ss }) (append_assoc w.seats (new_seat (site_name p) ∷ []) (map (λ q. new_seat (site_name q)) ps))

pub opened_is : after_commands no_world (opening_with 8) ≡ opened_with 8
opened_is = opened_from (record no_world { size = record { rows = 40; cols = 8 } }) (range_with_len 0 8)

-- a site more
pub opened_more : (k : ℕ) → record (opened_with k) { seats = (opened_with k).seats ++ new_seat (site_name k) ∷ [] } ≡ opened_with (k + 1)
opened_more k = ap (λ (ss : List Seat). record (opened_with k) { seats = ss }) (sym (map-range_with_len_more (λ p. new_seat (site_name p)) 0 k k (zero-add k)))

pub opened_sites : HasSites (opened_with 8)
opened_sites = refl

none-opening : (w : World) (ps : List ℕ) → refused_among w (map (λ p. command.Site (site_name p)) ps) ≡ 0
none-opening w [] = refl
none-opening w (p ∷ ps) = let rest = none-opening (after_command w (command.Site (site_name p))) ps in let n = refused_among (after_command w (command.Site (site_name p))) (map (λ q. command.Site (site_name q)) ps) in (let z : 0 + n ≡ 0 = omega (arith, rest) in z)

none-opened : refused_among no_world (opening_with 8) ≡ 0
none-opened = let rest = none-opening (record no_world { size = record { rows = 40; cols = 8 } }) (range_with_len 0 8) in ap (λ (k : ℕ). 0 + k) rest

module _ (number : ℕ) where
  pub whole_run : (first turned last : World) → first ≡ opened_with 8 → turned ≡ after_commands first (turns number 3200) → last ≡ after_commands turned closing → last ≡ generated_world number
  unfolding generated_world generated_commands
  whole_run first turned last opens turns_do closes =
      closes
      ∙ (ap (λ (w : World). after_commands w closing) (turns_do ∙ ap (λ (w : World). after_commands w (turns number 3200)) opens)
      ∙ (sym (fold-append after_command (opened_with 8) (turns number 3200) closing)
      ∙ (ap (λ (w : World). after_commands w (turns number 3200 ++ closing)) (sym opened_is)
      ∙ sym (fold-append after_command no_world (opening_with 8) (turns number 3200 ++ closing)))))

  counted : generated_refusals number ≡ refused_among (opened_with 8) (turns number 3200)
  unfolding generated_refusals generated_commands
  counted =
      let n = refused_among (opened_with 8) (turns number 3200) in
      refused_among-append no_world (opening_with 8) (turns number 3200 ++ closing)
      ∙ ((λ i. none-opened i + refused_among (opened_is i) (turns number 3200 ++ closing))
      ∙ (ap (λ (k : ℕ). 0 + k) (refused_among-append (opened_with 8) (turns number 3200) closing)
      ∙ (let z : 0 + (n + 0) ≡ n = omega arith in z)))

  pub whole_count : (first : World) (turned last : ℕ) → first ≡ opened_with 8 → turned ≡ refused_among first (turns number 3200) → last ≡ turned → last ≡ generated_refusals number
  whole_count first turned last opens turns_do closes = closes ∙ (turns_do ∙ (ap (λ (w : World). refused_among w (turns number 3200)) opens ∙ sym counted))
