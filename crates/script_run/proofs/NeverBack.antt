-- What is published never goes back.
use Rattle.std.proofs.Common.{ℕ, zero, suc, ◌+◌, ◌-◌, ◌≤◌, List, [], ◌∷◌, ◌++◌, length, take, drop, arith, Option, None, Ok, Err}
use Rattle.std.specs.Prelude.{Result, slice_set, slice_index_or}
use Rattle.std.proofs.lemmas.List.{length-append}
use Rattle.sheet_ops.specs.declared.edit.EditErr.{EditErr}
use Rattle.sheet_ops.specs.declared.operation.Intent.{Intent}
use Rattle.script_read.specs.declared.command.Command.{Command}
use Rattle.script_read.specs.declared.command.Command.TheVariants as command
use Rattle.script_run.specs.declared.seat.Seat.{Seat}
use Rattle.script_run.specs.World.{World, no_world, new_seat, seat_at, put_seat, seat_index, at_most, pushed, pulled, recalculated, reading, at_each, decided, after_decided, after_command, after_all}
use Rattle.script_run.specs.Publishing.{IsPublishing, NeverGoesBack}
use Rattle.script_run.proofs.Worlds.{at_most-le}

-- a seat replaced, and one more
each_set : (ss : List Seat) (p : ℕ) (s : Seat) (n : ℕ) → ((q : ℕ) → (slice_index_or ss q (new_seat [])).read ≤ n) → s.read ≤ n → (q : ℕ) → (slice_index_or (slice_set ss p s) q (new_seat [])).read ≤ n
each_set [] p s n all h q = all q
each_set (x ∷ ss) zero s n all h zero = h
each_set (x ∷ ss) zero s n all h (suc q) = all (suc q)
each_set (x ∷ ss) (suc p) s n all h zero = all zero
each_set (x ∷ ss) (suc p) s n all h (suc q) = each_set ss p s n (λ k. all (suc k)) h q

each_more : (ss : List Seat) (name : List ℕ) (n : ℕ) → ((q : ℕ) → (slice_index_or ss q (new_seat [])).read ≤ n) → (q : ℕ) → (slice_index_or (ss ++ new_seat name ∷ []) q (new_seat [])).read ≤ n
each_more [] name n all zero = omega arith
each_more [] name n all (suc q) = omega arith
each_more (x ∷ ss) name n all zero = all zero
each_more (x ∷ ss) name n all (suc q) = each_more ss name n (λ k. all (suc k)) q

module _ (w : World) (h : IsPublishing w) where
  put_publishing : (p : ℕ) (s : Seat) → s.read ≤ w.published → IsPublishing (put_seat w p s)
  put_publishing p s k = record { within = h.within; seen = each_set w.seats p s w.published h.seen k }

  pushed_publishing : (p : ℕ) (n : Option ℕ) → IsPublishing (pushed w p n)
  pushed_publishing p n =
      let s = seat_at w p in
      let count = at_most n (length s.made - s.pushed) in
      record {
        within = let e = length-append w.history (take count (drop s.pushed s.made)) in let k = h.within in omega (arith, e, k);
        seen = each_set w.seats p (record s { pushed = s.pushed + count }) w.published h.seen (h.seen p);
      }

  pulled_publishing : (p : ℕ) (n : Option ℕ) → IsPublishing (pulled w p n)
  pulled_publishing p n = let s = seat_at w p in put_publishing p (record s { taken = s.taken + at_most n (length w.history - s.taken) }) (h.seen p)

  recalculated_publishing : (n : Option ℕ) → IsPublishing (recalculated w n)
  recalculated_publishing n =
      let most = at_most-le n (length w.history - w.published) in
      record { within = let k = h.within in omega (arith, k, most); seen = λ q. let k = h.seen q in omega (arith, k) }

  reading_publishing : (p : ℕ) → IsPublishing (reading w p)
  reading_publishing p = put_publishing p (record (seat_at w p) { read = w.published }) (omega arith)

  decided_publishing : (p : ℕ) (x : Result Intent EditErr) → IsPublishing (after_decided w p x)
  decided_publishing p (Err e) = h
  decided_publishing p (Ok op) = let s = seat_at w p in put_publishing p (record s { made = s.made ++ record { site = record { 0 = suc p }; seen = s.taken; intent = op } ∷ [] }) (h.seen p)

each_publishing : (does : World → ℕ → World) → ((v : World) (p : ℕ) → IsPublishing v → IsPublishing (does v p)) → (first count : ℕ) (w : World) → IsPublishing w → IsPublishing (at_each does first count w)
each_publishing does keeps first zero w h = h
each_publishing does keeps first (suc count) w h = each_publishing does keeps (suc first) count (does w first) (keeps w first h)

after_publishing : (w : World) → IsPublishing w → (c : Command) → IsPublishing (after_command w c)
after_publishing w h command.Note = h
after_publishing w h (command.Sheet size) = record { within = h.within; seen = h.seen }
after_publishing w h (command.Site name) = record { within = h.within; seen = each_more w.seats name w.published h.seen }
after_publishing w h (command.Edit name e) = decided_publishing w h (seat_index w name) (decided w (seat_index w name) e)
after_publishing w h (command.Push name n) = pushed_publishing w h (seat_index w name) n
after_publishing w h (command.Pull name n) = pulled_publishing w h (seat_index w name) n
after_publishing w h command.PushAll = each_publishing (λ v p. pushed v p None) (λ v p k. pushed_publishing v k p None) 0 (length w.seats) w h
after_publishing w h command.PullAll = each_publishing (λ v p. pulled v p None) (λ v p k. pulled_publishing v k p None) 0 (length w.seats) w h
after_publishing w h (command.Sync name) = recalculated_publishing (pushed w (seat_index w name) None) (pushed_publishing w h (seat_index w name) None) None
after_publishing w h (command.Recalc n) = recalculated_publishing w h n
after_publishing w h (command.Read name range) = reading_publishing w h (seat_index w name)
after_publishing w h command.Values = h
after_publishing w h command.History = h
after_publishing w h command.Wire = h
after_publishing w h (command.Show name) = h
after_publishing w h command.ShowServer = h
after_publishing w h command.End = h

all_publishing : (cs : List (ℕ × Command)) (w : World) → IsPublishing w → IsPublishing (after_all w cs)
all_publishing [] w h = h
all_publishing (c ∷ cs) w h = all_publishing cs (after_command w c.1) (after_publishing w h c.1)

pub never_goes_back : (cs : List (ℕ × Command)) → NeverGoesBack cs
never_goes_back cs done rest is = all_publishing done no_world (record { within = omega arith; seen = λ q. omega arith })
