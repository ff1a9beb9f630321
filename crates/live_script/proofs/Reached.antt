-- A script that is read in the middle: the commands so far, and what the rest comes to.
use Rattle.std.proofs.Common.{◌≡◌, ℕ, ◌+◌, false, cond, List, [], ◌∷◌, ◌++◌, refl, ap, sym, ◌∙◌, subst, append_assoc, Option, Some, None, Result, Ok, Err}
use Rattle.std.proofs.lemmas.List.{append-nil}
use Rattle.ss_base.specs.Lines.{Line, FeedState, is_long, lines, lines_left, GivesLine}
use Rattle.ss_base.specs.declared.lines.Turn.TheVariants as read
use Rattle.ss_base.specs.declared.lines.LineErr.TheVariants as fault
use Rattle.script_read.specs.declared.command.Command.{Command}
use Rattle.script_read.specs.declared.script.ScriptKind.TheVariants as kind
use Rattle.script_read.specs.Commands.{command_of}
use Rattle.script_read.specs.Script.{Stop, ended, too_long, refused, refused_at, Declared, LineTurn, goes, stops, turn_of_line, declared_with, Script, script_from, after_turn}
use Rattle.live_script.specs.declared.script.LiveStop.{LiveStop}
use Rattle.live_script.specs.declared.script.LiveStop.TheVariants as stop
use Rattle.live_script.specs.declared.flow.Flow.{Flow}
use Rattle.live_script.specs.declared.flow.Flow.TheVariants as flow
use Rattle.live_script.specs.Scripts.{live_script, by_sites}
use Rattle.live_script.specs.SoFar.{SoFar, nothing_so_far, live_turn, IsSoFar, LineAdds, TellsStop}
use Rattle.live_script.proofs.Appending.{Commands}
use Rattle.live_script.proofs.Turns.{cut, cut_turn}
use Rattle.live_script.proofs.Holding.{holds_first, declared_next}

-- what an equal line comes to, and an equal answer to it
pub of_line : (t t' : SoFar) (n : ℕ) (line held : List ℕ) (x y : Result Flow LiveStop) → line ≡ held → x ≡ y → LineAdds t t' n line x → LineAdds t t' n held y
of_line t t' n line held x y e f k = subst (λ (z : Result Flow LiveStop). LineAdds t t' n held z) f (subst (λ (l : List ℕ). LineAdds t t' n l x) e k)

-- the script of the lines from number n on
abbrev live_from : Declared → ℕ → List Line → Script
live_from d n ls = cut (script_from d n ls)

abbrev script_with : Commands → Stop → Script
script_with cs stop = record { commands = cs; stop = stop }

-- a script behind commands
abbrev continued : Commands → Script → Script
continued cs s = record { commands = cs ++ s.commands; stop = s.stop }

continued_more : (cs : Commands) (c : ℕ × Command) (s : Script) → continued cs (continued (c ∷ []) s) ≡ continued (cs ++ c ∷ []) s
continued_more cs c s = λ i. script_with (sym (append_assoc cs (c ∷ []) s.commands) i) (s.stop)

-- the turn of the first line that is left
turn_here : (d : Declared) (n : ℕ) (l : Line) (rest : List Line) (held : List ℕ) (x : LineTurn) → held ≡ l.bytes → is_long l ≡ false → live_turn n (turn_of_line d n (command_of held)) ≡ x →
    live_from d n (l ∷ rest) ≡ after_turn n x (λ e. live_from e (n + 1) rest)
turn_here d n l rest held x line short k =
    cut_turn n (cond (is_long l) (stops (too_long n)) (turn_of_line d n (command_of l.bytes))) (λ e. script_from e (n + 1) rest)
    ∙ (ap (λ b. after_turn n (live_turn n (cond b (stops (too_long n)) (turn_of_line d n (command_of l.bytes)))) (λ e. live_from e (n + 1) rest)) short
    ∙ ap (λ y. after_turn n y (λ e. live_from e (n + 1) rest)) (ap (λ bs. live_turn n (turn_of_line d n (command_of bs))) (sym line) ∙ k))

-- ---- before the first line
pub starts : (f : FeedState) → f ≡ record { line = []; ahead = []; used = 0 } → (bytes : List ℕ) (left : Option (List ℕ)) → left ≡ Some bytes → lines_left f left ≡ Some (lines bytes)
starts f empty bytes left is = ap (λ (g : FeedState). lines_left g left) empty ∙ ap (lines_left (record { line = []; ahead = []; used = 0 })) is

-- ---- the state of the reading
pub record Reads (s : Script) (left : Option (List Line)) (t : SoFar) (n : ℕ) : Type 0 where
  pub rest : List Line
  pub commands : Commands
  pub left_is : left ≡ Some rest
  pub holds : IsSoFar commands t
  pub through : s ≡ continued commands (live_from t.declared n rest)

pub reads_first : (bytes : List ℕ) (f : FeedState) → f ≡ record { line = []; ahead = []; used = 0 } → (left : Option (List ℕ)) → left ≡ Some bytes → (t : SoFar) → t ≡ nothing_so_far → Reads (live_script bytes) (lines_left f left) t 1
reads_first bytes f empty left told t is = subst (λ (u : SoFar). Reads (live_script bytes) (lines_left f left) u 1) (sym is)
    (record { rest = lines bytes; commands = []; left_is = starts f empty bytes left told; holds = holds_first; through = refl })

module _ (s : Script) (left : Option (List Line)) (t : SoFar) (n : ℕ) (r : Reads s left t n) (new : Option (List Line)) (held : List ℕ) where
  known : (x : _) → GivesLine left new held x → GivesLine (Some r.rest) new held x
  known x h = subst (λ (o : Option (List Line)). GivesLine o new held x) r.left_is h

  stop_is : (ls : List Line) → r.rest ≡ ls → (why : Stop) → live_from t.declared n ls ≡ record { commands = []; stop = why } → (s.stop ≡ why) × (s.commands ≡ r.commands)
  stop_is ls e why h =
      let here : s ≡ continued r.commands (record { commands = []; stop = why }) = r.through ∙ ap (continued r.commands) (ap (live_from t.declared n) e ∙ h) in
      (ap (λ (q : Script). q.stop) here, ap (λ (q : Script). q.commands) here ∙ append-nil r.commands)

  pub stop_at_end : GivesLine left new held (Ok read.End) → s.stop ≡ refused_at n kind.Unended
  stop_at_end h = by_new new (known (Ok read.End) h)
    where
      by_new : (o : Option (List Line)) → GivesLine (Some r.rest) o held (Ok read.End) → s.stop ≡ refused_at n kind.Unended
      by_new None h = absurd h
      by_new (Some ls) h = (stop_is [] h.0 (refused_at n kind.Unended) refl).0

  pub stop_at_long : GivesLine left new held (Err fault.TooLong) → s.stop ≡ too_long n
  stop_at_long h = by_new new (known (Err fault.TooLong) h)
    where
      by_new : (o : Option (List Line)) → GivesLine (Some r.rest) o held (Err fault.TooLong) → s.stop ≡ too_long n
      by_new None h = absurd h
      by_new (Some ls) (l, rest, e, long, same) = (stop_is (l ∷ rest) e (too_long n)
          (ap (λ b. cut (after_turn n (cond b (stops (too_long n)) (turn_of_line t.declared n (command_of l.bytes))) (λ d. script_from d (n + 1) rest))) long)).0

  module _ (h : GivesLine left new held (Ok read.Line)) where
    -- the line that was read, and the lines behind it
    record First : Type 0 where
      line : Line
      others : List Line
      new_is : new ≡ Some others
      rest_is : r.rest ≡ line ∷ others
      bytes_are : held ≡ line.bytes
      fits : is_long line ≡ false

    first : First
    first = by_new new refl (known (Ok read.Line) h)
      where
        by_new : (o : Option (List Line)) → new ≡ o → GivesLine (Some r.rest) o held (Ok read.Line) → First
        by_new None e h = absurd h
        by_new (Some ls) e (l, rest_is, bytes_are, fits) = record { line = l; others = ls; new_is = e; rest_is = rest_is; bytes_are = bytes_are; fits = fits }

    from_here : (x : LineTurn) → live_turn n (turn_of_line t.declared n (command_of held)) ≡ x → live_from t.declared n (first.line ∷ first.others) ≡ after_turn n x (λ d. live_from d (n + 1) first.others)
    from_here x k = turn_here t.declared n first.line first.others held x first.bytes_are first.fits k

    stop_here : (why : Stop) → live_turn n (turn_of_line t.declared n (command_of held)) ≡ stops why → (s.stop ≡ why) × (s.commands ≡ r.commands)
    stop_here why k = stop_is (first.line ∷ first.others) first.rest_is why (from_here (stops why) k)

    module _ (t' : SoFar) where
      pub reads_on : LineAdds t t' n held (Ok flow.GoesOn) → Reads s new t' (n + 1)
      reads_on (c, turn, adds) = record {
        rest = first.others;
        commands = r.commands ++ (n, c) ∷ [];
        left_is = first.new_is;
        holds = adds r.commands r.holds;
        through =
            r.through
            ∙ (ap (λ ls. continued r.commands (live_from t.declared n ls)) first.rest_is
            ∙ (ap (continued r.commands) (from_here (goes (declared_with t.declared c) c) turn)
            ∙ (continued_more r.commands (n, c) (live_from (declared_with t.declared c) (n + 1) first.others)
            ∙ ap (λ d. continued (r.commands ++ (n, c) ∷ []) (live_from d (n + 1) first.others)) (sym (declared_next r.commands t t' n c r.holds (adds r.commands r.holds))))));
      }

      pub stop_at_error : (e : LiveStop) → LineAdds t t' n held (Err e) → TellsStop s.stop e
      stop_at_error (stop.Script err) k = (stop_here (refused err) k).0
      stop_at_error stop.Memory k = tt
      stop_at_error stop.ReadFault k = absurd k
      stop_at_error (stop.TooLong line) k = absurd k

      -- where the script ends it is the one of its commands
      pub script_here : LineAdds t t' n held (Ok flow.Ended) → (s.stop ≡ ended) × (t'.script ≡ by_sites s.commands)
      script_here (turn, same, sheet) =
          let (at, all) = stop_here ended turn in
          (at, ap (λ (u : SoFar). u.script) same ∙ (r.holds.script ∙ ap by_sites (sym all)))
