-- A run in the middle: what was written, and what the rest will come to.
use Rattle.std.proofs.Common.{◌≡◌, ℕ, ◌+◌, true, false, cond, List, [], ◌∷◌, ◌++◌, take, drop, refl, ap, sym, ◌∙◌, subst, append_assoc, arith, length-append, length-drop, Option, Some, None, Result, Ok, Err}
use Rattle.std.proofs.lemmas.List.{append-nil, take-append-drop}
use Rattle.ss_base.specs.Streams.{AddsBack, TakesPrefix}
use Rattle.ss_base.specs.Lines.{Line, FeedState, is_long, lines, lines_left, GivesLine}
use Rattle.ss_base.specs.declared.lines.Turn.TheVariants as read
use Rattle.ss_base.specs.declared.lines.LineErr.TheVariants as fault
use Rattle.script_read.specs.Commands.{command_of}
use Rattle.script_read.specs.declared.script.ScriptErr.{ScriptErr}
use Rattle.script_read.specs.declared.script.ScriptKind.TheVariants as kind
use Rattle.script_read.specs.Script.{Stop, ended, too_long, refused, refused_at, LineTurn, goes, stops, turn_of_line, Script, script_from, after_turn, script_of}
use Rattle.script_run.specs.declared.state.Outcome.TheVariants as outcome
use Rattle.script_run.specs.World.{World, after_all, world_after}
use Rattle.script_run.specs.Transcript.{transcript_from, transcript}
use Rattle.script_run.specs.States.{RunState, first_table, TurnGives}
use Rattle.script_run.proofs.Turns.{ended_open}
use Rattle.sheetshare.specs.declared.play.Flow.{Flow}
use Rattle.sheetshare.specs.declared.play.Flow.TheVariants as flow
use Rattle.run_status.specs.declared.status.Status.{Status}
use Rattle.run_status.specs.declared.status.Status.TheVariants as status
use Rattle.sheetshare.specs.LineGives.{LineGives}
use Rattle.sheetshare.specs.Played.{Wrote, WrotePrefix, WroteFront, Played, StopsAs}

-- what an equal line comes to, and an equal answer to it
pub of_line : (t t' : RunState) (n : ℕ) (line held : List ℕ) (a b : Option (List ℕ)) (x y : Result Flow Status) → line ≡ held → x ≡ y → LineGives t t' n line a b x → LineGives t t' n held a b y
of_line t t' n line held a b x y e f k = subst (λ (z : Result Flow Status). LineGives t t' n held a b z) f (subst (λ (l : List ℕ). LineGives t t' n l a b x) e k)

-- ---- the next of the lines that are left
module _ (t : RunState) (n : ℕ) (left : Option (List Line)) (whole : List Line) (left_is : left ≡ Some whole) where
  known : (new : Option (List Line)) (held : List ℕ) (x : _) → GivesLine left new held x → GivesLine (Some whole) new held x
  known new held x h = rw left_is at h

  at_end_of : (new : Option (List Line)) (held : List ℕ) → GivesLine (Some whole) new held (Ok read.End) → whole ≡ []
  at_end_of None held h = absurd h
  at_end_of (Some new) held h = h.0

  long_of : (new : Option (List Line)) (held : List ℕ) → GivesLine (Some whole) new held (Err fault.TooLong) → (l : Line) × (rest : List Line) × (whole ≡ l ∷ rest) × (is_long l ≡ true)
  long_of None held h = absurd h
  long_of (Some new) held h = (h.0, h.1, h.2, h.3)

  line_of : (new : Option (List Line)) (held : List ℕ) → GivesLine (Some whole) new held (Ok read.Line) → (l : Line) × (rest : List Line) × (new ≡ Some rest) × (whole ≡ l ∷ rest) × (held ≡ l.bytes) × (is_long l ≡ false)
  line_of None held h = absurd h
  line_of (Some new) held h = (h.0, new, refl, h.1, h.2, h.3)

  -- the turn at a line that was read
  turn_here : (new : Option (List Line)) (held : List ℕ) → GivesLine left new held (Ok read.Line) → (x : LineTurn) → turn_of_line t.declared n (command_of held) ≡ x → (rest : List Line) × (new ≡ Some rest) × (script_from t.declared n whole ≡ after_turn n x (λ d. script_from d (n + 1) rest))
  turn_here new held h x k =
      let (l, rest, now, e, line, short) = line_of new held (known new held (Ok read.Line) h) in (
        rest,
        now,
        ap (script_from t.declared n) e
            ∙ (ap (λ b. after_turn n (cond b (stops (too_long n)) (turn_of_line t.declared n (command_of l.bytes))) (λ d. script_from d (n + 1) rest)) short
            ∙ ap (λ y. after_turn n y (λ d. script_from d (n + 1) rest)) (ap (λ bs. turn_of_line t.declared n (command_of bs)) (sym line) ∙ k)),
      )

-- ---- before the first line
pub starts : (f : FeedState) → f ≡ record { line = []; ahead = []; used = 0 } → (bytes : List ℕ) (left : Option (List ℕ)) → left ≡ Some bytes → lines_left f left ≡ Some (lines bytes)
starts f empty bytes left is = ap (λ (g : FeedState). lines_left g left) empty ∙ ap (lines_left (record { line = []; ahead = []; used = 0 })) is

-- ---- the state of the run
pub record Reads (s : Script) (left : Option (List Line)) (t : RunState) (n : ℕ) : Type 0 where
  pub rest : List Line
  pub left_is : left ≡ Some rest
  pub world : after_all t.world (script_from t.declared n rest).commands ≡ world_after s.commands
  pub stop : (script_from t.declared n rest).stop ≡ s.stop

pub reads_first : (ls : List Line) (left : Option (List Line)) → left ≡ Some ls → Reads (script_of ls) left first_table 1
reads_first ls left is = record { rest = ls; left_is = is; world = refl; stop = refl }

module _ (s : Script) (left : Option (List Line)) (t : RunState) (n : ℕ) (r : Reads s left t n) (t' : RunState) (new : Option (List Line)) (held : List ℕ) (h : GivesLine left new held (Ok read.Line)) where
  pub reads_on : (text : List ℕ) → TurnGives t t' n held (outcome.Goes text) → Reads s new t' (n + 1)
  reads_on text k =
      let here = turn_here t n left r.rest r.left_is new held h (goes t'.declared k.0) k.1 in
      record {
        rest = here.0;
        left_is = here.1;
        world = ap (λ (v : World). after_all v (script_from t'.declared (n + 1) here.0).commands) k.3 ∙ (sym (ap (λ (q : Script). after_all t.world q.commands) here.2) ∙ r.world);
        stop = sym (ap (λ (q : Script). q.stop) here.2) ∙ r.stop;
      }

  -- where the script ends the state is the last one
  pub world_here : TurnGives t t' n held outcome.Ended → t'.world ≡ world_after s.commands
  world_here k =
      let here = turn_here t n left r.rest r.left_is new held h (stops ended) k.0 in
      ap (λ (u : RunState). u.world) k.1 ∙ (sym (ap (λ (q : Script). after_all t.world q.commands) here.2) ∙ r.world)

-- a script that ends has a sheet
pub opened_here : (t t' : RunState) (n : ℕ) (held : List ℕ) → TurnGives t t' n held outcome.Ended → t'.declared.sheet ≡ true
opened_here t t' n held k = ap (λ (u : RunState). u.declared.sheet) k.1 ∙ ended_open t.declared _ _ k.0

-- where the run stops the script does
module _ (s : Script) (left : Option (List Line)) (t : RunState) (n : ℕ) (r : Reads s left t n) where
  stop_is : (ls : List Line) → r.rest ≡ ls → (why : Stop) → (script_from t.declared n ls).stop ≡ why → s.stop ≡ why
  stop_is ls e why h = sym r.stop ∙ (ap (λ (ks : List Line). (script_from t.declared n ks).stop) e ∙ h)

  pub stop_at_end : (new : Option (List Line)) (held : List ℕ) → GivesLine left new held (Ok read.End) → s.stop ≡ refused_at n kind.Unended
  stop_at_end new held h = stop_is [] (at_end_of t n left r.rest r.left_is new held (known t n left r.rest r.left_is new held (Ok read.End) h)) (refused_at n kind.Unended) refl

  pub stop_at_long : (new : Option (List Line)) (held : List ℕ) → GivesLine left new held (Err fault.TooLong) → s.stop ≡ too_long n
  stop_at_long new held h =
      let (l, rest, e, long) = long_of t n left r.rest r.left_is new held (known t n left r.rest r.left_is new held (Err fault.TooLong) h) in
      stop_is (l ∷ rest) e (too_long n) (ap (λ b. (after_turn n (cond b (stops (too_long n)) (turn_of_line t.declared n (command_of l.bytes))) (λ d. script_from d (n + 1) rest)).stop) long)

  stop_at_line : (new : Option (List Line)) (held : List ℕ) → GivesLine left new held (Ok read.Line) → (why : Stop) → turn_of_line t.declared n (command_of held) ≡ stops why → s.stop ≡ why
  stop_at_line new held h why k = stop_is r.rest refl why (ap (λ (q : Script). q.stop) ((turn_here t n left r.rest r.left_is new held h (stops why) k).2))

  module _ (t' : RunState) (new : Option (List Line)) (held : List ℕ) (before after : Option (List ℕ)) (h : GivesLine left new held (Ok read.Line)) where
    pub stop_at_error : (e : Status) → LineGives t t' n held before after (Err e) → StopsAs s.stop e
    stop_at_error (status.Script err) k = stop_at_line new held h (refused err) k.turn.0
    stop_at_error status.WriteFault k = tt
    stop_at_error status.Memory k = tt
    stop_at_error status.Done k = absurd k
    stop_at_error status.ReadFault k = tt
    stop_at_error status.Usage k = tt
    stop_at_error (status.TooLong line) k = absurd k

    pub stop_at_ended : LineGives t t' n held before after (Ok flow.Ended) → s.stop ≡ ended
    stop_at_ended k = stop_at_line new held h ended k.turn.0

-- ---- and what was written
pub record Runs (s : Script) (before : List ℕ) (left : Option (List Line)) (taken : Option (List ℕ)) (t : RunState) (n : ℕ) : Type 0 where
  pub rest : List Line
  pub part : List ℕ
  pub left_is : left ≡ Some rest
  pub taken_is : taken ≡ Some (before ++ part)
  pub text : part ++ transcript_from t.world (script_from t.declared n rest).commands ≡ transcript s.commands
  pub stop : (script_from t.declared n rest).stop ≡ s.stop

pub runs_first : (ls : List Line) (before : List ℕ) (left : Option (List Line)) (taken : Option (List ℕ)) → left ≡ Some ls → taken ≡ Some before → Runs (script_of ls) before left taken first_table 1
runs_first ls before left taken l t = record { rest = ls; part = []; left_is = l; taken_is = t ∙ ap Some (sym (append-nil before)); text = refl; stop = refl }

-- before anything was written
pub nothing_yet : (s : Script) (before : List ℕ) (taken : Option (List ℕ)) → taken ≡ Some before → WrotePrefix s before taken
nothing_yet s before taken t = ([], transcript s.commands, refl, t ∙ ap Some (sym (append-nil before)))

module _ (s : Script) (before : List ℕ) (left : Option (List Line)) (taken : Option (List ℕ)) (t : RunState) (n : ℕ) (r : Runs s before left taken t n) where
  -- the text so far is a front of all
  pub cut : WrotePrefix s before taken
  cut = (r.part, transcript_from t.world (script_from t.declared n r.rest).commands, r.text, r.taken_is)

  -- the script stops here
  stopped : (left' : List Line) → r.rest ≡ left' → (why : Stop) → script_from t.declared n left' ≡ record { commands = []; stop = why } → (s.stop ≡ why) × Wrote s before taken
  stopped rest e why h =
      let here : script_from t.declared n r.rest ≡ record { commands = []; stop = why } = ap (script_from t.declared n) e ∙ h in (
        sym r.stop ∙ ap (λ (q : Script). q.stop) here,
        r.taken_is ∙ ap (λ p. Some (before ++ p)) (sym (append-nil r.part) ∙ (sym (ap (λ (q : Script). r.part ++ transcript_from t.world q.commands) here) ∙ r.text)),
      )

  pub at_end : (new : Option (List Line)) (held : List ℕ) → GivesLine left new held (Ok read.End) → Played s before taken (status.Script (record { line = n; kind = kind.Unended }))
  at_end new held h = stopped [] (at_end_of t n left r.rest r.left_is new held (known t n left r.rest r.left_is new held (Ok read.End) h)) (refused_at n kind.Unended) refl

  pub at_long : (new : Option (List Line)) (held : List ℕ) → GivesLine left new held (Err fault.TooLong) → Played s before taken (status.TooLong n)
  at_long new held h =
      let (l, rest, e, long) = long_of t n left r.rest r.left_is new held (known t n left r.rest r.left_is new held (Err fault.TooLong) h) in
      stopped (l ∷ rest) e (too_long n) (ap (λ b. after_turn n (cond b (stops (too_long n)) (turn_of_line t.declared n (command_of l.bytes))) (λ d. script_from d (n + 1) rest)) long)

  stops_here : (new : Option (List Line)) (held : List ℕ) → GivesLine left new held (Ok read.Line) → (why : Stop) → turn_of_line t.declared n (command_of held) ≡ stops why → (s.stop ≡ why) × Wrote s before taken
  stops_here new held h why k = stopped r.rest refl why ((turn_here t n left r.rest r.left_is new held h (stops why) k).2)

  pub at_done : (t' : RunState) (new : Option (List Line)) (held : List ℕ) → GivesLine left new held (Ok read.Line) → TurnGives t t' n held outcome.Ended → Played s before taken status.Done
  at_done t' new held h k = stops_here new held h ended k.0

  pub at_refused : (t' : RunState) (new : Option (List Line)) (held : List ℕ) (err : ScriptErr) → GivesLine left new held (Ok read.Line) → TurnGives t t' n held (outcome.Refused err) → Played s before taken (status.Script err)
  at_refused t' new held err h k = stops_here new held h (refused err) k.0

  -- what the line prints, and the rest after it
  module _ (t' : RunState) (new : Option (List Line)) (held text : List ℕ) (h : GivesLine left new held (Ok read.Line)) (k : TurnGives t t' n held (outcome.Goes text)) where
    abbrev here : (rest : List Line) × (new ≡ Some rest) × (script_from t.declared n r.rest ≡ after_turn n (goes t'.declared k.0) (λ d. script_from d (n + 1) rest))
    here = turn_here t n left r.rest r.left_is new held h (goes t'.declared k.0) k.1

    text_here : (r.part ++ text) ++ transcript_from t'.world (script_from t'.declared (n + 1) here.0).commands ≡ transcript s.commands
    text_here =
        append_assoc r.part text (transcript_from t'.world (script_from t'.declared (n + 1) here.0).commands)
        ∙ ((λ i. r.part ++ (k.2 i ++ transcript_from (k.3 i) (script_from t'.declared (n + 1) here.0).commands))
        ∙ (sym (ap (λ (q : Script). r.part ++ transcript_from t.world q.commands) here.2) ∙ r.text))

    added : (xs : List ℕ) (taken' : Option (List ℕ)) → AddsBack (Some (before ++ r.part)) taken' xs → taken' ≡ Some (before ++ (r.part ++ xs))
    added xs (Some bs) a = ap Some (a ∙ append_assoc before r.part xs)
    added xs None a = absurd a

    pub goes_on : (taken' : Option (List ℕ)) → AddsBack taken taken' text → Runs s before new taken' t' (n + 1)
    goes_on taken' a = record {
      rest = here.0;
      part = r.part ++ text;
      left_is = here.1;
      taken_is = added text taken' (rw r.taken_is at a);
      text = text_here;
      stop = sym (ap (λ (q : Script). q.stop) here.2) ∙ r.stop;
    }

    pub cut_here : (taken' : Option (List ℕ)) → TakesPrefix taken taken' text → WroteFront s before taken'
    cut_here taken' (m, small, a) =
        let more = transcript_from t'.world (script_from t'.declared (n + 1) here.0).commands in (
          r.part ++ take m text,
          drop m text ++ more,
          append_assoc r.part (take m text) (drop m text ++ more)
              ∙ (ap (λ p. r.part ++ p) (sym (append_assoc (take m text) (drop m text) more))
              ∙ (ap (λ p. r.part ++ (p ++ more)) (take-append-drop m text) ∙ (sym (append_assoc r.part text more) ∙ text_here))),
          simp (length-append, length-drop) (omega arith),
          added (take m text) taken' (rw r.taken_is at a),
        )

  -- an end at a line that is refused, at a fault of the sink or at want of memory
  pub at_stop : (t' : RunState) (new : Option (List Line)) (held : List ℕ) (taken' : Option (List ℕ)) (e : Status) → GivesLine left new held (Ok read.Line) → LineGives t t' n held taken taken' (Err e) → Played s before taken' e
  at_stop t' new held taken' (status.Script err) h k = subst (λ (x : Option (List ℕ)). Played s before x (status.Script err)) (sym k.unwritten) (at_refused t' new held err h k.turn)
  at_stop t' new held taken' status.WriteFault h k = cut_here t' new held k.text h k.turn taken' k.written
  at_stop t' new held taken' status.Memory h k = subst (λ (x : Option (List ℕ)). WrotePrefix s before x) (sym k) cut
  at_stop t' new held taken' status.Done h k = absurd k
  at_stop t' new held taken' status.ReadFault h k = absurd k
  at_stop t' new held taken' status.Usage h k = absurd k
  at_stop t' new held taken' (status.TooLong line) h k = absurd k

  -- an end at the line `end`
  pub at_ended : (t' : RunState) (new : Option (List Line)) (held : List ℕ) (taken' : Option (List ℕ)) → GivesLine left new held (Ok read.Line) → LineGives t t' n held taken taken' (Ok flow.Ended) → Played s before taken' status.Done
  at_ended t' new held taken' h k = subst (λ (x : Option (List ℕ)). Played s before x status.Done) (sym k.unwritten) (at_done t' new held h k.turn)
