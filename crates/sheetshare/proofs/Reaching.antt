-- How far a run has come in its script: the lines that it has done, and the bytes of them.
use Rattle.std.proofs.Common.{◌≡◌, ℕ, ◌+◌, ◌<◌, ◌≤◌, ◌⊎◌, false, cond, List, [], ◌∷◌, ◌++◌, length, refl, ap, sym, ◌∙◌, subst, arith, append_assoc, inl, inr, ⊎_elim, Option, Some, None, Ok, Err}
use Rattle.std.proofs.lemmas.List.{append-nil, length-append}
use Rattle.std.proofs.lemmas.Bool.Decides.{nat_tests}
use Rattle.ss_base.specs.Lines.{Line, FeedState, bytes_left, is_long, lines, lines_from, TakesFed, TakesLast, UsesBytes}
use Rattle.ss_base.specs.Search.{NoFeed}
use Rattle.ss_base.specs.Streams.{AddsBack}
use Rattle.ss_base.specs.declared.lines.Turn.TheVariants as read
use Rattle.ss_base.specs.declared.lines.LineErr.TheVariants as fault
use Rattle.ss_base.proofs.FirstLine.{lines_from-feed, lines_from-end}
use Rattle.script_read.specs.declared.command.Command.{Command}
use Rattle.script_read.specs.declared.script.ScriptKind.TheVariants as kind
use Rattle.script_read.specs.Commands.{command_of}
use Rattle.script_read.specs.Script.{Declared, LineTurn, goes, stops, ended, too_long, refused_at, turn_of_line, Script, script, script_of, script_from, after_turn}
use Rattle.script_run.specs.declared.state.Outcome.TheVariants as outcome
use Rattle.script_run.specs.World.{World, no_world, after_command, after_all}
use Rattle.script_run.specs.Transcript.{printed, transcript_from, transcript}
use Rattle.script_run.specs.States.{RunState, first_table, TurnGives}
use Rattle.sheetshare.specs.Places.{GoesOn, EndsLine, IsOneLine, FaultedAt, EndedAt}

abbrev Commands : Type 0
Commands = List (ℕ × Command)

-- a script behind commands
abbrev continued : Commands → Script → Script
continued cs s = record { commands = cs ++ s.commands; stop = s.stop }

continued_more : (cs : Commands) (c : ℕ × Command) (s : Script) → continued cs (continued (c ∷ []) s) ≡ continued (cs ++ c ∷ []) s
continued_more cs c s = λ i. record { commands = sym (append_assoc cs (c ∷ []) s.commands) i; stop = s.stop }

-- ---- a line by its turn

turn_here : (d : Declared) (n : ℕ) (l : Line) (more : List Line) (x : LineTurn) → is_long l ≡ false → turn_of_line d n (command_of l.bytes) ≡ x
    → script_from d n (l ∷ more) ≡ after_turn n x (λ e. script_from e (n + 1) more)
turn_here d n l more x short turn =
    ap (λ b. after_turn n (cond b (stops (too_long n)) (turn_of_line d n (command_of l.bytes))) (λ e. script_from e (n + 1) more)) short
    ∙ ap (λ y. after_turn n y (λ e. script_from e (n + 1) more)) turn

-- ---- commands one behind another

after_all-append : (w : World) (cs ds : Commands) → after_all w (cs ++ ds) ≡ after_all (after_all w cs) ds
after_all-append w [] ds = refl
after_all-append w (c ∷ cs) ds = after_all-append (after_command w c.1) cs ds

transcript_from-append : (w : World) (cs ds : Commands) → transcript_from w (cs ++ ds) ≡ transcript_from w cs ++ transcript_from (after_all w cs) ds
transcript_from-append w [] ds = refl
transcript_from-append w (c ∷ cs) ds =
    ap (λ t. printed w c.0 c.1 ++ t) (transcript_from-append (after_command w c.1) cs ds)
    ∙ sym (append_assoc (printed w c.0 c.1) (transcript_from (after_command w c.1) cs) (transcript_from (after_all (after_command w c.1) cs) ds))

-- a text goes in behind what was written
pub added : (before part text : List ℕ) (taken taken' : Option (List ℕ)) → taken ≡ Some (before ++ part) → AddsBack taken taken' text → taken' ≡ Some (before ++ (part ++ text))
added before part text taken taken' is a = known taken' (subst (λ (o : Option (List ℕ)). AddsBack o taken' text) is a)
  where
    known : (o : Option (List ℕ)) → AddsBack (Some (before ++ part)) o text → o ≡ Some (before ++ (part ++ text))
    known (Some bs) h = ap Some (h ∙ append_assoc before part text)
    known None h = absurd h

some_is : (a b : List ℕ) → Some a ≡ Some b → a ≡ b
some_is a b e = cc

-- ---- the state

-- the lines that are done go on, and so many bytes stand behind them
abbrev OpenBehind : List ℕ → List Line → List ℕ → Type 0
OpenBehind whole done rest = (rest ≡ []) ⊎ (EndsLine whole × ((more : List ℕ) → lines (whole ++ more) ≡ done ++ lines_from (length whole) more))

pub record HasDone (bytes : List ℕ) (f : FeedState) (left : Option (List ℕ)) (t : RunState) (n : ℕ) : Type 0 where
  pub whole : List ℕ
  pub rest : List ℕ
  pub done : List Line
  pub commands : Commands
  pub left_is : bytes_left f left ≡ Some rest
  pub split : whole ++ rest ≡ bytes
  pub used : f.used ≡ length whole
  pub lines_are : lines whole ≡ done
  pub behind : OpenBehind whole done rest
  pub through : (more : List Line) → script_of (done ++ more) ≡ continued commands (script_from t.declared n more)
  pub world : after_all no_world commands ≡ t.world

abbrev pub start_reached : (bytes : List ℕ) (f : FeedState) (left : Option (List ℕ)) → f ≡ record { line = []; ahead = []; used = 0 } → left ≡ Some bytes → HasDone bytes f left first_table 1
start_reached bytes f left empty told = record {
  whole = [];
  rest = bytes;
  done = [];
  commands = [];
  left_is = ap (λ (g : FeedState). bytes_left g left) empty ∙ ap (bytes_left (record { line = []; ahead = []; used = 0 })) told;
  split = refl;
  used = ap (λ (g : FeedState). g.used) empty;
  lines_are = refl;
  behind = inr (inl refl, λ more. refl);
  through = λ more. refl;
  world = refl;
}

-- from the state before the first line
pub reached_first : (bytes : List ℕ) (f : FeedState) (left : Option (List ℕ)) (t : RunState) → t ≡ first_table → f ≡ record { line = []; ahead = []; used = 0 } → left ≡ Some bytes → HasDone bytes f left t 1
reached_first bytes f left t is empty told = subst (λ (u : RunState). HasDone bytes f left u 1) (sym is) (start_reached bytes f left empty told)

-- and what was written is the transcript of the lines that are done
abbrev pub IsPlaced : (bytes before : List ℕ) → FeedState → Option (List ℕ) → Option (List ℕ) → RunState → ℕ → Type 0
IsPlaced bytes before f left taken t n = (r : HasDone bytes f left t n) × (taken ≡ Some (before ++ transcript r.commands))

pub placed_first : (bytes before : List ℕ) (f : FeedState) (left taken : Option (List ℕ)) (t : RunState) → t ≡ first_table → f ≡ record { line = []; ahead = []; used = 0 } → left ≡ Some bytes → taken ≡ Some before
    → IsPlaced bytes before f left taken t 1
placed_first bytes before f left taken t is empty told wrote =
    subst (λ (u : RunState). IsPlaced bytes before f left taken u 1) (sym is) (start_reached bytes f left empty told, wrote ∙ ap Some (sym (append-nil before)))

-- ---- the next line

module _ (bytes : List ℕ) (f : FeedState) (left : Option (List ℕ)) (t : RunState) (n : ℕ) (r : HasDone bytes f left t n) where
  -- the script of the lines that are done
  script_done : script r.whole ≡ record { commands = r.commands; stop = refused_at n kind.Unended }
  script_done =
      ap script_of (r.lines_are ∙ sym (append-nil r.done))
      ∙ (r.through [] ∙ (λ i. record { commands = append-nil r.commands i; stop = refused_at n kind.Unended }))

  goes_on : GoesOn (script r.whole)
  goes_on = (n, ap (λ (s : Script). s.stop) script_done)

  -- what a feed gives after a line
  module _ (g : FeedState) (after : Option (List ℕ)) (small : g.used ≤ 1048576) (short : length g.line ≤ 4096) where
    -- the line in the script, its bytes, and those behind it
    record Next : Type 0 where
      line : Line
      taken : List ℕ
      rest : List ℕ
      left_is : bytes_left g after ≡ Some rest
      split : r.rest ≡ taken ++ rest
      is : line.bytes ≡ g.line
      fits : is_long line ≡ false
      used : g.used ≡ length (r.whole ++ taken)
      lines_are : lines (r.whole ++ taken) ≡ r.done ++ line ∷ []
      behind : OpenBehind (r.whole ++ taken) (r.done ++ line ∷ []) rest
      one : IsOneLine taken

    fits_in : (ends : ℕ) → g.used ≡ ends → is_long (record { bytes = g.line; ends = ends }) ≡ false
    fits_in ends e = grind (arith, nat_tests)

    fed : (rest : List ℕ) → bytes_left g after ≡ Some rest → NoFeed g.line → TakesFed f g r.rest rest → EndsLine r.whole × ((more : List ℕ) → lines (r.whole ++ more) ≡ r.done ++ lines_from (length r.whole) more) → Next
    fed rest left_is plain takes stands =
        let taken = g.line ++ 10 ∷ [] in
        let l : Line = record { bytes = g.line; ends = length r.whole + length g.line + 1 } in
        let used : g.used ≡ length r.whole + length g.line + 1 = takes.1 ∙ ap (λ k. k + length g.line + 1) r.used in
        let longer : length (r.whole ++ taken) ≡ length r.whole + length g.line + 1 = simp length-append (omega arith) in
        let on : (more : List ℕ) → lines ((r.whole ++ taken) ++ more) ≡ (r.done ++ l ∷ []) ++ lines_from (length (r.whole ++ taken)) more = λ more.
        ap lines (append_assoc r.whole taken more ∙ ap (λ z. r.whole ++ z) (append_assoc g.line (10 ∷ []) more))
        ∙ (stands.1 (g.line ++ 10 ∷ more)
        ∙ (ap (λ (z : List Line). r.done ++ z) (lines_from-feed (length r.whole) g.line more plain)
        ∙ ((λ i. r.done ++ l ∷ lines_from (sym longer i) more) ∙ sym (append_assoc r.done (l ∷ []) (lines_from (length (r.whole ++ taken)) more))))) in
        record {
          line = l;
          taken = taken;
          rest = rest;
          left_is = left_is;
          split = takes.0 ∙ sym (append_assoc g.line (10 ∷ []) rest);
          is = refl;
          fits = fits_in (length r.whole + length g.line + 1) used;
          used = used ∙ sym longer;
          lines_are = ap lines (sym (append-nil (r.whole ++ taken))) ∙ (on [] ∙ append-nil (r.done ++ l ∷ []));
          behind = inr (inr (r.whole ++ g.line, sym (append_assoc r.whole g.line (10 ∷ []))), on);
          one = (g.line, plain, inl refl);
        }

    last : (rest : List ℕ) → bytes_left g after ≡ Some rest → NoFeed g.line → TakesLast f g r.rest rest → EndsLine r.whole × ((more : List ℕ) → lines (r.whole ++ more) ≡ r.done ++ lines_from (length r.whole) more) → Next
    last rest left_is plain takes stands =
        let l : Line = record { bytes = g.line; ends = length r.whole + length g.line } in
        let used : g.used ≡ length r.whole + length g.line = takes.3 ∙ ap (λ k. k + length g.line) r.used in
        record {
          line = l;
          taken = g.line;
          rest = rest;
          left_is = left_is;
          split = takes.0 ∙ (sym (append-nil g.line) ∙ ap (λ z. g.line ++ z) (sym takes.1));
          is = refl;
          fits = fits_in (length r.whole + length g.line) used;
          used = simp length-append used;
          lines_are = stands.1 g.line ∙ ap (λ (z : List Line). r.done ++ z) (lines_from-end (length r.whole) g.line plain (λ e. takes.2 (takes.0 ∙ e)));
          behind = inl takes.1;
          one = (g.line, plain, inr refl);
        }

    -- nothing is left: no line is taken
    none_from : (rest : List ℕ) → r.rest ≡ [] → TakesFed f g r.rest rest ⊎ TakesLast f g r.rest rest → ⊥
    none_from rest empty (inl takes) = cons_from g.line rest (sym empty ∙ takes.0)
      where
        cons_from : (front back : List ℕ) → [] ≡ front ++ 10 ∷ back → ⊥
        cons_from [] back e = absurd (cc)
        cons_from (x ∷ xs) back e = absurd (cc)
    none_from rest empty (inr takes) = takes.2 empty

    by_take : (rest : List ℕ) → bytes_left g after ≡ Some rest → NoFeed g.line → OpenBehind r.whole r.done r.rest → TakesFed f g r.rest rest ⊎ TakesLast f g r.rest rest → Next
    by_take rest left_is plain (inl empty) takes = absurd (none_from rest empty takes)
    by_take rest left_is plain (inr stands) (inl takes) = fed rest left_is plain takes stands
    by_take rest left_is plain (inr stands) (inr takes) = last rest left_is plain takes stands

    by_left : (o : Option (List ℕ)) → bytes_left g after ≡ o → UsesBytes f g (Some r.rest) o (Ok read.Line) → Next
    by_left None is h = absurd h
    by_left (Some rest) is h = by_take rest is h.0 r.behind h.1

    next : UsesBytes f g (bytes_left f left) (bytes_left g after) (Ok read.Line) → Next
    next h = by_left (bytes_left g after) refl (subst (λ (o : Option (List ℕ)). UsesBytes f g o (bytes_left g after) (Ok read.Line)) r.left_is h)

    module _ (uses : UsesBytes f g (bytes_left f left) (bytes_left g after) (Ok read.Line)) where
      abbrev here : Next
      here = next uses

      turn_of_bytes : (x : LineTurn) → turn_of_line t.declared n (command_of g.line) ≡ x → turn_of_line t.declared n (command_of here.line.bytes) ≡ x
      turn_of_bytes x k = ap (λ b. turn_of_line t.declared n (command_of b)) here.is ∙ k

      module _ (t' : RunState) (text : List ℕ) (k : TurnGives t t' n g.line (outcome.Goes text)) where
        pub reaches_on : HasDone bytes g after t' (n + 1)
        reaches_on = record {
          whole = r.whole ++ here.taken;
          rest = here.rest;
          done = r.done ++ here.line ∷ [];
          commands = r.commands ++ (n, k.0) ∷ [];
          left_is = here.left_is;
          split = append_assoc r.whole here.taken here.rest ∙ (ap (λ z. r.whole ++ z) (sym here.split) ∙ r.split);
          used = here.used;
          lines_are = here.lines_are;
          behind = here.behind;
          through = λ more.
              ap script_of (append_assoc r.done (here.line ∷ []) more)
              ∙ (r.through (here.line ∷ more)
              ∙ (ap (continued r.commands) (turn_here t.declared n here.line more (goes t'.declared k.0) here.fits (turn_of_bytes (goes t'.declared k.0) k.1))
              ∙ continued_more r.commands (n, k.0) (script_from t'.declared (n + 1) more)));
          world = after_all-append no_world r.commands ((n, k.0) ∷ []) ∙ (ap (λ w. after_command w k.0) r.world ∙ sym k.3);
        }

        text_on : transcript reaches_on.commands ≡ transcript r.commands ++ text
        unfolding reaches_on
        text_on =
            transcript_from-append no_world r.commands ((n, k.0) ∷ [])
            ∙ ap (λ z. transcript r.commands ++ z) (append-nil (printed (after_all no_world r.commands) n k.0) ∙ (ap (λ w. printed w n k.0) r.world ∙ sym k.2))

        pub placed_on : (before : List ℕ) (taken taken' : Option (List ℕ)) → taken ≡ Some (before ++ transcript r.commands) → AddsBack taken taken' text → IsPlaced bytes before g after taken' t' (n + 1)
        placed_on before taken taken' wrote a = (reaches_on, added before (transcript r.commands) text taken taken' wrote a ∙ ap (λ z. Some (before ++ z)) (sym text_on))

      pub ended_at : (t' : RunState) (left' : List ℕ) → after ≡ Some left' → length g.ahead < 8192 → TurnGives t t' n g.line outcome.Ended → EndedAt bytes left'
      ended_at t' left' after_is near k =
          let rest_is : here.rest ≡ g.ahead ++ left' = some_is here.rest (g.ahead ++ left') (sym here.left_is ∙ ap (bytes_left g) after_is) in record {
            front = r.whole;
            last = here.taken;
            ahead = g.ahead;
            split = ap (λ z. r.whole ++ (here.taken ++ z)) (sym rest_is) ∙ (ap (λ z. r.whole ++ z) (sym here.split) ∙ r.split);
            goes_on = goes_on;
            one = here.one;
            ends =
                ap (λ ls. (script_of ls).stop) here.lines_are
                ∙ (ap (λ (s : Script). s.stop) (r.through (here.line ∷ [])) ∙ ap (λ (s : Script). s.stop) (turn_here t.declared n here.line [] (stops ended) here.fits (turn_of_bytes (stops ended) k.0)));
            near = near;
          }

  -- ---- a fault of reading

  module _ (g : FeedState) (after : Option (List ℕ)) (left' : List ℕ) (after_is : after ≡ Some left') where
    kept : (o : Option (List ℕ)) → bytes_left g after ≡ o → UsesBytes f g (Some r.rest) o (Err fault.ReadFault) → bytes_left g after ≡ Some r.rest
    kept None is h = absurd h
    kept (Some rest) is h = is ∙ ap Some h

    pub faulted_at : UsesBytes f g (bytes_left f left) (bytes_left g after) (Err fault.ReadFault) → NoFeed g.ahead → (before : List ℕ) (taken : Option (List ℕ)) → taken ≡ Some (before ++ transcript r.commands)
        → FaultedAt bytes left' before taken
    faulted_at uses plain before taken wrote =
        let stays = kept (bytes_left g after) refl (subst (λ (o : Option (List ℕ)). UsesBytes f g o (bytes_left g after) (Err fault.ReadFault)) r.left_is uses) in
        let rest_is : r.rest ≡ g.ahead ++ left' = some_is r.rest (g.ahead ++ left') (sym stays ∙ ap (bytes_left g) after_is) in
        record {
          whole = r.whole;
          part = g.ahead;
          split = ap (λ z. r.whole ++ z) (sym rest_is) ∙ r.split;
          ends = ⊎_elim (λ empty. inr (sym rest_is ∙ empty)) (λ stands. inl stands.0) r.behind;
          plain = plain;
          goes_on = goes_on;
          wrote = wrote ∙ ap (λ (s : Script). Some (before ++ transcript s.commands)) (sym script_done);
        }
