-- The turn of a command here, and of a script's lines.
use Rattle.std.proofs.Common.{◌≡◌, ℕ, Bool, true, false, cond, [], ◌∷◌, refl, ap, ◌∙◌, Option, Some, None}
use Rattle.script_read.specs.declared.command.Command.{Command}
use Rattle.script_read.specs.declared.command.Command.TheVariants as command
use Rattle.script_read.specs.declared.script.ScriptKind.{ScriptKind}
use Rattle.script_read.specs.declared.script.ScriptKind.TheVariants as kind
use Rattle.script_read.specs.Script.{Declared, LineTurn, goes, stops, ended, refused_at, fault_of, declared_with, turn_accepted, turn_of, Script, after_turn}
use Rattle.live_script.specs.Scripts.{is_for_threads, cut_live}
use Rattle.live_script.specs.SoFar.{only_live, live_fault, live_turn, ends_script}

accepted_goes : (d : Declared) (n : ℕ) (c : Command) → ends_script c ≡ false → is_for_threads c ≡ true → live_turn n (turn_accepted d c) ≡ goes (declared_with d c) c
accepted_goes d n command.Note e l = refl
accepted_goes d n (command.Sheet size) e l = refl
accepted_goes d n (command.Site name) e l = refl
accepted_goes d n (command.Edit name what) e l = refl
accepted_goes d n (command.Push name count) e l = refl
accepted_goes d n (command.Pull name count) e l = refl
accepted_goes d n command.PushAll e l = refl
accepted_goes d n command.PullAll e l = refl
accepted_goes d n (command.Sync name) e l = refl
accepted_goes d n (command.Recalc count) e l = absurd (cc)
accepted_goes d n (command.Read name range) e l = refl
accepted_goes d n command.Values e l = absurd (cc)
accepted_goes d n command.History e l = absurd (cc)
accepted_goes d n command.Wire e l = absurd (cc)
accepted_goes d n (command.Show name) e l = absurd (cc)
accepted_goes d n command.ShowServer e l = absurd (cc)
accepted_goes d n command.End e l = absurd (cc)

accepted_ends : (d : Declared) (n : ℕ) (c : Command) → ends_script c ≡ true → live_turn n (turn_accepted d c) ≡ stops ended
accepted_ends d n command.Note e = absurd (cc)
accepted_ends d n (command.Sheet size) e = absurd (cc)
accepted_ends d n (command.Site name) e = absurd (cc)
accepted_ends d n (command.Edit name what) e = absurd (cc)
accepted_ends d n (command.Push name count) e = absurd (cc)
accepted_ends d n (command.Pull name count) e = absurd (cc)
accepted_ends d n command.PushAll e = absurd (cc)
accepted_ends d n command.PullAll e = absurd (cc)
accepted_ends d n (command.Sync name) e = absurd (cc)
accepted_ends d n (command.Recalc count) e = absurd (cc)
accepted_ends d n (command.Read name range) e = absurd (cc)
accepted_ends d n command.Values e = absurd (cc)
accepted_ends d n command.History e = absurd (cc)
accepted_ends d n command.Wire e = absurd (cc)
accepted_ends d n (command.Show name) e = absurd (cc)
accepted_ends d n command.ShowServer e = absurd (cc)
accepted_ends d n command.End e = refl

accepted_not_live : (d : Declared) (n : ℕ) (c : Command) → is_for_threads c ≡ false → live_turn n (turn_accepted d c) ≡ stops (refused_at n kind.NotLive)
accepted_not_live d n command.Note l = absurd (cc)
accepted_not_live d n (command.Sheet size) l = absurd (cc)
accepted_not_live d n (command.Site name) l = absurd (cc)
accepted_not_live d n (command.Edit name what) l = absurd (cc)
accepted_not_live d n (command.Push name count) l = absurd (cc)
accepted_not_live d n (command.Pull name count) l = absurd (cc)
accepted_not_live d n command.PushAll l = absurd (cc)
accepted_not_live d n command.PullAll l = absurd (cc)
accepted_not_live d n (command.Sync name) l = absurd (cc)
accepted_not_live d n (command.Recalc count) l = refl
accepted_not_live d n (command.Read name range) l = absurd (cc)
accepted_not_live d n command.Values l = refl
accepted_not_live d n command.History l = refl
accepted_not_live d n command.Wire l = refl
accepted_not_live d n (command.Show name) l = refl
accepted_not_live d n command.ShowServer l = refl
accepted_not_live d n command.End l = absurd (cc)

open_at_end : (d : Declared) (c : Command) → ends_script c ≡ true → fault_of d c ≡ None → d.sheet ≡ true
open_at_end d command.Note e f = absurd (cc)
open_at_end d (command.Sheet size) e f = absurd (cc)
open_at_end d (command.Site name) e f = absurd (cc)
open_at_end d (command.Edit name what) e f = absurd (cc)
open_at_end d (command.Push name count) e f = absurd (cc)
open_at_end d (command.Pull name count) e f = absurd (cc)
open_at_end d command.PushAll e f = absurd (cc)
open_at_end d command.PullAll e f = absurd (cc)
open_at_end d (command.Sync name) e f = absurd (cc)
open_at_end d (command.Recalc count) e f = absurd (cc)
open_at_end d (command.Read name range) e f = absurd (cc)
open_at_end d command.Values e f = absurd (cc)
open_at_end d command.History e f = absurd (cc)
open_at_end d command.Wire e f = absurd (cc)
open_at_end d (command.Show name) e f = absurd (cc)
open_at_end d command.ShowServer e f = absurd (cc)
open_at_end d command.End e f = by_test d.sheet f
  where
    by_test : (b : Bool) → ◌≡◌ {A = Option ScriptKind} (cond b None (Some kind.Sheet)) None → b ≡ true
    by_test true f = refl
    by_test false f = absurd (cc)

module _ (d : Declared) (n : ℕ) (c : Command) where
  abbrev by_fault : Option ScriptKind → LineTurn
  by_fault o = elim o as (λ _. LineTurn) [
    | None ↦ turn_accepted d c
    | Some k ↦ stops (refused_at n k)
  ]

  here : (o : Option ScriptKind) → fault_of d c ≡ o → live_turn n (turn_of d n c) ≡ live_turn n (by_fault o)
  here o e = ap (λ x. live_turn n (by_fault x)) e

  free_by : (o : Option ScriptKind) → fault_of d c ≡ o → only_live c o ≡ None → (fault_of d c ≡ None) × (is_for_threads c ≡ true)
  free_by (Some k) e f = absurd (cc)
  free_by None e f = (e, by_test (is_for_threads c) f)
    where
      by_test : (b : Bool) → ◌≡◌ {A = Option ScriptKind} (cond b None (Some kind.NotLive)) None → b ≡ true
      by_test true f = refl
      by_test false f = absurd (cc)

  pub free : live_fault d c ≡ None → (fault_of d c ≡ None) × (is_for_threads c ≡ true)
  free f = free_by (fault_of d c) refl f

  refused_by : (o : Option ScriptKind) (k : ScriptKind) → fault_of d c ≡ o → only_live c o ≡ Some k → live_turn n (turn_of d n c) ≡ stops (refused_at n k)
  refused_by (Some j) k e f = here (Some j) e ∙ ap (λ x. stops (refused_at n x)) (same f)
    where
      same : ◌≡◌ {A = Option ScriptKind} (Some j) (Some k) → j ≡ k
      same f = cc
  refused_by None k e f = here None e ∙ by_test (is_for_threads c) refl f
    where
      by_test : (b : Bool) → is_for_threads c ≡ b → ◌≡◌ {A = Option ScriptKind} (cond b None (Some kind.NotLive)) (Some k) → live_turn n (turn_accepted d c) ≡ stops (refused_at n k)
      by_test true l f = absurd (cc)
      by_test false l f = accepted_not_live d n c l ∙ ap (λ x. stops (refused_at n x)) (same f)
        where
          same : ◌≡◌ {A = Option ScriptKind} (Some kind.NotLive) (Some k) → kind.NotLive ≡ k
          same f = cc

  pub refuses : (k : ScriptKind) → live_fault d c ≡ Some k → live_turn n (turn_of d n c) ≡ stops (refused_at n k)
  refuses k f = refused_by (fault_of d c) k refl f

  pub goes_on : live_fault d c ≡ None → ends_script c ≡ false → live_turn n (turn_of d n c) ≡ goes (declared_with d c) c
  goes_on f e = let (none, live) = free f in here None none ∙ accepted_goes d n c e live

  pub ends : live_fault d c ≡ None → ends_script c ≡ true → (live_turn n (turn_of d n c) ≡ stops ended) × (d.sheet ≡ true)
  ends f e = let (none, live) = free f in (here None none ∙ accepted_ends d n c e, open_at_end d c e none)

-- ---- the cut of a script, line by line

abbrev pub cut : Script → Script
cut s = cut_live s.commands s.stop

pub cut_turn : (n : ℕ) (x : LineTurn) (rest : Declared → Script) → cut (after_turn n x rest) ≡ after_turn n (live_turn n x) (λ d. cut (rest d))
cut_turn n (stops s) rest = refl
cut_turn n (goes d c) rest = by_test (is_for_threads c)
  where
    by_test : (b : Bool) → ◌≡◌ {A = Script} (cond b (record { commands = (n, c) ∷ (cut (rest d)).commands; stop = (cut (rest d)).stop }) (record { commands = []; stop = refused_at n kind.NotLive }))
        (after_turn n (cond b (goes d c) (stops (refused_at n kind.NotLive))) (λ e. cut (rest e)))
    by_test true = refl
    by_test false = refl
