-- The rule of the table below a book. Word 0 is 0 while the state is at home in slot 0, and 1 while a seat has it.
use Rattle.std.specs.Prelude.{◌≡◌, ◌≢◌, ◌⊎◌, ◌==◌, ℕ, ◌+◌, ◌<◌, List, [], ◌∷◌, ◌++◌, map, length, drop, All, IsPermutation, MatchBool, Option, Some, None, unwrap_or}
use Rattle.std.specs.List.{range_with_len, flat_map}
use mathlib.Core.Option as maybe
use lib.ListN.{get_elem?}
use Rattle.atomic_table.specs.Table.{State, Me, Step}
use Rattle.atomic_table.specs.Seated.{TableId}
use Rattle.ss_base.specs.Lists.{IsPrefixOf}
use Rattle.turn_book.specs.Entries.{made_by, entries_of}
use Rattle.turn_book.specs.Passes.{BookId, PassOf, HeldOf}
use Rattle.turn_book.specs.declared.kept.Made.{Made}
use Rattle.turn_book.specs.declared.turns.Standing.{Standing}
use Rattle.turn_book.specs.declared.turns.Knowledge.{Knowledge}

module _ {I : Type 0} where
  -- the view of a seat with these passes, which does not have the state
  abbrev pub resting : List (Standing I) → Knowledge I
  resting standings = record { standings = standings; found = None }

  -- the view of a seat with this pass, which has the state and found this history in it
  abbrev pub holding : Standing I → List (Made I) → Knowledge I
  holding standing found = record { standings = standing ∷ []; found = Some found }

  -- a pass before its first hold
  abbrev pub newcomer : List ℕ → ℕ → Standing I
  newcomer opening number = record { number = number; opening = opening; seen = []; made = []; holds = 0 }

  -- the view of a seat with all passes, whose numbers are those below this one
  abbrev pub newcomers : List ℕ → ℕ → Knowledge I
  newcomers opening passes = resting (map (newcomer opening) (range_with_len 0 passes))

  -- the pass after a hold, in which it found one history and left another
  abbrev pub after_hold : Standing I → List (Made I) → List (Made I) → Standing I
  after_hold p found history =
      record p { seen = history; made = p.made ++ drop (length found) history; holds = p.holds + 1 }

  abbrev first_of : List (Standing I) → Standing I
  first_of [] = newcomer [] 0
  first_of (p ∷ ps) = p

  -- the pass of a seat that has one
  abbrev pub standing_of : Knowledge I → Standing I
  standing_of v = first_of v.standings

  -- the history that a seat found in the state, if it has the state
  abbrev pub found_of : Knowledge I → List (Made I)
  found_of v = unwrap_or v.found []

  -- a pass as contracts see it
  abbrev pub pass_of : BookId → Standing I → PassOf I
  pass_of book p = record { book = book; number = p.number; opening = p.opening; seen = p.seen; made = p.made; holds = p.holds }

  -- the passes that a book of this opening gives out
  abbrev pub dealt_of : BookId → List ℕ → ℕ → List (PassOf I)
  dealt_of book opening passes = map (λ n. pass_of book (newcomer opening n)) (range_with_len 0 passes)

  -- the history is the one that the seat found, followed by entries of its pass
  abbrev pub AddsTo : Knowledge I → List (Made I) → Type 0
  AddsTo v history =
      let p = standing_of v in (items : List I) × (history ≡ found_of v ++ entries_of p.number (length p.made) items)

  -- the numbers of all passes, seat by seat
  abbrev pub numbers_of : List (Knowledge I) → List ℕ
  numbers_of views = flat_map (λ (v : Knowledge I). map (λ (p : Standing I). p.number) v.standings) views

  -- The history begins with what the pass has seen, and its entries of this pass are those that the pass made, numbered from 0.
  -- What a pass has seen it saw in a hold
  pub record FollowsHistory (hist : List (Made I)) (p : Standing I) : Type 0 where
    pub seen : IsPrefixOf p.seen hist
    pub made : made_by p.number hist ≡ p.made
    pub numbered : p.made ≡ entries_of p.number 0 (map (λ (e : Made I). e.item) p.made)
    pub held : p.seen ≢ [] → 0 < p.holds

  -- a pass that was given out, with this opening, which follows the history
  pub record IsPassIn (opening : List ℕ) (passes : ℕ) (hist : List (Made I)) (p : Standing I) : Type 0 where
    pub number : p.number < passes
    pub opening_is : p.opening ≡ opening
    pub follows : FollowsHistory hist p

module _ {S I : Type 0} where
  -- a seat with one pass, which does not have the state
  abbrev pub HasPass : Me (Option S) (Knowledge I) → Type 0
  HasPass me = (standing : Standing I) × (me ≡ (resting (standing ∷ []), []))

  -- a seat whose pass has the state
  abbrev pub HasState : Me (Option S) (Knowledge I) → Type 0
  HasState me = (standing : Standing I) × (found : List (Made I)) × (me ≡ (holding standing found, (0, None) ∷ []))

  -- the seat after the hold, in which it left this history
  abbrev pub rested : Knowledge I → List (Made I) → Me (Option S) (Knowledge I)
  rested v history = (resting (after_hold (standing_of v) (found_of v) history ∷ []), [])

  -- a hold as contracts see it
  abbrev pub held_of : BookId → Knowledge I → S → HeldOf S I
  held_of book v state = record { pass = pass_of book (standing_of v); found = found_of v; state = state }

module _ {S I : Type 0} (opening_of : S → List ℕ) (history_of : S → List (Made I)) where
  -- the state is at home, and no seat has it
  pub record AtHome (opening : List ℕ) (hist : List (Made I)) (s : State (Option S) (Knowledge I)) : Type 0 where
    pub state : S
    pub home : s.homes ≡ maybe.some (Some state) ∷ []
    pub word : s.words ≡ 0 ∷ []
    pub history_is : history_of state ≡ hist
    pub opening_is : opening_of state ≡ opening
    pub none_out : (j : ℕ) (v : Knowledge I) → get_elem? s.views j ≡ maybe.some v → v.found ≡ None

  -- one seat has the state, and found this history in it
  pub record IsOut (hist : List (Made I)) (s : State (Option S) (Knowledge I)) : Type 0 where
    pub who : ℕ
    pub standing : Standing I
    pub away : s.homes ≡ maybe.none ∷ []
    pub word : s.words ≡ 1 ∷ []
    pub there : get_elem? s.views who ≡ maybe.some (holding standing hist)
    pub no_other : (j : ℕ) (v : Knowledge I) → get_elem? s.views j ≡ maybe.some v → j ≢ who → v.found ≡ None

  -- there is one history, whose entries are of passes that were given out. Each pass is known to one seat, and follows the history
  pub record HasOneHistory (opening : List ℕ) (passes : ℕ) (s : State (Option S) (Knowledge I)) : Type 0 where
    pub hist : List (Made I)
    pub entries : All (λ (e : Made I). e.pass < passes) hist
    pub given : IsPermutation (range_with_len 0 passes) (numbers_of s.views)
    pub each : (j : ℕ) (v : Knowledge I) → get_elem? s.views j ≡ maybe.some v → All (IsPassIn opening passes hist) v.standings
    pub place : AtHome opening hist s ⊎ IsOut hist s

  -- the seat has the state, which stands where the pass may follow it
  pub record Took (p : Standing I) (after : Me (Option S) (Knowledge I)) : Type 0 where
    pub state : S
    pub after_is : after ≡ (holding p (history_of state), (0, Some state) ∷ [])
    pub opening_is : opening_of state ≡ p.opening
    pub follows : FollowsHistory (history_of state) p

  -- the state was taken, or nothing happened
  abbrev pub takes_then : Step (Option S) → Me (Option S) (Knowledge I) → ℕ → Me (Option S) (Knowledge I) → Type 0
  takes_then st me word after = MatchBool (word == 0) (Took (standing_of me.0) after) (after ≡ me)

module _ {S I : Type 0} (history_of : S → List (Made I)) where
  -- the state was given back, and the pass has seen its whole history
  pub record Gave (v : Knowledge I) (carried : List (ℕ × Option S)) (after : Me (Option S) (Knowledge I)) : Type 0 where
    pub state : S
    pub carried_is : carried ≡ (0, Some state) ∷ []
    pub after_is : after ≡ (resting (after_hold (standing_of v) (found_of v) (history_of state) ∷ []), [])

  abbrev pub gives_then : Step (Option S) → Me (Option S) (Knowledge I) → ℕ → Me (Option S) (Knowledge I) → Type 0
  gives_then st me word after = Gave me.0 me.1 after

module _ {I : Type 0} where
  -- the seat keeps all passes but the first, and a new seat has that one
  abbrev pub without_first : Knowledge I → Knowledge I
  without_first v = resting (drop 1 v.standings)

  abbrev pub first_alone : Knowledge I → Knowledge I
  first_alone v = resting (standing_of v ∷ [])

  -- the passes of both, those of the second first
  abbrev pub both_views : Knowledge I → Knowledge I → Knowledge I
  both_views v w = resting (w.standings ++ v.standings)

  abbrev pub spent : Knowledge I
  spent = resting []

-- one word and one slot
abbrev pub IsLaidOut : TableId → Type 0
IsLaidOut table = (table.words ≡ 1) × (table.slots ≡ 1)

-- the table of a book, which was told how many passes there are
abbrev pub IsOfBook : TableId → ℕ → ℕ → Type 0
IsOfBook table told passes = (table.words ≡ 1) × (table.slots ≡ 1) × (passes ≡ told) × (0 < passes)

-- the state, where all passes are at one seat
pub record Ends {S I : Type 0} (opening_of : S → List ℕ) (history_of : S → List (Made I)) (opening : List ℕ) (passes : ℕ) (standings : List (Standing I)) (state : S) : Type 0 where
  pub opening_is : opening_of state ≡ opening
  pub given : IsPermutation (range_with_len 0 passes) (map (λ (p : Standing I). p.number) standings)
  pub each : All (IsPassIn opening passes (history_of state)) standings
  pub entries : All (λ (e : Made I). e.pass < passes) (history_of state)
