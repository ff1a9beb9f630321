-- What stands when one seat has all passes.
use Rattle.std.proofs.Common.{◌≡◌, ◌≢◌, ℕ, ◌<◌, List, [], ◌∷◌, ◌++◌, length, map, Some, None, Option, ap, sym, ◌∙◌, subst, arith, inl, inr}
use Rattle.std.specs.Prelude.{All, Contains, IsPermutation, IsSome, is_some, ◌⊎◌, slice_set}
use Rattle.std.specs.List.{range_with_len}
use Rattle.std.proofs.lemmas.List.{append-nil, length-append, length-map, nil_from_length}
use Rattle.std.proofs.lemmas.List.FromFn.{get_or-range_with_len, length-range_with_len}
use Rattle.std.proofs.lemmas.List.Elements.{All-map, All-weaker}
use Rattle.std.proofs.lemmas.List.Sorted.{Contains-permutation, IsPermutation-trans, length_permutation}
use mathlib.Core.List.{map-map}
use mathlib.Core.Option.{some, some-injective}
use lib.ListN.{get_elem?}
use Rattle.atomic_table.specs.Table.{State, Final, Seen}
use Rattle.atomic_table.specs.Seated.{TableId}
use Rattle.atomic_table.proofs.Lists.{set_else}
use Rattle.turn_book.specs.declared.kept.Made.{Made}
use Rattle.turn_book.specs.declared.turns.Standing.{Standing}
use Rattle.turn_book.specs.declared.turns.Knowledge.{Knowledge}
use Rattle.turn_book.specs.Passes.{BookOf, PassOf, AreAll}
use Rattle.turn_book.specs.Turns.{IsPassIn, AtHome, IsOut, HasOneHistory, Ends, resting, holding, spent, pass_of, numbers_of}
use Rattle.turn_book.proofs.Numbers.{nums, same_right, seat_first}

module _ {S I : Type 0} (opening_of : S → List ℕ) (history_of : S → List (Made I)) (opening : List ℕ) (passes : ℕ) where
  -- no other seat has a pass
  no_others : (id : ℕ) (standings : List (Standing I)) (s : State (Option S) (Knowledge I)) (kept : HasOneHistory opening_of history_of opening passes s) → get_elem? s.views id ≡ some (resting standings) → length standings ≡ passes →
      numbers_of (slice_set s.views id spent) ≡ []
  no_others id standings s kept there all =
      let others : List ℕ = numbers_of (slice_set s.views id spent) in
      let numbers : List ℕ = nums (resting standings) in
      let given : IsPermutation (range_with_len 0 passes) (numbers ++ others) =
      IsPermutation-trans (range_with_len 0 passes) (numbers_of s.views) (numbers ++ others) kept.given (seat_first s.views id (resting standings) there) in
      let count = length_permutation (range_with_len 0 passes) (numbers ++ others) given in
      nil_from_length others (omega (arith, length-append numbers others, length-map standings (λ (p : Standing I). p.number), length-range_with_len 0 passes))

  pub all_given : (id : ℕ) (standings : List (Standing I)) (s : State (Option S) (Knowledge I)) (kept : HasOneHistory opening_of history_of opening passes s) → get_elem? s.views id ≡ some (resting standings) → length standings ≡ passes →
      IsPermutation (range_with_len 0 passes) (map (λ (p : Standing I). p.number) standings)
  all_given id standings s kept there all =
      same_right (range_with_len 0 passes) (nums (resting standings) ++ numbers_of (slice_set s.views id spent)) (nums (resting standings))
      (ap (λ (ns : List ℕ). nums (resting standings) ++ ns) (no_others id standings s kept there all) ∙ append-nil (nums (resting standings)))
      (IsPermutation-trans (range_with_len 0 passes) (numbers_of s.views) (nums (resting standings) ++ numbers_of (slice_set s.views id spent)) kept.given (seat_first s.views id (resting standings) there))

  at_home : (id : ℕ) (standings : List (Standing I)) (s : State (Option S) (Knowledge I)) (kept : HasOneHistory opening_of history_of opening passes s) → get_elem? s.views id ≡ some (resting standings) → length standings ≡ passes →
      AtHome opening_of history_of opening kept.hist s
  at_home id standings s kept there all = by_place kept.place
    where
      by_place : AtHome opening_of history_of opening kept.hist s ⊎ IsOut opening_of history_of kept.hist s → AtHome opening_of history_of opening kept.hist s
      by_place (inl h) = h
      by_place (inr o) =
          let apart : o.who ≢ id = λ e.
          (let clash : Some kept.hist ≡ None = ap (λ (v : Knowledge I). v.found) (some-injective (holding o.standing kept.hist) (resting standings) (sym o.there ∙ (ap (get_elem? s.views) e ∙ there))) in cc) in
          let first = seat_first (slice_set s.views id spent) o.who (holding o.standing kept.hist) (set_else s.views id o.who spent apart ∙ o.there) in
          let count = length_permutation (numbers_of (slice_set s.views id spent)) (o.standing.number ∷ numbers_of (slice_set (slice_set s.views id spent) o.who spent)) first in
          let none = ap (λ (ns : List ℕ). length ns) (no_others id standings s kept there all) in
          absurd (omega arith)

  -- the value at home is the state, which all passes know
  pub ends : (id : ℕ) (standings : List (Standing I)) (v : Knowledge I) (s : State (Option S) (Knowledge I)) → Seen (HasOneHistory opening_of history_of opening passes) id v s → v ≡ resting standings → length standings ≡ passes →
      (state : S) × (get_elem? s.homes 0 ≡ some (some (Some state))) × Ends opening_of history_of opening passes standings state
  ends id standings v s (kept, there) is all =
      let here : get_elem? s.views id ≡ some (resting standings) = there ∙ ap some is in
      let h = at_home id standings s kept here all in (
        h.state,
        ap (λ hs. get_elem? hs 0) h.home,
        record {
          opening_is = h.opening_is;
          given = all_given id standings s kept here all;
          each = subst (λ (hist : List (Made I)). All (IsPassIn opening passes hist) standings) (sym h.history_is) (kept.each id (resting standings) here);
          entries = subst (All (λ (e : Made I). e.pass < passes)) (sym h.history_is) kept.entries;
        },
      )

  -- what a closed table has in its slot
  pub ended : (id : ℕ) (v : Knowledge I) (words : List ℕ) (slots : List (Option S)) (taken : Option S) → v ≡ resting v.standings → length v.standings ≡ passes →
      Final (Seen (HasOneHistory opening_of history_of opening passes) id v) words slots → get_elem? slots 0 ≡ some taken → (state : S) × (taken ≡ Some state) × Ends opening_of history_of opening passes v.standings state
  ended id v words slots taken is all (s, seen, words_is, deep, homes) there =
      let (state, home, e) = ends id v.standings v s seen is all in
      (state, some-injective taken (Some state) (sym there ∙ homes 0 (Some state) home), e)

pub some_of : {A : Type 0} (o : Option A) (x : A) → o ≡ Some x → IsSome o
some_of {A} o x is = ap is_some is

pub same_value : {A : Type 0} (o : Option A) (x y : A) → o ≡ Some x → o ≡ Some y → x ≡ y
same_value {A} o x y a b = cc

-- what the end shows of passes as contracts see them
module _ {S I : Type 0} {opening_of : S → List ℕ} {history_of : S → List (Made I)} {opening : List ℕ} {count : ℕ} {standings : List (Standing I)} {passes : List (PassOf I)} {state : S}
    (table : TableId) (e : Ends opening_of history_of opening count standings state) (is : map (λ (p : Standing I). pass_of table p) standings ≡ passes) where
  pub each_of : (P : PassOf I → Type 0) → ((p : Standing I) → IsPassIn opening count (history_of state) p → P (pass_of table p)) → All P passes
  each_of P known = subst (All P) is (All-map P (pass_of table) standings (All-weaker (IsPassIn opening count (history_of state)) (λ (p : Standing I). P (pass_of table p)) known standings e.each))

  numbers_are : map (λ (p : Standing I). p.number) standings ≡ map (λ (p : PassOf I). p.number) passes
  numbers_are = sym (map-map (λ (p : PassOf I). p.number) (pass_of table) standings) ∙ ap (map (λ (p : PassOf I). p.number)) is

  pub all_there : IsPermutation (range_with_len 0 count) (map (λ (p : PassOf I). p.number) passes)
  all_there = same_right (range_with_len 0 count) (map (λ (p : Standing I). p.number) standings) (map (λ (p : PassOf I). p.number) passes) numbers_are e.given

  pub none_else : All (λ (m : Made I). Contains (map (λ (p : PassOf I). p.number) passes) m.pass) (history_of state)
  none_else = All-weaker (λ (m : Made I). m.pass < count) (λ (m : Made I). Contains (map (λ (p : PassOf I). p.number) passes) m.pass)
      (λ m small. Contains-permutation (range_with_len 0 count) (map (λ (p : PassOf I). p.number) passes) m.pass all_there
      (m.pass, rw (length-range_with_len 0 count) small, get_or-range_with_len 0 count m.pass m.pass small ∙ omega arith)) (history_of state) e.entries

  pub holds_are : map {B = ℕ × ℕ} (λ (p : Standing I). (p.number, p.holds)) standings ≡ map {B = ℕ × ℕ} (λ (p : PassOf I). (p.number, p.holds)) passes
  holds_are = sym (map-map {C = ℕ × ℕ} (λ (p : PassOf I). (p.number, p.holds)) (pass_of table) standings) ∙ ap (map {B = ℕ × ℕ} (λ (p : PassOf I). (p.number, p.holds))) is

-- passes that are not as many are not all
pub not_all : {I : Type 0} (book : BookOf) (passes : List (PassOf I)) → length passes ≢ book.passes → ¬ AreAll book passes
not_all {I} book passes other all =
    let count = length_permutation (range_with_len 0 book.passes) (map (λ (p : PassOf I). p.number) passes) all in
    other (omega (arith, length-map passes (λ (p : PassOf I). p.number), length-range_with_len 0 book.passes))
