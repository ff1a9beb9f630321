-- What the calls that deal passes and gather them show, over plain lists.
use Rattle.std.proofs.Common.{◌≡◌, ℕ, zero, suc, ◌+◌, ◌<◌, ◌≤◌, List, [], ◌∷◌, ◌++◌, length, map, get_or, Some, None, Option, refl, ap, sym, ◌∙◌, subst, arith, inl, append_assoc}
use Rattle.std.specs.Prelude.{All, drop, take}
use Rattle.std.specs.List.{range_with_len}
use Rattle.std.proofs.lemmas.List.{append-nil, drop-drop, drop_more, map_push, take_all, take_more}
use Rattle.std.proofs.lemmas.List.FromFn.{get_or-map-range_with_len, get_or-range_with_len, length-range_with_len, length-map-range_with_len}
use Rattle.std.proofs.lemmas.List.Elements.{All-nil, All-map, All-pop}
use Rattle.std.proofs.lemmas.List.Sorted.{IsPermutation-refl}
use mathlib.Core.List.{map-map}
use mathlib.Core.Option.{some, some-injective}
use lib.ListN.{get_elem?}
use Rattle.atomic_table.specs.Table.{Me}
use Rattle.atomic_table.specs.Table as table
use Rattle.atomic_table.specs.Seated.{TableId}
use Rattle.turn_book.specs.declared.kept.Made.{Made}
use Rattle.turn_book.specs.declared.turns.Standing.{Standing}
use Rattle.turn_book.specs.declared.turns.Knowledge.{Knowledge}
use Rattle.turn_book.specs.Passes.{PassOf}
use Rattle.turn_book.specs.Turns.{IsPassIn, HasOneHistory, newcomer, newcomers, resting, both_views, without_first, first_alone, standing_of, pass_of, numbers_of}
use Rattle.turn_book.proofs.Numbers.{same_right}

module _ (I : Type 0) (opening : List ℕ) where
  pub count_of_newcomers : (passes : ℕ) → length (newcomers {I = I} opening passes).standings ≡ passes
  count_of_newcomers passes = length-map-range_with_len (newcomer {I = I} opening) 0 passes

  pub numbers_of_newcomers : (ns : List ℕ) → map (λ (p : Standing I). p.number) (map (newcomer opening) ns) ≡ ns
  numbers_of_newcomers [] = refl
  numbers_of_newcomers (n ∷ ns) = ap (λ (ms : List ℕ). n ∷ ms) (numbers_of_newcomers ns)

-- passes that are dealt one by one
module _ (S I : Type 0) (opening : List ℕ) (passes : ℕ) where
  abbrev Sat : Type 0
  Sat = Me (Option S) (Knowledge I)

  abbrev all : List (Standing I)
  all = (newcomers opening passes).standings

  next_is : (k : ℕ) → k < passes → drop k all ≡ newcomer opening k ∷ drop (k + 1) all
  next_is k small =
      drop_more all k (newcomer opening k) (omega (arith, count_of_newcomers I opening passes))
      ∙ ap (λ (p : Standing I). p ∷ drop (k + 1) all) (get_or-map-range_with_len (newcomer opening) 0 passes k k (newcomer opening k) small (omega arith))

  pub next_dealt : (k : ℕ) (me : Sat) → k < passes → me ≡ (resting (drop k all), []) → me.0 ≡ resting (newcomer opening k ∷ drop (k + 1) all)
  next_dealt k me small is = ap (λ (m : Sat). m.0) is ∙ ap resting (next_is k small)

  pub left_over : (k : ℕ) (me after : Sat) → me ≡ (resting (drop k all), []) → after ≡ (without_first me.0, me.1) → after ≡ (resting (drop (k + 1) all), [])
  left_over k me after is then =
      then ∙ (ap (λ (m : Sat). (without_first m.0, m.1)) is ∙ ap (λ (ps : List (Standing I)). (resting ps, [])) (drop-drop 1 k all))

  pub dealt_one : (book table : TableId) (k : ℕ) (dealt after : List (PassOf I)) (me new : Sat) → table ≡ book → k < passes → me ≡ (resting (drop k all), []) → new ≡ (first_alone me.0, []) →
      dealt ≡ map (pass_of book) (take k all) → after ≡ dealt ++ pass_of table (standing_of new.0) ∷ [] → after ≡ map (pass_of book) (take (k + 1) all)
  dealt_one book table k dealt after me new same small is then before pushed =
      let first : standing_of new.0 ≡ newcomer opening k =
      ap (λ (m : Sat). standing_of m.0) then ∙ (ap (λ (m : Sat). standing_of m.0) is ∙ ap (λ (ps : List (Standing I)). standing_of (resting ps)) (next_is k small)) in
      let one_more : take (k + 1) all ≡ take k all ++ newcomer opening k ∷ [] =
      take_more all k (newcomer opening k) (omega (arith, count_of_newcomers I opening passes))
      ∙ ap (λ (p : Standing I). take k all ++ p ∷ []) (get_or-map-range_with_len (newcomer opening) 0 passes k k (newcomer opening k) small (omega arith)) in
      pushed ∙ (λ i. before i ++ pass_of (same i) (first i) ∷ []) ∙ (sym (map_push (pass_of book) (take k all) (newcomer opening k)) ∙ ap (map (pass_of book)) (sym one_more))

  pub all_dealt : (book : TableId) (k : ℕ) (dealt : List (PassOf I)) → passes ≤ k → dealt ≡ map (pass_of book) (take k all) → dealt ≡ map (λ (n : ℕ). pass_of book (newcomer opening n)) (range_with_len 0 passes)
  all_dealt book k dealt enough is =
      is ∙ (ap (map (pass_of book)) (take_all k all (omega (arith, count_of_newcomers I opening passes))) ∙ map-map (pass_of book) (newcomer opening) (range_with_len 0 passes))

-- passes that are gathered one by one, from the last on
module _ {I : Type 0} where
  -- the passes are of this book
  abbrev pub AllOf : TableId → List (PassOf I) → Type 0
  AllOf book passes = All (λ (p : PassOf I). p.book ≡ book) passes

  pub last_of : (book : TableId) (items left : List (PassOf I)) (pass : PassOf I) → items ≡ left ++ pass ∷ [] → AllOf book items → (pass.book ≡ book) × AllOf book left
  last_of book items left pass is all =
      let (rest, last) = All-pop (λ (p : PassOf I). p.book ≡ book) items left (Some pass) is all in (last, rest)

  pub gathered : (book table : TableId) (items left passes : List (PassOf I)) (pass : PassOf I) (p : Standing I) (ps : List (Standing I)) → items ≡ left ++ pass ∷ [] → pass_of table p ≡ pass → table ≡ book →
      items ++ map (pass_of book) ps ≡ passes → left ++ map (pass_of book) (p ∷ ps) ≡ passes
  gathered book table items left passes pass p ps is view same before =
      ap (λ (q : PassOf I). left ++ (q ∷ map (pass_of book) ps)) (ap (λ (t : TableId). pass_of t p) (sym same) ∙ view)
      ∙ (sym (append_assoc left (pass ∷ []) (map (pass_of book) ps)) ∙ (ap (λ (qs : List (PassOf I)). qs ++ map (pass_of book) ps) (sym is) ∙ before))

module _ (S I : Type 0) where
  pub rests_again : (me : Me (Option S) (Knowledge I)) (ps : List (Standing I)) → me ≡ (resting ps, []) → me ≡ (resting me.0.standings, [])
  rests_again me ps is = is ∙ ap (λ (m : Me (Option S) (Knowledge I)). (resting m.0.standings, [])) (sym is)

  pub got_one : (me other after : Me (Option S) (Knowledge I)) (p : Standing I) → me ≡ (resting me.0.standings, []) → other ≡ (resting (p ∷ []), []) → after ≡ (both_views me.0 other.0, me.1) →
      after ≡ (resting (p ∷ me.0.standings), [])
  got_one me other after p rests one then =
      then ∙ ((λ i. (both_views me.0 (one i).0, me.1)) ∙ ap (λ (m : Me (Option S) (Knowledge I)). (resting (p ∷ me.0.standings), m.1)) rests)

module _ {S I : Type 0} (opening_of : S → List ℕ) (history_of : S → List (Made I)) (opening : List ℕ) (passes : ℕ) where
  -- a table that has just been made
  pub opens : (y : S) (slots : List (Option S)) → slots ≡ Some y ∷ [] → history_of y ≡ [] → opening_of y ≡ opening →
      HasOneHistory opening_of history_of opening passes (table.opening (0 ∷ []) slots (newcomers opening passes))
  opens y slots is none o =
      subst (λ (xs : List (Option S)). HasOneHistory opening_of history_of opening passes (table.opening (0 ∷ []) xs (newcomers opening passes))) (sym is) (record {
        hist = [];
        entries = All-nil (λ (e : Made I). e.pass < passes);
        given = same_right (range_with_len 0 passes) (range_with_len 0 passes) (numbers_of (newcomers opening passes ∷ []))
            (sym (append-nil (map (λ (p : Standing I). p.number) (newcomers opening passes).standings) ∙ numbers_of_newcomers I opening (range_with_len 0 passes))) (IsPermutation-refl (range_with_len 0 passes));
        each = λ j v k. only j v k;
        place = inl (record { state = y; home = refl; word = refl; history_is = none; opening_is = o; none_out = λ j v k. unheld j v k });
      })
    where
      knows : (n : ℕ) → n < passes → IsPassIn {I = I} opening passes [] (newcomer opening n)
      knows n small = record { number = small; opening_is = refl; follows = record { seen = ([], refl); made = refl; numbered = refl; held = λ some_seen. absurd (some_seen refl) } }

      all_known : All (IsPassIn {I = I} opening passes []) (newcomers opening passes).standings
      all_known = All-map (IsPassIn opening passes []) (newcomer opening) (range_with_len 0 passes)
          (λ i d small. let short = length-range_with_len 0 passes in knows (get_or (range_with_len 0 passes) i d) (rw (get_or-range_with_len 0 passes i d (omega arith)) (omega arith)))

      only : (j : ℕ) (v : Knowledge I) → get_elem? (newcomers opening passes ∷ []) j ≡ some v → All (IsPassIn opening passes []) v.standings
      only zero v k = subst (λ (v : Knowledge I). All (IsPassIn opening passes []) v.standings) (some-injective (newcomers opening passes) v k) all_known
      only (suc j) v k = absurd (cc)

      unheld : (j : ℕ) (v : Knowledge I) → get_elem? (newcomers opening passes ∷ []) j ≡ some v → v.found ≡ None
      unheld zero v k = ap (λ (v : Knowledge I). v.found) (sym (some-injective (newcomers opening passes) v k))
      unheld (suc j) v k = absurd (cc)
