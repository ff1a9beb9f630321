-- The steps of seats keep the rule.
use Rattle.std.proofs.Common.{◌≡◌, ◌≢◌, ℕ, ◌<◌, Bool, true, false, List, [], ◌∷◌, ◌++◌, length, map, get_or, Option, Some, None, refl, ap, sym, ◌∙◌, subst, arith, inl, inr}
use Rattle.std.specs.Prelude.{All, IsPermutation, ◌⊎◌, ◌==◌, slice_index, slice_set, nat_eq}
use Rattle.std.specs.List.{range_with_len}
use Rattle.std.proofs.lemmas.List.{length-map, get_or-map}
use Rattle.std.proofs.lemmas.List.Sorted.{IsPermutation-trans}
use Rattle.std.proofs.lemmas.List.Elements.{All-nil, All-cons, All-head, All-append}
use Rattle.std.proofs.lemmas.Bool.Decides.{nat_tests}
use mathlib.Core.Option.{some, none, some-injective}
use mathlib.Core.Option as maybe
use lib.ListN.{get_elem?}
use prog.Atomic.{either}
use Rattle.atomic_table.specs.Table.{State, Me, Step, Act, keeps, takes, gives, rest, Valid, Allows, stepped, carried_after}
use Rattle.atomic_table.proofs.Lists.{at_set, set_here, set_again}
use Rattle.turn_book.specs.declared.kept.Made.{Made}
use Rattle.turn_book.specs.declared.turns.Standing.{Standing}
use Rattle.turn_book.specs.declared.turns.Knowledge.{Knowledge}
use Rattle.turn_book.specs.Entries.{entries_of}
use Rattle.turn_book.specs.Turns.{FollowsHistory, IsPassIn, AtHome, IsOut, HasOneHistory, Took, takes_then, gives_then, resting, holding, spent, standing_of, found_of, after_hold, numbers_of}
use Rattle.turn_book.proofs.Histories.{follows_more, follows_after, passes-entries_of}
use Rattle.turn_book.proofs.Numbers.{same_right, others_differ, numbers_of-kept, two_first, within}

number_same : (a b : ℕ) → (a ≡ b) ⊎ (a ≢ b)
number_same a b = by_test (nat_eq a b) refl
  where
    by_test : (t : Bool) → nat_eq a b ≡ t → (a ≡ b) ⊎ (a ≢ b)
    by_test true e = inl (grind (arith, nat_tests))
    by_test false e = inr (λ same. absurd (let clash : true ≡ false = sym (self a) ∙ (ap (nat_eq a) same ∙ e) in cc))
      where
        self : (n : ℕ) → nat_eq n n ≡ true
        self n = grind (arith, nat_tests)

module _ {S I : Type 0} (opening_of : S → List ℕ) (history_of : S → List (Made I)) (opening : List ℕ) (passes : ℕ) where
  abbrev Kept : State (Option S) (Knowledge I) → Type 0
  Kept = HasOneHistory opening_of history_of opening passes

  abbrev Known : List (Made I) → List (Knowledge I) → Type 0
  Known hist views = (j : ℕ) (v : Knowledge I) → get_elem? views j ≡ some v → All (IsPassIn opening passes hist) v.standings

  abbrev after_take : ℕ → ℕ
  after_take n = either (n == 0) 1 n

  -- how the step of `take` goes on where the words and homes are these
  abbrev Goes : ℕ → Standing I → Step (Option S) → List (Knowledge I) → List ℕ → List (maybe.Option (Option S)) → Type 0
  Goes id p st views words homes =
      (w : Knowledge I) × (a : Act (Option S)) × Valid homes [] a
      × Kept (stepped record { words = words; homes = homes; views = views } 0 (after_take (slice_index words 0)) id [] w a)
      × takes_then opening_of history_of st (resting (p ∷ []), []) (slice_index words 0) (w, carried_after [] a)

  take_home : (id : ℕ) (p : Standing I) (st : Step (Option S)) (views : List (Knowledge I)) (y : S) →
      All (λ (e : Made I). e.pass < passes) (history_of y) → IsPermutation (range_with_len 0 passes) (numbers_of views) → Known (history_of y) views →
      ((j : ℕ) (u : Knowledge I) → get_elem? views j ≡ some u → u.found ≡ None) → opening_of y ≡ opening → get_elem? views id ≡ some (resting (p ∷ [])) →
      Goes id p st views (0 ∷ []) (some (Some y) ∷ [])
  take_home id p st views y entries given each home o there =
      let mine : IsPassIn opening passes (history_of y) p = All-head (IsPassIn opening passes (history_of y)) p [] (each id (resting (p ∷ [])) there) in
      let w : Knowledge I = holding p (history_of y) in (
        w,
        takes 0 (Some y),
        refl,
        record {
          hist = history_of y;
          entries = entries;
          given = same_right (range_with_len 0 passes) (numbers_of views) (numbers_of (slice_set views id w)) (sym (numbers_of-kept views id (resting (p ∷ [])) w there refl)) given;
          each = λ j u k. elim (at_set views id j w u k) [
            | inl e ↦ subst (λ (u : Knowledge I). All (IsPassIn opening passes (history_of y)) u.standings) e.1 (each id (resting (p ∷ [])) there)
            | inr e ↦ each j u e.1
          ];
          place = inr (record {
            who = id;
            standing = p;
            away = refl;
            word = refl;
            there = set_here views id w (within views id (resting (p ∷ [])) there);
            no_other = λ j u k other. elim (at_set views id j w u k) [ inl e ↦ absurd (other e.0) | inr e ↦ home j u e.1 ];
          });
        },
        record { state = y; after_is = refl; opening_is = o ∙ sym mine.opening_is; follows = mine.follows },
      )

  take_away : (id : ℕ) (p : Standing I) (st : Step (Option S)) (views : List (Knowledge I)) → Kept record { words = 1 ∷ []; homes = none ∷ []; views = views } → get_elem? views id ≡ some (resting (p ∷ [])) →
      Goes id p st views (1 ∷ []) (none ∷ [])
  take_away id p st views kept there =
      (resting (p ∷ []), keeps, tt, subst (λ (vs : List (Knowledge I)). Kept record { words = 1 ∷ []; homes = none ∷ []; views = vs }) (sym (set_again views id (resting (p ∷ [])) there)) kept, refl)

  pub take_allowed : (id : ℕ) (p : Standing I) (st : Step (Option S)) → Allows Kept 1 id (resting (p ∷ []), []) 0 after_take (takes_then opening_of history_of st (resting (p ∷ []), []))
  take_allowed id p st s kept len there small = by_place kept.place
    where
      by_place : AtHome opening_of history_of opening kept.hist s ⊎ IsOut opening_of history_of kept.hist s → Goes id p st s.views s.words s.homes
      by_place (inl h) =
          subst (λ (ws : List ℕ). Goes id p st s.views ws s.homes) (sym h.word)
          (subst (λ (hs : List (maybe.Option (Option S))). Goes id p st s.views (0 ∷ []) hs) (sym h.home)
          (take_home id p st s.views h.state
          (subst (All (λ (e : Made I). e.pass < passes)) (sym h.history_is) kept.entries) kept.given
          (subst (λ (hist : List (Made I)). Known hist s.views) (sym h.history_is) kept.each) h.none_out h.opening_is there))
      by_place (inr o) =
          subst (λ (ws : List ℕ). Goes id p st s.views ws s.homes) (sym o.word)
          (subst (λ (hs : List (maybe.Option (Option S))). Goes id p st s.views (1 ∷ []) hs) (sym o.away)
          (take_away id p st s.views (record {
            hist = kept.hist;
            entries = kept.entries;
            given = kept.given;
            each = kept.each;
            place = inr (record { who = o.who; standing = o.standing; away = refl; word = refl; there = o.there; no_other = o.no_other });
          }) there))

  -- a seat that has the state is the one that took it, and found there what the history is
  holder_found : (id : ℕ) (p : Standing I) (found : List (Made I)) (s : State (Option S) (Knowledge I)) (kept : Kept s) → get_elem? s.views id ≡ some (holding p found) →
      (o : IsOut opening_of history_of kept.hist s) × (o.who ≡ id) × (kept.hist ≡ found)
  holder_found id p found s kept there = by_place kept.place
    where
      by_place : AtHome opening_of history_of opening kept.hist s ⊎ IsOut opening_of history_of kept.hist s → (o : IsOut opening_of history_of kept.hist s) × (o.who ≡ id) × (kept.hist ≡ found)
      by_place (inl h) = absurd (let clash : Some found ≡ None = h.none_out id (holding p found) there in cc)
      by_place (inr o) = elim (number_same id o.who) [
        | inl e ↦ (
          o,
          sym e,
          ap (λ (u : Knowledge I). found_of u) (some-injective (holding o.standing kept.hist) (holding p found) (sym o.there ∙ (ap (get_elem? s.views) (sym e) ∙ there))),
        )
        | inr e ↦ absurd (let clash : Some found ≡ None = o.no_other id (holding p found) there e in cc)
      ]

  abbrev GivesOn : ℕ → Standing I → List (Made I) → S → Step (Option S) → State (Option S) (Knowledge I) → Type 0
  GivesOn id p found y st s =
      (w : Knowledge I) × (a : Act (Option S)) × Valid s.homes ((0, Some y) ∷ []) a × Kept (stepped s 0 0 id ((0, Some y) ∷ []) w a)
      × gives_then history_of st (holding p found, (0, Some y) ∷ []) 0 (w, carried_after ((0, Some y) ∷ []) a)

  give_out : (id : ℕ) (p : Standing I) (found : List (Made I)) (y : S) (items : List I) (st : Step (Option S)) (views : List (Knowledge I)) →
      All (λ (e : Made I). e.pass < passes) found → IsPermutation (range_with_len 0 passes) (numbers_of views) → Known found views →
      ((j : ℕ) (u : Knowledge I) → get_elem? views j ≡ some u → j ≢ id → u.found ≡ None) → get_elem? views id ≡ some (holding p found) →
      opening_of y ≡ p.opening → history_of y ≡ found ++ entries_of p.number (length p.made) items →
      GivesOn id p found y st record { words = 1 ∷ []; homes = none ∷ []; views = views }
  give_out id p found y items st views entries given each no_other there o is =
      let more : List (Made I) = entries_of p.number (length p.made) items in
      let mine : IsPassIn opening passes found p = All-head (IsPassIn opening passes found) p [] (each id (holding p found) there) in
      let w : Knowledge I = resting (after_hold p found (history_of y) ∷ []) in
      let parts_same : map (λ (q : Standing I). q.number) w.standings ≡ map (λ (q : Standing I). q.number) (p ∷ []) = refl in (
        w,
        gives,
        tt,
        record {
          hist = history_of y;
          entries = subst (All (λ (e : Made I). e.pass < passes)) (sym is) (All-append (λ (e : Made I). e.pass < passes) found more entries (passes-entries_of p.number (length p.made) passes items mine.number));
          given = same_right (range_with_len 0 passes) (numbers_of views) (numbers_of (slice_set views id w)) (sym (numbers_of-kept views id (holding p found) w there parts_same)) given;
          each = λ j u k. elim (at_set views id j w u k) [
            | inl e ↦ subst (λ (u : Knowledge I). All (IsPassIn opening passes (history_of y)) u.standings) e.1
                (All-cons (IsPassIn opening passes (history_of y)) (after_hold p found (history_of y)) []
                (record {
                  number = mine.number;
                  opening_is = mine.opening_is;
                  follows = subst (λ (h : List (Made I)). FollowsHistory h (after_hold p found h)) (sym is) (follows_after found p items mine.follows);
                })
                (All-nil (IsPassIn opening passes (history_of y))))
            | inr e ↦ λ i d small.
                let q : Standing I = get_or u.standings i d in
                let old : IsPassIn opening passes found q = each j u e.1 i d small in
                let apart : q.number ≢ p.number = differs j u e.1 e.0 i d small in
                record {
                  number = old.number;
                  opening_is = old.opening_is;
                  follows = subst (λ (h : List (Made I)). FollowsHistory h q) (sym is) (follows_more found q p.number (length p.made) items apart old.follows);
                }
          ];
          place = inl (record {
            state = y;
            home = refl;
            word = refl;
            history_is = refl;
            opening_is = o ∙ mine.opening_is;
            none_out = λ j u k. elim (at_set views id j w u k) [ inl e ↦ ap (λ (u : Knowledge I). u.found) (sym e.1) | inr e ↦ no_other j u e.1 e.0 ];
          });
        },
        record { state = y; carried_is = refl; after_is = refl },
      )
    where
      differs : (j : ℕ) (u : Knowledge I) → get_elem? views j ≡ some u → j ≢ id → (i : ℕ) (d : Standing I) → i < length u.standings → (get_or u.standings i d).number ≢ p.number
      differs j u here apart i d small same =
          others_differ passes p.number (map (λ (q : Standing I). q.number) u.standings) (numbers_of (slice_set (slice_set views id spent) j spent))
          (IsPermutation-trans (range_with_len 0 passes) (numbers_of views) (p.number ∷ (map (λ (q : Standing I). q.number) u.standings ++ numbers_of (slice_set (slice_set views id spent) j spent)))
          given (two_first views id j (holding p found) u there here apart))
          i p.number (omega (arith, length-map u.standings (λ (q : Standing I). q.number)))
          (get_or-map (λ (q : Standing I). q.number) u.standings i d p.number small ∙ same)

  pub give_allowed : (id : ℕ) (p : Standing I) (found : List (Made I)) (y : S) (items : List I) (st : Step (Option S)) →
      opening_of y ≡ p.opening → history_of y ≡ found ++ entries_of p.number (length p.made) items →
      Allows Kept 1 id (holding p found, (0, Some y) ∷ []) 0 (λ _. 0) (λ _. gives_then history_of st (holding p found, (0, Some y) ∷ []) 0)
  give_allowed id p found y items st o is s kept len there small =
      let (out, who, hist_is) = holder_found id p found s kept there in
      subst (λ (ws : List ℕ). GivesOn id p found y st record { words = ws; homes = s.homes; views = s.views }) (sym out.word)
      (subst (λ (hs : List (maybe.Option (Option S))). GivesOn id p found y st record { words = 1 ∷ []; homes = hs; views = s.views }) (sym out.away)
      (give_out id p found y items st s.views
      (subst (All (λ (e : Made I). e.pass < passes)) hist_is kept.entries) kept.given
      (subst (λ (hist : List (Made I)). Known hist s.views) hist_is kept.each)
      (λ j u here apart. out.no_other j u here (λ e. apart (e ∙ who))) there o is))

  -- the two steps at a table and a seat as a call has them
  pub take_at : (slots id : ℕ) (p : Standing I) (me : Me (Option S) (Knowledge I)) (st : Step (Option S)) → slots ≡ 1 → me ≡ (resting (p ∷ []), []) →
      Allows Kept slots id me 0 after_take (takes_then opening_of history_of st me)
  take_at slots id p me st one is =
      subst (λ (n : ℕ). Allows Kept n id me 0 after_take (takes_then opening_of history_of st me)) (sym one)
      (subst (λ (m : Me (Option S) (Knowledge I)). Allows Kept 1 id m 0 after_take (takes_then opening_of history_of st m)) (sym is) (take_allowed id p st))

  pub give_at : (slots id : ℕ) (p : Standing I) (found : List (Made I)) (y : S) (me : Me (Option S) (Knowledge I)) (st : Step (Option S)) → slots ≡ 1 → me ≡ (holding p found, (0, Some y) ∷ []) →
      opening_of y ≡ p.opening → (items : List I) × (history_of y ≡ found ++ entries_of p.number (length p.made) items) →
      Allows Kept slots id me 0 (λ _. 0) (λ _. gives_then history_of st me 0)
  give_at slots id p found y me st one is o adds =
      subst (λ (n : ℕ). Allows Kept n id me 0 (λ _. 0) (λ _. gives_then history_of st me 0)) (sym one)
      (subst (λ (m : Me (Option S) (Knowledge I)). Allows Kept 1 id m 0 (λ _. 0) (λ _. gives_then history_of st m 0)) (sym is) (give_allowed id p found y adds.0 st o adds.1))

  -- the word was 0, so the seat has the state
  pub took : (st : Step (Option S)) (me : Me (Option S) (Knowledge I)) (word : ℕ) (after : Me (Option S) (Knowledge I)) → word ≡ 0 → takes_then opening_of history_of st me word after →
      Took opening_of history_of (standing_of me.0) after
  took st me word after is then = subst (λ (n : ℕ). takes_then opening_of history_of st me n after) is then

module _ {A : Type 0} where
  pub carries : (carried : List (ℕ × A)) (x : A) → carried ≡ (0, x) ∷ [] → carried ≡ (0, x) ∷ rest carried
  carries carried x is = is ∙ ap (λ (left : List (ℕ × A)). (0, x) ∷ left) (ap rest (sym is))

  pub exchanged_for : {V : Type 0} (before after : Me A V) (v : V) (x y : A) → after ≡ (before.0, (0, y) ∷ rest before.1) → before ≡ (v, (0, x) ∷ []) → after ≡ (v, (0, y) ∷ [])
  exchanged_for {V} before after v x y is had = is ∙ ap (λ (m : Me A V). (m.0, (0, y) ∷ rest m.1)) had
