-- Passes go from seat to seat, and the rule stays.
use Rattle.std.proofs.Common.{◌≡◌, ◌≢◌, ℕ, List, [], ◌∷◌, ◌++◌, Some, None, Option, refl, ap, sym, ◌∙◌, subst, inl, inr}
use Rattle.std.specs.Prelude.{All, ◌⊎◌, slice_set}
use Rattle.std.specs.List.{range_with_len}
use Rattle.std.proofs.lemmas.List.Elements.{All-nil, All-cons, All-head, All-tail, All-append}
use Rattle.std.proofs.lemmas.List.Sorted.{IsPermutation-trans}
use mathlib.Core.Option.{some, some-injective}
use lib.ListN.{get_elem?}
use Rattle.atomic_table.specs.Table.{State, Splits, Joins}
use Rattle.atomic_table.proofs.Lists.{at_set, at_snoc, at_longer, set_else}
use Rattle.turn_book.specs.declared.kept.Made.{Made}
use Rattle.turn_book.specs.declared.turns.Standing.{Standing}
use Rattle.turn_book.specs.declared.turns.Knowledge.{Knowledge}
use Rattle.turn_book.specs.Turns.{IsPassIn, AtHome, IsOut, HasOneHistory, resting, holding, spent, both_views, without_first, first_alone, numbers_of}
use Rattle.turn_book.proofs.Numbers.{numbers_of-split, numbers_of-joined}

module _ {S I : Type 0} (opening_of : S → List ℕ) (history_of : S → List (Made I)) (opening : List ℕ) (passes : ℕ) where
  -- a seat without the state isn't the one that has it
  not_out : (hist : List (Made I)) (s : State (Option S) (Knowledge I)) (o : IsOut opening_of history_of hist s) (id : ℕ) (standings : List (Standing I)) →
      get_elem? s.views id ≡ some (resting standings) → o.who ≢ id
  not_out hist s o id standings there e =
      let clash : Some hist ≡ None = ap (λ (v : Knowledge I). v.found) (some-injective (holding o.standing hist) (resting standings) (sym o.there ∙ (ap (get_elem? s.views) e ∙ there))) in
      cc

  pub split_allowed : (id : ℕ) (p : Standing I) (ps : List (Standing I)) → Splits (HasOneHistory opening_of history_of opening passes) id (resting (p ∷ ps)) (resting ps) (resting (p ∷ []))
  split_allowed id p ps s kept there = record {
    hist = kept.hist;
    entries = kept.entries;
    given = IsPermutation-trans (range_with_len 0 passes) (numbers_of s.views) (numbers_of views) kept.given (numbers_of-split s.views id (resting (p ∷ ps)) p ps there refl);
    each = λ j u k. elim (which j u k) [
      | inl e ↦ subst (λ (u : Knowledge I). All Known u.standings) e (All-tail Known p ps mine)
      | inr (inl e) ↦ kept.each j u e
      | inr (inr e) ↦ subst (λ (u : Knowledge I). All Known u.standings) e (All-cons Known p [] (All-head Known p ps mine) (All-nil Known))
    ];
    place = by_place kept.place;
  }
    where
      left : List (Knowledge I)
      left = slice_set s.views id (resting ps)

      views : List (Knowledge I)
      views = left ++ resting (p ∷ []) ∷ []

      Known : Standing I → Type 0
      Known = IsPassIn opening passes kept.hist

      mine : All Known (p ∷ ps)
      mine = kept.each id (resting (p ∷ ps)) there

      which : (j : ℕ) (u : Knowledge I) → get_elem? views j ≡ some u → (resting ps ≡ u) ⊎ ((get_elem? s.views j ≡ some u) ⊎ (resting (p ∷ []) ≡ u))
      which j u k = elim (at_snoc left (resting (p ∷ [])) u j k) [
        | inl old ↦ elim (at_set s.views id j (resting ps) u old) [ inl e ↦ inl e.1 | inr e ↦ inr (inl e.1) ]
        | inr e ↦ inr (inr e)
      ]

      by_place : AtHome opening_of history_of opening kept.hist s ⊎ IsOut opening_of history_of kept.hist s →
          AtHome opening_of history_of opening kept.hist record { words = s.words; homes = s.homes; views = views } ⊎ IsOut opening_of history_of kept.hist record { words = s.words; homes = s.homes; views = views }
      by_place (inl h) = inl (record {
        state = h.state;
        home = h.home;
        word = h.word;
        history_is = h.history_is;
        opening_is = h.opening_is;
        none_out = λ j u k. elim (which j u k) [
          | inl e ↦ ap (λ (u : Knowledge I). u.found) (sym e)
          | inr (inl e) ↦ h.none_out j u e
          | inr (inr e) ↦ ap (λ (u : Knowledge I). u.found) (sym e)
        ];
      })
      by_place (inr o) = inr (record {
        who = o.who;
        standing = o.standing;
        away = o.away;
        word = o.word;
        there = at_longer left (resting (p ∷ []) ∷ []) o.who (holding o.standing kept.hist) (set_else s.views id o.who (resting ps) (not_out kept.hist s o id (p ∷ ps) there) ∙ o.there);
        no_other = λ j u k other. elim (which j u k) [
          | inl e ↦ ap (λ (u : Knowledge I). u.found) (sym e)
          | inr (inl e) ↦ o.no_other j u e other
          | inr (inr e) ↦ ap (λ (u : Knowledge I). u.found) (sym e)
        ];
      })

  pub join_allowed : (id other : ℕ) (ps qs : List (Standing I)) →
      Joins (HasOneHistory opening_of history_of opening passes) id (resting ps) other (resting qs) (both_views (resting ps) (resting qs)) spent
  join_allowed id other ps qs s kept there apart here = record {
    hist = kept.hist;
    entries = kept.entries;
    given = IsPermutation-trans (range_with_len 0 passes) (numbers_of s.views) (numbers_of views) kept.given (numbers_of-joined s.views id other (resting ps) (resting qs) there here apart);
    each = λ j u k. elim (which j u k) [
      | inl e ↦ subst (λ (u : Knowledge I). All Known u.standings) e (All-nil Known)
      | inr (inl e) ↦ subst (λ (u : Knowledge I). All Known u.standings) e (All-append Known qs ps (kept.each other (resting qs) before) (kept.each id (resting ps) there))
      | inr (inr e) ↦ kept.each j u e
    ];
    place = by_place kept.place;
  }
    where
      both : Knowledge I
      both = resting (qs ++ ps)

      views : List (Knowledge I)
      views = slice_set (slice_set s.views id both) other spent

      Known : Standing I → Type 0
      Known = IsPassIn opening passes kept.hist

      before : get_elem? s.views other ≡ some (resting qs)
      before = sym (set_else s.views id other both apart) ∙ here

      which : (j : ℕ) (u : Knowledge I) → get_elem? views j ≡ some u → (spent ≡ u) ⊎ ((both ≡ u) ⊎ (get_elem? s.views j ≡ some u))
      which j u k = elim (at_set (slice_set s.views id both) other j spent u k) [
        | inl e ↦ inl e.1
        | inr old ↦ elim (at_set s.views id j both u old.1) [ inl e ↦ inr (inl e.1) | inr e ↦ inr (inr e.1) ]
      ]

      by_place : AtHome opening_of history_of opening kept.hist s ⊎ IsOut opening_of history_of kept.hist s →
          AtHome opening_of history_of opening kept.hist record { words = s.words; homes = s.homes; views = views } ⊎ IsOut opening_of history_of kept.hist record { words = s.words; homes = s.homes; views = views }
      by_place (inl h) = inl (record {
        state = h.state;
        home = h.home;
        word = h.word;
        history_is = h.history_is;
        opening_is = h.opening_is;
        none_out = λ j u k. elim (which j u k) [
          | inl e ↦ ap (λ (u : Knowledge I). u.found) (sym e)
          | inr (inl e) ↦ ap (λ (u : Knowledge I). u.found) (sym e)
          | inr (inr e) ↦ h.none_out j u e
        ];
      })
      by_place (inr o) = inr (record {
        who = o.who;
        standing = o.standing;
        away = o.away;
        word = o.word;
        there = set_else (slice_set s.views id both) other o.who spent (not_out kept.hist s o other qs before) ∙ (set_else s.views id o.who both (not_out kept.hist s o id ps there) ∙ o.there);
        no_other = λ j u k other_seat. elim (which j u k) [
          | inl e ↦ ap (λ (u : Knowledge I). u.found) (sym e)
          | inr (inl e) ↦ ap (λ (u : Knowledge I). u.found) (sym e)
          | inr (inr e) ↦ o.no_other j u e other_seat
        ];
      })

  -- the two at seats as a call has them
  pub split_at : (id : ℕ) (p : Standing I) (ps : List (Standing I)) (v : Knowledge I) → v ≡ resting (p ∷ ps) → Splits (HasOneHistory opening_of history_of opening passes) id v (without_first v) (first_alone v)
  split_at id p ps v is = subst (λ (v : Knowledge I). Splits (HasOneHistory opening_of history_of opening passes) id v (without_first v) (first_alone v)) (sym is) (split_allowed id p ps)

  pub join_at : (id other : ℕ) (ps qs : List (Standing I)) (v w : Knowledge I) → v ≡ resting ps → w ≡ resting qs → Joins (HasOneHistory opening_of history_of opening passes) id v other w (both_views v w) spent
  join_at id other ps qs v w is other_is =
      subst (λ (v : Knowledge I). Joins (HasOneHistory opening_of history_of opening passes) id v other w (both_views v w) spent) (sym is)
      (subst (λ (w : Knowledge I). Joins (HasOneHistory opening_of history_of opening passes) id (resting ps) other w (both_views (resting ps) w) spent) (sym other_is) (join_allowed id other ps qs))
