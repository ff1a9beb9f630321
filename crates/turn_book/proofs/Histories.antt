-- Histories that a pass adds its entries to.
use Rattle.std.proofs.Common.{◌≡◌, ◌≢◌, ℕ, ◌+◌, ◌<◌, true, false, List, [], ◌∷◌, ◌++◌, length, map, refl, ap, sym, ◌∙◌, subst, arith, append_assoc}
use Rattle.std.specs.Prelude.{All, nat_eq}
use Rattle.std.proofs.lemmas.List.{append-nil, map-append}
use Rattle.std.proofs.lemmas.List as lists
use Rattle.std.proofs.lemmas.List.Elements.{All-cons, All-nil, filter-append}
use Rattle.std.proofs.lemmas.Bool.Decides.{nat_tests}
use Rattle.turn_book.specs.declared.kept.Made.{Made}
use Rattle.turn_book.specs.declared.turns.Standing.{Standing}
use Rattle.ss_base.specs.Lists.{IsPrefixOf}
use Rattle.turn_book.specs.Entries.{made_by, entries_of}
use Rattle.turn_book.specs.Turns.{FollowsHistory, after_hold}

pub whole : {A : Type 0} (xs : List A) → IsPrefixOf xs xs
whole xs = ([], append-nil xs)

pub prefix_more : {A : Type 0} (xs ys more : List A) → IsPrefixOf xs ys → IsPrefixOf xs (ys ++ more)
prefix_more {A} xs ys more p = (p.0 ++ more, sym (append_assoc xs p.0 more) ∙ ap (λ (zs : List A). zs ++ more) p.1)

same_number : (n : ℕ) → nat_eq n n ≡ true
same_number n = grind (arith, nat_tests)

other_number : (n m : ℕ) → n ≢ m → nat_eq m n ≡ false
other_number n m apart = grind (arith, nat_tests)

module _ {I : Type 0} where
  item_of : Made I → I
  item_of e = e.item

  pub made_by_itself : (n k : ℕ) (items : List I) → made_by n (entries_of n k items) ≡ entries_of n k items
  made_by_itself n k [] = refl
  made_by_itself n k (i ∷ items) = rw (same_number n) (ap (λ (es : List (Made I)). record { pass = n; number = k; item = i } ∷ es) (made_by_itself n (k + 1) items))

  pub made_by_another : (n m k : ℕ) (items : List I) → n ≢ m → made_by n (entries_of m k items) ≡ []
  made_by_another n m k [] apart = refl
  made_by_another n m k (i ∷ items) apart = rw (other_number n m apart) (made_by_another n m (k + 1) items apart)

  pub entries_of-append : (n k : ℕ) (xs ys : List I) → entries_of n k (xs ++ ys) ≡ entries_of n k xs ++ entries_of n (k + length xs) ys
  entries_of-append n k [] ys = ap (λ (j : ℕ). entries_of n j ys) (omega arith)
  entries_of-append n k (x ∷ xs) ys =
      ap (λ (es : List (Made I)). record { pass = n; number = k; item = x } ∷ es)
      (entries_of-append n (k + 1) xs ys ∙ ap (λ (j : ℕ). entries_of n (k + 1) xs ++ entries_of n j ys) (omega arith))

  pub items-entries_of : (n k : ℕ) (items : List I) → map (λ (e : Made I). e.item) (entries_of n k items) ≡ items
  items-entries_of n k [] = refl
  items-entries_of n k (i ∷ items) = ap (λ (is : List I). i ∷ is) (items-entries_of n (k + 1) items)

  pub passes-entries_of : (n k passes : ℕ) (items : List I) → n < passes → All (λ (e : Made I). e.pass < passes) (entries_of n k items)
  passes-entries_of n k passes [] small = All-nil (λ (e : Made I). e.pass < passes)
  passes-entries_of n k passes (i ∷ items) small =
      All-cons (λ (e : Made I). e.pass < passes) (record { pass = n; number = k; item = i }) (entries_of n (k + 1) items) small (passes-entries_of n (k + 1) passes items small)

  -- another pass follows on
  pub follows_more : (hist : List (Made I)) (q : Standing I) (n k : ℕ) (items : List I) → q.number ≢ n → FollowsHistory hist q → FollowsHistory (hist ++ entries_of n k items) q
  follows_more hist q n k items apart f = record {
    seen = prefix_more q.seen hist (entries_of n k items) f.seen;
    made = filter-append (λ (e : Made I). nat_eq e.pass q.number) hist (entries_of n k items)
        ∙ (ap (λ (es : List (Made I)). made_by q.number hist ++ es) (made_by_another q.number n k items apart) ∙ (append-nil (made_by q.number hist) ∙ f.made));
    numbered = f.numbered;
    held = f.held;
  }

  -- what the pass itself has after its hold
  pub made_after : (hist : List (Made I)) (p : Standing I) (items : List I) → (after_hold p hist (hist ++ entries_of p.number (length p.made) items)).made ≡ p.made ++ entries_of p.number (length p.made) items
  made_after hist p items = ap (λ (es : List (Made I)). p.made ++ es) (lists.drop_at hist (entries_of p.number (length p.made) items) (length hist) refl)

  pub follows_after : (hist : List (Made I)) (p : Standing I) (items : List I) → FollowsHistory hist p →
      FollowsHistory (hist ++ entries_of p.number (length p.made) items) (after_hold p hist (hist ++ entries_of p.number (length p.made) items))
  follows_after hist p items f =
      let more = entries_of p.number (length p.made) items in
      let is : (after_hold p hist (hist ++ more)).made ≡ p.made ++ more = made_after hist p items in record {
        seen = whole (hist ++ more);
        made = filter-append (λ (e : Made I). nat_eq e.pass p.number) hist more
            ∙ (ap (λ (es : List (Made I)). made_by p.number hist ++ es) (made_by_itself p.number (length p.made) items)
            ∙ (ap (λ (es : List (Made I)). es ++ more) f.made ∙ sym is));
        numbered = subst (λ (es : List (Made I)). es ≡ entries_of p.number 0 (map (λ (e : Made I). e.item) es)) (sym is) (numbered_more p.number p.made items f.numbered);
        held = λ _. omega arith;
      }
    where
      numbered_more : (n : ℕ) (made : List (Made I)) (items : List I) → made ≡ entries_of n 0 (map (λ (e : Made I). e.item) made) →
          made ++ entries_of n (length made) items ≡ entries_of n 0 (map (λ (e : Made I). e.item) (made ++ entries_of n (length made) items))
      numbered_more n made items is =
          let old : List I = map (λ (e : Made I). e.item) made in
          ap (λ (es : List (Made I)). es ++ entries_of n (length made) items) is
          ∙ (ap (λ (k : ℕ). entries_of n 0 old ++ entries_of n k items) (sym (lists.length-map made (λ (e : Made I). e.item)) ∙ omega arith)
          ∙ (sym (entries_of-append n 0 old items)
          ∙ ap (λ (is : List I). entries_of n 0 is) (ap (λ (is : List I). old ++ is) (sym (items-entries_of n (length made) items)) ∙ sym (map-append (λ (e : Made I). e.item) made (entries_of n (length made) items)))))
