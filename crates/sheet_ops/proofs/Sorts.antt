-- Sorts.
use Rattle.std.proofs.Common.{◌≡◌, ℕ, zero, suc, ◌+◌, ◌<◌, ◌≤◌, ◌≢◌, Bool, true, false, cond, List, [], ◌∷◌, length, refl, ap, sym, ◌∙◌, subst, arith, inl, inr, All, AllPairs}
use Rattle.std.specs.Prelude.{◌⊎◌, ◌&&◌, ◌||◌, not, nat_eq, map, filter, slice_index_or}
use Rattle.std.specs.List.{zip}
use Rattle.std.proofs.lemmas.Bool.{cases_lt}
use Rattle.std.proofs.lemmas.Bool.Decides.{nat_tests}
use Rattle.std.proofs.lemmas.List.{same_lists}
use Rattle.std.proofs.lemmas.List.Elements.{All-nil, All-cons, All-weaker, All-filter}
use Rattle.std.proofs.lemmas.List.Kept.{AllPairs-cons, AllPairs-filter}
use Rattle.ss_base.specs.declared.types.Size.{Size}
use Rattle.marked_lines.specs.Moves.{image, source, shifted, IsPerm, MovesBelow, after_insertion, moves_of}
use Rattle.marked_lines.proofs.Shifts.{image_shifted, after_insertion-injective}
use Rattle.marked_lines.proofs.Canonical.{IsPerm-moves_of, stay_below, below_stay}
use Rattle.marked_lines.proofs.Permuting.{source_below}
use Rattle.sheet_ops.specs.declared.operation.Intent.TheVariants as intent
use Rattle.sheet_ops.specs.LineIds.{LineId, id_eq}
use Rattle.sheet_ops.specs.Lines.{AxisLine, Axis, no_line, has_number, has_id, slot_at, slot_place, rec_at, rec_place, moved, moves_between, places_of, first_uses, sorted, sorted_moves, sort_moves}
use Rattle.sheet_ops.specs.Fits.{SortFits, IsWellFormedAxis}
use Rattle.sheet_ops.specs.Maps.{past_moves, unmoved}
use Rattle.sheet_ops.specs.Transforms.{sorted_anew, numbers_from}
use Rattle.sheet_ops.proofs.Ids.{same_number, number_self, true_or_false, id_eq-same, id_eq-self}
use Rattle.sheet_ops.proofs.Places.{at_inside, at_of_place, place_of_at}
use Rattle.sheet_ops.proofs.Carried.{length-moved, slot_moved, rec_moved, moves_fit, unmoved_fit}
use Rattle.sheet_ops.proofs.Moved.{intent_fits}
use Rattle.sheet_ops.proofs.Members.{has_filter, ascending_same, filter_same, has_none, has_first_uses, first_uses_distinct, first_uses_all, between, between_below}

and_swap : (a b : Bool) → a && b ≡ b && a
and_swap true true = refl
and_swap true false = refl
and_swap false true = refl
and_swap false false = refl

pub map_same : (xs : List ℕ) → map (λ p. p) xs ≡ xs
map_same [] = refl
map_same (x ∷ xs) = ap (λ (ys : List ℕ). x ∷ ys) (map_same xs)

-- ---- a sort by positions
module _ (n : ℕ) (ss rs : List ℕ) (f : SortFits n ss rs) where
  pub from_distinct : AllPairs (λ p q. p ≢ q) (filter (has_number ss) rs)
  from_distinct = AllPairs-filter (λ p q. p ≢ q) (has_number ss) rs f.apart

  pub to_up : AllPairs (λ p q. p < q) (filter (has_number rs) ss)
  to_up = AllPairs-filter (λ p q. p < q) (has_number rs) ss f.ascending

  pub same_numbers : (p : ℕ) → has_number (filter (has_number ss) rs) p ≡ has_number (filter (has_number rs) ss) p
  same_numbers p = has_filter (has_number ss) rs p ∙ (and_swap (has_number rs p) (has_number ss p) ∙ sym (has_filter (has_number rs) ss p))

  pub sort_moves-perm : IsPerm (sort_moves ss rs)
  sort_moves-perm = (between (filter (has_number ss) rs) (filter (has_number rs) ss) from_distinct to_up same_numbers).0

  pub sort_moves-below : MovesBelow n (sort_moves ss rs)
  sort_moves-below = between_below (filter (has_number ss) rs) (filter (has_number rs) ss) from_distinct to_up same_numbers n (All-filter (has_number rs) (λ p. p < n) ss f.slots_below)

-- ---- a sort by identity
module _ (S R : List LineId) where
  abbrev test : AxisLine → Bool
  test l = has_id S l.slot && has_id R l.rec

  places_low : (q : ℕ) (ls : List AxisLine) → All (λ p. q ≤ p) (places_of S R q ls)
  places_low q [] = All-nil (λ p. q ≤ p)
  places_low q (l ∷ ls) = by_test (test l) (All-weaker (λ p. suc q ≤ p) (λ p. q ≤ p) (λ p h. omega arith) (places_of S R (suc q) ls) (places_low (suc q) ls))
    where
      by_test : (t : Bool) → All (λ p. q ≤ p) (places_of S R (suc q) ls) → All (λ p. q ≤ p) (cond t (q ∷ places_of S R (suc q) ls) (places_of S R (suc q) ls))
      by_test true rest = All-cons (λ p. q ≤ p) q (places_of S R (suc q) ls) (omega arith) rest
      by_test false rest = rest

  places_up : (q : ℕ) (ls : List AxisLine) → AllPairs (λ p r. p < r) (places_of S R q ls)
  places_up q [] = λ i j d lt within. absurd (omega arith)
  places_up q (l ∷ ls) = by_test (test l) (places_up (suc q) ls)
    where
      by_test : (t : Bool) → AllPairs (λ p r. p < r) (places_of S R (suc q) ls) → AllPairs (λ p r. p < r) (cond t (q ∷ places_of S R (suc q) ls) (places_of S R (suc q) ls))
      by_test true rest = AllPairs-cons (λ p r. p < r) q (places_of S R (suc q) ls) (All-weaker (λ p. suc q ≤ p) (λ p. q < p) (λ p h. omega arith) (places_of S R (suc q) ls) (places_low (suc q) ls)) rest
      by_test false rest = rest

  places_high : (q : ℕ) (ls : List AxisLine) → All (λ p. p < q + length ls) (places_of S R q ls)
  places_high q [] = All-nil (λ p. p < q + 0)
  places_high q (l ∷ ls) = by_test (test l) (All-weaker (λ p. p < suc q + length ls) (λ p. p < q + suc (length ls)) (λ p h. omega arith) (places_of S R (suc q) ls) (places_high (suc q) ls))
    where
      by_test : (t : Bool) → All (λ p. p < q + suc (length ls)) (places_of S R (suc q) ls) → All (λ p. p < q + suc (length ls)) (cond t (q ∷ places_of S R (suc q) ls) (places_of S R (suc q) ls))
      by_test true rest = All-cons (λ p. p < q + suc (length ls)) q (places_of S R (suc q) ls) (omega arith) rest
      by_test false rest = rest

  -- a position is there exactly where its line passes
  places_has : (q : ℕ) (ls : List AxisLine) (p : ℕ) → p < length ls → has_number (places_of S R q ls) (q + p) ≡ test (slice_index_or ls p no_line)
  places_has q [] p h = absurd (omega arith)
  places_has q (l ∷ ls) zero h = by_test (test l)
    where
      zero_more : q + 0 ≡ q
      zero_more = omega arith

      none : has_number (places_of S R (suc q) ls) (q + 0) ≡ false
      none = has_none (places_of S R (suc q) ls) (q + 0) (λ k d within e. let low = places_low (suc q) ls k d within in omega (arith, e, low, zero_more))

      by_test : (t : Bool) → has_number (cond t (q ∷ places_of S R (suc q) ls) (places_of S R (suc q) ls)) (q + 0) ≡ t
      by_test true = ap (λ t. t || has_number (places_of S R (suc q) ls) (q + 0)) (ap (λ m. nat_eq q m) zero_more ∙ number_self q)
      by_test false = none
  places_has q (l ∷ ls) (suc p) h = by_test (test l) (places_has (suc q) ls p (omega arith))
    where
      next : suc q + p ≡ q + suc p
      next = omega arith

      apart : (m k : ℕ) → nat_eq m (m + suc k) ≡ false
      apart m k = grind (arith, nat_tests)

      by_test : (t : Bool) → has_number (places_of S R (suc q) ls) (suc q + p) ≡ test (slice_index_or ls p no_line) → has_number (cond t (q ∷ places_of S R (suc q) ls) (places_of S R (suc q) ls)) (q + suc p) ≡ test (slice_index_or ls p no_line)
      by_test true rest = ap (λ t. t || has_number (places_of S R (suc q) ls) (q + suc p)) (apart q p) ∙ (ap (has_number (places_of S R (suc q) ls)) (sym next) ∙ rest)
      by_test false rest = ap (has_number (places_of S R (suc q) ls)) (sym next) ∙ rest

  module _ (A : Axis) (ok : IsWellFormedAxis A) where
    abbrev places : List ℕ
    places = places_of S R 0 A.lines

    abbrev recs : List ℕ
    recs = map (rec_place A) R

    abbrev from : List ℕ
    from = first_uses [] (filter (has_number places) recs)

    place_is : (p : ℕ) → p < length A.lines → has_number places p ≡ has_id S (slot_at A p) && has_id R (rec_at A p)
    place_is p h = let e : 0 + p ≡ p = omega arith in ap (has_number places) (sym e) ∙ places_has 0 A.lines p h

    place_past : (p : ℕ) → length A.lines ≤ p → has_number places p ≡ false
    place_past p h = has_none places p (λ k d within e. let b = places_high 0 A.lines k d within in omega arith)

    -- a record of the list has its position among those of the list, and no other has
    recs_have : (ids : List LineId) (p : ℕ) → p < length A.lines → has_number (map (rec_place A) ids) p ≡ has_id ids (rec_at A p)
    recs_have [] p h = refl
    recs_have (r ∷ ids) p h = λ i. same_test (true_or_false (id_eq r (rec_at A p))) (true_or_false (nat_eq (rec_place A r) p)) i || recs_have ids p h i
      where
        same_test : ((id_eq r (rec_at A p) ≡ true) ⊎ (id_eq r (rec_at A p) ≡ false)) → ((nat_eq (rec_place A r) p ≡ true) ⊎ (nat_eq (rec_place A r) p ≡ false)) → nat_eq (rec_place A r) p ≡ id_eq r (rec_at A p)
        same_test (inl e) other = ap (λ m. nat_eq m p) (ap (rec_place A) (id_eq-same r (rec_at A p) e) ∙ place_of_at (λ l. l.rec) A.lines ok.recs p h) ∙ (number_self p ∙ sym e)
        same_test (inr e) (inr k) = k ∙ sym e
        same_test (inr e) (inl k) =
            let at : rec_place A r ≡ p = same_number (rec_place A r) p k in
            let there : rec_at A p ≡ r = ap (rec_at A) (sym at) ∙ at_of_place (λ l. l.rec) A.lines r (omega arith) in
            absurd (let seen : id_eq r (rec_at A p) ≡ true = ap (id_eq r) there ∙ id_eq-self r in let clash : true ≡ false = sym seen ∙ e in cc)

    slots_have : (ids : List LineId) (p : ℕ) → p < length A.lines → has_number (map (slot_place A) ids) p ≡ has_id ids (slot_at A p)
    slots_have [] p h = refl
    slots_have (r ∷ ids) p h = λ i. same_test (true_or_false (id_eq r (slot_at A p))) (true_or_false (nat_eq (slot_place A r) p)) i || slots_have ids p h i
      where
        same_test : ((id_eq r (slot_at A p) ≡ true) ⊎ (id_eq r (slot_at A p) ≡ false)) → ((nat_eq (slot_place A r) p ≡ true) ⊎ (nat_eq (slot_place A r) p ≡ false)) → nat_eq (slot_place A r) p ≡ id_eq r (slot_at A p)
        same_test (inl e) other = ap (λ m. nat_eq m p) (ap (slot_place A) (id_eq-same r (slot_at A p) e) ∙ place_of_at (λ l. l.slot) A.lines ok.slots p h) ∙ (number_self p ∙ sym e)
        same_test (inr e) (inr k) = k ∙ sym e
        same_test (inr e) (inl k) =
            let at : slot_place A r ≡ p = same_number (slot_place A r) p k in
            let there : slot_at A p ≡ r = ap (slot_at A) (sym at) ∙ at_of_place (λ l. l.slot) A.lines r (omega arith) in
            absurd (let seen : id_eq r (slot_at A p) ≡ true = ap (id_eq r) there ∙ id_eq-self r in let clash : true ≡ false = sym seen ∙ e in cc)

    and_true : (a : Bool) → a && true ≡ a
    and_true true = refl
    and_true false = refl

    and_same : (a b : Bool) → b && (a && b) ≡ a && b
    and_same true true = refl
    and_same true false = refl
    and_same false true = refl
    and_same false false = refl

    and_false : (a : Bool) → a && false ≡ false
    and_false true = refl
    and_false false = refl

    from_has : (p : ℕ) → has_number from p ≡ has_number places p
    from_has p = has_first_uses [] (filter (has_number places) recs) p ∙ (and_true (has_number (filter (has_number places) recs) p) ∙ (has_filter (has_number places) recs p ∙ by_side (cases_lt p (length A.lines))))
      where
        by_side : ((p < length A.lines) ⊎ (length A.lines ≤ p)) → has_number recs p && has_number places p ≡ has_number places p
        by_side (inr h) = ap (λ t. has_number recs p && t) (place_past p h) ∙ (and_false (has_number recs p) ∙ sym (place_past p h))
        by_side (inl h) = (λ i. recs_have R p h i && place_is p h i) ∙ (and_same (has_id S (slot_at A p)) (has_id R (rec_at A p)) ∙ sym (place_is p h))

    pub sorted_moves-perm : IsPerm (sorted_moves A S R)
    sorted_moves-perm = (between from places (first_uses_distinct [] (filter (has_number places) recs)) (places_up 0 A.lines) from_has).0

    pub sorted_moves-below : MovesBelow (length A.lines) (sorted_moves A S R)
    sorted_moves-below = between_below from places (first_uses_distinct [] (filter (has_number places) recs)) (places_up 0 A.lines) from_has (length A.lines)
        (All-weaker (λ p. p < 0 + length A.lines) (λ p. p < length A.lines) (λ p h. omega arith) places (places_high 0 A.lines))

    -- where its located intent fits, a sort by identity does what the sort by positions does
    pub sorted_is_moved : SortFits (length A.lines) (map (slot_place A) S) recs → sorted A S R ≡ moved A (sort_moves (map (slot_place A) S) recs)
    sorted_is_moved f = ap (moved A) (λ i. moves_between (same_from i) (same_places i))
      where
        ss : List ℕ
        ss = map (slot_place A) S

        past : (p : ℕ) (ns : List ℕ) → All (λ q. q < length A.lines) ns → length A.lines ≤ p → has_number ns p ≡ false
        past p ns all h = has_none ns p (λ k d within e. let b = all k d within in omega arith)

        members : (p : ℕ) → has_number places p ≡ has_number (filter (has_number recs) (map (slot_place A) S)) p
        members p = by_side (cases_lt p (length A.lines)) ∙ sym (has_filter (has_number recs) (map (slot_place A) S) p)
          where
            by_side : ((p < length A.lines) ⊎ (length A.lines ≤ p)) → has_number places p ≡ has_number (map (slot_place A) S) p && has_number recs p
            by_side (inl h) = place_is p h ∙ (λ i. sym (slots_have S p h) i && sym (recs_have R p h) i)
            by_side (inr h) = place_past p h ∙ sym (ap (λ t. t && has_number recs p) (past p (map (slot_place A) S) f.slots_below h))

        same_places : places ≡ filter (has_number recs) (map (slot_place A) S)
        same_places = ascending_same places (filter (has_number recs) (map (slot_place A) S)) (places_up 0 A.lines) (AllPairs-filter (λ p q. p < q) (has_number recs) (map (slot_place A) S) f.ascending) members

        kept : (p : ℕ) → has_number recs p ≡ true → has_number places p ≡ has_number (map (slot_place A) S) p
        kept p e = members p ∙ (has_filter (has_number recs) (map (slot_place A) S) p ∙ (ap (λ t. has_number (map (slot_place A) S) p && t) e ∙ and_true (has_number (map (slot_place A) S) p)))

        same_from : from ≡ filter (has_number (map (slot_place A) S)) recs
        same_from =
            first_uses_all [] (filter (has_number places) recs) (AllPairs-filter (λ p q. p ≢ q) (has_number places) recs f.apart) (λ k d within. refl)
            ∙ filter_same (has_number places) (has_number (map (slot_place A) S)) recs kept

-- ---- a sort past an insertion
module _ (q : ℕ) where
  abbrev after : ℕ → ℕ
  after p = after_insertion q p

  after_test : (m p : ℕ) → nat_eq (after m) (after p) ≡ nat_eq m p
  after_test m p = by_test (true_or_false (nat_eq m p)) (true_or_false (nat_eq (after m) (after p)))
    where
      by_test : ((nat_eq m p ≡ true) ⊎ (nat_eq m p ≡ false)) → ((nat_eq (after m) (after p) ≡ true) ⊎ (nat_eq (after m) (after p) ≡ false)) → nat_eq (after m) (after p) ≡ nat_eq m p
      by_test (inl e) other = ap (λ n. nat_eq (after n) (after p)) (same_number m p e) ∙ (number_self (after p) ∙ sym e)
      by_test (inr e) (inr k) = k ∙ sym e
      by_test (inr e) (inl k) = absurd (let same = after_insertion-injective q m p (same_number (after m) (after p) k) in let seen : nat_eq m p ≡ true = ap (λ n. nat_eq n p) same ∙ number_self p in let clash : true ≡ false = sym seen ∙ e in cc)

  has_after : (ns : List ℕ) (p : ℕ) → has_number (map after ns) (after p) ≡ has_number ns p
  has_after [] p = refl
  has_after (n ∷ ns) p = λ i. after_test n p i || has_after ns p i

  filter_after : (ms ns : List ℕ) → filter (has_number (map after ms)) (map after ns) ≡ map after (filter (has_number ms) ns)
  filter_after ms [] = refl
  filter_after ms (n ∷ ns) = ap (λ t. cond t (after n ∷ filter (has_number (map after ms)) (map after ns)) (filter (has_number (map after ms)) (map after ns))) (has_after ms n) ∙ by_test (has_number ms n) (filter_after ms ns)
    where
      by_test : (t : Bool) → filter (has_number (map after ms)) (map after ns) ≡ map after (filter (has_number ms) ns) → cond t (after n ∷ filter (has_number (map after ms)) (map after ns)) (filter (has_number (map after ms)) (map after ns)) ≡ map after (cond t (n ∷ filter (has_number ms) ns) (filter (has_number ms) ns))
      by_test true rest = ap (λ (xs : List ℕ). after n ∷ xs) rest
      by_test false rest = rest

  zip_after : (xs ys : List ℕ) → zip (map after xs) (map after ys) ≡ shifted q (zip xs ys)
  zip_after [] ys = refl
  zip_after (x ∷ xs) [] = refl
  zip_after (x ∷ xs) (y ∷ ys) = ap (λ (ms : List (ℕ × ℕ)). (after x, after y) ∷ ms) (zip_after xs ys)

  moves_after : (f g : ℕ → ℕ) → ((p : ℕ) → g (after p) ≡ after (f p)) → (ns : List ℕ) → moves_of g (map after ns) ≡ shifted q (moves_of f ns)
  moves_after f g h [] = refl
  moves_after f g h (n ∷ ns) =
      (λ i. cond (not (same i)) ((after n, h n i) ∷ moves_of g (map after ns)) (moves_of g (map after ns))) ∙ by_test (nat_eq n (f n)) (moves_after f g h ns)
    where
      same : nat_eq (after n) (g (after n)) ≡ nat_eq n (f n)
      same = ap (nat_eq (after n)) (h n) ∙ after_test n (f n)

      by_test : (t : Bool) → moves_of g (map after ns) ≡ shifted q (moves_of f ns) → cond (not t) ((after n, after (f n)) ∷ moves_of g (map after ns)) (moves_of g (map after ns)) ≡ shifted q (cond (not t) ((n, f n) ∷ moves_of f ns) (moves_of f ns))
      by_test true rest = rest
      by_test false rest = ap (λ (ms : List (ℕ × ℕ)). (after n, after (f n)) ∷ ms) rest

  pub sort_moves-inserted : (ss rs : List ℕ) → sort_moves (map after ss) (map after rs) ≡ shifted q (sort_moves ss rs)
  sort_moves-inserted ss rs =
      (λ i. moves_between (filter_after ss rs i) (filter_after rs ss i))
      ∙ moves_after (image (zip (filter (has_number ss) rs) (filter (has_number rs) ss))) (image (zip (map after (filter (has_number ss) rs)) (map after (filter (has_number rs) ss))))
      (λ p. ap (λ (ms : List (ℕ × ℕ)). image ms (after p)) (zip_after (filter (has_number ss) rs) (filter (has_number rs) ss)) ∙ image_shifted q (zip (filter (has_number ss) rs) (filter (has_number rs) ss)) p)
      (filter (has_number rs) ss)

-- ---- a sort past moves
numbers_low : (first count : ℕ) → All (λ p. first ≤ p) (numbers_from first count)
numbers_low first zero = All-nil (λ p. first ≤ p)
numbers_low first (suc count) = All-cons (λ p. first ≤ p) first (numbers_from (suc first) count) (omega arith) (All-weaker (λ p. suc first ≤ p) (λ p. first ≤ p) (λ p h. omega arith) (numbers_from (suc first) count) (numbers_low (suc first) count))

numbers_up : (first count : ℕ) → AllPairs (λ p q. p < q) (numbers_from first count)
numbers_up first zero = λ i j d lt within. absurd (omega arith)
numbers_up first (suc count) = AllPairs-cons (λ p q. p < q) first (numbers_from (suc first) count) (All-weaker (λ p. suc first ≤ p) (λ p. first < p) (λ p h. omega arith) (numbers_from (suc first) count) (numbers_low (suc first) count)) (numbers_up (suc first) count)

-- each number below a bound is there
numbers_have : (first count p : ℕ) → first ≤ p → p < first + count → has_number (numbers_from first count) p ≡ true
numbers_have first zero p low high = absurd (omega arith)
numbers_have first (suc count) p low high = by_head (true_or_false (nat_eq first p)) (λ l h. numbers_have (suc first) count p l h)
  where
    later : (m n : ℕ) → m ≤ n → nat_eq m n ≡ false → suc m ≤ n
    later m n h e = grind (arith, nat_tests)

    by_head : ((nat_eq first p ≡ true) ⊎ (nat_eq first p ≡ false)) → (suc first ≤ p → p < suc first + count → has_number (numbers_from (suc first) count) p ≡ true) → nat_eq first p || has_number (numbers_from (suc first) count) p ≡ true
    by_head (inl e) rest = ap (λ t. t || has_number (numbers_from (suc first) count) p) e
    by_head (inr e) rest = ap (λ t. t || has_number (numbers_from (suc first) count) p) e ∙ rest (later first p low e) (omega arith)

module _ (n : ℕ) (ss rs : List ℕ) (moves : List (ℕ × ℕ)) (perm : IsPerm moves) (below : MovesBelow n moves) (f : SortFits n ss rs) where
  abbrev sort_before : List (ℕ × ℕ)
  sort_before = sort_moves ss rs

  abbrev sort_after : List (ℕ × ℕ)
  sort_after = sort_moves ss (map (image moves) rs)

  pub fits_after : SortFits n ss (map (image moves) rs)
  fits_after =
      let size : Size = record { rows = n; cols = 0 } in
      let all : SortFits n (map (λ p. p) ss) (map (image moves) rs) = intent_fits (past_moves moves) unmoved size size (moves_fit moves n perm below) (unmoved_fit 0) (intent.Sort ss rs) f in
      subst (λ (xs : List ℕ). SortFits n xs (map (image moves) rs)) (map_same ss) all

  perm_before : IsPerm sort_before
  perm_before = sort_moves-perm n ss rs f

  perm_after : IsPerm sort_after
  perm_after = sort_moves-perm n ss (map (image moves) rs) fits_after

  abbrev turned_back : ℕ → ℕ
  turned_back p = image sort_before (source moves (source sort_after p))

  source_stays : (ms : List (ℕ × ℕ)) → IsPerm ms → MovesBelow n ms → (p : ℕ) → n ≤ p → source ms p ≡ p
  source_stays ms pm b p h = ap (source ms) (sym (below_stay ms n b p h)) ∙ pm.back p

  anew_stays : (p : ℕ) → n ≤ p → sorted_anew ss rs moves p ≡ p
  anew_stays p h =
      ap (λ q. image sort_after (image moves q)) (source_stays sort_before perm_before (sort_moves-below n ss rs f) p h)
      ∙ (ap (image sort_after) (below_stay moves n below p h) ∙ below_stay sort_after n (sort_moves-below n ss (map (image moves) rs) fits_after) p h)

  anew : IsPerm (moves_of (sorted_anew ss rs moves) (numbers_from 0 n)) × ((p : ℕ) → image (moves_of (sorted_anew ss rs moves) (numbers_from 0 n)) p ≡ sorted_anew ss rs moves p)
  anew = IsPerm-moves_of (sorted_anew ss rs moves) turned_back
      (λ p. ap (λ q. image sort_before (source moves q)) (perm_after.back (image moves (source sort_before p))) ∙ (ap (image sort_before) (perm.back (source sort_before p)) ∙ perm_before.forth p))
      (λ p. ap (λ q. image sort_after (image moves q)) (perm_before.back (source moves (source sort_after p))) ∙ (ap (image sort_after) (perm.forth (source sort_after p)) ∙ perm_after.forth p))
      (numbers_from 0 n) (numbers_up 0 n) (λ p none. anew_stays p (beyond p none))
    where
      beyond : (p : ℕ) → All (λ q. q ≢ p) (numbers_from 0 n) → n ≤ p
      beyond p none = by_side (cases_lt p n)
        where
          by_side : ((p < n) ⊎ (n ≤ p)) → n ≤ p
          by_side (inr h) = h
          by_side (inl h) = absurd (let clash : true ≡ false = sym (numbers_have 0 n p (omega arith) (omega arith)) ∙ has_none (numbers_from 0 n) p none in cc)

  pub sorted_anew-perm : IsPerm (moves_of (sorted_anew ss rs moves) (numbers_from 0 n))
  sorted_anew-perm = anew.0

  pub sorted_anew-below : MovesBelow n (moves_of (sorted_anew ss rs moves) (numbers_from 0 n))
  sorted_anew-below = stay_below (moves_of (sorted_anew ss rs moves) (numbers_from 0 n)) anew.0 n (λ p h. anew.1 p ∙ anew_stays p h)

  source_anew : (p : ℕ) → source (moves_of (sorted_anew ss rs moves) (numbers_from 0 n)) p ≡ turned_back p
  source_anew p =
      let forth : sorted_anew ss rs moves (turned_back p) ≡ p =
      ap (λ q. image sort_after (image moves q)) (perm_before.back (source moves (source sort_after p))) ∙ (ap (image sort_after) (perm.forth (source sort_after p)) ∙ perm_after.forth p) in
      ap (source (moves_of (sorted_anew ss rs moves) (numbers_from 0 n))) (sym (anew.1 (turned_back p) ∙ forth)) ∙ anew.0.back (turned_back p)

  pub sorts_and_moves : (A : Axis) → length A.lines ≡ n → moved (moved A moves) sort_after ≡ moved (moved A sort_before) (moves_of (sorted_anew ss rs moves) (numbers_from 0 n))
  sorts_and_moves A count =
      let M = moves_of (sorted_anew ss rs moves) (numbers_from 0 n) in
      ap (λ (ls : List AxisLine). record A { lines = ls })
      (same_lists (moved (moved A moves) sort_after).lines (moved (moved A sort_before) M).lines (first_count ∙ sym second_count) (λ k d within.
      let k' : k < n = omega (arith, within, first_count, count) in
      at_inside (moved (moved A moves) sort_after).lines k d no_line within
      ∙ (same_line (slice_index_or (moved (moved A moves) sort_after).lines k no_line) (slice_index_or (moved (moved A sort_before) M).lines k no_line)
      (slot_moved (moved A moves) sort_after k (omega (arith, k', one_count)) ∙ (slot_moved A moves k (omega arith) ∙ sym (slot_moved (moved A sort_before) M k (omega (arith, k', other_count)) ∙ slot_moved A sort_before k (omega arith))))
      (left k k' ∙ sym (right k k'))
      ∙ at_inside (moved (moved A sort_before) M).lines k no_line d (omega (arith, k', second_count, count)))))
    where
      one_count : length (moved A moves).lines ≡ n
      one_count = length-moved A moves ∙ count

      other_count : length (moved A sort_before).lines ≡ n
      other_count = length-moved A sort_before ∙ count

      first_count : length (moved (moved A moves) sort_after).lines ≡ length A.lines
      first_count = length-moved (moved A moves) sort_after ∙ length-moved A moves

      second_count : length (moved (moved A sort_before) (moves_of (sorted_anew ss rs moves) (numbers_from 0 n))).lines ≡ length A.lines
      second_count = length-moved (moved A sort_before) (moves_of (sorted_anew ss rs moves) (numbers_from 0 n)) ∙ length-moved A sort_before

      same_line : (l m : AxisLine) → l.slot ≡ m.slot → l.rec ≡ m.rec → l ≡ m
      same_line l m s r = λ i. record { slot = s i; rec = r i }

      below_after : MovesBelow n sort_after
      below_after = sort_moves-below n ss (map (image moves) rs) fits_after

      left : (k : ℕ) → k < n → rec_at (moved (moved A moves) sort_after) k ≡ rec_at A (source moves (source sort_after k))
      left k h =
          rec_moved (moved A moves) sort_after (subst (λ m. MovesBelow m sort_after) (sym one_count) below_after) k (omega (arith, h, one_count))
          ∙ rec_moved A moves (subst (λ m. MovesBelow m moves) (sym count) below) (source sort_after k) (let b = source_below sort_after n k below_after h in omega (arith, b, count))

      right : (k : ℕ) → k < n → rec_at (moved (moved A sort_before) (moves_of (sorted_anew ss rs moves) (numbers_from 0 n))) k ≡ rec_at A (source moves (source sort_after k))
      right k h =
          rec_moved (moved A sort_before) (moves_of (sorted_anew ss rs moves) (numbers_from 0 n)) (subst (λ m. MovesBelow m (moves_of (sorted_anew ss rs moves) (numbers_from 0 n))) (sym other_count) sorted_anew-below) k (omega (arith, h, other_count))
          ∙ (rec_moved A sort_before (subst (λ m. MovesBelow m sort_before) (sym count) (sort_moves-below n ss rs f)) (source (moves_of (sorted_anew ss rs moves) (numbers_from 0 n)) k)
          (let b = source_below (moves_of (sorted_anew ss rs moves) (numbers_from 0 n)) n k sorted_anew-below h in omega (arith, b, count))
          ∙ ap (rec_at A) (ap (source sort_before) (source_anew k) ∙ perm_before.back (source moves (source sort_after k))))
