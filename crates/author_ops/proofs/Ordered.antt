-- Rows in the order of their keys.
use Rattle.std.proofs.Common.{◌≡◌, ℕ, zero, suc, ◌+◌, ◌<◌, ◌≤◌, ◌≢◌, Bool, true, false, cond, List, [], ◌∷◌, ◌++◌, length, get_or, take, drop, refl, ap, sym, ◌∙◌, subst, arith, All, AllPairs, Contains, Ok, Err}
use Rattle.std.specs.Prelude.{map, nat_eq, nat_lt, slice_index, slice_index_or, Result}
use Rattle.std.specs.List.{zip, range_with_len}
use Rattle.std.specs.List.Sorted.{IsPermutation, IsSortedBy}
use Rattle.std.specs.Cmp.{IsTotalOrder, IsStrictWeakOrder}
use Rattle.std.specs.Ordering.{is_lt, is_gt, nat_cmp, ordering_then, ordering_reverse}
use Rattle.std.specs.declared.cmp.Ordering.{Ordering}
use Rattle.std.specs.declared.cmp.Ordering.TheVariants.{Less, Equal, Greater}
use Rattle.std.proofs.lemmas.Bool.Decides.{nat_tests}
use Rattle.std.proofs.lemmas.Cmp.{then_total, on_total, back_total, nat_cmp_total, upto, ranked}
use Rattle.std.proofs.lemmas.List.Elements.{All-nil, All-cons, All-head, All-tail, All-weaker, All-take, All-drop}
use Rattle.std.proofs.lemmas.List.Sorted.{length_permutation, IsPermutation-refl, IsPermutation-cons, IsPermutation-middle, IsPermutation-trans, IsPermutation-sym, IsPermutation-map, All-permutation, Contains-permutation, sorted_far}
use Rattle.std.proofs.lemmas.Map.Keys.{IsDistinct-from_apart, IsDistinct-IsPermutation, apart_from_distinct}
use Rattle.sheet_value.specs.declared.value.Value.{Value}
use Rattle.sheet_value.specs.declared.value.Value.TheVariants as value
use Rattle.sheet_value.specs.Order.{order_of}
use Rattle.ss_base.specs.declared.types.Size.{Size}
use Rattle.marked_lines.specs.Marks.{visible_count, visible_places}
use Rattle.sheet_ops.specs.declared.operation.Intent.{Intent}
use Rattle.sheet_ops.specs.declared.operation.Intent.TheVariants as intent
use Rattle.sheet_ops.specs.declared.edit.EditErr.{EditErr}
use Rattle.sheet_ops.specs.declared.edit.EditErr.TheVariants as fault
use Rattle.sheet_ops.specs.Fits.{SortFits, IntentFits}
use Rattle.author_ops.specs.Copies.{line_count}
use Rattle.author_ops.specs.Edits.{sort_on}
use Rattle.author_ops.proofs.Denoting.{is_below, is_not_below}
use Rattle.author_ops.specs.Orders.{empty_rank, key_order, row_order, row_put, rows_sorted, places_sorted, row_at}
use Rattle.author_ops.proofs.Shifted.{pairs_cons, pairs_head, pairs_tail, pairs_take, pairs_drop, visible_all, visible_up, length_run}

abbrev pub Row : Type 0
Row = ℕ × Value

-- ---- total orders and their tests
gt_reverse : (o : Ordering) → is_gt (ordering_reverse o) ≡ is_lt o
gt_reverse Less = refl
gt_reverse Equal = refl
gt_reverse Greater = refl

module _ {A : Type 0} {R : A → A → Ordering} (o : IsTotalOrder R) where
  gt_is : (x y : A) → is_gt (R y x) ≡ is_lt (R x y)
  gt_is x y = ap is_gt (o.antisymm y x) ∙ gt_reverse (R x y)

  one_way : (x y : A) → is_lt (R x y) ≡ true → is_lt (R y x) ≡ false
  one_way x y h = by_order (R x y) (R y x) (o.antisymm y x) h
    where
      by_order : (p q : Ordering) → q ≡ ordering_reverse p → is_lt p ≡ true → is_lt q ≡ false
      by_order Less q e h = ap is_lt e
      by_order Equal q e h = absurd (let clash : false ≡ true = h in cc)
      by_order Greater q e h = absurd (let clash : false ≡ true = h in cc)

  chain : (x y z : A) → is_lt (R x y) ≡ false → is_lt (R y z) ≡ false → is_lt (R x z) ≡ false
  chain x y z h k = sym (gt_is x z) ∙ upto o z y x (gt_is y z ∙ k) (gt_is x y ∙ h)

  pub weak : IsStrictWeakOrder (λ x y. is_lt (R x y))
  weak = record { one_way = one_way; chain = chain }

  tied : (x y : A) → is_lt (R x y) ≡ false → is_lt (R y x) ≡ false → R x y ≡ Equal
  tied x y h k = by_order (R x y) (R y x) (o.antisymm y x) h k
    where
      by_order : (p q : Ordering) → q ≡ ordering_reverse p → is_lt p ≡ false → is_lt q ≡ false → p ≡ Equal
      by_order Less q e h k = absurd (let clash : true ≡ false = h in cc)
      by_order Equal q e h k = refl
      by_order Greater q e h k = absurd (let clash : true ≡ false = sym (ap is_lt e) ∙ k in cc)

module _ (orders : IsTotalOrder order_of) (down : Bool) where
  keyed : (t : Bool) → IsTotalOrder (λ (a b : Value). cond t (order_of b a) (order_of a b))
  keyed true = back_total orders
  keyed false = orders

  pub key_total : IsTotalOrder (key_order down)
  key_total = then_total (on_total empty_rank nat_cmp_total) (keyed down)

  pub total : IsTotalOrder (row_order down)
  total = then_total (on_total (λ (r : Row). r.1) key_total) (on_total (λ (r : Row). r.0) nat_cmp_total)

  same_number : (m n : ℕ) → nat_cmp m n ≡ Equal → m ≡ n
  same_number m n e = ranked m n Equal (sym e)

  same_place : (r s : Row) → row_order down r s ≡ Equal → r.0 ≡ s.0
  same_place r s e = by_key (key_order down r.1 s.1) e
    where
      by_key : (p : Ordering) → ordering_then p (nat_cmp r.0 s.0) ≡ Equal → r.0 ≡ s.0
      by_key Less e = absurd (cc)
      by_key Equal e = same_number r.0 s.0 e
      by_key Greater e = absurd (cc)

  -- no later row comes before an earlier one
  abbrev pub InOrder : List Row → Type 0
  InOrder rs = AllPairs (λ r s. is_lt (row_order down s r) ≡ false) rs

  -- ---- rows put in their places
  put_permutes : (r : Row) (rs : List Row) → IsPermutation (r ∷ rs) (row_put down r rs)
  put_permutes r [] = IsPermutation-refl (r ∷ [])
  put_permutes r (s ∷ rs) = by_test (is_lt (row_order down s r)) (put_permutes r rs)
    where
      by_test : (t : Bool) → IsPermutation (r ∷ rs) (row_put down r rs) → IsPermutation (r ∷ s ∷ rs) (cond t (s ∷ row_put down r rs) (r ∷ s ∷ rs))
      by_test false h = IsPermutation-refl (r ∷ s ∷ rs)
      by_test true h =
          IsPermutation-trans (r ∷ s ∷ rs) (s ∷ r ∷ rs) (s ∷ row_put down r rs)
          (IsPermutation-sym (s ∷ r ∷ rs) (r ∷ s ∷ rs) (IsPermutation-middle (s ∷ []) r rs))
          (IsPermutation-cons s (r ∷ rs) (row_put down r rs) h)

  pub sorted_permutes : (rs : List Row) → IsPermutation rs (rows_sorted down rs)
  sorted_permutes [] = IsPermutation-refl []
  sorted_permutes (r ∷ rs) =
      IsPermutation-trans (r ∷ rs) (r ∷ rows_sorted down rs) (row_put down r (rows_sorted down rs)) (IsPermutation-cons r rs (rows_sorted down rs) (sorted_permutes rs)) (put_permutes r (rows_sorted down rs))

  put_ordered : (r : Row) (rs : List Row) → InOrder rs → InOrder (row_put down r rs)
  put_ordered r [] h = λ i j d lt within. absurd (omega arith)
  put_ordered r (s ∷ rs) h = by_test (is_lt (row_order down s r)) refl (put_ordered r rs (pairs_tail (λ r s. is_lt (row_order down s r) ≡ false) s rs h))
    where
      heads : All (λ q. is_lt (row_order down q s) ≡ false) rs
      heads = pairs_head (λ r s. is_lt (row_order down s r) ≡ false) s rs h

      by_test : (t : Bool) → is_lt (row_order down s r) ≡ t → InOrder (row_put down r rs) → InOrder (cond t (s ∷ row_put down r rs) (r ∷ s ∷ rs))
      by_test true e rest =
          pairs_cons (λ r s. is_lt (row_order down s r) ≡ false) s (row_put down r rs)
          (All-permutation (λ q. is_lt (row_order down q s) ≡ false) (r ∷ rs) (row_put down r rs) (put_permutes r rs) (All-cons (λ q. is_lt (row_order down q s) ≡ false) r rs (one_way total s r e) heads)) rest
      by_test false e rest =
          pairs_cons (λ r s. is_lt (row_order down s r) ≡ false) r (s ∷ rs)
          (All-cons (λ q. is_lt (row_order down q r) ≡ false) s rs e (All-weaker (λ q. is_lt (row_order down q s) ≡ false) (λ q. is_lt (row_order down q r) ≡ false) (λ q k. chain total q s r k e) rs heads)) h

  pub sorted_ordered : (rs : List Row) → InOrder (rows_sorted down rs)
  sorted_ordered [] = λ i j d lt within. absurd (omega arith)
  sorted_ordered (r ∷ rs) = put_ordered r (rows_sorted down rs) (sorted_ordered rs)

  -- ---- there is one order alone
  abbrev pub Apart : List Row → Type 0
  Apart rs = AllPairs (λ r s. r.0 ≢ s.0) rs

  pub one_order : (xs ys : List Row) → InOrder xs → InOrder ys → Apart xs → Apart ys → ((z : Row) → Contains xs z → Contains ys z) → ((z : Row) → Contains ys z → Contains xs z) → xs ≡ ys
  one_order [] [] h k f g to back = refl
  one_order [] (y ∷ ys) h k f g to back = absurd (let (i, within, at) = back y (0, omega arith, refl) in omega arith)
  one_order (x ∷ xs) [] h k f g to back = absurd (let (i, within, at) = to x (0, omega arith, refl) in omega arith)
  one_order (x ∷ xs) (y ∷ ys) h k f g to back =
      let e = head (back y (0, omega arith, refl)) (to x (0, omega arith, refl)) in
      λ i. e i ∷ one_order xs ys (pairs_tail (λ r s. is_lt (row_order down s r) ≡ false) x xs h) (pairs_tail (λ r s. is_lt (row_order down s r) ≡ false) y ys k) (pairs_tail (λ r s. r.0 ≢ s.0) x xs f) (pairs_tail (λ r s. r.0 ≢ s.0) y ys g)
      (λ z c. drop_head x y xs ys f e to z c) (λ z c. drop_head y x ys xs g (sym e) back z c) i
    where
      head : Contains (x ∷ xs) y → Contains (y ∷ ys) x → x ≡ y
      head (zero, within, at) other = at
      head (suc i, within, at) (zero, inside, there) = sym there
      head (suc i, within, at) (suc j, inside, there) =
          let before : is_lt (row_order down y x) ≡ false = subst (λ (z : Row). is_lt (row_order down z x) ≡ false) at (pairs_head (λ r s. is_lt (row_order down s r) ≡ false) x xs h i y (omega arith)) in
          let after : is_lt (row_order down x y) ≡ false = subst (λ (z : Row). is_lt (row_order down z y) ≡ false) there (pairs_head (λ r s. is_lt (row_order down s r) ≡ false) y ys k j x (omega arith)) in
          let same = same_place x y (tied total x y after before) in
          absurd (pairs_head (λ r s. r.0 ≢ s.0) x xs f i y (omega arith) (same ∙ sym (ap (λ (z : Row). z.0) at)))

      drop_head : (x y : Row) (xs ys : List Row) → Apart (x ∷ xs) → x ≡ y → ((z : Row) → Contains (x ∷ xs) z → Contains (y ∷ ys) z) → (z : Row) → Contains xs z → Contains ys z
      drop_head x y xs ys f e to z (i, within, at) = later (to z (suc i, omega arith, at))
        where
          later : Contains (y ∷ ys) z → Contains ys z
          later (suc j, inside, there) = (j, omega arith, there)
          later (zero, inside, there) = absurd (pairs_head (λ r s. r.0 ≢ s.0) x xs f i z within (ap (λ (w : Row). w.0) (e ∙ (there ∙ sym at))))

-- ---- numbers that differ, in another order
pub apart_permuted : (xs ys : List ℕ) → IsPermutation xs ys → AllPairs (λ p q. p ≢ q) xs → AllPairs (λ p q. p ≢ q) ys
apart_permuted xs ys perm distinct i j d lt within =
    let apart = IsDistinct-IsPermutation nat_eq eq_swap xs ys perm (IsDistinct-from_apart nat_eq xs (λ i j d lt within. unequal (get_or xs i d) (get_or xs j d) (distinct i j d lt within))) in
    differ (get_or ys i d) (get_or ys j d) (apart_from_distinct nat_eq ys i j d apart lt within)
  where
    eq_swap : (m n : ℕ) → nat_eq m n ≡ nat_eq n m
    eq_swap m n = grind (arith, nat_tests)

    unequal : (m n : ℕ) → m ≢ n → nat_eq m n ≡ false
    unequal m n h = grind (arith, nat_tests)

    differ : (m n : ℕ) → nat_eq m n ≡ false → m ≢ n
    differ m n h = grind (arith, nat_tests)

pub ascending_apart : (xs : List ℕ) → AllPairs (λ p q. p < q) xs → AllPairs (λ p q. p ≢ q) xs
ascending_apart xs up i j d lt within same = let h = up i j d lt within in omega (arith, h, same)

firsts : (ps : List ℕ) (ks : List Value) → length ks ≡ length ps → map (λ (r : Row). r.0) (zip ps ks) ≡ ps
firsts [] ks h = refl
firsts (p ∷ ps) [] h = absurd (omega arith)
firsts (p ∷ ps) (k ∷ ks) h = ap (λ (qs : List ℕ). p ∷ qs) (firsts ps ks (omega arith))

-- the rows of a list that has distinct places differ by them
apart_by : (rs : List Row) → AllPairs (λ p q. p ≢ q) (map (λ (r : Row). r.0) rs) → AllPairs (λ (r s : Row). r.0 ≢ s.0) rs
apart_by [] f = λ i j d lt within. absurd (omega arith)
apart_by (r ∷ rs) f =
    pairs_cons (λ (r s : Row). r.0 ≢ s.0) r rs (others rs (pairs_head (λ p q. p ≢ q) r.0 (map (λ (r : Row). r.0) rs) f)) (apart_by rs (pairs_tail (λ p q. p ≢ q) r.0 (map (λ (r : Row). r.0) rs) f))
  where
    others : (ss : List Row) → All (λ q. r.0 ≢ q) (map (λ (s : Row). s.0) ss) → All (λ (s : Row). r.0 ≢ s.0) ss
    others [] f = All-nil (λ (s : Row). r.0 ≢ s.0)
    others (s ∷ ss) f = All-cons (λ (s : Row). r.0 ≢ s.0) s ss (All-head (λ q. r.0 ≢ q) s.0 (map (λ (s : Row). s.0) ss) f) (others ss (All-tail (λ q. r.0 ≢ q) s.0 (map (λ (s : Row). s.0) ss) f))

module _ (orders : IsTotalOrder order_of) (down : Bool) (places : List ℕ) (keys : List Value) (many : length keys ≡ length places) (up : AllPairs (λ p q. p < q) places) where
  pub places_permuted : IsPermutation places (places_sorted down places keys)
  places_permuted =
      subst (λ (ps : List ℕ). IsPermutation ps (places_sorted down places keys)) (firsts places keys many)
      (IsPermutation-map (λ (r : Row). r.0) (zip places keys) (rows_sorted down (zip places keys)) (sorted_permutes orders down (zip places keys)))

  rows_apart : AllPairs (λ (r s : Row). r.0 ≢ s.0) (rows_sorted down (zip places keys))
  rows_apart = apart_by (rows_sorted down (zip places keys)) (apart_permuted places (places_sorted down places keys) places_permuted (ascending_apart places up))

  -- rows in order that are those in another order are the sorted ones
  pub rows_are_sorted : (rs : List Row) → IsPermutation (zip places keys) rs → InOrder orders down rs → rs ≡ rows_sorted down (zip places keys)
  rows_are_sorted rs perm order =
      one_order orders down rs (rows_sorted down (zip places keys)) order (sorted_ordered orders down (zip places keys))
      (apart_by rs (apart_permuted places (map (λ (r : Row). r.0) rs) (subst (λ (ps : List ℕ). IsPermutation ps (map (λ (r : Row). r.0) rs)) (firsts places keys many) (IsPermutation-map (λ (r : Row). r.0) (zip places keys) rs perm)) (ascending_apart places up)))
      rows_apart
      (λ z c. Contains-permutation (zip places keys) (rows_sorted down (zip places keys)) z (sorted_permutes orders down (zip places keys)) (Contains-permutation rs (zip places keys) z (IsPermutation-sym (zip places keys) rs perm) c))
      (λ z c. Contains-permutation (zip places keys) rs z perm (Contains-permutation (rows_sorted down (zip places keys)) (zip places keys) z (IsPermutation-sym (zip places keys) (rows_sorted down (zip places keys)) (sorted_permutes orders down (zip places keys))) c))

  -- ---- by the indexes of the rows
  map_at : {A B : Type 0} (f : A → B) (xs : List A) (k : ℕ) (d : A) (e : B) → k < length xs → get_or (map f xs) k e ≡ f (get_or xs k d)
  map_at f [] k d e within = absurd (omega arith)
  map_at f (x ∷ xs) zero d e within = refl
  map_at f (x ∷ xs) (suc k) d e within = map_at f xs k d e (omega arith)

  map_length : {A B : Type 0} (f : A → B) (xs : List A) → length (map f xs) ≡ length xs
  map_length f [] = refl
  map_length f (x ∷ xs) = ap suc (map_length f xs)

  map_twice : {A B C : Type 0} (f : A → B) (g : B → C) (xs : List A) → map g (map f xs) ≡ map (λ x. g (f x)) xs
  map_twice f g [] = refl
  map_twice f g (x ∷ xs) = ap (λ (ys : List _). g (f x) ∷ ys) (map_twice f g xs)

  rows_from : (o : ℕ) (ps : List ℕ) (ks : List Value) (f : ℕ → Row) → length ks ≡ length ps → ((i : ℕ) → i < length ps → f (o + i) ≡ (slice_index ps i, slice_index_or ks i value.Empty)) → map f (range_with_len o (length ps)) ≡ zip ps ks
  rows_from o [] ks f h at = refl
  rows_from o (p ∷ ps) [] f h at = absurd (omega arith)
  rows_from o (p ∷ ps) (k ∷ ks) f h at =
      let here : f o ≡ (p, k) = ap f (let e : o ≡ o + 0 = omega arith in e) ∙ at 0 (omega arith) in
      λ i. here i ∷ rows_from (o + 1) ps ks f (omega arith) (λ j lt. ap f (let e : (o + 1) + j ≡ o + suc j = omega arith in e) ∙ at (suc j) (omega arith)) i

  pub index_weak : IsStrictWeakOrder (λ i j. is_lt (row_order down (row_at places keys i) (row_at places keys j)))
  index_weak = weak (on_total (row_at places keys) (total orders down))

  pub order_is_sorted : (order : List ℕ) → IsPermutation (range_with_len 0 (length places)) order → IsSortedBy (λ i j. is_lt (row_order down (row_at places keys i) (row_at places keys j))) order → map (slice_index places) order ≡ places_sorted down places keys
  order_is_sorted order perm sorted =
      sym (map_twice (row_at places keys) (λ (r : Row). r.0) order) ∙ ap (map (λ (r : Row). r.0)) (rows_are_sorted (map (row_at places keys) order) permuted in_order)
    where
      permuted : IsPermutation (zip places keys) (map (row_at places keys) order)
      permuted =
          subst (λ (rs : List Row). IsPermutation rs (map (row_at places keys) order)) (rows_from 0 places keys (row_at places keys) many (λ i lt. ap (row_at places keys) (let e : 0 + i ≡ i = omega arith in e)))
          (IsPermutation-map (row_at places keys) (range_with_len 0 (length places)) order perm)

      in_order : InOrder orders down (map (row_at places keys) order)
      in_order i j d lt within =
          let count = map_length (row_at places keys) order in
          let inside : j < length order = omega (arith, within, count) in
          let far = sorted_far (λ i j. is_lt (row_order down (row_at places keys i) (row_at places keys j))) index_weak order sorted i j 0 (omega arith) inside in
          (λ t. is_lt (row_order down (map_at (row_at places keys) order j 0 d inside t) (map_at (row_at places keys) order i 0 d (omega arith) t))) ∙ far

  -- ---- a sort fits
  pub sort-fits : (n : ℕ) → length places ≤ 1024 → All (λ p. p < n) places → SortFits n places (places_sorted down places keys)
  sort-fits n few below = record {
    few = few;
    slots_below = below;
    ascending = up;
    as_many = length_permutation places (places_sorted down places keys) places_permuted;
    recs_below = All-permutation (λ p. p < n) places (places_sorted down places keys) places_permuted below;
    apart = apart_permuted places (places_sorted down places keys) places_permuted (ascending_apart places up);
  }

pub range_next : (n : ℕ) → range_with_len 0 (n + 1) ≡ range_with_len 0 n ++ n ∷ []
range_next n = more 0 n ∙ ap (λ (k : ℕ). range_with_len 0 n ++ k ∷ []) (let e : 0 + n ≡ n = omega arith in e)
  where
    more : (a n : ℕ) → range_with_len a (n + 1) ≡ range_with_len a n ++ (a + n) ∷ []
    more a zero = ap (λ (k : ℕ). k ∷ []) (let e : a ≡ a + 0 = omega arith in e)
    more a (suc n) = ap (λ (m : ℕ). range_with_len a m) (let e : suc n + 1 ≡ suc (n + 1) = omega arith in e) ∙ (ap (λ (ks : List ℕ). a ∷ ks) (more (a + 1) n) ∙ ap (λ (k : ℕ). a ∷ (range_with_len (a + 1) n ++ k ∷ [])) (let e : (a + 1) + n ≡ a + suc n = omega arith in e))

-- ---- what the code answers
module _ (rows : List Bool) (first last : ℕ) (keys : List Value) (down : Bool) where
  abbrev slots : List ℕ
  slots = take (line_count first last) (drop first (visible_places rows))

  pub sort_outside : visible_count rows ≤ last → sort_on rows first last keys down ≡ Err fault.OutOfSheet
  sort_outside h = ap (λ (t : Bool). cond t (cond (nat_lt 1024 (line_count first last)) (Err (fault.SortLong (line_count first last))) (Ok (intent.Sort slots (places_sorted down slots keys)))) (Err fault.OutOfSheet)) (is_not_below last (visible_count rows) h)

  pub sort_long : (n : ℕ) → last < visible_count rows → n ≡ line_count first last → 1024 < n → sort_on rows first last keys down ≡ Err (fault.SortLong n)
  sort_long n h same lt =
      ap (λ (t : Bool). cond t (cond (nat_lt 1024 (line_count first last)) (Err (fault.SortLong (line_count first last))) (Ok (intent.Sort slots (places_sorted down slots keys)))) (Err fault.OutOfSheet)) (is_below last (visible_count rows) h)
      ∙ (ap (λ (t : Bool). cond t (Err (fault.SortLong (line_count first last))) (Ok (intent.Sort slots (places_sorted down slots keys)))) (is_below 1024 (line_count first last) (subst (λ (m : ℕ). 1024 < m) same lt)) ∙ ap (λ (m : ℕ). Err (fault.SortLong m)) (sym same))

  pub sort_done : last < visible_count rows → line_count first last ≤ 1024 → sort_on rows first last keys down ≡ Ok (intent.Sort slots (places_sorted down slots keys))
  sort_done h le =
      ap (λ (t : Bool). cond t (cond (nat_lt 1024 (line_count first last)) (Err (fault.SortLong (line_count first last))) (Ok (intent.Sort slots (places_sorted down slots keys)))) (Err fault.OutOfSheet)) (is_below last (visible_count rows) h)
      ∙ ap (λ (t : Bool). cond t (Err (fault.SortLong (line_count first last))) (Ok (intent.Sort slots (places_sorted down slots keys)))) (is_not_below 1024 (line_count first last) le)

  pub slots_up : AllPairs (λ p q. p < q) slots
  slots_up = pairs_take (λ p q. p < q) (line_count first last) (drop first (visible_places rows)) (pairs_drop (λ p q. p < q) first (visible_places rows) (visible_up rows))

  pub slots_below : All (λ p. p < length rows) slots
  slots_below = All-take (λ p. p < length rows) (line_count first last) (drop first (visible_places rows)) (All-drop (λ p. p < length rows) first (visible_places rows) (visible_all rows))

  pub length_slots : first + line_count first last ≤ visible_count rows → length slots ≡ line_count first last
  length_slots h = length_run rows first (line_count first last) h

-- what a sort of the rows denotes fits
pub sort_by_fits : IsTotalOrder order_of → (rows : List Bool) (first last : ℕ) (keys : List Value) (down : Bool) → first ≤ last → (last < visible_count rows → length keys ≡ line_count first last) → (size : Size) → length rows ≡ size.rows →
    (op : Intent) → sort_on rows first last keys down ≡ Ok op → IntentFits size op
sort_by_fits orders rows first last keys down order many size tall op e = by_tests (nat_lt last (visible_count rows)) (nat_lt 1024 (line_count first last)) refl refl e
  where
    below : (m n : ℕ) → nat_lt m n ≡ true → m < n
    below m n h = grind (arith, nat_tests)

    not_below : (m n : ℕ) → nat_lt m n ≡ false → n ≤ m
    not_below m n h = grind (arith, nat_tests)

    by_tests : (s l : Bool) → nat_lt last (visible_count rows) ≡ s → nat_lt 1024 (line_count first last) ≡ l →
        ◌≡◌ {A = Result Intent EditErr} (cond s (cond l (Err (fault.SortLong (line_count first last))) (Ok (intent.Sort (slots rows first last keys down) (places_sorted down (slots rows first last keys down) keys)))) (Err fault.OutOfSheet)) (Ok op) → IntentFits size op
    by_tests false l es el e = absurd (cc)
    by_tests true true es el e = absurd (cc)
    by_tests true false es el e =
        let inside : last < visible_count rows = below last (visible_count rows) es in
        let few : line_count first last ≤ 1024 = not_below 1024 (line_count first last) el in
        let count : length (slots rows first last keys down) ≡ line_count first last = length_slots rows first last keys down (omega (arith, inside, order)) in
        let same : intent.Sort (slots rows first last keys down) (places_sorted down (slots rows first last keys down) keys) ≡ op = cc in
        subst (λ (x : Intent). IntentFits size x) same
        (sort-fits orders down (slots rows first last keys down) keys (many inside ∙ sym count) (slots_up rows first last keys down) size.rows (omega (arith, count, few))
        (subst (λ (n : ℕ). All (λ p. p < n) (slots rows first last keys down)) tall (slots_below rows first last keys down)))
