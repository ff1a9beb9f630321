-- The filled cells of a row, by visible indexes.
use Rattle.std.proofs.Common.{◌≡◌, ℕ, zero, suc, ◌+◌, ◌<◌, ◌≤◌, Bool, true, false, cond, List, [], ◌∷◌, ◌++◌, length, take, refl, ap, sym, ◌∙◌, subst, arith, inl, inr, Some, None, Option}
use Rattle.std.specs.Prelude.{◌⊎◌, not, filter, slice_get, slice_index_or, option_to_list}
use Rattle.std.specs.List.{filter_map, cons_option}
use Rattle.std.proofs.lemmas.List.{take_more}
use Rattle.marked_lines.specs.Marks.{places_from, visible_places, visible_of}
use Rattle.marked_lines.proofs.Indexes.{place_from_index, index_from_place}
use Rattle.sheet_ops.specs.declared.content.Content.{Content}
use Rattle.sheet_ops.specs.declared.content.Content.TheVariants as content
use Rattle.sheet_ops.specs.Placed.{PlacedSheet, cell_at}
use Rattle.cell_walk.specs.Walks.{IsIn, AreDistinct}
use Rattle.sheet_grid.specs.Cells.{is_empty, filled_places}
use Rattle.sheet_graph.specs.Graphs.{content_at, content_seen, HoldsFilled}

module _ {A : Type 0} where
  in_filter : (p : A → Bool) (x : A) (xs : List A) → IsIn x (filter p xs) → IsIn x xs
  in_filter p x [] h = h
  in_filter p x (y ∷ ys) h = by_test (p y) h (λ k. in_filter p x ys k)
    where
      by_test : (b : Bool) → IsIn x (cond b (y ∷ filter p ys) (filter p ys)) → (IsIn x (filter p ys) → IsIn x ys) → IsIn x (y ∷ ys)
      by_test true (inl e) r = inl e
      by_test true (inr k) r = inr (r k)
      by_test false k r = inr (r k)

  pub filter_in : (p : A → Bool) (x : A) (xs : List A) → p x ≡ true → IsIn x xs → IsIn x (filter p xs)
  filter_in p x [] e h = h
  filter_in p x (y ∷ ys) e (inl q) = simp (ap p q ∙ e) (inl q)
  filter_in p x (y ∷ ys) e (inr h) = by_test (p y) (filter_in p x ys e h)
    where
      by_test : (b : Bool) → IsIn x (filter p ys) → IsIn x (cond b (y ∷ filter p ys) (filter p ys))
      by_test true k = inr k
      by_test false k = k

  distinct_filter : (p : A → Bool) (xs : List A) → AreDistinct xs → AreDistinct (filter p xs)
  distinct_filter p [] h = tt
  distinct_filter p (x ∷ xs) h = by_test (p x) (distinct_filter p xs h.1)
    where
      by_test : (b : Bool) → AreDistinct (filter p xs) → AreDistinct (cond b (x ∷ filter p xs) (filter p xs))
      by_test true r = (λ i. h.0 (in_filter p x xs i), r)
      by_test false r = r

  length-filter : (p : A → Bool) (xs : List A) → length (filter p xs) ≤ length xs
  length-filter p [] = omega arith
  length-filter p (x ∷ xs) = by_test (p x) (length-filter p xs)
    where
      by_test : (b : Bool) → length (filter p xs) ≤ length xs → length (cond b (x ∷ filter p xs) (filter p xs)) ≤ suc (length xs)
      by_test true r = omega (arith, r)
      by_test false r = omega (arith, r)

module _ {A B : Type 0} (g : A → Option B) where
  -- where something comes from
  in_filter_map : (y : B) (xs : List A) → IsIn y (filter_map g xs) → (x : A) × IsIn x xs × (g x ≡ Some y)
  in_filter_map y [] h = absurd h
  in_filter_map y (x ∷ xs) h = by_value (g x) refl h (λ k. in_filter_map y xs k)
    where
      by_value : (o : Option B) → g x ≡ o → IsIn y (cons_option o (filter_map g xs)) → (IsIn y (filter_map g xs) → (z : A) × IsIn z xs × (g z ≡ Some y)) → (z : A) × IsIn z (x ∷ xs) × (g z ≡ Some y)
      by_value None e k r = let s = r k in (s.0, inr s.1, s.2)
      by_value (Some z) e (inl p) r = (x, inl refl, e ∙ ap Some p)
      by_value (Some z) e (inr k) r = let s = r k in (s.0, inr s.1, s.2)

  pub filter_map_in : (x : A) (y : B) (xs : List A) → g x ≡ Some y → IsIn x xs → IsIn y (filter_map g xs)
  filter_map_in x y [] e h = absurd h
  filter_map_in x y (z ∷ xs) e (inl p) = by_value (g z) (ap g p ∙ e)
    where
      by_value : (o : Option B) → o ≡ Some y → IsIn y (cons_option o (filter_map g xs))
      by_value None q = absurd (cc)
      by_value (Some w) q = inl (cc)
  filter_map_in x y (z ∷ xs) e (inr i) = by_value (g z) (filter_map_in x y xs e i)
    where
      by_value : (o : Option B) → IsIn y (filter_map g xs) → IsIn y (cons_option o (filter_map g xs))
      by_value None k = k
      by_value (Some w) k = inr k

  length-filter_map : (xs : List A) → length (filter_map g xs) ≤ length xs
  length-filter_map [] = omega arith
  length-filter_map (x ∷ xs) = by_value (g x) (length-filter_map xs)
    where
      by_value : (o : Option B) → length (filter_map g xs) ≤ length xs → length (cons_option o (filter_map g xs)) ≤ suc (length xs)
      by_value None r = omega (arith, r)
      by_value (Some y) r = omega (arith, r)

  -- what differs stays different, where nothing comes to the same
  distinct_filter_map : ((x z : A) (y : B) → g x ≡ Some y → g z ≡ Some y → x ≡ z) → (xs : List A) → AreDistinct xs → AreDistinct (filter_map g xs)
  distinct_filter_map one [] h = tt
  distinct_filter_map one (x ∷ xs) h = by_value (g x) refl (distinct_filter_map one xs h.1)
    where
      by_value : (o : Option B) → g x ≡ o → AreDistinct (filter_map g xs) → AreDistinct (cons_option o (filter_map g xs))
      by_value None e r = r
      by_value (Some y) e r = (λ i. let s = in_filter_map y xs i in h.0 (subst (λ (z : A). IsIn z xs) (one s.0 x y s.2 e) s.1), r)

  pub filter_map_push : (xs : List A) (x : A) → filter_map g (xs ++ x ∷ []) ≡ filter_map g xs ++ option_to_list (g x)
  filter_map_push [] x = by_value (g x)
    where
      by_value : (o : Option B) → cons_option o [] ≡ option_to_list o
      by_value None = refl
      by_value (Some y) = refl
  filter_map_push (z ∷ xs) x = by_value (g z) (filter_map_push xs x)
    where
      by_value : (o : Option B) → filter_map g (xs ++ x ∷ []) ≡ filter_map g xs ++ option_to_list (g x) → cons_option o (filter_map g (xs ++ x ∷ [])) ≡ cons_option o (filter_map g xs) ++ option_to_list (g x)
      by_value None r = r
      by_value (Some y) r = ap (λ (ys : List B). y ∷ ys) r

-- one more of a list
pub seen_more : (g : ℕ → Option ℕ) (ps seen after : List ℕ) (i : ℕ) → i < length ps → seen ≡ filter_map g (take i ps) → after ≡ seen ++ option_to_list (g (slice_index_or ps i 0)) → after ≡ filter_map g (take (i + 1) ps)
seen_more g ps seen after i h e f =
    f ∙ (ap (λ (xs : List ℕ). xs ++ option_to_list (g (slice_index_or ps i 0))) e
    ∙ (sym (filter_map_push g (take i ps) (slice_index_or ps i 0)) ∙ ap (λ (xs : List ℕ). filter_map g xs) (sym (take_more ps i 0 h))))

-- ---- visible lines
from_above : (o p : ℕ) (ms : List Bool) → IsIn p (places_from o ms) → o ≤ p
from_above o p [] h = absurd h
from_above o p (true ∷ ms) h = let k = from_above (suc o) p ms h in omega (arith, k)
from_above o p (false ∷ ms) (inl e) = omega (arith, e)
from_above o p (false ∷ ms) (inr h) = let k = from_above (suc o) p ms h in omega (arith, k)

distinct_from : (o : ℕ) (ms : List Bool) → AreDistinct (places_from o ms)
distinct_from o [] = tt
distinct_from o (true ∷ ms) = distinct_from (suc o) ms
distinct_from o (false ∷ ms) = (λ i. let k = from_above (suc o) o ms i in omega (arith, k), distinct_from (suc o) ms)

module _ {A : Type 0} where
  pub get_there : (xs : List A) (n : ℕ) → n < length xs → (x : A) × (slice_get xs n ≡ Some x)
  get_there [] n h = absurd (omega arith)
  get_there (y ∷ xs) zero h = (y, refl)
  get_there (y ∷ xs) (suc n) h = get_there xs n (omega arith)

  get_in : (xs : List A) (n : ℕ) (x : A) → slice_get xs n ≡ Some x → IsIn x xs
  get_in [] n x h = absurd (cc)
  get_in (y ∷ xs) zero x h = inl (cc)
  get_in (y ∷ xs) (suc n) x h = inr (get_in xs n x h)

  get_below : (xs : List A) (n : ℕ) (x : A) → slice_get xs n ≡ Some x → n < length xs
  get_below [] n x h = absurd (cc)
  get_below (y ∷ xs) zero x h = omega arith
  get_below (y ∷ xs) (suc n) x h = let k = get_below xs n x h in omega (arith, k)

-- ---- the filled cells of a row
module _ (P : PlacedSheet) (row : ℕ) where
  -- a row that isn't there has none
  pub no_row_filled : (end : ℕ) → slice_get (visible_places P.rows) row ≡ None → HoldsFilled P row end []
  no_row_filled end e = record {
    below = λ c i. absurd i;
    distinct = tt;
    few = omega arith;
    others = λ c h. inr (ap (λ (o : Option ℕ). content_at P o (slice_get (visible_places P.cols) c)) e);
  }

  module _ (place : ℕ) (is : slice_get (visible_places P.rows) row ≡ Some place) where
    pub row_filled : HoldsFilled P row (length (visible_places P.cols)) (filter_map (visible_of P.cols) (filled_places P place))
    row_filled = record {
      below = λ c i. let s = in_filter_map (visible_of P.cols) c (filled_places P place) i in get_below (visible_places P.cols) c s.0 (place_from_index P.cols s.0 c s.2);
      distinct = distinct_filter_map (visible_of P.cols) one (filled_places P place) (distinct_filter (λ col. not (is_empty (cell_at P place col))) (visible_places P.cols) (distinct_from 0 P.cols));
      few =
          let a = length-filter_map (visible_of P.cols) (filled_places P place) in
          let b = length-filter (λ col. not (is_empty (cell_at P place col))) (visible_places P.cols) in
          omega (arith, a, b);
      others = λ c h. by_place c (get_there (visible_places P.cols) c h);
    }
      where
        one : (p q v : ℕ) → visible_of P.cols p ≡ Some v → visible_of P.cols q ≡ Some v → p ≡ q
        one p q v e f = let a = place_from_index P.cols p v e in let b = place_from_index P.cols q v f in cc

        empty_is : (k : Content) → is_empty k ≡ true → k ≡ content.Empty
        empty_is content.Empty e = refl
        empty_is (content.Num z) e = absurd (let q : false ≡ true = e in cc)
        empty_is (content.Text t) e = absurd (let q : false ≡ true = e in cc)
        empty_is (content.Formula t) e = absurd (let q : false ≡ true = e in cc)

        by_place : (c : ℕ) → ((p : ℕ) × (slice_get (visible_places P.cols) c ≡ Some p)) → IsIn c (filter_map (visible_of P.cols) (filled_places P place)) ⊎ (content_seen P row c ≡ content.Empty)
        by_place c (p, e) = by_test (is_empty (cell_at P place p)) refl
          where
            by_test : (b : Bool) → is_empty (cell_at P place p) ≡ b → IsIn c (filter_map (visible_of P.cols) (filled_places P place)) ⊎ (content_seen P row c ≡ content.Empty)
            by_test true q = inr ((λ i. content_at P (is i) (e i)) ∙ empty_is (cell_at P place p) q)
            by_test false q = inl (filter_map_in (visible_of P.cols) p c (filled_places P place) (index_from_place P.cols p c e)
                (filter_in (λ col. not (is_empty (cell_at P place col))) p (visible_places P.cols) (ap not q) (get_in (visible_places P.cols) c p e)))
