-- The formula cells of a column, whose rows rise.
use Rattle.std.proofs.Common.{◌≡◌, ℕ, zero, suc, ◌^◌, ◌+◌, ◌<◌, ◌≤◌, Bool, true, false, cond, List, [], ◌∷◌, ◌++◌, length, get_or, replicate, refl, ap, sym, ◌∙◌, subst, arith, inl, inr, Some, None}
use Rattle.std.specs.Prelude.{◌-◌, nat_eq, nat_lt, drop, slice_set}
use Rattle.std.specs.List.{AllByRecursion}
use Rattle.std.specs.List.Sorted.{IsNonDecreasingBy}
use Rattle.std.proofs.lemmas.Bool.Decides.{nat_tests}
use Rattle.cell_walk.specs.Walks.{IsIn, cells_from}
use Rattle.sheet_graph.specs.declared.columns.FormulaCell.{FormulaCell}
use Rattle.sheet_graph.specs.Columns.{IsRising, IsCounted, EndsAt, IsColumn, number_under, column_at, seats_above, numbers_above, numbers_between}

module _ {A : Type 0} where
  pub all_weaker : {P Q : A → Type 0} (xs : List A) → ((x : A) → P x → Q x) → AllByRecursion P xs → AllByRecursion Q xs
  all_weaker [] f h = tt
  all_weaker (x ∷ xs) f h = (f x h.0, all_weaker xs f h.1)

  all_at : (P : A → Type 0) (xs : List A) (i : ℕ) (d : A) → AllByRecursion P xs → i < length xs → P (get_or xs i d)
  all_at P [] i d h l = absurd (omega arith)
  all_at P (x ∷ xs) zero d h l = h.0
  all_at P (x ∷ xs) (suc i) d h l = all_at P xs i d h.1 (omega arith)

  all_push : (P : A → Type 0) (xs : List A) (x : A) → AllByRecursion P xs → P x → AllByRecursion P (xs ++ x ∷ [])
  all_push P [] x h k = (k, tt)
  all_push P (y ∷ xs) x h k = (h.0, all_push P xs x h.1 k)

  pub all_set : (P : A → Type 0) (xs : List A) (i : ℕ) (x : A) → AllByRecursion P xs → P x → AllByRecursion P (slice_set xs i x)
  all_set P [] i x h k = tt
  all_set P (y ∷ xs) zero x h k = (k, h.1)
  all_set P (y ∷ xs) (suc i) x h k = (h.0, all_set P xs i x h.1 k)

-- ---- one more, and how many there can be
rising_push : (seats : List FormulaCell) (t : FormulaCell) → IsRising seats → AllByRecursion (λ s. s.row < t.row) seats → IsRising (seats ++ t ∷ [])
rising_push [] t h k = (tt, tt)
rising_push (s ∷ seats) t h k = (all_push (λ u. s.row < u.row) seats t h.0 k.0, rising_push seats t h.1 k.1)

counted_push : (seats : List FormulaCell) (t : FormulaCell) (first : ℕ) → IsCounted seats first → t.number ≡ first + length seats → IsCounted (seats ++ t ∷ []) first
counted_push [] t first h e = (omega (arith, e), tt)
counted_push (s ∷ seats) t first h e = (h.0, counted_push seats t (suc first) h.1 (omega (arith, e)))

length-push : (seats : List FormulaCell) (t : FormulaCell) → length (seats ++ t ∷ []) ≡ length seats + 1
length-push [] t = refl
length-push (s ∷ seats) t = let r = length-push seats t in omega (arith, r)

pub ends_push : (seats : List FormulaCell) (t : FormulaCell) → EndsAt seats t.number → EndsAt (seats ++ t ∷ []) (t.number + 1)
ends_push seats t e = (e.0, counted_push seats t e.0 e.1 e.2, (let l = length-push seats t in let k = e.2 in omega (arith, l, k)))

pub kept_push : (seats : List FormulaCell) (t : FormulaCell) → IsColumn seats → AllByRecursion (λ s. s.row < t.row) seats → t.row < 16000 → t.number < 2 ^ 31 → EndsAt seats t.number → IsColumn (seats ++ t ∷ [])
kept_push seats t h k l m e = record {
  rising = rising_push seats t h.rising k;
  few = all_push (λ s. (s.row < 16000) × (s.number < 2 ^ 31)) seats t h.few (l, m);
  first = e.0;
  counted = counted_push seats t e.0 e.1 e.2;
}

few_from : (seats : List FormulaCell) (low : ℕ) → IsRising seats → AllByRecursion (λ s. s.row < 16000) seats → AllByRecursion (λ s. low ≤ s.row) seats → length seats ≤ 16000 - low
few_from [] low h k l = omega arith
few_from (s ∷ seats) low h k l =
    let r = few_from seats (suc s.row) h.1 k.1 (all_weaker seats (λ t p. omega arith) h.0) in
    let a = k.0 in
    let b = l.0 in
    omega (arith, r, a, b)

pub kept_few : (seats : List FormulaCell) → IsColumn seats → length seats ≤ 16000
kept_few seats h = few_from seats 0 h.rising (all_weaker seats (λ s p. p.0) h.few) (all_weaker seats (λ s p. omega arith) h.few)

-- ---- runs of numbers
counted_at : (seats : List FormulaCell) (first i : ℕ) (d : FormulaCell) → IsCounted seats first → i < length seats → (get_or seats i d).number ≡ first + i
counted_at [] first i d h l = absurd (omega arith)
counted_at (s ∷ seats) first zero d h l = let e = h.0 in omega (arith, e)
counted_at (s ∷ seats) first (suc i) d h l = let e = counted_at seats (suc first) i d h.1 (omega arith) in omega (arith, e)

pub number_at : (seats : List FormulaCell) (k : IsColumn seats) (i : ℕ) (d : FormulaCell) → i < length seats → (get_or seats i d).number ≡ k.first + i
number_at seats k i d l = counted_at seats k.first i d k.counted l

pub number_few : (seats : List FormulaCell) → IsColumn seats → (i : ℕ) (d : FormulaCell) → i < length seats → (get_or seats i d).number < 2 ^ 31
number_few seats k i d l = (all_at (λ s. (s.row < 16000) × (s.number < 2 ^ 31)) seats i d k.few l).1

above_run : (seats : List FormulaCell) (first bottom : ℕ) → IsCounted seats first → numbers_above bottom seats ≡ cells_from first (seats_above bottom seats)
above_run [] first bottom h = refl
above_run (s ∷ seats) first bottom h = by_test (nat_lt s.row bottom) (above_run seats (suc first) bottom h.1)
  where
    by_test : (b : Bool) → numbers_above bottom seats ≡ cells_from (suc first) (seats_above bottom seats) → cond b (s.number ∷ numbers_above bottom seats) [] ≡ cells_from first (cond b (suc (seats_above bottom seats)) 0)
    by_test true r = λ i. h.0 i ∷ r i
    by_test false r = refl

none_above : (seats : List FormulaCell) (bottom i : ℕ) → AllByRecursion (λ s. bottom ≤ s.row) seats → numbers_above bottom (drop i seats) ≡ []
none_above [] bottom zero h = refl
none_above [] bottom (suc i) h = refl
none_above (s ∷ seats) bottom zero h = ap (λ b. cond b (s.number ∷ numbers_above bottom seats) []) (let l = h.0 in let t : nat_lt s.row bottom ≡ false = grind (arith, nat_tests) in t)
none_above (s ∷ seats) bottom (suc i) h = none_above seats bottom i h.1

between_run : (seats : List FormulaCell) (first top bottom : ℕ) → IsRising seats → IsCounted seats first → numbers_between top bottom seats ≡ cells_from (first + seats_above top seats) (seats_above bottom seats - seats_above top seats)
between_run [] first top bottom up h = refl
between_run (s ∷ seats) first top bottom up h = by_tests (nat_lt s.row top) (nat_lt s.row bottom) refl refl (between_run seats (suc first) top bottom up.1 h.1)
  where
    by_tests : (a b : Bool) → nat_lt s.row top ≡ a → nat_lt s.row bottom ≡ b → numbers_between top bottom seats ≡ cells_from (suc first + seats_above top seats) (seats_above bottom seats - seats_above top seats) →
        numbers_above bottom (drop (cond a (suc (seats_above top seats)) 0) (s ∷ seats)) ≡ cells_from (first + cond a (suc (seats_above top seats)) 0) (cond b (suc (seats_above bottom seats)) 0 - cond a (suc (seats_above top seats)) 0)
    by_tests true true p q r =
        r ∙ (λ k. cells_from ((let e : suc first + seats_above top seats ≡ first + suc (seats_above top seats) = omega arith in e) k) ((let e : seats_above bottom seats - seats_above top seats ≡ suc (seats_above bottom seats) - suc (seats_above top seats) = omega arith in e) k))
    by_tests true false p q r =
        none_above seats bottom (seats_above top seats) (all_weaker seats (λ t l. let m : bottom ≤ s.row = grind (arith, nat_tests) in omega (arith, l, m)) up.0)
        ∙ ap (cells_from (first + suc (seats_above top seats))) (let e : 0 ≡ 0 - suc (seats_above top seats) = omega arith in e)
    by_tests false b p q r =
        above_run (s ∷ seats) first bottom h
        ∙ (λ k. cells_from ((let e : first ≡ first + 0 = omega arith in e) k) (whole b q k))
      where
        whole : (b : Bool) → nat_lt s.row bottom ≡ b → seats_above bottom (s ∷ seats) ≡ cond b (suc (seats_above bottom seats)) 0 - 0
        whole b q = ap (λ t. cond t (suc (seats_above bottom seats)) 0) q ∙ (let e : cond b (suc (seats_above bottom seats)) 0 ≡ cond b (suc (seats_above bottom seats)) 0 - 0 = omega arith in e)

pub run_between : (seats : List FormulaCell) (k : IsColumn seats) (top bottom : ℕ) → numbers_between top bottom seats ≡ cells_from (k.first + seats_above top seats) (seats_above bottom seats - seats_above top seats)
run_between seats k top bottom = between_run seats k.first top bottom k.rising k.counted

module _ (seats : List FormulaCell) (k : IsColumn seats) (top bottom from end : ℕ) where
  pub none_between : from ≡ seats_above top seats → end ≡ seats_above bottom seats → end ≤ from → numbers_between top bottom seats ≡ []
  none_between f e l = run_between seats k top bottom ∙ ap (cells_from (k.first + seats_above top seats)) (let z : seats_above bottom seats - seats_above top seats ≡ 0 = omega (arith, f, e, l) in z)

  pub run_found : (s : FormulaCell) → from ≡ seats_above top seats → end ≡ seats_above bottom seats → from < end → end ≤ length seats → s ≡ get_or seats from s → numbers_between top bottom seats ≡ cells_from s.number (s.number + (end - from) - s.number)
  run_found s f e l w is =
      let n : s.number ≡ k.first + from = ap (λ (t : FormulaCell). t.number) is ∙ number_at seats k from s (omega (arith, l, w)) in
      run_between seats k top bottom
      ∙ (λ i. cells_from ((let q : k.first + seats_above top seats ≡ s.number = omega (arith, n, f) in q) i) ((let q : seats_above bottom seats - seats_above top seats ≡ s.number + (end - from) - s.number = omega (arith, f, e) in q) i))

-- ---- the first that isn't above a row
pub rising_up : (seats : List FormulaCell) → IsRising seats → IsNonDecreasingBy (λ s. s.row) seats
rising_up [] h i j d le within = absurd (omega arith)
rising_up (s ∷ seats) h zero zero d le within = omega arith
rising_up (s ∷ seats) h zero (suc j) d le within = let k = all_at (λ t. s.row < t.row) seats j d h.0 (omega arith) in omega (arith, k)
rising_up (s ∷ seats) h (suc i) zero d le within = absurd (omega arith)
rising_up (s ∷ seats) h (suc i) (suc j) d le within = rising_up seats h.1 i j d (omega arith) (omega arith)

pub above_point : (seats : List FormulaCell) (row i : ℕ) → i ≤ length seats → ((k : ℕ) (d : FormulaCell) → k < i → (get_or seats k d).row < row) → ((k : ℕ) (d : FormulaCell) → i ≤ k → k < length seats → row ≤ (get_or seats k d).row) → i ≡ seats_above row seats
above_point [] row i l below above = omega arith
above_point (s ∷ seats) row zero l below above =
    let h = above 0 s (omega arith) (omega arith) in
    let t : nat_lt s.row row ≡ false = grind (arith, nat_tests) in
    sym (ap (λ b. cond b (suc (seats_above row seats)) 0) t)
above_point (s ∷ seats) row (suc i) l below above =
    let h = below 0 s (omega arith) in
    let t : nat_lt s.row row ≡ true = grind (arith, nat_tests) in
    ap suc (above_point seats row i (omega arith) (λ k d m. below (suc k) d (omega arith)) (λ k d m n. above (suc k) d (omega arith) (omega arith)))
    ∙ sym (ap (λ b. cond b (suc (seats_above row seats)) 0) t)

-- ---- the number under a row
pub under_push : (seats : List FormulaCell) (t : FormulaCell) (row : ℕ) → AllByRecursion (λ s. s.row < t.row) seats → number_under (seats ++ t ∷ []) row ≡ cond (nat_eq t.row row) (Some t.number) (number_under seats row)
under_push [] t row h = refl
under_push (s ∷ seats) t row h = by_test (nat_eq s.row row) refl (under_push seats t row h.1)
  where
    by_test : (b : Bool) → nat_eq s.row row ≡ b → number_under (seats ++ t ∷ []) row ≡ cond (nat_eq t.row row) (Some t.number) (number_under seats row) →
        cond b (Some s.number) (number_under (seats ++ t ∷ []) row) ≡ cond (nat_eq t.row row) (Some t.number) (cond b (Some s.number) (number_under seats row))
    by_test true e r =
        let below = h.0 in
        let other : nat_eq t.row row ≡ false = grind (arith, nat_tests) in
        sym (ap (λ b. cond b (Some t.number) (Some s.number)) other)
    by_test false e r = r

pub all_below : (seats : List FormulaCell) (row : ℕ) → ((r n : ℕ) → number_under seats r ≡ Some n → r < row) → AllByRecursion (λ s. s.row < row) seats
all_below [] row h = tt
all_below (s ∷ seats) row h = (h s.row s.number (here s.row refl), all_below seats row (λ r n e. by_test r n e (nat_eq s.row r) refl))
  where
    here : (r : ℕ) → s.row ≡ r → number_under (s ∷ seats) r ≡ Some s.number
    here r e = let t : nat_eq s.row r ≡ true = grind (arith, nat_tests) in ap (λ b. cond b (Some s.number) (number_under seats r)) t

    by_test : (r n : ℕ) → number_under seats r ≡ Some n → (b : Bool) → nat_eq s.row r ≡ b → r < row
    by_test r n e true t = h r s.number (ap (λ b. cond b (Some s.number) (number_under seats r)) t)
    by_test r n e false t = h r n (ap (λ b. cond b (Some s.number) (number_under seats r)) t ∙ e)

-- ---- which numbers stand between two rows
module _ (bottom d : ℕ) where
  under_above : (seats : List FormulaCell) (low r : ℕ) → AllByRecursion (λ s. low < s.row) seats → number_under seats r ≡ Some d → low < r
  under_above [] low r h e = absurd (let q : None ≡ Some d = e in cc)
  under_above (s ∷ seats) low r h e = by_test (nat_eq s.row r) refl e (λ f. under_above seats low r h.1 f)
    where
      by_test : (b : Bool) → nat_eq s.row r ≡ b → cond b (Some s.number) (number_under seats r) ≡ Some d → (number_under seats r ≡ Some d → low < r) → low < r
      by_test true t f g = let k = h.0 in grind (arith, nat_tests)
      by_test false t f g = g f

  before_there : (seats : List FormulaCell) (low : ℕ) → IsRising seats → AllByRecursion (λ s. low ≤ s.row) seats → IsIn d (numbers_above bottom seats) → (r : ℕ) × (low ≤ r) × (r < bottom) × (number_under seats r ≡ Some d)
  before_there [] low h k i = absurd i
  before_there (s ∷ seats) low h k i = by_test (nat_lt s.row bottom) refl i (before_there seats (suc s.row) h.1 (all_weaker seats (λ t p. omega arith) h.0))
    where
      same : (r : ℕ) → s.row ≡ r → number_under (s ∷ seats) r ≡ Some s.number
      same r e = let t : nat_eq s.row r ≡ true = grind (arith, nat_tests) in ap (λ b. cond b (Some s.number) (number_under seats r)) t

      other : (r : ℕ) → s.row < r → number_under (s ∷ seats) r ≡ number_under seats r
      other r l = let t : nat_eq s.row r ≡ false = grind (arith, nat_tests) in ap (λ b. cond b (Some s.number) (number_under seats r)) t

      by_test : (b : Bool) → nat_lt s.row bottom ≡ b → IsIn d (cond b (s.number ∷ numbers_above bottom seats) []) → (IsIn d (numbers_above bottom seats) → (r : ℕ) × (suc s.row ≤ r) × (r < bottom) × (number_under seats r ≡ Some d)) →
          (r : ℕ) × (low ≤ r) × (r < bottom) × (number_under (s ∷ seats) r ≡ Some d)
      by_test false t j f = absurd j
      by_test true t (inl p) f = (s.row, k.0, grind (arith, nat_tests), same s.row refl ∙ ap Some p)
      by_test true t (inr j) f = let r = f j in let a = r.1 in let b = k.0 in (r.0, omega (arith, a, b), r.2, other r.0 (omega (arith, a)) ∙ r.3)

  before_back : (seats : List FormulaCell) (r : ℕ) → IsRising seats → r < bottom → number_under seats r ≡ Some d → IsIn d (numbers_above bottom seats)
  before_back [] r h l e = absurd (let q : None ≡ Some d = e in cc)
  before_back (s ∷ seats) r h l e = by_test (nat_eq s.row r) refl e (λ q. before_back seats r h.1 l q)
    where
      inside : s.row < bottom → IsIn d (s.number ∷ numbers_above bottom seats) → IsIn d (numbers_above bottom (s ∷ seats))
      inside k i = let t : true ≡ nat_lt s.row bottom = grind (arith, nat_tests) in subst (λ b. IsIn d (cond b (s.number ∷ numbers_above bottom seats) [])) t i

      by_test : (b : Bool) → nat_eq s.row r ≡ b → cond b (Some s.number) (number_under seats r) ≡ Some d → (number_under seats r ≡ Some d → IsIn d (numbers_above bottom seats)) → IsIn d (numbers_above bottom (s ∷ seats))
      by_test true t f g = inside (grind (arith, nat_tests)) (inl (let q : s.number ≡ d = cc in q))
      by_test false t f g = let m = under_above seats s.row r h.0 f in inside (omega (arith, l, m)) (inr (g f))

  module _ (top : ℕ) where
    pub between_there : (seats : List FormulaCell) → IsRising seats → IsIn d (numbers_above bottom (drop (seats_above top seats) seats)) → (r : ℕ) × (top ≤ r) × (r < bottom) × (number_under seats r ≡ Some d)
    between_there [] h i = absurd i
    between_there (s ∷ seats) h i = by_test (nat_lt s.row top) refl i (between_there seats h.1)
      where
        other : (r : ℕ) → s.row < r → number_under (s ∷ seats) r ≡ number_under seats r
        other r l = let t : nat_eq s.row r ≡ false = grind (arith, nat_tests) in ap (λ b. cond b (Some s.number) (number_under seats r)) t

        by_test : (b : Bool) → nat_lt s.row top ≡ b → IsIn d (numbers_above bottom (drop (cond b (suc (seats_above top seats)) 0) (s ∷ seats))) →
            (IsIn d (numbers_above bottom (drop (seats_above top seats) seats)) → (r : ℕ) × (top ≤ r) × (r < bottom) × (number_under seats r ≡ Some d)) → (r : ℕ) × (top ≤ r) × (r < bottom) × (number_under (s ∷ seats) r ≡ Some d)
        by_test true t j f =
            let r = f j in
            let a = r.1 in
            let l : s.row < top = grind (arith, nat_tests) in
            (r.0, r.1, r.2, other r.0 (omega (arith, a, l)) ∙ r.3)
        by_test false t j f =
            let l : top ≤ s.row = grind (arith, nat_tests) in
            before_there (s ∷ seats) top h (l, all_weaker seats (λ u p. omega (arith, p, l)) h.0) j

    pub between_back : (seats : List FormulaCell) (r : ℕ) → IsRising seats → top ≤ r → r < bottom → number_under seats r ≡ Some d → IsIn d (numbers_above bottom (drop (seats_above top seats) seats))
    between_back [] r h k l e = absurd (let q : None ≡ Some d = e in cc)
    between_back (s ∷ seats) r h k l e = by_test (nat_lt s.row top) refl (between_back seats r h.1 k l)
      where
        other : s.row < r → number_under seats r ≡ Some d
        other m = let t : nat_eq s.row r ≡ false = grind (arith, nat_tests) in sym (ap (λ b. cond b (Some s.number) (number_under seats r)) t) ∙ e

        by_test : (b : Bool) → nat_lt s.row top ≡ b → (number_under seats r ≡ Some d → IsIn d (numbers_above bottom (drop (seats_above top seats) seats))) → IsIn d (numbers_above bottom (drop (cond b (suc (seats_above top seats)) 0) (s ∷ seats)))
        by_test true t f = let m : s.row < top = grind (arith, nat_tests) in f (other (omega (arith, m, k)))
        by_test false t f = before_back (s ∷ seats) r h l e

-- ---- columns
pub rising_at : (columns : List (List FormulaCell)) (col : ℕ) → AllByRecursion IsRising columns → IsRising (column_at columns col)
rising_at [] col h = tt
rising_at (c ∷ columns) zero h = h.0
rising_at (c ∷ columns) (suc col) h = rising_at columns col h.1

pub no_columns : (count col : ℕ) → column_at (replicate count []) col ≡ []
no_columns zero col = refl
no_columns (suc count) zero = refl
no_columns (suc count) (suc col) = no_columns count col

pub no_rising : (count : ℕ) → AllByRecursion IsRising (replicate count [])
no_rising zero = tt
no_rising (suc count) = (tt, no_rising count)

pub all_below_none : (seats : List FormulaCell) → AllByRecursion (λ s. s.row < 0) seats → seats ≡ []
all_below_none [] h = refl
all_below_none (s ∷ seats) h = absurd (let l = h.0 in omega (arith, l))
