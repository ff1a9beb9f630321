-- The longest front with which a number in range begins.
use Rattle.std.proofs.Common.{◌≡◌, ℕ, zero, suc, ◌+◌, ◌-◌, ◌^◌, ◌<◌, ◌≤◌, Bool, true, false, List, [], ◌∷◌, length, take, refl, ap, ◌∙◌, subst, arith, None}
use Rattle.std.specs.Prelude.{◌&&◌, ◌||◌, nat_eq, nat_lt, nat_le, is_some}
use Rattle.std.specs.Char.{is_ascii_digit}
use Rattle.std.specs.List.{list_all}
use Rattle.std.specs.Str.Parse.{digits_value}
use Rattle.std.proofs.lemmas.Bool.Decides.{nat_tests}
use Rattle.std.proofs.lemmas.Str.Parse.{digits_value-take-le}
use Rattle.std.proofs.lemmas.List.{take-take}
use Rattle.sheet_ops.specs.Numerals.{are_digits}
use Rattle.author_ops.specs.Numbers.{signed_number, number_after, entered_number, begins_number, longest_front, number_front}

-- the longest front is the one behind which none passes
longest_is : (test : List ℕ → Bool) (bs : List ℕ) (p n : ℕ) → p ≤ n → test (take p bs) ≡ true → ((q : ℕ) → p < q → q ≤ n → test (take q bs) ≡ false) → p ≡ longest_front test bs n
longest_is test bs zero zero h here past = refl
longest_is test bs (suc p) zero h here past = absurd (omega arith)
longest_is test bs p (suc n) h here past = by_last (nat_eq p (suc n)) refl (λ k. longest_is test bs p n k here (λ q low high. past q low (omega arith)))
  where
    by_last : (t : Bool) → nat_eq p (suc n) ≡ t → (p ≤ n → p ≡ longest_front test bs n) → p ≡ longest_front test bs (suc n)
    by_last true e rest =
        let same : p ≡ suc n = grind (arith, nat_tests) in
        let passes : test (take (suc n) bs) ≡ true = subst (λ (k : ℕ). test (take k bs) ≡ true) same here in
        rw passes same
    by_last false e rest =
        let fewer : p ≤ n = grind (arith, nat_tests) in
        let fails : test (take (suc n) bs) ≡ false = past (suc n) (omega arith) (omega arith) in
        rw fails (rest fewer)

pub by_not : {m n : ℕ} → (m ≤ n → ⊥) → n < m
by_not h = omega (arith, h)

-- ---- numbers by their size
abbrev pub most : Bool → ℕ
most true = 2 ^ 63
most false = 2 ^ 63 - 1

signed_in : (minus : Bool) (v : ℕ) → v ≤ most minus → is_some (signed_number minus v) ≡ true
signed_in true v h = let t : nat_le v (2 ^ 63) ≡ true = grind (arith, nat_tests) in rw t refl
signed_in false v h = let t : nat_lt v (2 ^ 63) ≡ true = grind (arith, nat_tests) in rw t refl

signed_out : (minus : Bool) (v : ℕ) → most minus < v → signed_number minus v ≡ None
signed_out true v h = let t : nat_le v (2 ^ 63) ≡ false = grind (arith, nat_tests) in rw t refl
signed_out false v h = let t : nat_lt v (2 ^ 63) ≡ false = grind (arith, nat_tests) in rw t refl

are_digits-some : (ds : List ℕ) → 0 < length ds → list_all is_ascii_digit ds ≡ true → are_digits ds ≡ true
are_digits-some [] some h = absurd (omega arith)
are_digits-some (d ∷ ds) some h = h

pub digits_of : (ds : List ℕ) → are_digits ds ≡ true → (0 < length ds) × (list_all is_ascii_digit ds ≡ true)
digits_of [] h = absurd (cc)
digits_of (d ∷ ds) h = (omega arith, h)

-- the number that digits say behind a sign
pub after_is : (minus : Bool) (ds : List ℕ) → are_digits ds ≡ true → number_after minus ds ≡ signed_number minus (digits_value 10 ds)
after_is minus ds h = rw h refl

front_digits : (q : ℕ) (ds : List ℕ) → list_all is_ascii_digit ds ≡ true → list_all is_ascii_digit (take q ds) ≡ true
front_digits zero ds h = refl
front_digits (suc q) [] h = refl
front_digits (suc q) (d ∷ ds) h = by_first (is_ascii_digit d) (front_digits q ds) h
  where
    by_first : (t : Bool) → (list_all is_ascii_digit ds ≡ true → list_all is_ascii_digit (take q ds) ≡ true) → (t && list_all is_ascii_digit ds) ≡ true → (t && list_all is_ascii_digit (take q ds)) ≡ true
    by_first true rest e = rest e
    by_first false rest e = absurd (cc)

front_length : (q : ℕ) (ds : List ℕ) → q ≤ length ds → length (take q ds) ≡ q
front_length zero ds h = refl
front_length (suc q) [] h = absurd (omega arith)
front_length (suc q) (d ∷ ds) h = ap suc (front_length q ds (omega arith))

front_value : (ds : List ℕ) (m q : ℕ) → m ≤ q → q ≤ length ds → digits_value 10 (take m ds) ≤ digits_value 10 (take q ds)
front_value ds m q h k =
    let long = front_length q ds k in
    let below = digits_value-take-le 10 (take q ds) m (omega (arith, long)) in
    subst (λ (xs : List ℕ). digits_value 10 xs ≤ digits_value 10 (take q ds)) (take-take m q ds h) below

-- ---- fronts of digits behind a sign
module _ (minus : Bool) (ds : List ℕ) (digits : list_all is_ascii_digit ds ≡ true) (n : ℕ) (few : n < length ds) (low : digits_value 10 (take n ds) ≤ most minus) (high : most minus < digits_value 10 (take (n + 1) ds)) where
  front_after : (q : ℕ) → 0 < q → q ≤ length ds → number_after minus (take q ds) ≡ signed_number minus (digits_value 10 (take q ds))
  front_after q some within =
      let long = front_length q ds within in
      after_is minus (take q ds) (are_digits-some (take q ds) (omega (arith, long)) (front_digits q ds digits))

  after_in : 0 < n → is_some (number_after minus (take n ds)) ≡ true
  after_in some = rw (front_after n some (omega arith)) (signed_in minus (digits_value 10 (take n ds)) low)

  after_out : (q : ℕ) → n < q → q ≤ length ds → number_after minus (take q ds) ≡ None
  after_out q more within =
      let above = front_value ds (n + 1) q (omega arith) within in
      rw (front_after q (omega arith) within) (signed_out minus (digits_value 10 (take q ds)) (omega (arith, above, high)))

whole_front : (xs : List ℕ) → take (length xs) xs ≡ xs
whole_front [] = refl
whole_front (x ∷ xs) = ap (λ (ys : List ℕ). x ∷ ys) (whole_front xs)

-- behind a minus
module _ (ds : List ℕ) (digits : list_all is_ascii_digit ds ≡ true) (n : ℕ) (few : n < length ds) (low : digits_value 10 (take n ds) ≤ 2 ^ 63) (high : 2 ^ 63 < digits_value 10 (take (n + 1) ds)) where
  begins_minus : (q : ℕ) → begins_number (45 ∷ take q ds) ≡ (nat_eq (length (take q ds)) 0 || is_some (number_after true (take q ds)))
  begins_minus q = refl

  pub minus_outside : entered_number (45 ∷ ds) ≡ None
  minus_outside = subst (λ (xs : List ℕ). number_after true xs ≡ None) (whole_front ds) (after_out true ds digits n few low high (length ds) few (omega arith))

  pub minus_front : n + 1 ≡ number_front (45 ∷ ds)
  minus_front = longest_is begins_number (45 ∷ ds) (n + 1) (length (45 ∷ ds)) (omega arith) (here n few low) past
    where
      one_more : (k : ℕ) → take (k + 1) (45 ∷ ds) ≡ 45 ∷ take k ds
      one_more k = ap (λ (j : ℕ). take j (45 ∷ ds)) (let e : k + 1 ≡ suc k = omega arith in e)

      here : (k : ℕ) → k < length ds → digits_value 10 (take k ds) ≤ 2 ^ 63 → begins_number (take (k + 1) (45 ∷ ds)) ≡ true
      here zero h l = refl
      here (suc k) h l =
          let long = front_length (suc k) ds (omega arith) in
          let some = after_is true (take (suc k) ds) (are_digits-some (take (suc k) ds) (omega (arith, long)) (front_digits (suc k) ds digits)) in
          let yes : is_some (number_after true (take (suc k) ds)) ≡ true = rw some (signed_in true (digits_value 10 (take (suc k) ds)) l) in
          rw (one_more (suc k)) (rw yes (either (nat_eq (length (take (suc k) ds)) 0)))
        where
          either : (b : Bool) → (b || true) ≡ true
          either true = refl
          either false = refl

      past : (q : ℕ) → n + 1 < q → q ≤ length (45 ∷ ds) → begins_number (take q (45 ∷ ds)) ≡ false
      past zero h k = absurd (omega arith)
      past (suc q) h k =
          let none = after_out true ds digits n few low high q (omega arith) (omega arith) in
          let long = front_length q ds (omega arith) in
          let long_enough : nat_eq (length (take q ds)) 0 ≡ false = grind (arith, nat_tests, long) in
          rw (long_enough, none) refl

-- without one
digit_no_minus : (d : ℕ) (ds : List ℕ) → list_all is_ascii_digit (d ∷ ds) ≡ true → nat_eq d 45 ≡ false
digit_no_minus d ds h = by_tests (nat_le 48 d) (nat_le d 57) refl h
  where
    by_tests : (a b : Bool) → nat_le 48 d ≡ a → ((a && b) && list_all is_ascii_digit ds) ≡ true → nat_eq d 45 ≡ false
    by_tests true b e f = grind (arith, nat_tests)
    by_tests false b e f = absurd (cc)

pub number_plain : (d : ℕ) (ds : List ℕ) → list_all is_ascii_digit (d ∷ ds) ≡ true → entered_number (d ∷ ds) ≡ number_after false (d ∷ ds)
number_plain d ds h = rw (digit_no_minus d ds h) refl

module _ (ds : List ℕ) (digits : list_all is_ascii_digit ds ≡ true) (n : ℕ) (few : n < length ds) (low : digits_value 10 (take n ds) ≤ 2 ^ 63 - 1) (high : 2 ^ 63 - 1 < digits_value 10 (take (n + 1) ds)) where
  plain : (xs : List ℕ) → list_all is_ascii_digit xs ≡ true → 0 < length xs → begins_number xs ≡ is_some (number_after false xs)
  plain [] h k = absurd (omega arith)
  plain (x ∷ xs) h k = rw (digit_no_minus x xs h) refl

  pub plain_outside : entered_number ds ≡ None
  plain_outside = whole ds digits (omega arith) ∙ subst (λ (xs : List ℕ). number_after false xs ≡ None) (whole_front ds) (after_out false ds digits n few low high (length ds) few (omega arith))
    where
      whole : (xs : List ℕ) → list_all is_ascii_digit xs ≡ true → 0 < length xs → entered_number xs ≡ number_after false xs
      whole [] h k = absurd (omega arith)
      whole (x ∷ xs) h k = number_plain x xs h

  pub plain_front : n ≡ number_front ds
  plain_front = longest_is begins_number ds n (length ds) (omega arith) (here n few low) past
    where
      here : (k : ℕ) → k < length ds → digits_value 10 (take k ds) ≤ 2 ^ 63 - 1 → begins_number (take k ds) ≡ true
      here zero h l = refl
      here (suc k) h l =
          let long = front_length (suc k) ds (omega arith) in
          let fronts = front_digits (suc k) ds digits in
          let some = after_is false (take (suc k) ds) (are_digits-some (take (suc k) ds) (omega (arith, long)) fronts) in
          rw (plain (take (suc k) ds) fronts (omega (arith, long))) (rw some (signed_in false (digits_value 10 (take (suc k) ds)) l))

      past : (q : ℕ) → n < q → q ≤ length ds → begins_number (take q ds) ≡ false
      past q h k =
          let none = after_out false ds digits n few low high q h k in
          let long = front_length q ds k in
          rw (plain (take q ds) (front_digits q ds digits) (omega (arith, long))) (rw none refl)
