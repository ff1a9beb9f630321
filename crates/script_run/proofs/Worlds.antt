-- Pushes and pulls one after another.
use Rattle.std.proofs.Common.{◌≡◌, ℕ, zero, suc, ◌+◌, ◌-◌, ◌<◌, ◌≤◌, List, [], ◌∷◌, ◌++◌, length, take, drop, refl, ap, sym, ◌∙◌, arith, append_assoc, Some, None, Option, min}
use Rattle.std.specs.Prelude.{slice_set, slice_index_or, map, position, nat_lt, not, Bool, true, false, if◌then◌else◌, cond, is_some, ◌||◌}
use Rattle.std.specs.List.{prefix_len, position_or_len, list_any}
use Rattle.std.proofs.lemmas.Bool.Decides.{nat_tests}
use Rattle.std.proofs.lemmas.List.{append-nil, length-map}
use Rattle.std.proofs.Math.Seq.{take-add}
use Rattle.sheet_ops.specs.declared.operation.Entry.{Entry}
use Rattle.sheet_ops.proofs.Overwritten.{set_twice}
use Rattle.script_run.specs.declared.seat.Seat.{Seat}
use Rattle.script_run.specs.World.{World, new_seat, seat_at, put_seat, at_most, pushed, pulled, recalculated, at_each}

module _ {A : Type 0} where
  pub set_back : (xs : List A) (i : ℕ) (d : A) → slice_set xs i (slice_index_or xs i d) ≡ xs
  set_back [] i d = refl
  set_back (x ∷ xs) zero d = refl
  set_back (x ∷ xs) (suc i) d = ap (λ (ys : List A). x ∷ ys) (set_back xs i d)

  pub at_set : (xs : List A) (i : ℕ) (x d : A) → i < length xs → slice_index_or (slice_set xs i x) i d ≡ x
  at_set [] i x d h = absurd (omega arith)
  at_set (y ∷ xs) zero x d h = refl
  at_set (y ∷ xs) (suc i) x d h = at_set xs i x d (omega arith)

  pub length-set : (xs : List A) (i : ℕ) (x : A) → length (slice_set xs i x) ≡ length xs
  length-set [] i x = refl
  length-set (y ∷ xs) zero x = refl
  length-set (y ∷ xs) (suc i) x = ap suc (length-set xs i x)

  drop-nil : (n : ℕ) → drop {A = A} n [] ≡ []
  drop-nil zero = refl
  drop-nil (suc n) = refl

  drop-drop : (m n : ℕ) (xs : List A) → drop (m + n) xs ≡ drop n (drop m xs)
  drop-drop zero n xs = let e : 0 + n ≡ n = omega arith in ap (λ k. drop k xs) e
  drop-drop (suc m) n [] = drop-nil (suc m + n) ∙ sym (drop-nil n)
  drop-drop (suc m) n (x ∷ xs) = let e : suc m + n ≡ suc (m + n) = omega arith in ap (λ k. drop k (x ∷ xs)) e ∙ drop-drop m n xs

module _ (w : World) (p : ℕ) where
  abbrev s : Seat
  s = seat_at w p

  put_again : (x y : Seat) → put_seat (put_seat w p x) p y ≡ put_seat w p y
  put_again x y = ap (λ (ss : List Seat). record w { seats = ss }) (set_twice w.seats p x y)

  seat_put : (x : Seat) → p < length w.seats → seat_at (put_seat w p x) p ≡ x
  seat_put x h = at_set w.seats p x (new_seat []) h

  put_back : put_seat w p s ≡ w
  put_back = ap (λ (ss : List Seat). record w { seats = ss }) (set_back w.seats p (new_seat []))

  -- no entry, and one more
  pub pulled-none : w ≡ pulled w p (Some 0)
  pulled-none = let z : s.taken + min 0 (length w.history - s.taken) ≡ s.taken = omega arith in sym put_back ∙ (λ i. put_seat w p (record s { taken = sym z i }))

  pub pulled-more : (k : ℕ) → p < length w.seats → k < length w.history - s.taken → pulled (pulled w p (Some k)) p (Some 1) ≡ pulled w p (Some (k + 1))
  pulled-more k h more =
      let left = length w.history - s.taken in
      let after : Seat = record s { taken = s.taken + min k left } in
      let count : (s.taken + min k left) + min 1 (length w.history - (s.taken + min k left)) ≡ s.taken + min (k + 1) left = omega (arith, more) in
      (λ i. put_seat (put_seat w p after) p (record (seat_put after h i) { taken = (seat_put after h i).taken + min 1 (length w.history - (seat_put after h i).taken) }))
      ∙ (put_again after (record after { taken = after.taken + min 1 (length w.history - after.taken) }) ∙ (λ i. put_seat w p (record s { taken = count i })))

  pub pulled-all : (most : Option ℕ) → pulled w p (Some (at_most most (length w.history - s.taken))) ≡ pulled w p most
  pulled-all None = let e : min (length w.history - s.taken) (length w.history - s.taken) ≡ length w.history - s.taken = omega arith in λ i. put_seat w p (record s { taken = s.taken + e i })
  pulled-all (Some n) = let left = length w.history - s.taken in let e : min (min n left) left ≡ min n left = omega arith in λ i. put_seat w p (record s { taken = s.taken + e i })

  abbrev after_push : ℕ → World
  after_push k = put_seat (record w { history = w.history ++ take k (drop s.pushed s.made) }) p (record s { pushed = s.pushed + k })

  pub pushed-none : w ≡ pushed w p (Some 0)
  pushed-none =
      let z : s.pushed + 0 ≡ s.pushed = omega arith in
      let none : 0 ≡ min 0 (length s.made - s.pushed) = omega arith in
      sym put_back ∙ ((λ i. put_seat (record w { history = sym (append-nil w.history) i }) p (record s { pushed = sym z i })) ∙ ap after_push none)

  pub pushed-more : (k : ℕ) → p < length w.seats → k < length s.made - s.pushed → pushed (pushed w p (Some k)) p (Some 1) ≡ pushed w p (Some (k + 1))
  pushed-more k h more =
      let left = length s.made - s.pushed in
      let all : min k left ≡ k = omega (arith, more) in
      let next : min (k + 1) left ≡ k + 1 = omega (arith, more) in
      let seat : Seat = record s { pushed = s.pushed + k } in
      let here : seat_at (after_push k) p ≡ seat = at_set w.seats p seat (new_seat []) h in
      let one : min 1 (length s.made - (s.pushed + k)) ≡ 1 = omega (arith, more) in
      let front = take k (drop s.pushed s.made) in
      let joined : (w.history ++ front) ++ take 1 (drop (s.pushed + k) s.made) ≡ w.history ++ take (k + 1) (drop s.pushed s.made) =
      append_assoc w.history front (take 1 (drop (s.pushed + k) s.made))
      ∙ ap (λ (es : List Entry). w.history ++ es) (ap (λ (es : List Entry). front ++ take 1 es) (drop-drop s.pushed k s.made) ∙ sym (take-add k 1 (drop s.pushed s.made))) in
      let count : (s.pushed + k) + 1 ≡ s.pushed + (k + 1) = omega arith in
      ap (λ n. pushed (after_push n) p (Some 1)) all
      ∙ ((λ i. let t = here i in put_seat (record (after_push k) { history = (w.history ++ front) ++ take (min 1 (length t.made - t.pushed)) (drop t.pushed t.made) }) p (record t { pushed = t.pushed + min 1 (length t.made - t.pushed) }))
      ∙ ((λ i. put_seat (record (after_push k) { history = (w.history ++ front) ++ take (one i) (drop (s.pushed + k) s.made) }) p (record s { pushed = (s.pushed + k) + one i }))
      ∙ ((λ i. record w { history = joined i; seats = set_twice w.seats p seat (record s { pushed = count i }) i })
      ∙ ap after_push (sym next))))

  pub pushed-all : (most : Option ℕ) → pushed w p (Some (at_most most (length s.made - s.pushed))) ≡ pushed w p most
  pushed-all None = let e : min (length s.made - s.pushed) (length s.made - s.pushed) ≡ length s.made - s.pushed = omega arith in ap after_push e
  pushed-all (Some n) = let left = length s.made - s.pushed in let e : min (min n left) left ≡ min n left = omega arith in ap after_push e

-- the same of what is published
module _ (w : World) where
  pub recalculated-none : w ≡ recalculated w (Some 0)
  recalculated-none = let z : w.published ≡ w.published + min 0 (length w.history - w.published) = omega arith in λ i. record w { published = z i }

  pub recalculated-more : (k : ℕ) → k < length w.history - w.published → recalculated (recalculated w (Some k)) (Some 1) ≡ recalculated w (Some (k + 1))
  recalculated-more k more =
      let left = length w.history - w.published in
      let count : (w.published + min k left) + min 1 (length w.history - (w.published + min k left)) ≡ w.published + min (k + 1) left = omega (arith, more) in
      λ i. record w { published = count i }

  pub recalculated-all : (most : Option ℕ) → recalculated w (Some (at_most most (length w.history - w.published))) ≡ recalculated w most
  recalculated-all None = let left = length w.history - w.published in let e : min left left ≡ left = omega arith in λ i. record w { published = w.published + e i }
  recalculated-all (Some n) = let left = length w.history - w.published in let e : min (min n left) left ≡ min n left = omega arith in λ i. record w { published = w.published + e i }

-- one place more
pub at_each-more : (does : World → ℕ → World) (first count : ℕ) (w : World) → does (at_each does first count w) (first + count) ≡ at_each does first (count + 1) w
at_each-more does first zero w = let z : first + 0 ≡ first = omega arith in ap (does w) z
at_each-more does first (suc count) w =
    let e : first + suc count ≡ suc first + count = omega arith in
    let n : suc (count + 1) ≡ suc count + 1 = omega arith in
    ap (does (at_each does (suc first) count (does w first))) e ∙ (at_each-more does (suc first) count (does w first) ∙ ap (λ k. at_each does first k w) n)

pub length-each : (does : World → ℕ → World) → ((v : World) (p : ℕ) → length (does v p).seats ≡ length v.seats) → (first count : ℕ) (w : World) → length (at_each does first count w).seats ≡ length w.seats
length-each does same first zero w = refl
length-each does same first (suc count) w = length-each does same (suc first) count (does w first) ∙ same w first

pub at_most-le : (most : Option ℕ) (left : ℕ) → at_most most left ≤ left
at_most-le None left = omega arith
at_most-le (Some n) left = omega arith

-- the place of a site by its seat, or by its replica
prefix-map : {A B : Type 0} (f : A → B) (test : B → Bool) (xs : List A) → prefix_len test (map f xs) ≡ prefix_len (λ x. test (f x)) xs
prefix-map f test [] = refl
prefix-map f test (x ∷ xs) = ap (λ n. if test (f x) then 1 + n else 0) (prefix-map f test xs)

pub position-map : {A B : Type 0} (f : A → B) (test : B → Bool) (xs : List A) → position test (map f xs) ≡ position (λ x. test (f x)) xs
position-map f test xs =
    let n = prefix-map f (λ y. not (test y)) xs in
    let m = length-map xs f in
    λ i. cond (nat_lt (n i) (m i)) (Some (n i)) None

-- a name is among those of the seats exactly where it has a place
pub position-any : (A : Type 0) (test : A → Bool) (xs : List A) → list_any test xs ≡ is_some (position test xs)
position-any A test xs = by_length xs ∙ (some_or_none (nat_lt (position_or_len test xs) (length xs)))
  where
    by_length : (ys : List A) → list_any test ys ≡ nat_lt (position_or_len test ys) (length ys)
    by_length [] = refl
    by_length (y ∷ ys) = at_first (test y) (by_length ys)
      where
        at_first : (b : Bool) → list_any test ys ≡ nat_lt (position_or_len test ys) (length ys) → b || list_any test ys ≡ nat_lt (cond (not b) (1 + position_or_len test ys) 0) (suc (length ys))
        at_first true h = grind (arith, nat_tests)
        at_first false h = h ∙ grind (arith, nat_tests)

    some_or_none : (b : Bool) → b ≡ is_some (cond b (Some (position_or_len test xs)) None)
    some_or_none true = refl
    some_or_none false = refl
