-- Counting the items that pass a test.
use Rattle.std.proofs.Common.{◌≡◌, ℕ, ◌+◌, ◌<◌, ◌≤◌, Bool, true, false, List, [], ◌∷◌, ◌++◌, length, take, get_or, refl, sym, ap, ◌∙◌, count_by, cond, add-zero, arith}
use Rattle.std.specs.Prelude.{flat_map, slice_get, Some}
use Rattle.std.proofs.lemmas.Option.{slice_get_within, get_or_from_slice_get}
use mir.Val.{bool_byte}
use Rattle.std.proofs.lemmas.List.{take_more, append-nil}
use Rattle.std.proofs.lemmas.List.Concat.{flat_map-cons}
use Rattle.std.proofs.lemmas.Grind.{flat_map-append}
use Rattle.std.proofs.lemmas.List.Sums.{count_by_more_yes, count_by_more_no, sum_by-append}

by_test : (t : Bool) (n m : ℕ) → (t ≡ true → m ≡ n + 1) → (t ≡ false → m ≡ n) → n + cond t 1 0 ≡ m
by_test true n m passes fails = sym (passes refl)
by_test false n m passes fails = add-zero n ∙ sym (fails refl)

-- one more item
pub count-next : {A : Type 0} (p : A → Bool) (xs : List A) (i : ℕ) (x : A) → slice_get xs i ≡ Some x → count_by p (take i xs) + cond (p x) 1 0 ≡ count_by p (take (i + 1) xs)
count-next p xs i x this =
    let inside = slice_get_within xs i x this in
    let here = get_or_from_slice_get xs i x x this in
    by_test (p x) (count_by p (take i xs)) (count_by p (take (i + 1) xs))
    (λ e. count_by_more_yes p xs i x inside (ap p here ∙ e))
    (λ e. count_by_more_no p xs i x inside (ap p here ∙ e))

pub test-le : (t : Bool) → cond t 1 0 ≤ 1
test-le true = omega arith
test-le false = omega arith

pub test-byte : (t : Bool) → bool_byte t ≡ cond t 1 0
test-byte true = refl
test-byte false = refl

-- the items of one more argument
pub count-next_list : {A B : Type 0} (p : B → Bool) (f : A → List B) (xs : List A) (i : ℕ) (x : A) → i < length xs → x ≡ get_or xs i x →
    count_by p (flat_map f (take i xs)) + count_by p (f x) ≡ count_by p (flat_map f (take (i + 1) xs))
count-next_list {A} {B} p f xs i x inside this =
    sym (ap (λ (ys : List A). count_by p (flat_map f ys)) (take_more xs i x inside ∙ ap (λ (y : A). take i xs ++ y ∷ []) (sym this))
    ∙ (ap (λ (bs : List B). count_by p bs) (flat_map-append f (take i xs) (x ∷ []))
    ∙ (sum_by-append (λ b. cond (p b) 1 0) (flat_map f (take i xs)) (flat_map f (x ∷ []))
    ∙ ap (λ (bs : List B). count_by p (flat_map f (take i xs)) + count_by p bs) (flat_map-cons f x [] ∙ append-nil (f x)))))
