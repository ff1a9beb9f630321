-- columns and their letters
use Rattle.std.proofs.Common.{◌≡◌, ℕ, ◌+◌, ◌-◌, ◌*◌, ◌/◌, ◌%◌, ◌<◌, ◌≤◌, Bool, true, false, List, [], ◌∷◌, length, take, refl, ap, arith, ◌∙◌, nat_lt, slice_set, Some}
use Rattle.std.specs.Char.{is_ascii_alphabetic}
use Rattle.std.proofs.lemmas.Bool.Decides.{nat_tests}
use Rattle.std.proofs.lemmas.Bool.{lt-ltb, ltb-true}
use Rattle.std.proofs.Math.Nat.{div-div-eq-div-mul}
use Rattle.cell_addr.specs.Columns.{alphabet_place, col_named, letter_at, letters}

-- bytes written at the front of a list
pub take-1-put : (out : List ℕ) (x : ℕ) → 1 ≤ length out → take 1 (slice_set out 0 x) ≡ x ∷ []
take-1-put [] x h = absurd (omega arith)
take-1-put (o ∷ out) x h = refl

pub take-2-put : (out : List ℕ) (x y : ℕ) → 2 ≤ length out → take 2 (slice_set (slice_set out 0 x) 1 y) ≡ x ∷ y ∷ []
take-2-put [] x y h = absurd (omega arith)
take-2-put (o ∷ []) x y h = absurd (omega arith)
take-2-put (o ∷ p ∷ out) x y h = refl

pub take-3-put : (out : List ℕ) (x y z : ℕ) → 3 ≤ length out → take 3 (slice_set (slice_set (slice_set out 0 x) 1 y) 2 z) ≡ x ∷ y ∷ z ∷ []
take-3-put [] x y z h = absurd (omega arith)
take-3-put (o ∷ []) x y z h = absurd (omega arith)
take-3-put (o ∷ p ∷ []) x y z h = absurd (omega arith)
take-3-put (o ∷ p ∷ q ∷ out) x y z h = refl

-- the letters of a column, by their number
pub letters_1 : (col : ℕ) → col < 26 → letters col ≡ letter_at col ∷ []
letters_1 col h = rw (lt-ltb col 26 h)

pub letters_2 : (col : ℕ) → 26 ≤ col → col < 702 → letters col ≡ letter_at ((col - 26) / 26) ∷ letter_at ((col - 26) % 26) ∷ []
letters_2 col h k = let t : nat_lt col 26 ≡ false = grind (arith, nat_tests) in rw (t, lt-ltb col 702 k)

pub letters_3 : (col : ℕ) → 702 ≤ col → letters col ≡ letter_at ((col - 702) / 676) ∷ letter_at ((col - 702) / 26 % 26) ∷ letter_at ((col - 702) % 26) ∷ []
letters_3 col h =
    let t : nat_lt col 26 ≡ false = grind (arith, nat_tests) in
    let u : nat_lt col 702 ≡ false = grind (arith, nat_tests) in
    rw (t, u)

-- a letter of the alphabet
pub is_letter-letter_at : (p : ℕ) → p < 26 → is_ascii_alphabetic (letter_at p) ≡ true
is_letter-letter_at p h = grind (arith, nat_tests)

pub place-letter_at : (p : ℕ) → p < 26 → alphabet_place (letter_at p) ≡ p
place-letter_at p h = grind (arith, nat_tests)

named_1 : (p : ℕ) → p < 26 → col_named (letter_at p ∷ []) ≡ Some p
named_1 p h = rw (is_letter-letter_at p h, place-letter_at p h)

named_2 : (p q : ℕ) → p < 26 → q < 26 → col_named (letter_at p ∷ letter_at q ∷ []) ≡ Some (26 + p * 26 + q)
named_2 p q h k = rw (is_letter-letter_at p h, is_letter-letter_at q k, place-letter_at p h, place-letter_at q k)

named_3 : (p q r : ℕ) → p < 26 → q < 26 → r < 26 → col_named (letter_at p ∷ letter_at q ∷ letter_at r ∷ []) ≡ Some (702 + p * 676 + q * 26 + r)
named_3 p q r h k l =
    rw (is_letter-letter_at p h, is_letter-letter_at q k, is_letter-letter_at r l, place-letter_at p h, place-letter_at q k, place-letter_at r l)

-- the letters of a column name it
by_size : (col : ℕ) → col < 18278 → (one two : Bool) → nat_lt col 26 ≡ one → nat_lt col 702 ≡ two → col_named (letters col) ≡ Some col
by_size col h true two e f = let k : col < 26 = ltb-true col 26 e in rw (letters_1 col k) (named_1 col k)
by_size col h false true e f =
    let low : 26 ≤ col = grind (arith, nat_tests) in
    let k : col < 702 = ltb-true col 702 f in
    rw (letters_2 col low k) (named_2 ((col - 26) / 26) ((col - 26) % 26) (omega arith) (omega arith) ∙ ap Some (omega arith))
by_size col h false false e f =
    let low : 702 ≤ col = grind (arith, nat_tests) in
    let split : (col - 702) / 26 / 26 ≡ (col - 702) / 676 = div-div-eq-div-mul (col - 702) 26 26 in
    rw (letters_3 col low)
    (named_3 ((col - 702) / 676) ((col - 702) / 26 % 26) ((col - 702) % 26) (omega arith) (omega arith) (omega arith) ∙ ap Some (omega arith))

pub col_named-letters : (col : ℕ) → col < 18278 → col_named (letters col) ≡ Some col
col_named-letters col h = by_size col h (nat_lt col 26) (nat_lt col 702) refl refl
