-- Words, the spaces between them, and which texts are words.
use Rattle.std.proofs.Common.{◌≡◌, ℕ, Bool, true, false, cond, List, [], ◌∷◌, drop, suc, ◌+◌, refl, ap, subst, ◌∙◌, arith, Option, Some, None}
use Rattle.std.specs.Prelude.{nat_eq, ◌&&◌}
use Rattle.std.specs.Char.{is_ascii_alphabetic, is_ascii_digit}
use Rattle.std.specs.List.{list_all, onto_first, prefix_len}
use Rattle.std.proofs.lemmas.Bool.Decides.{nat_tests}
use Rattle.ss_base.specs.declared.types.Spot.{Spot}
use Rattle.cell_addr.specs.Cells.{cell_of, spot_of, past_dollar, past_letters}
use Rattle.cell_addr.specs.Rows.{is_count, row_numbered}
use Rattle.script_read.specs.Words.{is_space, words}
use Rattle.script_read.specs.Commands.{plain_cell}
use Rattle.script_read.specs.Grammar.{IsWord, two, three}

pub left : (a b : Bool) → (a && b) ≡ true → a ≡ true
left true b h = refl
left false b h = h

pub right : (a b : Bool) → (a && b) ≡ true → b ≡ true
right true b h = h
right false b h = absurd (cc)

-- ---- the words of a text

at_by : (x : ℕ) (a rest : List ℕ) (t : Bool) → is_space x ≡ t → IsWord (x ∷ a) → (IsWord a → words (two a rest) ≡ a ∷ words rest) →
    words (two (x ∷ a) rest) ≡ (x ∷ a) ∷ words rest
at_by x a rest true e h more = absurd (let k = rw e at h in cc)
at_by x a rest false e h more = let k = rw e at h in rw (e, more k)

pub words_two : (a rest : List ℕ) → IsWord a → words (two a rest) ≡ a ∷ words rest
words_two [] rest h = refl
words_two (x ∷ a) rest h = at_by x a rest (is_space x) refl h (words_two a rest)

alone_by : (x : ℕ) (a : List ℕ) (t : Bool) → is_space x ≡ t → IsWord (x ∷ a) → (IsWord a → words a ≡ a ∷ []) → words (x ∷ a) ≡ (x ∷ a) ∷ []
alone_by x a true e h more = absurd (let k = rw e at h in cc)
alone_by x a false e h more = let k = rw e at h in rw (e, more k)

pub words_one : (a : List ℕ) → IsWord a → words a ≡ a ∷ []
words_one [] h = refl
words_one (x ∷ a) h = alone_by x a (is_space x) refl h (words_one a)

pub words_three : (a b rest : List ℕ) → IsWord a → IsWord b → words (three a b rest) ≡ a ∷ b ∷ words rest
words_three a b rest h k = words_two a (two b rest) h ∙ ap (λ (ws : List (List ℕ)). a ∷ ws) (words_two b rest k)

-- each is a word
abbrev pub EachWord : List (List ℕ) → Type 0
EachWord [] = Unit {0}
EachWord (w ∷ ws) = IsWord w × EachWord ws

longer : (x : ℕ) (ws : List (List ℕ)) → is_space x ≡ false → EachWord ws → EachWord (onto_first x ws)
longer x [] e h = (rw e, tt)
longer x (w ∷ ws) e h = (rw (e, h.0), h.1)

words_by : (x : ℕ) (xs : List ℕ) (t : Bool) → is_space x ≡ t → EachWord (words xs) → EachWord (cond t ([] ∷ words xs) (onto_first x (words xs)))
words_by x xs true e h = (refl, h)
words_by x xs false e h = longer x (words xs) e h

pub words_are : (line : List ℕ) → EachWord (words line)
words_are [] = (refl, tt)
words_are (x ∷ xs) = words_by x xs (is_space x) refl (words_are xs)

-- ---- a cell's address is a word

digits_by : (x : ℕ) (xs : List ℕ) (t s : Bool) → is_ascii_digit x ≡ t → is_space x ≡ s → list_all is_ascii_digit (x ∷ xs) ≡ true →
    (list_all is_ascii_digit xs ≡ true → IsWord xs) → IsWord (x ∷ xs)
digits_by x xs false s e f h more = absurd (let k = rw e at h in cc)
digits_by x xs true true e f h more = absurd (grind (arith, nat_tests))
digits_by x xs true false e f h more = let k = rw e at h in rw (f, more k)

digits_are : (xs : List ℕ) → list_all is_ascii_digit xs ≡ true → IsWord xs
digits_are [] h = refl
digits_are (x ∷ xs) h = digits_by x xs (is_ascii_digit x) (is_space x) refl refl h (digits_are xs)

numbered_by : (word : List ℕ) (t : Bool) → is_count word ≡ t → (o : Option ℕ) (n : ℕ) → row_numbered word ≡ o → o ≡ Some n → list_all is_ascii_digit word ≡ true
numbered_by word true e o n f h = left _ _ (right _ _ e)
numbered_by word false e o n f h = absurd (cc)

pub number_is_word : (word : List ℕ) (n : ℕ) → row_numbered word ≡ Some n → IsWord word
number_is_word word n h = digits_are word (numbered_by word (is_count word) refl (row_numbered word) n refl h)

drop_more : (n x : ℕ) (xs : List ℕ) → drop (1 + n) (x ∷ xs) ≡ drop n xs
drop_more n x xs = ap (λ k. drop k (x ∷ xs)) (plus n)
  where
    plus : (n : ℕ) → 1 + n ≡ suc n
    plus n = omega arith

letters_by : (x : ℕ) (xs : List ℕ) (t s : Bool) → is_ascii_alphabetic x ≡ t → is_space x ≡ s → IsWord (past_letters (x ∷ xs)) → (IsWord (past_letters xs) → IsWord xs) → IsWord (x ∷ xs)
letters_by x xs true true e f h more = absurd (grind (arith, nat_tests))
letters_by x xs true false e f h more =
    let k = rw e at h in
    rw (f, more (subst IsWord (drop_more (prefix_len is_ascii_alphabetic xs) x xs) k))
letters_by x xs false s e f h more = rw e at h

behind_letters : (xs : List ℕ) → IsWord (past_letters xs) → IsWord xs
behind_letters [] h = refl
behind_letters (x ∷ xs) h = letters_by x xs (is_ascii_alphabetic x) (is_space x) refl refl h (behind_letters xs)

dollar_by : (x : ℕ) (xs : List ℕ) (t s : Bool) → nat_eq x 36 ≡ t → is_space x ≡ s → IsWord (cond t xs (x ∷ xs)) → IsWord (x ∷ xs)
dollar_by x xs true true e f h = absurd (grind (arith, nat_tests))
dollar_by x xs true false e f h = rw (f, h)
dollar_by x xs false s e f h = h

behind_dollar : (xs : List ℕ) → IsWord (past_dollar xs) → IsWord xs
behind_dollar [] h = refl
behind_dollar (x ∷ xs) h = dollar_by x xs (nat_eq x 36) (is_space x) refl refl h

row_in : (a b : Bool) (col row : Option ℕ) (spot : Spot) → spot_of a col b row ≡ Some spot → (n : ℕ) × (row ≡ Some n)
row_in a b None row spot h = absurd (cc)
row_in a b (Some col) None spot h = absurd (cc)
row_in a b (Some col) (Some row) spot h = (row, refl)

cell_in : (o : Option Spot) (spot : Spot) → plain_cell o ≡ Some spot → (s : Spot) × (o ≡ Some s)
cell_in None spot h = absurd (cc)
cell_in (Some s) spot h = (s, refl)

pub cell_is_word : (text : List ℕ) (spot : Spot) → plain_cell (cell_of text) ≡ Some spot → IsWord text
cell_is_word text spot h =
    let (s, e) = cell_in (cell_of text) spot h in
    let (n, f) = row_in _ _ _ _ s e in
    behind_dollar text (behind_letters (past_dollar text) (behind_dollar (past_letters (past_dollar text)) (number_is_word (past_dollar (past_letters (past_dollar text))) n f)))
