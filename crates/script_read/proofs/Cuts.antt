-- a text and its first word
use Rattle.std.proofs.Common.{◌≡◌, ℕ, Bool, true, false, cond, ◌+◌, ◌≤◌, ◌<◌, List, [], ◌∷◌, length, take, drop, nat_lt, refl, ◌∙◌, ap, arith, Option, Some, None}
use Rattle.std.specs.List.{slice_split, position_or_len, join_with_byte}
use Rattle.std.specs.Prelude.{position}
use Rattle.std.proofs.lemmas.Bool.{ltb-true}
use Rattle.std.proofs.lemmas.Bool.Decides.{nat_tests}
use Rattle.std.proofs.lemmas.List.Splits.{slice_split_first, length-slice_split, join_with_byte-slice_split}
use Rattle.script_read.specs.Commands.{of_words, of_more_words, sort_of}
use Rattle.script_read.specs.Words.{is_space, words}

-- a list none of whose elements passes isn't cut
whole_by : (p : ℕ → Bool) (x : ℕ) (xs : List ℕ) (t : Bool) → p x ≡ t → length (x ∷ xs) ≤ position_or_len p (x ∷ xs) →
    (length xs ≤ position_or_len p xs → slice_split p xs ≡ xs ∷ []) → slice_split p (x ∷ xs) ≡ (x ∷ xs) ∷ []
whole_by p x xs true e h rest = absurd (let short = rw e at h in omega arith)
whole_by p x xs false e h rest = let below = rw e at h in rw (e, rest (omega arith))

whole : (p : ℕ → Bool) (xs : List ℕ) → length xs ≤ position_or_len p xs → slice_split p xs ≡ xs ∷ []
whole p [] h = refl
whole p (x ∷ xs) h = whole_by p x xs (p x) refl h (whole p xs)

-- where no space stands, and where the first one does
none_by : (text : List ℕ) (t : Bool) → nat_lt (position_or_len is_space text) (length text) ≡ t → cond t (Some (position_or_len is_space text)) None ≡ None → length text ≤ position_or_len is_space text
none_by text true e h = absurd (cc)
none_by text false e h = grind (arith, nat_tests)

pub words_whole : (text : List ℕ) → position is_space text ≡ None → words text ≡ text ∷ []
words_whole text h = whole is_space text (none_by text (nat_lt (position_or_len is_space text) (length text)) refl h)

some_by : (text : List ℕ) (k : ℕ) (t : Bool) → nat_lt (position_or_len is_space text) (length text) ≡ t → cond t (Some (position_or_len is_space text)) None ≡ Some k → (position_or_len is_space text ≡ k) × (position_or_len is_space text < length text)
some_by text k true e h = (cc, ltb-true (position_or_len is_space text) (length text) e)
some_by text k false e h = absurd (cc)

pub words_cut : (text : List ℕ) (k : ℕ) → position is_space text ≡ Some k → words text ≡ take k text ∷ words (drop (k + 1) text)
words_cut text k h =
    let (e, within) = some_by text k (nat_lt (position_or_len is_space text) (length text)) refl h in
    rw e at (slice_split_first is_space text 0 within)

-- a line of more than three words: its entry is what stands behind the third
more_by : (a b c entry : List ℕ) (ws : List (List ℕ)) → words entry ≡ ws → of_words (a ∷ b ∷ c ∷ ws) ≡ of_more_words a b c (join_with_byte 32 ws)
more_by a b c entry [] e = absurd (let none = ap (λ (l : List (List ℕ)). length l) e in let some = length-slice_split is_space entry in omega (arith, none, some))
more_by a b c entry (d ∷ ds) e = refl

pub of_words-more : (a b c entry : List ℕ) → of_words (a ∷ b ∷ c ∷ words entry) ≡ of_more_words a b c entry
of_words-more a b c entry =
    more_by a b c entry (words entry) refl ∙ ap (λ (l : List ℕ). of_more_words a b c l) (join_with_byte-slice_split 32 entry)

pub line_of_more : (line a after_a b after_b c entry : List ℕ) → words line ≡ a ∷ words after_a → words after_a ≡ b ∷ words after_b → words after_b ≡ c ∷ words entry →
    of_words (words line) ≡ of_more_words a b c entry
line_of_more line a after_a b after_b c entry e f g = rw (e, f, g) (of_words-more a b c entry)

-- behind the direction of a sort there is no further word
sort_of-longer : (a b rest : List ℕ) (ws : List (List ℕ)) (name : Option (List ℕ)) (rows : Option (ℕ × ℕ)) → words rest ≡ ws → None ≡ sort_of (a ∷ b ∷ ws) name rows
sort_of-longer a b rest [] name rows e = absurd (let none = ap (λ (l : List (List ℕ)). length l) e in let some = length-slice_split is_space rest in omega (arith, none, some))
sort_of-longer a b rest (d ∷ ds) name rows e = refl

pub sort_of-more : (text a after b rest : List ℕ) (name : Option (List ℕ)) (rows : Option (ℕ × ℕ)) → words text ≡ a ∷ words after → words after ≡ b ∷ words rest → None ≡ sort_of (words text) name rows
sort_of-more text a after b rest name rows e f = rw (e, f) (sort_of-longer a b rest (words rest) name rows refl)
