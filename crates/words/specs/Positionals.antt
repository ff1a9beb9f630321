-- Words by their places.
use Rattle.std.specs.Prelude.{ℕ, ◌≡◌, ◌==◌, not, Bool, true, false, List, [], ◌∷◌, codes, Option, Some, None}
use Rattle.std.specs.Str.{bytes_eq}
use Rattle.clap.specs.Simple.{App, new_app, new_rule, with_rule, on_top}
use Rattle.words.specs.Calls.{number_of_word}

-- it doesn't begin with `-`, as an option does
abbrev pub is_no_option : List ℕ → Bool
is_no_option [] = true
is_no_option (b ∷ bs) = not (b == 45)

-- it is no word of any call
abbrev pub IsForeign : List ℕ → Type 0
IsForeign word = (bytes_eq word (codes "load") ≡ false) × (number_of_word word ≡ None)

-- the words are those two, of which the second or both may be missing
abbrev pub AreGiven : List (List ℕ) → Option (List ℕ) → Option (List ℕ) → Type 0
AreGiven [] first second = (first ≡ None) × (second ≡ None)
AreGiven (a ∷ []) first second = (first ≡ Some a) × (second ≡ None)
AreGiven (a ∷ b ∷ []) first second = (first ≡ Some a) × (second ≡ Some b)
AreGiven (a ∷ b ∷ c ∷ rest) first second = ⊥

-- the command line as `clap` knows it: two words by their places, and no option
abbrev pub command_line : App
command_line =
    with_rule (with_rule (on_top (λ s. record s { no_binary_name = true; disable_help_flag = true }) (new_app (codes "sheetshare"))) (new_rule (codes "name"))) (new_rule (codes "number"))
