-- What `clap` makes of words that are no options.
use Rattle.std.proofs.Common.{◌≡◌, ℕ, ◌<◌, ◌&&◌, eqb, not, Bool, true, false, cond, List, [], ◌∷◌, length, refl, ap, sym, ◌∙◌, subst, arith, codes, Option, Some, None, is_some}
use Rattle.std.specs.Prelude.{option_and_then}
use Rattle.std.specs.List.{list_all}
use Rattle.std.specs.Option.{option_map_or}
use Rattle.std.specs.Str.{bytes_eq}
use Rattle.clap.specs.Lexer.{long_of, long_of_rest, short_of, short_of_rest, strip_byte}
use Rattle.clap.specs.Walk.{Held, Row, Rule, Step, Text, Walk, idle, trailing, value, arg_by_index, after_step, finished, first_of, long_or_other, nothing_held, settled, short_or_plain, to_positional, walk, walked, word_met}
use Rattle.clap.specs.Simple.{App, Shape, built, entered, is_simple, matches_of}
use Rattle.clap.specs.Kinds.{IsAmong, Kinds, or_else}
use Rattle.clap.specs.Faults.{bundle_fault, check_fault, defaults_fault, entered_fault, fault_of, flag_word_fault, is_simple_and_free, settle_fault, step_fault, turn_fault, walk_fault, word_fault}
use Rattle.clap.specs.declared.error.kind.ErrorKind.{ErrorKind}
use Rattle.clap.specs.declared.error.kind.ErrorKind.TheVariants as kind
use Rattle.clap.proofs.OnLiterals.{clap_on_literals}
use Rattle.words.specs.Positionals.{is_no_option, AreGiven, command_line}

abbrev shape : Shape
shape = (built command_line).top

abbrev rules : List Rule
rules = shape.rules

-- ---- a plain word is no flag

is_false : (t : Bool) → not t ≡ true → t ≡ false
is_false true h = absurd (cc)
is_false false h = refl

both : (a b : Bool) → (a && b) ≡ true → (a ≡ true) × (b ≡ true)
both true true h = (refl, refl)
both true false h = absurd (cc)
both false b h = absurd (cc)

no_dashes : (word : Text) → is_no_option word ≡ true → bytes_eq word (45 ∷ 45 ∷ []) ≡ false
no_dashes [] h = refl
no_dashes (b ∷ bs) h = ap (λ (t : Bool). t && bytes_eq bs (45 ∷ [])) (is_false (eqb b 45) h)

no_hyphen : (word : Text) → is_no_option word ≡ true → strip_byte 45 word ≡ None
no_hyphen [] h = refl
no_hyphen (b ∷ bs) h = ap (λ (t : Bool). cond t (Some bs) None) (is_false (eqb b 45) h)

module _ (word : Text) (plain : is_no_option word ≡ true) where
  no_long : long_of word ≡ None
  no_long = ap (λ (o : Option Text). option_and_then long_of_rest (option_and_then (strip_byte 45) o)) (no_hyphen word plain)

  no_short : short_of word ≡ None
  no_short = ap (λ (o : Option Text). option_and_then short_of_rest o) (no_hyphen word plain)

  -- it goes to a positional
  met : (p : ℕ) (h : Held) → word_met rules [] false idle p word h ≡ (h, value)
  met p h =
      ap (λ (t : Bool). cond t (h, trailing p) (long_or_other rules idle word (long_of word) h)) (no_dashes word plain)
      ∙ (ap (λ o. long_or_other rules idle word o h) no_long ∙ ap (λ o. short_or_plain rules idle word o h) no_short)

  no_fault : (h : Held) → word_fault shape [] false idle word h ≡ []
  no_fault h =
      ap (λ (t : Bool). cond t [] (flag_word_fault rules shape.args_override_self (long_of word) word h)) (no_dashes word plain)
      ∙ (ap (λ o. flag_word_fault rules shape.args_override_self o word h) no_long
      ∙ ap (λ o. option_map_or (λ flags. bundle_fault rules shape.args_override_self flags h) o []) no_short)

-- ---- a turn at a plain word

abbrev standing : Held → ℕ → Walk
standing h p = record { held = h; waiting = idle; position = p; is_trailing = false; stopped = None }

module _ (h : Held) (p : ℕ) (word : Text) (plain : is_no_option word ≡ true) where
  walked_plain : walked rules [] (standing h p) word ≡ to_positional rules (arg_by_index rules p) word (standing h p) h
  unfolding walked
  walked_plain = ap (λ (m : Held × Step). after_step rules word (standing h p) m.0 m.1) (met word plain p h)

  turn_plain : turn_fault shape [] (standing h p) word ≡ step_fault shape p h value
  turn_plain = λ i. or_else (no_fault word plain h i) (step_fault shape p (met word plain p h i).0 (met word plain p h i).1)

-- ---- the walk, word by word

abbrev start : Walk
start = standing nothing_held 1

abbrev held_one : Text → Held
held_one a = record nothing_held { pending = Some (codes "name", a ∷ []) }

abbrev held_two : Text → Text → Held
held_two a b = record { rows = (settled rules (held_one a)).rows; pending = Some (codes "number", b ∷ []); skip = 0 }

module _ (a : Text) (plain : is_no_option a ≡ true) where
  walked_one : walked rules [] start a ≡ standing (held_one a) 2
  walked_one = walked_plain nothing_held 1 a plain

  turn_one : turn_fault shape [] start a ≡ []
  turn_one = turn_plain nothing_held 1 a plain

  module _ (b : Text) (plain_too : is_no_option b ≡ true) where
    walked_two : walked rules [] (walked rules [] start a) b ≡ standing (held_two a b) 3
    walked_two = ap (λ w. walked rules [] w b) walked_one ∙ walked_plain (held_one a) 2 b plain_too

    turn_two : turn_fault shape [] (walked rules [] start a) b ≡ []
    turn_two = ap (λ w. turn_fault shape [] w b) walked_one ∙ turn_plain (held_one a) 2 b plain_too

    turn_three : (c : Text) → is_no_option c ≡ true → turn_fault shape [] (walked rules [] (walked rules [] start a) b) c ≡ kind.UnknownArgument ∷ []
    turn_three c third = ap (λ w. turn_fault shape [] w c) walked_two ∙ turn_plain (held_two a b) 3 c third

-- ---- what it leaves

abbrev name_in : Walk → Option Text
name_in w = first_of (codes "name") (finished rules w.held)

abbrev number_in : Walk → Option Text
number_in w = first_of (codes "number") (finished rules w.held)

-- the faults behind the walk
abbrev behind : Walk → Kinds
behind w =
    or_else (entered_fault (built command_line) w.stopped)
    (or_else (settle_fault rules shape.args_override_self w.held)
    (or_else (defaults_fault (settled rules w.held).rows rules) (check_fault shape (finished rules w.held) (is_some (entered (built command_line) w.stopped)))))

no_fault_behind_none : behind start ≡ []
unfolding clap_on_literals
no_fault_behind_none = refl

no_fault_behind_one : (a : Text) → behind (standing (held_one a) 2) ≡ []
unfolding clap_on_literals
no_fault_behind_one a = refl

no_fault_behind_two : (a b : Text) → behind (standing (held_two a b) 3) ≡ []
unfolding clap_on_literals
no_fault_behind_two a b = refl

fault_none : fault_of command_line [] ≡ []
unfolding walk_fault
fault_none = no_fault_behind_none

fault_one : (a : Text) → is_no_option a ≡ true → fault_of command_line (a ∷ []) ≡ []
unfolding walk_fault
fault_one a plain = (λ i. or_else (or_else (turn_one a plain i) []) (behind (walked_one a plain i))) ∙ no_fault_behind_one a

fault_two : (a b : Text) → is_no_option a ≡ true → is_no_option b ≡ true → fault_of command_line (a ∷ b ∷ []) ≡ []
unfolding walk_fault
fault_two a b plain too =
    (λ i. or_else (or_else (turn_one a plain i) (or_else (turn_two a plain b too i) [])) (behind (walked_two a plain b too i))) ∙ no_fault_behind_two a b

fault_three : (a b c : Text) (rest : List Text) → is_no_option a ≡ true → is_no_option b ≡ true → is_no_option c ≡ true → fault_of command_line (a ∷ b ∷ c ∷ rest) ≡ kind.UnknownArgument ∷ []
unfolding walk_fault
fault_three a b c rest plain too third = λ i.
    or_else
    (or_else (turn_one a plain i)
    (or_else (turn_two a plain b too i)
    (or_else (turn_three a plain b too c third i) (walk_fault shape [] (walked rules [] (walked rules [] (walked rules [] start a) b) c) rest))))
    (behind (walk rules [] nothing_held (a ∷ b ∷ c ∷ rest)))

-- ---- for all plain words

-- by the test of each word
module _ (a : Text) (rest : List Text) (plain : list_all is_no_option (a ∷ rest) ≡ true) where
  first_plain : is_no_option a ≡ true
  first_plain = (both (is_no_option a) (list_all is_no_option rest) plain).0

  rest_plain : list_all is_no_option rest ≡ true
  rest_plain = (both (is_no_option a) (list_all is_no_option rest) plain).1

pub more_than_two : (words : List Text) → list_all is_no_option words ≡ true → (k : ErrorKind) → IsAmong k (fault_of command_line words) → 2 < length words
more_than_two [] plain k h = absurd (subst (IsAmong k) fault_none h)
more_than_two (a ∷ []) plain k h = absurd (subst (IsAmong k) (fault_one a (first_plain a [] plain)) h)
more_than_two (a ∷ b ∷ []) plain k h =
    absurd (subst (IsAmong k) (fault_two a b (first_plain a (b ∷ []) plain) (first_plain b [] (rest_plain a (b ∷ []) plain))) h)
more_than_two (a ∷ b ∷ c ∷ rest) plain k h = omega arith

pub given : (words : List Text) → list_all is_no_option words ≡ true → fault_of command_line words ≡ [] → AreGiven words (first_of (codes "name") (matches_of command_line words)) (first_of (codes "number") (matches_of command_line words))
given [] plain none = (refl, refl)
given (a ∷ []) plain none =
    let one = walked_one a (first_plain a [] plain) in (ap name_in one, ap number_in one)
given (a ∷ b ∷ []) plain none =
    let two = walked_two a (first_plain a (b ∷ []) plain) b (first_plain b [] (rest_plain a (b ∷ []) plain)) in (ap name_in two, ap number_in two)
given (a ∷ b ∷ c ∷ rest) plain none =
    let more = rest_plain a (b ∷ c ∷ rest) plain in
    let three = fault_three a b c rest (first_plain a (b ∷ c ∷ rest) plain) (first_plain b (c ∷ rest) more) (first_plain c rest (rest_plain b (c ∷ rest) more)) in
    absurd (cc)

-- ---- as the contracts of `clap` say it

is_free : is_simple_and_free command_line ≡ true
unfolding clap_on_literals
is_free = refl

is_plain_command : is_simple command_line ≡ true
unfolding clap_on_literals
is_plain_command = refl

given_as : (words : List Text) (x y x' y' : Option Text) → x ≡ x' → y ≡ y' → AreGiven words x' y' → AreGiven words x y
given_as words x y x' y' ex ey h = subst (λ (z : Option Text). AreGiven words z y) (sym ex) (subst (λ (z : Option Text). AreGiven words x' z) (sym ey) h)

module _ (words : List Text) (plain : list_all is_no_option words ≡ true) (app : App) (is : app ≡ command_line) where
  pub placed : (rows : List Row) (name number : Option Text) → name ≡ first_of (codes "name") rows → number ≡ first_of (codes "number") rows
      → (is_simple app ≡ true → rows ≡ matches_of app words) → (is_simple_and_free app ≡ true → fault_of app words ≡ []) → AreGiven words name number
  placed rows name number name_is number_is matches faults =
      let rows_are : rows ≡ matches_of command_line words = matches (ap is_simple is ∙ is_plain_command) ∙ ap (λ (a : App). matches_of a words) is in
      let none : fault_of command_line words ≡ [] = sym (ap (λ (a : App). fault_of a words) is) ∙ faults (ap is_simple_and_free is ∙ is_free) in
      given_as words name number (first_of (codes "name") (matches_of command_line words)) (first_of (codes "number") (matches_of command_line words))
      (name_is ∙ ap (first_of (codes "name")) rows_are) (number_is ∙ ap (first_of (codes "number")) rows_are) (given words plain none)

  pub too_many : (k : ErrorKind) → (is_simple_and_free app ≡ true → IsAmong k (fault_of app words)) → 2 < length words
  too_many k h = more_than_two words plain k (subst (λ (a : App). IsAmong k (fault_of a words)) is (h (ap is_simple_and_free is ∙ is_free)))
