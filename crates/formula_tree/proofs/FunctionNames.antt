-- functions and their names
use Rattle.std.proofs.Common.{◌≡◌, ◌≢◌, ℕ, Bool, true, false, cond, ◌&&◌, nat_le, List, [], ◌∷◌, length, Some, None, refl, ap, sym, subst, ◌∙◌, arith}
use Rattle.std.specs.Prelude.{find, Result, Ok, Err, IfOk}
use Rattle.std.specs.Char.{is_ascii_alphabetic, to_ascii_uppercase}
use Rattle.std.specs.List.{list_all}
use Rattle.std.specs.Str.{bytes_eq}
use Rattle.std.proofs.lemmas.Bool.{and_parts, and_from}
use Rattle.std.proofs.lemmas.Bool.Decides.{nat_tests}
use Rattle.std.proofs.lemmas.Slice.Eq.{bytes_eq-Decides}
use Rattle.formula_tree.specs.declared.functions.Fun.{Fun}
use Rattle.formula_tree.specs.declared.functions.Fun.TheVariants as fun
use Rattle.formula_tree.specs.Names.{name_of, is_known, known_functions}
use Rattle.formula_tree.specs.Tokens.{is_name, is_name_byte, upper_case}
use Rattle.formula_tree.specs.WellFormed.{IsFun}

-- upper case
upper_letter : (b : ℕ) → is_ascii_alphabetic b ≡ true → is_ascii_alphabetic (to_ascii_uppercase b) ≡ true
upper_letter b h = grind (arith, nat_tests)

upper_byte : (b : ℕ) → is_name_byte b ≡ true → is_name_byte (to_ascii_uppercase b) ≡ true
upper_byte b h = grind (arith, nat_tests)

upper_again : (b : ℕ) → to_ascii_uppercase (to_ascii_uppercase b) ≡ to_ascii_uppercase b
upper_again b = grind (arith, nat_tests)

upper_bytes : (bs : List ℕ) → list_all is_name_byte bs ≡ true → list_all is_name_byte (upper_case bs) ≡ true
upper_bytes [] h = refl
upper_bytes (b ∷ bs) h =
    let (here, more) = and_parts (is_name_byte b) (list_all is_name_byte bs) h in
    and_from _ _ (upper_byte b here) (upper_bytes bs more)

length-upper : (bs : List ℕ) → length (upper_case bs) ≡ length bs
length-upper [] = refl
length-upper (b ∷ bs) = let more = length-upper bs in omega arith

upper_twice : (bs : List ℕ) → upper_case (upper_case bs) ≡ upper_case bs
upper_twice [] = refl
upper_twice (b ∷ bs) = λ i. upper_again b i ∷ upper_twice bs i

upper_name : (bs : List ℕ) → is_name bs ≡ true → is_name (upper_case bs) ≡ true
upper_name [] h = absurd (cc)
upper_name (b ∷ bs) h =
    let (letter, rest) = and_parts (is_ascii_alphabetic b) (list_all is_name_byte bs && nat_le (length bs) 31) h in
    let (all, few) = and_parts (list_all is_name_byte bs) (nat_le (length bs) 31) rest in
    and_from _ _ (upper_letter b letter) (and_from _ _ (upper_bytes bs all) (ap (λ (n : ℕ). nat_le n 31) (length-upper bs) ∙ few))

-- proper functions
pub known_fun : (f : Fun) → is_known f ≡ true → IsFun f
known_fun (fun.Unknown n) h = absurd (cc)
known_fun f h = tt

pub unknown_fun : (bs : List ℕ) → is_name bs ≡ true → ((f : Fun) → is_known f ≡ true → name_of f ≢ upper_case bs) → IsFun (fun.Unknown (upper_case bs))
unknown_fun bs h none = (upper_name bs h, upper_twice bs, none)

-- the first of some functions that has a name
abbrev pub has_name : List ℕ → Fun → Bool
has_name name f = bytes_eq (name_of f) name

found_known : (fs : List Fun) (name : List ℕ) (f : Fun) → list_all is_known fs ≡ true → find (has_name name) fs ≡ Some f → (is_known f ≡ true) × (name_of f ≡ name)
found_known [] name f all h = absurd (cc)
found_known (g ∷ gs) name f all h =
    let (known, rest) = and_parts (is_known g) (list_all is_known gs) all in
    by_name (has_name name g) refl h known (λ h. found_known gs name f rest h)
  where
    by_name : (t : Bool) → has_name name g ≡ t → cond t (Some g) (find (has_name name) gs) ≡ Some f → is_known g ≡ true →
        (find (has_name name) gs ≡ Some f → (is_known f ≡ true) × (name_of f ≡ name)) → (is_known f ≡ true) × (name_of f ≡ name)
    by_name true e h known later =
        let same : g ≡ f = cc in
        subst (λ (f : Fun). (is_known f ≡ true) × (name_of f ≡ name)) same (known, (bytes_eq-Decides (name_of g) name).0 e)
    by_name false e h known later = later h

-- each known function is the first that has its name
pub is_first : (f : Fun) → is_known f ≡ true → find (has_name (name_of f)) known_functions ≡ Some f
is_first (fun.Unknown n) h = absurd (cc)
is_first f h = refl

pub known_found : (name : List ℕ) (f : Fun) → Some f ≡ find (has_name name) known_functions → (is_known f ≡ true) × (name_of f ≡ name)
known_found name f e = found_known known_functions name f refl (sym e)

pub none_found : (name : List ℕ) → None ≡ find (has_name name) known_functions → (f : Fun) → is_known f ≡ true → name_of f ≢ name
none_found name e f known same =
    let found : find (has_name name) known_functions ≡ Some f = subst (λ (n : List ℕ). find (has_name n) known_functions ≡ Some f) same (is_first f known) in
    absurd (let clash : None ≡ Some f = e ∙ found in cc)

-- what holds of a function holds of an equal one
pub of_equal : {E : Type 0} (P : Fun → Type 0) (r : Result Fun E) (f : Fun) → IfOk r (λ g. g ≡ f) → P f → IfOk r P
of_equal P (Ok g) f e h = subst P (sym e) h
of_equal P (Err e) f _ h = tt
