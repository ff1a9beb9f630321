-- bytes that may stand behind a token, so that it ends there
use Rattle.std.proofs.Common.{◌≡◌, ℕ, Bool, true, false, ◌||◌, nat_eq, List, [], ◌∷◌, ◌++◌, refl, arith}
use Rattle.std.specs.Char.{is_ascii_digit}
use Rattle.std.proofs.lemmas.Bool.Decides.{nat_tests}
use Rattle.formula_tree.specs.Tokens.{TokenValue, Follows, is_name_byte}
use Rattle.formula_tree.specs.Tokens as token
use Rattle.formula_tree.specs.declared.operators.BinOp.{BinOp}
use Rattle.formula_tree.specs.Lexing.{space_count, past_spaces}
use Rattle.formula_read.specs.declared.kinds.TokenKind.TheVariants as kind
use Rattle.formula_read.specs.Read.{token_kind}
use Rattle.formula_read.specs.Behind.{goes_on}
use Rattle.formula_read.specs.Partial.{is_single_sign}
use Rattle.formula_read.specs.Classes.{begins_word}

-- a leaf, a name, an opening bracket or a prefix sign begins with the byte
abbrev pub begins_operand : ℕ → Bool
begins_operand b = begins_word b || (nat_eq b 40 || (nat_eq b 43 || nat_eq b 45))

-- a byte behind an operand: an operator's, `)` or `;`
abbrev pub ends_operand : ℕ → Bool
ends_operand b = is_single_sign b || (nat_eq b 60 || (nat_eq b 62 || (nat_eq b 41 || nat_eq b 59)))

-- nothing stands behind an operand, or such a byte
abbrev pub is_behind : List ℕ → Bool
is_behind [] = true
is_behind (b ∷ bs) = ends_operand b

-- an operand stands at the front
abbrev pub is_operand : List ℕ → Bool
is_operand [] = false
is_operand (b ∷ bs) = begins_operand b

-- the token ends before these bytes, and there is no space
pub record IsParted (t : TokenValue) (rest : List ℕ) : Type 0 where
  pub ends : goes_on (token_kind t) rest ≡ false
  pub follows : Follows t rest
  pub spaces : space_count rest ≡ 0
  pub past : past_spaces rest ≡ rest

record IsUnspaced (bs : List ℕ) : Type 0 where
  spaces : space_count bs ≡ 0
  past : past_spaces bs ≡ bs

unspaced : (b : ℕ) (bs : List ℕ) → nat_eq b 32 ≡ false → IsUnspaced (b ∷ bs)
unspaced b bs h = record { spaces = rw h; past = rw h }

behind_space : (b : ℕ) → ends_operand b ≡ true → nat_eq b 32 ≡ false
behind_space b h = grind (arith, nat_tests)

operand_space : (b : ℕ) → begins_operand b ≡ true → nat_eq b 32 ≡ false
operand_space b h = grind (arith, nat_tests)

behind_unspaced : (r : List ℕ) → is_behind r ≡ true → IsUnspaced r
behind_unspaced [] h = record { spaces = refl; past = refl }
behind_unspaced (b ∷ bs) h = unspaced b bs (behind_space b h)

operand_unspaced : (r : List ℕ) → is_operand r ≡ true → IsUnspaced r
operand_unspaced [] h = absurd (cc)
operand_unspaced (b ∷ bs) h = unspaced b bs (operand_space b h)

-- what may stand behind an operand goes on with none
no_digit : (b : ℕ) → ends_operand b ≡ true → is_ascii_digit b ≡ false
no_digit b h = grind (arith, nat_tests)

no_quote : (b : ℕ) → ends_operand b ≡ true → nat_eq b 34 ≡ false
no_quote b h = grind (arith, nat_tests)

no_word : (b : ℕ) → ends_operand b ≡ true → (is_name_byte b || (nat_eq b 58 || nat_eq b 40)) ≡ false
no_word b h = grind (arith, nat_tests)

no_sign : (b : ℕ) → begins_operand b ≡ true → (nat_eq b 61 || nat_eq b 62) ≡ false
no_sign b h = grind (arith, nat_tests)

-- operands' last tokens
abbrev pub ends_tree : TokenValue → Bool
ends_tree (token.name n) = false
ends_tree (token.sign op) = false
ends_tree token.opening = false
ends_tree token.semicolon = false
ends_tree t = true

ends_behind : (t : TokenValue) (r : List ℕ) → ends_tree t ≡ true → is_behind r ≡ true → goes_on (token_kind t) r ≡ false
ends_behind t [] e h = refl
ends_behind (token.numeral n) (b ∷ bs) e h = no_digit b h
ends_behind (token.text t) (b ∷ bs) e h = no_quote b h
ends_behind (token.fault f) (b ∷ bs) e h = refl
ends_behind (token.cell c) (b ∷ bs) e h = no_word b h
ends_behind (token.range c) (b ∷ bs) e h = no_word b h
ends_behind token.closing (b ∷ bs) e h = refl
ends_behind (token.name n) (b ∷ bs) e h = absurd (cc)
ends_behind (token.sign op) (b ∷ bs) e h = absurd (cc)
ends_behind token.opening (b ∷ bs) e h = absurd (cc)
ends_behind token.semicolon (b ∷ bs) e h = absurd (cc)

follows_any : (t : TokenValue) (r : List ℕ) → ends_tree t ≡ true → Follows t r
follows_any (token.numeral n) r e = tt
follows_any (token.text t) r e = tt
follows_any (token.fault f) r e = tt
follows_any (token.cell c) r e = tt
follows_any (token.range c) r e = tt
follows_any token.closing r e = tt
follows_any (token.name n) r e = absurd (cc)
follows_any (token.sign op) r e = tt
follows_any token.opening r e = tt
follows_any token.semicolon r e = tt

pub parted_behind : (t : TokenValue) (r : List ℕ) → ends_tree t ≡ true → is_behind r ≡ true → IsParted t r
parted_behind t r e h =
    let none = behind_unspaced r h in
    record { ends = ends_behind t r e h; follows = follows_any t r e; spaces = none.spaces; past = none.past }

-- an operand behind a sign, a bracket or a semicolon
sign_ends : (r : List ℕ) → is_operand r ≡ true → goes_on kind.Sign r ≡ false
sign_ends [] h = refl
sign_ends (b ∷ bs) h = no_sign b h

opening_ends : (r : List ℕ) → goes_on kind.Open r ≡ false
opening_ends [] = refl
opening_ends (b ∷ bs) = refl

semicolon_ends : (r : List ℕ) → goes_on kind.Semi r ≡ false
semicolon_ends [] = refl
semicolon_ends (b ∷ bs) = refl

pub parted_sign : (op : BinOp) (r : List ℕ) → is_operand r ≡ true → IsParted (token.sign op) r
parted_sign op r h =
    let none = operand_unspaced r h in
    record { ends = sign_ends r h; follows = tt; spaces = none.spaces; past = none.past }

pub parted_opening : (r : List ℕ) → is_operand r ≡ true → IsParted token.opening r
parted_opening r h =
    let none = operand_unspaced r h in
    record { ends = opening_ends r; follows = tt; spaces = none.spaces; past = none.past }

pub parted_semicolon : (r : List ℕ) → is_operand r ≡ true → IsParted token.semicolon r
parted_semicolon r h =
    let none = operand_unspaced r h in
    record { ends = semicolon_ends r; follows = tt; spaces = none.spaces; past = none.past }

-- a call without arguments
pub parted_empty : (r : List ℕ) → IsParted token.opening (41 ∷ r)
parted_empty r = record { ends = refl; follows = tt; spaces = refl; past = refl }

pub parted_name : (n r : List ℕ) → IsParted (token.name n) (40 ∷ r)
parted_name n r = record { ends = refl; follows = (r, refl); spaces = refl; past = refl }

-- what begins an operand still does with more behind it
pub is_operand-append : (bs r : List ℕ) → is_operand bs ≡ true → is_operand (bs ++ r) ≡ true
is_operand-append [] r h = absurd (cc)
is_operand-append (b ∷ bs) r h = h
