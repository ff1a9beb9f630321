-- The class of a token to the grammar, and what its first byte tells of it.
use Rattle.std.specs.Prelude.{ℕ, nat_eq, ◌||◌, Bool, if◌then◌else◌, Option, Some, None}
use Rattle.std.specs.Char.{is_ascii_alphabetic, is_ascii_digit}
use Rattle.formula_tree.specs.declared.operators.BinOp.{BinOp}
use Rattle.formula_tree.specs.declared.operators.BinOp.TheVariants.{Add, Sub, Eq}
use Rattle.formula_tree.specs.Tokens.{TokenValue, name, sign, opening, closing, semicolon}
use Rattle.formula_read.specs.declared.class.SignClass.{SignClass}
use Rattle.formula_read.specs.declared.class.SignClass.TheVariants.{Prefix, Equals, Infix}
use Rattle.formula_read.specs.declared.class.TokenClass.{TokenClass}
use Rattle.formula_read.specs.declared.class.TokenClass.TheVariants.{Leaf, Name, Sign, Open, Close, Semi}

-- `+ -`, `=`, and the other operators
abbrev pub sign_class : BinOp → SignClass
sign_class Add = Prefix
sign_class Sub = Prefix
sign_class Eq = Equals
sign_class op = Infix

abbrev pub token_class : TokenValue → TokenClass
token_class (name n) = Name
token_class (sign op) = Sign (sign_class op)
token_class opening = Open
token_class closing = Close
token_class semicolon = Semi
token_class t = Leaf

-- a leaf or a name begins with the byte: a digit, a letter or one of `" # $`
abbrev pub begins_word : ℕ → Bool
begins_word b = is_ascii_digit b || (is_ascii_alphabetic b || (nat_eq b 34 || (nat_eq b 35 || nat_eq b 36)))

-- `* / ^ & < >`
abbrev pub begins_infix : ℕ → Bool
begins_infix b = nat_eq b 42 || (nat_eq b 47 || (nat_eq b 94 || (nat_eq b 38 || (nat_eq b 60 || nat_eq b 62))))

-- the class of the tokens that begin with the byte: `( ) ; =`, `+ -` and the rest; a name is taken for a leaf
abbrev pub class_begun : ℕ → Option TokenClass
class_begun b =
    if begins_word b then Some Leaf
    else if nat_eq b 40 then Some Open
    else if nat_eq b 41 then Some Close
    else if nat_eq b 59 then Some Semi
    else if nat_eq b 61 then Some (Sign Equals)
    else if nat_eq b 43 || nat_eq b 45 then Some (Sign Prefix)
    else if begins_infix b then Some (Sign Infix)
    else None
