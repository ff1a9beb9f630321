-- How far a token has come: what the next byte makes of it, and what token it is where no more of it follows.
use Rattle.std.specs.Prelude.{ℕ, ◌+◌, ◌-◌, ◌*◌, ◌^◌, nat_eq, nat_lt, ◌&&◌, ◌||◌, Bool, false, if◌then◌else◌, length, slice_index, Option, Some, None}
use Rattle.std.specs.Char.{is_ascii_alphabetic, is_ascii_digit}
use Rattle.std.specs.Int.{is_in_range}
use Rattle.ss_base.specs.declared.types.CalcErr.{CalcErr}
use Rattle.ss_base.specs.declared.types.CalcErr.TheVariants.{Div0, Na, NoName, BadNum, Lost, BadKind, Circ}
use Rattle.formula_tree.specs.Tokens.{is_printable, is_name_byte, error_name}
use Rattle.formula_read.specs.declared.kinds.TokenKind.{TokenKind}
use Rattle.formula_read.specs.declared.kinds.TokenKind.TheVariants as kind
use Rattle.formula_read.specs.declared.partial.Partial.{Partial}
use Rattle.formula_read.specs.declared.partial.Partial.TheVariants.{Fresh, Numeral, Quoted, Closed, Hash, HashN, Error, Word, Less, Greater, Whole}
use Rattle.formula_read.specs.declared.partial.Address.{Address}
use Rattle.formula_read.specs.declared.partial.Address.TheVariants.{Neither, Cell, Range}
use Rattle.formula_read.specs.declared.partial.Corner.{Corner}
use Rattle.formula_read.specs.declared.partial.Corner.TheVariants.{Start, Dollar, Letters, Fixed, Digits}

-- a row number begins with 1 to 9
abbrev pub first_digit : ℕ → Option Corner
first_digit b = if is_in_range 49 57 b then Some (Digits 1) else None

abbrev pub corner_step : Corner → ℕ → Option Corner
corner_step Start b = if is_ascii_alphabetic b then Some (Letters 1) else if nat_eq b 36 then Some Dollar else None
corner_step Dollar b = if is_ascii_alphabetic b then Some (Letters 1) else None
corner_step (Letters n) b =
    if is_ascii_alphabetic b then (if nat_lt n 3 then Some (Letters (n + 1)) else None)
    else if nat_eq b 36 then Some Fixed
    else first_digit b
corner_step Fixed b = first_digit b
corner_step (Digits n) b = if is_ascii_digit b && nat_lt n 7 then Some (Digits (n + 1)) else None

abbrev pub cell_or_neither : Option Corner → Address
cell_or_neither (Some c) = Cell c
cell_or_neither None = Neither

abbrev pub range_or_neither : Option Corner → Address
range_or_neither (Some c) = Range c
range_or_neither None = Neither

-- a colon may stand behind a whole address
abbrev pub cell_step : Corner → ℕ → Address
cell_step (Digits n) b = if nat_eq b 58 then Range Start else cell_or_neither (corner_step (Digits n) b)
cell_step c b = cell_or_neither (corner_step c b)

abbrev pub address_step : Address → ℕ → Address
address_step Neither b = Neither
address_step (Cell c) b = cell_step c b
address_step (Range c) b = range_or_neither (corner_step c b)

-- how many bytes of a name, after one more, or 0
abbrev pub name_step : ℕ → ℕ → ℕ
name_step n b = if is_name_byte b && (nat_lt 0 n && nat_lt n 32) then n + 1 else 0

-- a word that can be a name's front or an address's
abbrev pub word : ℕ → Address → Option Partial
word n Neither = if nat_lt 0 n then Some (Word n Neither) else None
word n a = Some (Word n a)

abbrev pub numeral_step : ℕ → ℕ → Option Partial
numeral_step v b =
    if is_ascii_digit b
    then (if nat_lt (v * 10 + (b - 48)) (2 ^ 63) then Some (Numeral (v * 10 + (b - 48))) else None)
    else None

abbrev pub quoted_step : ℕ → Option Partial
quoted_step b = if nat_eq b 34 then Some Closed else if is_printable b then Some Quoted else None

abbrev pub hash_step : ℕ → Option Partial
hash_step b =
    if nat_eq b 78 then Some HashN
    else if nat_eq b 68 then Some (Error Div0 2)
    else if nat_eq b 82 then Some (Error Lost 2)
    else if nat_eq b 86 then Some (Error BadKind 2)
    else if nat_eq b 67 then Some (Error Circ 2)
    else None

abbrev pub hash_n_step : ℕ → Option Partial
hash_n_step b =
    if nat_eq b 47 then Some (Error Na 3)
    else if nat_eq b 65 then Some (Error NoName 3)
    else if nat_eq b 85 then Some (Error BadNum 3)
    else None

abbrev pub error_step : CalcErr → ℕ → ℕ → Option Partial
error_step e n b =
    if nat_lt n (length (error_name e)) && nat_eq b (slice_index (error_name e) n) then Some (Error e (n + 1)) else None

-- `+ - * / ^ & =`
abbrev pub is_single_sign : ℕ → Bool
is_single_sign b =
    nat_eq b 43 || (nat_eq b 45 || (nat_eq b 42 || (nat_eq b 47 || (nat_eq b 94 || (nat_eq b 38 || nat_eq b 61)))))

abbrev pub fresh_step : ℕ → Option Partial
fresh_step b =
    if is_ascii_digit b then Some (Numeral (b - 48))
    else if is_ascii_alphabetic b then Some (Word 1 (Cell (Letters 1)))
    else if nat_eq b 34 then Some Quoted
    else if nat_eq b 35 then Some Hash
    else if nat_eq b 36 then Some (Word 0 (Cell Dollar))
    else if nat_eq b 40 then Some (Whole kind.Open)
    else if nat_eq b 41 then Some (Whole kind.Close)
    else if nat_eq b 59 then Some (Whole kind.Semi)
    else if nat_eq b 60 then Some Less
    else if nat_eq b 62 then Some Greater
    else if is_single_sign b then Some (Whole kind.Sign)
    else None

-- what a token has become with one more byte, if some token begins so
abbrev pub partial_step : Partial → ℕ → Option Partial
partial_step Fresh b = fresh_step b
partial_step (Numeral v) b = numeral_step v b
partial_step Quoted b = quoted_step b
partial_step Closed b = if nat_eq b 34 then Some Quoted else None
partial_step Hash b = hash_step b
partial_step HashN b = hash_n_step b
partial_step (Error e n) b = error_step e n b
partial_step (Word n a) b = word (name_step n b) (address_step a b)
partial_step Less b = if nat_eq b 61 || nat_eq b 62 then Some (Whole kind.Sign) else None
partial_step Greater b = if nat_eq b 61 then Some (Whole kind.Sign) else None
partial_step (Whole k) b = None

-- a whole address
abbrev pub address_kind : Address → Option TokenKind
address_kind (Cell (Digits n)) = Some kind.Cell
address_kind (Range (Digits n)) = Some kind.Range
address_kind a = None

-- the byte behind a token, if there is one
abbrev pub is_open : Option ℕ → Bool
is_open (Some b) = nat_eq b 40
is_open None = false

-- the token that was read where this byte comes next, if the bytes are one: a name stands only before an opening bracket
abbrev pub kind_at : Partial → Option ℕ → Option TokenKind
kind_at (Numeral v) next = Some kind.Numeral
kind_at Closed next = Some kind.Text
kind_at (Error e n) next = if nat_eq n (length (error_name e)) then Some kind.Error else None
kind_at (Word n a) next = if nat_lt 0 n && is_open next then Some kind.Name else address_kind a
kind_at Less next = Some kind.Sign
kind_at Greater next = Some kind.Sign
kind_at (Whole k) next = Some k
kind_at _ next = None
