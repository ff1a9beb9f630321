-- addresses are read back
use Rattle.std.proofs.Common.{◌≡◌, ℕ, Bool, true, false, ◌&&◌, cond, not, nat_eq, nat_le, ◌+◌, ◌^◌, ◌<◌, ◌≤◌, List, [], ◌∷◌, ◌++◌, length, drop, take_while, position, get_or, Option, Some, None, refl, ap, ◌∙◌, arith, append_assoc, add-one, append-nil, decimal}
use Rattle.std.specs.Char.{is_ascii_alphabetic, is_ascii_digit}
use Rattle.std.specs.Int.{is_in_range}
use Rattle.std.specs.List.{prefix_len, position_or_len, list_all}
use Rattle.std.proofs.Math.Seq.{take-append_seam, drop-append_seam, drop-append-add}
use Rattle.std.proofs.lemmas.Bool.{lt-ltb}
use Rattle.std.proofs.lemmas.Bool.Decides.{nat_tests}
use Rattle.std.proofs.lemmas.Fmt.{digits_decimal, digits_value-decimal, length-decimal-le, first_decimal, decimal_nonempty}
use Rattle.std.proofs.lemmas.List.{length-append}
use Rattle.std.proofs.lemmas.List.Folds.{list_all-append}
use Rattle.std.proofs.lemmas.Str.Parse.{digit_at}
use Rattle.ss_base.specs.declared.types.Spot.{Spot}
use Rattle.ss_base.specs.declared.types.Span.{Span}
use Rattle.cell_addr.specs.Columns.{col_named, letters}
use Rattle.cell_addr.specs.Rows.{is_count, row_numbered}
use Rattle.cell_addr.specs.Cells.{has_dollar, past_dollar, past_letters, cell_of, is_colon, range_of, range_at, range_between, dollar, address, spot_text, span_text}
use Rattle.cell_addr.proofs.Digits.{both, digits_model}
use Rattle.cell_addr.proofs.Letters.{col_named-letters}

-- the letters that name a column are letters
test_of_some : (t : Bool) (v c : ℕ) → cond t (Some v) None ≡ Some c → t ≡ true
test_of_some true v c h = refl
test_of_some false v c h = absurd (cc)

named_all : (bs : List ℕ) (col : ℕ) → col_named bs ≡ Some col → list_all is_ascii_alphabetic bs ≡ true
named_all [] col h = absurd (cc)
named_all (a ∷ []) col h = rw (test_of_some (is_ascii_alphabetic a) _ col h)
named_all (a ∷ b ∷ []) col h =
    let parts = both (is_ascii_alphabetic a) (is_ascii_alphabetic b) (test_of_some (is_ascii_alphabetic a && is_ascii_alphabetic b) _ col h) in
    rw (parts.0, parts.1)
named_all (a ∷ b ∷ c ∷ []) col h =
    let parts = both (is_ascii_alphabetic a) (is_ascii_alphabetic b && is_ascii_alphabetic c) (test_of_some (is_ascii_alphabetic a && (is_ascii_alphabetic b && is_ascii_alphabetic c)) _ col h) in
    let rest = both (is_ascii_alphabetic b) (is_ascii_alphabetic c) parts.1 in
    rw (parts.0, rest.0, rest.1)
named_all (a ∷ b ∷ c ∷ d ∷ bs) col h = absurd (cc)

-- letters end where no letter stands
front_is : (bs rest : List ℕ) → list_all is_ascii_alphabetic bs ≡ true → prefix_len is_ascii_alphabetic rest ≡ 0 → prefix_len is_ascii_alphabetic (bs ++ rest) ≡ length bs
front_is [] rest a r = r
front_is (b ∷ bs) rest a r =
    let parts = both (is_ascii_alphabetic b) (list_all is_ascii_alphabetic bs) a in
    let more = front_is bs rest parts.1 r in
    rw parts.0 (omega (arith, more))

-- a `$` in front of what has none
Unmarked : List ℕ → Type 0
Unmarked bs = (has_dollar bs ≡ false) × (past_dollar bs ≡ bs)

unmarked : (b : ℕ) (bs : List ℕ) → nat_eq b 36 ≡ false → (has_dollar (b ∷ bs) ≡ false) × (past_dollar (b ∷ bs) ≡ b ∷ bs)
unmarked b bs e = (e, rw e)

marked : (mark : Bool) (bs : List ℕ) → (has_dollar bs ≡ false) × (past_dollar bs ≡ bs) → (has_dollar (dollar mark ++ bs) ≡ mark) × (past_dollar (dollar mark ++ bs) ≡ bs)
marked true bs h = (refl, refl)
marked false bs h = h

letters_unmarked : (bs rest : List ℕ) (col : ℕ) → col_named bs ≡ Some col → (has_dollar (bs ++ rest) ≡ false) × (past_dollar (bs ++ rest) ≡ bs ++ rest)
letters_unmarked [] rest col h = absurd (cc)
letters_unmarked (b ∷ bs) rest col h =
    let parts = both (is_ascii_alphabetic b) (list_all is_ascii_alphabetic bs) (named_all (b ∷ bs) col h) in
    unmarked b (bs ++ rest) (no_dollar b parts.0)
  where
    no_dollar : (b : ℕ) → is_ascii_alphabetic b ≡ true → nat_eq b 36 ≡ false
    no_dollar b h = grind (arith, nat_tests)

count_byte : (b : ℕ) → is_in_range 49 57 b ≡ true → (nat_eq b 36 ≡ false) × (is_ascii_alphabetic b ≡ false)
count_byte b h = (grind (arith, nat_tests), grind (arith, nat_tests))

-- a count has no `$` and no letter in front
count_head : (bs : List ℕ) → is_count bs ≡ true → (has_dollar bs ≡ false) × (past_dollar bs ≡ bs) × (prefix_len is_ascii_alphabetic bs ≡ 0)
count_head [] h = absurd (cc)
count_head (b ∷ bs) h =
    let parts = both (is_in_range 49 57 b) (list_all is_ascii_digit (b ∷ bs) && nat_le (length (b ∷ bs)) 7) h in
    let (mark, letter) = count_byte b parts.0 in
    (mark, rw mark, rw letter)

no_letter : (mark : Bool) (bs : List ℕ) → prefix_len is_ascii_alphabetic bs ≡ 0 → prefix_len is_ascii_alphabetic (dollar mark ++ bs) ≡ 0
no_letter true bs h = refl
no_letter false bs h = h

-- the decimal text of a row number
in_range : (b : ℕ) → 48 < b → b ≤ 57 → is_in_range 49 57 b ≡ true
in_range b low high = grind (arith, nat_tests)

at_most_7 : (n : ℕ) → n ≤ 7 → nat_le n 7 ≡ true
at_most_7 n few = grind (arith, nat_tests)

count_is : (ds : List ℕ) → 48 < get_or ds 0 0 → get_or ds 0 0 ≤ 57 → list_all is_ascii_digit ds ≡ true → length ds ≤ 7 → is_count ds ≡ true
count_is ds low high digits few = rw (in_range (get_or ds 0 0) low high, digits, at_most_7 (length ds) few)

module _ (row : ℕ) (small : row < 9999999) where
  decimal_count : is_count (decimal (row + 1)) ≡ true
  decimal_count =
      let small' : row + 1 < 2 ^ 64 = omega arith in
      let digits = digits_decimal digits_model (row + 1) small' in
      let first = first_decimal (row + 1) (omega arith) small' in
      let range = digit_at (decimal (row + 1)) 0 (digits_model.to (decimal (row + 1)) digits) (decimal_nonempty (row + 1) small') in
      count_is (decimal (row + 1)) first range.1 digits (length-decimal-le 7 (row + 1) (omega arith) (omega arith) small')

  decimal_row : row_numbered (decimal (row + 1)) ≡ Some row
  decimal_row = rw (decimal_count, digits_value-decimal digits_model (row + 1) (omega arith), add-one)

-- a cell by its four parts
cell_of-parts : (text col bs row ds : List ℕ) (abs_col abs_row : Bool) (c r : ℕ) → has_dollar text ≡ abs_col → past_dollar text ≡ col → take_while is_ascii_alphabetic col ≡ bs → past_letters col ≡ row →
    col_named bs ≡ Some c → has_dollar row ≡ abs_row → past_dollar row ≡ ds → row_numbered ds ≡ Some r →
    cell_of text ≡ Some (record { row = r; col = c; abs_row = abs_row; abs_col = abs_col })
cell_of-parts text col bs row ds abs_col abs_row c r e1 e2 e3 e4 e5 e6 e7 e8 = rw (e1, e2, e3, e4, e5, e6, e7, e8)

pub cell_of-spot_text : (s : Spot) → s.row < 9999999 → s.col < 18278 → cell_of (spot_text s) ≡ Some s
cell_of-spot_text s low small =
    let bs = letters s.col in
    let ds = decimal (s.row + 1) in
    let rest = dollar s.abs_row ++ ds in
    let named = col_named-letters s.col small in
    let (bare, same, none) = count_head ds (decimal_count s.row low) in
    let front = marked s.abs_col (bs ++ rest) (letters_unmarked bs rest s.col named) in
    let back = marked s.abs_row ds (bare, same) in
    let count = front_is bs rest (named_all bs s.col named) (no_letter s.abs_row ds none) in
    let whole : spot_text s ≡ dollar s.abs_col ++ (bs ++ rest) = simp append_assoc in
    rw whole
    (cell_of-parts (dollar s.abs_col ++ (bs ++ rest)) (bs ++ rest) bs rest ds s.abs_col s.abs_row s.col s.row front.0 front.1 (rw count (take-append_seam bs rest))
    (rw count (drop-append_seam bs rest)) named back.0 back.1 (decimal_row s.row low))

pub cell_of-address : (row col : ℕ) → row < 9999999 → col < 18278 → cell_of (address row col) ≡ Some (record { row = row; col = col; abs_row = false; abs_col = false })
cell_of-address row col low small =
    let text : address row col ≡ spot_text (record { row = row; col = col; abs_row = false; abs_col = false }) = simp append-nil in
    rw text (cell_of-spot_text (record { row = row; col = col; abs_row = false; abs_col = false }) low small)

-- no colon stands in an address
list_all-implies : (p q : ℕ → Bool) → ((b : ℕ) → p b ≡ true → q b ≡ true) → (bs : List ℕ) → list_all p bs ≡ true → list_all q bs ≡ true
list_all-implies p q imply [] h = refl
list_all-implies p q imply (b ∷ bs) h =
    let parts = both (p b) (list_all p bs) h in
    rw (imply b parts.0, list_all-implies p q imply bs parts.1)

dollar_other : (mark : Bool) → list_all (λ b. not (is_colon b)) (dollar mark) ≡ true
dollar_other true = refl
dollar_other false = refl

letter_other : (b : ℕ) → is_ascii_alphabetic b ≡ true → not (is_colon b) ≡ true
letter_other b h = grind (arith, nat_tests)

digit_other : (b : ℕ) → is_ascii_digit b ≡ true → not (is_colon b) ≡ true
digit_other b h = grind (arith, nat_tests)

spot_text_other : (s : Spot) → s.row < 9999999 → s.col < 18278 → list_all (λ b. not (is_colon b)) (spot_text s) ≡ true
spot_text_other s low small =
    let named = named_all (letters s.col) s.col (col_named-letters s.col small) in
    let digits = digits_decimal digits_model (s.row + 1) (omega arith) in
    let p : ℕ → Bool = λ b. not (is_colon b) in
    simp (
      list_all-append,
      dollar_other s.abs_col,
      dollar_other s.abs_row,
      list_all-implies is_ascii_alphabetic p letter_other (letters s.col) named,
      list_all-implies is_ascii_digit p digit_other (decimal (s.row + 1)) digits,
    )

-- the first colon stands behind what has none
colon_after : (bs rest : List ℕ) → list_all (λ b. not (is_colon b)) bs ≡ true → position_or_len is_colon (bs ++ 58 ∷ rest) ≡ length bs
colon_after [] rest h = refl
colon_after (b ∷ bs) rest h =
    let parts = both (not (is_colon b)) (list_all (λ x. not (is_colon x)) bs) h in
    let more = colon_after bs rest parts.1 in
    rw parts.0 (omega (arith, more))

colon_position : (bs rest : List ℕ) → list_all (λ b. not (is_colon b)) bs ≡ true → position is_colon (bs ++ 58 ∷ rest) ≡ Some (length bs)
colon_position bs rest h =
    let within : length bs < length (bs ++ 58 ∷ rest) = rw length-append (omega arith) in
    rw (colon_after bs rest h, lt-ltb (length bs) (length (bs ++ 58 ∷ rest)) within)

range_of-parts : (bs rest : List ℕ) (a b : Spot) → list_all (λ b. not (is_colon b)) bs ≡ true → cell_of bs ≡ Some a → cell_of rest ≡ Some b → range_of (bs ++ 58 ∷ rest) ≡ Some (range_between a b)
range_of-parts bs rest a b h e f =
    let second : drop (length bs + 1) (bs ++ 58 ∷ rest) ≡ rest = drop-append-add bs (58 ∷ rest) 1 in
    ap (λ (at : Option ℕ). range_at at (bs ++ 58 ∷ rest)) (colon_position bs rest h)
    ∙ rw (take-append_seam bs (58 ∷ rest), second, e, f)

at_most : (m n : ℕ) → m ≤ n → nat_le m n ≡ true
at_most m n h = grind (arith, nat_tests)

range_between-ordered : (s : Span) → s.top ≤ s.bottom → s.left ≤ s.right →
    range_between (record { row = s.top; col = s.left; abs_row = s.abs_top; abs_col = s.abs_left }) (record { row = s.bottom; col = s.right; abs_row = s.abs_bottom; abs_col = s.abs_right }) ≡ s
range_between-ordered s rows cols = rw (at_most s.top s.bottom rows, at_most s.left s.right cols)

pub range_of-span_text : (s : Span) → s.top ≤ s.bottom → s.left ≤ s.right → s.bottom < 9999999 → s.right < 18278 → range_of (span_text s) ≡ Some s
range_of-span_text s rows cols low small =
    let first : Spot = record { row = s.top; col = s.left; abs_row = s.abs_top; abs_col = s.abs_left } in
    let last : Spot = record { row = s.bottom; col = s.right; abs_row = s.abs_bottom; abs_col = s.abs_right } in
    range_of-parts (spot_text first) (spot_text last) first last (spot_text_other first (omega arith) (omega arith)) (cell_of-spot_text first (omega arith) (omega arith))
    (cell_of-spot_text last low small)
    ∙ ap Some (range_between-ordered s rows cols)
