-- what a token is worth, by its bytes
use Rattle.std.proofs.Common.{◌≡◌, ◌≢◌, ℕ, pred, ◌+◌, ◌-◌, ◌*◌, ◌<◌, ◌≤◌, Bool, true, false, cond, not, ◌&&◌, nat_le, nat_eq, List, [], ◌∷◌, ◌++◌, length, take, drop, get_or, position, take_while, Option, Some, None, refl, ap, sym, ◌∙◌, subst, append_assoc, arith}
use Rattle.std.specs.Prelude.{option_map}
use Rattle.std.specs.Char.{is_ascii_alphabetic, is_ascii_digit, digit_value}
use Rattle.std.specs.Int.{IsInRange}
use Rattle.std.specs.List.{list_all, position_or_len}
use Rattle.std.specs.Str.Parse.{AllDigits, digits_value}
use Rattle.std.proofs.Math.Seq.{take-append_seam, drop-append-add}
use Rattle.std.proofs.lemmas.Bool.{and_parts, lt-ltb, leb-true}
use Rattle.std.proofs.lemmas.Bool.Decides.{nat_tests}
use Rattle.std.proofs.lemmas.Int.Digits.{digits_value_more}
use Rattle.std.proofs.lemmas.List.{append-nil, length-append, take_at, drop-drop, drop_more, drop_all}
use Rattle.std.proofs.lemmas.List.Folds.{list_all-append}
use Rattle.std.proofs.lemmas.Str.Parse.{digit_at, digits_value-take-le}
use Rattle.ss_base.specs.declared.types.Spot.{Spot}
use Rattle.ss_base.specs.declared.types.Span.{Span}
use Rattle.cell_addr.specs.Columns.{col_named, alphabet_place}
use Rattle.cell_addr.specs.Rows.{is_count, row_numbered}
use Rattle.cell_addr.specs.Cells.{has_dollar, past_dollar, past_letters, spot_of, cell_of, is_colon, range_of, range_at, range_between, dollar}
use Rattle.cell_addr.proofs.Digits.{count_size}
use Rattle.formula_tree.specs.Tokens.{SpellsRange, doubled}
use Rattle.formula_tree.specs.WellFormed.{IsCell, IsRange}
use Rattle.formula_read.proofs.Choices.{on_test, nothing, same, all_parts}
use Rattle.formula_read.proofs.Corners.{count_parts}
use Rattle.formula_read.proofs.Addresses.{cell_spelled}

-- A cell's row and column.
place_small : (b : ℕ) → is_ascii_alphabetic b ≡ true → alphabet_place b < 26
place_small b h = grind (arith, nat_tests)

column_small : (ls : List ℕ) (k : ℕ) → col_named ls ≡ Some k → k < 18278
column_small [] k h = nothing h
column_small (a ∷ []) k h = on_test (is_ascii_alphabetic a) _ _ k h
    (λ t m. let e = same m in let i = place_small a t in omega arith)
    (λ _ m. nothing m)
column_small (a ∷ b ∷ []) k h = on_test (is_ascii_alphabetic a && is_ascii_alphabetic b) _ _ k h
    (λ t m. let (p, q) = and_parts (is_ascii_alphabetic a) (is_ascii_alphabetic b) t in
    let e = same m in let i = place_small a p in let j = place_small b q in omega arith)
    (λ _ m. nothing m)
column_small (a ∷ b ∷ c ∷ []) k h = on_test (is_ascii_alphabetic a && (is_ascii_alphabetic b && is_ascii_alphabetic c)) _ _ k h
    (λ t m. let (p, u) = and_parts (is_ascii_alphabetic a) (is_ascii_alphabetic b && is_ascii_alphabetic c) t in
    let (q, r) = and_parts (is_ascii_alphabetic b) (is_ascii_alphabetic c) u in
    let e = same m in let i = place_small a p in let j = place_small b q in let l = place_small c r in omega arith)
    (λ _ m. nothing m)
column_small (a ∷ b ∷ c ∷ d ∷ ls) k h = nothing h

row_small : (ds : List ℕ) (r : ℕ) → row_numbered ds ≡ Some r → r < 9999999
row_small ds r h = by_count (is_count ds) refl h
  where
    by_count : (t : Bool) → is_count ds ≡ t → option_map pred (cond t (Some (digits_value 10 ds)) None) ≡ Some r → r < 9999999
    by_count true k m = let e = same m in let size = count_size ds k in let low = size.0 in let high = size.1 in omega arith
    by_count false k m = nothing m

parts_within : (d e : Bool) (x y : Option ℕ) (c : Spot) → spot_of d x e y ≡ Some c → ((k : ℕ) → x ≡ Some k → k < 18278) → ((r : ℕ) → y ≡ Some r → r < 9999999) → IsCell c
parts_within d e None y c h col row = nothing h
parts_within d e (Some k) None c h col row = nothing h
parts_within d e (Some k) (Some r) c h col row = subst (λ (s : Spot). IsCell s) (same h) (row r refl, col k refl)

pub cell_within : (p : List ℕ) (c : Spot) → cell_of p ≡ Some c → IsCell c
cell_within p c h =
    let col = past_dollar p in
    let row = past_letters col in
    parts_within (has_dollar p) (has_dollar row) (col_named (take_while is_ascii_alphabetic col)) (row_numbered (past_dollar row)) c h
    (λ k. column_small (take_while is_ascii_alphabetic col) k) (λ r. row_small (past_dollar row) r)

-- A range's ends.
abbrev ordered : Bool → Bool → Spot → Spot → Span
ordered down right a b = record {
  top = cond down a.row b.row;
  left = cond right a.col b.col;
  bottom = cond down b.row a.row;
  right = cond right b.col a.col;
  abs_top = cond down a.abs_row b.abs_row;
  abs_left = cond right a.abs_col b.abs_col;
  abs_bottom = cond down b.abs_row a.abs_row;
  abs_right = cond right b.abs_col a.abs_col;
}

other_way : (m n : ℕ) → nat_le m n ≡ false → n ≤ m
other_way m n h = grind (arith, nat_tests)

range_within : (a b : Spot) → IsCell a → IsCell b → IsRange (range_between a b)
range_within a b p q = by_tests (nat_le a.row b.row) (nat_le a.col b.col) refl refl
  where
    by_tests : (down right : Bool) → nat_le a.row b.row ≡ down → nat_le a.col b.col ≡ right → IsRange (ordered down right a b)
    by_tests true true d r = record { first = (p.0, p.1); last = (q.0, q.1); rows = leb-true _ _ d; cols = leb-true _ _ r }
    by_tests true false d r = record { first = (p.0, q.1); last = (q.0, p.1); rows = leb-true _ _ d; cols = other_way _ _ r }
    by_tests false true d r = record { first = (q.0, p.1); last = (p.0, q.1); rows = other_way _ _ d; cols = leb-true _ _ r }
    by_tests false false d r = record { first = (q.0, q.1); last = (p.0, p.1); rows = other_way _ _ d; cols = other_way _ _ r }

-- No colon stands in a cell's address.
abbrev no_colon : ℕ → Bool
no_colon b = not (is_colon b)

letter_no_colon : (b : ℕ) → is_ascii_alphabetic b ≡ true → no_colon b ≡ true
letter_no_colon b h = grind (arith, nat_tests)

digit_no_colon : (b : ℕ) → is_ascii_digit b ≡ true → no_colon b ≡ true
digit_no_colon b h = grind (arith, nat_tests)

dollar_no_colon : (d : Bool) → list_all no_colon (dollar d) ≡ true
dollar_no_colon true = refl
dollar_no_colon false = refl

all_so : (p q : ℕ → Bool) → ((b : ℕ) → p b ≡ true → q b ≡ true) → (bs : List ℕ) → list_all p bs ≡ true → list_all q bs ≡ true
all_so p q so [] h = refl
all_so p q so (b ∷ bs) h =
    let (here, more) = all_parts p b bs h in
    rw (so b here, all_so p q so bs more)

count_is_digits : (ds : List ℕ) → is_count ds ≡ true → list_all is_ascii_digit ds ≡ true
count_is_digits [] h = refl
count_is_digits (d ∷ ds) h = (count_parts d ds h).1

cell_no_colon : (p : List ℕ) (c : Spot) → cell_of p ≡ Some c → list_all no_colon p ≡ true
cell_no_colon p c h =
    let (m, (d, ls, n, e, ds, column, row, whole)) = cell_spelled p c h in
    ap (list_all no_colon) whole
    ∙ simp (
      list_all-append,
      dollar_no_colon d,
      dollar_no_colon e,
      all_so is_ascii_alphabetic no_colon letter_no_colon ls column.letters,
      all_so is_ascii_digit no_colon digit_no_colon ds (count_is_digits ds row.count),
    )

-- the first colon stands behind what has none
colon_after : (bs rest : List ℕ) → list_all no_colon bs ≡ true → position_or_len is_colon (bs ++ 58 ∷ rest) ≡ length bs
colon_after [] rest h = refl
colon_after (b ∷ bs) rest h =
    let (here, more) = all_parts no_colon b bs h in
    let after = colon_after bs rest more in
    rw here (omega arith)

pub spelled_range : (p : List ℕ) (r : Span) → SpellsRange p r → range_of p ≡ Some r
spelled_range p r (first, last, a, b, whole, f, l, e) =
    let after = colon_after first last (cell_no_colon first a f) in
    let size = length-append first (58 ∷ last) in
    let within : length first < length (first ++ 58 ∷ last) = omega arith in
    let colon : position is_colon (first ++ 58 ∷ last) ≡ Some (length first) = rw (after, lt-ltb (length first) (length (first ++ 58 ∷ last)) within) in
    let second : drop (length first + 1) (first ++ 58 ∷ last) ≡ last = drop-append-add first (58 ∷ last) 1 in
    ap range_of whole ∙ (ap (λ (at : Option ℕ). range_at at (first ++ 58 ∷ last)) colon
    ∙ (rw (take-append_seam first (58 ∷ last), second, f, l) refl ∙ ap Some (sym e)))

pub range_is_range : (p : List ℕ) (r : Span) → SpellsRange p r → IsRange r
range_is_range p r (first, last, a, b, whole, f, l, e) = subst IsRange (sym e) (range_within a b (cell_within first a f) (cell_within last b l))

-- A text with each pair of quotes as one.
abbrev pub undoubled : List ℕ → List ℕ
undoubled [] = []
undoubled (b ∷ []) = b ∷ []
undoubled (b ∷ c ∷ bs) = cond (nat_eq b 34) (b ∷ undoubled bs) (b ∷ undoubled (c ∷ bs))

undoubled_other : (b : ℕ) (bs : List ℕ) → nat_eq b 34 ≡ false → undoubled (b ∷ bs) ≡ b ∷ undoubled bs
undoubled_other b [] h = refl
undoubled_other b (c ∷ bs) h = ap (λ (t : Bool). cond t (b ∷ undoubled bs) (b ∷ undoubled (c ∷ bs))) h

pub undoubled-doubled : (t : List ℕ) → undoubled (doubled t) ≡ t
undoubled-doubled [] = refl
undoubled-doubled (b ∷ bs) = by_quote (nat_eq b 34) refl (undoubled-doubled bs)
  where
    quote : (m : ℕ) → nat_eq m 34 ≡ true → 34 ≡ m
    quote m h = grind (arith, nat_tests)

    by_quote : (t : Bool) → nat_eq b 34 ≡ t → undoubled (doubled bs) ≡ bs → undoubled (cond t (34 ∷ 34 ∷ doubled bs) (b ∷ doubled bs)) ≡ b ∷ bs
    by_quote true k e = λ i. quote b k i ∷ e i
    by_quote false k e = undoubled_other b (doubled bs) k ∙ ap (λ (l : List ℕ). b ∷ l) e

undoubled_quote : (bs : List ℕ) → undoubled (34 ∷ bs) ≡ 34 ∷ undoubled (drop 1 bs)
undoubled_quote [] = refl
undoubled_quote (c ∷ bs) = refl

-- one more byte between the quotes
pub undone_more : (inner out : List ℕ) (at step : ℕ) → at < length inner → (get_or inner at 0 ≡ 34 → step ≡ 2) → (get_or inner at 0 ≢ 34 → step ≡ 1) →
    undoubled inner ≡ out ++ undoubled (drop at inner) → undoubled inner ≡ (out ++ get_or inner at 0 ∷ []) ++ undoubled (drop (at + step) inner)
undone_more inner out at step within pair single done =
    done ∙ (ap (λ (l : List ℕ). out ++ l) (ap undoubled (drop_more inner at 0 within) ∙ by_byte (get_or inner at 0) pair single (nat_eq (get_or inner at 0) 34) refl)
    ∙ sym (append_assoc out (get_or inner at 0 ∷ []) (undoubled (drop (at + step) inner))))
  where
    is_quote : (b : ℕ) → nat_eq b 34 ≡ true → b ≡ 34
    is_quote b h = grind (arith, nat_tests)

    no_quote : (b : ℕ) → nat_eq b 34 ≡ false → b ≢ 34
    no_quote b h e = absurd (let test : nat_eq b 34 ≡ true = grind (arith, nat_tests) in cc)

    by_byte : (b : ℕ) → (b ≡ 34 → step ≡ 2) → (b ≢ 34 → step ≡ 1) → (t : Bool) → nat_eq b 34 ≡ t →
        undoubled (b ∷ drop (at + 1) inner) ≡ b ∷ undoubled (drop (at + step) inner)
    by_byte b pair single true h =
        let e = is_quote b h in
        let two : drop 1 (drop (at + 1) inner) ≡ drop (at + step) inner = drop-drop 1 (at + 1) inner ∙ ap (λ (n : ℕ). drop n inner) (let s = pair e in omega arith) in
        ap (λ (b : ℕ). undoubled (b ∷ drop (at + 1) inner)) e ∙ (undoubled_quote (drop (at + 1) inner) ∙ (λ i. sym e i ∷ undoubled (two i)))
    by_byte b pair single false h =
        undoubled_other b (drop (at + 1) inner) h ∙ ap (λ (n : ℕ). b ∷ undoubled (drop (at + n) inner)) (sym (single (no_quote b h)))

-- what stands between the quotes
between_quotes : (t : List ℕ) → take (length (34 ∷ doubled t ++ 34 ∷ []) - 1 - 1) (drop 1 (34 ∷ doubled t ++ 34 ∷ [])) ≡ doubled t
between_quotes t = take_at (doubled t) (34 ∷ []) (length (34 ∷ doubled t ++ 34 ∷ []) - 1 - 1) (let size = length-append (doubled t) (34 ∷ []) in omega arith)

pub undone_all : (q out : List ℕ) (at : ℕ) → ((t : List ℕ) × (q ≡ 34 ∷ doubled t ++ 34 ∷ [])) → length (take (length q - 1 - 1) (drop 1 q)) ≤ at →
    undoubled (take (length q - 1 - 1) (drop 1 q)) ≡ out ++ undoubled (drop at (take (length q - 1 - 1) (drop 1 q))) → q ≡ 34 ∷ doubled out ++ 34 ∷ []
undone_all q out at (t, e) past done =
    let inner : take (length q - 1 - 1) (drop 1 q) ≡ doubled t = ap (λ (q : List ℕ). take (length q - 1 - 1) (drop 1 q)) e ∙ between_quotes t in
    let none : undoubled (drop at (take (length q - 1 - 1) (drop 1 q))) ≡ [] = ap undoubled (drop_all at (take (length q - 1 - 1) (drop 1 q)) past) in
    let all : t ≡ out = sym (undoubled-doubled t) ∙ (ap undoubled (sym inner) ∙ (done ∙ (ap (λ (l : List ℕ). out ++ l) none ∙ append-nil out))) in
    e ∙ ap (λ (t : List ℕ). 34 ∷ doubled t ++ 34 ∷ []) all

-- One more digit.
pub record IsDigitMore (ds : List ℕ) (i : ℕ) : Type 0 where
  pub low : 48 ≤ get_or ds i 0
  pub more : digits_value 10 (take (i + 1) ds) ≡ digits_value 10 (take i ds) * 10 + (get_or ds i 0 - 48)
  pub most : digits_value 10 (take (i + 1) ds) ≤ digits_value 10 ds

pub digit_more : (ds : List ℕ) (i : ℕ) → AllDigits 10 ds → i < length ds → IsDigitMore ds i
digit_more ds i digits within =
    let range = digit_at ds i digits within in
    record {
      low = range.0;
      more = digits_value_more 10 ds i within ∙ ap (λ (d : ℕ). digits_value 10 (take i ds) * 10 + d) (by_value (get_or ds i 0) range);
      most = digits_value-take-le 10 ds (i + 1) (omega arith);
    }
  where
    by_value : (b : ℕ) → IsInRange 48 57 b → digit_value b ≡ b - 48
    by_value b h = grind (arith, nat_tests)
