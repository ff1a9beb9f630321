-- the bytes of an address are those of a cell, and the other way round
use Rattle.std.proofs.Common.{◌≡◌, ℕ, suc, ◌+◌, ◌*◌, ◌≤◌, Bool, true, false, cond, ◌&&◌, nat_lt, nat_eq, List, [], ◌∷◌, ◌++◌, length, take, drop, Option, Some, None, refl, ap, sym, ◌∙◌, arith}
use Rattle.std.specs.Prelude.{pred, take_while, option_map}
use Rattle.std.specs.Char.{is_ascii_alphabetic, is_ascii_digit}
use Rattle.std.specs.Int.{is_in_range}
use Rattle.std.specs.List.{list_all, prefix_len}
use Rattle.std.specs.Str.Parse.{digits_value}
use Rattle.std.proofs.lemmas.Bool.{and_parts, and_from, lt-ltb}
use Rattle.std.proofs.lemmas.List.{take-append-drop}
use Rattle.std.proofs.Math.Seq.{take-append_seam, drop-append_seam}
use Rattle.ss_base.specs.declared.types.Spot.{Spot}
use Rattle.cell_addr.specs.Columns.{col_named, alphabet_place}
use Rattle.cell_addr.specs.Rows.{is_count, row_numbered}
use Rattle.cell_addr.specs.Cells.{has_dollar, past_dollar, past_letters, spot_of, cell_of, dollar}
use Rattle.formula_read.specs.declared.partial.Corner.{Corner}
use Rattle.formula_read.specs.declared.partial.Corner.TheVariants.{Start, Dollar, Letters, Fixed, Digits}
use Rattle.formula_read.specs.Partial.{corner_step}
use Rattle.formula_read.proofs.Choices.{on_test, nothing, same_number, all_parts, letter_is_no_dollar, first_is_no_letter, first_is_no_dollar}
use Rattle.formula_read.proofs.Corners.{IsColumn, CornerHolds, count_parts}

-- where a front of elements that pass ends
front_ends : (ls rest : List ℕ) → list_all is_ascii_alphabetic ls ≡ true → prefix_len is_ascii_alphabetic rest ≡ 0 → prefix_len is_ascii_alphabetic (ls ++ rest) ≡ length ls
front_ends [] rest h z = z
front_ends (l ∷ ls) rest h z =
    let (here, more) = all_parts is_ascii_alphabetic l ls h in
    rw here (let e = front_ends ls rest more z in omega arith)

letters_end : (ls rest : List ℕ) → list_all is_ascii_alphabetic ls ≡ true → prefix_len is_ascii_alphabetic rest ≡ 0 →
    (take_while is_ascii_alphabetic (ls ++ rest) ≡ ls) × (past_letters (ls ++ rest) ≡ rest)
letters_end ls rest h z =
    let e = front_ends ls rest h z in
    (ap (λ (n : ℕ). take n (ls ++ rest)) e ∙ take-append_seam ls rest, ap (λ (n : ℕ). drop n (ls ++ rest)) e ∙ drop-append_seam ls rest)

-- a `$` or none before bytes that don't begin with one
record HasFront (d : Bool) (text rest : List ℕ) : Type 0 where
  mark : has_dollar text ≡ d
  past : past_dollar text ≡ rest

front_of : (d : Bool) (b : ℕ) (bs : List ℕ) → nat_eq b 36 ≡ false → HasFront d (dollar d ++ (b ∷ bs)) (b ∷ bs)
front_of true b bs h = record { mark = refl; past = refl }
front_of false b bs h = record { mark = h; past = rw h }

row_front : (e : Bool) (d : ℕ) (ds : List ℕ) → is_in_range 49 57 d ≡ true → prefix_len is_ascii_alphabetic (dollar e ++ d ∷ ds) ≡ 0
row_front true d ds h = refl
row_front false d ds h = rw (first_is_no_letter d h)

column_named : (n : ℕ) (ls : List ℕ) → IsColumn n ls → (k : ℕ) × (col_named ls ≡ Some k)
column_named n [] c = absurd (let size = c.size in let some = c.some in omega arith)
column_named n (a ∷ []) c =
    let (h, _) = all_parts is_ascii_alphabetic a [] c.letters in (alphabet_place a, rw h)
column_named n (a ∷ b ∷ []) c =
    let (h, t) = all_parts is_ascii_alphabetic a (b ∷ []) c.letters in
    let (i, _) = all_parts is_ascii_alphabetic b [] t in
    (26 + alphabet_place a * 26 + alphabet_place b, rw (h, i))
column_named n (a ∷ b ∷ d ∷ []) c =
    let (h, t) = all_parts is_ascii_alphabetic a (b ∷ d ∷ []) c.letters in
    let (i, u) = all_parts is_ascii_alphabetic b (d ∷ []) t in
    let (j, _) = all_parts is_ascii_alphabetic d [] u in
    (702 + alphabet_place a * 676 + alphabet_place b * 26 + alphabet_place d, rw (h, i, j))
column_named n (a ∷ b ∷ d ∷ e ∷ ls) c = absurd (let size = c.size in let few = c.few in omega arith)

row_named : (ds : List ℕ) → is_count ds ≡ true → (r : ℕ) × (row_numbered ds ≡ Some r)
row_named ds h = (pred (digits_value 10 ds), ap (λ (t : Bool). option_map pred (cond t (Some (digits_value 10 ds)) None)) h)

-- a cell by its parts
by_parts : (text col ls row ds : List ℕ) (d e : Bool) → HasFront d text col → take_while is_ascii_alphabetic col ≡ ls → past_letters col ≡ row → HasFront e row ds →
    cell_of text ≡ spot_of d (col_named ls) e (row_numbered ds)
by_parts text col ls row ds d e f t p g =
    (λ i. spot_of (f.mark i) (col_named (take_while is_ascii_alphabetic (f.past i))) (has_dollar (past_letters (f.past i))) (row_numbered (past_dollar (past_letters (f.past i)))))
    ∙ ((λ i. spot_of d (col_named (t i)) (has_dollar (p i)) (row_numbered (past_dollar (p i))))
    ∙ (λ i. spot_of d (col_named ls) (g.mark i) (row_numbered (g.past i))))

pub spelled_cell : (m : ℕ) (p : List ℕ) → CornerHolds (Digits m) p → (c : Spot) × (cell_of p ≡ Some c)
spelled_cell m p (d, [], n, e, ds, c, r, q) = absurd (let size = c.size in let some = c.some in omega arith)
spelled_cell m p (d, l ∷ ls, n, e, [], c, r, q) = absurd (let count = r.count in cc)
spelled_cell m p (d, l ∷ ls, n, e, b ∷ ds, c, r, q) =
    let (first, _, _) = count_parts b ds r.count in
    let (letter, _) = all_parts is_ascii_alphabetic l ls c.letters in
    let (k, named) = column_named n (l ∷ ls) c in
    let (j, numbered) = row_named (b ∷ ds) r.count in
    let (taken, past) = letters_end (l ∷ ls) (dollar e ++ b ∷ ds) c.letters (row_front e b ds first) in
    let whole = by_parts (dollar d ++ (l ∷ ls ++ (dollar e ++ b ∷ ds))) _ (l ∷ ls) (dollar e ++ b ∷ ds) (b ∷ ds) d e
    (front_of d l (ls ++ (dollar e ++ b ∷ ds)) (letter_is_no_dollar l letter)) taken past (front_of e b ds (first_is_no_dollar b first)) in
    (record { row = j; col = k; abs_row = e; abs_col = d }, ap cell_of q ∙ (whole ∙ (λ i. spot_of d (named i) e (numbered i))))

-- and back
split_dollar : (text : List ℕ) → text ≡ dollar (has_dollar text) ++ past_dollar text
split_dollar [] = refl
split_dollar (b ∷ bs) = by_dollar (nat_eq b 36) refl
  where
    by_dollar : (t : Bool) → nat_eq b 36 ≡ t → b ∷ bs ≡ dollar t ++ cond t bs (b ∷ bs)
    by_dollar true h = λ i. same_number b 36 h i ∷ bs
    by_dollar false h = refl

spot_parts : (d e : Bool) (x y : Option ℕ) (c : Spot) → spot_of d x e y ≡ Some c → ((k : ℕ) × (x ≡ Some k)) × ((r : ℕ) × (y ≡ Some r))
spot_parts d e None y c h = nothing h
spot_parts d e (Some k) None c h = nothing h
spot_parts d e (Some k) (Some r) c h = ((k, refl), (r, refl))

named_column : (ls : List ℕ) (k : ℕ) → col_named ls ≡ Some k → (n : ℕ) × IsColumn n ls
named_column [] k h = nothing h
named_column (a ∷ []) k h = on_test (is_ascii_alphabetic a) _ _ k h
    (λ t _. (1, record { letters = and_from (is_ascii_alphabetic a) true t refl; size = refl; some = omega arith; few = omega arith })) (λ _ m. nothing m)
named_column (a ∷ b ∷ []) k h = on_test (is_ascii_alphabetic a && is_ascii_alphabetic b) _ _ k h
    (λ t _. let (i, j) = and_parts (is_ascii_alphabetic a) (is_ascii_alphabetic b) t in
    (2, record { letters = and_from (is_ascii_alphabetic a) (is_ascii_alphabetic b && true) i (and_from (is_ascii_alphabetic b) true j refl); size = refl; some = omega arith; few = omega arith })) (λ _ m. nothing m)
named_column (a ∷ b ∷ d ∷ []) k h = on_test (is_ascii_alphabetic a && (is_ascii_alphabetic b && is_ascii_alphabetic d)) _ _ k h
    (λ t _. let (i, u) = and_parts (is_ascii_alphabetic a) (is_ascii_alphabetic b && is_ascii_alphabetic d) t in
    let (j, l) = and_parts (is_ascii_alphabetic b) (is_ascii_alphabetic d) u in (
      3,
      record {
        letters = and_from (is_ascii_alphabetic a) (is_ascii_alphabetic b && (is_ascii_alphabetic d && true)) i
            (and_from (is_ascii_alphabetic b) (is_ascii_alphabetic d && true) j (and_from (is_ascii_alphabetic d) true l refl));
        size = refl;
        some = omega arith;
        few = omega arith;
      },
    )) (λ _ m. nothing m)
named_column (a ∷ b ∷ d ∷ e ∷ ls) k h = nothing h

numbered_row : (ds : List ℕ) (r : ℕ) → row_numbered ds ≡ Some r → is_count ds ≡ true
numbered_row ds r h = by_count (is_count ds) refl h
  where
    by_count : (t : Bool) → is_count ds ≡ t → option_map pred (cond t (Some (digits_value 10 ds)) None) ≡ Some r → is_count ds ≡ true
    by_count true k m = k
    by_count false k m = nothing m

pub cell_spelled : (p : List ℕ) (c : Spot) → cell_of p ≡ Some c → (m : ℕ) × CornerHolds (Digits m) p
cell_spelled p c h =
    let col = past_dollar p in
    let row = past_letters col in
    let ls = take_while is_ascii_alphabetic col in
    let ((k, named), (r, numbered)) = spot_parts (has_dollar p) (has_dollar row) _ _ c h in
    let (n, column) = named_column ls k named in
    let whole : p ≡ dollar (has_dollar p) ++ (ls ++ (dollar (has_dollar row) ++ past_dollar row)) =
    split_dollar p ∙ (ap (λ (l : List ℕ). dollar (has_dollar p) ++ l) (sym (take-append-drop (prefix_len is_ascii_alphabetic col) col))
    ∙ ap (λ (l : List ℕ). dollar (has_dollar p) ++ (ls ++ l)) (split_dollar row)) in
    (length (past_dollar row), (has_dollar p, ls, n, has_dollar row, past_dollar row, column, record { count = numbered_row (past_dollar row) r numbered; size = refl }, whole))

-- What is at hand after more bytes, if an address can begin so.
abbrev pub corner_run : Option Corner → List ℕ → Option Corner
corner_run None bs = None
corner_run (Some c) [] = Some c
corner_run (Some c) (b ∷ bs) = corner_run (corner_step c b) bs

pub corner_run-append : (c : Option Corner) (xs ys : List ℕ) → corner_run c (xs ++ ys) ≡ corner_run (corner_run c xs) ys
corner_run-append None xs ys = refl
corner_run-append (Some c) [] ys = refl
corner_run-append (Some c) (x ∷ xs) ys = corner_run-append (corner_step c x) xs ys

letter_step : (n l : ℕ) → is_ascii_alphabetic l ≡ true → nat_lt n 3 ≡ true → corner_step (Letters n) l ≡ Some (Letters (n + 1))
letter_step n l h room = rw (h, room)

digit_step : (n d : ℕ) → is_ascii_digit d ≡ true → nat_lt n 7 ≡ true → corner_step (Digits n) d ≡ Some (Digits (n + 1))
digit_step n d h room = rw (h, room)

row_step : (n b : ℕ) → is_in_range 49 57 b ≡ true → corner_step (Letters n) b ≡ Some (Digits 1)
row_step n b h = rw (first_is_no_letter b h, first_is_no_dollar b h, h)

fixed_step : (b : ℕ) → is_in_range 49 57 b ≡ true → corner_step Fixed b ≡ Some (Digits 1)
fixed_step b h = rw h

start_step : (l : ℕ) → is_ascii_alphabetic l ≡ true → corner_step Start l ≡ Some (Letters 1)
start_step l h = rw h

dollar_step : (l : ℕ) → is_ascii_alphabetic l ≡ true → corner_step Dollar l ≡ Some (Letters 1)
dollar_step l h = rw h

letters_run : (n : ℕ) (ls : List ℕ) → list_all is_ascii_alphabetic ls ≡ true → n + length ls ≤ 3 → corner_run (Some (Letters n)) ls ≡ Some (Letters (n + length ls))
letters_run n [] h few = λ i. Some (Letters (none n i))
  where
    none : (a : ℕ) → a ≡ a + 0
    none a = omega arith
letters_run n (l ∷ ls) h few =
    let (here, more) = all_parts is_ascii_alphabetic l ls h in
    ap (λ (o : Option Corner). corner_run o ls) (letter_step n l here (lt-ltb n 3 (omega arith))) ∙ (letters_run (n + 1) ls more (omega arith) ∙ (λ i. Some (Letters (shift n (length ls) i))))
  where
    shift : (a b : ℕ) → (a + 1) + b ≡ a + suc b
    shift a b = omega arith

digits_run : (n : ℕ) (ds : List ℕ) → list_all is_ascii_digit ds ≡ true → n + length ds ≤ 7 → corner_run (Some (Digits n)) ds ≡ Some (Digits (n + length ds))
digits_run n [] h few = λ i. Some (Digits (none n i))
  where
    none : (a : ℕ) → a ≡ a + 0
    none a = omega arith
digits_run n (d ∷ ds) h few =
    let (here, more) = all_parts is_ascii_digit d ds h in
    ap (λ (o : Option Corner). corner_run o ds) (digit_step n d here (lt-ltb n 7 (omega arith))) ∙ (digits_run (n + 1) ds more (omega arith) ∙ (λ i. Some (Digits (shift n (length ds) i))))
  where
    shift : (a b : ℕ) → (a + 1) + b ≡ a + suc b
    shift a b = omega arith

column_run : (d : Bool) (l : ℕ) (ls : List ℕ) → is_ascii_alphabetic l ≡ true → corner_run (Some Start) (dollar d ++ (l ∷ ls)) ≡ corner_run (Some (Letters 1)) ls
column_run true l ls h = ap (λ (o : Option Corner). corner_run o ls) (dollar_step l h)
column_run false l ls h = ap (λ (o : Option Corner). corner_run o ls) (start_step l h)

row_run : (n : ℕ) (e : Bool) (b : ℕ) (ds : List ℕ) → is_in_range 49 57 b ≡ true → corner_run (Some (Letters n)) (dollar e ++ b ∷ ds) ≡ corner_run (Some (Digits 1)) ds
row_run n true b ds h = ap (λ (o : Option Corner). corner_run o ds) (fixed_step b h)
row_run n false b ds h = ap (λ (o : Option Corner). corner_run o ds) (row_step n b h)

-- the bytes of an address are followed to its end
pub corner_completes : (m : ℕ) (p : List ℕ) → CornerHolds (Digits m) p → corner_run (Some Start) p ≡ Some (Digits m)
corner_completes m p (d, [], n, e, ds, c, r, q) = absurd (let size = c.size in let some = c.some in omega arith)
corner_completes m p (d, l ∷ ls, n, e, [], c, r, q) = absurd (let count = r.count in cc)
corner_completes m p (d, l ∷ ls, n, e, b ∷ ds, c, r, q) =
    let (first, all, short) = count_parts b ds r.count in
    let (_, digits) = all_parts is_ascii_digit b ds all in
    let (letter, letters) = all_parts is_ascii_alphabetic l ls c.letters in
    let rest = dollar e ++ b ∷ ds in
    ap (λ (l : List ℕ). corner_run (Some Start) l) q
    ∙ (column_run d l (ls ++ rest) letter
    ∙ (corner_run-append (Some (Letters 1)) ls rest
    ∙ (ap (λ (o : Option Corner). corner_run o rest) (letters_run 1 ls letters (let size = c.size in let few = c.few in omega arith))
    ∙ (row_run (1 + length ls) e b ds first
    ∙ (digits_run 1 ds digits (omega arith) ∙ (λ i. Some (Digits (sizes i))))))))
  where
    sizes : 1 + length ds ≡ m
    sizes = let size = r.size in omega arith
