-- The range that a line reads has addresses.
use Rattle.std.proofs.Common.{◌≡◌, ℕ, zero, suc, pred, ◌+◌, ◌*◌, ◌≤◌, ◌<◌, take, drop, Bool, true, false, cond, List, [], ◌∷◌, refl, subst, arith, Option, Some, None}
use Rattle.std.specs.Prelude.{nat_le, ◌&&◌, ◌||◌, option_map, position, codes}
use Rattle.std.specs.Char.{is_ascii_alphabetic}
use Rattle.std.specs.List.{list_all, take_while, join_with_byte}
use Rattle.std.specs.Str.{bytes_eq}
use Rattle.std.specs.Str.Parse.{digits_value}
use Rattle.std.proofs.lemmas.Bool.Decides.{nat_tests}
use Rattle.ss_base.specs.declared.types.Spot.{Spot}
use Rattle.ss_base.specs.declared.types.Span.{Span}
use Rattle.cell_addr.specs.Cells.{has_dollar, past_dollar, past_letters, spot_of, cell_of, range_of, range_at, span_of_corners, is_colon}
use Rattle.cell_addr.specs.Columns.{alphabet_place, col_named}
use Rattle.cell_addr.specs.Rows.{is_count, counted, row_numbered}
use Rattle.cell_addr.proofs.Digits.{count_size}
use Rattle.sheet_ops.specs.declared.edit.Edit.{Edit}
use Rattle.sheet_ops.specs.declared.edit.Edit.TheVariants as edit
use Rattle.script_read.specs.declared.command.Command.{Command}
use Rattle.script_read.specs.declared.command.Command.TheVariants as command
use Rattle.script_read.specs.Commands.{command_of, is_note, sheet_sized, push_of, pull_of, plain_cell, plain_range, set_of, clear_of, read_of, copy_of, row_range_of, is_downward, sort_command, sort_of, line_edit_of, of_one_word, of_one_site, of_two_words, of_one_line, of_three_words, of_more_words, of_words}
use Rattle.script_read.specs.Words.{is_line_byte, words, named}
use Rattle.live_script.specs.SoFar.{CommandAddressed}

-- ---- rows, columns and cells

abbrev IsBelow : ℕ → Option ℕ → Type 0
IsBelow end None = Unit {0}
IsBelow end (Some n) = n < end

row_below : (text : List ℕ) → IsBelow 9999999 (row_numbered text)
row_below text = by_test (is_count text) refl
  where
    below : (n : ℕ) → (1 ≤ n) × (n ≤ 9999999) → pred n < 9999999
    below zero h = absurd (omega (arith, h))
    below (suc n) h = omega (arith, h)

    by_test : (b : Bool) → is_count text ≡ b → IsBelow 9999999 (option_map pred (cond b (Some (digits_value 10 text)) None))
    by_test true e = below (digits_value 10 text) (count_size text e)
    by_test false e = tt

place_below : (b : ℕ) → is_ascii_alphabetic b ≡ true → alphabet_place b < 26
place_below b h = grind (arith, nat_tests)

col_below : (text : List ℕ) → IsBelow 18278 (col_named text)
col_below [] = tt
col_below (a ∷ []) = by_test (is_ascii_alphabetic a) refl
  where
    by_test : (t : Bool) → is_ascii_alphabetic a ≡ t → IsBelow 18278 (cond t (Some (alphabet_place a)) None)
    by_test true e = let p = place_below a e in omega (arith, p)
    by_test false e = tt
col_below (a ∷ b ∷ []) = by_tests (is_ascii_alphabetic a) (is_ascii_alphabetic b) refl refl
  where
    by_tests : (s t : Bool) → is_ascii_alphabetic a ≡ s → is_ascii_alphabetic b ≡ t → IsBelow 18278 (cond (s && t) (Some (26 + alphabet_place a * 26 + alphabet_place b)) None)
    by_tests true true e f = let p = place_below a e in let q = place_below b f in omega (arith, p, q)
    by_tests true false e f = tt
    by_tests false t e f = tt
col_below (a ∷ b ∷ c ∷ []) = by_tests (is_ascii_alphabetic a) (is_ascii_alphabetic b) (is_ascii_alphabetic c) refl refl refl
  where
    by_tests : (s t u : Bool) → is_ascii_alphabetic a ≡ s → is_ascii_alphabetic b ≡ t → is_ascii_alphabetic c ≡ u →
        IsBelow 18278 (cond (s && (t && u)) (Some (702 + alphabet_place a * 676 + alphabet_place b * 26 + alphabet_place c)) None)
    by_tests true true true e f g = let p = place_below a e in let q = place_below b f in let r = place_below c g in omega (arith, p, q, r)
    by_tests true true false e f g = tt
    by_tests true false u e f g = tt
    by_tests false t u e f g = tt
col_below (a ∷ b ∷ c ∷ d ∷ ds) = tt

abbrev SpotAddressed : Option Spot → Type 0
SpotAddressed None = Unit {0}
SpotAddressed (Some spot) = (spot.row < 9999999) × (spot.col < 18278)

cell_addressed : (text : List ℕ) → SpotAddressed (cell_of text)
cell_addressed text =
    let col = past_dollar text in
    let row = past_letters col in
    by_parts (has_dollar text) (col_named (take_while is_ascii_alphabetic col)) (has_dollar row) (row_numbered (past_dollar row))
    (col_below (take_while is_ascii_alphabetic col)) (row_below (past_dollar row))
  where
    by_parts : (abs_col : Bool) (col : Option ℕ) (abs_row : Bool) (row : Option ℕ) → IsBelow 18278 col → IsBelow 9999999 row → SpotAddressed (spot_of abs_col col abs_row row)
    by_parts abs_col None abs_row row c r = tt
    by_parts abs_col (Some col) abs_row None c r = tt
    by_parts abs_col (Some col) abs_row (Some row) c r = (r, c)

-- ---- ranges

abbrev SpanAddressed : Option Span → Type 0
SpanAddressed None = Unit {0}
SpanAddressed (Some range) = (range.bottom < 9999999) × (range.right < 18278)

corners_addressed : (a b : Option Spot) → SpotAddressed a → SpotAddressed b → SpanAddressed (span_of_corners a b)
corners_addressed None b h k = tt
corners_addressed (Some a) None h k = tt
corners_addressed (Some a) (Some b) h k = (by_test (nat_le a.row b.row) b.row a.row 9999999 k.0 h.0, by_test (nat_le a.col b.col) b.col a.col 18278 k.1 h.1)
  where
    by_test : (t : Bool) (m n end : ℕ) → m < end → n < end → cond t m n < end
    by_test true m n end h k = h
    by_test false m n end h k = k

range_addressed : (text : List ℕ) → SpanAddressed (range_of text)
range_addressed text = at_colon (position is_colon text)
  where
    at_colon : (o : Option ℕ) → SpanAddressed (range_at o text)
    at_colon None = corners_addressed (cell_of text) (cell_of text) (cell_addressed text) (cell_addressed text)
    at_colon (Some colon) = corners_addressed (cell_of (take colon text)) (cell_of (drop (colon + 1) text)) (cell_addressed (take colon text)) (cell_addressed (drop (colon + 1) text))

plain_addressed : (o : Option Span) → SpanAddressed o → SpanAddressed (plain_range o)
plain_addressed None h = tt
plain_addressed (Some range) h = by_test ((range.abs_top || range.abs_left) || (range.abs_bottom || range.abs_right))
  where
    by_test : (t : Bool) → SpanAddressed (cond t None (Some range))
    by_test true = tt
    by_test false = h

-- ---- lines

abbrev IsGood : Option Command → Type 0
IsGood None = Unit {0}
IsGood (Some c) = CommandAddressed c

good_if : (b : Bool) (x y : Option Command) → IsGood x → IsGood y → IsGood (cond b x y)
good_if true x y g h = g
good_if false x y g h = h

good_map : {A : Type 0} (f : A → Command) → ((x : A) → CommandAddressed (f x)) → (o : Option A) → IsGood (option_map f o)
good_map f h None = tt
good_map f h (Some x) = h x

good_sheet : (rows cols : Option ℕ) → IsGood (sheet_sized rows cols)
good_sheet None cols = tt
good_sheet (Some rows) None = tt
good_sheet (Some rows) (Some cols) = good_if (nat_le rows 1000 && nat_le cols 64) (Some (command.Sheet (record { rows = rows; cols = cols }))) None tt tt

good_push : (name : Option (List ℕ)) (count : Option ℕ) → IsGood (push_of name count)
good_push None count = tt
good_push (Some name) None = tt
good_push (Some name) (Some n) = tt

good_pull : (name : Option (List ℕ)) (count : Option ℕ) → IsGood (pull_of name count)
good_pull None count = tt
good_pull (Some name) None = tt
good_pull (Some name) (Some n) = tt

good_read : (name : Option (List ℕ)) (range : Option Span) → SpanAddressed range → IsGood (read_of name range)
good_read None range h = tt
good_read (Some name) None h = tt
good_read (Some name) (Some range) h = h

good_clear : (name : Option (List ℕ)) (spot : Option Spot) → IsGood (clear_of name spot)
good_clear None spot = tt
good_clear (Some name) None = tt
good_clear (Some name) (Some spot) = tt

good_line_edit : (what : ℕ → Edit) (name : Option (List ℕ)) (index : Option ℕ) → IsGood (line_edit_of what name index)
good_line_edit what None index = tt
good_line_edit what (Some name) None = tt
good_line_edit what (Some name) (Some n) = tt

good_set : (name : Option (List ℕ)) (spot : Option Spot) (entry : List ℕ) → IsGood (set_of name spot entry)
good_set None spot entry = tt
good_set (Some name) None entry = tt
good_set (Some name) (Some spot) [] = tt
good_set (Some name) (Some spot) (b ∷ entry) = tt

good_copy : (name : Option (List ℕ)) (from : Option Span) (to : Option Spot) → IsGood (copy_of name from to)
good_copy None from to = tt
good_copy (Some name) None to = tt
good_copy (Some name) (Some from) None = tt
good_copy (Some name) (Some from) (Some to) = tt

good_sort : (ws : List (List ℕ)) (name : Option (List ℕ)) (rows : Option (ℕ × ℕ)) → IsGood (sort_of ws name rows)
good_sort [] name rows = tt
good_sort (col ∷ []) name rows = tt
good_sort (col ∷ direction ∷ more ∷ others) name rows = tt
good_sort (col ∷ direction ∷ []) name rows = by_parts name rows (col_named col) (is_downward direction)
  where
    by_parts : (name : Option (List ℕ)) (rows : Option (ℕ × ℕ)) (col : Option ℕ) (down : Option Bool) → IsGood (sort_command name rows col down)
    by_parts None rows col down = tt
    by_parts (Some name) None col down = tt
    by_parts (Some name) (Some rows) None down = tt
    by_parts (Some name) (Some rows) (Some col) None = tt
    by_parts (Some name) (Some rows) (Some col) (Some down) = tt

good_one : (a : List ℕ) → IsGood (of_one_word a)
good_one a =
    good_if (bytes_eq a (codes "recalc")) (Some (command.Recalc None)) _ tt
    (good_if (bytes_eq a (codes "values")) (Some command.Values) _ tt
    (good_if (bytes_eq a (codes "history")) (Some command.History) _ tt
    (good_if (bytes_eq a (codes "wire")) (Some command.Wire) _ tt (good_if (bytes_eq a (codes "end")) (Some command.End) None tt tt))))

good_one_site : (a b : List ℕ) → IsGood (of_one_site a b)
good_one_site a b =
    good_if (bytes_eq b (codes "push")) _ _ (good_map (λ name. command.Push name None) (λ _. tt) (named a))
    (good_if (bytes_eq b (codes "pull")) _ _ (good_map (λ name. command.Pull name None) (λ _. tt) (named a))
    (good_if (bytes_eq b (codes "sync")) _ None (good_map command.Sync (λ _. tt) (named a)) tt))

good_two : (a b : List ℕ) → IsGood (of_two_words a b)
good_two a b =
    good_if (bytes_eq a (codes "site")) _ _ (good_map command.Site (λ _. tt) (named b))
    (good_if (bytes_eq a (codes "show")) _ _ (good_if (bytes_eq b (codes "server")) (Some command.ShowServer) _ tt (good_map command.Show (λ _. tt) (named b)))
    (good_if (bytes_eq a (codes "push")) _ _ (good_if (bytes_eq b (codes "all")) (Some command.PushAll) None tt tt)
    (good_if (bytes_eq a (codes "pull")) _ _ (good_if (bytes_eq b (codes "all")) (Some command.PullAll) None tt tt)
    (good_if (bytes_eq a (codes "recalc")) _ _ (good_map (λ count. command.Recalc (Some count)) (λ _. tt) (counted b)) (good_one_site a b)))))

good_one_line : (a b c : List ℕ) → IsGood (of_one_line a b c)
good_one_line a b c =
    good_if (bytes_eq b (codes "insrow")) _ _ (good_line_edit edit.InsRow (named a) (row_numbered c))
    (good_if (bytes_eq b (codes "inscol")) _ _ (good_line_edit edit.InsCol (named a) (col_named c))
    (good_if (bytes_eq b (codes "delrow")) _ _ (good_line_edit edit.DelRow (named a) (row_numbered c))
    (good_if (bytes_eq b (codes "delcol")) _ None (good_line_edit edit.DelCol (named a) (col_named c)) tt)))

good_three : (a b c : List ℕ) → IsGood (of_three_words a b c)
good_three a b c =
    good_if (bytes_eq a (codes "sheet")) _ _ (good_sheet (counted b) (counted c))
    (good_if (bytes_eq b (codes "push")) _ _ (good_push (named a) (counted c))
    (good_if (bytes_eq b (codes "pull")) _ _ (good_pull (named a) (counted c))
    (good_if (bytes_eq b (codes "read")) _ _ (good_read (named a) (plain_range (range_of c)) (plain_addressed (range_of c) (range_addressed c)))
    (good_if (bytes_eq b (codes "clear")) _ _ (good_clear (named a) (plain_cell (cell_of c))) (good_one_line a b c)))))

good_more : (a b c rest : List ℕ) → IsGood (of_more_words a b c rest)
good_more a b c rest =
    good_if (bytes_eq b (codes "set")) _ _ (good_set (named a) (plain_cell (cell_of c)) rest)
    (good_if (bytes_eq b (codes "copy")) _ _ (good_copy (named a) (plain_range (range_of c)) (plain_cell (cell_of rest)))
    (good_if (bytes_eq b (codes "sort")) _ None (good_sort (words rest) (named a) (row_range_of c)) tt))

good_words : (ws : List (List ℕ)) → IsGood (of_words ws)
good_words [] = tt
good_words (a ∷ []) = good_one a
good_words (a ∷ b ∷ []) = good_two a b
good_words (a ∷ b ∷ c ∷ []) = good_three a b c
good_words (a ∷ b ∷ c ∷ d ∷ ds) = good_more a b c (join_with_byte 32 (d ∷ ds))

good_line : (line : List ℕ) → IsGood (command_of line)
good_line line = good_if (list_all is_line_byte line) _ None (good_if (is_note line) (Some command.Note) _ tt (good_words (words line))) tt

pub line_addressed : (line : List ℕ) (c : Command) → command_of line ≡ Some c → CommandAddressed c
line_addressed line c e = subst IsGood e (good_line line)
