-- How large the sheet of a line is, and how long its entry.
use Rattle.std.proofs.Common.{◌≡◌, ℕ, ◌+◌, ◌≤◌, take, drop, Bool, true, false, cond, List, [], ◌∷◌, length, refl, sym, subst, arith, Option, Some, None}
use Rattle.std.specs.Prelude.{nat_le, ◌&&◌, ◌||◌, option_map, position, codes}
use Rattle.std.specs.List.{list_all, join_with_byte}
use Rattle.std.specs.Str.{bytes_eq}
use Rattle.std.specs.Str.Parse.{digits_value}
use Rattle.std.proofs.lemmas.Bool.Decides.{nat_tests}
use Rattle.std.proofs.lemmas.List.{length-append}
use Rattle.std.proofs.lemmas.List.Splits.{join_with_byte-slice_split}
use Rattle.ss_base.specs.declared.types.Spot.{Spot}
use Rattle.ss_base.specs.declared.types.Span.{Span}
use Rattle.cell_addr.specs.Cells.{cell_of, range_of, range_at, span_of_corners, is_colon}
use Rattle.cell_addr.specs.Columns.{col_named}
use Rattle.cell_addr.specs.Rows.{is_count, counted, row_numbered}
use Rattle.cell_addr.proofs.Digits.{count_size}
use Rattle.sheet_ops.specs.declared.edit.Edit.{Edit}
use Rattle.sheet_ops.specs.declared.edit.Edit.TheVariants as edit
use Rattle.script_read.specs.declared.command.Command.{Command}
use Rattle.script_read.specs.declared.command.Command.TheVariants as command
use Rattle.script_read.specs.Commands.{command_of, is_note, sheet_sized, push_of, pull_of, plain_cell, plain_range, set_of, clear_of, read_of, copy_of, rows_between, rows_at, row_range_of, is_downward, sort_command, sort_of, line_edit_of, of_one_word, of_one_site, of_two_words, of_one_line, of_three_words, of_more_words, of_words, CommandWithin}
use Rattle.script_read.specs.Words.{is_line_byte, words, named}

module _ (most : ℕ) where
  abbrev IsGood : Option Command → Type 0
  IsGood None = Unit {0}
  IsGood (Some c) = CommandWithin most c

  good_if : (b : Bool) (x y : Option Command) → IsGood x → IsGood y → IsGood (cond b x y)
  good_if true x y g h = g
  good_if false x y g h = h

  good_map : {A : Type 0} (f : A → Command) → ((x : A) → CommandWithin most (f x)) → (o : Option A) → IsGood (option_map f o)
  good_map f h None = tt
  good_map f h (Some x) = h x

  -- a count isn't 0
  abbrev IsCount : Option ℕ → Type 0
  IsCount None = Unit {0}
  IsCount (Some n) = 1 ≤ n

  is_positive : (text : List ℕ) → IsCount (counted text)
  is_positive text = by_test (is_count text) refl
    where
      by_test : (b : Bool) → is_count text ≡ b → IsCount (cond b (Some (digits_value 10 text)) None)
      by_test true e = (count_size text e).0
      by_test false e = tt

  good_sheet : (rows cols : Option ℕ) → IsCount rows → IsCount cols → IsGood (sheet_sized rows cols)
  good_sheet None cols r c = tt
  good_sheet (Some rows) None r c = tt
  good_sheet (Some rows) (Some cols) r c = by_rows (nat_le rows 1000) (nat_le cols 64) refl refl
    where
      by_rows : (a b : Bool) → nat_le rows 1000 ≡ a → nat_le cols 64 ≡ b → IsGood (cond (a && b) (Some (command.Sheet (record { rows = rows; cols = cols }))) None)
      by_rows true true h k = (r, grind (arith, nat_tests), c, grind (arith, nat_tests))
      by_rows true false h k = tt
      by_rows false b h k = tt

  good_push : (name : Option (List ℕ)) (count : Option ℕ) → IsGood (push_of name count)
  good_push None count = tt
  good_push (Some name) None = tt
  good_push (Some name) (Some n) = tt

  good_pull : (name : Option (List ℕ)) (count : Option ℕ) → IsGood (pull_of name count)
  good_pull None count = tt
  good_pull (Some name) None = tt
  good_pull (Some name) (Some n) = tt

  -- a range has its corners in order
  abbrev IsOrdered : Option Span → Type 0
  IsOrdered None = Unit {0}
  IsOrdered (Some range) = (range.top ≤ range.bottom) × (range.left ≤ range.right)

  ordered_between : (a b : Option Spot) → IsOrdered (span_of_corners a b)
  ordered_between None b = tt
  ordered_between (Some a) None = tt
  ordered_between (Some a) (Some b) = (by_test a.row b.row (nat_le a.row b.row) refl, by_test a.col b.col (nat_le a.col b.col) refl)
    where
      by_test : (m n : ℕ) (t : Bool) → nat_le m n ≡ t → cond t m n ≤ cond t n m
      by_test m n true e = grind (arith, nat_tests)
      by_test m n false e = grind (arith, nat_tests)

  ordered_range : (text : List ℕ) → IsOrdered (range_of text)
  ordered_range text = at_colon (position is_colon text)
    where
      at_colon : (o : Option ℕ) → IsOrdered (range_at o text)
      at_colon None = ordered_between (cell_of text) (cell_of text)
      at_colon (Some colon) = ordered_between (cell_of (take colon text)) (cell_of (drop (colon + 1) text))

  ordered_plain : (o : Option Span) → IsOrdered o → IsOrdered (plain_range o)
  ordered_plain None h = tt
  ordered_plain (Some range) h = by_test ((range.abs_top || range.abs_left) || (range.abs_bottom || range.abs_right))
    where
      by_test : (t : Bool) → IsOrdered (cond t None (Some range))
      by_test true = tt
      by_test false = h

  good_read : (name : Option (List ℕ)) (range : Option Span) → IsOrdered range → IsGood (read_of name range)
  good_read None range h = tt
  good_read (Some name) None h = tt
  good_read (Some name) (Some range) h = h

  good_copy : (name : Option (List ℕ)) (from : Option Span) (to : Option Spot) → IsOrdered from → IsGood (copy_of name from to)
  good_copy None from to h = tt
  good_copy (Some name) None to h = tt
  good_copy (Some name) (Some from) None h = tt
  good_copy (Some name) (Some from) (Some to) h = h

  abbrev AreOrdered : Option (ℕ × ℕ) → Type 0
  AreOrdered None = Unit {0}
  AreOrdered (Some rows) = rows.0 ≤ rows.1

  ordered_rows : (text : List ℕ) → AreOrdered (row_range_of text)
  ordered_rows text = at_colon (position is_colon text)
    where
      between : (a b : Option ℕ) → AreOrdered (rows_between a b)
      between None b = tt
      between (Some a) None = tt
      between (Some a) (Some b) = omega arith

      at_colon : (o : Option ℕ) → AreOrdered (rows_at o text)
      at_colon None = tt
      at_colon (Some colon) = between (row_numbered (take colon text)) (row_numbered (drop (colon + 1) text))

  good_sort_by : (name : Option (List ℕ)) (rows : Option (ℕ × ℕ)) (col : Option ℕ) (down : Option Bool) → AreOrdered rows → IsGood (sort_command name rows col down)
  good_sort_by None rows col down h = tt
  good_sort_by (Some name) None col down h = tt
  good_sort_by (Some name) (Some rows) None down h = tt
  good_sort_by (Some name) (Some rows) (Some col) None h = tt
  good_sort_by (Some name) (Some rows) (Some col) (Some down) h = h

  good_sort : (ws : List (List ℕ)) (name : Option (List ℕ)) (rows : Option (ℕ × ℕ)) → AreOrdered rows → IsGood (sort_of ws name rows)
  good_sort [] name rows h = tt
  good_sort (col ∷ []) name rows h = tt
  good_sort (col ∷ direction ∷ []) name rows h = good_sort_by name rows (col_named col) (is_downward direction) h
  good_sort (col ∷ direction ∷ more ∷ others) name rows h = tt

  good_set : (name : Option (List ℕ)) (spot : Option Spot) (entry : List ℕ) → length entry ≤ most → IsGood (set_of name spot entry)
  good_set None spot entry h = tt
  good_set (Some name) None entry h = tt
  good_set (Some name) (Some spot) [] h = tt
  good_set (Some name) (Some spot) (b ∷ entry) h = h

  good_clear : (name : Option (List ℕ)) (spot : Option Spot) → IsGood (clear_of name spot)
  good_clear None spot = tt
  good_clear (Some name) None = tt
  good_clear (Some name) (Some spot) = tt

  good_line_edit : (what : ℕ → Edit) → ((n : ℕ) → CommandWithin most (command.Edit [] (what n))) → (name : Option (List ℕ)) (index : Option ℕ) → IsGood (line_edit_of what name index)
  good_line_edit what h None index = tt
  good_line_edit what h (Some name) None = tt
  good_line_edit what h (Some name) (Some n) = h n

  good_one : (a : List ℕ) → IsGood (of_one_word a)
  good_one a =
      good_if (bytes_eq a (codes "recalc")) (Some (command.Recalc None)) _ tt
      (good_if (bytes_eq a (codes "values")) (Some command.Values) _ tt
      (good_if (bytes_eq a (codes "history")) (Some command.History) _ tt
      (good_if (bytes_eq a (codes "wire")) (Some command.Wire) _ tt (good_if (bytes_eq a (codes "end")) (Some command.End) None tt tt))))

  good_one_site : (a b : List ℕ) → IsGood (of_one_site a b)
  good_one_site a b =
      good_if (bytes_eq b (codes "push")) _ _ (good_map (λ name. command.Push name None) (λ _. tt) (named a))
      (good_if (bytes_eq b (codes "pull")) _ _ (good_map (λ name. command.Pull name None) (λ _. tt) (named a))
      (good_if (bytes_eq b (codes "sync")) _ None (good_map command.Sync (λ _. tt) (named a)) tt))

  good_two : (a b : List ℕ) → IsGood (of_two_words a b)
  good_two a b =
      good_if (bytes_eq a (codes "site")) _ _ (good_map command.Site (λ _. tt) (named b))
      (good_if (bytes_eq a (codes "show")) _ _ (good_if (bytes_eq b (codes "server")) (Some command.ShowServer) _ tt (good_map command.Show (λ _. tt) (named b)))
      (good_if (bytes_eq a (codes "push")) _ _ (good_if (bytes_eq b (codes "all")) (Some command.PushAll) None tt tt)
      (good_if (bytes_eq a (codes "pull")) _ _ (good_if (bytes_eq b (codes "all")) (Some command.PullAll) None tt tt)
      (good_if (bytes_eq a (codes "recalc")) _ _ (good_map (λ count. command.Recalc (Some count)) (λ _. tt) (counted b)) (good_one_site a b)))))

  good_one_line : (a b c : List ℕ) → IsGood (of_one_line a b c)
  good_one_line a b c =
      good_if (bytes_eq b (codes "insrow")) _ _ (good_line_edit edit.InsRow (λ _. tt) (named a) (row_numbered c))
      (good_if (bytes_eq b (codes "inscol")) _ _ (good_line_edit edit.InsCol (λ _. tt) (named a) (col_named c))
      (good_if (bytes_eq b (codes "delrow")) _ _ (good_line_edit edit.DelRow (λ _. tt) (named a) (row_numbered c))
      (good_if (bytes_eq b (codes "delcol")) _ None (good_line_edit edit.DelCol (λ _. tt) (named a) (col_named c)) tt)))

  good_three : (a b c : List ℕ) → IsGood (of_three_words a b c)
  good_three a b c =
      good_if (bytes_eq a (codes "sheet")) _ _ (good_sheet (counted b) (counted c) (is_positive b) (is_positive c))
      (good_if (bytes_eq b (codes "push")) _ _ (good_push (named a) (counted c))
      (good_if (bytes_eq b (codes "pull")) _ _ (good_pull (named a) (counted c))
      (good_if (bytes_eq b (codes "read")) _ _ (good_read (named a) (plain_range (range_of c)) (ordered_plain (range_of c) (ordered_range c)))
      (good_if (bytes_eq b (codes "clear")) _ _ (good_clear (named a) (plain_cell (cell_of c))) (good_one_line a b c)))))

  good_more : (a b c rest : List ℕ) → length rest ≤ most → IsGood (of_more_words a b c rest)
  good_more a b c rest h =
      good_if (bytes_eq b (codes "set")) _ _ (good_set (named a) (plain_cell (cell_of c)) rest h)
      (good_if (bytes_eq b (codes "copy")) _ _ (good_copy (named a) (plain_range (range_of c)) (plain_cell (cell_of rest)) (ordered_plain (range_of c) (ordered_range c)))
      (good_if (bytes_eq b (codes "sort")) _ None (good_sort (words rest) (named a) (row_range_of c) (ordered_rows c)) tt))

  -- a line is longer than what stands behind its first word
  behind_shorter : (word next : List ℕ) (others : List (List ℕ)) → length (join_with_byte 32 (next ∷ others)) ≤ length (join_with_byte 32 (word ∷ next ∷ others))
  behind_shorter word next others = let l = length-append word (32 ∷ join_with_byte 32 (next ∷ others)) in omega (arith, l)

  good_words : (ws : List (List ℕ)) → length (join_with_byte 32 ws) ≤ most → IsGood (of_words ws)
  good_words [] h = tt
  good_words (a ∷ []) h = good_one a
  good_words (a ∷ b ∷ []) h = good_two a b
  good_words (a ∷ b ∷ c ∷ []) h = good_three a b c
  good_words (a ∷ b ∷ c ∷ d ∷ ds) h =
      good_more a b c (join_with_byte 32 (d ∷ ds)) (omega (arith, h, behind_shorter a b (c ∷ d ∷ ds), behind_shorter b c (d ∷ ds), behind_shorter c d ds))

  good_line : (line : List ℕ) → length line ≤ most → IsGood (command_of line)
  good_line line h =
      good_if (list_all is_line_byte line) _ None
      (good_if (is_note line) (Some command.Note) _ tt (good_words (words line) (subst (λ (bs : List ℕ). length bs ≤ most) (sym (join_with_byte-slice_split 32 line)) h))) tt

pub line_within : (line : List ℕ) (c : Command) → command_of line ≡ Some c → CommandWithin (length line) c
line_within line c e = subst (λ (o : Option Command). IsGood (length line) o) e (good_line (length line) line (omega arith))
