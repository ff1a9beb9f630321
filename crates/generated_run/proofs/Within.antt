-- A drawn edit is one that a line of a script may hold.
use Rattle.std.proofs.Common.{◌≡◌, ℕ, ◌+◌, ◌<◌, ◌≤◌, Bool, true, false, List, length, refl, sym, subst, arith, length-append, decimal}
use Rattle.std.specs.Prelude.{cond, codes, nat_eq, nat_lt}
use Rattle.std.proofs.lemmas.Fmt.{length-decimal-le}
use Rattle.cell_addr.specs.Columns.{letters}
use Rattle.cell_addr.proofs.Letters.{letters_1}
use Rattle.sheet_ops.specs.declared.edit.Edit.{Edit}
use Rattle.sheet_ops.specs.declared.edit.Edit.TheVariants as edit
use Rattle.script_read.specs.Commands.{EditWithin}
use Rattle.generated_run.specs.declared.draws.Draws.{Draws}
use Rattle.generated_run.specs.Turns.{cell_without_dollars, one_cell, number_entry, sum_entry, range_entry, edit_of}

-- as a record, by which antt tells the edits apart
record Holds (e : Edit) : Type 0 where
  within : EditWithin 4096 e

either : (b : Bool) (x y : Edit) → Holds x → Holds y → Holds (cond b x y)
either true x y p q = p
either false x y p q = q

name_short : (col : ℕ) → col < 8 → length (letters col) ≤ 3
name_short col h = subst (λ (cs : List ℕ). length cs ≤ 3) (sym (letters_1 col (omega arith))) (omega arith)

digits_short : (n : ℕ) → n < 1000 → length (decimal n) ≤ 3
digits_short n h = length-decimal-le 3 n (omega arith) (omega arith) (omega arith)

plus : length (codes "+") ≡ 1
plus = refl

bracket : length (codes ")") ≡ 1
bracket = refl

module _ (d : Draws) (number : d.number < 1000) (row : d.other_row < 37) (col : d.other_col < 8) where
  name : length (letters d.other_col) ≤ 3
  name = name_short d.other_col col

  top : length (decimal (d.other_row + 1)) ≤ 3
  top = digits_short (d.other_row + 1) (omega arith)

  sum_short : length (sum_entry d) ≤ 4096
  sum_short = let a = name in let b = top in let c = digits_short d.number number in let p = plus in simp length-append (omega arith)

  range_short : length (range_entry d) ≤ 4096
  range_short = let a = name in let b = top in let c = digits_short (d.other_row + 3 + 1) (omega arith) in let p = bracket in simp length-append (omega arith)

  number_short : length (number_entry d) ≤ 4096
  number_short = let c = digits_short d.number number in omega arith

  drawn_holds : Holds (edit_of d)
  unfolding edit_of
  drawn_holds =
      either (nat_lt d.kind 6) (edit.Set (cell_without_dollars d.row d.col) (number_entry d)) _ (record { within = number_short })
      (either (nat_lt d.kind 9) (edit.Set (cell_without_dollars d.row d.col) (sum_entry d)) _ (record { within = sum_short })
      (either (nat_eq d.kind 9) (edit.Set (cell_without_dollars d.row d.col) (range_entry d)) _ (record { within = range_short })
      (either (nat_eq d.kind 10) (edit.InsRow d.row) _ (record { within = tt })
      (either (nat_eq d.kind 11) (edit.DelRow d.row) _ (record { within = tt })
      (either (nat_eq d.kind 12) (edit.Copy (one_cell d.other_row d.other_col) (cell_without_dollars d.row d.col)) _ (record { within = (omega arith, omega arith) })
      (either (nat_eq d.kind 13) (edit.Sort d.other_row (d.other_row + 3) d.col false) _ (record { within = omega arith })
      (either (nat_eq d.kind 14) (edit.Clear (cell_without_dollars d.row d.col)) _ (record { within = tt })
      (either (nat_lt d.number 500) (edit.InsCol d.col) (edit.DelCol d.col) (record { within = tt }) (record { within = tt })))))))))

  pub edit_within : EditWithin 4096 (edit_of d)
  edit_within = drawn_holds.within
