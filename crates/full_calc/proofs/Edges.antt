-- Small sheets on which the definitions are seen to say what they are to say.
use Rattle.std.proofs.Common.{◌≡◌, ℕ, ◌+◌, true, false, List, [], ◌∷◌, pos, refl}
use Rattle.ss_base.specs.declared.types.CalcErr.TheVariants as fault
use Rattle.formula_tree.specs.declared.functions.Fun.TheVariants as fun
use Rattle.formula_tree.specs.Tree.{Tree, num, cell, call, none, more}
use Rattle.formula_tree.specs.Tree as tree
use Rattle.sheet_value.specs.declared.value.Value.TheVariants as value
use Rattle.sheet_ops.specs.LineIds.{opening_id}
use Rattle.sheet_ops.specs.Identity.{IdCell, IdRange, IdContent, blank, number, formula, IdPut, write, del_row, one, IdSheet, opened}
use Rattle.sheet_ops.specs.Act.{act}
use Rattle.full_calc.specs.Precedents.{CellId}
use Rattle.full_calc.specs.Circular.{is_circular}
use Rattle.full_calc.specs.Values.{value_of, value_at_depth}

-- in a sheet of one column
abbrev at_row : ℕ → CellId
at_row r = record { row = opening_id r; col = opening_id 0 }

abbrev ref : ℕ → Tree IdCell IdRange
ref r = cell (record { row = opening_id r; col = opening_id 0; abs_row = false; abs_col = false })

abbrev puts : ℕ → List IdContent → List IdPut
puts r [] = []
puts r (c ∷ cs) = record { row = opening_id r; col = opening_id 0; content = c } ∷ puts (r + 1) cs

abbrev sheet : ℕ → List IdContent → IdSheet
sheet n cs = act (opened (record { rows = n; cols = 1 })) (one (write (puts 0 cs)))

-- `=#CIRC!` typed is not circular, and has that value
typed : (is_circular (sheet 1 (formula (tree.fault fault.Circ) ∷ [])) (at_row 0) ≡ false)
typed = refl

typed_value : value_of (sheet 1 (formula (tree.fault fault.Circ) ∷ [])) (at_row 0) ≡ value.Err fault.Circ
typed_value = refl

-- `=A1` in A1 is circular, and so is `=A1` in A2, which only leads into the circle
abbrev led_into : IdSheet
led_into = sheet 2 (formula (ref 0) ∷ formula (ref 0) ∷ [])

circles : (is_circular led_into (at_row 0) ≡ true) × (is_circular led_into (at_row 1) ≡ true)
circles = (refl, refl)

-- A1 `=IF(1;2;A1)`, A2 `=ISERROR(A1)`: all branches count
abbrev branches : IdSheet
branches = sheet 2 (formula (call fun.If (more (num (pos 1)) (more (num (pos 2)) (more (ref 0) none)))) ∷ formula (call fun.Iserror (more (ref 0) none)) ∷ [])

branch_values : (value_of branches (at_row 0) ≡ value.Err fault.Circ) × (value_of branches (at_row 1) ≡ value.Err fault.Circ)
branch_values = (refl, refl)

-- A1 5, A2 `=A1`, A3 `=A2`, A4 `=A9`, which is empty where it would stand outside: lost
abbrev chain : IdSheet
chain = sheet 4 (number (pos 5) ∷ formula (ref 0) ∷ formula (ref 1) ∷ formula (ref 8) ∷ [])

chain_values : (value_at_depth chain 0 (at_row 0) ≡ value.Num (pos 5)) × (value_at_depth chain 0 (at_row 1) ≡ value.Empty)
    × (value_at_depth chain 1 (at_row 2) ≡ value.Num (pos 0)) × (value_of chain (at_row 2) ≡ value.Num (pos 5)) × (value_of chain (at_row 3) ≡ value.Err fault.Lost)
chain_values = (refl, refl, refl, refl, refl)

-- A1 is empty, and A2 `=A1` comes to an empty value, which counts as 0
abbrev of_empty : IdSheet
of_empty = sheet 2 (blank ∷ formula (ref 0) ∷ [])

empty_values : (value_of of_empty (at_row 0) ≡ value.Empty) × (value_of of_empty (at_row 1) ≡ value.Num (pos 0))
empty_values = (refl, refl)

-- A1 1, A2 2, A3 `=SUM(A1:A2)`: with the first row dead it is the sum of what is left, with both it is lost
abbrev summed : IdSheet
summed = sheet 3 (number (pos 1) ∷ number (pos 2) ∷ formula (call fun.Sum (more (tree.range (record { top = opening_id 0; left = opening_id 0; bottom = opening_id 1; right = opening_id 0; abs_top = false; abs_left = false; abs_bottom = false; abs_right = false })) none)) ∷ [])

abbrev without : ℕ → IdSheet → IdSheet
without r X = act X (one (del_row (opening_id r)))

sum_values : (value_of summed (at_row 2) ≡ value.Num (pos 3)) × (value_of (without 0 summed) (at_row 2) ≡ value.Num (pos 2)) × (value_of (without 1 (without 0 summed)) (at_row 2) ≡ value.Err fault.Lost)
sum_values = (refl, refl, refl)
