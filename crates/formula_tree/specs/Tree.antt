-- Formulas as plain trees, whatever a reference is.
use Rattle.std.specs.Prelude.{ℕ, ℤ, List, [], ◌∷◌}
use Rattle.ss_base.specs.declared.types.CalcErr.{CalcErr}
use Rattle.formula_tree.specs.declared.operators.PreOp.{PreOp}
use Rattle.formula_tree.specs.declared.operators.BinOp.{BinOp}
use Rattle.formula_tree.specs.declared.functions.Fun.{Fun}

mutual
  -- C is what a reference to a cell is, and R what one to a range is
  pub data Tree (C R : Type 0) : Type 0 where
    num : ℤ → Tree C R
    text : List ℕ → Tree C R
    fault : CalcErr → Tree C R
    cell : C → Tree C R
    range : R → Tree C R
    pre : PreOp → Tree C R → Tree C R
    bin : BinOp → Tree C R → Tree C R → Tree C R
    call : Fun → Trees C R → Tree C R

  pub data Trees (C R : Type 0) : Type 0 where
    none : Trees C R
    more : Tree C R → Trees C R → Trees C R

-- those of a list
abbrev pub trees_from : {C R : Type 0} → List (Tree C R) → Trees C R
trees_from [] = none
trees_from (t ∷ ts) = more t (trees_from ts)

-- each reference replaced by its image
module _ {C R D S : Type 0} (f : C → D) (g : R → S) where
  abbrev mutual
    pub rename_tree : Tree C R → Tree D S
    rename_tree (num n) = num n
    rename_tree (text t) = text t
    rename_tree (fault e) = fault e
    rename_tree (cell c) = cell (f c)
    rename_tree (range r) = range (g r)
    rename_tree (pre op t) = pre op (rename_tree t)
    rename_tree (bin op s t) = bin op (rename_tree s) (rename_tree t)
    rename_tree (call fun ts) = call fun (rename_trees ts)

    pub rename_trees : Trees C R → Trees D S
    rename_trees none = none
    rename_trees (more t ts) = more (rename_tree t) (rename_trees ts)
