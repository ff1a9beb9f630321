-- A stored formula comes to what the same formula comes to by positions.
use Rattle.std.proofs.Common.{◌≡◌, refl, ap, sym, ◌∙◌}
use Rattle.ss_base.specs.declared.types.Spot.{Spot}
use Rattle.ss_base.specs.declared.types.Span.{Span}
use Rattle.formula_tree.specs.Tree as tree
use Rattle.formula_tree.specs.Tree.{Tree, Trees, rename_tree}
use Rattle.formula_tree.specs.Remap.{EachReference, EachReferences}
use Rattle.sheet_value.specs.Environment.{Environment}
use Rattle.cell_eval.specs.Meaning.{formula_value}
use Rattle.cell_eval.proofs.Alike.{SeesCell, SeesRange, formula-same}
use Rattle.sheet_ops.proofs.Renamed.{rename_itself}
use Rattle.sheet_grid.specs.Values.{NumberedSheet}
use Rattle.sheet_graph.specs.Placing.{spot_placed, span_placed, tree_placed}
use Rattle.full_calc.specs.Looks.{stored_environment}

-- what holds of every reference holds of each one of a formula
module _ {C R : Type 0} (P : C → Type 0) (Q : R → Type 0) (p : (c : C) → P c) (q : (r : R) → Q r) where
  mutual
    each_reference : (t : Tree C R) → EachReference P Q t
    each_reference (tree.num n) = tt
    each_reference (tree.text t) = tt
    each_reference (tree.fault e) = tt
    each_reference (tree.cell c) = p c
    each_reference (tree.range r) = q r
    each_reference (tree.pre op t) = each_reference t
    each_reference (tree.bin op s t) = (each_reference s, each_reference t)
    each_reference (tree.call fun ts) = each_references ts

    each_references : (ts : Trees C R) → EachReferences P Q ts
    each_references tree.none = tt
    each_references (tree.more t ts) = (each_reference t, each_references ts)

module _ (V : NumberedSheet) (E : Environment) where
  pub stored_value : (t : Tree Spot Span) → formula_value (stored_environment V E) t ≡ formula_value E (tree_placed V t)
  stored_value t =
      ap (formula_value (stored_environment V E)) (sym (rename_itself t))
      ∙ formula-same (stored_environment V E) E (λ s. s) (spot_placed V) (λ s. s) (span_placed V) t
      (each_reference (SeesCell (stored_environment V E) E (λ s. s) (spot_placed V) (λ s. s) (span_placed V)) (SeesRange (stored_environment V E) E (λ s. s) (spot_placed V) (λ s. s) (span_placed V))
      (λ s. refl) (λ s. record { lost = refl; values = refl }) t)
