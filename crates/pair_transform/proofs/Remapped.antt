-- Formulas whose references have images.
use Rattle.std.proofs.Common.{◌≡◌, refl, ap, Option, Some}
use Rattle.std.specs.Prelude.{◌≤◌}
use Rattle.ss_base.specs.declared.types.Spot.{Spot}
use Rattle.ss_base.specs.declared.types.Span.{Span}
use Rattle.formula_tree.specs.Tree.{Tree, Trees, num, text, fault, cell, range, pre, bin, call, none, more, rename_tree, rename_trees}
use Rattle.formula_tree.specs.Remap.{remap_tree, remap_trees, cell_or_lost, range_or_lost, EachReference, EachReferences}
use Rattle.formula_tree.specs.WellFormed.{IsWellFormed, AreWellFormed, IsFormula}

-- where each reference has an image, none is lost
module _ {C R D S : Type 0} (f : C → Option D) (g : R → Option S) (h : C → D) (k : R → S) where
  mutual
    pub remap_renames : (t : Tree C R) → EachReference (λ c. f c ≡ Some (h c)) (λ r. g r ≡ Some (k r)) t → remap_tree f g t ≡ rename_tree h k t
    remap_renames (num n) a = refl
    remap_renames (text t) a = refl
    remap_renames (fault e) a = refl
    remap_renames (cell c) a = ap cell_or_lost a
    remap_renames (range r) a = ap range_or_lost a
    remap_renames (pre op t) a = ap (pre op) (remap_renames t a)
    remap_renames (bin op s t) a = λ i. bin op (remap_renames s a.0 i) (remap_renames t a.1 i)
    remap_renames (call fun ts) a = ap (call fun) (remap_all_renames ts a)

    remap_all_renames : (ts : Trees C R) → EachReferences (λ c. f c ≡ Some (h c)) (λ r. g r ≡ Some (k r)) ts → remap_trees f g ts ≡ rename_trees h k ts
    remap_all_renames none a = refl
    remap_all_renames (more t ts) a = λ i. more (remap_renames t a.0 i) (remap_all_renames ts a.1 i)

-- a formula has the ends of its ranges in order, and where they fit, both hold
module _ (P : Spot → Type 0) (Q : Span → Type 0) where
  abbrev pub InOrder : Span → Type 0
  InOrder s = Q s × (s.top ≤ s.bottom) × (s.left ≤ s.right)

  mutual
    ordered_tree : (t : Tree Spot Span) → IsWellFormed t → EachReference P Q t → EachReference P InOrder t
    ordered_tree (num n) w a = tt
    ordered_tree (text t) w a = tt
    ordered_tree (fault e) w a = tt
    ordered_tree (cell c) w a = a
    ordered_tree (range r) w a = (a, w.rows, w.cols)
    ordered_tree (pre op t) w a = ordered_tree t w a
    ordered_tree (bin op s t) w a = (ordered_tree s w.0 a.0, ordered_tree t w.1 a.1)
    ordered_tree (call fun ts) w a = ordered_trees ts w.1 a

    ordered_trees : (ts : Trees Spot Span) → AreWellFormed ts → EachReferences P Q ts → EachReferences P InOrder ts
    ordered_trees none w a = tt
    ordered_trees (more t ts) w a = (ordered_tree t w.0 a.0, ordered_trees ts w.1 a.1)

  pub ordered_formula : (t : Tree Spot Span) → IsFormula t → EachReference P Q t → EachReference P InOrder t
  ordered_formula t f a = ordered_tree t f.formed a
