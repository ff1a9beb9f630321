-- A formula whose references are replaced by maps that see the whole references.
use Rattle.std.proofs.Common.{◌≡◌, ℕ, ◌+◌, max, suc, List, [], ◌∷◌, refl, ap, sym, ◌∙◌, Option, Some, None}
use Rattle.std.specs.Prelude.{map}
use Rattle.ss_base.specs.declared.types.Spot.{Spot}
use Rattle.ss_base.specs.declared.types.Span.{Span}
use Rattle.formula_tree.specs.declared.functions.Fun.{Fun}
use Rattle.formula_tree.specs.declared.expression.Expr.{Expr, Call}
use Rattle.formula_tree.specs.Tree.{Tree, Trees, num, text, fault, cell, range, pre, bin, call, none, more, trees_from, rename_tree, rename_trees}
use Rattle.formula_tree.specs.Precedence.{precedence_of, precedence_of_operator}
use Rattle.formula_tree.specs.Measures.{print_nesting, greatest_nesting, placed_nesting, node_count, node_counts}
use Rattle.formula_tree.specs.Remap.{remap_tree, remap_trees, cell_or_lost, range_or_lost}
use Rattle.formula_tree.specs.Erase.{tree_of}
use Rattle.formula_tree.specs.WellFormed.{IsFormula, IsWellFormed, AreWellFormed}
use Rattle.formula_tree.proofs.Trees.{tree_of-call}

-- a reference, or the lost one, is a single node
lost_cell : (c : Option Spot) → (precedence_of (cell_or_lost {C = Spot} {R = Span} c) ≡ 7) × (print_nesting (cell_or_lost {C = Spot} {R = Span} c) ≡ 1) × (node_count (cell_or_lost {C = Spot} {R = Span} c) ≡ 1)
lost_cell None = (refl, refl, refl)
lost_cell (Some c) = (refl, refl, refl)

lost_range : (r : Option Span) → (precedence_of (range_or_lost {C = Spot} {R = Span} r) ≡ 7) × (print_nesting (range_or_lost {C = Spot} {R = Span} r) ≡ 1) × (node_count (range_or_lost {C = Spot} {R = Span} r) ≡ 1)
lost_range None = (refl, refl, refl)
lost_range (Some r) = (refl, refl, refl)

module _ (f : Spot → Option Spot) (g : Span → Option Span) where
  precedence-remap : (t : Tree Spot Span) → precedence_of (remap_tree f g t) ≡ precedence_of t
  precedence-remap (num n) = refl
  precedence-remap (text t) = refl
  precedence-remap (fault e) = refl
  precedence-remap (cell c) = (lost_cell (f c)).0
  precedence-remap (range r) = (lost_range (g r)).0
  precedence-remap (pre op t) = refl
  precedence-remap (bin op s t) = refl
  precedence-remap (call fun ts) = refl

  mutual
    nesting-remap : (t : Tree Spot Span) → print_nesting (remap_tree f g t) ≡ print_nesting t
    nesting-remap (num n) = refl
    nesting-remap (text t) = refl
    nesting-remap (fault e) = refl
    nesting-remap (cell c) = (lost_cell (f c)).1
    nesting-remap (range r) = (lost_range (g r)).1
    nesting-remap (pre op t) = λ i. suc (placed_nesting 6 (precedence-remap t i) (nesting-remap t i))
    nesting-remap (bin op s t) = λ i. suc (max (placed_nesting (precedence_of_operator op) (precedence-remap s i) (nesting-remap s i))
        (placed_nesting (suc (precedence_of_operator op)) (precedence-remap t i) (nesting-remap t i)))
    nesting-remap (call fun ts) = λ i. suc (nestings-remap ts i)

    nestings-remap : (ts : Trees Spot Span) → greatest_nesting (remap_trees f g ts) ≡ greatest_nesting ts
    nestings-remap none = refl
    nestings-remap (more t ts) = λ i. max (nesting-remap t i) (nestings-remap ts i)

  mutual
    nodes-remap : (t : Tree Spot Span) → node_count (remap_tree f g t) ≡ node_count t
    nodes-remap (num n) = refl
    nodes-remap (text t) = refl
    nodes-remap (fault e) = refl
    nodes-remap (cell c) = (lost_cell (f c)).2
    nodes-remap (range r) = (lost_range (g r)).2
    nodes-remap (pre op t) = λ i. suc (nodes-remap t i)
    nodes-remap (bin op s t) = λ i. suc (nodes-remap s i + nodes-remap t i)
    nodes-remap (call fun ts) = λ i. suc (node_counts-remap ts i)

    node_counts-remap : (ts : Trees Spot Span) → node_counts (remap_trees f g ts) ≡ node_counts ts
    node_counts-remap none = refl
    node_counts-remap (more t ts) = λ i. nodes-remap t i + node_counts-remap ts i

  module _ (cells : (c : Spot) → IsWellFormed (cell_or_lost (f c))) (ranges : (r : Span) → IsWellFormed (range_or_lost (g r))) where
    mutual
      tree_formed : (t : Tree Spot Span) → IsWellFormed t → IsWellFormed (remap_tree f g t)
      tree_formed (num n) w = w
      tree_formed (text t) w = w
      tree_formed (fault e) w = w
      tree_formed (cell c) w = cells c
      tree_formed (range r) w = ranges r
      tree_formed (pre op t) w = tree_formed t w
      tree_formed (bin op s t) w = (tree_formed s w.0, tree_formed t w.1)
      tree_formed (call fun ts) w = (w.0, trees_formed ts w.1)

      trees_formed : (ts : Trees Spot Span) → AreWellFormed ts → AreWellFormed (remap_trees f g ts)
      trees_formed none w = tt
      trees_formed (more t ts) w = (tree_formed t w.0, trees_formed ts w.1)

    pub formula_remapped : (t : Tree Spot Span) → IsFormula t → IsFormula (remap_tree f g t)
    formula_remapped t w = record {
      formed = tree_formed t w.formed;
      shallow = rw (nesting-remap t) w.shallow;
      small = rw (nodes-remap t) w.small;
    }

  remap_listed : (es : List Expr) → remap_trees f g (trees_from (map tree_of es)) ≡ trees_from (map (λ e. remap_tree f g (tree_of e)) es)
  remap_listed [] = refl
  remap_listed (e ∷ es) = ap (more (remap_tree f g (tree_of e))) (remap_listed es)

  -- a call whose arguments are the images of another's
  pub remap_call : (fun : Fun) (old new : List Expr) → map tree_of new ≡ map (λ e. remap_tree f g (tree_of e)) old → tree_of (Call fun new) ≡ remap_tree f g (tree_of (Call fun old))
  remap_call fun old new h =
      tree_of-call fun new ∙ (ap (λ (ts : List (Tree Spot Span)). call fun (trees_from ts)) h
      ∙ (ap (call fun) (sym (remap_listed old)) ∙ ap (remap_tree f g) (sym (tree_of-call fun old))))

-- references renamed first
module _ {C R D S : Type 0} {E T : Type 0} (a : C → D) (b : R → S) (f : D → Option E) (g : S → Option T) where
  mutual
    pub remap_renamed : (t : Tree C R) → remap_tree f g (rename_tree a b t) ≡ remap_tree (λ c. f (a c)) (λ r. g (b r)) t
    remap_renamed (num n) = refl
    remap_renamed (text t) = refl
    remap_renamed (fault e) = refl
    remap_renamed (cell c) = refl
    remap_renamed (range r) = refl
    remap_renamed (pre op t) = ap (pre op) (remap_renamed t)
    remap_renamed (bin op s t) = λ i. bin op (remap_renamed s i) (remap_renamed t i)
    remap_renamed (call fun ts) = ap (call fun) (remap_all_renamed ts)

    remap_all_renamed : (ts : Trees C R) → remap_trees f g (rename_trees a b ts) ≡ remap_trees (λ c. f (a c)) (λ r. g (b r)) ts
    remap_all_renamed none = refl
    remap_all_renamed (more t ts) = λ i. more (remap_renamed t i) (remap_all_renamed ts i)
