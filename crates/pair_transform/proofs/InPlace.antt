-- What stays where nothing that it names moves.
use Rattle.std.proofs.Common.{◌≡◌, ◌≢◌, ℕ, false, List, [], ◌∷◌, refl, ap, sym, ◌∙◌}
use Rattle.std.specs.Prelude.{map, filter, nat_eq, not}
use Rattle.std.specs.List.{zip}
use Rattle.std.proofs.lemmas.List.Elements.{All-filter, All-map}
use Rattle.ss_base.specs.declared.types.Spot.{Spot}
use Rattle.ss_base.specs.declared.types.Span.{Span}
use Rattle.marked_lines.specs.Moves.{image}
use Rattle.marked_lines.proofs.Images.{image_none}
use Rattle.formula_tree.specs.declared.functions.Fun.{Fun}
use Rattle.formula_tree.specs.declared.expression.Expr.{Expr, Call}
use Rattle.formula_tree.specs.Tree.{call, more, trees_from, rename_tree, rename_trees}
use Rattle.formula_tree.specs.Erase.{tree_of}
use Rattle.formula_tree.proofs.Trees.{tree_of-call}
use Rattle.sheet_ops.specs.Lines.{has_number, sort_moves}
use Rattle.sheet_ops.proofs.Members.{none_has}

-- a record that stands in no slot of a sort stays
pub outside_stays : (ss rs : List ℕ) (p : ℕ) → has_number ss p ≡ false → image (sort_moves ss rs) p ≡ p
outside_stays ss rs p none =
    image_none (sort_moves ss rs) p
    (All-filter (λ m. not (nat_eq m.0 m.1)) (λ m. m.0 ≢ p) (map (λ q. (q, sends q)) slots)
    (All-map (λ m. m.0 ≢ p) (λ q. (q, sends q)) slots
    (All-filter (has_number rs) (λ q. q ≢ p) ss (none_has ss p none))))
  where
    slots : List ℕ
    slots = filter (has_number rs) ss

    sends : ℕ → ℕ
    sends = image (zip (filter (has_number ss) rs) slots)

module _ (f : Spot → Spot) (g : Span → Span) where
  renamed_listed : (es : List Expr) → rename_trees f g (trees_from (map tree_of es)) ≡ trees_from (map (λ e. rename_tree f g (tree_of e)) es)
  renamed_listed [] = refl
  renamed_listed (e ∷ es) = ap (more (rename_tree f g (tree_of e))) (renamed_listed es)

  -- a call whose arguments stay
  pub call_stays : (fun : Fun) (es : List Expr) → map (λ e. rename_tree f g (tree_of e)) es ≡ map tree_of es → rename_tree f g (tree_of (Call fun es)) ≡ tree_of (Call fun es)
  call_stays fun es h =
      ap (rename_tree f g) (tree_of-call fun es) ∙ (ap (call fun) (renamed_listed es ∙ ap trees_from h) ∙ sym (tree_of-call fun es))
