-- Evaluations one after another.
use Rattle.std.proofs.Common.{◌≡◌, ℕ, zero, suc, ◌+◌, ◌<◌, Bool, List, [], ◌∷◌, length, take, get_or, ap, refl, sym, ◌∙◌, arith, Option}
use Rattle.std.specs.Prelude.{slice_get}
use Rattle.sheet_value.specs.Tables.{Table}
use Rattle.sheet_graph.specs.declared.graph.Node.{Node}
use Rattle.full_calc.specs.Evaluated.{evaluated, evaluated_node}

module _ (rows cols : List Bool) (nodes : List Node) where
  order_suc : (order : List ℕ) (k : ℕ) (T : Table) → k < length order → evaluated rows cols nodes (take (suc k) order) T ≡ evaluated_node rows cols (slice_get nodes (get_or order k 0)) (evaluated rows cols nodes (take k order) T)
  order_suc [] k T h = absurd (omega arith)
  order_suc (m ∷ order) zero T h = refl
  order_suc (m ∷ order) (suc k) T h = order_suc order k (evaluated_node rows cols (slice_get nodes m) T) (omega arith)

  pub one_more : (order : List ℕ) (k : ℕ) (T grid after : Table) (found : Option Node) → k < length order → slice_get nodes (get_or order k 0) ≡ found → grid ≡ evaluated rows cols nodes (take k order) T → after ≡ evaluated_node rows cols found grid →
      after ≡ evaluated rows cols nodes (take (k + 1) order) T
  one_more order k T grid after found h f g a =
      a
      ∙ ((λ i. evaluated_node rows cols (sym f i) (g i))
      ∙ (sym (order_suc order k T h)
      ∙ ap (λ n. evaluated rows cols nodes (take n order) T) (let q : suc k ≡ k + 1 = omega arith in q)))
