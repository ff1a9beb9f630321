-- a formula whose references were replaced is one
use Rattle.std.proofs.Common.{◌≡◌, ℕ, ◌<◌, ◌≤◌, Bool, true, false, cond, refl, arith, Option, Some, None}
use Rattle.std.specs.Prelude.{nat_le}
use Rattle.std.specs.Option.{option_and_then, option_map}
use Rattle.std.proofs.lemmas.Bool.Decides.{nat_tests}
use Rattle.ss_base.specs.declared.types.Spot.{Spot}
use Rattle.ss_base.specs.declared.types.Span.{Span}
use Rattle.cell_addr.specs.Cells.{range_between}
use Rattle.formula_tree.specs.Tree.{Tree, Trees, num, text, fault, cell, range, pre, bin, call, none, more}
use Rattle.formula_tree.specs.WellFormed.{IsFormula, IsWellFormed, AreWellFormed, IsPlace, IsRange}
use Rattle.formula_tree.specs.Remap.{Images, mapped, remap_trees, remap_spot, remap_span, cell_or_lost, range_or_lost, spot_at, span_at, first_corner, last_corner, IsMapped, IsSpotMapped, IsSpanMapped, EachReferences}
use Rattle.formula_tree.proofs.Measured.{nesting-mapped, nodes-mapped}

-- two numbers in order, below a bound
record AreOrdered (first last n : ℕ) : Type 0 where
  below : (first < n) × (last < n)
  order : first ≤ last

ordered : (a b n : ℕ) → a < n → b < n → AreOrdered (cond (nat_le a b) a b) (cond (nat_le a b) b a) n
ordered a b n p q = by_order (nat_le a b) refl
  where
    by_order : (t : Bool) → nat_le a b ≡ t → AreOrdered (cond t a b) (cond t b a) n
    by_order true h = record { below = (p, q); order = grind (arith, nat_tests) }
    by_order false h = record { below = (q, p); order = grind (arith, nat_tests) }

range_formed : (a b : Spot) → IsPlace a.row a.col → IsPlace b.row b.col → IsRange (range_between a b)
range_formed a b (r0, c0) (r1, c1) =
    let r = ordered a.row b.row _ r0 r1 in
    let c = ordered a.col b.col _ c0 c1 in
    record { first = (r.below.0, c.below.0); last = (r.below.1, c.below.1); rows = r.order; cols = c.order }

spot_formed : (c : Spot) (r k : Option ℕ) → ((row col : ℕ) → r ≡ Some row → k ≡ Some col → IsPlace row col) →
    IsWellFormed (cell_or_lost (option_and_then (λ row. option_map (λ col. spot_at c row col) k) r))
spot_formed c None k h = tt
spot_formed c (Some row) None h = tt
spot_formed c (Some row) (Some col) h = h row col refl refl

span_formed : (s : Span) (r k : Option (ℕ × ℕ)) → ((rows cols : ℕ × ℕ) → r ≡ Some rows → k ≡ Some cols → IsPlace rows.0 cols.0 × IsPlace rows.1 cols.1) →
    IsWellFormed (range_or_lost (option_and_then (λ rows. option_map (λ cols. span_at s rows cols) k) r))
span_formed s None k h = tt
span_formed s (Some rows) None h = tt
span_formed s (Some rows) (Some cols) h = let places = h rows cols refl refl in range_formed (first_corner s rows cols) (last_corner s rows cols) places.0 places.1

module _ (m : Images) where
  mutual
    tree_formed : (t : Tree Spot Span) → IsWellFormed t → IsMapped m t → IsWellFormed (mapped m t)
    tree_formed (num n) w h = w
    tree_formed (text t) w h = w
    tree_formed (fault e) w h = w
    tree_formed (cell c) w h = spot_formed c (m.rec_row c.row) (m.rec_col c.col) h
    tree_formed (range r) w h = span_formed r (m.span_rows r.top r.bottom) (m.span_cols r.left r.right) h
    tree_formed (pre op t) w h = tree_formed t w h
    tree_formed (bin op s t) w h = (tree_formed s w.0 h.0, tree_formed t w.1 h.1)
    tree_formed (call f ts) w h = (w.0, trees_formed ts w.1 h)

    trees_formed : (ts : Trees Spot Span) → AreWellFormed ts → EachReferences (IsSpotMapped m) (IsSpanMapped m) ts → AreWellFormed (remap_trees (remap_spot m) (remap_span m) ts)
    trees_formed none w h = tt
    trees_formed (more t ts) w h = (tree_formed t w.0 h.0, trees_formed ts w.1 h.1)

  pub formula_mapped : (t : Tree Spot Span) → IsFormula t → IsMapped m t → IsFormula (mapped m t)
  formula_mapped t w h = record {
    formed = tree_formed t w.formed h;
    shallow = rw (nesting-mapped m t) w.shallow;
    small = rw (nodes-mapped m t) w.small;
  }
