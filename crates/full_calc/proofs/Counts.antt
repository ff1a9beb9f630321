-- How many formulas are evaluated.
use Rattle.std.proofs.Common.{◌≡◌, ℕ, suc, ◌+◌, ◌<◌, ◌≤◌, List, [], ◌∷◌, length, refl, ap, sym, ◌∙◌, subst, arith, inl, inr, Some}
use Rattle.std.specs.Prelude.{◌⊎◌, not, reverse}
use Rattle.sheet_graph.specs.declared.columns.FormulaCell.{FormulaCell}
use Rattle.std.proofs.lemmas.List.{length-reverse}
use Rattle.sheet_ops.specs.Fits.{IsWellFormed}
use Rattle.sheet_ops.specs.Identity.{IdSheet}
use Rattle.sheet_ops.specs.Placed.{PlacedSheet, placed}
use Rattle.cell_walk.specs.declared.walking.Colour.{Colour}
use Rattle.cell_walk.specs.declared.walking.Colour.TheVariants.{White, Ordered}
use Rattle.cell_walk.specs.Walks.{IsIn, AreDistinct, hue, IsFound}
use Rattle.cell_walk.proofs.Hues.{hue_within}
use Rattle.sheet_graph.specs.declared.graph.Node.{Node}
use Rattle.sheet_graph.specs.Columns.{number_in}
use Rattle.sheet_graph.specs.Graphs.{mentions_in, IsGraph}
use Rattle.sheet_graph.proofs.Filled.{filter_in, get_there}
use Rattle.full_calc.specs.Circular.{formula_cells, is_circular, acyclic_cells}
use Rattle.full_calc.proofs.Sheets.{formula_in}
use Rattle.full_calc.proofs.Numbering.{number_of}
use Rattle.full_calc.proofs.Premises.{id_of, some}
use Rattle.full_calc.proofs.Circling.{number_of_node, ordered_free}
use Rattle.full_calc.proofs.Runs.{found_of}

-- ---- a list with one of its members taken out
module _ {A : Type 0} where
  removed : (y : A) (ys : List A) → IsIn y ys → List A
  removed y [] i = []
  removed y (z ∷ zs) (inl e) = zs
  removed y (z ∷ zs) (inr i) = z ∷ removed y zs i

  length-removed : (y : A) (ys : List A) (i : IsIn y ys) → suc (length (removed y ys i)) ≡ length ys
  unfolding removed
  length-removed y [] i = absurd i
  length-removed y (z ∷ zs) (inl e) = refl
  length-removed y (z ∷ zs) (inr i) = ap suc (length-removed y zs i)

  in_removed : (y z : A) (ys : List A) (i : IsIn y ys) → IsIn z ys → (y ≡ z) ⊎ IsIn z (removed y ys i)
  unfolding removed
  in_removed y z [] i j = absurd i
  in_removed y z (x ∷ xs) (inl e) (inl f) = inl (sym e ∙ f)
  in_removed y z (x ∷ xs) (inl e) (inr j) = inr j
  in_removed y z (x ∷ xs) (inr i) (inl f) = inr (inl f)
  in_removed y z (x ∷ xs) (inr i) (inr j) = more (in_removed y z xs i j)
    where
      more : ((y ≡ z) ⊎ IsIn z (removed y xs i)) → (y ≡ z) ⊎ IsIn z (x ∷ removed y xs i)
      more (inl e) = inl e
      more (inr k) = inr (inr k)

-- different members of one list that lead to different members of another are no more than these
no_more : {A B : Type 0} (f : A → B) (xs : List A) (ys : List B) → AreDistinct xs → ((x : A) → IsIn x xs → IsIn (f x) ys) → ((x z : A) → IsIn x xs → IsIn z xs → f x ≡ f z → x ≡ z) → length xs ≤ length ys
no_more f [] ys d into one = omega arith
no_more {A} f (x ∷ xs) ys d into one =
    let i = into x (inl refl) in
    let r = no_more f xs (removed (f x) ys i) d.1 (λ z j. rest z j (in_removed (f x) (f z) ys i (into z (inr j)))) (λ z v j k e. one z v (inr j) (inr k) e) in
    let l = length-removed (f x) ys i in
    omega (arith, r, l)
  where
    rest : (z : A) → IsIn z xs → ((f x ≡ f z) ⊎ IsIn (f z) (removed (f x) ys (into x (inl refl)))) → IsIn (f z) (removed (f x) ys (into x (inl refl)))
    rest z j (inr k) = k
    rest z j (inl e) = absurd (d.0 (subst (λ (v : A). IsIn v xs) (sym (one x z (inl refl) (inr j) e)) j))

-- The formula cells of an order are formula cells that aren't circular, each once.
few_evaluated : (X : IdSheet) → IsWellFormed X → (nodes : List Node) (columns : List (List FormulaCell)) → IsGraph (placed X) nodes (number_in columns) → (colours : List Colour) (order : List ℕ) → length colours ≡ length nodes →
    IsFound (mentions_in nodes columns) (λ c. White) (length nodes) (hue colours) (reverse order) → length order ≤ length (acyclic_cells X)
few_evaluated X w nodes columns g colours order len found =
    let l = length-reverse order in
    let m = no_more (id_of X nodes columns g) (reverse order) (acyclic_cells X) found.distinct into one in
    omega (arith, l, m)
  where
    below : (n : ℕ) → IsIn n (reverse order) → n < length nodes
    below n i = let k = hue_within colours n (λ q. let clash : White ≡ Ordered = sym q ∙ (found.ordered n i).0 in cc) in let e = len in omega (arith, k, e)

    numbered : (n : ℕ) → n < length nodes → number_of X (number_in columns) (id_of X nodes columns g n) ≡ Some n
    numbered n h = let x = get_there nodes n h in number_of_node X w nodes columns g n x.0 x.1

    into : (n : ℕ) → IsIn n (reverse order) → IsIn (id_of X nodes columns g n) (acyclic_cells X)
    into n i =
        filter_in (λ c. not (is_circular X c)) (id_of X nodes columns g n) (formula_cells X)
        (ap not (ordered_free X w nodes columns g (λ c. White) (λ m q. let clash : White ≡ Ordered = q in cc) (reverse order) found.orderly n i (below n i)))
        (formula_in X (id_of X nodes columns g n) (some X nodes columns g (id_of X nodes columns g n) n (numbered n (below n i))))

    one : (n m : ℕ) → IsIn n (reverse order) → IsIn m (reverse order) → id_of X nodes columns g n ≡ id_of X nodes columns g m → n ≡ m
    one n m i j e =
        let a = numbered n (below n i) in
        let b = numbered m (below m j) in
        let s : Some n ≡ Some m = sym a ∙ (ap (number_of X (number_in columns)) e ∙ b) in
        cc

-- the same for every sheet that is placed so
few_of : (P : PlacedSheet) (nodes : List Node) (columns : List (List FormulaCell)) → IsGraph P nodes (number_in columns) → (colours : List Colour) (order : List ℕ) → length colours ≡ length nodes →
    IsFound (mentions_in nodes columns) (λ c. White) (length nodes) (hue colours) (reverse order) → (X : IdSheet) → IsWellFormed X → placed X ≡ P → length order ≤ length (acyclic_cells X)
few_of P nodes columns g colours order len found X w e = few_evaluated X w nodes columns (subst (λ (Q : PlacedSheet). IsGraph Q nodes (number_in columns)) (sym e) g) colours order len found

-- evaluations that are counted once for each cell of the order
pub few_steps : (P : PlacedSheet) (nodes : List Node) (columns : List (List FormulaCell)) → IsGraph P nodes (number_in columns) → (colours : List Colour) (order : List ℕ) (count : ℕ) → count ≡ length nodes → length colours ≡ length nodes →
    IsFound (mentions_in nodes columns) (λ c. White) count (hue colours) (reverse order) → (seen : List ℕ) → seen ≡ order → (old new : ℕ) → new ≤ old + length seen → (X : IdSheet) → IsWellFormed X → placed X ≡ P → new ≤ old + length (acyclic_cells X)
few_steps P nodes columns g colours order count all len found seen same old new steps X w e =
    let few = few_of P nodes columns g colours order len (found_of (mentions_in nodes columns) (λ c. White) (hue colours) (reverse order) count (length nodes) all found) X w e in
    let l = ap (λ (ns : List ℕ). length ns) same in
    omega (arith, few, l, steps)
