-- What a walk has to show of a sheet, so that its values are those of full evaluation and its circular cells the circular ones.
use Rattle.std.proofs.Common.{◌≡◌, ℕ, suc, ◌+◌, Bool, true, false, cond, List, [], ◌∷◌, length, map, Option, None, Some, refl, ap, sym, ◌∙◌, subst, arith, inl, inr}
use Rattle.std.specs.Prelude.{◌||◌, ◌⊎◌}
use Rattle.std.specs.List.{list_any, filter_map, cons_option, AllByRecursion}
use Rattle.ss_base.specs.declared.types.CalcErr.TheVariants as fault
use Rattle.sheet_value.specs.declared.value.Value.{Value}
use Rattle.sheet_value.specs.declared.value.Value.TheVariants as value
use Rattle.sheet_ops.specs.Identity.{IdSheet}
use Rattle.cell_walk.specs.Walks.{IsIn}
use Rattle.full_calc.specs.Precedents.{CellId, is_live_cell}
use Rattle.full_calc.specs.Circular.{is_formula, is_formula_cell, formula_cells, precedents, is_circular}
use Rattle.full_calc.specs.Values.{value_at_depth, value_of}
use Rattle.full_calc.proofs.Circles as circles
use Rattle.full_calc.proofs.Circles.{for_each, at_each, none_of, and_false, first_of_and, last_of_and}
use Rattle.full_calc.proofs.Sheets.{step_of, formula_in, step_same, value_stays, precedents_live}

-- Cells of which each mentions another of them: they are circular.
pub found_circular : (X : IdSheet) (found : CellId → Bool) → ((c : CellId) → found c ≡ true → (is_formula_cell X c ≡ true) × (list_any found (precedents X c) ≡ true)) → (c : CellId) → found c ≡ true → is_circular X c ≡ true
found_circular X found h c k = circles.found_circular (is_formula_cell X) (precedents X) found h (length (formula_cells X)) c k

-- The values v of cells in an order, and cells of which all is known: those without a formula, and those that were not walked.
module _ (X : IdSheet) (v : CellId → Value) (known : CellId → Type 0)
    (free : (d : CellId) → known d → is_circular X d ≡ false)
    (has : (d : CellId) → known d → value_of X d ≡ v d) where
  -- each stands behind all that it mentions, and was computed; the last one first
  abbrev pub Behind : List CellId → Type 0
  Behind [] = Unit {0}
  Behind (c ∷ before) = (is_live_cell X c ≡ true) × (v c ≡ step_of X c v) × AllByRecursion (λ d. IsIn d before ⊎ known d) (precedents X c) × Behind before

  pub order_free : (order : List CellId) → Behind order → (c : CellId) → IsIn c order → is_circular X c ≡ false
  order_free [] h c i = absurd i
  order_free (x ∷ before) h c (inr i) = order_free before h.3 c i
  order_free (x ∷ before) h c (inl e) = subst (λ (d : CellId). is_circular X d ≡ false) e (here (λ d i. order_free before h.3 d i))
    where
      here : ((d : CellId) → IsIn d before → is_circular X d ≡ false) → is_circular X x ≡ false
      here r =
          sym (circles.settled (is_formula_cell X) (precedents X) (formula_cells X) (formula_in X) x)
          ∙ and_false (is_formula_cell X x) (list_any (λ d. is_circular X d) (precedents X x))
          (none_of (λ d. is_circular X d) (precedents X x) (for_each (λ d. is_circular X d ≡ false) (precedents X x) (λ d i. by_place d (at_each (λ d. IsIn d before ⊎ known d) (precedents X x) d h.2 i))))
        where
          by_place : (d : CellId) → (IsIn d before ⊎ known d) → is_circular X d ≡ false
          by_place d (inl i) = r d i
          by_place d (inr k) = free d k

  pub order_value : (order : List CellId) → Behind order → (c : CellId) → IsIn c order → value_of X c ≡ v c
  order_value [] h c i = absurd i
  order_value (x ∷ before) h c (inr i) = order_value before h.3 c i
  order_value (x ∷ before) h c (inl e) = subst (λ (d : CellId). value_of X d ≡ v d) e (here (λ d i. order_value before h.3 d i) (order_free (x ∷ before) h x (inl refl)))
    where
      here : ((d : CellId) → IsIn d before → value_of X d ≡ v d) → is_circular X x ≡ false → value_of X x ≡ v x
      here r f =
          sym (value_stays X 1 x h.0)
          ∙ (ap (λ n. value_at_depth X n x) (let q : 1 + length (formula_cells X) ≡ suc (length (formula_cells X)) = omega arith in q)
          ∙ (ap (λ b. cond b (value.Err fault.Circ) (step_of X x (value_of X))) f
          ∙ (step_same X x (value_of X) v (for_each (λ d. value_of X d ≡ v d) (precedents X x) (λ d i. by_place d (at_each (λ d. IsIn d before ⊎ known d) (precedents X x) d h.2 i)))
          ∙ sym h.1)))
        where
          by_place : (d : CellId) → (IsIn d before ⊎ known d) → value_of X d ≡ v d
          by_place d (inl i) = r d i
          by_place d (inr k) = has d k

-- a live cell without a formula has a value of its own, and isn't circular
pub leaf_known : (X : IdSheet) (c : CellId) → is_formula_cell X c ≡ false → is_circular X c ≡ false
leaf_known X c e = circles.no_circle (is_formula_cell X) (precedents X) (length (formula_cells X)) c e

-- a circular cell mentions a circular one
pub circular_leads : (X : IdSheet) (c : CellId) → is_circular X c ≡ true → list_any (λ d. is_circular X d) (precedents X c) ≡ true
circular_leads X c h =
    last_of_and (is_formula_cell X c) (list_any (λ d. is_circular X d) (precedents X c))
    (circles.settled (is_formula_cell X) (precedents X) (formula_cells X) (formula_in X) c ∙ h)

-- ---- from numbers to cells
module _ (X : IdSheet) (id : ℕ → CellId) (number : CellId → Option ℕ) (mentions : ℕ → List ℕ)
    -- numbers of formula cells, and of no others
    (back : (c : CellId) (n : ℕ) → number c ≡ Some n → id n ≡ c)
    (some : (c : CellId) (n : ℕ) → number c ≡ Some n → is_formula_cell X c ≡ true)
    (none : (c : CellId) → number c ≡ None → is_formula_cell X c ≡ false)
    -- what a cell mentions, but for cells without a formula
    (leads : (n : ℕ) → number (id n) ≡ Some n → mentions n ≡ filter_map number (precedents X (id n))) where
  abbrev flag : (ℕ → Bool) → Option ℕ → Bool
  flag circle None = false
  flag circle (Some n) = circle n

  any_numbers : (circle : ℕ → Bool) (cs : List CellId) → list_any circle (filter_map number cs) ≡ list_any (λ c. flag circle (number c)) cs
  any_numbers circle [] = refl
  any_numbers circle (c ∷ cs) = by_number (number c) (any_numbers circle cs)
    where
      by_number : (o : Option ℕ) → list_any circle (filter_map number cs) ≡ list_any (λ c. flag circle (number c)) cs →
          list_any circle (cons_option o (filter_map number cs)) ≡ (flag circle o || list_any (λ c. flag circle (number c)) cs)
      by_number None r = r
      by_number (Some n) r = ap (λ b. circle n || b) r

  -- what the walk marks as circular is so
  pub walk_circular : (circle : ℕ → Bool) → ((n : ℕ) → circle n ≡ true → number (id n) ≡ Some n) → ((n : ℕ) → circle n ≡ true → list_any circle (mentions n) ≡ true) → (n : ℕ) → circle n ≡ true → is_circular X (id n) ≡ true
  walk_circular circle inside circles_are n h =
      found_circular X (λ c. flag circle (number c)) found (id n) (ap (flag circle) (inside n h) ∙ h)
    where
      found : (c : CellId) → flag circle (number c) ≡ true → (is_formula_cell X c ≡ true) × (list_any (λ c. flag circle (number c)) (precedents X c) ≡ true)
      found c k = by_number (number c) refl k
        where
          by_number : (o : Option ℕ) → number c ≡ o → flag circle o ≡ true → (is_formula_cell X c ≡ true) × (list_any (λ c. flag circle (number c)) (precedents X c) ≡ true)
          by_number None e k = absurd (let q : false ≡ true = k in cc)
          by_number (Some m) e k =
              let is = back c m e in (
                some c m e,
                subst (λ (d : CellId). list_any (λ c. flag circle (number c)) (precedents X d) ≡ true) is
                    (sym (any_numbers circle (precedents X (id m))) ∙ (ap (λ (ms : List ℕ). list_any circle ms) (sym (leads m (inside m k))) ∙ circles_are m k)),
              )

  in_numbers : (d : CellId) (m : ℕ) (cs : List CellId) → number d ≡ Some m → IsIn d cs → IsIn m (filter_map number cs)
  in_numbers d m [] e i = absurd i
  in_numbers d m (c ∷ cs) e (inl p) = by_number (number c) (ap number p ∙ e)
    where
      by_number : (o : Option ℕ) → o ≡ Some m → IsIn m (cons_option o (filter_map number cs))
      by_number None q = absurd (cc)
      by_number (Some n) q = inl (cc)
  in_numbers d m (c ∷ cs) e (inr i) = by_number (number c) (in_numbers d m cs e i)
    where
      by_number : (o : Option ℕ) → IsIn m (filter_map number cs) → IsIn m (cons_option o (filter_map number cs))
      by_number None k = k
      by_number (Some n) k = inr k

  -- the walk's order, the last one first; `first` are the numbers of which all was known
  module _ (first : ℕ → Bool) (v : CellId → Value)
      (free : (n : ℕ) → first n ≡ true → is_circular X (id n) ≡ false)
      (has : (n : ℕ) → first n ≡ true → value_of X (id n) ≡ v (id n))
      (leaf : (c : CellId) → is_live_cell X c ≡ true → is_formula_cell X c ≡ false → value_of X c ≡ v c) where
    abbrev pub WalkOrder : List ℕ → Type 0
    WalkOrder [] = Unit {0}
    WalkOrder (n ∷ before) = (number (id n) ≡ Some n) × (v (id n) ≡ step_of X (id n) v) × ((m : ℕ) → IsIn m (mentions n) → IsIn m before ⊎ (first m ≡ true)) × WalkOrder before

    -- a cell without a formula, or one that was known
    abbrev Known : CellId → Type 0
    Known d = ((is_live_cell X d ≡ true) × (is_formula_cell X d ≡ false)) ⊎ ((m : ℕ) × (id m ≡ d) × (first m ≡ true))

    known_free : (d : CellId) → Known d → is_circular X d ≡ false
    known_free d (inl k) = leaf_known X d k.1
    known_free d (inr k) = subst (λ (c : CellId). is_circular X c ≡ false) k.1 (free k.0 k.2)

    known_has : (d : CellId) → Known d → value_of X d ≡ v d
    known_has d (inl k) = leaf d k.0 k.1
    known_has d (inr k) = subst (λ (c : CellId). value_of X c ≡ v c) k.1 (has k.0 k.2)

    in_cells : (m : ℕ) (ns : List ℕ) → IsIn m ns → IsIn (id m) (map id ns)
    in_cells m [] i = absurd i
    in_cells m (n ∷ ns) (inl p) = inl (ap id p)
    in_cells m (n ∷ ns) (inr i) = inr (in_cells m ns i)

    behind : (order : List ℕ) → WalkOrder order → Behind X v Known known_free known_has (map id order)
    behind [] h = tt
    behind (n ∷ before) h = (
      first_of_and (is_live_cell X (id n)) (is_formula (X.cells (id n).row (id n).col)) (some (id n) n h.0),
      h.1,
      for_each (λ d. IsIn d (map id before) ⊎ Known d) (precedents X (id n)) (λ d i. by_number d i (number d) refl),
      behind before h.3,
    )
      where
        placed : (d : CellId) (m : ℕ) → id m ≡ d → (IsIn m before ⊎ (first m ≡ true)) → IsIn d (map id before) ⊎ Known d
        placed d m e (inl i) = inl (subst (λ (c : CellId). IsIn c (map id before)) e (in_cells m before i))
        placed d m e (inr k) = inr (inr (m, e, k))

        by_number : (d : CellId) → IsIn d (precedents X (id n)) → (o : Option ℕ) → number d ≡ o → IsIn d (map id before) ⊎ Known d
        by_number d i None e = inr (inl (precedents_live X (id n) d i, none d e))
        by_number d i (Some m) e = placed d m (back d m e) (h.2 m (subst (λ (ms : List ℕ). IsIn m ms) (sym (leads n h.0)) (in_numbers d m (precedents X (id n)) e i)))

    -- What the walk put in order and was computed so isn't circular, and has the value of full evaluation.
    pub walk_value : (order : List ℕ) → WalkOrder order → (n : ℕ) → IsIn n order → (is_circular X (id n) ≡ false) × (value_of X (id n) ≡ v (id n))
    walk_value order h n i = (
      order_free X v Known known_free known_has (map id order) (behind order h) (id n) (in_cells n order i),
      order_value X v Known known_free known_has (map id order) (behind order h) (id n) (in_cells n order i),
    )
