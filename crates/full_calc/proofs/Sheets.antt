-- The values of a sheet by depth: what holds of any cells holds of those of a sheet.
use Rattle.std.proofs.Common.{◌≡◌, ℕ, zero, suc, ◌+◌, Bool, true, false, cond, List, [], ◌∷◌, ◌++◌, length, map, refl, ap, sym, ◌∙◌, subst, inl, inr}
use Rattle.std.specs.Prelude.{◌&&◌, ◌||◌, ◌⊎◌, not, filter, flat_map, take, drop}
use Rattle.std.specs.List.{list_any, AllByRecursion}
use Rattle.ss_base.specs.declared.types.CalcErr.TheVariants as fault
use Rattle.formula_tree.specs.Tree.{Tree, Trees, cell, range, none, more}
use Rattle.formula_tree.specs.Tree as tree
use Rattle.sheet_value.specs.declared.value.Value.{Value}
use Rattle.sheet_value.specs.declared.value.Value.TheVariants as value
use Rattle.sheet_ops.specs.LineIds.{LineId, id_eq}
use Rattle.sheet_ops.specs.Lines.{AxisLine, Axis, live_lines, slot_place}
use Rattle.sheet_ops.specs.Identity.{IdCell, IdRange, IdContent, blank, number, text, formula, IdSheet}
use Rattle.sheet_ops.proofs.Ids.{id_eq-same, id_eq-self, true_or_false}
use Rattle.sheet_ops.proofs.References.{always}
use Rattle.full_calc.specs.Precedents.{CellId, is_live, is_live_cell, live_cells, lines_between, seen_between, mentioned, mentioned_all}
use Rattle.full_calc.specs.Depth.{circular_at, at_depth}
use Rattle.full_calc.specs.Circular.{is_formula, is_formula_cell, formula_cells, content_precedents, precedents, is_circular_at, is_circular}
use Rattle.full_calc.specs.Values.{content_value, formula_result, value_at_depth, value_of}
use Rattle.full_calc.proofs.Seen.{cell_of, SameCell, SameRange, formula_result-same}
use Rattle.full_calc.proofs.Circles as circles
use Rattle.full_calc.proofs.Circles.{for_each, at_each}
use Rattle.cell_walk.specs.Walks.{IsIn}

-- ---- the definitions of a sheet are those of depth
abbrev pub step_of : IdSheet → CellId → (CellId → Value) → Value
step_of X c v = content_value (X.cells c.row c.col) (λ t. formula_result X v t)

abbrev pub base_of : IdSheet → CellId → Value
base_of X c = content_value (X.cells c.row c.col) (λ t. value.Empty)

circular-is : (X : IdSheet) (n : ℕ) (c : CellId) → is_circular_at X n c ≡ circular_at (is_formula_cell X) (precedents X) n c
circular-is X n c = refl

value-is : (X : IdSheet) (n : ℕ) (c : CellId) → value_at_depth X n c ≡ at_depth (is_circular X) (value.Err fault.Circ) (base_of X) (step_of X) n c
value-is X n c = refl

-- ---- lists
module _ {A : Type 0} (P : A → Type 0) where
  all_join : (xs ys : List A) → AllByRecursion P xs → AllByRecursion P ys → AllByRecursion P (xs ++ ys)
  all_join [] ys h k = k
  all_join (x ∷ xs) ys h k = (h.0, all_join xs ys h.1 k)

  all_take : (n : ℕ) (xs : List A) → AllByRecursion P xs → AllByRecursion P (take n xs)
  all_take zero xs h = tt
  all_take (suc n) [] h = tt
  all_take (suc n) (x ∷ xs) h = (h.0, all_take n xs h.1)

  all_drop : (n : ℕ) (xs : List A) → AllByRecursion P xs → AllByRecursion P (drop n xs)
  all_drop zero xs h = h
  all_drop (suc n) [] h = tt
  all_drop (suc n) (x ∷ xs) h = all_drop n xs h.1

module _ {A : Type 0} where
  in_filter : (p : A → Bool) (x : A) (xs : List A) → p x ≡ true → IsIn x xs → IsIn x (filter p xs)
  in_filter p x [] e h = h
  in_filter p x (y ∷ ys) e (inl q) = subst (λ z. IsIn x (cond (p z) (z ∷ filter p ys) (filter p ys))) (sym q) (rw e (inl q'))
    where
      q' : x ≡ x
      q' = refl
  in_filter p x (y ∷ ys) e (inr h) = by_test (p y) (in_filter p x ys e h)
    where
      by_test : (b : Bool) → IsIn x (filter p ys) → IsIn x (cond b (y ∷ filter p ys) (filter p ys))
      by_test true k = inr k
      by_test false k = k

  in_join_front : (x : A) (xs ys : List A) → IsIn x xs → IsIn x (xs ++ ys)
  in_join_front x [] ys h = absurd h
  in_join_front x (z ∷ zs) ys (inl e) = inl e
  in_join_front x (z ∷ zs) ys (inr h) = inr (in_join_front x zs ys h)

  in_join_back : (x : A) (xs ys : List A) → IsIn x ys → IsIn x (xs ++ ys)
  in_join_back x [] ys h = h
  in_join_back x (z ∷ zs) ys h = inr (in_join_back x zs ys h)

-- ---- what is live
rec_in : (dead : LineId → Bool) (id : LineId) → dead id ≡ false → (ls : List AxisLine) → list_any (λ l. id_eq l.rec id) ls ≡ true → IsIn id (map (λ l. l.rec) (filter (λ l. not (dead l.rec)) ls))
rec_in dead id alive [] h = absurd (let e : false ≡ true = h in cc)
rec_in dead id alive (l ∷ ls) h = by_test (true_or_false (id_eq l.rec id)) (λ k. rec_in dead id alive ls k) h
  where
    keeps : (b : Bool) → IsIn id (map (λ l. l.rec) (filter (λ l. not (dead l.rec)) ls)) → IsIn id (map (λ l. l.rec) (cond (not b) (l ∷ filter (λ l. not (dead l.rec)) ls) (filter (λ l. not (dead l.rec)) ls)))
    keeps true k = k
    keeps false k = inr k

    by_test : ((id_eq l.rec id ≡ true) ⊎ (id_eq l.rec id ≡ false)) → (list_any (λ l. id_eq l.rec id) ls ≡ true → IsIn id (map (λ l. l.rec) (filter (λ l. not (dead l.rec)) ls))) →
        (id_eq l.rec id || list_any (λ l. id_eq l.rec id) ls) ≡ true → IsIn id (map (λ l. l.rec) (cond (not (dead l.rec)) (l ∷ filter (λ l. not (dead l.rec)) ls) (filter (λ l. not (dead l.rec)) ls)))
    by_test (inl e) r h =
        let same = id_eq-same l.rec id e in
        let d : dead l.rec ≡ false = ap dead same ∙ alive in
        rw d (inl same)
    by_test (inr e) r h = keeps (dead l.rec) (r (rw e at h))

both : (a b : Bool) → a && b ≡ true → (a ≡ true) × (b ≡ true)
both true true h = (refl, refl)
both true false h = absurd (cc)
both false b h = absurd (cc)

not_true : (b : Bool) → not b ≡ true → b ≡ false
not_true true h = absurd (let e : false ≡ true = h in cc)
not_true false h = refl

live_in : (axis : Axis) (id : LineId) → is_live axis id ≡ true → IsIn id (map (λ l. l.rec) (live_lines axis))
live_in axis id h =
    let parts = both (list_any (λ (l : AxisLine). id_eq l.rec id) axis.lines) (not (axis.dead id)) h in
    rec_in axis.dead id (not_true (axis.dead id) parts.1) axis.lines parts.0

module _ (X : IdSheet) where
  in_row : (a b : LineId) (cs : List AxisLine) → IsIn b (map (λ l. l.rec) cs) → IsIn (cell_of a b) (map (λ (c : AxisLine). cell_of a c.rec) cs)
  in_row a b [] h = h
  in_row a b (c ∷ cs) (inl e) = inl (ap (cell_of a) e)
  in_row a b (c ∷ cs) (inr h) = inr (in_row a b cs h)

  in_rows : (a b : LineId) (rs cs : List AxisLine) → IsIn a (map (λ l. l.rec) rs) → IsIn b (map (λ l. l.rec) cs) → IsIn (cell_of a b) (flat_map (λ (r : AxisLine). map (λ (c : AxisLine). cell_of r.rec c.rec) cs) rs)
  in_rows a b [] cs h k = h
  in_rows a b (r ∷ rs) cs (inl e) k = subst (λ z. IsIn (cell_of a b) (map (λ (c : AxisLine). cell_of z c.rec) cs ++ flat_map (λ (r : AxisLine). map (λ (c : AxisLine). cell_of r.rec c.rec) cs) rs)) (sym e)
      (in_join_front (cell_of a b) (map (λ (c : AxisLine). cell_of a c.rec) cs) _ (in_row a b cs k))
  in_rows a b (r ∷ rs) cs (inr h) k = in_join_back (cell_of a b) (map (λ (c : AxisLine). cell_of r.rec c.rec) cs) _ (in_rows a b rs cs h k)

  pub formula_in : (c : CellId) → is_formula_cell X c ≡ true → IsIn c (formula_cells X)
  formula_in c h =
      let live = (both (is_live_cell X c) (is_formula (X.cells c.row c.col)) h).0 in
      let lines = both (is_live X.rows c.row) (is_live X.cols c.col) live in
      in_filter (is_formula_cell X) c (live_cells X) h (in_rows c.row c.col (live_lines X.rows) (live_lines X.cols) (live_in X.rows c.row lines.0) (live_in X.cols c.col lines.1))

-- a cell that is mentioned is live
module _ (axis : Axis) where
  abbrev Present : AxisLine → Type 0
  Present l = list_any (λ (m : AxisLine). id_eq m.rec l.rec) axis.lines ≡ true

  present : (l : AxisLine) (ls : List AxisLine) → IsIn l ls → list_any (λ (m : AxisLine). id_eq m.rec l.rec) ls ≡ true
  present l [] h = absurd h
  present l (m ∷ ms) (inl e) = ap (λ b. b || list_any (λ (m : AxisLine). id_eq m.rec l.rec) ms) (ap (λ (k : AxisLine). id_eq k.rec l.rec) e ∙ id_eq-self l.rec)
  present l (m ∷ ms) (inr h) = by_test (id_eq m.rec l.rec) (present l ms h)
    where
      by_test : (b : Bool) → list_any (λ (m : AxisLine). id_eq m.rec l.rec) ms ≡ true → b || list_any (λ (m : AxisLine). id_eq m.rec l.rec) ms ≡ true
      by_test true h = refl
      by_test false h = h

  seen_live : (ls : List AxisLine) → AllByRecursion Present ls → AllByRecursion (λ a. is_live axis a ≡ true) (map (λ l. l.rec) (filter (λ l. not (axis.dead l.rec)) ls))
  seen_live [] h = tt
  seen_live (l ∷ ls) h = by_test (axis.dead l.rec) refl (seen_live ls h.1)
    where
      by_test : (b : Bool) → axis.dead l.rec ≡ b → AllByRecursion (λ a. is_live axis a ≡ true) (map (λ l. l.rec) (filter (λ l. not (axis.dead l.rec)) ls)) →
          AllByRecursion (λ a. is_live axis a ≡ true) (map (λ l. l.rec) (cond (not b) (l ∷ filter (λ l. not (axis.dead l.rec)) ls) (filter (λ l. not (axis.dead l.rec)) ls)))
      by_test true e k = k
      by_test false e k = ((λ i. h.0 i && not (e i)), k)

  between_live : (first last : LineId) → AllByRecursion (λ a. is_live axis a ≡ true) (seen_between axis first last)
  between_live first last =
      let all = for_each Present axis.lines (λ l h. present l axis.lines h) in
      seen_live (lines_between axis first last) (all_drop Present (slot_place axis first) (take (suc (slot_place axis last)) axis.lines) (all_take Present (suc (slot_place axis last)) axis.lines all))

module _ (X : IdSheet) where
  abbrev Live : CellId → Type 0
  Live d = is_live_cell X d ≡ true

  live_row : (a : LineId) (cs : List LineId) → is_live X.rows a ≡ true → AllByRecursion (λ b. is_live X.cols b ≡ true) cs → AllByRecursion Live (map (λ (b : LineId). cell_of a b) cs)
  live_row a [] h k = tt
  live_row a (c ∷ cs) h k = ((λ i. h i && k.0 i), live_row a cs h k.1)

  live_rows : (rs cs : List LineId) → AllByRecursion (λ a. is_live X.rows a ≡ true) rs → AllByRecursion (λ b. is_live X.cols b ≡ true) cs → AllByRecursion Live (flat_map (λ (a : LineId). map (λ (b : LineId). cell_of a b) cs) rs)
  live_rows [] cs h k = tt
  live_rows (r ∷ rs) cs h k = all_join Live (map (λ (b : LineId). cell_of r b) cs) _ (live_row r cs h.0 k) (live_rows rs cs h.1 k)

  mutual
    mentioned_live : (t : Tree IdCell IdRange) → AllByRecursion Live (mentioned X t)
    mentioned_live (tree.num n) = tt
    mentioned_live (tree.text t) = tt
    mentioned_live (tree.fault e) = tt
    mentioned_live (cell c) = by_live (is_live_cell X (cell_of c.row c.col)) refl
      where
        by_live : (b : Bool) → is_live_cell X (cell_of c.row c.col) ≡ b → AllByRecursion Live (cond b (cell_of c.row c.col ∷ []) [])
        by_live true e = (e, tt)
        by_live false e = tt
    mentioned_live (range r) = live_rows (seen_between X.rows r.top r.bottom) (seen_between X.cols r.left r.right) (between_live X.rows r.top r.bottom) (between_live X.cols r.left r.right)
    mentioned_live (tree.pre op t) = mentioned_live t
    mentioned_live (tree.bin op s t) = all_join Live (mentioned X s) (mentioned X t) (mentioned_live s) (mentioned_live t)
    mentioned_live (tree.call f ts) = all_live ts

    all_live : (ts : Trees IdCell IdRange) → AllByRecursion Live (mentioned_all X ts)
    all_live none = tt
    all_live (more t ts) = all_join Live (mentioned X t) (mentioned_all X ts) (mentioned_live t) (all_live ts)

  pub precedents_live : (c d : CellId) → IsIn d (precedents X c) → is_live_cell X d ≡ true
  precedents_live c d h = at_each Live (precedents X c) d (by_content (X.cells c.row c.col)) h
    where
      by_content : (k : IdContent) → AllByRecursion Live (content_precedents X k)
      by_content blank = tt
      by_content (number z) = tt
      by_content (text t) = tt
      by_content (formula t) = mentioned_live t

  -- a live cell that is no formula cell has the same value at every depth
  pub leaf_value : (c : CellId) → is_live_cell X c ≡ true → is_formula_cell X c ≡ false → (v : CellId → Value) → base_of X c ≡ step_of X c v
  leaf_value c l f v = by_content (X.cells c.row c.col) ((λ i. sym l i && is_formula (X.cells c.row c.col)) ∙ f)
    where
      by_content : (k : IdContent) → is_formula k ≡ false → content_value k (λ t. value.Empty) ≡ content_value k (λ t. formula_result X v t)
      by_content blank h = refl
      by_content (number z) h = refl
      by_content (text t) h = refl
      by_content (formula t) h = absurd (let e : true ≡ false = h in cc)

  pub step_same : (c : CellId) (v w : CellId → Value) → AllByRecursion (λ d. v d ≡ w d) (precedents X c) → step_of X c v ≡ step_of X c w
  step_same c v w h = by_content (X.cells c.row c.col) h
    where
      by_content : (k : IdContent) → AllByRecursion (λ d. v d ≡ w d) (content_precedents X k) → content_value k (λ t. formula_result X v t) ≡ content_value k (λ t. formula_result X w t)
      by_content blank h = refl
      by_content (number z) h = refl
      by_content (text t) h = refl
      by_content (formula t) h = formula_result-same X X v w t (always (SameCell X X) (SameRange X X) (λ c. refl) (λ r. record { rows = refl; cols = refl }) t) h

  -- From the number of live formula cells on, the value of a live cell stays.
  pub value_stays : (k : ℕ) (c : CellId) → is_live_cell X c ≡ true → value_at_depth X (k + length (formula_cells X)) c ≡ value_of X c
  value_stays k c l = by_circle (true_or_false (is_circular X c))
    where
      by_circle : ((is_circular X c ≡ true) ⊎ (is_circular X c ≡ false)) → value_at_depth X (k + length (formula_cells X)) c ≡ value_of X c
      by_circle (inl e) = fault_at (k + length (formula_cells X)) ∙ sym (fault_at (length (formula_cells X)))
        where
          fault_at : (n : ℕ) → value_at_depth X n c ≡ value.Err fault.Circ
          fault_at zero = ap (λ b. cond b (value.Err fault.Circ) (base_of X c)) e
          fault_at (suc n) = ap (λ b. cond b (value.Err fault.Circ) (step_of X c (value_at_depth X n))) e
      by_circle (inr e) =
          circles.stays (is_formula_cell X) (precedents X) (is_circular X) (value.Err fault.Circ) (base_of X) (step_of X) step_same
          Live (λ c d l i. precedents_live c d i) leaf_value (length (formula_cells X)) c l e k
