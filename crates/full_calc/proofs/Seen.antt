-- What the environment of a sheet shows at a reference, by identity.
use Rattle.std.proofs.Common.{◌≡◌, ℕ, zero, suc, ◌+◌, ◌≤◌, Bool, true, false, cond, List, [], ◌∷◌, ◌++◌, map, refl, ap, sym, ◌∙◌, subst, arith, inl, inr, Some, None}
use Rattle.std.specs.Prelude.{◌&&◌, ◌⊎◌, ◌-◌, not, nat_le, filter, take, drop, slice_index_or, is_some, flat_map}
use Rattle.std.specs.List.{list_any, AllByRecursion}
use Rattle.std.proofs.lemmas.Bool.Decides.{nat_tests}
use Rattle.formula_tree.specs.Tree.{Tree, Trees, num, text, fault, cell, range, pre, bin, call, none, more}
use Rattle.formula_tree.specs.Remap.{EachReference, EachReferences}
use Rattle.sheet_value.specs.declared.value.Value.{Value}
use Rattle.sheet_value.specs.Environment.{cell_value, range_shape, range_values, size_of_lines}
use Rattle.cell_eval.proofs.Alike.{SeesCell, SeesRange, formula-same}
use Rattle.marked_lines.specs.Marks.{places_from}
use Rattle.sheet_ops.specs.LineIds.{LineId, id_eq}
use Rattle.sheet_ops.specs.Lines.{AxisLine, Axis, place_where, rec_place, slot_place, rec_at, marks, no_line}
use Rattle.sheet_ops.specs.Identity.{IdCell, IdRange, IdSheet}
use Rattle.sheet_ops.specs.Naming.{locate_cell, locate_range}
use Rattle.sheet_ops.proofs.Ids.{id_eq-same, true_or_false, both_true}
use Rattle.full_calc.specs.Precedents.{CellId, is_live, is_live_cell, seen_between, cell_mentions, range_mentions, mentioned, mentioned_all, is_seen, places_between, environment}
use Rattle.full_calc.specs.Values.{formula_result}

-- ---- a record and its position
module _ (dead : LineId → Bool) (id : LineId) where
  abbrev is_it : AxisLine → Bool
  is_it l = id_eq l.rec id

  seen_where : (ls : List AxisLine) → not (slice_index_or (map (λ l. dead l.rec) ls) (place_where is_it ls) true) ≡ (list_any is_it ls && not (dead id))
  seen_where [] = refl
  seen_where (l ∷ ls) = by_test (id_eq l.rec id) refl (seen_where ls)
    where
      by_test : (b : Bool) → id_eq l.rec id ≡ b → not (slice_index_or (map (λ l. dead l.rec) ls) (place_where is_it ls) true) ≡ (list_any is_it ls && not (dead id)) →
          not (slice_index_or (dead l.rec ∷ map (λ l. dead l.rec) ls) (cond (id_eq l.rec id) 0 (suc (place_where is_it ls))) true) ≡ (list_any is_it (l ∷ ls) && not (dead id))
      by_test true e r = rw e (ap (λ (i : LineId). not (dead i)) (id_eq-same l.rec id e))
      by_test false e r = rw e r

  rec_where : (ls : List AxisLine) → list_any is_it ls ≡ true → (slice_index_or ls (place_where is_it ls) no_line).rec ≡ id
  rec_where [] h = absurd (cc)
  rec_where (l ∷ ls) h = by_test (id_eq l.rec id) refl (λ k. rec_where ls k) h
    where
      by_test : (b : Bool) → id_eq l.rec id ≡ b → (list_any is_it ls ≡ true → (slice_index_or ls (place_where is_it ls) no_line).rec ≡ id) → list_any is_it (l ∷ ls) ≡ true →
          (slice_index_or (l ∷ ls) (cond (id_eq l.rec id) 0 (suc (place_where is_it ls))) no_line).rec ≡ id
      by_test true e r h = rw e (id_eq-same l.rec id e)
      by_test false e r h = rw e (r (rw e at h))

pub live_seen : (axis : Axis) (id : LineId) → is_seen (marks axis) (rec_place axis id) ≡ is_live axis id
live_seen axis id = seen_where axis.dead id axis.lines

pub live_rec : (axis : Axis) (id : LineId) → is_live axis id ≡ true → rec_at axis (rec_place axis id) ≡ id
live_rec axis id h = rec_where axis.dead id axis.lines (both_true (list_any (λ (l : AxisLine). id_eq l.rec id) axis.lines) (not (axis.dead id)) h).0

-- ---- the lines of a range and their positions
module _ (dead : LineId → Bool) (at : ℕ → LineId) (first last : ℕ) where
  abbrev is_between : ℕ → Bool
  is_between p = nat_le first p && nat_le p last

  abbrev live : AxisLine → Bool
  live l = not (dead l.rec)

  -- from a position on, the records at positions are those of the lines
  abbrev AreAt : ℕ → List AxisLine → Type 0
  AreAt k [] = Unit {0}
  AreAt k (l ∷ ls) = (at k ≡ l.rec) × AreAt (suc k) ls

  past : (k : ℕ) (ls : List AxisLine) → suc last ≤ k → filter is_between (places_from k (map (λ l. dead l.rec) ls)) ≡ []
  past k [] h = refl
  past k (l ∷ ls) h = by_test (dead l.rec) (past (suc k) ls (omega arith))
    where
      outside : is_between k ≡ false
      outside = grind (arith, nat_tests)

      by_test : (b : Bool) → filter is_between (places_from (suc k) (map (λ l. dead l.rec) ls)) ≡ [] →
          filter is_between (places_from k (b ∷ map (λ l. dead l.rec) ls)) ≡ []
      by_test true r = r
      by_test false r = simp outside r

  abbrev records_of : List AxisLine → List LineId
  records_of ls = map (λ l. l.rec) (filter live ls)

  module _ (k : ℕ) (l : AxisLine) (ls : List AxisLine) where
    abbrev marks_left : List Bool
    marks_left = map (λ l. dead l.rec) ls

    abbrev rest : List ℕ
    rest = places_from (suc k) marks_left

    abbrev Goal : ℕ → ℕ → Type 0
    Goal m n = map at (filter is_between (places_from k (dead l.rec ∷ marks_left))) ≡ records_of (drop m (take n (l ∷ ls)))

    none_left : (m : ℕ) → records_of (drop m (take 0 (l ∷ ls))) ≡ []
    none_left zero = refl
    none_left (suc m) = refl

    inside : at k ≡ l.rec → is_between k ≡ true → map at (filter is_between rest) ≡ records_of (take (suc last - suc k) ls) → Goal 0 (suc (suc last - suc k))
    inside h e r = by_dead (dead l.rec)
      where
        by_dead : (b : Bool) → map at (filter is_between (places_from k (b ∷ marks_left))) ≡ map (λ l. l.rec) (cond (not b) (l ∷ filter live (take (suc last - suc k) ls)) (filter live (take (suc last - suc k) ls)))
        by_dead true = r
        by_dead false = simp e (λ i. h i ∷ r i)

    outside : is_between k ≡ false → (m : ℕ) → map at (filter is_between rest) ≡ records_of (drop m (take (suc last - suc k) ls)) → Goal (suc m) (suc (suc last - suc k))
    outside e m r = by_dead (dead l.rec)
      where
        by_dead : (b : Bool) → map at (filter is_between (places_from k (b ∷ marks_left))) ≡ records_of (drop m (take (suc last - suc k) ls))
        by_dead true = r
        by_dead false = simp e r

    by_last : ((nat_le k last ≡ true) ⊎ (nat_le k last ≡ false)) → ((nat_le first k ≡ true) ⊎ (nat_le first k ≡ false)) → at k ≡ l.rec →
        map at (filter is_between rest) ≡ records_of (drop (first - suc k) (take (suc last - suc k) ls)) → Goal (first - k) (suc last - k)
    by_last (inr e) f h r =
        let le : suc last ≤ k = grind (arith, nat_tests) in
        let z : suc last - k ≡ 0 = omega arith in
        subst (λ n. Goal (first - k) n) (sym z) (ap (map at) (past k (l ∷ ls) le) ∙ sym (none_left (first - k)))
    by_last (inl e) (inl f) h r =
        let z : first - k ≡ 0 = grind (arith, nat_tests) in
        let y : first - suc k ≡ 0 = omega arith in
        let s : suc last - k ≡ suc (suc last - suc k) = grind (arith, nat_tests) in
        subst (λ m. Goal m (suc last - k)) (sym z) (subst (λ n. Goal 0 n) (sym s)
        (inside h (λ i. f i && e i) (subst (λ m. map at (filter is_between rest) ≡ records_of (drop m (take (suc last - suc k) ls))) y r)))
    by_last (inl e) (inr f) h r =
        let z : first - k ≡ suc (first - suc k) = grind (arith, nat_tests) in
        let s : suc last - k ≡ suc (suc last - suc k) = grind (arith, nat_tests) in
        subst (λ m. Goal m (suc last - k)) (sym z) (subst (λ n. Goal (suc (first - suc k)) n) (sym s)
        (outside (ap (λ b. b && nat_le k last) f) (first - suc k) r))

  none_there : (m n : ℕ) → records_of (drop m (take n [])) ≡ []
  none_there zero zero = refl
  none_there zero (suc n) = refl
  none_there (suc m) zero = refl
  none_there (suc m) (suc n) = refl

  kept : (k : ℕ) (ls : List AxisLine) → AreAt k ls → map at (filter is_between (places_from k (map (λ l. dead l.rec) ls))) ≡ records_of (drop (first - k) (take (suc last - k) ls))
  kept k [] h = sym (none_there (first - k) (suc last - k))
  kept k (l ∷ ls) h = by_last k l ls (true_or_false (nat_le k last)) (true_or_false (nat_le first k)) h.0 (kept (suc k) ls h.1)

  are_at : (ls : List AxisLine) (k : ℕ) → ((j : ℕ) → at (k + j) ≡ (slice_index_or ls j no_line).rec) → AreAt k ls
  are_at [] k h = tt
  are_at (l ∷ ls) k h = (
    ap at (let e : k ≡ k + 0 = omega arith in e) ∙ h 0,
    are_at ls (suc k) (λ j. ap at (let e : suc k + j ≡ k + suc j = omega arith in e) ∙ h (suc j)),
  )

-- The positions that are seen in a range hold the records that are seen there.
pub seen_records : (axis : Axis) (first last : LineId) → map (rec_at axis) (places_between (marks axis) (slot_place axis first) (slot_place axis last)) ≡ seen_between axis first last
seen_records axis first last =
    kept axis.dead (rec_at axis) (slot_place axis first) (slot_place axis last) 0 axis.lines
    (are_at axis.dead (rec_at axis) (slot_place axis first) (slot_place axis last) axis.lines 0 (λ j. ap (rec_at axis) (let e : 0 + j ≡ j = omega arith in e)))
    ∙ (let a : slot_place axis first - 0 ≡ slot_place axis first = omega arith in
    let b : suc (slot_place axis last) - 0 ≡ suc (slot_place axis last) = omega arith in
    λ i. records_of axis.dead (rec_at axis) (slot_place axis first) (slot_place axis last) (drop (a i) (take (b i) axis.lines)))

-- ---- what a formula sees of two sheets

map_map : {A B C : Type 0} (f : A → B) (g : B → C) (xs : List A) → map g (map f xs) ≡ map (λ x. g (f x)) xs
map_map f g [] = refl
map_map f g (x ∷ xs) = ap (λ ys. g (f x) ∷ ys) (map_map f g xs)

abbrev pub cell_of : LineId → LineId → CellId
cell_of a b = record { row = a; col = b }

module _ (X : IdSheet) (v : CellId → Value) where
  -- at a reference to a cell
  cell_seen : (c : IdCell) → cell_value (environment X v) (locate_cell X c) ≡ cond (is_live_cell X (cell_of c.row c.col)) (Some (v (cell_of c.row c.col))) None
  cell_seen c = by_live (true_or_false (is_live X.rows c.row)) (true_or_false (is_live X.cols c.col))
    where
      by_live : ((is_live X.rows c.row ≡ true) ⊎ (is_live X.rows c.row ≡ false)) → ((is_live X.cols c.col ≡ true) ⊎ (is_live X.cols c.col ≡ false)) →
          cell_value (environment X v) (locate_cell X c) ≡ cond (is_live_cell X (cell_of c.row c.col)) (Some (v (cell_of c.row c.col))) None
      by_live (inl a) (inl b) = rw (live_seen X.rows c.row, live_seen X.cols c.col, a, b) (λ i. Some (v (cell_of (live_rec X.rows c.row a i) (live_rec X.cols c.col b i))))
      by_live (inl a) (inr b) = rw (live_seen X.rows c.row, live_seen X.cols c.col, a, b) refl
      by_live (inr a) b = rw (live_seen X.rows c.row, live_seen X.cols c.col, a) refl

  -- the values of these rows and columns
  abbrev values_at : List LineId → List LineId → List (List Value)
  values_at rows cols = map (λ a. map (λ b. v (cell_of a b)) cols) rows

  rows_in_column : (rs cs : List ℕ) → map (λ r. map (λ c. v (cell_of (rec_at X.rows r) (rec_at X.cols c))) cs) rs ≡ values_at (map (rec_at X.rows) rs) (map (rec_at X.cols) cs)
  rows_in_column [] cs = refl
  rows_in_column (r ∷ rs) cs = λ i. sym (map_map (rec_at X.cols) (λ b. v (cell_of (rec_at X.rows r) b)) cs) i ∷ rows_in_column rs cs i

  -- at a range
  range_seen : (r : IdRange) → range_values (environment X v) (locate_range X r) ≡ values_at (seen_between X.rows r.top r.bottom) (seen_between X.cols r.left r.right)
  range_seen r =
      rows_in_column (places_between (marks X.rows) (slot_place X.rows r.top) (slot_place X.rows r.bottom)) (places_between (marks X.cols) (slot_place X.cols r.left) (slot_place X.cols r.right))
      ∙ (λ i. values_at (seen_records X.rows r.top r.bottom i) (seen_records X.cols r.left r.right i))

  abbrev has_some : {A : Type 0} → List A → Bool
  has_some [] = false
  has_some (x ∷ xs) = true

  has_some_map : {A B : Type 0} (f : A → B) (xs : List A) → has_some (map f xs) ≡ has_some xs
  has_some_map f [] = refl
  has_some_map f (x ∷ xs) = refl

  shape_some : (rs cs : List ℕ) → is_some (size_of_lines rs cs) ≡ (has_some rs && has_some cs)
  shape_some [] cs = refl
  shape_some (r ∷ rs) [] = refl
  shape_some (r ∷ rs) (c ∷ cs) = refl

  shape_seen : (r : IdRange) → is_some (range_shape (environment X v) (locate_range X r)) ≡ (has_some (seen_between X.rows r.top r.bottom) && has_some (seen_between X.cols r.left r.right))
  shape_seen r =
      let ps = places_between (marks X.rows) (slot_place X.rows r.top) (slot_place X.rows r.bottom) in
      let qs = places_between (marks X.cols) (slot_place X.cols r.left) (slot_place X.cols r.right) in
      shape_some ps qs
      ∙ (λ i. sym (has_some_map (rec_at X.rows) ps) i && sym (has_some_map (rec_at X.cols) qs) i)
      ∙ (λ i. has_some (seen_records X.rows r.top r.bottom i) && has_some (seen_records X.cols r.left r.right i))

-- Two sheets in which a reference leads to the same.
module _ (X Y : IdSheet) where
  abbrev pub SameCell : IdCell → Type 0
  SameCell c = is_live_cell X (cell_of c.row c.col) ≡ is_live_cell Y (cell_of c.row c.col)

  pub record SameRange (r : IdRange) : Type 0 where
    pub rows : seen_between X.rows r.top r.bottom ≡ seen_between Y.rows r.top r.bottom
    pub cols : seen_between X.cols r.left r.right ≡ seen_between Y.cols r.left r.right

  abbrev pub LeadsAlike : Tree IdCell IdRange → Type 0
  LeadsAlike t = EachReference SameCell SameRange t

  -- then it mentions the same
  mutual
    pub mentioned-same : (t : Tree IdCell IdRange) → LeadsAlike t → mentioned X t ≡ mentioned Y t
    mentioned-same (num n) h = refl
    mentioned-same (text t) h = refl
    mentioned-same (fault e) h = refl
    mentioned-same (cell c) h = ap (λ b. cond b (cell_of c.row c.col ∷ []) []) h
    mentioned-same (range r) h = λ i. flat_map (λ (a : LineId). map (λ (b : LineId). cell_of a b) (h.cols i)) (h.rows i)
    mentioned-same (pre op t) h = mentioned-same t h
    mentioned-same (bin op s t) h = λ i. mentioned-same s h.0 i ++ mentioned-same t h.1 i
    mentioned-same (call f ts) h = mentioned_all-same ts h

    mentioned_all-same : (ts : Trees IdCell IdRange) → EachReferences SameCell SameRange ts → mentioned_all X ts ≡ mentioned_all Y ts
    mentioned_all-same none h = refl
    mentioned_all-same (more t ts) h = λ i. mentioned-same t h.0 i ++ mentioned_all-same ts h.1 i

  module _ (v w : CellId → Value) where
    abbrev Same : CellId → Type 0
    Same d = v d ≡ w d

    front : (as_left bs : List CellId) → AllByRecursion Same (as_left ++ bs) → AllByRecursion Same as_left
    front [] bs h = tt
    front (a ∷ as_left) bs h = (h.0, front as_left bs h.1)

    back : (as_left bs : List CellId) → AllByRecursion Same (as_left ++ bs) → AllByRecursion Same bs
    back [] bs h = h
    back (a ∷ as_left) bs h = back as_left bs h.1

    cell_both : (c : IdCell) → SameCell c → AllByRecursion Same (cell_mentions X c) → SeesCell (environment X v) (environment Y w) (locate_cell X) (locate_cell Y) (locate_range X) (locate_range Y) c
    cell_both c e h =
        cell_seen X v c ∙ (by_live (is_live_cell X (cell_of c.row c.col)) h ∙ (ap (λ b. cond b (Some (w (cell_of c.row c.col))) None) e ∙ sym (cell_seen Y w c)))
      where
        by_live : (b : Bool) → AllByRecursion Same (cond b (cell_of c.row c.col ∷ []) []) → cond b (Some (v (cell_of c.row c.col))) None ≡ cond b (Some (w (cell_of c.row c.col))) None
        by_live true h = ap Some h.0
        by_live false h = refl

    row_both : (a : LineId) (cs : List LineId) → AllByRecursion Same (map (λ (b : LineId). cell_of a b) cs) → map (λ b. v (cell_of a b)) cs ≡ map (λ b. w (cell_of a b)) cs
    row_both a [] h = refl
    row_both a (c ∷ cs) h = λ i. h.0 i ∷ row_both a cs h.1 i

    rows_both : (rs cs : List LineId) → AllByRecursion Same (flat_map (λ (a : LineId). map (λ (b : LineId). cell_of a b) cs) rs) → values_at X v rs cs ≡ values_at X w rs cs
    rows_both [] cs h = refl
    rows_both (r ∷ rs) cs h =
        let one = map (λ (b : LineId). cell_of r b) cs in
        let more = flat_map (λ (a : LineId). map (λ (b : LineId). cell_of a b) cs) rs in
        λ i. row_both r cs (front one more h) i ∷ rows_both rs cs (back one more h) i

    range_both : (r : IdRange) → SameRange r → AllByRecursion Same (range_mentions X r) → SeesRange (environment X v) (environment Y w) (locate_cell X) (locate_cell Y) (locate_range X) (locate_range Y) r
    range_both r e h = record {
      lost = shape_seen X v r ∙ ((λ i. has_some X v (e.rows i) && has_some X v (e.cols i)) ∙ sym (shape_seen Y w r));
      values = range_seen X v r ∙ (rows_both (seen_between X.rows r.top r.bottom) (seen_between X.cols r.left r.right) h ∙ ((λ i. values_at X w (e.rows i) (e.cols i)) ∙ sym (range_seen Y w r)));
    }

    mutual
      each_both : (t : Tree IdCell IdRange) → LeadsAlike t → AllByRecursion Same (mentioned X t) →
          EachReference (SeesCell (environment X v) (environment Y w) (locate_cell X) (locate_cell Y) (locate_range X) (locate_range Y)) (SeesRange (environment X v) (environment Y w) (locate_cell X) (locate_cell Y) (locate_range X) (locate_range Y)) t
      each_both (num n) e h = tt
      each_both (text t) e h = tt
      each_both (fault c) e h = tt
      each_both (cell c) e h = cell_both c e h
      each_both (range r) e h = range_both r e h
      each_both (pre op t) e h = each_both t e h
      each_both (bin op s t) e h = (each_both s e.0 (front (mentioned X s) (mentioned X t) h), each_both t e.1 (back (mentioned X s) (mentioned X t) h))
      each_both (call f ts) e h = all_both ts e h

      all_both : (ts : Trees IdCell IdRange) → EachReferences SameCell SameRange ts → AllByRecursion Same (mentioned_all X ts) →
          EachReferences (SeesCell (environment X v) (environment Y w) (locate_cell X) (locate_cell Y) (locate_range X) (locate_range Y)) (SeesRange (environment X v) (environment Y w) (locate_cell X) (locate_cell Y) (locate_range X) (locate_range Y)) ts
      all_both none e h = tt
      all_both (more t ts) e h = (each_both t e.0 (front (mentioned X t) (mentioned_all X ts) h), all_both ts e.1 (back (mentioned X t) (mentioned_all X ts) h))

    -- A formula comes to the same where its references lead to the same and the cells that it mentions have the same values.
    pub formula_result-same : (t : Tree IdCell IdRange) → LeadsAlike t → AllByRecursion Same (mentioned X t) → formula_result X v t ≡ formula_result Y w t
    formula_result-same t e h = formula-same (environment X v) (environment Y w) (locate_cell X) (locate_cell Y) (locate_range X) (locate_range Y) t (each_both t e h)
