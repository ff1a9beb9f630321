-- What is said of a sheet by identity, by its positions.
use Rattle.std.proofs.Common.{◌≡◌, ℕ, zero, suc, ◌<◌, true, false, List, [], ◌∷◌, ◌++◌, length, map, refl, ap, sym, ◌∙◌, arith, inl, inr}
use Rattle.std.specs.Prelude.{◌⊎◌, flat_map, slice_index_or}
use Rattle.formula_tree.specs.Tree as tree
use Rattle.formula_tree.specs.Tree.{Tree, Trees, rename_tree, rename_trees}
use Rattle.sheet_value.specs.declared.value.Value.{Value}
use Rattle.sheet_ops.specs.declared.content.Content.{Content}
use Rattle.sheet_ops.specs.declared.content.Content.TheVariants as content
use Rattle.sheet_ops.specs.LineIds.{LineId}
use Rattle.sheet_ops.specs.Lines.{AxisLine, slot_place, rec_at, marks, no_line}
use Rattle.sheet_ops.specs.Identity.{IdCell, IdRange, IdContent, blank, number, text, formula, IdSheet}
use Rattle.sheet_ops.specs.Naming.{locate_cell, locate_range, locate_content}
use Rattle.sheet_ops.specs.Placed.{placed, cell_at}
use Rattle.sheet_ops.proofs.Ids.{true_or_false}
use Rattle.full_calc.specs.Precedents.{CellId, is_live, mentioned, mentioned_all, places_between}
use Rattle.full_calc.specs.Positions.{places_in, places_in_all, result_at}
use Rattle.full_calc.proofs.Seen.{cell_of, live_seen, live_rec, seen_records}
use Rattle.full_calc.proofs.Sheets.{step_of}

module _ {A B : Type 0} (f : A → B) where
  map_join : (xs ys : List A) → map f (xs ++ ys) ≡ map f xs ++ map f ys
  map_join [] ys = refl
  map_join (x ∷ xs) ys = ap (λ zs. f x ∷ zs) (map_join xs ys)

  at_map : (xs : List A) (k : ℕ) (d : B) (e : A) → k < length xs → slice_index_or (map f xs) k d ≡ f (slice_index_or xs k e)
  at_map [] k d e h = absurd (omega arith)
  at_map (x ∷ xs) zero d e h = refl
  at_map (x ∷ xs) (suc k) d e h = at_map xs k d e (omega arith)

module _ (X : IdSheet) where
  -- the cell of a position
  abbrev pub cell_there : ℕ × ℕ → CellId
  cell_there at = cell_of (rec_at X.rows at.0) (rec_at X.cols at.1)

  row_there : (p : ℕ) (qs : List ℕ) → map cell_there (map (λ (q : ℕ). (p, q)) qs) ≡ map (λ (b : LineId). cell_of (rec_at X.rows p) b) (map (rec_at X.cols) qs)
  row_there p [] = refl
  row_there p (q ∷ qs) = ap (λ (cs : List CellId). cell_there (p, q) ∷ cs) (row_there p qs)

  rows_there : (ps qs : List ℕ) → map cell_there (flat_map (λ (p : ℕ). map (λ (q : ℕ). (p, q)) qs) ps) ≡ flat_map (λ (a : LineId). map (λ (b : LineId). cell_of a b) (map (rec_at X.cols) qs)) (map (rec_at X.rows) ps)
  rows_there [] qs = refl
  rows_there (p ∷ ps) qs =
      map_join cell_there (map (λ (q : ℕ). (p, q)) qs) (flat_map (λ (p : ℕ). map (λ (q : ℕ). (p, q)) qs) ps)
      ∙ (λ i. row_there p qs i ++ rows_there ps qs i)

  cell_places : (c : IdCell) → map cell_there (places_in (marks X.rows) (marks X.cols) (tree.cell (locate_cell X c))) ≡ mentioned X (tree.cell c)
  cell_places c = by_live (true_or_false (is_live X.rows c.row)) (true_or_false (is_live X.cols c.col))
    where
      by_live : ((is_live X.rows c.row ≡ true) ⊎ (is_live X.rows c.row ≡ false)) → ((is_live X.cols c.col ≡ true) ⊎ (is_live X.cols c.col ≡ false)) →
          map cell_there (places_in (marks X.rows) (marks X.cols) (tree.cell (locate_cell X c))) ≡ mentioned X (tree.cell c)
      by_live (inl a) (inl b) = rw (live_seen X.rows c.row, live_seen X.cols c.col, a, b) (λ i. cell_of (live_rec X.rows c.row a i) (live_rec X.cols c.col b i) ∷ [])
      by_live (inl a) (inr b) = rw (live_seen X.rows c.row, live_seen X.cols c.col, a, b) refl
      by_live (inr a) b = rw (live_seen X.rows c.row, live_seen X.cols c.col, a) refl

  -- The positions that a formula mentions are those of the cells that it mentions.
  mutual
    pub places_mentioned : (t : Tree IdCell IdRange) → map cell_there (places_in (marks X.rows) (marks X.cols) (rename_tree (locate_cell X) (locate_range X) t)) ≡ mentioned X t
    places_mentioned (tree.num n) = refl
    places_mentioned (tree.text t) = refl
    places_mentioned (tree.fault e) = refl
    places_mentioned (tree.cell c) = cell_places c
    places_mentioned (tree.range r) =
        rows_there (places_between (marks X.rows) (slot_place X.rows r.top) (slot_place X.rows r.bottom)) (places_between (marks X.cols) (slot_place X.cols r.left) (slot_place X.cols r.right))
        ∙ (λ i. flat_map (λ (a : LineId). map (λ (b : LineId). cell_of a b) (seen_records X.cols r.left r.right i)) (seen_records X.rows r.top r.bottom i))
    places_mentioned (tree.pre op t) = places_mentioned t
    places_mentioned (tree.bin op s t) =
        map_join cell_there (places_in (marks X.rows) (marks X.cols) (rename_tree (locate_cell X) (locate_range X) s)) (places_in (marks X.rows) (marks X.cols) (rename_tree (locate_cell X) (locate_range X) t))
        ∙ (λ i. places_mentioned s i ++ places_mentioned t i)
    places_mentioned (tree.call f ts) = all_mentioned ts

    all_mentioned : (ts : Trees IdCell IdRange) → map cell_there (places_in_all (marks X.rows) (marks X.cols) (rename_trees (locate_cell X) (locate_range X) ts)) ≡ mentioned_all X ts
    all_mentioned tree.none = refl
    all_mentioned (tree.more t ts) =
        map_join cell_there (places_in (marks X.rows) (marks X.cols) (rename_tree (locate_cell X) (locate_range X) t)) (places_in_all (marks X.rows) (marks X.cols) (rename_trees (locate_cell X) (locate_range X) ts))
        ∙ (λ i. places_mentioned t i ++ all_mentioned ts i)

  -- the content at a position is that of the cell there
  pub content_there : (p q : ℕ) → p < length X.rows.lines → q < length X.cols.lines → cell_at (placed X) p q ≡ locate_content X (X.cells (rec_at X.rows p) (rec_at X.cols q))
  content_there p q h k =
      ap (λ (row : List Content). slice_index_or row q content.Empty) (at_map (λ (r : AxisLine). map (λ (c : AxisLine). locate_content X (X.cells r.rec c.rec)) X.cols.lines) X.rows.lines p [] no_line h)
      ∙ at_map (λ (c : AxisLine). locate_content X (X.cells (rec_at X.rows p) c.rec)) X.cols.lines q content.Empty no_line k

  -- One step by positions is the step of the cell there.
  pub step_there : (v : CellId → Value) (p q : ℕ) → p < length X.rows.lines → q < length X.cols.lines →
      step_of X (cell_there (p, q)) v ≡ result_at (marks X.rows) (marks X.cols) (λ r c. v (cell_there (r, c))) (cell_at (placed X) p q)
  step_there v p q h k =
      by_content (X.cells (rec_at X.rows p) (rec_at X.cols q)) refl
      ∙ ap (result_at (marks X.rows) (marks X.cols) (λ r c. v (cell_there (r, c)))) (sym (content_there p q h k))
    where
      by_content : (kc : IdContent) → X.cells (rec_at X.rows p) (rec_at X.cols q) ≡ kc → step_of X (cell_there (p, q)) v ≡ result_at (marks X.rows) (marks X.cols) (λ r c. v (cell_there (r, c))) (locate_content X (X.cells (rec_at X.rows p) (rec_at X.cols q)))
      by_content blank e = rw e refl
      by_content (number z) e = rw e refl
      by_content (text t) e = rw e refl
      by_content (formula t) e = rw e refl
