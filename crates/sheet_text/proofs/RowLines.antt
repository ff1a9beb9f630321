-- The lines of a row's filled cells, and those of all rows.
use Rattle.std.proofs.Common.{◌≡◌, ℕ, zero, suc, ◌+◌, ◌<◌, ◌≤◌, Bool, true, false, cond, List, [], ◌∷◌, ◌++◌, length, drop, All, refl, ap, sym, ◌∙◌, subst, arith, append_assoc}
use Rattle.std.proofs.lemmas.Bool.Decides.{nat_tests}
use Rattle.std.proofs.lemmas.List.Elements.{All-filter}
use Rattle.std.specs.Prelude.{nat_eq, not, filter, slice_get, slice_index, map, decimal, IfSome, Option, Some}
use Rattle.ss_base.specs.declared.types.Spot.{Spot}
use Rattle.ss_base.specs.declared.types.Span.{Span}
use Rattle.marked_lines.specs.Marks.{visible_places, visible_of, span_of}
use Rattle.marked_lines.proofs.Indexes.{index_from_place}
use Rattle.marked_lines.proofs.Positions.{places_from-high}
use Rattle.formula_tree.specs.Tree.{Tree}
use Rattle.formula_tree.specs.Remap.{IsMapped, IsSpotMapped, IsSpanMapped}
use Rattle.sheet_ops.proofs.References.{always}
use Rattle.cell_addr.specs.Columns.{letters}
use Rattle.cell_addr.specs.Cells.{address}
use Rattle.sheet_ops.specs.declared.content.Content.{Content}
use Rattle.sheet_ops.specs.declared.content.Content.TheVariants as content
use Rattle.sheet_ops.specs.Placed.{PlacedSheet, cell_at}
use Rattle.sheet_grid.specs.Cells.{is_empty, filled_places}
use Rattle.sheet_grid.proofs.Spans.{visible_few, span_few}
use Rattle.sheet_grid.proofs.ToNumbers.{there}
use Rattle.sheet_text.specs.Shown.{seen, shown_text}
use Rattle.sheet_text.specs.Texts.{cell_line, row_lines, rows_lines}
use Rattle.sheet_text.specs.Rows.{line_if_seen, lines_at}

append_none : (xs : List ℕ) → xs ++ [] ≡ xs
append_none [] = refl
append_none (x ∷ xs) = ap (λ (ys : List ℕ). x ∷ ys) (append_none xs)

-- ---- the filled cells of a row
no_text : (P : PlacedSheet) (c : Content) → not (is_empty c) ≡ false → shown_text P c ≡ []
no_text P content.Empty e = refl
no_text P (content.Num z) e = absurd (cc)
no_text P (content.Text t) e = absurd (cc)
no_text P (content.Formula t) e = absurd (cc)

module _ (P : PlacedSheet) (visible row : ℕ) where
  abbrev text_at : ℕ → List ℕ
  text_at col = shown_text P (cell_at P row col)

  abbrev is_filled : ℕ → Bool
  is_filled col = not (is_empty (cell_at P row col))

  filled_from : (k : ℕ) (cols : List ℕ) → ((j : ℕ) → j < length cols → visible_of P.cols (slice_index cols j) ≡ Some (k + j)) →
      lines_at P visible row (filter is_filled cols) ≡ row_lines visible k (map text_at cols)
  filled_from k [] at = refl
  filled_from k (col ∷ cols) at = by_test (is_filled col) refl (filled_from (suc k) cols (λ j h. at (suc j) (omega arith) ∙ ap Some (let z : k + suc j ≡ suc k + j = omega arith in z)))
    where
      here : visible_of P.cols col ≡ Some k
      here = at 0 (omega arith) ∙ ap Some (let z : k + 0 ≡ k = omega arith in z)

      by_test : (t : Bool) → is_filled col ≡ t → lines_at P visible row (filter is_filled cols) ≡ row_lines visible (suc k) (map text_at cols) →
          lines_at P visible row (cond t (col ∷ filter is_filled cols) (filter is_filled cols)) ≡ cell_line visible k (text_at col) ++ row_lines visible (suc k) (map text_at cols)
      by_test true e rest = λ i. line_if_seen visible (here i) (text_at col) ++ rest i
      by_test false e rest = rest ∙ ap (λ (text : List ℕ). cell_line visible k text ++ row_lines visible (suc k) (map text_at cols)) (sym (no_text P (cell_at P row col) e))

  -- empty cells have no lines
  pub filled_lines : lines_at P visible row (filled_places P row) ≡ row_lines visible 0 (map text_at (visible_places P.cols))
  filled_lines =
      filled_from 0 (visible_places P.cols)
      (λ j h. index_from_place P.cols (slice_index (visible_places P.cols) j) j (there (visible_places P.cols) j h) ∙ ap Some (let z : j ≡ 0 + j = omega arith in z))

  pub filled_inside : All (λ col. col < length P.cols) (filled_places P row)
  filled_inside = All-filter is_filled (λ col. col < length P.cols) (visible_places P.cols) (λ k d within. let h = places_from-high 0 P.cols k d within in omega (arith, h))

  pub told_more : (before out more cols : List ℕ) (k col : ℕ) → k < length cols → slice_index cols k ≡ col → more ≡ out ++ line_if_seen visible (visible_of P.cols col) (text_at col) →
      out ++ lines_at P visible row (drop k cols) ≡ before → more ++ lines_at P visible row (drop (k + 1) cols) ≡ before
  told_more before out more cols k col h at e told =
      (λ i. e i ++ lines_at P visible row (drop ((let z : k + 1 ≡ suc k = omega arith in z) i) cols))
      ∙ (append_assoc out (line_if_seen visible (visible_of P.cols col) (text_at col)) (lines_at P visible row (drop (suc k) cols))
      ∙ (ap (λ (c : ℕ). out ++ (line_if_seen visible (visible_of P.cols c) (text_at c) ++ lines_at P visible row (drop (suc k) cols))) (sym at)
      ∙ (ap (λ (cs : List ℕ). out ++ lines_at P visible row cs) (sym (drop_more cols k h)) ∙ told)))
    where
      drop_more : (xs : List ℕ) (i : ℕ) → i < length xs → drop i xs ≡ slice_index xs i ∷ drop (suc i) xs
      drop_more [] i j = absurd (omega arith)
      drop_more (x ∷ xs) zero j = refl
      drop_more (x ∷ xs) (suc i) j = drop_more xs i (omega arith)

  pub told_all : (before out cols : List ℕ) (k : ℕ) → length cols ≤ k → out ++ lines_at P visible row (drop k cols) ≡ before → out ≡ before
  told_all before out cols k h told = sym (append_none out) ∙ (ap (λ (cs : List ℕ). out ++ lines_at P visible row cs) (sym (past cols k h)) ∙ told)
    where
      past : (xs : List ℕ) (i : ℕ) → length xs ≤ i → drop i xs ≡ []
      past [] zero j = refl
      past [] (suc i) j = refl
      past (x ∷ xs) zero j = absurd (omega arith)
      past (x ∷ xs) (suc i) j = past xs i (omega arith)

-- ---- the line of a cell
cell_line-filled : (row col : ℕ) (text : List ℕ) → 0 < length text → cell_line row col text ≡ address row col ++ 32 ∷ text ++ 10 ∷ []
cell_line-filled row col [] h = absurd (omega arith)
cell_line-filled row col (b ∷ text) h = refl

regrouped : (o a t : List ℕ) → (((o ++ a) ++ 32 ∷ []) ++ t) ++ 10 ∷ [] ≡ o ++ (a ++ 32 ∷ t ++ 10 ∷ [])
regrouped o a t = simp append_assoc

pub some_text : (text : List ℕ) → nat_eq (length text) 0 ≡ false → 0 < length text
some_text text h = grind (arith, nat_tests)

pub filled_line : (row col : ℕ) (text out one two three four : List ℕ) → 0 < length text → one ≡ out ++ address row col → two ≡ one ++ 32 ∷ [] → three ≡ two ++ text → four ≡ three ++ 10 ∷ [] → four ≡ out ++ cell_line row col text
filled_line row col text out one two three four some o s t f =
    f
    ∙ ((λ i. t i ++ 10 ∷ [])
    ∙ ((λ i. (s i ++ text) ++ 10 ∷ [])
    ∙ ((λ i. ((o i ++ 32 ∷ []) ++ text) ++ 10 ∷ [])
    ∙ (regrouped out (address row col) text ∙ ap (λ (zs : List ℕ). out ++ zs) (sym (cell_line-filled row col text some))))))

-- the letters of a column and a number behind them
pub address_put : (row col : ℕ) (out one two name rest : List ℕ) → name ≡ letters col → one ≡ out ++ name → rest ≡ decimal (row + 1) → two ≡ one ++ rest → two ≡ out ++ address row col
address_put row col out one two name rest n o r t =
    t
    ∙ ((λ i. o i ++ r i)
    ∙ ((λ i. (out ++ n i) ++ decimal (row + 1))
    ∙ append_assoc out (letters col) (decimal (row + 1))))

-- ---- every formula of a sheet that isn't too large can be shown
pub seen_mapped : (P : PlacedSheet) → length P.rows ≤ 16000 → length P.cols ≤ 16000 → (t : Tree Spot Span) → IsMapped (seen P.rows P.cols) t
seen_mapped P r c t =
    always (IsSpotMapped (seen P.rows P.cols)) (IsSpanMapped (seen P.rows P.cols))
    (λ s row col e f. (let h = index_few P.rows s.row row r e in omega arith, let h = index_few P.cols s.col col c f in omega arith))
    (λ s rows cols e f.
    let h = ends_few P.rows s.top s.bottom rows r e in
    let k = ends_few P.cols s.left s.right cols c f in
    ((omega arith, omega arith), (omega arith, omega arith))) t
  where
    index_few : (ms : List Bool) (p v : ℕ) → length ms ≤ 16000 → visible_of ms p ≡ Some v → v < 16000
    index_few ms p v few e = subst (λ (o : Option ℕ). IfSome o (λ w. w < 16000)) e (visible_few ms p few)

    ends_few : (ms : List Bool) (first last : ℕ) (s : ℕ × ℕ) → length ms ≤ 16000 → span_of ms first last ≡ Some s → (s.0 < 16000) × (s.1 < 16000)
    ends_few ms first last s few e = subst (λ (o : Option (ℕ × ℕ)). IfSome o (λ w. (w.0 < 16000) × (w.1 < 16000))) e (span_few ms first last few)

-- ---- row by row
rows_from : (f : ℕ → List (List ℕ)) (places : List ℕ) (k place : ℕ) → slice_get places k ≡ Some place → rows_lines k (drop k (map f places)) ≡ row_lines k 0 (f place) ++ rows_lines (suc k) (drop (suc k) (map f places))
rows_from f places k place e = ap (λ (rs : List (List (List ℕ))). rows_lines k rs) (at places k e)
  where
    at : (places : List ℕ) (k : ℕ) → slice_get places k ≡ Some place → drop k (map f places) ≡ f place ∷ drop (suc k) (map f places)
    at [] k e = absurd (cc)
    at (p ∷ ps) zero e = let same : p ≡ place = cc in ap (λ (q : ℕ). f q ∷ map f ps) same
    at (p ∷ ps) (suc k) e = at ps k e

abbrev pub row_texts : PlacedSheet → ℕ → List (List ℕ)
row_texts P row = map (λ c. shown_text P (cell_at P row c)) (visible_places P.cols)

pub rows_more : (P : PlacedSheet) (whole out more : List ℕ) (k place : ℕ) → slice_get (visible_places P.rows) k ≡ Some place → more ≡ out ++ row_lines k 0 (row_texts P place) →
    out ++ rows_lines k (drop k (map (row_texts P) (visible_places P.rows))) ≡ whole → more ++ rows_lines (k + 1) (drop (k + 1) (map (row_texts P) (visible_places P.rows))) ≡ whole
rows_more P whole out more k place there e told =
    (λ i. e i ++ rows_lines ((let z : k + 1 ≡ suc k = omega arith in z) i) (drop ((let z : k + 1 ≡ suc k = omega arith in z) i) (map (row_texts P) (visible_places P.rows))))
    ∙ (append_assoc out (row_lines k 0 (row_texts P place)) (rows_lines (suc k) (drop (suc k) (map (row_texts P) (visible_places P.rows))))
    ∙ (ap (λ (zs : List ℕ). out ++ zs) (sym (rows_from (row_texts P) (visible_places P.rows) k place there)) ∙ told))

pub rows_all : (f : ℕ → List (List ℕ)) (places : List ℕ) (whole out : List ℕ) (k : ℕ) → length places ≤ k → out ++ rows_lines k (drop k (map f places)) ≡ whole → out ≡ whole
rows_all f places whole out k h told = sym (append_none out) ∙ (ap (λ (zs : List ℕ). out ++ zs) (ap (λ (rs : List (List (List ℕ))). rows_lines k rs) (sym (past places k h))) ∙ told)
  where
    past : (places : List ℕ) (k : ℕ) → length places ≤ k → drop k (map f places) ≡ []
    past [] zero h = refl
    past [] (suc k) h = refl
    past (p ∷ ps) zero h = absurd (omega arith)
    past (p ∷ ps) (suc k) h = past ps k (omega arith)
