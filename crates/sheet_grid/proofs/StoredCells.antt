-- Rows of which one cell is changed.
use Rattle.std.proofs.Common.{◌≡◌, ◌≢◌, ℕ, zero, suc, ◌<◌, Bool, true, false, cond, List, [], ◌∷◌, length, refl, ap, sym, ◌∙◌, arith, inl, inr}
use Rattle.std.specs.Prelude.{◌⊎◌, ◌&&◌, nat_eq, map, slice_index_or, slice_set, unwrap_or, IsSome, Option, Some, None}
use Rattle.std.specs.BTreeMap.{BTreeMap}
use Rattle.sheet_ops.specs.declared.content.Content.{Content}
use Rattle.sheet_ops.specs.declared.content.Content.TheVariants as content
use Rattle.sheet_ops.specs.declared.content.Put.{Put}
use Rattle.sheet_ops.proofs.Ids.{same_number, number_self}
use Rattle.sheet_grid.specs.Kept.{held, no_cells, cell_kept}
use Rattle.sheet_grid.proofs.Compared.{other_test}
use Rattle.sheet_grid.specs.Rows.{with_column, settled, cell_held, AddsNoEmpty, puts_kept}
use Rattle.std.proofs.lemmas.Bool.Decides.{nat_tests}

-- rows with something else, or nothing, in one cell
abbrev pub cell_set : List (ℕ → Option Content) → ℕ → ℕ → Option Content → List (ℕ → Option Content)
cell_set rows row col what = slice_set rows row (with_column (slice_index_or rows row no_cells) col what)

-- a row written is its cells written
pub held-set : (rows : List (BTreeMap ℕ Content)) (row col : ℕ) (what : Option Content) (d new : BTreeMap ℕ Content) → row < length rows →
    held new ≡ with_column (held (slice_index_or rows row d)) col what → map held (slice_set rows row new) ≡ cell_set (map held rows) row col what
held-set [] row col what d new h e = absurd (omega arith)
held-set (m ∷ ms) zero col what d new h e = λ i. e i ∷ map held ms
held-set (m ∷ ms) (suc row) col what d new h e = ap (λ (rs : List (ℕ → Option Content)). held m ∷ rs) (held-set ms row col what d new (omega arith) e)

pub held-set_same : (rows : List (BTreeMap ℕ Content)) (row : ℕ) (d new : BTreeMap ℕ Content) →
    held new ≡ held (slice_index_or rows row d) → map held (slice_set rows row new) ≡ map held rows
held-set_same [] row d new e = refl
held-set_same (m ∷ ms) zero d new e = λ i. e i ∷ map held ms
held-set_same (m ∷ ms) (suc row) d new e = ap (λ (rs : List (ℕ → Option Content)). held m ∷ rs) (held-set_same ms row d new e)

pub held-index : (rows : List (BTreeMap ℕ Content)) (row : ℕ) (d : BTreeMap ℕ Content) → row < length rows → held (slice_index_or rows row d) ≡ slice_index_or (map held rows) row no_cells
held-index [] row d h = absurd (omega arith)
held-index (m ∷ ms) zero d h = refl
held-index (m ∷ ms) (suc row) d h = held-index ms row d (omega arith)

pub length-held : (rows : List (BTreeMap ℕ Content)) → length (map held rows) ≡ length rows
length-held [] = refl
length-held (m ∷ ms) = ap suc (length-held ms)

-- ---- one cell and the others
module _ (col : ℕ) (what : Option Content) where
  with_cell-or : (cells : ℕ → Option Content) (k : ℕ) → (with_column cells col what k ≡ cells k) ⊎ ((k ≡ col) × (with_column cells col what k ≡ what))
  with_cell-or cells k = by_test (nat_eq col k) refl
    where
      by_test : (t : Bool) → nat_eq col k ≡ t → (cond t what (cells k) ≡ cells k) ⊎ ((k ≡ col) × (cond t what (cells k) ≡ what))
      by_test true e = inr (sym (same_number col k e), refl)
      by_test false e = inl refl

  pub cell_set-or : (rows : List (ℕ → Option Content)) (row i k : ℕ) →
      (cell_held (cell_set rows row col what) i k ≡ cell_held rows i k) ⊎ ((i ≡ row) × (k ≡ col) × (cell_held (cell_set rows row col what) i k ≡ what))
  cell_set-or [] row i k = inl refl
  cell_set-or (cells ∷ rows) zero zero k = elim (with_cell-or cells k) [ inl e ↦ inl e | inr e ↦ inr (refl, e.0, e.1) ]
  cell_set-or (cells ∷ rows) zero (suc i) k = inl refl
  cell_set-or (cells ∷ rows) (suc row) zero k = inl refl
  cell_set-or (cells ∷ rows) (suc row) (suc i) k = elim (cell_set-or rows row i k) [ inl e ↦ inl e | inr e ↦ inr (ap suc e.0, e.1, e.2) ]

  pub cell_set-here : (rows : List (ℕ → Option Content)) (row : ℕ) → row < length rows → cell_held (cell_set rows row col what) row col ≡ what
  cell_set-here [] row h = absurd (omega arith)
  cell_set-here (cells ∷ rows) zero h = ap (λ (t : Bool). cond t what (cells col)) (number_self col)
  cell_set-here (cells ∷ rows) (suc row) h = cell_set-here rows row (omega arith)

  length-cell_set : (rows : List (ℕ → Option Content)) (row : ℕ) → length (cell_set rows row col what) ≡ length rows
  length-cell_set [] row = refl
  length-cell_set (cells ∷ rows) zero = refl
  length-cell_set (cells ∷ rows) (suc row) = ap suc (length-cell_set rows row)

-- what was there put back
pub cell_set-back : (rows : List (ℕ → Option Content)) (row col : ℕ) (what : Option Content) → cell_set (cell_set rows row col what) row col (cell_held rows row col) ≡ rows
cell_set-back [] row col what = refl
cell_set-back (cells ∷ rows) zero col what = λ i. (λ k. back k i) ∷ rows
  where
    by_test : (k : ℕ) (t : Bool) → nat_eq col k ≡ t → cond t (cells col) (cond t what (cells k)) ≡ cells k
    by_test k true e = ap cells (same_number col k e)
    by_test k false e = refl

    back : (k : ℕ) → with_column (with_column cells col what) col (cells col) k ≡ cells k
    back k = by_test k (nat_eq col k) refl
cell_set-back (cells ∷ rows) (suc row) col what = ap (λ (rs : List (ℕ → Option Content)). cells ∷ rs) (cell_set-back rows row col what)

-- ---- the contents, cell by cell
same_row : (m n : ℕ) → nat_eq m n ≡ nat_eq (suc m) (suc n)
same_row m n = grind (arith, nat_tests)

pub cell_set-content : (rows : List (ℕ → Option Content)) (row col : ℕ) (what : Option Content) (a b : ℕ) → row < length rows →
    unwrap_or (cell_held (cell_set rows row col what) a b) content.Empty ≡ cond (nat_eq row a && nat_eq col b) (unwrap_or what content.Empty) (unwrap_or (cell_held rows a b) content.Empty)
cell_set-content [] row col what a b h = absurd (omega arith)
cell_set-content (cells ∷ rows) zero col what zero b h = by_test (nat_eq col b)
  where
    by_test : (t : Bool) → unwrap_or (cond t what (cells b)) content.Empty ≡ cond t (unwrap_or what content.Empty) (unwrap_or (cells b) content.Empty)
    by_test true = refl
    by_test false = refl
cell_set-content (cells ∷ rows) zero col what (suc a) b h =
    ap (λ (t : Bool). cond (t && nat_eq col b) (unwrap_or what content.Empty) (unwrap_or (cell_held rows a b) content.Empty)) (sym (other_test 0 (suc a) (λ e. omega arith)))
cell_set-content (cells ∷ rows) (suc row) col what zero b h =
    ap (λ (t : Bool). cond (t && nat_eq col b) (unwrap_or what content.Empty) (unwrap_or (cells b) content.Empty)) (sym (other_test (suc row) 0 (λ e. omega arith)))
cell_set-content (cells ∷ rows) (suc row) col what (suc a) b h =
    cell_set-content rows row col what a b (omega arith)
    ∙ ap (λ (t : Bool). cond (t && nat_eq col b) (unwrap_or what content.Empty) (unwrap_or (cell_held rows a b) content.Empty)) (same_row row a)

cell_set-same : (rows : List (ℕ → Option Content)) (row col : ℕ) (what : Option Content) → unwrap_or what content.Empty ≡ unwrap_or (cell_held rows row col) content.Empty → (a b : ℕ) →
    unwrap_or (cell_held (cell_set rows row col what) a b) content.Empty ≡ unwrap_or (cell_held rows a b) content.Empty
cell_set-same rows row col what same a b = by_cell (cell_set-or col what rows row a b)
  where
    by_cell : ((cell_held (cell_set rows row col what) a b ≡ cell_held rows a b) ⊎ ((a ≡ row) × (b ≡ col) × (cell_held (cell_set rows row col what) a b ≡ what))) →
        unwrap_or (cell_held (cell_set rows row col what) a b) content.Empty ≡ unwrap_or (cell_held rows a b) content.Empty
    by_cell (inl e) = ap (λ (w : Option Content). unwrap_or w content.Empty) e
    by_cell (inr (r, c, e)) = ap (λ (w : Option Content). unwrap_or w content.Empty) e ∙ (same ∙ (λ i. unwrap_or (cell_held rows (sym r i) (sym c i)) content.Empty))

settled_same : (what : Option Content) → unwrap_or (settled what) content.Empty ≡ unwrap_or what content.Empty
settled_same None = refl
settled_same (Some content.Empty) = refl
settled_same (Some (content.Num z)) = refl
settled_same (Some (content.Text t)) = refl
settled_same (Some (content.Formula t)) = refl

settled_filled : (what : Option Content) → settled what ≢ Some content.Empty
settled_filled None e = cc
settled_filled (Some content.Empty) e = cc
settled_filled (Some (content.Num z)) e = cc
settled_filled (Some (content.Text t)) e = cc
settled_filled (Some (content.Formula t)) e = cc

-- ---- one cell stored, then others written, then the one settled or put back
module _ (rows : List (BTreeMap ℕ Content)) (p : Put) (what : Content) (d row : BTreeMap ℕ Content) (inside : p.row < length rows) (stored : held row ≡ with_column (held (slice_index_or rows p.row d)) p.col (Some what)) where
  stored_first : map held (slice_set rows p.row row) ≡ cell_set (map held rows) p.row p.col (Some what)
  stored_first = held-set rows p.row p.col (Some what) d row inside stored

  module _ (after : List (BTreeMap ℕ Content)) (e last : BTreeMap ℕ Content) (there : p.row < length after) where
    here : held (slice_index_or after p.row e) p.col ≡ cell_held (map held after) p.row p.col
    here = λ i. held-index after p.row e there i p.col

    module _ (settles : held last ≡ with_column (held (slice_index_or after p.row e)) p.col (settled (held (slice_index_or after p.row e) p.col))) where
      third : map held (slice_set after p.row last) ≡ cell_set (map held after) p.row p.col (settled (cell_held (map held after) p.row p.col))
      third = held-set after p.row p.col (settled (cell_held (map held after) p.row p.col)) e last there (settles ∙ ap (λ (w : Option Content). with_column (held (slice_index_or after p.row e)) p.col (settled w)) here)

      pub written_all : (rest : List Put) → what ≡ p.content → cell_kept after ≡ puts_kept (cell_kept (slice_set rows p.row row)) rest →
          cell_kept (slice_set after p.row last) ≡ puts_kept (cell_kept rows) (p ∷ rest)
      written_all rest same others =
          (λ i a b. unwrap_or (cell_held (third i) a b) content.Empty)
          ∙ ((λ i a b. cell_set-same (map held after) p.row p.col (settled (cell_held (map held after) p.row p.col)) (settled_same (cell_held (map held after) p.row p.col)) a b i)
          ∙ (others
          ∙ ap (λ (cells : ℕ → ℕ → Content). puts_kept cells rest)
          ((λ i a b. unwrap_or (cell_held (stored_first i) a b) content.Empty)
          ∙ ((λ i a b. cell_set-content (map held rows) p.row p.col (Some what) a b (let l = length-held rows in omega (arith, l)) i)
          ∙ (λ i a b. cond (nat_eq p.row a && nat_eq p.col b) (same i) (cell_kept rows a b))))))

      pub no_empty_added : AddsNoEmpty (map held (slice_set rows p.row row)) (map held after) → AddsNoEmpty (map held rows) (map held (slice_set after p.row last))
      no_empty_added others i k h = last_first (cell_set-or p.col (settled (cell_held (map held after) p.row p.col)) (map held after) p.row i k)
        where
          now : cell_held (cell_set (map held after) p.row p.col (settled (cell_held (map held after) p.row p.col))) i k ≡ Some content.Empty
          now = ap (λ (rs : List (ℕ → Option Content)). cell_held rs i k) (sym third) ∙ h

          clash : (i ≡ p.row) → (k ≡ p.col) → settled (cell_held (map held after) p.row p.col) ≡ Some content.Empty
          clash r c =
              sym (cell_set-here p.col (settled (cell_held (map held after) p.row p.col)) (map held after) p.row (let l = length-held after in omega (arith, l)))
              ∙ ((λ j. cell_held (cell_set (map held after) p.row p.col (settled (cell_held (map held after) p.row p.col))) (sym r j) (sym c j)) ∙ now)

          before : (cell_held (cell_set (map held rows) p.row p.col (Some what)) i k ≡ Some content.Empty) →
              ((cell_held (cell_set (map held rows) p.row p.col (Some what)) i k ≡ cell_held (map held rows) i k) ⊎ ((i ≡ p.row) × (k ≡ p.col) × (cell_held (cell_set (map held rows) p.row p.col (Some what)) i k ≡ Some what))) →
              cell_held (map held rows) i k ≡ Some content.Empty
          before g (inl s) = sym s ∙ g
          before g (inr s) = absurd (settled_filled (cell_held (map held after) p.row p.col) (clash s.0 s.1))

          last_first : ((cell_held (cell_set (map held after) p.row p.col (settled (cell_held (map held after) p.row p.col))) i k ≡ cell_held (map held after) i k)
              ⊎ ((i ≡ p.row) × (k ≡ p.col) × (cell_held (cell_set (map held after) p.row p.col (settled (cell_held (map held after) p.row p.col))) i k ≡ settled (cell_held (map held after) p.row p.col)))) →
              cell_held (map held rows) i k ≡ Some content.Empty
          last_first (inr s) = absurd (settled_filled (cell_held (map held after) p.row p.col) (sym s.2 ∙ now))
          last_first (inl s) =
              before (ap (λ (rs : List (ℕ → Option Content)). cell_held rs i k) (sym stored_first) ∙ others i k (sym s ∙ now)) (cell_set-or p.col (Some what) (map held rows) p.row i k)

    module _ (refused : map held after ≡ map held (slice_set rows p.row row)) where
      -- the key is there
      pub key_there : IsSome (held (slice_index_or after p.row e) p.col)
      key_there =
          let is : held (slice_index_or after p.row e) p.col ≡ Some what =
          here ∙ (ap (λ (rs : List (ℕ → Option Content)). cell_held rs p.row p.col) (refused ∙ stored_first)
          ∙ cell_set-here p.col (Some what) (map held rows) p.row (let l = length-held rows in omega (arith, l))) in
          rw is refl

      pub all_back : (old : Option Content) → old ≡ held (slice_index_or rows p.row d) p.col → held last ≡ with_column (held (slice_index_or after p.row e)) p.col old → map held (slice_set after p.row last) ≡ map held rows
      all_back old was puts =
          held-set after p.row p.col old e last there puts
          ∙ ((λ i. cell_set ((refused ∙ stored_first) i) p.row p.col ((was ∙ (λ j. held-index rows p.row d inside j p.col)) i))
          ∙ cell_set-back (map held rows) p.row p.col (Some what))
