-- A write by identity, seen by positions.
use Rattle.std.proofs.Common.{◌≡◌, ℕ, zero, suc, ◌<◌, true, false, cond, List, [], ◌∷◌, ◌++◌, length, refl, ap, sym, ◌∙◌, arith}
use Rattle.std.specs.Prelude.{◌&&◌, map, slice_index_or, slice_set}
use Rattle.ss_base.specs.declared.types.Size.{Size}
use Rattle.ss_base.specs.declared.types.Spot.{Spot}
use Rattle.ss_base.specs.declared.types.Span.{Span}
use Rattle.formula_tree.specs.Tree.{Tree, Trees, num, text, fault, cell, range, pre, bin, call, none, more, rename_tree, rename_trees}
use Rattle.formula_tree.specs.Remap.{EachReference, EachReferences}
use Rattle.sheet_ops.specs.declared.content.Content.{Content}
use Rattle.sheet_ops.specs.declared.content.Content.TheVariants as content
use Rattle.sheet_ops.specs.declared.content.Put.{Put}
use Rattle.sheet_ops.specs.declared.operation.Effect.TheVariants as effect
use Rattle.sheet_ops.specs.LineIds.{LineId, id_eq}
use Rattle.sheet_ops.specs.Lines.{AxisLine, no_line, place_where, rec_at, rec_place, slot_at, slot_place}
use Rattle.sheet_ops.specs.Identity.{IdContent, IdSheet}
use Rattle.sheet_ops.specs.Act.{put_at, puts_at}
use Rattle.sheet_ops.specs.Naming.{resolve_cell, resolve_range, resolve_content, resolve_put, locate_cell, locate_range, locate_content, step}
use Rattle.sheet_ops.specs.Placed.{placed, size_of}
use Rattle.sheet_ops.specs.Fits.{CellFits, RangeFits, ContentFits, Avoids, AreApart, PutsFit, EffectFits, IsWellFormed}
use Rattle.sheet_ops.specs.Effects.{cell_written, cells_written, effect_on}
use Rattle.sheet_ops.proofs.Ids.{id_eq-self, id_eq-other}

apart_at : (of : AxisLine → LineId) (ls : List AxisLine) (p : ℕ) (id : LineId) → Avoids of ls id → p < length ls → id_eq (of (slice_index_or ls p no_line)) id ≡ false
apart_at of [] p id v k = absurd (omega arith)
apart_at of (m ∷ ls) zero id v k = v.0
apart_at of (m ∷ ls) (suc p) id v k = apart_at of ls p id v.1 (omega arith)

-- where two functions of lines differ at one line alone, their lists do so
module _ {A : Type 0} (f g : AxisLine → A) where
  away : (ls : List AxisLine) (a : LineId) → Avoids (λ l. l.rec) ls a → ((l : AxisLine) → id_eq l.rec a ≡ false → g l ≡ f l) → map g ls ≡ map f ls
  away [] a v h = refl
  away (l ∷ ls) a v h = λ i. h l v.0 i ∷ away ls a v.1 h i

  pub map_at_one : (ls : List AxisLine) (p : ℕ) → AreApart (λ l. l.rec) ls → p < length ls → ((l : AxisLine) → id_eq l.rec (slice_index_or ls p no_line).rec ≡ false → g l ≡ f l) → (x : A) →
      ((l : AxisLine) → slice_index_or ls p no_line ≡ l → g l ≡ x) → map g ls ≡ slice_set (map f ls) p x
  map_at_one [] p apart k h x here = absurd (omega arith)
  map_at_one (l ∷ ls) zero apart k h x here = λ i. here l refl i ∷ away ls l.rec apart.0 h i
  map_at_one (l ∷ ls) (suc p) apart k h x here =
      λ i. h l (id_eq-other (slice_index_or ls p no_line).rec l.rec (apart_at (λ m. m.rec) ls p l.rec apart.0 (omega arith))) i ∷ map_at_one ls p apart.1 (omega arith) h x here i

pub index_map : {A : Type 0} (f : AxisLine → A) (d : A) (ls : List AxisLine) (p : ℕ) → p < length ls → slice_index_or (map f ls) p d ≡ f (slice_index_or ls p no_line)
index_map f d [] p k = absurd (omega arith)
index_map f d (l ∷ ls) zero k = refl
index_map f d (l ∷ ls) (suc p) k = index_map f d ls p (omega arith)

-- the place of what stands at a position is that position
place_again : (of : AxisLine → LineId) (ls : List AxisLine) (p : ℕ) → AreApart of ls → p < length ls → place_where (λ l. id_eq (of l) (of (slice_index_or ls p no_line))) ls ≡ p
place_again of [] p apart k = absurd (omega arith)
place_again of (l ∷ ls) zero apart k = rw (id_eq-self (of l)) refl
place_again of (l ∷ ls) (suc p) apart k =
    let other = id_eq-other (of (slice_index_or ls p no_line)) (of l) (apart_at of ls p (of l) apart.0 (omega arith)) in
    rw other (ap suc (place_again of ls p apart.1 (omega arith)))

-- references renamed and renamed back
module _ {C R D S : Type 0} (P : C → Type 0) (Q : R → Type 0) (f : C → D) (g : R → S) (f' : D → C) (g' : S → R) (cells : (c : C) → P c → f' (f c) ≡ c) (ranges : (r : R) → Q r → g' (g r) ≡ r) where
  mutual
    tree_again : (t : Tree C R) → EachReference P Q t → rename_tree f' g' (rename_tree f g t) ≡ t
    tree_again (num n) h = refl
    tree_again (text t) h = refl
    tree_again (fault e) h = refl
    tree_again (cell c) h = λ i. cell (cells c h i)
    tree_again (range r) h = λ i. range (ranges r h i)
    tree_again (pre op t) h = λ i. pre op (tree_again t h i)
    tree_again (bin op s t) h = λ i. bin op (tree_again s h.0 i) (tree_again t h.1 i)
    tree_again (call fun ts) h = λ i. call fun (trees_again ts h i)

    trees_again : (ts : Trees C R) → EachReferences P Q ts → rename_trees f' g' (rename_trees f g ts) ≡ ts
    trees_again none h = refl
    trees_again (more t ts) h = λ i. more (tree_again t h.0 i) (trees_again ts h.1 i)

-- a content resolved is located again as it was
module _ (X : IdSheet) (ok : IsWellFormed X) where
  row_again : (p : ℕ) → p < length X.rows.lines → rec_place X.rows (rec_at X.rows p) ≡ p
  row_again p k = place_again (λ l. l.rec) X.rows.lines p ok.rows.recs k

  col_again : (p : ℕ) → p < length X.cols.lines → rec_place X.cols (rec_at X.cols p) ≡ p
  col_again p k = place_again (λ l. l.rec) X.cols.lines p ok.cols.recs k

  row_slot_again : (p : ℕ) → p < length X.rows.lines → slot_place X.rows (slot_at X.rows p) ≡ p
  row_slot_again p k = place_again (λ l. l.slot) X.rows.lines p ok.rows.slots k

  col_slot_again : (p : ℕ) → p < length X.cols.lines → slot_place X.cols (slot_at X.cols p) ≡ p
  col_slot_again p k = place_again (λ l. l.slot) X.cols.lines p ok.cols.slots k

  cell_again : (s : Spot) → CellFits (size_of X) s → locate_cell X (resolve_cell X s) ≡ s
  cell_again s h = λ i. record s { row = row_again s.row h.0 i; col = col_again s.col h.1 i }

  range_again : (s : Span) → RangeFits (size_of X) s → locate_range X (resolve_range X s) ≡ s
  range_again s h = λ i. record s {
    top = row_slot_again s.top h.0.0 i;
    left = col_slot_again s.left h.0.1 i;
    bottom = row_slot_again s.bottom h.1.0 i;
    right = col_slot_again s.right h.1.1 i;
  }

  pub content_again : (c : Content) → ContentFits (size_of X) c → locate_content X (resolve_content X c) ≡ c
  content_again content.Empty f = refl
  content_again (content.Num z) f = refl
  content_again (content.Text t) f = refl
  content_again (content.Formula t) f =
      λ i. content.Formula (tree_again (CellFits (size_of X)) (RangeFits (size_of X)) (resolve_cell X) (resolve_range X) (locate_cell X) (locate_range X) cell_again range_again t f i)

-- each cell is inside, and each reference in its content
abbrev pub AllInside : Size → List Put → Type 0
AllInside size [] = Unit {0}
AllInside size (p ∷ ps) = (p.row < size.rows) × (p.col < size.cols) × ContentFits size p.content × AllInside size ps

pub AllInside-fit : (size : Size) (ps : List Put) → PutsFit size ps → AllInside size ps
AllInside-fit size [] f = tt
AllInside-fit size (p ∷ ps) f = (f.0, f.1, f.2, AllInside-fit size ps f.4)

pub AllInside-append : (size : Size) (ps qs : List Put) → AllInside size ps → AllInside size qs → AllInside size (ps ++ qs)
AllInside-append size [] qs f g = g
AllInside-append size (p ∷ ps) qs f g = (f.0, f.1, f.2, AllInside-append size ps qs f.3 g)

module _ (X : IdSheet) (ok : IsWellFormed X) where
  abbrev row_of : (LineId → LineId → IdContent) → AxisLine → List Content
  row_of cells l = map (λ k. locate_content X (cells l.rec k.rec)) X.cols.lines

  one_written : (cells : LineId → LineId → IdContent) (p : Put) → p.row < length X.rows.lines → p.col < length X.cols.lines → ContentFits (size_of X) p.content →
      map (row_of (put_at cells (resolve_put X p))) X.rows.lines ≡ cell_written (map (row_of cells) X.rows.lines) p
  one_written cells p r c fits =
      map_at_one (row_of cells) (row_of (put_at cells (resolve_put X p))) X.rows.lines p.row ok.rows.recs r other (slice_set (slice_index_or (map (row_of cells) X.rows.lines) p.row []) p.col p.content) here
    where
      other : (l : AxisLine) → id_eq l.rec (rec_at X.rows p.row) ≡ false → row_of (put_at cells (resolve_put X p)) l ≡ row_of cells l
      other l e = λ i. map (λ k. locate_content X (cond (id_eq-other l.rec (rec_at X.rows p.row) e i && id_eq (rec_at X.cols p.col) k.rec) (resolve_content X p.content) (cells l.rec k.rec))) X.cols.lines

      here : (l : AxisLine) → slice_index_or X.rows.lines p.row no_line ≡ l → row_of (put_at cells (resolve_put X p)) l ≡ slice_set (slice_index_or (map (row_of cells) X.rows.lines) p.row []) p.col p.content
      here l e =
          map_at_one (λ k. locate_content X (cells l.rec k.rec)) (λ k. locate_content X (put_at cells (resolve_put X p) l.rec k.rec)) X.cols.lines p.col ok.cols.recs c beside p.content at
          ∙ ap (λ (row : List Content). slice_set row p.col p.content) (sym (index_map (row_of cells) [] X.rows.lines p.row r ∙ ap (row_of cells) e))
        where
          same : id_eq (rec_at X.rows p.row) l.rec ≡ true
          same = ap (λ (m : AxisLine). id_eq m.rec l.rec) e ∙ id_eq-self l.rec

          beside : (k : AxisLine) → id_eq k.rec (rec_at X.cols p.col) ≡ false → locate_content X (put_at cells (resolve_put X p) l.rec k.rec) ≡ locate_content X (cells l.rec k.rec)
          beside k h = λ i. locate_content X (cond (same i && id_eq-other k.rec (rec_at X.cols p.col) h i) (resolve_content X p.content) (cells l.rec k.rec))

          at : (k : AxisLine) → slice_index_or X.cols.lines p.col no_line ≡ k → locate_content X (put_at cells (resolve_put X p) l.rec k.rec) ≡ p.content
          at k h = (λ i. locate_content X (cond (same i && (ap (λ (m : AxisLine). id_eq m.rec k.rec) h ∙ id_eq-self k.rec) i) (resolve_content X p.content) (cells l.rec k.rec))) ∙ content_again X ok p.content fits

  -- so many cells written by identity are so many written by positions
  pub placed-puts_at : (cells : LineId → LineId → IdContent) (ps : List Put) → AllInside (size_of X) ps →
      map (row_of (puts_at cells (map (resolve_put X) ps))) X.rows.lines ≡ cells_written (map (row_of cells) X.rows.lines) ps
  placed-puts_at cells [] f = refl
  placed-puts_at cells (p ∷ ps) f = placed-puts_at (put_at cells (resolve_put X p)) ps f.3 ∙ ap (λ (rows : List (List Content)). cells_written rows ps) (one_written cells p f.0 f.1 f.2)

-- the position step of a write, seen by positions
pub placed-write : (X : IdSheet) (ps : List Put) (ids : List LineId) → IsWellFormed X → EffectFits (size_of X) (effect.Write ps) → placed (step X (effect.Write ps) ids) ≡ effect_on (placed X) (effect.Write ps)
placed-write X ps ids ok f = ap (λ (rows : List (List Content)). record (placed X) { cells = rows }) (placed-puts_at X ok X.cells ps (AllInside-fit (size_of X) ps f.1))
