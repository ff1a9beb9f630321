-- The position step of every effect, seen by positions.
use Rattle.std.proofs.Common.{◌≡◌, ℕ, zero, suc, ◌<◌, Bool, true, List, [], ◌∷◌, length, refl, ap, sym, ◌∙◌, All}
use Rattle.std.specs.Prelude.{◌||◌, map, insert, replicate, slice_index_or, slice_set}
use Rattle.std.proofs.lemmas.List.Elements.{All-head, All-tail}
use Rattle.marked_lines.specs.Moves.{source, permuted_from, permute}
use Rattle.ss_base.specs.declared.types.Size.{Size}
use Rattle.sheet_ops.specs.declared.content.Content.{Content}
use Rattle.sheet_ops.specs.declared.content.Content.TheVariants as content
use Rattle.sheet_ops.specs.declared.operation.Effect.{Effect}
use Rattle.sheet_ops.specs.declared.operation.Effect.TheVariants as effect
use Rattle.sheet_ops.specs.LineIds.{LineId, id_eq, first_id}
use Rattle.sheet_ops.specs.Lines.{AxisLine, Axis, new_line, rec_at, deleted, lines_moved_from, marks}
use Rattle.sheet_ops.specs.Identity.{IdContent, IdSheet}
use Rattle.sheet_ops.specs.Naming.{locate_content, step}
use Rattle.sheet_ops.specs.Placed.{placed, size_of}
use Rattle.sheet_ops.specs.Maps.{row_map, col_map, content_moved}
use Rattle.sheet_ops.specs.Fits.{AreApart, ContentFits, EffectFits, IsWellFormed, IsNewFor, GridFits}
use Rattle.sheet_ops.specs.Effects.{effect_on, grid_past}
use Rattle.sheet_ops.proofs.Ids.{id_eq-self, id_eq-other}
use Rattle.sheet_ops.proofs.Moved.{content_carried}
use Rattle.sheet_ops.proofs.Convergence.{rows_carried, cols_carried}
use Rattle.sheet_ops.proofs.Written.{map_at_one, placed-write}

pub map-insert : {A B : Type 0} (f : A → B) (xs : List A) (q : ℕ) (x : A) → map f (insert xs q x) ≡ insert (map f xs) q (f x)
map-insert f xs zero x = refl
map-insert f [] (suc q) x = refl
map-insert f (y ∷ xs) (suc q) x = ap (λ ws. f y ∷ ws) (map-insert f xs q x)

at_map : (f : AxisLine → Bool) (ls : List AxisLine) (p : ℕ) (l : AxisLine) → f (slice_index_or ls p l) ≡ slice_index_or (map f ls) p (f l)
at_map f [] p l = refl
at_map f (m ∷ ls) zero l = refl
at_map f (m ∷ ls) (suc p) l = at_map f ls p l

-- what a function of records gives of lines whose records moved
module _ {A : Type 0} (f : LineId → A) where
  at_rec : (ls : List AxisLine) (p : ℕ) (l : AxisLine) → f (slice_index_or ls p l).rec ≡ slice_index_or (map (λ m. f m.rec) ls) p (f l.rec)
  at_rec [] p l = refl
  at_rec (m ∷ ls) zero l = refl
  at_rec (m ∷ ls) (suc p) l = at_rec ls p l

  map_moved_from : (moves : List (ℕ × ℕ)) (all : List AxisLine) (q : ℕ) (ls : List AxisLine) → map (λ m. f m.rec) (lines_moved_from moves all q ls) ≡ permuted_from moves (map (λ m. f m.rec) all) q (map (λ m. f m.rec) ls)
  map_moved_from moves all q [] = refl
  map_moved_from moves all q (l ∷ ls) = λ i. at_rec all (source moves q) l i ∷ map_moved_from moves all (suc q) ls i

module _ (X : IdSheet) (e : Effect) (ids : List LineId) (ok : IsWellFormed X) (new : IsNewFor e X ids) (f : EffectFits (size_of X) e) where
  abbrev Y : IdSheet
  Y = step X e ids

  abbrev cm : Content → Content
  cm c = content_moved (row_map e) (col_map e) c

  -- a row's contents, and all rows', located afterwards
  row_past : (r : AxisLine) (cols : List AxisLine) → All (ContentFits (size_of X)) (map (λ c. locate_content X (X.cells r.rec c.rec)) cols) →
      map (λ c. locate_content Y (X.cells r.rec c.rec)) cols ≡ map cm (map (λ c. locate_content X (X.cells r.rec c.rec)) cols)
  row_past r [] h = refl
  row_past r (c ∷ cols) h = λ i.
      content_carried X Y (row_map e) (col_map e) (rows_carried X ids ok e new f) (cols_carried X ids ok e new f) (X.cells r.rec c.rec)
      (All-head (ContentFits (size_of X)) (locate_content X (X.cells r.rec c.rec)) (map (λ c. locate_content X (X.cells r.rec c.rec)) cols) h) i
      ∷ row_past r cols (All-tail (ContentFits (size_of X)) (locate_content X (X.cells r.rec c.rec)) (map (λ c. locate_content X (X.cells r.rec c.rec)) cols) h) i

  pub rows_past : (rows : List AxisLine) → GridFits (size_of X) (map (λ r. map (λ c. locate_content X (X.cells r.rec c.rec)) X.cols.lines) rows) →
      map (λ r. map (λ c. locate_content Y (X.cells r.rec c.rec)) X.cols.lines) rows ≡ grid_past e (map (λ r. map (λ c. locate_content X (X.cells r.rec c.rec)) X.cols.lines) rows)
  rows_past [] h = refl
  rows_past (r ∷ rows) h = λ i.
      row_past r X.cols.lines (All-head (λ row. All (ContentFits (size_of X)) row) (map (λ c. locate_content X (X.cells r.rec c.rec)) X.cols.lines) (map (λ r. map (λ c. locate_content X (X.cells r.rec c.rec)) X.cols.lines) rows) h) i
      ∷ rows_past rows (All-tail (λ row. All (ContentFits (size_of X)) row) (map (λ c. locate_content X (X.cells r.rec c.rec)) X.cols.lines) (map (λ r. map (λ c. locate_content X (X.cells r.rec c.rec)) X.cols.lines) rows) h) i

-- what is blank is empty
empties : (X : IdSheet) (cells : LineId → IdContent) (ls : List AxisLine) → ((a : LineId) → locate_content X (cells a) ≡ content.Empty) → map (λ c. locate_content X (cells c.rec)) ls ≡ replicate (length ls) content.Empty
empties X cells [] h = refl
empties X cells (l ∷ ls) h = λ i. h l.rec i ∷ empties X cells ls h i

length-map_any : {A B : Type 0} (f : A → B) (xs : List A) → length (map f xs) ≡ length xs
length-map_any f [] = refl
length-map_any f (x ∷ xs) = ap suc (length-map_any f xs)

map_rows : (g h : AxisLine → List Content) (ls : List AxisLine) → ((l : AxisLine) → g l ≡ h l) → map g ls ≡ map h ls
map_rows g h [] e = refl
map_rows g h (l ∷ ls) e = λ i. e l i ∷ map_rows g h ls e i

map_map : (g : List Content → List Content) (h : AxisLine → List Content) (ls : List AxisLine) → map (λ l. g (h l)) ls ≡ map g (map h ls)
map_map g h [] = refl
map_map g h (l ∷ ls) = ap (λ ws. g (h l) ∷ ws) (map_map g h ls)

-- the marks after a record died
marks_deleted : (A : Axis) (p : ℕ) → AreApart (λ l. l.rec) A.lines → p < length A.lines → marks (deleted A (rec_at A p)) ≡ slice_set (marks A) p true
marks_deleted A p apart h =
    map_at_one (λ l. A.dead l.rec) (λ l. id_eq (rec_at A p) l.rec || A.dead l.rec) A.lines p apart h
    (λ l e. ap (λ t. t || A.dead l.rec) (id_eq-other l.rec (rec_at A p) e)) true
    (λ l e. ap (λ t. t || A.dead l.rec) (ap (λ (m : AxisLine). id_eq m.rec l.rec) e ∙ id_eq-self l.rec))

-- Whatever the lines of a sheet are called, an effect does to it by positions what `effect_on` says.
pub placed-step : (X : IdSheet) (e : Effect) (ids : List LineId) → IsWellFormed X → IsNewFor e X ids → EffectFits (size_of X) e → GridFits (size_of X) (placed X).cells → placed (step X e ids) ≡ effect_on (placed X) e
placed-step X (effect.Write ps) ids ok new f inside = placed-write X ps ids ok f
placed-step X (effect.InsRow p) ids ok new f inside = λ i. record {
  rows = (map-insert (λ l. X.rows.dead l.rec) X.rows.lines p (new_line (first_id ids)) ∙ ap (λ b. insert (map (λ l. X.rows.dead l.rec) X.rows.lines) p b) new.0.live) i;
  cols = marks X.cols;
  cells = (map-insert (λ r. map (λ c. locate_content (step X (effect.InsRow p) ids) (X.cells r.rec c.rec)) X.cols.lines) X.rows.lines p (new_line (first_id ids))
      ∙ (λ j. insert (rows_past X (effect.InsRow p) ids ok new f X.rows.lines inside j) p
      ((empties (step X (effect.InsRow p) ids) (λ a. X.cells (first_id ids) a) X.cols.lines (λ a. ap (locate_content (step X (effect.InsRow p) ids)) (new.1 a)) ∙ ap (λ n. replicate n content.Empty) (sym (length-map_any (λ l. X.cols.dead l.rec) X.cols.lines))) j))) i;
}
placed-step X (effect.InsCol p) ids ok new f inside = λ i. record {
  rows = marks X.rows;
  cols = (map-insert (λ l. X.cols.dead l.rec) X.cols.lines p (new_line (first_id ids)) ∙ ap (λ b. insert (map (λ l. X.cols.dead l.rec) X.cols.lines) p b) new.0.live) i;
  cells = (map_rows (λ r. map (λ c. locate_content (step X (effect.InsCol p) ids) (X.cells r.rec c.rec)) (insert X.cols.lines p (new_line (first_id ids))))
      (λ r. insert (map (λ c. locate_content (step X (effect.InsCol p) ids) (X.cells r.rec c.rec)) X.cols.lines) p content.Empty) X.rows.lines
      (λ r. map-insert (λ c. locate_content (step X (effect.InsCol p) ids) (X.cells r.rec c.rec)) X.cols.lines p (new_line (first_id ids))
      ∙ ap (λ x. insert (map (λ c. locate_content (step X (effect.InsCol p) ids) (X.cells r.rec c.rec)) X.cols.lines) p x) (ap (locate_content (step X (effect.InsCol p) ids)) (new.1 r.rec)))
      ∙ (map_map (λ row. insert row p content.Empty) (λ r. map (λ c. locate_content (step X (effect.InsCol p) ids) (X.cells r.rec c.rec)) X.cols.lines) X.rows.lines
      ∙ ap (map (λ (row : List Content). insert row p content.Empty)) (rows_past X (effect.InsCol p) ids ok new f X.rows.lines inside))) i;
}
placed-step X (effect.DelRow p) ids ok new f inside = ap (λ (ms : List Bool). record (placed X) { rows = ms }) (marks_deleted X.rows p ok.rows.recs f)
placed-step X (effect.DelCol p) ids ok new f inside = ap (λ (ms : List Bool). record (placed X) { cols = ms }) (marks_deleted X.cols p ok.cols.recs f)
placed-step X (effect.Move moves) ids ok new f inside = λ i. record {
  rows = map_moved_from X.rows.dead moves X.rows.lines 0 X.rows.lines i;
  cols = marks X.cols;
  cells = (map_moved_from (λ a. map (λ c. locate_content (step X (effect.Move moves) ids) (X.cells a c.rec)) X.cols.lines) moves X.rows.lines 0 X.rows.lines
      ∙ ap (permute moves) (rows_past X (effect.Move moves) ids ok new f X.rows.lines inside)) i;
}
