-- What is new in a sheet, and is not brought by an operation or an effect, is new in it afterwards; and the sheet stays well formed.
use Rattle.std.proofs.Common.{◌≡◌, ℕ, ◌<◌, Bool, true, false, cond, List, [], ◌∷◌, ◌++◌, length, refl, ap, sym, ◌∙◌, inl, inr}
use Rattle.std.specs.Prelude.{◌⊎◌, ◌&&◌, map}
use Rattle.sheet_ops.specs.declared.content.Put.{Put}
use Rattle.sheet_ops.specs.declared.operation.Effect.{Effect}
use Rattle.sheet_ops.specs.declared.operation.Effect.TheVariants as effect
use Rattle.sheet_ops.specs.LineIds.{LineId, id_eq, first_id, AreOthers, AllDiffer}
use Rattle.sheet_ops.specs.Lines.{Axis, rec_at, rec_place, before_place, moved}
use Rattle.sheet_ops.specs.Identity.{IdContent, IdPut, IdOp, one, write, ins_row, ins_col, del_row, del_col, sort, IdSheet}
use Rattle.sheet_ops.specs.Act.{put_at, puts_at, act}
use Rattle.sheet_ops.specs.Naming.{brought, resolve_put, locate_put, locate, step}
use Rattle.sheet_ops.specs.Placed.{size_of}
use Rattle.sheet_ops.specs.Fits.{PutsFit, IntentFits, EffectFits, IsWellFormed, IsNewOn, IsNew, EachNew, IsNewFor}
use Rattle.sheet_ops.proofs.Ids.{id_eq-other}
use Rattle.sheet_ops.proofs.Places.{avoided, at_of_place, avoids_from}
use Rattle.sheet_ops.proofs.Carried.{length-moved, slot_moved, rec_moved}
use Rattle.sheet_ops.proofs.Convergence.{rows_carried, cols_carried}
use Rattle.sheet_ops.proofs.Views.{axis_inserted, axis_sorted, new_inserted, new_deleted, new_sorted}
use Rattle.marked_lines.proofs.Permuting.{source_below}
use Rattle.marked_lines.specs.Moves.{source, MovesBelow}

second_false : (x y : Bool) → y ≡ false → x && y ≡ false
second_false true y e = e
second_false false y e = refl

-- a record that stands in the axis isn't new
rec_other : (A : Axis) (r id : LineId) → rec_place A r < length A.lines → IsNewOn A id → id_eq r id ≡ false
rec_other A r id k new = ap (λ (a : LineId). id_eq a id) (sym (at_of_place (λ l. l.rec) A.lines r k)) ∙ avoided (λ l. l.rec) A.lines id new.recs (rec_place A r) k

new_moved : (A : Axis) (moves : List (ℕ × ℕ)) (id : LineId) → MovesBelow (length A.lines) moves → IsNewOn A id → IsNewOn (moved A moves) id
new_moved A moves id below new = record {
  slots = avoids_from (λ l. l.slot) (moved A moves).lines id (λ p k.
      let k' = rw (length-moved A moves) at k in ap (λ (a : LineId). id_eq a id) (slot_moved A moves p k') ∙ avoided (λ l. l.slot) A.lines id new.slots p k');
  recs = avoids_from (λ l. l.rec) (moved A moves).lines id (λ p k.
      let k' = rw (length-moved A moves) at k in
      ap (λ (a : LineId). id_eq a id) (rec_moved A moves below p k') ∙ avoided (λ l. l.rec) A.lines id new.recs (source moves p) (source_below moves (length A.lines) p below k'));
  live = new.live;
}

-- ---- of identifiers that all differ
pub others_behind : (is js : List LineId) (id : LineId) → AreOthers (is ++ js) id → AreOthers js id
others_behind [] js id o = o
others_behind (i ∷ is) js id o = others_behind is js id o.1

pub others_front : (is js : List LineId) (id : LineId) → AreOthers (is ++ js) id → AreOthers is id
others_front [] js id o = tt
others_front (i ∷ is) js id o = (o.0, others_front is js id o.1)

pub others_both : (is js : List LineId) (id : LineId) → AreOthers is id → AreOthers js id → AreOthers (is ++ js) id
others_both [] js id o p = p
others_both (i ∷ is) js id o p = (o.0, others_both is js id o.1 p)

-- one of the later ones is none of the earlier ones
pub others_before : (is : List LineId) (id : LineId) (js : List LineId) → AllDiffer (is ++ id ∷ js) → AreOthers is id
others_before [] id js d = tt
others_before (i ∷ is) id js d = (id_eq-other id i (others_behind is (id ∷ js) i d.0).0, others_before is id js d.1)

pub differ_without : (is : List LineId) (id : LineId) (js : List LineId) → AllDiffer (is ++ id ∷ js) → AllDiffer (is ++ js)
differ_without [] id js d = d.1
differ_without (i ∷ is) id js d = (others_both is js i (others_front is (id ∷ js) i d.0) (others_behind is (id ∷ js) i d.0).1, differ_without is id js d.1)

module _ (X : IdSheet) (ok : IsWellFormed X) where
  cell_stays : (cells : LineId → LineId → IdContent) (ps : List IdPut) → PutsFit (size_of X) (map (locate_put X) ps) → (a b : LineId) → (IsNewOn X.rows a ⊎ IsNewOn X.cols b) → puts_at cells ps a b ≡ cells a b
  cell_stays cells [] f a b n = refl
  cell_stays cells (p ∷ ps) f a b n = cell_stays (put_at cells p) ps f.4 a b n ∙ here n
    where
      here : (IsNewOn X.rows a ⊎ IsNewOn X.cols b) → put_at cells p a b ≡ cells a b
      here (inl m) = ap (λ t. cond (t && id_eq p.col b) p.content (cells a b)) (rec_other X.rows p.row a f.0 m)
      here (inr m) = ap (λ t. cond t p.content (cells a b)) (second_false (id_eq p.row a) (id_eq p.col b) (rec_other X.cols p.col b f.1 m))

  pub act_formed : (N : IdOp) → IntentFits (size_of X) (locate X N) → EachNew X (brought N) → IsWellFormed (act X N)
  act_formed (one (write ps)) f n = record { rows = ok.rows; cols = ok.cols }
  act_formed (one (ins_row b m)) f n = record { rows = axis_inserted X.rows ok.rows (before_place X.rows b) m n.0.rows; cols = ok.cols }
  act_formed (one (ins_col b m)) f n = record { rows = ok.rows; cols = axis_inserted X.cols ok.cols (before_place X.cols b) m n.0.cols }
  act_formed (one (del_row r)) f n = record { rows = record { slots = ok.rows.slots; recs = ok.rows.recs }; cols = ok.cols }
  act_formed (one (del_col r)) f n = record { rows = ok.rows; cols = record { slots = ok.cols.slots; recs = ok.cols.recs } }
  act_formed (one (sort S R)) f n = record { rows = axis_sorted X.rows ok.rows S R; cols = ok.cols }

  pub act_new : (N : IdOp) → IntentFits (size_of X) (locate X N) → (id : LineId) → AreOthers (brought N) id → IsNew X id → IsNew (act X N) id
  act_new (one (write ps)) f id o n = record { rows = n.rows; cols = n.cols; in_row = λ col. cell_stays X.cells ps f.2 id col (inl n.rows) ∙ n.in_row col; in_col = λ row. cell_stays X.cells ps f.2 row id (inr n.cols) ∙ n.in_col row }
  act_new (one (ins_row b m)) f id o n = record { rows = new_inserted X.rows ok.rows (before_place X.rows b) m id n.rows o.0; cols = n.cols; in_row = n.in_row; in_col = n.in_col }
  act_new (one (ins_col b m)) f id o n = record { rows = n.rows; cols = new_inserted X.cols ok.cols (before_place X.cols b) m id n.cols o.0; in_row = n.in_row; in_col = n.in_col }
  act_new (one (del_row r)) f id o n = record { rows = new_deleted X.rows ok.rows r id n.rows (rec_other X.rows r id f n.rows); cols = n.cols; in_row = n.in_row; in_col = n.in_col }
  act_new (one (del_col r)) f id o n = record { rows = n.rows; cols = new_deleted X.cols ok.cols r id n.cols (rec_other X.cols r id f n.cols); in_row = n.in_row; in_col = n.in_col }
  act_new (one (sort S R)) f id o n = record { rows = new_sorted X.rows ok.rows S R id n.rows; cols = n.cols; in_row = n.in_row; in_col = n.in_col }

  pub step_formed : (e : Effect) (ids : List LineId) → IsNewFor e X ids → EffectFits (size_of X) e → IsWellFormed (step X e ids)
  step_formed e ids n f = record { rows = (rows_carried X ids ok e n f).formed; cols = (cols_carried X ids ok e n f).formed }

  pub step_new : (e : Effect) (ids : List LineId) → EffectFits (size_of X) e → (id : LineId) → id_eq (first_id ids) id ≡ false → IsNew X id → IsNew (step X e ids) id
  step_new (effect.Write es) ids f id o n = record { rows = n.rows; cols = n.cols; in_row = λ col. cell_kept X.cells es f.1 id col (inl n.rows) ∙ n.in_row col; in_col = λ row. cell_kept X.cells es f.1 row id (inr n.cols) ∙ n.in_col row }
    where
      cell_kept : (cells : LineId → LineId → IdContent) (ps : List Put) → PutsFit (size_of X) ps → (a b : LineId) → (IsNewOn X.rows a ⊎ IsNewOn X.cols b) → puts_at cells (map (resolve_put X) ps) a b ≡ cells a b
      cell_kept cells [] f a b n = refl
      cell_kept cells (p ∷ ps) f a b n = cell_kept (put_at cells (resolve_put X p)) ps f.4 a b n ∙ here n
        where
          here : (IsNewOn X.rows a ⊎ IsNewOn X.cols b) → put_at cells (resolve_put X p) a b ≡ cells a b
          here (inl m) = ap (λ t. cond (t && id_eq (rec_at X.cols p.col) b) (resolve_put X p).content (cells a b)) (avoided (λ l. l.rec) X.rows.lines a m.recs p.row f.0)
          here (inr m) = ap (λ t. cond t (resolve_put X p).content (cells a b)) (second_false (id_eq (rec_at X.rows p.row) a) (id_eq (rec_at X.cols p.col) b) (avoided (λ l. l.rec) X.cols.lines b m.recs p.col f.1))
  step_new (effect.InsRow q) ids f id o n = record { rows = new_inserted X.rows ok.rows q (first_id ids) id n.rows o; cols = n.cols; in_row = n.in_row; in_col = n.in_col }
  step_new (effect.InsCol q) ids f id o n = record { rows = n.rows; cols = new_inserted X.cols ok.cols q (first_id ids) id n.cols o; in_row = n.in_row; in_col = n.in_col }
  step_new (effect.DelRow q) ids f id o n = record { rows = new_deleted X.rows ok.rows (rec_at X.rows q) id n.rows (avoided (λ l. l.rec) X.rows.lines id n.rows.recs q f); cols = n.cols; in_row = n.in_row; in_col = n.in_col }
  step_new (effect.DelCol q) ids f id o n = record { rows = n.rows; cols = new_deleted X.cols ok.cols (rec_at X.cols q) id n.cols (avoided (λ l. l.rec) X.cols.lines id n.cols.recs q f); in_row = n.in_row; in_col = n.in_col }
  step_new (effect.Move moves) ids f id o n = record { rows = new_moved X.rows moves id f.1 n.rows; cols = n.cols; in_row = n.in_row; in_col = n.in_col }

  -- and several
  pub act_each_new : (N : IdOp) → IntentFits (size_of X) (locate X N) → (ids : List LineId) → AllDiffer (brought N ++ ids) → EachNew X ids → EachNew (act X N) ids
  act_each_new N f [] d n = tt
  act_each_new N f (id ∷ ids) d n = (act_new N f id (others_before (brought N) id ids d) n.0, act_each_new N f ids (differ_without (brought N) id ids d) n.1)

  pub step_each_new : (e : Effect) (ids : List LineId) → EffectFits (size_of X) e → (more : List LineId) → AreOthers more (first_id ids) → EachNew X more → EachNew (step X e ids) more
  step_each_new e ids f [] o n = tt
  step_each_new e ids f (id ∷ more) o n = (step_new e ids f id (id_eq-other id (first_id ids) o.0) n.0, step_each_new e ids f more o.1 n.1)
