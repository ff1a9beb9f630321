-- The text of what was read, and the length of it.
use Rattle.std.proofs.Common.{◌≡◌, ℕ, suc, ◌+◌, ◌-◌, ◌<◌, ◌≤◌, Bool, true, false, cond, List, [], ◌++◌, length, take, drop, get_or, refl, ap, sym, ◌∙◌, subst, arith, Ok, Err}
use Rattle.std.specs.Prelude.{map, nat_lt, ◌&&◌, Result, IfOk, OnOk}
use Rattle.std.proofs.lemmas.Bool.Decides.{nat_tests}
use Rattle.std.proofs.lemmas.List.{append-nil, get_or-drop, get_or-take, get_or-map, length-drop, length-take-le, length-map}
use Rattle.ss_base.specs.declared.types.Size.{Size}
use Rattle.ss_base.specs.declared.types.Span.{Span}
use Rattle.ss_base.specs.Lists.{IsPrefixOf}
use Rattle.sheet_value.specs.declared.value.Value.{Value}
use Rattle.sheet_value.specs.declared.value.Value.TheVariants as value
use Rattle.sheet_value.specs.Snapshots.{Snapshot, CellValues, cell_in}
use Rattle.sheet_value.specs.Tables.{Table, value_at}
use Rattle.sheet_ops.specs.declared.edit.EditErr.TheVariants as fault
use Rattle.sheet_text.specs.Texts.{refusal_text}
use Rattle.sheet_text.specs.Values.{range_values_text, IsPartOf}
use Rattle.value_snap.specs.declared.published.Published.{Published}
use Rattle.value_snap.specs.Lists.{upto_from, replay_of}
use Rattle.value_snap.specs.Parts.{IsWithin, visible_lines_between, values_in, part_between}
use Rattle.value_snap.specs.Stores.{known_snapshot}
use Rattle.value_snap.specs.Views.{store_size}
use Rattle.value_snap.proofs.Replays.{replay_length}
use Rattle.recalc_loop.specs.Standing.{snapshot_values}
use Rattle.live_session.specs.Sessions.{SessionOf}
use Rattle.turn_book.specs.Passes.{seen_by, made_in}
use Rattle.live_record.specs.Replays.{Done, after_read, MayNoteRead}
use Rattle.live_site.specs.Lines.{Agrees, beside_session}

-- ---- what a call answers
pub on_any : {T E : Type 0} (r : Result T E) (P : Type 0) → P → OnOk r P
on_any (Ok x) P p = p
on_any (Err e) P p = tt

pub if_same : {E : Type 0} (r : Result (List ℕ) E) (x y : List ℕ) → x ≡ y → IfOk r (λ (t : List ℕ). t ≡ x) → IfOk r (λ (t : List ℕ). t ≡ y)
if_same r x y same is = subst (λ (z : List ℕ). IfOk r (λ (t : List ℕ). t ≡ z)) same is

-- ---- the values of a range, among those of the whole
-- the value in a row and a column of some lines
part_value : (cells : CellValues) (rows cols : List ℕ) (row col : ℕ) → row < length rows → col < length cols → value_at (part_between cells rows cols) row col ≡ cell_in cells (get_or rows row 0) (get_or cols col 0)
part_value cells rows cols row col h k =
    ap (λ (vs : List Value). get_or vs col value.Empty) (get_or-map (λ (r : ℕ). values_in cells r cols) rows row 0 [] h)
    ∙ get_or-map (λ (c : ℕ). cell_in cells (get_or rows row 0) c) cols col 0 value.Empty k

module _ (order : List ℕ) (first last : ℕ) (within : last < length order) where
  lines_many : length (visible_lines_between order first last) ≡ last + 1 - first
  lines_many =
      let a = length-drop first (take (suc last) order) in
      let b = length-take-le (suc last) order (omega (arith, within)) in
      omega (arith, a, b)

  line_at : (k : ℕ) → k < last + 1 - first → get_or (visible_lines_between order first last) k 0 ≡ get_or order (first + k) 0
  line_at k h = get_or-drop first (take (suc last) order) k 0 ∙ get_or-take (suc last) order (first + k) 0 (omega (arith, h))

module _ (s : Snapshot) (range : Span) where
  abbrev part : Table
  part = part_between s.cells (visible_lines_between s.row_order range.top range.bottom) (visible_lines_between s.col_order range.left range.right)

  pub is_part : IsWithin s range → IsPartOf (snapshot_values s) range part
  is_part w =
      let rows = lines_many s.row_order range.top range.bottom w.1 in
      let cols = lines_many s.col_order range.left range.right w.3 in
      record {
        last_row = w.1;
        last_col = w.3;
        rows = rows;
        cols = cols;
        values = λ row col h k.
            part_value s.cells (visible_lines_between s.row_order range.top range.bottom) (visible_lines_between s.col_order range.left range.right) row col h k
            ∙ ((λ i. cell_in s.cells (line_at s.row_order range.top range.bottom w.1 row (omega (arith, h, rows)) i) (line_at s.col_order range.left range.right w.3 col (omega (arith, k, cols)) i))
            ∙ sym (part_value s.cells s.row_order s.col_order (range.top + row) (range.left + col) (omega (arith, h, rows, w.1)) (omega (arith, k, cols, w.3))));
      }

  -- a range that isn't in the visible sheet is refused
  pub refused_text : (number : ℕ) (name : List ℕ) (l : ℕ) → range.top ≤ range.bottom → range.left ≤ range.right → ¬ IsWithin s range → refusal_text number fault.OutOfSheet ≡ range_values_text number name range l (snapshot_values s)
  refused_text number name l rows cols out = by_row (nat_lt range.bottom (length s.row_order)) refl
    where
      by_row : (b : Bool) → nat_lt range.bottom (length s.row_order) ≡ b → refusal_text number fault.OutOfSheet ≡ range_values_text number name range l (snapshot_values s)
      by_row false e = simp e refl
      by_row true e = by_col (nat_lt range.right (length s.col_order)) refl
        where
          by_col : (b : Bool) → nat_lt range.right (length s.col_order) ≡ b → refusal_text number fault.OutOfSheet ≡ range_values_text number name range l (snapshot_values s)
          by_col false k = simp (e, k) refl
          by_col true k =
              let h : range.bottom < length s.row_order = grind (arith, nat_tests) in
              let j : range.right < length s.col_order = grind (arith, nat_tests) in
              absurd (out (omega (arith, h, rows), h, omega (arith, j, cols), j))

-- ---- reads one after another
module _ (s m t : SessionOf) where
  pub looked_on : m ≡ record s { reader = m.reader; read_length = m.read_length } → t ≡ record m { reader = t.reader; read_length = t.read_length } → t ≡ record s { reader = t.reader; read_length = t.read_length }
  looked_on before now = now ∙ (λ i. record (before i) { reader = t.reader; read_length = t.read_length })

  pub looked_kept : m.reader.known ≡ s.reader.known → IsPrefixOf m.reader.known t.reader.known → IsPrefixOf s.reader.known t.reader.known
  looked_kept same kept = subst (λ (known : List Published). IsPrefixOf known t.reader.known) same kept

pub looked_later : (s m : SessionOf) (n l : ℕ) → m.reader.known ≡ s.reader.known → upto_from 0 m.reader.known ≤ n → l ≡ n → upto_from 0 s.reader.known ≤ l
looked_later s m n l same older is = let h = ap (λ (known : List Published). upto_from 0 known) same in omega (arith, h, older, is)

-- ---- a read
module _ (name : List ℕ) (s t : SessionOf) (log : List ℕ) (d : Done) (agrees : Agrees d s log) (same : t ≡ record s { reader = t.reader; read_length = t.read_length }) (store : t.reader.store ≡ s.reader.store)
    (length_is : t.read_length ≡ upto_from 0 t.reader.known) (later : upto_from 0 s.reader.known ≤ t.read_length) (sized : store_size s.reader.store ≡ s.client.size) where
  same_size : store_size t.reader.store ≡ t.client.size
  same_size = ap store_size store ∙ (sized ∙ sym (ap (λ (z : SessionOf). z.client.size) same))

  abbrev read_values : Table
  read_values = snapshot_values (known_snapshot t.reader)

  pub may_read : MayNoteRead (beside_session name t) d t.read_length read_values
  may_read = record {
    later = omega (arith, agrees.read, later);
    shown = (t.reader.known, ([], append-nil t.reader.known), replay_length t.client.size t.reader.known ∙ sym length_is, ap (λ (z : Size). snapshot_values (replay_of z t.reader.known)) same_size);
  }

  pub read_agrees : (number : ℕ) (range : Span) (text : List ℕ) → text ≡ range_values_text number name range t.read_length read_values →
      Agrees (after_read (beside_session name t) d number range t.read_length read_values) t (log ++ text)
  read_agrees number range text is = record {
    own = agrees.own ∙ sym (ap (λ (z : SessionOf). made_in z.pass ++ z.unpushed) same);
    pushed = agrees.pushed ∙ sym (ap (λ (z : SessionOf). length (made_in z.pass)) same);
    taken = agrees.taken ∙ sym (ap (λ (z : SessionOf). z.client.taken) same);
    pushed_to = subst (λ (z : SessionOf). d.pushed_to ≤ length (seen_by z.pass)) (sym same) agrees.pushed_to;
    known = subst (λ (z : SessionOf). d.known ≤ length (seen_by z.pass)) (sym same) agrees.known;
    read = omega (arith, agrees.read, later, length_is);
    log = (λ i. agrees.log i ++ sym is i);
  }
