-- What a look over a sheet sees, by visible indexes.
use Rattle.std.proofs.Common.{◌≡◌, ℕ, zero, suc, ◌+◌, ◌<◌, ◌≤◌, Bool, true, false, cond, List, [], ◌∷◌, length, map, refl, ap, sym, ◌∙◌, subst, arith, Some, None, Option}
use Rattle.std.specs.Prelude.{IfSome, option_map, unwrap_or, ◌&&◌, ◌-◌, not, nat_le, slice_index, slice_index_or, filter}
use Rattle.std.proofs.lemmas.List.{length-map}
use Rattle.ss_base.specs.declared.types.Size.{Size}
use Rattle.ss_base.specs.declared.types.Span.{Span}
use Rattle.ss_base.specs.declared.types.Spot.{Spot}
use Rattle.std.specs.List.{range_with_len}
use Rattle.sheet_value.specs.declared.value.Value.{Value}
use Rattle.sheet_value.specs.declared.value.Value.TheVariants as value
use Rattle.sheet_value.specs.Environment.{cell_value, size_of_lines, range_values, range_table}
use Rattle.sheet_value.specs.Tables.{Table, value_at, filled, part_of}
use Rattle.marked_lines.specs.Marks.{visible_before, span_of}
use Rattle.marked_lines.proofs.Indexes.{span_order}
use Rattle.marked_lines.specs.Marks.{visible_of}
use Rattle.sheet_graph.specs.Areas.{indexes_from}
use Rattle.sheet_graph.proofs.Spans.{span_lines, lines_of_span}
use Rattle.full_calc.specs.Precedents.{is_seen, places_between}
use Rattle.full_calc.specs.Looks.{look_environment}

-- a line with a visible index is seen, and others aren't
pub line_seen : (marks : List Bool) (p v : ℕ) → Some v ≡ visible_of marks p → (is_seen marks p ≡ true) × (visible_before marks p ≡ v)
line_seen marks p v h = by_mark (slice_index_or marks p true) h
  where
    by_mark : (b : Bool) → Some v ≡ cond b None (Some (visible_before marks p)) → (not b ≡ true) × (visible_before marks p ≡ v)
    by_mark true e = absurd (let q : Some v ≡ None = e in cc)
    by_mark false e = (refl, (let q : Some v ≡ Some (visible_before marks p) = e in cc))

pub line_hidden : (marks : List Bool) (p : ℕ) → None ≡ visible_of marks p → is_seen marks p ≡ false
line_hidden marks p h = by_mark (slice_index_or marks p true) h
  where
    by_mark : (b : Bool) → None ≡ cond b None (Some (visible_before marks p)) → not b ≡ false
    by_mark true e = refl
    by_mark false e = absurd (let q : None ≡ Some (visible_before marks p) = e in cc)

module _ (rows cols : List Bool) (T : Table) where
  pub cell_there : (s : Spot) (r c : ℕ) → Some r ≡ visible_of rows s.row → Some c ≡ visible_of cols s.col → cell_value (look_environment rows cols T) s ≡ Some (value_at T r c)
  cell_there s r c h k =
      let a = line_seen rows s.row r h in
      let b = line_seen cols s.col c k in
      rw (a.0, b.0) (λ i. Some (value_at T (a.1 i) (b.1 i)))

  pub row_lost : (s : Spot) → None ≡ visible_of rows s.row → cell_value (look_environment rows cols T) s ≡ None
  row_lost s h = rw (line_hidden rows s.row h) refl

  pub col_lost : (s : Spot) → None ≡ visible_of cols s.col → cell_value (look_environment rows cols T) s ≡ None
  col_lost s h = by_row (is_seen rows s.row)
    where
      lost : is_seen cols s.col ≡ false
      lost = line_hidden cols s.col h

      by_row : (b : Bool) → Rattle.std.specs.Prelude.option_map (λ (at : ℕ × ℕ). value_at T (visible_before rows at.0) (visible_before cols at.1)) (cond (b && is_seen cols s.col) (Some (s.row, s.col)) None) ≡ None
      by_row true = rw lost refl
      by_row false = refl

-- ---- lines between
length-indexes : (a n : ℕ) → length (indexes_from a n) ≡ n
length-indexes a zero = refl
length-indexes a (suc n) = ap suc (length-indexes (suc a) n)

length-between : (marks : List Bool) (first last : ℕ) (s : ℕ × ℕ) → Some s ≡ span_of marks first last → length (places_between marks first last) ≡ s.1 + 1 - s.0
length-between marks first last s h =
    sym (length-map (places_between marks first last) (visible_before marks))
    ∙ (ap (λ (ns : List ℕ). length ns) (lines_of_span marks first last ∙ ap span_lines (sym h))
    ∙ length-indexes s.0 (s.1 + 1 - s.0))

none_between : (marks : List Bool) (first last : ℕ) → None ≡ span_of marks first last → length (places_between marks first last) ≡ 0
none_between marks first last h =
    sym (length-map (places_between marks first last) (visible_before marks))
    ∙ ap (λ (ns : List ℕ). length ns) (lines_of_span marks first last ∙ ap span_lines (sym h))

no_rows : (rows cols : List ℕ) → length rows ≡ 0 → size_of_lines rows cols ≡ None
no_rows [] cols h = refl
no_rows (r ∷ rows) cols h = absurd (omega arith)

no_cols : (rows cols : List ℕ) → length cols ≡ 0 → size_of_lines rows cols ≡ None
no_cols [] cols h = refl
no_cols (r ∷ rows) [] h = refl
no_cols (r ∷ rows) (c ∷ cols) h = absurd (omega arith)

span_up : (marks : List Bool) (first last : ℕ) (s : ℕ × ℕ) → Some s ≡ span_of marks first last → s.0 ≤ s.1
span_up marks first last s h = (subst (λ (o : Option (ℕ × ℕ)). IfSome o (λ s. (s.0 ≤ s.1) × (s.1 < Rattle.marked_lines.specs.Marks.visible_count marks))) (sym h) (span_order marks first last)).0

pub some_line : (marks : List Bool) (first last n : ℕ) (s : ℕ × ℕ) → Some s ≡ span_of marks first last → n ≡ s.1 + 1 - s.0 → (n ≡ length (places_between marks first last)) × (n ≡ 0 → ⊥)
some_line marks first last n s h e =
    let u = span_up marks first last s h in
    (e ∙ sym (length-between marks first last s h), λ z. omega (arith, e, z, u))

filled-kept : (v : Value) → unwrap_or (filled v) value.Empty ≡ v
filled-kept value.Empty = refl
filled-kept (value.Num n) = refl
filled-kept (value.Text t) = refl
filled-kept (value.Err e) = refl

pub kept-or : (o : Option Value) (v : Value) → o ≡ filled v → unwrap_or o value.Empty ≡ v
kept-or o v e = ap (λ (p : Option Value). unwrap_or p value.Empty) e ∙ filled-kept v

by_length : (rows cols : List ℕ) → (length rows ≡ 0 → ⊥) → (length cols ≡ 0 → ⊥) → Some (record { rows = length rows; cols = length cols }) ≡ size_of_lines rows cols
by_length [] cols some_rows some_cols = absurd (some_rows refl)
by_length (r ∷ rows) [] some_rows some_cols = absurd (some_cols refl)
by_length (r ∷ rows) (c ∷ cols) some_rows some_cols = refl

shape_of_lines : (rows cols : List ℕ) (r c : ℕ) → r ≡ length rows → c ≡ length cols → (r ≡ 0 → ⊥) → (c ≡ 0 → ⊥) → Some (record { rows = r; cols = c }) ≡ size_of_lines rows cols
shape_of_lines rows cols r c er ec some_rows some_cols =
    (λ i. Some (record { rows = er i; cols = ec i })) ∙ by_length rows cols (λ z. some_rows (er ∙ z)) (λ z. some_cols (ec ∙ z))

-- ---- ranges
map_map : {A : Type 0} (f : ℕ → ℕ) (g : ℕ → A) (xs : List ℕ) → map g (map f xs) ≡ map (λ x. g (f x)) xs
map_map f g [] = refl
map_map f g (x ∷ xs) = ap (λ ys. g (f x) ∷ ys) (map_map f g xs)

counting : (first count : ℕ) → indexes_from first count ≡ range_with_len first count
counting first zero = refl
counting first (suc count) = ap (λ ns. first ∷ ns) (counting (suc first) count ∙ ap (λ (n : ℕ). range_with_len n count) (let z : suc first ≡ first + 1 = omega arith in z))

lines_there : (marks : List Bool) (first last n : ℕ) (s : ℕ × ℕ) → Some s ≡ span_of marks first last → n ≡ s.1 + 1 - s.0 → range_with_len s.0 n ≡ map (visible_before marks) (places_between marks first last)
lines_there marks first last n s h e =
    ap (range_with_len s.0) e
    ∙ (sym (counting s.0 (s.1 + 1 - s.0))
    ∙ sym (lines_of_span marks first last ∙ ap span_lines (sym h)))

module _ (rows cols : List Bool) (T : Table) (span : Span) where
  abbrev shaped : Option Size → Option Table
  shaped o = option_map (λ size. record { size = size; rows = range_values (look_environment rows cols T) span }) o

  pub range_there : (r c : ℕ × ℕ) (size : Size) → Some r ≡ span_of rows span.top span.bottom → Some c ≡ span_of cols span.left span.right → size.rows ≡ r.1 + 1 - r.0 → size.cols ≡ c.1 + 1 - c.0 →
      Some (part_of T r.0 c.0 size) ≡ range_table (look_environment rows cols T) span
  range_there r c size h k er ec =
      (λ i. Some (record { size = size; rows = values i }))
      ∙ ap shaped (shape_of_lines (places_between rows span.top span.bottom) (places_between cols span.left span.right) size.rows size.cols down.0 along.0 down.1 along.1)
    where
      down : (size.rows ≡ length (places_between rows span.top span.bottom)) × (size.rows ≡ 0 → ⊥)
      down = some_line rows span.top span.bottom size.rows r h er

      along : (size.cols ≡ length (places_between cols span.left span.right)) × (size.cols ≡ 0 → ⊥)
      along = some_line cols span.left span.right size.cols c k ec

      in_row : (row : ℕ) → map (λ col. value_at T row col) (range_with_len c.0 size.cols) ≡ map (λ q. value_at T row (visible_before cols q)) (places_between cols span.left span.right)
      in_row row = ap (map (λ col. value_at T row col)) (lines_there cols span.left span.right size.cols c k ec) ∙ map_map (visible_before cols) (λ col. value_at T row col) (places_between cols span.left span.right)

      values : (part_of T r.0 c.0 size).rows ≡ range_values (look_environment rows cols T) span
      values =
          (λ i. map (λ row. in_row row i) (range_with_len r.0 size.rows))
          ∙ (ap (map (λ row. map (λ q. value_at T row (visible_before cols q)) (places_between cols span.left span.right))) (lines_there rows span.top span.bottom size.rows r h er)
          ∙ map_map (visible_before rows) (λ row. map (λ q. value_at T row (visible_before cols q)) (places_between cols span.left span.right)) (places_between rows span.top span.bottom))

  pub rows_lost : None ≡ span_of rows span.top span.bottom → None ≡ range_table (look_environment rows cols T) span
  rows_lost h = ap shaped (sym (no_rows (places_between rows span.top span.bottom) (places_between cols span.left span.right) (none_between rows span.top span.bottom h)))

  pub cols_lost : None ≡ span_of cols span.left span.right → None ≡ range_table (look_environment rows cols T) span
  cols_lost h = ap shaped (sym (no_cols (places_between rows span.top span.bottom) (places_between cols span.left span.right) (none_between cols span.left span.right h)))
