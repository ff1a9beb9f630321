-- The lines from one to another.
use Rattle.std.proofs.Common.{◌≡◌, ℕ, suc, ◌-◌, min, List, [], ◌∷◌, length, refl, sym, ap, ◌∙◌}
use Rattle.std.specs.Prelude.{map, option_map, Option, Some}
use Rattle.std.specs.List.{range_with_len}
use Rattle.std.proofs.lemmas.List.FromFn.{length-range_with_len}
use Rattle.ss_base.specs.declared.types.Size.{Size}
use Rattle.ss_base.specs.declared.types.Span.{Span}
use Rattle.sheet_value.specs.Environment.{size_of_lines, line_numbers_between, range_values, range_table, table_environment}
use Rattle.sheet_value.specs.Tables.{Table, value_at, part_of}

length-lines : (first last count : ℕ) → length (line_numbers_between first last count) ≡ min (suc last) count - first
length-lines first last count = length-range_with_len first (min (suc last) count - first)

by_length : (rows cols : List ℕ) → (length rows ≡ 0 → ⊥) → (length cols ≡ 0 → ⊥) → Some (record { rows = length rows; cols = length cols }) ≡ size_of_lines rows cols
by_length [] cols some_rows some_cols = absurd (some_rows refl)
by_length (r ∷ rows) [] some_rows some_cols = absurd (some_cols refl)
by_length (r ∷ rows) (c ∷ cols) some_rows some_cols = refl

shape_of_lines : (rows cols : List ℕ) (r c : ℕ) → r ≡ length rows → c ≡ length cols → (r ≡ 0 → ⊥) → (c ≡ 0 → ⊥) → Some (record { rows = r; cols = c }) ≡ size_of_lines rows cols
shape_of_lines rows cols r c er ec some_rows some_cols =
    (λ i. Some (record { rows = er i; cols = ec i })) ∙ by_length rows cols (λ z. some_rows (er ∙ z)) (λ z. some_cols (ec ∙ z))

-- the part of a table that a range shows
pub range_is : (T : Table) (s : Span) (r c : ℕ) → r ≡ min (suc s.bottom) T.size.rows - s.top → c ≡ min (suc s.right) T.size.cols - s.left → (r ≡ 0 → ⊥) → (c ≡ 0 → ⊥) →
    Some (part_of T s.top s.left (record { rows = r; cols = c })) ≡ range_table (table_environment T) s
range_is T s r c er ec some_rows some_cols =
    (λ i. Some (record { size = record { rows = r; cols = c }; rows = map (λ row. map (λ col. value_at T row col) (range_with_len s.left (ec i))) (range_with_len s.top (er i)) }))
    ∙ ap (λ (o : Option Size). option_map (λ size. record { size = size; rows = range_values (table_environment T) s }) o)
    (shape_of_lines (line_numbers_between s.top s.bottom T.size.rows) (line_numbers_between s.left s.right T.size.cols) r c
    (er ∙ sym (length-lines s.top s.bottom T.size.rows)) (ec ∙ sym (length-lines s.left s.right T.size.cols)) some_rows some_cols)
