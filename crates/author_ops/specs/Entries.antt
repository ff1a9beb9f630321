-- What an entry puts into its cell.
use Rattle.std.specs.Prelude.{ℕ, nat_eq, nat_le, Bool, if◌then◌else◌, List, [], ◌∷◌, slice_get, Option, Some, None, Result, Ok, Err}
use Rattle.std.specs.Option.{option_and_then, option_map}
use Rattle.formula_tree.specs.Remap.{Images, mapped}
use Rattle.formula_read.specs.Readings.{Reading, formula, stops}
use Rattle.formula_read.proofs.Readings.{reading}
use Rattle.sheet_ops.specs.declared.content.Content.{Content}
use Rattle.sheet_ops.specs.declared.content.Content.TheVariants as content
use Rattle.sheet_ops.specs.declared.edit.EditErr.{EditErr}
use Rattle.sheet_ops.specs.declared.edit.EditErr.TheVariants as fault
use Rattle.marked_lines.specs.Marks.{visible_places}
use Rattle.sheet_ops.specs.Numerals.{is_numeral}
use Rattle.author_ops.specs.Numbers.{entered_number, number_front}

-- the positions of two visible lines
abbrev pub pair_seen : List Bool → ℕ → ℕ → Option (ℕ × ℕ)
pair_seen marks first last =
    option_and_then (λ p. option_map (λ q. (p, q)) (slice_get (visible_places marks) last)) (slice_get (visible_places marks) first)

-- a typed reference means the lines that are seen there
abbrev pub typed : List Bool → List Bool → Images
typed rows cols = record {
  rec_row = λ row. slice_get (visible_places rows) row;
  rec_col = λ col. slice_get (visible_places cols) col;
  span_rows = λ top bottom. pair_seen rows top bottom;
  span_cols = λ left right. pair_seen cols left right;
}

-- of a formula; one with a nesting above 64 is refused
abbrev pub formula_entered : List Bool → List Bool → Reading → Result Content EditErr
formula_entered rows cols (formula t n) =
    if nat_le n 64 then Ok (content.Formula (mapped (typed rows cols) t)) else Err fault.Deep
formula_entered rows cols (stops p) = Err (fault.BadFormula p)

-- of a number; one out of range is refused
abbrev pub number_entered : List ℕ → Result Content EditErr
number_entered entry = elim (entered_number entry) as (λ _. Result Content EditErr) [
  | Some z ↦ Ok (content.Num z)
  | None ↦ Err (fault.BadFormula (number_front entry))
]

-- Behind `=` stands a formula and behind `'` a text; else an entry that is a `-` or none and digits is a number, and any
-- other one the text that it is. By the marks of the rows and of the columns.
abbrev pub entered : List Bool → List Bool → List ℕ → Result Content EditErr
entered rows cols [] = Ok (content.Text [])
entered rows cols (b ∷ bs) =
    if nat_eq b 61 then formula_entered rows cols (reading (b ∷ bs))
    else if nat_eq b 39 then Ok (content.Text bs)
    else if is_numeral (b ∷ bs) then number_entered (b ∷ bs)
    else Ok (content.Text (b ∷ bs))
