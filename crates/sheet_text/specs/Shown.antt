-- What a person sees of a sheet.
use Rattle.std.specs.Prelude.{ℕ, nat_eq, not, ◌||◌, Bool, false, if◌then◌else◌, List, [], ◌∷◌, length, map}
use Rattle.std.specs.Fmt.{signed_decimal}
use Rattle.marked_lines.specs.Marks.{visible_places, visible_of, span_of}
use Rattle.formula_tree.specs.Remap.{Images, mapped}
use Rattle.formula_tree.specs.Printed.{formula_text}
use Rattle.sheet_ops.specs.declared.content.Content.{Content}
use Rattle.sheet_ops.specs.declared.content.Content.TheVariants as content
use Rattle.sheet_ops.specs.Lines.{live_lines}
use Rattle.sheet_ops.specs.Identity.{IdSheet}
use Rattle.sheet_ops.specs.Naming.{locate_content}
use Rattle.sheet_ops.specs.Numerals.{is_numeral}
use Rattle.sheet_ops.specs.Placed.{PlacedSheet, placed, cell_at}

-- how many rows and columns are visible, and the text of each visible cell, row by row; none is empty but that of an
-- empty cell
pub record ShownSheet : Type 0 where
  pub rows : ℕ
  pub cols : ℕ
  pub cells : List (List (List ℕ))

-- a text that, typed as it is, would be this text
abbrev pub is_plain : List ℕ → Bool
is_plain [] = false
is_plain (b ∷ bs) = not (nat_eq b 61 || (nat_eq b 39 || is_numeral (b ∷ bs)))

-- the visible indexes of what a formula refers to: a reference to a cell is lost where its row or its column is
-- hidden, and one to a range, which is seen from its first to its last visible line, where all its rows or columns are
abbrev pub seen : List Bool → List Bool → Images
seen rows cols = record {
  rec_row = λ row. visible_of rows row;
  rec_col = λ col. visible_of cols col;
  span_rows = λ top bottom. span_of rows top bottom;
  span_cols = λ left right. span_of cols left right;
}

-- A content as it is shown: a number in decimal, a text with `'` before it where it would be something else without, and
-- a formula with its references as they are seen.
abbrev pub shown_text : PlacedSheet → Content → List ℕ
shown_text P content.Empty = []
shown_text P (content.Num z) = signed_decimal z
shown_text P (content.Text t) = if is_plain t then t else 39 ∷ t
shown_text P (content.Formula t) = formula_text (mapped (seen P.rows P.cols) t)

-- each visible cell by its row's record and its column's
abbrev pub shown : IdSheet → ShownSheet
shown X = record {
  rows = length (live_lines X.rows);
  cols = length (live_lines X.cols);
  cells = map (λ r. map (λ c. shown_text (placed X) (locate_content X (X.cells r.rec c.rec))) (live_lines X.cols)) (live_lines X.rows);
}

-- the same by positions
abbrev pub shown_placed : PlacedSheet → ShownSheet
shown_placed P = record {
  rows = length (visible_places P.rows);
  cols = length (visible_places P.cols);
  cells = map (λ r. map (λ c. shown_text P (cell_at P r c)) (visible_places P.cols)) (visible_places P.rows);
}
