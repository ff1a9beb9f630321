-- The summary of a generated run.
use Rattle.std.specs.Prelude.{ℕ, zero, suc, ◌≡◌, ◌⊎◌, List, [], ◌∷◌, ◌++◌, length, sum_by, codes, decimal}
use Rattle.std.specs.Fmt.{signed_decimal}
use Rattle.sheet_ops.specs.History.{sheet_of}
use Rattle.sheet_ops.specs.Placed.{PlacedSheet, placed}
use Rattle.marked_lines.specs.Marks.{visible_places}
use Rattle.sheet_grid.specs.Cells.{visible_size, filled_places}
use Rattle.script_run.specs.World.{World, site_view}
use Rattle.script_run.specs.Transcript.{published_values}
use Rattle.generated_run.specs.declared.figures.Figures.{Figures}
use Rattle.generated_run.specs.Runs.{generated_world, generated_refusals}
use Rattle.generated_run.specs.Tallies.{all_values, value_tally}

-- how many visible cells of a sheet aren't empty
abbrev pub filled_cells : PlacedSheet → ℕ
filled_cells P = sum_by (λ row. length (filled_places P row)) (visible_places P.rows)

-- ---- the replicas that equal the server's sheet by positions, marks and contents

abbrev pub server_sheet : World → PlacedSheet
server_sheet w = placed (sheet_of w.size w.history)

abbrev pub EqualsServer : World → ℕ → Type 0
EqualsServer w p = placed (site_view w p) ≡ server_sheet w

-- of the first places so many have a property
abbrev pub HowMany : (ℕ → Type 0) → ℕ → ℕ → Type 0
HowMany P zero count = count ≡ 0
HowMany P (suc p) count = (P p × (others : ℕ) × (count ≡ suc others) × HowMany P p others) ⊎ ((P p → ⊥) × HowMany P p count)

-- ---- the figures of a state, before which so many edits were refused

pub record AreFigures (w : World) (refused : ℕ) (f : Figures) : Type 0 where
  pub history : f.history ≡ length w.history
  pub refusals : f.refused ≡ refused
  pub size : f.size ≡ visible_size (server_sheet w)
  pub cells : f.cells ≡ filled_cells (server_sheet w)
  pub published : f.published ≡ w.published
  pub values : f.tally ≡ value_tally (all_values (published_values w))
  pub equal : HowMany (EqualsServer w) (length w.seats) f.equal

-- ---- the lines

abbrev pub load_line : ℕ → List ℕ
load_line number = codes "load " ++ (decimal number ++ 10 ∷ [])

abbrev pub history_line : Figures → List ℕ
history_line f = codes "history " ++ (decimal f.history ++ (codes " refused " ++ (decimal f.refused ++ 10 ∷ [])))

abbrev pub sheet_line : Figures → List ℕ
sheet_line f = codes "sheet rows " ++ (decimal f.size.rows ++ (codes " columns " ++ (decimal f.size.cols ++ (codes " cells " ++ (decimal f.cells ++ 10 ∷ [])))))

abbrev pub values_line : Figures → List ℕ
values_line f =
    let t = f.tally in
    codes "values at " ++ (decimal f.published ++ (codes " numbers " ++ (decimal t.numbers ++ (codes " texts " ++ (decimal t.texts
    ++ (codes " errors " ++ (decimal t.errors ++ (codes " circular " ++ (decimal t.circular ++ (codes " total " ++ (signed_decimal t.total ++ 10 ∷ [])))))))))))

abbrev pub equal_line : Figures → List ℕ
equal_line f = codes "equal " ++ (decimal f.equal ++ 10 ∷ [])

abbrev pub summary_text : ℕ → Figures → List ℕ
summary_text number f = load_line number ++ (history_line f ++ (sheet_line f ++ (values_line f ++ equal_line f)))

-- a text is the summary of the run of a number
abbrev pub IsSummary : ℕ → List ℕ → Type 0
IsSummary number text = (f : Figures) × AreFigures (generated_world number) (generated_refusals number) f × (text ≡ summary_text number f)
