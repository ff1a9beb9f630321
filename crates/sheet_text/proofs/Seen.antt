-- What is seen of a sheet, by positions.
use Rattle.std.proofs.Common.{◌≡◌, ℕ, suc, ◌+◌, ◌<◌, Bool, true, false, cond, List, [], ◌∷◌, length, refl, ap, sym, ◌∙◌, arith}
use Rattle.std.specs.Prelude.{map, filter, not, slice_index_or}
use Rattle.sheet_ops.specs.declared.content.Content.{Content}
use Rattle.sheet_ops.specs.declared.content.Content.TheVariants as content
use Rattle.sheet_ops.specs.LineIds.{LineId}
use Rattle.sheet_ops.specs.Lines.{AxisLine, Axis, no_line, marks, live_lines}
use Rattle.marked_lines.specs.Marks.{places_from, visible_places}
use Rattle.sheet_ops.specs.Identity.{IdSheet}
use Rattle.sheet_ops.specs.Naming.{locate_content}
use Rattle.sheet_ops.specs.Placed.{placed, cell_at}
use Rattle.sheet_text.specs.Shown.{shown, shown_text, shown_placed}
use Rattle.sheet_ops.proofs.Written.{index_map}

-- what a function gives over the lines that pass, and what it gives over their positions
module _ {A : Type 0} (dead : LineId → Bool) (g : AxisLine → A) (h : ℕ → A) where
  over_places : (first : ℕ) (ls : List AxisLine) → ((p : ℕ) → p < length ls → h (first + p) ≡ g (slice_index_or ls p no_line)) →
      map g (filter (λ l. not (dead l.rec)) ls) ≡ map h (places_from first (map (λ l. dead l.rec) ls))
  over_places first [] e = refl
  over_places first (l ∷ ls) e = by_mark (dead l.rec) (over_places (suc first) ls next)
    where
      next : (p : ℕ) → p < length ls → h (suc first + p) ≡ g (slice_index_or ls p no_line)
      next p k = ap h (let z : suc first + p ≡ first + suc p = omega arith in z) ∙ e (suc p) (omega arith)

      here : h first ≡ g l
      here = ap h (let z : first ≡ first + 0 = omega arith in z) ∙ e 0 (omega arith)

      by_mark : (b : Bool) → map g (filter (λ l. not (dead l.rec)) ls) ≡ map h (places_from (suc first) (map (λ l. dead l.rec) ls)) →
          map g (cond (not b) (l ∷ filter (λ l. not (dead l.rec)) ls) (filter (λ l. not (dead l.rec)) ls)) ≡ map h (places_from first (b ∷ map (λ l. dead l.rec) ls))
      by_mark true rest = rest
      by_mark false rest = λ i. sym here i ∷ rest i

  pub live_lines-places : (axis : Axis) → axis.dead ≡ dead → ((p : ℕ) → p < length axis.lines → h p ≡ g (slice_index_or axis.lines p no_line)) →
      map g (live_lines axis) ≡ map h (visible_places (marks axis))
  live_lines-places axis d e =
      (λ i. map g (filter (λ l. not (d i l.rec)) axis.lines))
      ∙ (over_places 0 axis.lines (λ p k. ap h (let z : 0 + p ≡ p = omega arith in z) ∙ e p k) ∙ (λ i. map h (places_from 0 (map (λ l. sym d i l.rec) axis.lines))))

length_map : {A B : Type 0} (f : A → B) (xs : List A) → length (map f xs) ≡ length xs
length_map f [] = refl
length_map f (x ∷ xs) = ap suc (length_map f xs)

pub live_count : (axis : Axis) → length (live_lines axis) ≡ length (visible_places (marks axis))
live_count axis =
    let one : AxisLine → Bool = λ _. true in
    let each : ℕ → Bool = λ _. true in
    sym (length_map one (live_lines axis)) ∙ (ap length (live_lines-places axis.dead one each axis refl (λ p k. refl)) ∙ length_map each (visible_places (marks axis)))

pub cell_at-placed : (X : IdSheet) (p q : ℕ) → p < length X.rows.lines → q < length X.cols.lines →
    cell_at (placed X) p q ≡ locate_content X (X.cells (slice_index_or X.rows.lines p no_line).rec (slice_index_or X.cols.lines q no_line).rec)
cell_at-placed X p q h k =
    ap (λ (row : List Content). slice_index_or row q content.Empty) (index_map (λ r. map (λ c. locate_content X (X.cells r.rec c.rec)) X.cols.lines) [] X.rows.lines p h)
    ∙ index_map (λ c. locate_content X (X.cells (slice_index_or X.rows.lines p no_line).rec c.rec)) content.Empty X.cols.lines q k

-- What is shown of a sheet is what is shown of its positions.
pub shown-placed : (X : IdSheet) → shown X ≡ shown_placed (placed X)
shown-placed X = λ i. record { rows = live_count X.rows i; cols = live_count X.cols i; cells = cells_seen i }
  where
    row_seen : (p : ℕ) → p < length X.rows.lines →
        map (λ q. shown_text (placed X) (cell_at (placed X) p q)) (visible_places (marks X.cols)) ≡ map (λ c. shown_text (placed X) (locate_content X (X.cells (slice_index_or X.rows.lines p no_line).rec c.rec))) (live_lines X.cols)
    row_seen p h =
        sym (live_lines-places X.cols.dead (λ c. shown_text (placed X) (locate_content X (X.cells (slice_index_or X.rows.lines p no_line).rec c.rec))) (λ q. shown_text (placed X) (cell_at (placed X) p q)) X.cols refl
        (λ q k. ap (shown_text (placed X)) (cell_at-placed X p q h k)))

    cells_seen : map (λ r. map (λ c. shown_text (placed X) (locate_content X (X.cells r.rec c.rec))) (live_lines X.cols)) (live_lines X.rows)
        ≡ map (λ p. map (λ q. shown_text (placed X) (cell_at (placed X) p q)) (visible_places (marks X.cols))) (visible_places (marks X.rows))
    cells_seen = live_lines-places X.rows.dead (λ r. map (λ c. shown_text (placed X) (locate_content X (X.cells r.rec c.rec))) (live_lines X.cols)) (λ p. map (λ q. shown_text (placed X) (cell_at (placed X) p q)) (visible_places (marks X.cols))) X.rows refl row_seen
