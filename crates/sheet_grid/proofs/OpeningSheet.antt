-- The opening sheet.
use Rattle.std.proofs.Common.{◌≡◌, ℕ, zero, suc, ◌+◌, ◌<◌, ◌≤◌, ◌++◌, Bool, true, false, cond, List, [], ◌∷◌, length, refl, ap, sym, ◌∙◌, subst, arith, Option, Some, None}
use Rattle.std.specs.Prelude.{◌&&◌, nat_eq, map, replicate, slice_index, slice_index_or, unwrap_or}
use Rattle.std.specs.BTreeMap.{BTreeMap}
use Rattle.std.proofs.Math.ListN.{length-replicate}
use Rattle.ss_base.specs.declared.types.Size.{Size}
use Rattle.sheet_ops.specs.declared.content.Content.{Content}
use Rattle.sheet_ops.specs.declared.content.Content.TheVariants as content
use Rattle.sheet_ops.specs.LineIds.{opening_id}
use Rattle.sheet_ops.specs.Lines.{AxisLine, opening_lines, opening_axis}
use Rattle.sheet_ops.specs.Identity.{blank, opened}
use Rattle.sheet_ops.specs.Placed.{placed}
use Rattle.sheet_ops.specs.Fits.{ContentFits}
use Rattle.sheet_ops.specs.Transforms.{numbers_from}
use Rattle.sheet_grid.specs.Numbers.{IsNumbered, lines_of, mark_of}
use Rattle.sheet_grid.specs.Values.{placed_in, grid_of, numbered_sheet_of, opening_sheet}
use Rattle.sheet_grid.proofs.StoredCells.{length-held}
use Rattle.sheet_grid.proofs.Grids.{nothing_from}
use Rattle.sheet_grid.proofs.SheetValues.{placed_is}
use Rattle.sheet_grid.specs.Kept.{axis, content_meant, by_numbers, kept_of, kept_size, IsKeptAxis, IsTidy, held, no_cells, cell_kept, opening_kept}

pub count-numbers_from : (first count : ℕ) → length (numbers_from first count) ≡ count
count-numbers_from first zero = refl
count-numbers_from first (suc count) = ap suc (count-numbers_from (suc first) count)

number_from : (first count p : ℕ) → p < count → slice_index (numbers_from first count) p ≡ first + p
number_from first zero p h = absurd (omega arith)
number_from first (suc count) zero h = let e : first ≡ first + 0 = omega arith in e
number_from first (suc count) (suc p) h = let e = number_from (suc first) count p (omega arith) in omega (arith, e)

pub one_number_more : (first count : ℕ) → numbers_from first (count + 1) ≡ numbers_from first count ++ (first + count) ∷ []
one_number_more first count = subst (λ (n : ℕ). numbers_from first n ≡ numbers_from first count ++ (first + count) ∷ []) (let e : suc count ≡ count + 1 = omega arith in e) (more first count)
  where
    more : (first count : ℕ) → numbers_from first (suc count) ≡ numbers_from first count ++ (first + count) ∷ []
    more first zero = let e : first ≡ first + 0 = omega arith in ap (λ (n : ℕ). n ∷ []) e
    more first (suc count) = let e : suc first + count ≡ first + suc count = omega arith in ap (λ (ns : List ℕ). first ∷ ns) (more (suc first) count ∙ ap (λ (n : ℕ). numbers_from (suc first) count ++ n ∷ []) e)

pub numbered_first : (count : ℕ) → count ≤ 16000 → IsNumbered (numbers_from 0 count) (numbers_from 0 count)
numbered_first count few = record {
  few = let l = count-numbers_from 0 count in omega (arith, l, few);
  as_many = refl;
  back = λ p h. both p (let l = count-numbers_from 0 count in omega (arith, l, h));
  forth = λ p h. both p (let l = count-numbers_from 0 count in omega (arith, l, h));
}
  where
    both : (p : ℕ) → p < count → (slice_index (numbers_from 0 count) p < length (numbers_from 0 count)) × (slice_index (numbers_from 0 count) (slice_index (numbers_from 0 count) p) ≡ p)
    both p h =
        let is : slice_index (numbers_from 0 count) p ≡ p = let e = number_from 0 count p h in omega (arith, e) in
        let l = count-numbers_from 0 count in
        (omega (arith, is, l, h), ap (slice_index (numbers_from 0 count)) is ∙ is)

pub opening_still : (count : ℕ) → count ≤ 16000 → IsKeptAxis (opening_kept count) (numbers_from 0 count) (numbers_from 0 count)
opening_still count few = record {
  slots = numbered_first count few;
  recs = numbered_first count few;
  as_many = refl;
  marked = length-replicate count false ∙ sym (count-numbers_from 0 count);
}

lines_first : (first count : ℕ) → lines_of (numbers_from first count) (numbers_from first count) ≡ opening_lines first count
lines_first first zero = refl
lines_first first (suc count) = ap (λ (ls : List AxisLine). record { slot = opening_id first; rec = opening_id first } ∷ ls) (lines_first (suc first) count)

no_mark : (first count n : ℕ) → mark_of (numbers_from first count) (replicate count false) n ≡ false
no_mark first zero n = refl
no_mark first (suc count) n = by_test (nat_eq first n) (no_mark (suc first) count n)
  where
    by_test : (t : Bool) → mark_of (numbers_from (suc first) count) (replicate count false) n ≡ false → cond t false (mark_of (numbers_from (suc first) count) (replicate count false) n) ≡ false
    by_test true e = refl
    by_test false e = e

and_false : (t : Bool) → t && false ≡ false
and_false true = refl
and_false false = refl

axis_opened : (count : ℕ) → axis (opening_kept count) ≡ opening_axis count
axis_opened count = λ i. record {
  lines = lines_first 0 count i;
  dead = λ id. (ap (λ (b : Bool). nat_eq id.site 0 && b) (no_mark 0 count id.number) ∙ and_false (nat_eq id.site 0)) i;
}

nothing_held : (count a : ℕ) → slice_index_or (replicate count no_cells) a no_cells ≡ no_cells
nothing_held zero a = refl
nothing_held (suc count) zero = refl
nothing_held (suc count) (suc a) = nothing_held count a

always_blank : (t : Bool) → cond t blank blank ≡ blank
always_blank true = refl
always_blank false = refl

module _ (size : Size) (maps : List (BTreeMap ℕ Content)) (e : map held maps ≡ replicate size.rows no_cells) where
  empty_kept : (a b : ℕ) → cell_kept maps a b ≡ content.Empty
  empty_kept a b = λ i. unwrap_or ((ap (λ (rs : List (ℕ → Option Content)). slice_index_or rs a no_cells) e ∙ nothing_held size.rows a) i b) content.Empty

  pub opened_is : placed (by_numbers (kept_of (opening_kept size.rows) (opening_kept size.cols) maps)) ≡ placed (opened size)
  opened_is =
      ap placed ((λ i. record {
        rows = axis_opened size.rows i;
        cols = axis_opened size.cols i;
        cells = λ a b. cond (nat_eq a.site 0 && nat_eq b.site 0) (content_meant (axis_opened size.rows i) (axis_opened size.cols i) (empty_kept a.number b.number i)) blank;
      })
      ∙ (λ i. record {
        rows = opening_axis size.rows;
        cols = opening_axis size.cols;
        cells = λ a b. always_blank (nat_eq a.site 0 && nat_eq b.site 0) i;
      }))

  pub opened_tidy : size.rows ≤ 1000 → size.cols ≤ 64 → IsTidy (opening_kept size.rows) (opening_kept size.cols) maps
  opened_tidy rows cols = record {
    kept = (
      numbers_from 0 size.rows,
      numbers_from 0 size.rows,
      numbers_from 0 size.cols,
      numbers_from 0 size.cols,
      record {
        rows = opening_still size.rows (omega (arith, rows));
        cols = opening_still size.cols (omega (arith, cols));
        fits = λ a b. subst (λ (c : Content). ContentFits (kept_size (kept_of (opening_kept size.rows) (opening_kept size.cols) maps)) c) (sym (empty_kept a b)) tt;
        no_row = λ a b h. empty_kept a b;
        no_col = λ a b h. empty_kept a b;
      },
    );
    as_many = sym (length-held maps) ∙ (ap (λ (rs : List (ℕ → Option Content)). length rs) e ∙ (length-replicate size.rows no_cells ∙ sym (count-numbers_from 0 size.rows)));
    filled = λ a b h. none_filled (sym (λ i. (ap (λ (rs : List (ℕ → Option Content)). slice_index_or rs a no_cells) e ∙ nothing_held size.rows a) i b) ∙ h);
  }
    where
      none_filled : ◌≡◌ {A = Option Content} None (Some content.Empty) → ⊥
      none_filled e = cc

  pub opened_value : numbered_sheet_of (opening_kept size.rows) (opening_kept size.cols) maps ≡ opening_sheet size
  opened_value = λ i. record {
    rows = opening_kept size.rows;
    cols = opening_kept size.cols;
    cells = (ap (λ (n : ℕ). grid_of n (map held maps)) (count-numbers_from 0 size.cols) ∙ (ap (grid_of size.cols) e ∙ no_contents size.cols size.rows)) i;
  }
    where
      no_contents : (cols count : ℕ) → grid_of cols (replicate count no_cells) ≡ replicate count (replicate cols content.Empty)
      no_contents cols zero = refl
      no_contents cols (suc count) = λ i. nothing_from 0 cols i ∷ no_contents cols count i

  pub opened_placed : size.rows ≤ 1000 → size.cols ≤ 64 → placed_in (numbered_sheet_of (opening_kept size.rows) (opening_kept size.cols) maps) ≡ placed (opened size)
  opened_placed rows cols =
      sym (placed_is (opening_kept size.rows) (opening_kept size.cols) maps (opened_tidy rows cols) (numbered_sheet_of (opening_kept size.rows) (opening_kept size.cols) maps) refl) ∙ opened_is
