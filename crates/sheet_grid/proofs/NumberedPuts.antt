-- Cells written by numbers.
use Rattle.std.proofs.Common.{◌≡◌, ℕ, ◌<◌, ◌≤◌, Bool, true, false, cond, List, [], ◌∷◌, length, refl, ap, sym, ◌∙◌, subst, arith, All}
use Rattle.std.specs.Prelude.{◌&&◌, nat_eq, map}
use Rattle.std.proofs.lemmas.List.Elements.{All-head, All-tail}
use Rattle.ss_base.specs.declared.types.Size.{Size}
use Rattle.ss_base.specs.declared.types.Spot.{Spot}
use Rattle.sheet_ops.specs.declared.content.Content.{Content}
use Rattle.sheet_ops.specs.declared.content.Content.TheVariants as content
use Rattle.sheet_ops.specs.declared.content.Put.{Put}
use Rattle.sheet_ops.specs.declared.operation.Effect.TheVariants as effect
use Rattle.sheet_ops.specs.LineIds.{LineId, opening_id}
use Rattle.sheet_ops.specs.Identity.{IdContent, IdPut, IdSheet, blank}
use Rattle.sheet_ops.specs.Act.{put_at, puts_at}
use Rattle.sheet_ops.specs.Naming.{resolve_put}
use Rattle.sheet_ops.specs.Placed.{placed, size_of}
use Rattle.sheet_ops.specs.Fits.{CellFits, RangeFits, ContentFits, PutsFit, EffectFits}
use Rattle.sheet_ops.specs.Effects.{effect_on}
use Rattle.sheet_ops.proofs.Renamed.{references_weaker}
use Rattle.sheet_ops.proofs.PlacedSteps.{placed-step}
use Rattle.sheet_grid.specs.Kept.{KeptSheet, axis, content_meant, by_numbers, kept_size, IsKeptSheet, IsSheet}
use Rattle.sheet_grid.specs.Rows.{put_kept, puts_kept, AllFit}
use Rattle.sheet_grid.specs.Numbering.{HasOrderedCorners, HasOrderedRanges, put_numbered}
use Rattle.sheet_grid.proofs.Compared.{other_test, turned_test}
use Rattle.sheet_grid.proofs.Meanings.{row_rec, col_rec, ContentPlaced, content_same, length-lines_of}
use Rattle.sheet_grid.proofs.WellFormed.{kept_formed, kept_inside}
use Rattle.sheet_grid.proofs.ToNumbers.{references_both}

pub AllFit-fit : (size : Size) (ps : List Put) → PutsFit size ps → AllFit size ps
AllFit-fit size [] f = tt
AllFit-fit size (p ∷ ps) f = (f.0, f.1, f.2, AllFit-fit size ps f.4)

module _ (k : KeptSheet) (rs rr cs cr : List ℕ) (ok : IsKeptSheet k rs rr cs cr) where
  abbrev X : IdSheet
  X = by_numbers k

  abbrev put_meant : Put → IdPut
  put_meant p = record { row = opening_id p.row; col = opening_id p.col; content = content_meant (axis k.rows) (axis k.cols) p.content }

  -- what the cells mean, by identity
  abbrev meant : (ℕ → ℕ → Content) → LineId → LineId → IdContent
  meant cells a b = cond (nat_eq a.site 0 && nat_eq b.site 0) (content_meant (axis k.rows) (axis k.cols) (cells a.number b.number)) blank

  meant_put : (cells : ℕ → ℕ → Content) (p : Put) (a b : LineId) → meant (put_kept cells p) a b ≡ put_at (meant cells) (put_meant p) a b
  meant_put cells p a b =
      by_tests (nat_eq a.site 0) (nat_eq b.site 0) (nat_eq p.row a.number) (nat_eq p.col b.number)
      ∙ (λ i. cond ((turned_test a.site 0 i && nat_eq p.row a.number) && (turned_test b.site 0 i && nat_eq p.col b.number)) (content_meant (axis k.rows) (axis k.cols) p.content) (meant cells a b))
    where
      by_tests : (s t u v : Bool) → cond (s && t) (content_meant (axis k.rows) (axis k.cols) (cond (u && v) p.content (cells a.number b.number))) blank
          ≡ cond ((s && u) && (t && v)) (content_meant (axis k.rows) (axis k.cols) p.content) (cond (s && t) (content_meant (axis k.rows) (axis k.cols) (cells a.number b.number)) blank)
      by_tests true true true true = refl
      by_tests true true true false = refl
      by_tests true true false v = refl
      by_tests true false true v = refl
      by_tests true false false v = refl
      by_tests false t u v = refl

  meant_puts : (cells : ℕ → ℕ → Content) (ps : List Put) → meant (puts_kept cells ps) ≡ puts_at (meant cells) (map put_meant ps)
  meant_puts cells [] = refl
  meant_puts cells (p ∷ ps) = meant_puts (put_kept cells p) ps ∙ ap (λ (f : LineId → LineId → IdContent). puts_at f (map put_meant ps)) (λ i a b. meant_put cells p a b i)

  content_placed : (c : Content) → ContentFits (kept_size k) c → HasOrderedRanges c → ContentPlaced k (kept_formed k rs rr cs cr ok) ok.rows.as_many ok.cols.as_many c
  content_placed content.Empty f o = tt
  content_placed (content.Num z) f o = tt
  content_placed (content.Text t) f o = tt
  content_placed (content.Formula t) f o =
      references_weaker (λ s. CellFits (kept_size k) s × Unit {0}) (λ s. RangeFits (kept_size k) s × HasOrderedCorners s) (CellFits (kept_size k)) (λ s. RangeFits (kept_size k) s × HasOrderedCorners s) (λ s g. g.0) (λ s g. g) t
      (references_both (CellFits (kept_size k)) (RangeFits (kept_size k)) (λ (s : Spot). Unit {0}) HasOrderedCorners t f o)

  put_same : (p : Put) → p.row < length k.rows.slots → p.col < length k.cols.slots → ContentFits (kept_size k) p.content → HasOrderedRanges p.content → put_meant (put_numbered k.rows k.cols p) ≡ resolve_put X p
  put_same p r c f o = λ i. record {
    row = sym (row_rec k (kept_formed k rs rr cs cr ok) ok.rows.as_many ok.cols.as_many p.row r) i;
    col = sym (col_rec k (kept_formed k rs rr cs cr ok) ok.rows.as_many ok.cols.as_many p.col c) i;
    content = content_same k (kept_formed k rs rr cs cr ok) ok.rows.as_many ok.cols.as_many p.content (content_placed p.content f o) i;
  }

  puts_same : (ps : List Put) → AllFit (kept_size k) ps → All (λ p. HasOrderedRanges p.content) ps → map put_meant (map (put_numbered k.rows k.cols) ps) ≡ map (resolve_put X) ps
  puts_same [] f o = refl
  puts_same (p ∷ ps) f o = λ i. put_same p f.0 f.1 f.2 (All-head (λ (q : Put). HasOrderedRanges q.content) p ps o) i ∷ puts_same ps f.3 (All-tail (λ (q : Put). HasOrderedRanges q.content) p ps o) i

  -- the sheet by positions after a write by numbers is what the write says
  pub write_kept : (ps : List Put) → EffectFits (kept_size k) (effect.Write ps) → All (λ p. HasOrderedRanges p.content) ps →
      placed (by_numbers (record k { cells = puts_kept k.cells (map (put_numbered k.rows k.cols) ps) })) ≡ effect_on (placed (by_numbers k)) (effect.Write ps)
  write_kept ps f o =
      let size : size_of X ≡ kept_size k = λ i. record { rows = length-lines_of k.rows.slots k.rows.recs ok.rows.as_many i; cols = length-lines_of k.cols.slots k.cols.recs ok.cols.as_many i } in
      ap (λ (cells : LineId → LineId → IdContent). placed (record X { cells = cells }))
      (meant_puts k.cells (map (put_numbered k.rows k.cols) ps) ∙ ap (puts_at X.cells) (puts_same ps (AllFit-fit (kept_size k) ps f.1) o))
      ∙ placed-step X (effect.Write ps) [] (kept_formed k rs rr cs cr ok) tt (subst (λ (s : Size). EffectFits s (effect.Write ps)) (sym size) f) (kept_inside k rs rr cs cr ok)

-- ---- what holds of all that is kept
module _ (size : Size) where
  pub fits_put : (cells : ℕ → ℕ → Content) (p : Put) → ((a b : ℕ) → ContentFits size (cells a b)) → ContentFits size p.content → (a b : ℕ) → ContentFits size (put_kept cells p a b)
  fits_put cells p f g a b = by_test (nat_eq p.row a && nat_eq p.col b)
    where
      by_test : (t : Bool) → ContentFits size (cond t p.content (cells a b))
      by_test true = g
      by_test false = f a b

  fits_puts : (cells : ℕ → ℕ → Content) (ps : List Put) → ((a b : ℕ) → ContentFits size (cells a b)) → AllFit size ps → (a b : ℕ) → ContentFits size (puts_kept cells ps a b)
  fits_puts cells [] f g = f
  fits_puts cells (p ∷ ps) f g = fits_puts (put_kept cells p) ps (fits_put cells p f g.2) g.3

  no_row_puts : (cells : ℕ → ℕ → Content) (ps : List Put) → ((a b : ℕ) → size.rows ≤ a → cells a b ≡ content.Empty) → AllFit size ps → (a b : ℕ) → size.rows ≤ a → puts_kept cells ps a b ≡ content.Empty
  no_row_puts cells [] f g = f
  no_row_puts cells (p ∷ ps) f g =
      no_row_puts (put_kept cells p) ps (λ a b h.
      ap (λ (t : Bool). cond (t && nat_eq p.col b) p.content (cells a b)) (let r = g.0 in other_test p.row a (λ e. omega arith)) ∙ f a b h) g.3

  no_col_puts : (cells : ℕ → ℕ → Content) (ps : List Put) → ((a b : ℕ) → size.cols ≤ b → cells a b ≡ content.Empty) → AllFit size ps → (a b : ℕ) → size.cols ≤ b → puts_kept cells ps a b ≡ content.Empty
  no_col_puts cells [] f g = f
  no_col_puts cells (p ∷ ps) f g =
      no_col_puts (put_kept cells p) ps (λ a b h.
      ap (λ (t : Bool). cond (nat_eq p.row a && t) p.content (cells a b)) (let r = g.1 in other_test p.col b (λ e. omega arith)) ∙ (and_none (nat_eq p.row a) p.content (cells a b) ∙ f a b h)) g.3
    where
      and_none : (t : Bool) (c d : Content) → cond (t && false) c d ≡ d
      and_none true c d = refl
      and_none false c d = refl

pub kept_written : (k : KeptSheet) → IsSheet k → (nps : List Put) → AllFit (kept_size k) nps → IsSheet (record k { cells = puts_kept k.cells nps })
kept_written k (rs, rr, cs, cr, ok) nps f = (
  rs,
  rr,
  cs,
  cr,
  record {
    rows = ok.rows;
    cols = ok.cols;
    fits = fits_puts (kept_size k) k.cells nps ok.fits f;
    no_row = no_row_puts (kept_size k) k.cells nps ok.no_row f;
    no_col = no_col_puts (kept_size k) k.cells nps ok.no_col f;
  },
)
