-- Every text reads as something.
use Rattle.std.proofs.Common.{◌≡◌, ℕ, zero, suc, ◌+◌, ◌≤◌, List, [], length, get_or, Option, Some, None, refl, arith}
use Rattle.formula_read.specs.declared.partial.Partial.{Partial}
use Rattle.formula_read.specs.declared.partial.Partial.TheVariants.{Fresh}
use Rattle.formula_read.specs.Places.{Place, head, has}
use Rattle.formula_read.specs.Reading.{place_at_end, read_byte}
use Rattle.formula_read.specs.Readings.{Reading, formula, stops, IsReading, IsLongestFormulaFront}
use Rattle.formula_read.proofs.Spellings.{one_formula}
use Rattle.formula_read.proofs.Stops.{Reaches, reaches_first, reaches_more, stopped_outside, stopped_place, end_formula, end_outside, end_place}

-- where the reader stands at the end
ended_so : (text : List ℕ) (at : ℕ) (p : Place) (s : Partial) → Reaches text at p s → length text ≤ at → (o : Option Place) → place_at_end p s ≡ o → (r : Reading) × IsReading text r
ended_so text at p s h past (Some (has [])) e = let (t, n, stands) = end_formula text at p s h past e in (formula t n, stands)
ended_so text at p s h past o e = (stops (length text), (end_outside text at p s h past (λ f. cc), end_place text at p s h past))

-- byte by byte, so many being left
read_on : (text : List ℕ) (left at : ℕ) (p : Place) (s : Partial) → Reaches text at p s → at + left ≡ length text → (r : Reading) × IsReading text r
read_on text zero at p s h e = ended_so text at p s h (omega arith) (place_at_end p s) refl
read_on text (suc left) at p s h e = by_byte (read_byte p s (get_or text at 0)) refl (λ q t k. read_on text left (at + 1) q t k (omega arith))
  where
    by_byte : (o : Option (Place × Partial)) → read_byte p s (get_or text at 0) ≡ o → ((q : Place) (t : Partial) → Reaches text (at + 1) q t → (r : Reading) × IsReading text r) → (r : Reading) × IsReading text r
    by_byte None f rest = (stops at, (stopped_outside text at p s h (omega arith) f, stopped_place text at p s h (omega arith) f))
    by_byte (Some (q, t)) f rest = rest q t (reaches_more text at p s h (omega arith) q t f)

pub every_text : (bs : List ℕ) → (r : Reading) × IsReading bs r
every_text bs = read_on bs (length bs) 0 head Fresh (reaches_first bs) (omega arith)

-- What a text reads as.
pub reading : List ℕ → Reading
reading bs = (every_text bs).0

pub reading-is : (bs : List ℕ) → IsReading bs (reading bs)
unfolding reading every_text
reading-is bs = (every_text bs).1

-- ---- and as one thing alone

-- two lengths of the longest front are one
pub longest_one : (bs : List ℕ) (p q : ℕ) → IsLongestFormulaFront bs p → IsLongestFormulaFront bs q → p ≡ q
longest_one bs p q h k =
    let low = k.longest p h.within h.front in
    let high = h.longest q k.within k.front in
    omega (arith, low, high)

pub reads_once : (bs : List ℕ) (r s : Reading) → IsReading bs r → IsReading bs s → r ≡ s
reads_once bs (formula t n) (formula u m) h k = let (tree, nesting) = one_formula bs t u n m h k in λ i. formula (tree i) (nesting i)
reads_once bs (formula t n) (stops p) h k = absurd (k.0 (t, n, h))
reads_once bs (stops p) (formula t n) h k = absurd (h.0 (t, n, k))
reads_once bs (stops p) (stops q) h k = λ i. stops (longest_one bs p q h.1 k.1 i)
