-- What a typed formula puts into its cell.
use Rattle.std.proofs.Common.{◌≡◌, ℕ, ◌<◌, ◌≤◌, Bool, true, false, cond, List, length, refl, ap, sym, ◌∙◌, arith, Ok, Err}
use Rattle.std.specs.Prelude.{nat_le, Result, OnOk}
use Rattle.std.proofs.lemmas.Bool.Decides.{nat_tests}
use Rattle.ss_base.specs.declared.types.Spot.{Spot}
use Rattle.ss_base.specs.declared.types.Span.{Span}
use Rattle.formula_tree.specs.Tree.{Tree}
use Rattle.formula_tree.specs.Remap.{mapped, IsMapped, IsSpotMapped, IsSpanMapped}
use Rattle.formula_read.specs.declared.kinds.ParseErr.{ParseErr}
use Rattle.formula_read.specs.declared.kinds.ParseErr.TheVariants as parse_err
use Rattle.formula_tree.specs.Grammar.{Stands, IsFormulaText}
use Rattle.formula_read.proofs.Spellings.{one_formula}
use Rattle.formula_read.specs.Readings.{Reading, formula, stops, IsReading, IsLongestFormulaFront, ReadAs}
use Rattle.sheet_ops.specs.declared.content.Content.{Content}
use Rattle.sheet_ops.specs.declared.content.Content.TheVariants as content
use Rattle.sheet_ops.specs.declared.edit.EditErr.{EditErr}
use Rattle.sheet_ops.specs.declared.edit.EditErr.TheVariants as fault
use Rattle.sheet_ops.proofs.References.{always}
use Rattle.sheet_ops.proofs.Visible.{visible_below}
use Rattle.author_ops.specs.Entries.{typed, formula_entered}
use Rattle.author_ops.proofs.Intended.{pair_below}

-- a sheet that is not too large has positions that an address can spell
pub typed_mapped : (rows cols : List Bool) → length rows ≤ 16000 → length cols ≤ 16000 → (t : Tree Spot Span) → IsMapped (typed rows cols) t
typed_mapped rows cols r c t =
    always (IsSpotMapped (typed rows cols)) (IsSpanMapped (typed rows cols))
    (λ s row col e f. (let h = visible_below rows s.row row e in omega arith, let h = visible_below cols s.col col f in omega arith))
    (λ s rs cs e f.
    let h = pair_below rows s.top s.bottom rs e in
    let k = pair_below cols s.left s.right cs f in
    ((omega arith, omega arith), (omega arith, omega arith))) t

-- two lengths of the longest front are one
longest_one : (bs : List ℕ) (p q : ℕ) → IsLongestFormulaFront bs p → IsLongestFormulaFront bs q → p ≡ q
longest_one bs p q h k =
    let low = k.longest p h.within h.front in
    let high = h.longest q k.within k.front in
    omega (arith, low, high)

-- the answer of the reader to what a text reads as
abbrev pub Answers : Reading → Result (Tree Spot Span) ParseErr → Type 0
Answers (formula t n) answer = ReadAs answer t n
Answers (stops p) (Ok f) = ⊥
Answers (stops p) (Err parse_err.Deep) = ⊥
Answers (stops p) (Err (parse_err.At q)) = q ≡ p
Answers (stops p) (Err parse_err.Memory) = Unit {0}

pub answered : (bs : List ℕ) (answer : Result (Tree Spot Span) ParseErr) → ((t : Tree Spot Span) (n : ℕ) → Stands bs t n → ReadAs answer t n) → OnOk answer (IsFormulaText bs) →
    (◌≡◌ {A = Result (Tree Spot Span) ParseErr} answer (Err parse_err.Deep) → IsFormulaText bs) → ((q : ℕ) → ◌≡◌ {A = Result (Tree Spot Span) ParseErr} answer (Err (parse_err.At q)) → IsLongestFormulaFront bs q) →
    (r : Reading) → IsReading bs r → Answers r answer
answered bs answer tree ok deep place (formula t n) is = tree t n is
answered bs (Ok f) tree ok deep place (stops p) is = is.0 ok
answered bs (Err parse_err.Deep) tree ok deep place (stops p) is = is.0 (deep refl)
answered bs (Err (parse_err.At q)) tree ok deep place (stops p) is = longest_one bs q p (place q refl) is.1
answered bs (Err parse_err.Memory) tree ok deep place (stops p) is = tt

-- a text reads as one thing alone
pub reads_once : (bs : List ℕ) (r s : Reading) → IsReading bs r → IsReading bs s → r ≡ s
reads_once bs (formula t n) (formula u m) h k = let (tree, nesting) = one_formula bs t u n m h k in λ i. formula (tree i) (nesting i)
reads_once bs (formula t n) (stops p) h k = absurd (k.0 (t, n, h))
reads_once bs (stops p) (formula t n) h k = absurd (h.0 (t, n, k))
reads_once bs (stops p) (stops q) h k = λ i. stops (longest_one bs p q h.1 k.1 i)

module _ (rows cols : List Bool) where
  pub entered_tree : (r : Reading) (f g : Tree Spot Span) → Answers r (Ok f) → g ≡ mapped (typed rows cols) f → formula_entered rows cols r ≡ Ok (content.Formula g)
  entered_tree (stops p) f g h e = absurd h
  entered_tree (formula t n) f g h e = by_test (nat_le n 64) refl
    where
      by_test : (b : Bool) → nat_le n 64 ≡ b → ◌≡◌ {A = Result Content EditErr} (cond b (Ok (content.Formula (mapped (typed rows cols) t))) (Err fault.Deep)) (Ok (content.Formula g))
      by_test true k = λ i. Ok (content.Formula (sym (e ∙ ap (mapped (typed rows cols)) h.0) i))
      by_test false k = absurd (let few = h.1 in grind (arith, nat_tests))

  pub entered_deep : (r : Reading) → Answers r (Err parse_err.Deep) → formula_entered rows cols r ≡ Err fault.Deep
  entered_deep (stops p) h = absurd h
  entered_deep (formula t n) h = by_test (nat_le n 64) refl
    where
      by_test : (b : Bool) → nat_le n 64 ≡ b → ◌≡◌ {A = Result Content EditErr} (cond b (Ok (content.Formula (mapped (typed rows cols) t))) (Err fault.Deep)) (Err fault.Deep)
      by_test true k = absurd (let many : 64 < n = h in grind (arith, nat_tests))
      by_test false k = refl

  pub entered_at : (r : Reading) (q : ℕ) → Answers r (Err (parse_err.At q)) → formula_entered rows cols r ≡ Err (fault.BadFormula q)
  entered_at (stops p) q h = λ i. Err (fault.BadFormula (sym h i))
  entered_at (formula t n) q h = absurd h
