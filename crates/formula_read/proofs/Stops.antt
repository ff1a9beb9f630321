-- where the reader of a text's bytes stops
use Rattle.std.proofs.Common.{◌≡◌, ◌≢◌, ℕ, ◌+◌, ◌<◌, ◌≤◌, List, [], ◌∷◌, ◌++◌, length, take, drop, get_or, Option, Some, None, refl, ap, sym, ◌∙◌, arith, inl, inr}
use Rattle.std.specs.Prelude.{◌⊎◌}
use Rattle.std.proofs.lemmas.Bool.{cases_lt}
use Rattle.std.proofs.lemmas.List.{take_more, take_all, take-take, take-append-drop}
use Rattle.formula_read.specs.declared.partial.Partial.{Partial}
use Rattle.formula_read.specs.declared.partial.Partial.TheVariants.{Fresh}
use Rattle.formula_read.specs.Places.{Place, head, has}
use Rattle.formula_read.specs.Readings.{IsLongestFormulaFront}
use Rattle.formula_read.specs.Reading.{place_at_end, place_ended, read_byte, read_text}
use Rattle.formula_tree.specs.Grammar.{IsFront, IsFormulaText}
use Rattle.formula_read.proofs.Bytes.{read_text-append, formula_ended, front_alive}
use Rattle.formula_read.proofs.Fronts.{alive_front, ended_formula}

-- The reader stands there after so many bytes.
abbrev pub Reaches : List ℕ → ℕ → Place → Partial → Type 0
Reaches text at p s = read_text (Some (head, Fresh)) (take at text) ≡ Some (p, s)

pub reaches_first : (text : List ℕ) → Reaches text 0 head Fresh
reaches_first text = refl

read_nothing : (o : Option (Place × Partial)) → read_text o [] ≡ o
read_nothing None = refl
read_nothing (Some r) = refl

reached_front : (text : List ℕ) (at : ℕ) (p : Place) (s : Partial) → Reaches text at p s → IsFront (take at text)
reached_front text at p s h = alive_front (take at text) (λ none. absurd (let clash : None ≡ Some (p, s) = sym none ∙ h in cc))

module _ (text : List ℕ) (at : ℕ) (p : Place) (s : Partial) (h : Reaches text at p s) (within : at < length text) where
  read_more : (o : Option (Place × Partial)) → read_byte p s (get_or text at 0) ≡ o → read_text (Some (head, Fresh)) (take (at + 1) text) ≡ o
  read_more o e =
      ap (read_text (Some (head, Fresh))) (take_more text at 0 within)
      ∙ (read_text-append (Some (head, Fresh)) (take at text) (get_or text at 0 ∷ [])
      ∙ (ap (λ (r : Option (Place × Partial)). read_text r (get_or text at 0 ∷ [])) h
      ∙ (read_nothing (read_byte p s (get_or text at 0)) ∙ e)))

  pub reaches_more : (q : Place) (t : Partial) → read_byte p s (get_or text at 0) ≡ Some (q, t) → Reaches text (at + 1) q t
  reaches_more q t e = read_more (Some (q, t)) e

  -- where no formula goes on with the byte
  module _ (e : read_byte p s (get_or text at 0) ≡ None) where
    no_further : (xs rest : List ℕ) → xs ≡ take (at + 1) text ++ rest → read_text (Some (head, Fresh)) xs ≡ None
    no_further xs rest f =
        ap (read_text (Some (head, Fresh))) f
        ∙ (read_text-append (Some (head, Fresh)) (take (at + 1) text) rest
        ∙ ap (λ (r : Option (Place × Partial)). read_text r rest) (read_more None e))

    longer_front : (q : ℕ) → at < q → take q text ≡ take (at + 1) text ++ drop (at + 1) (take q text)
    longer_front q more = sym (ap (λ (xs : List ℕ). xs ++ drop (at + 1) (take q text)) (sym (take-take (at + 1) q text (omega arith))) ∙ take-append-drop (at + 1) (take q text))

    pub stopped_outside : IsFormulaText text → ⊥
    stopped_outside h =
        let stops = no_further text (drop (at + 1) text) (sym (take-append-drop (at + 1) text)) in
        absurd (let clash : None ≡ Some (has []) = sym (ap place_ended stops) ∙ formula_ended text h in cc)

    pub stopped_place : IsLongestFormulaFront text at
    stopped_place = record {
      within = omega arith;
      front = reached_front text at p s h;
      longest = (λ q few front. by_length q front (cases_lt at q));
    }
      where
        by_length : (q : ℕ) → IsFront (take q text) → ((at < q) ⊎ (q ≤ at)) → q ≤ at
        by_length q front (inr small) = small
        by_length q front (inl more) = absurd (front_alive (take q text) front (no_further (take q text) (drop (at + 1) (take q text)) (longer_front q more)))

-- at the end
module _ (text : List ℕ) (at : ℕ) (p : Place) (s : Partial) (h : Reaches text at p s) (past : length text ≤ at) where
  end_reached : read_text (Some (head, Fresh)) text ≡ Some (p, s)
  end_reached = ap (read_text (Some (head, Fresh))) (sym (take_all at text past)) ∙ h

  pub end_formula : place_at_end p s ≡ Some (has []) → IsFormulaText text
  end_formula e = ended_formula text (ap place_ended end_reached ∙ e)

  pub end_outside : (place_at_end p s ≢ Some (has [])) → IsFormulaText text → ⊥
  end_outside other formula = other (sym (ap place_ended end_reached) ∙ formula_ended text formula)

  pub end_place : IsLongestFormulaFront text (length text)
  end_place = record {
    within = omega arith;
    front = alive_front (take (length text) text) (λ none. absurd (let clash : None ≡ Some (p, s) = sym none ∙ (ap (read_text (Some (head, Fresh))) (take_all (length text) text (omega arith)) ∙ end_reached) in cc));
    longest = λ q few front. few;
  }
