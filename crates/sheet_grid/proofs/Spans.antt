-- Visible indexes of positions and spans, also past the end.
use Rattle.std.proofs.Common.{◌≡◌, ℕ, zero, suc, ◌-◌, ◌<◌, ◌≤◌, Bool, true, false, cond, List, [], ◌∷◌, length, refl, ap, sym, ◌∙◌, subst, arith, inl, inr, Some, None}
use Rattle.std.specs.Prelude.{◌⊎◌, nat_lt, slice_index_or, IfSome}
use Rattle.std.proofs.lemmas.Bool.{cases_lt}
use Rattle.std.proofs.lemmas.List.{take_all, get_or_default}
use Rattle.marked_lines.specs.Marks.{visible_count, visible_before, visible_of, span_of}
use Rattle.marked_lines.proofs.Positions.{visible_count-le, visible_before-lt, visible_before-le, visible_before-all}
use Rattle.sheet_grid.proofs.Compared.{below_test, above_test}

past : (marks : List Bool) (p : ℕ) → length marks ≤ p → slice_index_or marks p true ≡ true
past [] p h = refl
past (m ∷ marks) zero h = absurd (omega arith)
past (m ∷ marks) (suc p) h = past marks p (omega arith)

pub visible_of-past : (marks : List Bool) (p : ℕ) → length marks ≤ p → visible_of marks p ≡ None
visible_of-past marks p h = ap (λ (t : Bool). cond t None (Some (visible_before marks p))) (past marks p h)

pub visible_few : (marks : List Bool) (p : ℕ) → length marks ≤ 16000 → IfSome (visible_of marks p) (λ v. v < 16000)
visible_few marks p few = by_test (slice_index_or marks p true) refl
  where
    inside : slice_index_or marks p true ≡ false → ((p < length marks) ⊎ (length marks ≤ p)) → p < length marks
    inside e (inl h) = h
    inside e (inr h) = let clash : true ≡ false = sym (past marks p h) ∙ e in absurd (cc)

    by_test : (t : Bool) → slice_index_or marks p true ≡ t → IfSome (cond t None (Some (visible_before marks p))) (λ v. v < 16000)
    by_test true e = tt
    by_test false e =
        let h = inside e (cases_lt p (length marks)) in
        let low = visible_before-lt marks p h (get_or_default marks p false true h ∙ e) in
        let all = visible_count-le marks in
        omega (arith, low, all, few)

before_past : (marks : List Bool) (p : ℕ) → length marks ≤ p → visible_before marks p ≡ visible_count marks
before_past marks p h = ap visible_count (take_all p marks h)

abbrev SpanIsFew : (marks : List Bool) (first last : ℕ) → Bool → Type 0
SpanIsFew marks first last t = IfSome {T = ℕ × ℕ} (cond t (Some (visible_before marks first, visible_before marks (suc last) - 1)) None) (λ seen. (seen.0 < 16000) × (seen.1 < 16000))

pub span_few : (marks : List Bool) (first last : ℕ) → length marks ≤ 16000 → IfSome (span_of marks first last) (λ seen. (seen.0 < 16000) × (seen.1 < 16000))
span_few marks first last few = by_test (cases_lt (visible_before marks first) (visible_before marks (suc last)))
  where
    by_test : ((visible_before marks first < visible_before marks (suc last)) ⊎ (visible_before marks (suc last) ≤ visible_before marks first)) → SpanIsFew marks first last (nat_lt (visible_before marks first) (visible_before marks (suc last)))
    by_test (inr h) = subst (SpanIsFew marks first last) (sym (above_test (visible_before marks first) (visible_before marks (suc last)) h)) tt
    by_test (inl h) =
        let all = visible_before-all marks (suc last) in
        let long = visible_count-le marks in
        subst (SpanIsFew marks first last) (sym (below_test (visible_before marks first) (visible_before marks (suc last)) h)) (omega (arith, h, all, long, few), omega (arith, h, all, long, few))

pub no_span : (marks : List Bool) (first last : ℕ) → visible_before marks (suc last) ≤ visible_before marks first → span_of marks first last ≡ None
no_span marks first last h =
    ap (λ (t : Bool). cond t (Some (visible_before marks first, visible_before marks (suc last) - 1)) None) (above_test (visible_before marks first) (visible_before marks (suc last)) h)

pub span_turned : (marks : List Bool) (first last : ℕ) → last < first → span_of marks first last ≡ None
span_turned marks first last h = no_span marks first last (visible_before-le marks (suc last) first (omega arith))

pub span_past : (marks : List Bool) (first last : ℕ) → length marks ≤ first → span_of marks first last ≡ None
span_past marks first last h = no_span marks first last (let e = before_past marks first h in let all = visible_before-all marks (suc last) in omega arith)

-- a span that ends past the end, ended at the last line
pub span_ended : (marks : List Bool) (first last end : ℕ) → (visible_before marks (suc end) ≡ visible_before marks (suc last)) → span_of marks first end ≡ span_of marks first last
span_ended marks first last end e = λ i. cond (nat_lt (visible_before marks first) (e i)) (Some (visible_before marks first, e i - 1)) None

pub end_within : (marks : List Bool) (last count : ℕ) → count ≡ length marks → 0 < count → visible_before marks (suc (cond (nat_lt last count) last (count - 1))) ≡ visible_before marks (suc last)
end_within marks last count e h = by_side (cases_lt last count)
  where
    by_side : ((last < count) ⊎ (count ≤ last)) → visible_before marks (suc (cond (nat_lt last count) last (count - 1))) ≡ visible_before marks (suc last)
    by_side (inl l) = ap (λ (t : Bool). visible_before marks (suc (cond t last (count - 1)))) (below_test last count l)
    by_side (inr l) =
        ap (λ (t : Bool). visible_before marks (suc (cond t last (count - 1)))) (above_test last count l)
        ∙ (before_past marks (suc (count - 1)) (omega arith) ∙ sym (before_past marks (suc last) (omega arith)))

pub end_order : (first last count : ℕ) → first ≤ last → first < count → first ≤ cond (nat_lt last count) last (count - 1)
end_order first last count h j = by_side (cases_lt last count)
  where
    by_side : ((last < count) ⊎ (count ≤ last)) → first ≤ cond (nat_lt last count) last (count - 1)
    by_side (inl l) = subst (λ (t : Bool). first ≤ cond t last (count - 1)) (sym (below_test last count l)) h
    by_side (inr l) = subst (λ (t : Bool). first ≤ cond t last (count - 1)) (sym (above_test last count l)) (omega arith)
