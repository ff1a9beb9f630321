-- the longest token, found from the front on
use Rattle.std.proofs.Common.{◌≡◌, ℕ, suc, ◌+◌, ◌<◌, List, [], ◌∷◌, length, get_or, drop, Option, Some, None, refl, ap, sym, ◌∙◌, arith, add-one, add-zero, drop-cons, cond}
use Rattle.std.proofs.lemmas.Bool.{ne_eqb}
use Rattle.formula_tree.specs.Lexing.{space_count}
use Rattle.formula_read.specs.declared.kinds.TokenKind.{TokenKind}
use Rattle.formula_read.specs.declared.partial.Partial.{Partial}
use Rattle.formula_read.specs.declared.partial.Partial.TheVariants.{Fresh}
use Rattle.formula_read.specs.Partial.{partial_step, kind_at}
use Rattle.formula_read.specs.Longest.{longest, fronts, behind, later, here_or_later}

pub drop_at : (xs : List ℕ) (i : ℕ) → i < length xs → drop i xs ≡ get_or xs i 0 ∷ drop (i + 1) xs
drop_at xs i h = rw (add-one, drop-cons xs i 0)

behind-step : (at : ℕ) (here : Option TokenKind) (l found : Option (ℕ × TokenKind)) →
    behind at (here_or_later here l) found ≡ behind (at + 1) l (later found at here)
behind-step at here (Some (n, k)) found = λ i. Some (shift at n i, k)
  where
    shift : (a b : ℕ) → a + suc b ≡ (a + 1) + b
    shift a b = omega arith
behind-step at None None found = refl
behind-step at (Some k) None found = λ i. Some (none at i, k)
  where
    none : (a : ℕ) → a + 0 ≡ a
    none a = omega arith

module _ (text : List ℕ) (at : ℕ) (s : Partial) (found : Option (ℕ × TokenKind)) where
  pub found_more : at < length text → (here : Option TokenKind) (next : Option Partial) → here ≡ kind_at s (Some (get_or text at 0)) → next ≡ partial_step s (get_or text at 0) →
      longest (Some Fresh) text ≡ behind at (longest (Some s) (drop at text)) found →
      longest (Some Fresh) text ≡ behind (at + 1) (longest next (drop (at + 1) text)) (later found at here)
  found_more h here next p q e = e ∙ (ap (λ bs. behind at (longest (Some s) bs) found) (drop_at text at h)
      ∙ (behind-step at (kind_at s (Some (get_or text at 0))) (longest (partial_step s (get_or text at 0)) (drop (at + 1) text)) found
      ∙ sym (λ i. behind (at + 1) (longest (q i) (drop (at + 1) text)) (later found at (p i)))))

  pub reach_more : at < length text → (next : Option Partial) → next ≡ partial_step s (get_or text at 0) →
      fronts (Some Fresh) text ≡ at + fronts (Some s) (drop at text) →
      fronts (Some Fresh) text ≡ (at + 1) + fronts next (drop (at + 1) text)
  reach_more h next q e = e ∙ (ap (λ bs. at + fronts (Some s) bs) (drop_at text at h)
      ∙ (shift at (fronts (partial_step s (get_or text at 0)) (drop (at + 1) text)) ∙ ap (λ o. (at + 1) + fronts o (drop (at + 1) text)) (sym q)))
    where
      shift : (a b : ℕ) → a + suc b ≡ (a + 1) + b
      shift a b = omega arith

pub found_first : (text : List ℕ) → longest (Some Fresh) text ≡ behind 0 (longest (Some Fresh) text) None
found_first text = whole (longest (Some Fresh) text)
  where
    whole : (l : Option (ℕ × TokenKind)) → l ≡ behind 0 l None
    whole None = refl
    whole (Some (n, k)) = λ i. Some (none n i, k)
      where
        none : (a : ℕ) → a ≡ 0 + a
        none a = omega arith

-- a space more, or none
pub spaces_more : (text : List ℕ) (at : ℕ) → at < length text → get_or text at 0 ≡ 32 → space_count text ≡ at + space_count (drop at text) → space_count text ≡ (at + 1) + space_count (drop (at + 1) text)
spaces_more text at h e q = q ∙ (ap (λ bs. at + space_count bs) (drop_at text at h) ∙ (ap (λ b. at + space_count (b ∷ drop (at + 1) text)) e ∙ shift at (space_count (drop (at + 1) text))))
  where
    shift : (a b : ℕ) → a + suc b ≡ (a + 1) + b
    shift a b = omega arith

pub spaces_end : (text : List ℕ) (at : ℕ) → at < length text → (get_or text at 0 ≡ 32 → ⊥) → space_count text ≡ at + space_count (drop at text) → at ≡ space_count text
spaces_end text at h other q = sym (q ∙ (ap (λ bs. at + space_count bs) (drop_at text at h) ∙ (ap (λ t. at + cond t (suc (space_count (drop (at + 1) text))) 0) (ne_eqb (get_or text at 0) 32 other) ∙ add-zero at)))

pub found_end : (text : List ℕ) (at : ℕ) (s : Partial) (found : Option (ℕ × TokenKind)) (here : Option TokenKind) → at ≡ length text → here ≡ kind_at s None →
    longest (Some Fresh) text ≡ behind at (longest (Some s) (drop at text)) found → longest (Some Fresh) text ≡ later found (length text) here
found_end text at s found here e k q =
    q ∙ (ap (λ (bs : List ℕ). behind at (longest (Some s) bs) found) (ap (λ (n : ℕ). drop n text) e ∙ drop-all text)
    ∙ (last (kind_at s None) ∙ (λ i. later found (e i) (k' i))))
  where
    k' : kind_at s None ≡ here
    k' = sym k

    last : (here : Option TokenKind) → behind at (here_or_later here None) found ≡ later found at here
    last None = refl
    last (Some k) = λ i. Some (none at i, k)
      where
        none : (a : ℕ) → a + 0 ≡ a
        none a = omega arith

    drop-all : (xs : List ℕ) → drop (length xs) xs ≡ []
    drop-all [] = refl
    drop-all (x ∷ xs) = drop-all xs
