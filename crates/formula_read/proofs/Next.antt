-- the longest token that the reader finds is the next one
use Rattle.std.proofs.Common.{◌≡◌, ℕ, zero, suc, ◌<◌, ◌≤◌, List, [], ◌∷◌, ◌++◌, length, take, drop, Option, Some, None, refl, ap, sym, ◌∙◌, subst, arith}
use Rattle.std.proofs.lemmas.List.{take-append-drop, length-take}
use Rattle.formula_tree.specs.Tokens.{TokenValue, Spells, Follows, Fits, IsNext, upper_case}
use Rattle.formula_tree.specs.Tokens as token
use Rattle.formula_read.specs.declared.kinds.TokenKind.{TokenKind}
use Rattle.formula_read.specs.declared.kinds.TokenKind.TheVariants as kind
use Rattle.formula_read.specs.declared.partial.Partial.{Partial}
use Rattle.formula_read.specs.declared.partial.Partial.TheVariants.{Fresh}
use Rattle.formula_read.specs.Partial.{partial_step, kind_at}
use Rattle.formula_read.specs.Longest.{partial_after, first_byte, longest, here_or_later, fronts}
use Rattle.formula_read.specs.Read.{token_kind}
use Rattle.formula_read.proofs.Choices.{nothing, same}
use Rattle.formula_read.proofs.Forms.{Ends, fresh_holds, sound, complete, name_ends}

abbrev EndsFrom : Option Partial → List ℕ → List ℕ → TokenKind → Type 0
EndsFrom o p r k = (s : Partial) × (partial_after o p ≡ Some s) × (kind_at s (first_byte r) ≡ Some k)

abbrev EndsAfter : Option Partial → List ℕ → ℕ → TokenKind → Type 0
EndsAfter o bs n k = (n ≤ length bs) × EndsFrom o (take n bs) (drop n bs) k

found_here : (s : Partial) (bs : List ℕ) (here : Option TokenKind) (n : ℕ) (k : TokenKind) → kind_at s (first_byte bs) ≡ here → here_or_later here None ≡ Some (n, k) → EndsAfter (Some s) bs n k
found_here s bs None n k e h = nothing h
found_here s bs (Some j) n k e h =
    subst (λ (p : ℕ × TokenKind). EndsAfter (Some s) bs p.0 p.1) (same h) ((omega arith), (s, refl, e))

longest_ends : (o : Option Partial) (bs : List ℕ) (n : ℕ) (k : TokenKind) → longest o bs ≡ Some (n, k) → EndsAfter o bs n k
longest_ends None bs n k h = nothing h
longest_ends (Some s) [] n k h = found_here s [] (kind_at s None) n k refl h
longest_ends (Some s) (b ∷ bs) n k h = by_later (longest (partial_step s b) bs) refl h (λ m j. longest_ends (partial_step s b) bs m j)
  where
    by_later : (l : Option (ℕ × TokenKind)) → longest (partial_step s b) bs ≡ l → here_or_later (kind_at s (Some b)) l ≡ Some (n, k) →
        ((m : ℕ) (j : TokenKind) → longest (partial_step s b) bs ≡ Some (m, j) → EndsAfter (partial_step s b) bs m j) → EndsAfter (Some s) (b ∷ bs) n k
    by_later None e h rest = found_here s (b ∷ bs) (kind_at s (Some b)) n k refl h
    by_later (Some (m, j)) e h rest =
        let (within, ends) = rest m j e in
        subst (λ (p : ℕ × TokenKind). EndsAfter (Some s) (b ∷ bs) p.0 p.1) (same h) ((omega arith), ends)

-- an end that isn't longer than the longest
abbrev IsFound : Option Partial → List ℕ → ℕ → Type 0
IsFound o bs m = (n : ℕ) × (j : TokenKind) × (longest o bs ≡ Some (n, j)) × (m ≤ n)

or_later : (here : Option TokenKind) (k : TokenKind) (l : Option (ℕ × TokenKind)) → here ≡ Some k → (n : ℕ) × (j : TokenKind) × (here_or_later here l ≡ Some (n, j)) × (0 ≤ n)
or_later here k None e = (0, k, ap (λ (h : Option TokenKind). here_or_later h None) e, omega arith)
or_later here k (Some (m, j)) e = (suc m, j, refl, omega arith)

longest_is : (o : Option Partial) (p r : List ℕ) (k : TokenKind) → EndsFrom o p r k → IsFound o (p ++ r) (length p)
longest_is None p r k (s, runs, ends) = nothing runs
longest_is (Some t) [] [] k (s, runs, ends) = or_later (kind_at t None) k None (ap (λ (t : Partial). kind_at t None) (same runs) ∙ ends)
longest_is (Some t) [] (b ∷ bs) k (s, runs, ends) = or_later (kind_at t (Some b)) k (longest (partial_step t b) bs) (ap (λ (t : Partial). kind_at t (Some b)) (same runs) ∙ ends)
longest_is (Some t) (b ∷ p) r k ends =
    let (n, j, e, h) = longest_is (partial_step t b) p r k ends in
    (suc n, j, ap (here_or_later (kind_at t (Some b))) e, omega arith)

-- How far some token goes.
pub front_reached : (o : Option Partial) (p r : List ℕ) (s : Partial) → partial_after o p ≡ Some s → length p < fronts o (p ++ r)
front_reached None p r s h = nothing h
front_reached (Some t) [] [] s h = omega arith
front_reached (Some t) [] (b ∷ bs) s h = omega arith
front_reached (Some t) (b ∷ p) r s h = let more = front_reached (partial_step t b) p r s h in omega arith

pub reached_front : (o : Option Partial) (bs : List ℕ) (n : ℕ) → n < fronts o bs → (n ≤ length bs) × ((s : Partial) × (partial_after o (take n bs) ≡ Some s))
reached_front None bs n h = absurd (omega arith)
reached_front (Some t) [] zero h = ((omega arith), (t, refl))
reached_front (Some t) [] (suc n) h = absurd (omega arith)
reached_front (Some t) (b ∷ bs) zero h = ((omega arith), (t, refl))
reached_front (Some t) (b ∷ bs) (suc n) h = let (within, runs) = reached_front (partial_step t b) bs n (omega arith) in ((omega arith), runs)

pub fits_reached : (p : List ℕ) (t : TokenValue) (r : List ℕ) → Fits p t r → (s : Partial) × (partial_after (Some Fresh) p ≡ Some s)
fits_reached p t r h = let (k, (s, runs, _)) = complete p t r h in (s, runs)

pub no_empty_token : (t : TokenValue) (r : List ℕ) → Fits [] t r → ⊥
no_empty_token t r h = let (k, (s, runs, ends)) = complete [] t r h in absurd (let clash : None ≡ Some k = ap (λ (s : Partial). kind_at s (first_byte r)) (same runs) ∙ ends in cc)

pub name_by_kind : (t : TokenValue) (p n : List ℕ) → token_kind t ≡ kind.Name → Spells p t → n ≡ upper_case p → t ≡ token.name n
name_by_kind (token.name m) p n k h e = ap token.name (h.1 ∙ sym e)
name_by_kind t p n k h e = absurd (cc)

pub one_end : (p r : List ℕ) (j k : TokenKind) → Ends p r j → Ends p r k → j ≡ k
one_end p r j k (s, runs, ends) (t, also, end) = same (sym ends ∙ (ap (λ (s : Partial). kind_at s (first_byte r)) (same (sym runs ∙ also)) ∙ end))

-- the next token where there is one
pub next_found : (bs : List ℕ) (n : ℕ) (k : TokenKind) → longest (Some Fresh) bs ≡ Some (n, k) → (t : TokenValue) × (token_kind t ≡ k) × (n ≤ length bs) × IsNext (take n bs) t (drop n bs)
next_found bs n k h =
    let (within, (s, runs, ends)) = longest_ends (Some Fresh) bs n k h in
    let (t, fits, is) = sound s (take n bs) (drop n bs) k (fresh_holds (take n bs) s runs) ends in
    let size : length (take n bs) ≡ n = length-take n bs ∙ (omega arith) in (
      t,
      is,
      within,
      record {
        fits = fits;
        longest = (λ p u r e f.
            let (j, end) = complete p u r f in
            let (m, i, also, most) = longest_is (Some Fresh) p r j end in
            let found : Some (m, i) ≡ Some (n, k) = sym also ∙ (ap (longest (Some Fresh)) (e ∙ take-append-drop n bs) ∙ h) in
            let sizes : m ≡ n = ap (λ (p : ℕ × TokenKind). p.0) (same found) in
            omega arith);
        named = (λ m f. name_by_kind t (take n bs) m (is ∙ one_end (take n bs) (drop n bs) k kind.Name (s, runs, ends) (name_ends (take n bs) m (drop n bs) f)) fits.0 f.0.1);
      },
    )

-- and no token where there is none
pub none_found : (bs p : List ℕ) (u : TokenValue) (r : List ℕ) → longest (Some Fresh) bs ≡ None → p ++ r ≡ bs → Fits p u r → ⊥
none_found bs p u r h e f =
    let (j, end) = complete p u r f in
    let (m, i, also, most) = longest_is (Some Fresh) p r j end in
    absurd (let clash : None ≡ Some (m, i) = sym h ∙ (ap (longest (Some Fresh)) (sym e) ∙ also) in cc)
