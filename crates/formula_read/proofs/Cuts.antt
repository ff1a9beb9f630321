-- texts that are cut into tokens, and how far others go
use Rattle.std.proofs.Common.{◌≡◌, ◌≢◌, ℕ, suc, ◌+◌, ◌-◌, ◌<◌, ◌≤◌, max, Bool, true, false, cond, nat_eq, List, [], ◌∷◌, ◌++◌, length, take, drop, Option, Some, None, refl, ap, sym, ◌∙◌, subst, append_assoc, arith, inl, inr}
use Rattle.std.specs.Prelude.{◌⊎◌}
use Rattle.std.proofs.lemmas.Bool.{cases_lt}
use Rattle.std.proofs.lemmas.List.{append-nil, take-append-drop, length-take, length-append}
use Rattle.formula_tree.specs.Tokens.{TokenValue, Spells, Follows, Fits, IsNext, upper_case}
use Rattle.formula_tree.specs.Tokens as token
use Rattle.formula_tree.specs.Lexing.{Lexeme, Lexes, space_count, past_spaces}
use Rattle.formula_tree.specs.Lexing as cut
use Rattle.formula_read.specs.declared.partial.Partial.{Partial}
use Rattle.formula_read.specs.declared.partial.Partial.TheVariants.{Fresh, Word}
use Rattle.formula_read.specs.declared.partial.Address.{Address}
use Rattle.formula_read.specs.declared.partial.Address.TheVariants.{Neither, Cell, Range}
use Rattle.formula_read.specs.declared.partial.Corner.TheVariants.{Start, Dollar, Letters, Fixed, Digits}
use Rattle.formula_read.specs.Partial.{fresh_step, word, name_step, address_step}
use Rattle.formula_read.specs.Longest.{partial_after, longest, fronts}
use Rattle.formula_read.proofs.Choices.{same_number}
use Rattle.formula_read.proofs.Forms.{run-append, fresh_holds, completes}
use Rattle.formula_read.proofs.Words.{run_name}
use Rattle.formula_read.proofs.Splits.{shorter_front, same_front, some_left}
use Rattle.formula_read.proofs.Next.{front_reached, reached_front, fits_reached, no_empty_token, none_found}

-- how many bytes of a text some token begins with
abbrev pub front_length : List ℕ → ℕ
front_length bs = fronts (Some Fresh) bs - 1

-- a text that can't be cut into tokens, and how far it goes
pub data Fails : List ℕ → ℕ → Type 0 where
  stuck : {bs : List ℕ} → longest (Some Fresh) bs ≡ None → bs ≢ [] → Fails bs (front_length bs)
  later : {piece behind : List ℕ} {t : TokenValue} {f : ℕ} → IsNext piece t behind → Fails (past_spaces behind) f →
      Fails (piece ++ behind) (max (front_length (piece ++ behind)) (length piece + (space_count behind + f)))

-- a cut, taken apart
abbrev IsCut : ℕ → List ℕ → List Lexeme → Type 0
IsCut at bs ls = (piece : List ℕ) × (behind : List ℕ) × (t : TokenValue) × (more : List Lexeme) × (bs ≡ piece ++ behind) × IsNext piece t behind
    × Lexes (at + length piece + space_count behind) (past_spaces behind) more

apart : {at : ℕ} {bs : List ℕ} {ls : List Lexeme} → Lexes at bs ls → (bs ≡ []) ⊎ IsCut at bs ls
apart cut.end = inl refl
apart (cut.next {piece = piece} {behind = behind} {t = t} {ls = ls} n more) = inr (piece, behind, t, ls, refl, n, more)

pub one_next : (p : List ℕ) (t : TokenValue) (r q : List ℕ) (u : TokenValue) (s : List ℕ) → IsNext p t r → IsNext q u s → p ++ r ≡ q ++ s → (p ≡ q) × (r ≡ s)
one_next p t r q u s n m e =
    let longer = n.longest q u s (sym e) m.fits in
    let shorter = m.longest p t r e n.fits in
    same_front p r q s e (omega arith)

piece_is_some : (p : List ℕ) (t : TokenValue) (r : List ℕ) → Fits p t r → 0 < length p
piece_is_some [] t r h = absurd (no_empty_token t r h)
piece_is_some (b ∷ bs) t r h = omega arith

-- no text that fails is cut into tokens
pub not_cut : {bs : List ℕ} {f : ℕ} → Fails bs f → (at : ℕ) (ls : List Lexeme) → Lexes at bs ls → ⊥
not_cut (stuck {bs} none some) at ls l = by_cut (apart l)
  where
    by_cut : ((bs ≡ []) ⊎ IsCut at bs ls) → ⊥
    by_cut (inl empty) = some empty
    by_cut (inr (piece, behind, t, more, e, n, rest)) = none_found bs piece t behind none (sym e) n.fits
not_cut (later {piece} {behind} {t} {f} n fails) at ls l = by_cut (apart l) (λ at ls l. not_cut fails at ls l)
  where
    by_cut : ((piece ++ behind ≡ []) ⊎ IsCut at (piece ++ behind) ls) → ((at : ℕ) (ls : List Lexeme) → Lexes at (past_spaces behind) ls → ⊥) → ⊥
    by_cut (inl empty) again = absurd (let some = piece_is_some piece t behind n.fits in let size = length-append piece behind in let nil = ap length empty in omega arith)
    by_cut (inr (p, b, u, more, e, m, rest)) again =
        let (_, behinds) = one_next piece t behind p u b n m e in
        again _ more (subst (λ (l : List ℕ). Lexes (at + length p + space_count b) (past_spaces l) more) (sym behinds) rest)

-- how far a text that fails goes, a token's front among it
pub fails_beyond : {bs : List ℕ} {f : ℕ} → Fails bs f → front_length bs ≤ f
fails_beyond (stuck none some) = omega arith
fails_beyond (later n fails) = omega arith

reached : (x u p z : List ℕ) (t : TokenValue) (r : List ℕ) → Fits p t r → p ≡ x ++ z → length x ≤ front_length (x ++ u)
reached x u p z t r h e = by_run (partial_after (Some Fresh) x) refl
  where
    by_run : (o : Option Partial) → partial_after (Some Fresh) x ≡ o → length x ≤ front_length (x ++ u)
    by_run (Some s) k = let more = front_reached (Some Fresh) x u s k in omega arith
    by_run None k =
        let (s, runs) = fits_reached p t r h in
        absurd (let clash : None ≡ Some s = sym (ap (λ (l : List ℕ). partial_after (Some Fresh) l) e ∙ (run-append (Some Fresh) x z ∙ ap (λ (o : Option Partial). partial_after o z) k)) ∙ runs in cc)

-- what follows a token is seen by its first byte
pub follows_too : (t : TokenValue) (x u v : List ℕ) → x ≢ [] → Follows t (x ++ u) → Follows t (x ++ v)
follows_too (token.name n) [] u v some h = absurd (some refl)
follows_too (token.name n) (b ∷ x) u v some (more, e) = (x ++ v, λ i. first e i ∷ (x ++ v))
  where
    first : {a b : ℕ} {xs ys : List ℕ} → a ∷ xs ≡ b ∷ ys → a ≡ b
    first e = cc
follows_too t x u v some h = tt

pub fits_too : (p : List ℕ) (t : TokenValue) (x u v : List ℕ) → x ≢ [] → Fits p t (x ++ u) → Fits p t (x ++ v)
fits_too p t x u v some h = (h.0, follows_too t x u v some h.1)

-- spaces at the front of two texts that begin alike: all of the common front, or what is behind them
spaces_alike : (z u v : List ℕ) → (length z ≤ space_count (z ++ u)) ⊎ ((w : List ℕ) × (past_spaces (z ++ u) ≡ w ++ u) × (past_spaces (z ++ v) ≡ w ++ v) × (length z ≡ space_count (z ++ u) + length w))
spaces_alike [] u v = inl (omega arith)
spaces_alike (b ∷ z) u v = by_space (nat_eq b 32) (spaces_alike z u v)
  where
    by_space : (t : Bool) → ((length z ≤ space_count (z ++ u)) ⊎ ((w : List ℕ) × (past_spaces (z ++ u) ≡ w ++ u) × (past_spaces (z ++ v) ≡ w ++ v) × (length z ≡ space_count (z ++ u) + length w))) →
        (length (b ∷ z) ≤ cond t (suc (space_count (z ++ u))) 0) ⊎ ((w : List ℕ) × (cond t (past_spaces (z ++ u)) (b ∷ (z ++ u)) ≡ w ++ u) × (cond t (past_spaces (z ++ v)) (b ∷ (z ++ v)) ≡ w ++ v) × (length (b ∷ z) ≡ cond t (suc (space_count (z ++ u))) 0 + length w))
    by_space true (inl all) = inl (omega arith)
    by_space true (inr (w, e, f, size)) = inr (w, e, f, omega arith)
    by_space false _ = inr (b ∷ z, refl, refl, omega arith)

module _ (piece behind : List ℕ) (t : TokenValue) (f : ℕ) (n : IsNext piece t behind)
    (again : (x u v : List ℕ) (at : ℕ) (ls : List Lexeme) → past_spaces behind ≡ x ++ u → Lexes at (x ++ v) ls → length x ≤ f) where
  -- behind the piece, which is the next token in both texts
  same_piece : (x u v z b : List ℕ) (at : ℕ) (ls : List Lexeme) → x ≡ piece ++ z → behind ≡ z ++ u → b ≡ z ++ v → Lexes at (past_spaces b) ls →
      length x ≤ length piece + (space_count behind + f)
  same_piece x u v z b at ls front rest rest' l = by_spaces (spaces_alike z u v)
    where
      size : length x ≡ length piece + length z
      size = ap length front ∙ length-append piece z

      count : space_count behind ≡ space_count (z ++ u)
      count = ap space_count rest

      by_spaces : ((length z ≤ space_count (z ++ u)) ⊎ ((w : List ℕ) × (past_spaces (z ++ u) ≡ w ++ u) × (past_spaces (z ++ v) ≡ w ++ v) × (length z ≡ space_count (z ++ u) + length w))) →
          length x ≤ length piece + (space_count behind + f)
      by_spaces (inl all) = let a = size in let b = count in omega arith
      by_spaces (inr (w, past, past', sum)) =
          let more = again w u v at ls (ap past_spaces rest ∙ past) (subst (λ (l : List ℕ). Lexes at l ls) (ap past_spaces rest' ∙ past') l) in
          let a = size in let b = count in omega arith

  beyond : (x u v : List ℕ) (at : ℕ) (ls : List Lexeme) → piece ++ behind ≡ x ++ u → IsCut at (x ++ v) ls →
      length x ≤ max (front_length (piece ++ behind)) (length piece + (space_count behind + f))
  beyond x u v at ls e (p, b, w, more, d, m, rest) = by_size (cases_lt (length p) (length x))
    where
      within_token : (q r z : List ℕ) (s : TokenValue) → Fits q s r → q ≡ x ++ z → length x ≤ max (front_length (piece ++ behind)) (length piece + (space_count behind + f))
      within_token q r z s h front =
          let far = subst (λ (l : List ℕ). length x ≤ front_length l) (sym e) (reached x u q z s r h front) in omega arith

      at_piece : (z : List ℕ) → x ≡ p ++ z → b ≡ z ++ v → length p ≤ length piece → ((length piece < length x) ⊎ (length x ≤ length piece)) →
          length x ≤ max (front_length (piece ++ behind)) (length piece + (space_count behind + f))
      at_piece z front behind' most (inr longer) =
          let (y, over, _) = shorter_front x u piece behind (sym e) longer in
          within_token piece behind y t n.fits over
      at_piece z front behind' most (inl shorter) =
          let (y, over, left) = shorter_front piece behind x u e (omega arith) in
          let fits = fits_too piece t y u v (some_left piece y x over shorter) (subst (λ (l : List ℕ). Fits piece t l) left n.fits) in
          let least = m.longest piece t (y ++ v) (sym (append_assoc piece y v) ∙ ((λ i. sym over i ++ v) ∙ d)) fits in
          let (_, tails) = same_front p z piece y (sym front ∙ over) (omega arith) in
          let bound = same_piece x u v y b _ more over left (behind' ∙ (λ i. tails i ++ v)) rest in
          omega arith

      by_size : ((length p < length x) ⊎ (length x ≤ length p)) → length x ≤ max (front_length (piece ++ behind)) (length piece + (space_count behind + f))
      by_size (inr longer) = let (z, front, _) = shorter_front x v p b d longer in within_token p b z w m.fits front
      by_size (inl shorter) =
          let (z, front, left) = shorter_front p b x v (sym d) (omega arith) in
          let fits = fits_too p w z v u (some_left p z x front shorter) (subst (λ (l : List ℕ). Fits p w l) left m.fits) in
          let most = n.longest p w (z ++ u) (sym (append_assoc p z u) ∙ ((λ i. sym front i ++ u) ∙ sym e)) fits in
          at_piece z front left most (cases_lt (length piece) (length x))

-- no front beyond what the failure says begins a text of tokens
pub no_further : {bs : List ℕ} {f : ℕ} → Fails bs f → (x u v : List ℕ) (at : ℕ) (ls : List Lexeme) → bs ≡ x ++ u → Lexes at (x ++ v) ls → length x ≤ f
no_further (stuck {bs} none some) x u v at ls e l = by_cut (apart l)
  where
    by_size : (p b : List ℕ) (t : TokenValue) → x ++ v ≡ p ++ b → Fits p t b → ((length p < length x) ⊎ (length x ≤ length p)) → length x ≤ front_length bs
    by_size p b t d h (inr longer) =
        let (z, front, _) = shorter_front x v p b d longer in
        subst (λ (l : List ℕ). length x ≤ front_length l) (sym e) (reached x u p z t b h front)
    by_size p b t d h (inl shorter) =
        let (z, front, rest) = shorter_front p b x v (sym d) (omega arith) in
        absurd (none_found bs p t (z ++ u) none (sym (e ∙ ((λ i. front i ++ u) ∙ append_assoc p z u)))
        (fits_too p t z v u (some_left p z x front shorter) (subst (λ (l : List ℕ). Fits p t l) rest h)))

    by_cut : ((x ++ v ≡ []) ⊎ IsCut at (x ++ v) ls) → length x ≤ front_length bs
    by_cut (inl empty) = let size = length-append x v in let nil = ap length empty in omega arith
    by_cut (inr (p, b, t, more, d, n, rest)) = by_size p b t d n.fits (cases_lt (length p) (length x))
no_further (later {piece} {behind} {t} {f} n fails) x u v at ls e l = by_cut (apart l) (λ x u v at ls e l. no_further fails x u v at ls e l)
  where
    by_cut : ((x ++ v ≡ []) ⊎ IsCut at (x ++ v) ls) → ((x u v : List ℕ) (at : ℕ) (ls : List Lexeme) → past_spaces behind ≡ x ++ u → Lexes at (x ++ v) ls → length x ≤ f) →
        length x ≤ max (front_length (piece ++ behind)) (length piece + (space_count behind + f))
    by_cut (inl empty) again = let size = length-append x v in let nil = ap length empty in omega arith
    by_cut (inr c) again = beyond piece behind t f n again x u v at ls e c

-- A token that ends a text, with the opening bracket that a name wants.
abbrev tail_of : TokenValue → List ℕ
tail_of (token.name n) = 40 ∷ []
tail_of t = []

pub last_token : (p : List ℕ) (t : TokenValue) → Fits p t [] → IsNext p t []
last_token p t h = record {
  fits = h;
  longest = (λ q u r e f. let a = length-append q r in let b = length-append p [] in let c = ap length e in omega arith);
  named = (λ n f. no_bracket f.1);
}
  where
    no_bracket : {G : Type 0} → (more : List ℕ) × ([] ≡ 40 ∷ more) → G
    no_bracket (more, e) = absurd (cc)

pub closed_word : (n : ℕ) (a : Address) → word (name_step n 40) (address_step a 40) ≡ None
closed_word n Neither = refl
closed_word n (Cell Start) = refl
closed_word n (Cell Dollar) = refl
closed_word n (Cell (Letters k)) = refl
closed_word n (Cell Fixed) = refl
closed_word n (Cell (Digits k)) = refl
closed_word n (Range Start) = refl
closed_word n (Range Dollar) = refl
closed_word n (Range (Letters k)) = refl
closed_word n (Range Fixed) = refl
closed_word n (Range (Digits k)) = refl

last_name : (p n : List ℕ) → Spells p (token.name n) → IsNext p (token.name n) (40 ∷ [])
last_name p n h = record {
  fits = (h, ([], refl));
  longest = (λ q u r e f. by_rest q u r e f);
  named = (λ m f. ap token.name (h.1 ∙ sym f.0.1));
}
  where
    by_rest : (q : List ℕ) (u : TokenValue) (r : List ℕ) → q ++ r ≡ p ++ 40 ∷ [] → Fits q u r → length q ≤ length p
    by_rest q u (b ∷ r) e f = let a = length-append q (b ∷ r) in let b = length-append p (40 ∷ []) in let c = ap length e in omega arith
    by_rest q u [] e f =
        let (m, a, some, runs) = run_name p h.0 in
        let (s, also) = fits_reached q u [] f in
        absurd (let clash : Some s ≡ None = sym also ∙ (ap (λ (l : List ℕ). partial_after (Some Fresh) l) (sym (append-nil q) ∙ e)
        ∙ (run-append (Some Fresh) p (40 ∷ []) ∙ (ap (λ (o : Option Partial). partial_after o (40 ∷ [])) runs ∙ run_none m a))) in cc)
      where
        run_none : (m : ℕ) (a : Address) → partial_after (Some (Word m a)) (40 ∷ []) ≡ None
        run_none m a = ap (λ (o : Option Partial). partial_after o []) (closed_word m a)

abbrev IsCuttable : List ℕ → Type 0
IsCuttable bs = (at : ℕ) → (ls : List Lexeme) × Lexes at bs ls

cut_last : (p : List ℕ) (t : TokenValue) → Fits p t [] → IsCuttable (p ++ [])
cut_last p t h at = (_, cut.next (last_token p t h) cut.end)

cut_ended : (p : List ℕ) (t : TokenValue) → Spells p t → IsCuttable (p ++ tail_of t)
cut_ended p (token.name n) h at = (_, cut.next (last_name p n h) (cut_last (40 ∷ []) token.opening (refl, tt) _).1)
cut_ended p (token.numeral n) h at = cut_last p (token.numeral n) (h, tt) at
cut_ended p (token.text t) h at = cut_last p (token.text t) (h, tt) at
cut_ended p (token.fault e) h at = cut_last p (token.fault e) (h, tt) at
cut_ended p (token.cell c) h at = cut_last p (token.cell c) (h, tt) at
cut_ended p (token.range r) h at = cut_last p (token.range r) (h, tt) at
cut_ended p (token.sign op) h at = cut_last p (token.sign op) (h, tt) at
cut_ended p token.opening h at = cut_last p token.opening (h, tt) at
cut_ended p token.closing h at = cut_last p token.closing (h, tt) at
cut_ended p token.semicolon h at = cut_last p token.semicolon (h, tt) at

-- what is a front, by its length
abbrev pub IsCutFront : List ℕ → ℕ → Type 0
IsCutFront bs f = (f ≤ length bs) × ((w : List ℕ) × IsCuttable (take f bs ++ w))

some_front : (bs : List ℕ) → 0 < fronts (Some Fresh) bs
some_front [] = omega arith
some_front (b ∷ bs) = omega arith

token_front : (bs : List ℕ) → IsCutFront bs (front_length bs)
token_front bs =
    let (within, (s, runs)) = reached_front (Some Fresh) bs (front_length bs) (let some = some_front bs in omega arith) in
    let (y, t, spells) = completes s (take (front_length bs) bs) (fresh_holds (take (front_length bs) bs) s runs) in
    (within, (y ++ tail_of t, subst IsCuttable (append_assoc (take (front_length bs) bs) y (tail_of t)) (cut_ended (take (front_length bs) bs ++ y) t spells)))

-- spaces
length_spaces : (bs : List ℕ) → length bs ≡ space_count bs + length (past_spaces bs)
length_spaces [] = omega arith
length_spaces (b ∷ bs) = by_space (nat_eq b 32) (length_spaces bs)
  where
    by_space : (t : Bool) → length bs ≡ space_count bs + length (past_spaces bs) → length (b ∷ bs) ≡ cond t (suc (space_count bs)) 0 + length (cond t (past_spaces bs) (b ∷ bs))
    by_space true h = omega arith
    by_space false h = omega arith

pub cut_tight : {at : ℕ} {bs : List ℕ} {ls : List Lexeme} → Lexes at bs ls → past_spaces bs ≡ bs
cut_tight {at} {bs} {ls} l = by_cut (apart l)
  where
    first : (b : ℕ) (p r : List ℕ) (t : TokenValue) → Fits (b ∷ p) t r → (k : Bool) → nat_eq b 32 ≡ k → nat_eq b 32 ≡ false
    first b p r t h false k = k
    first b p r t h true k =
        let (s, runs) = fits_reached (b ∷ p) t r h in
        absurd (let clash : None ≡ Some s = ap (λ (n : ℕ). partial_after (fresh_step n) p) (sym (same_number b 32 k)) ∙ runs in cc)

    begins : (p r : List ℕ) (t : TokenValue) → Fits p t r → past_spaces (p ++ r) ≡ p ++ r
    begins [] r t h = absurd (no_empty_token t r h)
    begins (b ∷ p) r t h = ap (λ (k : Bool). cond k (past_spaces (p ++ r)) (b ∷ (p ++ r))) (first b p r t h (nat_eq b 32) refl)

    by_cut : ((bs ≡ []) ⊎ IsCut at bs ls) → past_spaces bs ≡ bs
    by_cut (inl empty) = ap past_spaces empty ∙ sym empty
    by_cut (inr (p, b, t, more, e, n, rest)) = ap past_spaces e ∙ (begins p b t n.fits ∙ sym e)

past_taken : (bs : List ℕ) (f : ℕ) (w : List ℕ) → past_spaces (take f (past_spaces bs) ++ w) ≡ take f (past_spaces bs) ++ w →
    past_spaces (take (space_count bs + f) bs ++ w) ≡ take f (past_spaces bs) ++ w
past_taken [] f w tight = ap (λ (n : ℕ). past_spaces (take n [] ++ w)) (none f) ∙ tight
  where
    none : (f : ℕ) → 0 + f ≡ f
    none f = omega arith
past_taken (b ∷ bs) f w tight = by_space (nat_eq b 32) refl tight (past_taken bs f w)
  where
    by_space : (t : Bool) → nat_eq b 32 ≡ t → past_spaces (take f (cond t (past_spaces bs) (b ∷ bs)) ++ w) ≡ take f (cond t (past_spaces bs) (b ∷ bs)) ++ w →
        (past_spaces (take f (past_spaces bs) ++ w) ≡ take f (past_spaces bs) ++ w → past_spaces (take (space_count bs + f) bs ++ w) ≡ take f (past_spaces bs) ++ w) →
        past_spaces (take (cond t (suc (space_count bs)) 0 + f) (b ∷ bs) ++ w) ≡ take f (cond t (past_spaces bs) (b ∷ bs)) ++ w
    by_space false k tight rest = ap (λ (n : ℕ). past_spaces (take n (b ∷ bs) ++ w)) (none f) ∙ tight
      where
        none : (f : ℕ) → 0 + f ≡ f
        none f = omega arith
    by_space true k tight rest =
        ap (λ (n : ℕ). past_spaces (take n (b ∷ bs) ++ w)) (shift (space_count bs) f)
        ∙ (ap (λ (t : Bool). cond t (past_spaces (take (space_count bs + f) bs ++ w)) (b ∷ (take (space_count bs + f) bs ++ w))) k ∙ rest tight)
      where
        shift : (a f : ℕ) → suc a + f ≡ suc (a + f)
        shift a f = omega arith

-- the next token of a text that is cut off behind it and goes on otherwise
module _ (piece x rest w : List ℕ) (t : TokenValue) (n : IsNext piece t (x ++ rest)) (some : x ≢ []) (far : front_length (piece ++ (x ++ rest)) < length piece + length x) where
  goes_otherwise : IsNext piece t (x ++ w)
  goes_otherwise = record {
    fits = fits_too piece t x rest w some n.fits;
    longest = (λ p u r e h. by_size p u r e h (cases_lt (length p) (length (piece ++ x))));
    named = (λ m h. n.named m (fits_too piece (token.name m) x w rest some h));
  }
    where
      by_size : (p : List ℕ) (u : TokenValue) (r : List ℕ) → p ++ r ≡ piece ++ (x ++ w) → Fits p u r → ((length p < length (piece ++ x)) ⊎ (length (piece ++ x) ≤ length p)) → length p ≤ length piece
      by_size p u r e h (inr longer) =
          let (z, front, _) = shorter_front (piece ++ x) w p r (append_assoc piece x w ∙ sym e) longer in
          let more = reached (piece ++ x) rest p z u r h front in
          let whole = subst (λ (l : List ℕ). length (piece ++ x) ≤ front_length l) (append_assoc piece x rest) more in
          let size = length-append piece x in
          absurd (omega arith)
      by_size p u r e h (inl shorter) =
          let (z, front, left) = shorter_front p r (piece ++ x) w (e ∙ sym (append_assoc piece x w)) (omega arith) in
          n.longest p u (z ++ rest) (sym (append_assoc p z rest) ∙ ((λ i. sym front i ++ rest) ∙ append_assoc piece x rest))
          (fits_too p u z w rest (some_left p z (piece ++ x) front shorter) (subst (λ (l : List ℕ). Fits p u l) left h))

take_beyond : (xs ys : List ℕ) (n : ℕ) → take (length xs + n) (xs ++ ys) ≡ xs ++ take n ys
take_beyond [] ys n = ap (λ (m : ℕ). take m ys) (none n)
  where
    none : (n : ℕ) → 0 + n ≡ n
    none n = omega arith
take_beyond (x ∷ xs) ys n = ap (λ (m : ℕ). take m (x ∷ (xs ++ ys))) (shift (length xs) n) ∙ ap (λ (l : List ℕ). x ∷ l) (take_beyond xs ys n)
  where
    shift : (a n : ℕ) → suc a + n ≡ suc (a + n)
    shift a n = omega arith

-- behind a token, as far as the rest goes
front_behind : (piece behind : List ℕ) (t : TokenValue) (f : ℕ) → IsNext piece t behind → IsCutFront (past_spaces behind) f →
    front_length (piece ++ behind) < length piece + (space_count behind + f) → IsCutFront (piece ++ behind) (length piece + (space_count behind + f))
front_behind piece behind t f n (within, (w, cuts)) far =
    let count = space_count behind + f in
    let x = take count behind in
    let rest = drop count behind in
    let total = length_spaces behind in
    let size : length x ≡ count = length-take count behind ∙ (omega arith) in
    let whole : x ++ rest ≡ behind = take-append-drop count behind in
    let also : IsNext piece t (x ++ rest) = subst (λ (l : List ℕ). IsNext piece t l) (sym whole) n in
    let beyond' : front_length (piece ++ (x ++ rest)) < length piece + length x = subst (λ (l : List ℕ). front_length (piece ++ l) < length piece + length x) (sym whole) (omega arith) in
    let own = reached piece (x ++ rest) piece [] t (x ++ rest) also.fits (sym (append-nil piece)) in
    let some : x ≢ [] = λ none. absurd (let nil = ap length none in omega arith) in
    let next' = goes_otherwise piece x rest w t also some beyond' in
    let tight = cut_tight (cuts 0).1 in
    let past = past_taken behind f w tight in (
      (let sum = length-append piece behind in omega arith),
      (
        w,
        λ at.
            let (ls, l) = cuts (at + length piece + space_count (x ++ w)) in (
              _,
              subst (λ (l : List ℕ). Lexes at l (record { from = at; to = at + length piece; token = t } ∷ ls)) (sym ((λ i. take_beyond piece behind count i ++ w) ∙ append_assoc piece x w))
                  (cut.next next' (subst (λ (l : List ℕ). Lexes (at + length piece + space_count (x ++ w)) l ls) (sym past) l)),
            ),
      ),
    )

-- a text that fails is, as far as it goes, a front
pub fails_front : {bs : List ℕ} {f : ℕ} → Fails bs f → IsCutFront bs f
fails_front (stuck {bs} none some) = token_front bs
fails_front (later {piece} {behind} {t} {f} n fails) = by_size (cases_lt (front_length (piece ++ behind)) (length piece + (space_count behind + f))) (fails_front fails)
  where
    by_size : ((front_length (piece ++ behind) < length piece + (space_count behind + f)) ⊎ (length piece + (space_count behind + f) ≤ front_length (piece ++ behind))) → IsCutFront (past_spaces behind) f →
        IsCutFront (piece ++ behind) (max (front_length (piece ++ behind)) (length piece + (space_count behind + f)))
    by_size (inl far) front = subst (λ (n : ℕ). IsCutFront (piece ++ behind) n) (omega arith) (front_behind piece behind t f n front far)
    by_size (inr near) front = subst (λ (n : ℕ). IsCutFront (piece ++ behind) n) (omega arith) (token_front (piece ++ behind))
