-- The positions of the visible lines, and how an edit of the marks changes them.
use Rattle.std.proofs.Common.{rules, ◌≡◌, ℕ, zero, suc, ◌+◌, ◌-◌, ◌<◌, ◌≤◌, ◌⊎◌, inl, inr, Bool, true, false, List, [], ◌∷◌, ◌++◌, map, take, drop, length, get_or, set, refl, ap, ◌∙◌, arith, All, Some, IsNone, insert, slice_get}
use Rattle.std.specs.List.{remove}
use Rattle.std.specs.List.Sorted.{IsNonDecreasingBy}
use Rattle.std.proofs.lemmas.List.Elements.{All-nil, All-cons, All-weaker}
use Rattle.marked_lines.specs.Marks.{raised, visible_count, places_from, visible_places, visible_before}

pub length-places_from : (o : ℕ) (marks : List Bool) → length (places_from o marks) ≡ visible_count marks
length-places_from o [] = refl
length-places_from o (true ∷ marks) = length-places_from (suc o) marks
length-places_from o (false ∷ marks) = ap suc (length-places_from (suc o) marks)

pub visible_count-le : (marks : List Bool) → visible_count marks ≤ length marks
visible_count-le [] = omega arith
visible_count-le (true ∷ marks) = omega (arith, visible_count-le marks)
visible_count-le (false ∷ marks) = omega (arith, visible_count-le marks)

pub places_from-low : (o : ℕ) (marks : List Bool) → All (λ q. o ≤ q) (places_from o marks)
places_from-low o [] = All-nil (λ q. o ≤ q)
places_from-low o (true ∷ marks) = All-weaker (λ q. suc o ≤ q) (λ q. o ≤ q) (λ q h. omega arith) (places_from (suc o) marks) (places_from-low (suc o) marks)
places_from-low o (false ∷ marks) =
    All-cons (λ q. o ≤ q) o (places_from (suc o) marks) (omega arith)
    (All-weaker (λ q. suc o ≤ q) (λ q. o ≤ q) (λ q h. omega arith) (places_from (suc o) marks) (places_from-low (suc o) marks))

pub places_from-high : (o : ℕ) (marks : List Bool) → All (λ q. q < o + length marks) (places_from o marks)
places_from-high o [] = All-nil (λ q. q < o + 0)
places_from-high o (true ∷ marks) = All-weaker (λ q. q < suc o + length marks) (λ q. q < o + suc (length marks)) (λ q h. omega arith) (places_from (suc o) marks) (places_from-high (suc o) marks)
places_from-high o (false ∷ marks) =
    All-cons (λ q. q < o + suc (length marks)) o (places_from (suc o) marks) (omega arith)
    (All-weaker (λ q. q < suc o + length marks) (λ q. q < o + suc (length marks)) (λ q h. omega arith) (places_from (suc o) marks) (places_from-high (suc o) marks))

pub places_from-up : (o : ℕ) (marks : List Bool) → IsNonDecreasingBy (λ q. q) (places_from o marks)
places_from-up o [] i j d le within = absurd (omega arith)
places_from-up o (true ∷ marks) i j d le within = places_from-up (suc o) marks i j d le within
places_from-up o (false ∷ marks) zero zero d le within = omega arith
places_from-up o (false ∷ marks) zero (suc j) d le within = let h = places_from-low (suc o) marks j d (omega arith) in omega (arith, h)
places_from-up o (false ∷ marks) (suc i) zero d le within = absurd (omega arith)
places_from-up o (false ∷ marks) (suc i) (suc j) d le within = places_from-up (suc o) marks i j d (omega arith) (omega arith)

-- where the places split at a position, as many visible lines stand before it
pub places_from-split : (o : ℕ) (marks : List Bool) (p k : ℕ) → k ≤ length (places_from o marks) →
    ((i : ℕ) → i < k → get_or (places_from o marks) i 0 < o + p) → ((i : ℕ) → k ≤ i → i < length (places_from o marks) → o + p ≤ get_or (places_from o marks) i 0) → k ≡ visible_count (take p marks)
places_from-split o [] zero k within below above = omega arith
places_from-split o [] (suc p) k within below above = omega arith
places_from-split o (m ∷ marks) zero zero within below above = refl
places_from-split o (m ∷ marks) zero (suc k) within below above =
    let low = places_from-low o (m ∷ marks) 0 0 (omega arith) in
    let first = below 0 (omega arith) in
    absurd (omega (arith, low, first))
places_from-split o (true ∷ marks) (suc p) k within below above =
    places_from-split (suc o) marks p k within (λ i lt. let h = below i lt in omega (arith, h)) (λ i le lt. let h = above i le lt in omega (arith, h))
places_from-split o (false ∷ marks) (suc p) zero within below above = let h = above 0 (omega arith) (omega arith) in absurd (omega (arith, h))
places_from-split o (false ∷ marks) (suc p) (suc k) within below above =
    ap suc (places_from-split (suc o) marks p k (omega arith) (λ i lt. let h = below (suc i) (omega arith) in omega (arith, h)) (λ i le lt. let h = above (suc i) (omega arith) (omega arith) in omega (arith, h)))

pub places_from-push : (o : ℕ) (marks : List Bool) (m : Bool) → places_from o (marks ++ m ∷ []) ≡ places_from o marks ++ places_from (o + length marks) (m ∷ [])
places_from-push o [] m = let e : o ≡ o + 0 = omega arith in ap (λ (q : ℕ). places_from q (m ∷ [])) e
places_from-push o (true ∷ marks) m = let e : suc o + length marks ≡ o + suc (length marks) = omega arith in places_from-push (suc o) marks m ∙ ap (λ (q : ℕ). places_from (suc o) marks ++ places_from q (m ∷ [])) e
places_from-push o (false ∷ marks) m =
    let e : suc o + length marks ≡ o + suc (length marks) = omega arith in
    ap (λ (qs : List ℕ). o ∷ qs) (places_from-push (suc o) marks m ∙ ap (λ (q : ℕ). places_from (suc o) marks ++ places_from q (m ∷ [])) e)

-- a line that becomes hidden
pub places_from-mark : (o : ℕ) (marks : List Bool) (p : ℕ) → p < length marks → get_or marks p false ≡ false → places_from o (set marks p true) ≡ remove (places_from o marks) (visible_count (take p marks))
places_from-mark o [] p within shown = absurd (omega arith)
places_from-mark o (true ∷ marks) zero within shown = absurd (cc)
places_from-mark o (false ∷ marks) zero within shown = refl
places_from-mark o (true ∷ marks) (suc p) within shown = places_from-mark (suc o) marks p (omega arith) shown
places_from-mark o (false ∷ marks) (suc p) within shown = ap (λ (qs : List ℕ). o ∷ qs) (places_from-mark (suc o) marks p (omega arith) shown)

-- the places of lines that stand one further
places_from-next : (o : ℕ) (marks : List Bool) → places_from (suc o) marks ≡ map (λ p. p + 1) (places_from o marks)
places_from-next o [] = refl
places_from-next o (true ∷ marks) = places_from-next (suc o) marks
places_from-next o (false ∷ marks) = let e : suc o ≡ o + 1 = omega arith in λ i. e i ∷ places_from-next (suc o) marks i

-- a new line that is visible
pub places_from-insert : (o : ℕ) (marks : List Bool) (p : ℕ) → p ≤ length marks → places_from o (insert marks p false) ≡ raised (places_from o marks) (visible_count (take p marks)) (o + p)
places_from-insert o marks zero within = let e : o ≡ o + 0 = omega arith in λ i. e i ∷ places_from-next o marks i
places_from-insert o [] (suc p) within = absurd (omega arith)
places_from-insert o (true ∷ marks) (suc p) within =
    let e : suc o + p ≡ o + suc p = omega arith in
    places_from-insert (suc o) marks p (omega arith) ∙ ap (λ (q : ℕ). raised (places_from (suc o) marks) (visible_count (take p marks)) q) e
places_from-insert o (false ∷ marks) (suc p) within =
    let e : suc o + p ≡ o + suc p = omega arith in
    ap (λ (qs : List ℕ). o ∷ qs) (places_from-insert (suc o) marks p (omega arith) ∙ ap (λ (q : ℕ). raised (places_from (suc o) marks) (visible_count (take p marks)) q) e)

pub visible_places-insert : (marks : List Bool) (p : ℕ) → p ≤ length marks → visible_places (insert marks p false) ≡ raised (visible_places marks) (visible_before marks p) p
visible_places-insert marks p within =
    let e : 0 + p ≡ p = omega arith in
    places_from-insert 0 marks p within ∙ ap (λ (q : ℕ). raised (visible_places marks) (visible_before marks p) q) e

-- the places after a new one went in and those behind it were raised
raise_inserted_at : (places : List ℕ) (v p : ℕ) → v ≤ length places → take (suc v) (insert places v p) ++ map (λ q. q + 1) (drop (suc v) (insert places v p)) ≡ raised places v p
raise_inserted_at places zero p within = refl
raise_inserted_at [] (suc v) p within = absurd (omega arith)
raise_inserted_at (q ∷ places) (suc v) p within = ap (λ (qs : List ℕ). q ∷ qs) (raise_inserted_at places v p (omega arith))

pub raise_inserted : (places : List ℕ) (v p : ℕ) → v ≤ length places → take (v + 1) (insert places v p) ++ map (λ q. q + 1) (drop (v + 1) (insert places v p)) ≡ raised places v p
raise_inserted places v p within = let e : v + 1 ≡ suc v = omega arith in rw e (raise_inserted_at places v p within)

-- a visible line counts
pub visible_before-lt : (marks : List Bool) (p : ℕ) → p < length marks → get_or marks p false ≡ false → visible_count (take p marks) < visible_count marks
visible_before-lt [] p within shown = absurd (omega arith)
visible_before-lt (true ∷ marks) zero within shown = absurd (cc)
visible_before-lt (false ∷ marks) zero within shown = omega arith
visible_before-lt (true ∷ marks) (suc p) within shown = visible_before-lt marks p (omega arith) shown
visible_before-lt (false ∷ marks) (suc p) within shown = omega (arith, visible_before-lt marks p (omega arith) shown)

pub slice_get-none : (xs : List ℕ) (i : ℕ) → (IsNone (slice_get xs i) → length xs ≤ i) × (length xs ≤ i → IsNone (slice_get xs i))
slice_get-none [] i = (λ none. omega arith, λ past. search rules)
slice_get-none (x ∷ xs) zero = (λ none. absurd (cc), λ past. absurd (omega arith))
slice_get-none (x ∷ xs) (suc i) = let h = slice_get-none xs i in (λ none. omega (arith, h.0 none), λ past. h.1 (omega arith))

pub place_of-none : (marks : List Bool) (v : ℕ) → (IsNone (slice_get (visible_places marks) v) → visible_count marks ≤ v) × (visible_count marks ≤ v → IsNone (slice_get (visible_places marks) v))
place_of-none marks v =
    let h = slice_get-none (visible_places marks) v in
    let n = length-places_from 0 marks in
    (λ none. omega (arith, h.0 none, n), λ past. h.1 (omega (arith, n, past)))

-- one line more
visible_before-hidden : (marks : List Bool) (p : ℕ) → slice_get marks p ≡ Some true → visible_before marks (suc p) ≡ visible_before marks p
visible_before-hidden [] p hidden = absurd (cc)
visible_before-hidden (true ∷ marks) zero hidden = refl
visible_before-hidden (false ∷ marks) zero hidden = absurd (cc)
visible_before-hidden (true ∷ marks) (suc p) hidden = visible_before-hidden marks p hidden
visible_before-hidden (false ∷ marks) (suc p) hidden = ap suc (visible_before-hidden marks p hidden)

pub visible_before-shown : (marks : List Bool) (p : ℕ) → slice_get marks p ≡ Some false → visible_before marks (suc p) ≡ suc (visible_before marks p)
visible_before-shown [] p shown = absurd (cc)
visible_before-shown (true ∷ marks) zero shown = absurd (cc)
visible_before-shown (false ∷ marks) zero shown = refl
visible_before-shown (true ∷ marks) (suc p) shown = visible_before-shown marks p shown
visible_before-shown (false ∷ marks) (suc p) shown = ap suc (visible_before-shown marks p shown)

pub visible_before-le : (marks : List Bool) (p q : ℕ) → p ≤ q → visible_before marks p ≤ visible_before marks q
visible_before-le [] zero zero le = omega arith
visible_before-le [] zero (suc q) le = omega arith
visible_before-le [] (suc p) zero le = omega arith
visible_before-le [] (suc p) (suc q) le = omega arith
visible_before-le (m ∷ marks) zero q le = omega arith
visible_before-le (m ∷ marks) (suc p) zero le = absurd (omega arith)
visible_before-le (true ∷ marks) (suc p) (suc q) le = visible_before-le marks p q (omega arith)
visible_before-le (false ∷ marks) (suc p) (suc q) le = omega (arith, visible_before-le marks p q (omega arith))

pub visible_before-all : (marks : List Bool) (p : ℕ) → visible_before marks p ≤ visible_count marks
visible_before-all [] zero = omega arith
visible_before-all [] (suc p) = omega arith
visible_before-all (m ∷ marks) zero = omega arith
visible_before-all (true ∷ marks) (suc p) = visible_before-all marks p
visible_before-all (false ∷ marks) (suc p) = omega (arith, visible_before-all marks p)

mark_cases : (marks : List Bool) (p : ℕ) → p < length marks → (slice_get marks p ≡ Some true) ⊎ (slice_get marks p ≡ Some false)
mark_cases [] p within = absurd (omega arith)
mark_cases (true ∷ marks) zero within = inl refl
mark_cases (false ∷ marks) zero within = inr refl
mark_cases (m ∷ marks) (suc p) within = mark_cases marks p (omega arith)

-- no visible line between two positions, exactly where as many stand before the end as before the beginning
pub hidden_between : (marks : List Bool) (first last : ℕ) → last < length marks → visible_before marks (suc last) ≤ visible_before marks first → (p : ℕ) → first ≤ p → p ≤ last → slice_get marks p ≡ Some true
hidden_between marks first last within none p low high = by_mark (mark_cases marks p (omega arith))
  where
    by_mark : (slice_get marks p ≡ Some true) ⊎ (slice_get marks p ≡ Some false) → slice_get marks p ≡ Some true
    by_mark (inl hidden) = hidden
    by_mark (inr shown) =
        let before = visible_before-le marks first p low in
        let behind = visible_before-le marks (suc p) (suc last) (omega arith) in
        let here = visible_before-shown marks p shown in
        absurd (omega (arith, before, behind, here, none))

run_hidden : (marks : List Bool) (first n : ℕ) → ((p : ℕ) → first ≤ p → p < first + n → slice_get marks p ≡ Some true) → visible_before marks (first + n) ≡ visible_before marks first
run_hidden marks first zero hidden = let e : first + 0 ≡ first = omega arith in ap (visible_before marks) e
run_hidden marks first (suc n) hidden =
    let e : first + suc n ≡ suc (first + n) = omega arith in
    ap (visible_before marks) e ∙ visible_before-hidden marks (first + n) (hidden (first + n) (omega arith) (omega arith)) ∙ run_hidden marks first n (λ p low high. hidden p low (omega arith))

pub between_hidden : (marks : List Bool) (first last : ℕ) → first ≤ last → ((p : ℕ) → first ≤ p → p ≤ last → slice_get marks p ≡ Some true) → visible_before marks (suc last) ≡ visible_before marks first
between_hidden marks first last order hidden =
    let e : suc last ≡ first + (suc last - first) = omega arith in
    ap (visible_before marks) e ∙ run_hidden marks first (suc last - first) (λ p low high. hidden p low (omega arith))

get_or-shown : (marks : List Bool) (p : ℕ) → slice_get marks p ≡ Some false → (p < length marks) × (get_or marks p false ≡ false)
get_or-shown [] p shown = absurd (cc)
get_or-shown (m ∷ marks) zero shown = (omega arith, cc)
get_or-shown (m ∷ marks) (suc p) shown = let h = get_or-shown marks p shown in (omega (arith, h.0), h.1)

pub visible_places-mark : (marks : List Bool) (p : ℕ) → slice_get marks p ≡ Some false → visible_places (set marks p true) ≡ remove (visible_places marks) (visible_before marks p)
visible_places-mark marks p shown = let h = get_or-shown marks p shown in places_from-mark 0 marks p h.0 h.1
