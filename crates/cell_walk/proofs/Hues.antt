-- Lists of colours and stacks.
use Rattle.std.proofs.Common.{◌≡◌, ◌≢◌, ℕ, zero, suc, ◌+◌, ◌<◌, List, [], ◌∷◌, ◌++◌, length, take, refl, ap, sym, ◌∙◌, subst, arith, inl, inr, get_or-set_same, get_or-set_other}
use Rattle.std.specs.Prelude.{true, false, ◌⊎◌, slice_index_or, slice_set, sum_by, reverse}
use Rattle.std.specs.List.{AllByRecursion}
use Rattle.std.proofs.lemmas.List.{take_more, reverse-append, length-set}
use Rattle.std.proofs.lemmas.List.Sums.{sum_by-set}
use Rattle.cell_walk.specs.declared.walking.Colour.{Colour}
use Rattle.cell_walk.specs.declared.walking.Colour.TheVariants.{White, Grey, Ordered, Circular}
use Rattle.cell_walk.specs.declared.walking.Entry.{Entry}
use Rattle.cell_walk.specs.Walks.{IsIn, IsInStack, hue, weight, is_ordered, is_white, IsMarked}
use Rattle.cell_walk.proofs.Turns.{same_or_not}

pub hue_within : (cs : List Colour) (c : ℕ) → hue cs c ≢ White → c < length cs
hue_within [] c h = absurd (h refl)
hue_within (x ∷ xs) zero h = omega arith
hue_within (x ∷ xs) (suc c) h = let le = hue_within xs c h in omega arith

pub hue_same : (cs : List Colour) (c : ℕ) (x : Colour) → c < length cs → hue (slice_set cs c x) c ≡ x
hue_same cs c x h = get_or-set_same cs c x White h

pub hue_other : (cs : List Colour) (c : ℕ) (x : Colour) (d : ℕ) → d ≢ c → hue (slice_set cs c x) d ≡ hue cs d
hue_other cs c x d h = get_or-set_other cs c d x White h

-- how much is to be done, where one cell gets another colour
pub weight_set : (cs : List Colour) (c : ℕ) (x : Colour) → c < length cs → sum_by weight (slice_set cs c x) + weight (hue cs c) ≡ sum_by weight cs + weight x
weight_set cs c x h = sum_by-set weight cs c x White h

in_more : (c : ℕ) (e : Entry) (xs : List Entry) → IsInStack c (xs ++ e ∷ []) → IsInStack c xs ⊎ (e.cell ≡ c)
in_more c e [] (inl p) = inr p
in_more c e [] (inr h) = absurd h
in_more c e (x ∷ xs) (inl p) = inl (inl p)
in_more c e (x ∷ xs) (inr h) = by_rest (in_more c e xs h)
  where
    by_rest : (IsInStack c xs ⊎ (e.cell ≡ c)) → IsInStack c (x ∷ xs) ⊎ (e.cell ≡ c)
    by_rest (inl k) = inl (inr k)
    by_rest (inr k) = inr k

in_less : (c : ℕ) (e : Entry) (xs : List Entry) → (IsInStack c xs ⊎ (e.cell ≡ c)) → IsInStack c (xs ++ e ∷ [])
in_less c e [] (inl h) = absurd h
in_less c e [] (inr p) = inl p
in_less c e (x ∷ xs) (inl (inl p)) = inl p
in_less c e (x ∷ xs) (inl (inr h)) = inr (in_less c e xs (inl h))
in_less c e (x ∷ xs) (inr p) = inr (in_less c e xs (inr p))

-- a stack turned round has the same cells
pub in_reverse : (c : ℕ) (xs : List Entry) → IsInStack c xs → IsInStack c (reverse xs)
in_reverse c [] h = h
in_reverse c (x ∷ xs) h = subst (λ (ys : List Entry). IsInStack c ys) (sym (reverse-append (x ∷ []) xs)) (in_less c x (reverse xs) (turned h (λ k. in_reverse c xs k)))
  where
    turned : IsInStack c (x ∷ xs) → (IsInStack c xs → IsInStack c (reverse xs)) → IsInStack c (reverse xs) ⊎ (x.cell ≡ c)
    turned (inl p) r = inr p
    turned (inr k) r = inl (r k)

mark_one : (old cs : List Colour) (xs : List Entry) (e : Entry) → e.cell < length old → IsMarked old cs xs → IsMarked old (slice_set cs e.cell Circular) (xs ++ e ∷ [])
mark_one old cs xs e h m = record {
  len = length-set cs e.cell Circular ∙ m.len;
  marked = λ c k. by_cell c (same_or_not c e.cell) (in_more c e xs k);
  others = λ c k. hue_other cs e.cell Circular c (λ p. k (in_less c e xs (inr (sym p)))) ∙ m.others c (λ j. k (in_less c e xs (inl j)));
  less = let w = weight_set cs e.cell Circular within in let le = m.less in omega arith;
}
  where
    within : e.cell < length cs
    within = let l = m.len in omega arith

    by_cell : (c : ℕ) → ((c ≡ e.cell) ⊎ (c ≢ e.cell)) → (IsInStack c xs ⊎ (e.cell ≡ c)) → hue (slice_set cs e.cell Circular) c ≡ Circular
    by_cell c (inl p) k = ap (λ d. hue (slice_set cs e.cell Circular) d) p ∙ hue_same cs e.cell Circular within
    by_cell c (inr p) (inl k) = hue_other cs e.cell Circular c p ∙ m.marked c k
    by_cell c (inr p) (inr k) = absurd (p (sym k))

pub mark_more : (old cs : List Colour) (stack : List Entry) (i : ℕ) (d : Entry) → AllByRecursion (λ e. e.cell < length old) stack → i < length stack → IsMarked old cs (take i stack) → IsMarked old (slice_set cs (slice_index_or stack i d).cell Circular) (take (i + 1) stack)
mark_more old cs stack i d all h m =
    subst (λ (xs : List Entry). IsMarked old (slice_set cs (slice_index_or stack i d).cell Circular) xs) (sym (take_more stack i d h))
    (mark_one old cs (take i stack) (slice_index_or stack i d) (at stack i all h) m)
  where
    at : (st : List Entry) (i : ℕ) → AllByRecursion (λ e. e.cell < length old) st → i < length st → (slice_index_or st i d).cell < length old
    at [] i k l = absurd (omega arith)
    at (x ∷ xs) zero k l = k.0
    at (x ∷ xs) (suc i) k l = at xs i k.1 (omega arith)

pub ordered_is : (x : Colour) → is_ordered x ≡ true → x ≡ Ordered
ordered_is White h = absurd (let e : false ≡ true = h in cc)
ordered_is Grey h = absurd (let e : false ≡ true = h in cc)
ordered_is Ordered h = refl
ordered_is Circular h = absurd (let e : false ≡ true = h in cc)

pub ordered_not : (x : Colour) → is_ordered x ≡ false → x ≢ Ordered
ordered_not x h p = let e : true ≡ false = sym (ap is_ordered p) ∙ h in cc

pub white_is : (x : Colour) → is_white x ≡ true → x ≡ White
white_is White h = refl
white_is Grey h = absurd (let e : false ≡ true = h in cc)
white_is Ordered h = absurd (let e : false ≡ true = h in cc)
white_is Circular h = absurd (let e : false ≡ true = h in cc)

pub white_not : (x : Colour) → is_white x ≡ false → x ≢ White
white_not x h p = let e : true ≡ false = sym (ap is_white p) ∙ h in cc

-- what was passed over is in order, with one more of the kind
pub pass : (hue : ℕ → Colour) (from now more : List ℕ) (d : ℕ) → now ≡ d ∷ more → hue d ≡ Ordered → ((x : ℕ) → IsIn x from → (hue x ≡ Ordered) ⊎ IsIn x now) → (x : ℕ) → IsIn x from → (hue x ≡ Ordered) ⊎ IsIn x more
pass hue from now more d e o h x i = by_left (h x i)
  where
    by_head : IsIn x (d ∷ more) → (hue x ≡ Ordered) ⊎ IsIn x more
    by_head (inl p) = inl (ap hue (sym p) ∙ o)
    by_head (inr k) = inr k

    by_left : ((hue x ≡ Ordered) ⊎ IsIn x now) → (hue x ≡ Ordered) ⊎ IsIn x more
    by_left (inl q) = inl q
    by_left (inr k) = by_head (subst (λ (xs : List ℕ). IsIn x xs) e k)

pub head_in : (now more : List ℕ) (d : ℕ) → now ≡ d ∷ more → IsIn d now
head_in now more d e = subst (λ (xs : List ℕ). IsIn d xs) (sym e) (inl refl)

pub tail_in : (now more : List ℕ) (d x : ℕ) → now ≡ d ∷ more → IsIn x more → IsIn x now
tail_in now more d x e h = subst (λ (xs : List ℕ). IsIn x xs) (sym e) (inr h)
