-- The turns of a walk keep what holds of its state.
use Rattle.std.proofs.Common.{◌≡◌, ◌≢◌, ℕ, ◌<◌, Bool, true, false, List, [], ◌∷◌, refl, ap, sym, ◌∙◌, subst, arith, inl, inr}
use Rattle.std.specs.Prelude.{◌||◌, ◌⊎◌, nat_eq, None, Some}
use Rattle.std.specs.List.{list_any}
use Rattle.std.proofs.lemmas.Bool.Decides.{nat_tests}
use Rattle.cell_walk.specs.declared.walking.Colour.{Colour}
use Rattle.cell_walk.specs.declared.walking.Colour.TheVariants.{White, Grey, Ordered, Circular}
use Rattle.cell_walk.specs.declared.walking.Entry.{Entry}
use Rattle.cell_walk.specs.declared.walking.Progress.{Progress}
use Rattle.cell_walk.specs.Walks.{IsIn, IsInStack, is_circle, Opens, IsAbove, AreOpen, Holds, MayBegin, IsFound}

pub same_or_not : (m n : ℕ) → (m ≡ n) ⊎ (m ≢ n)
same_or_not m n = by_test (nat_eq m n) refl
  where
    by_test : (b : Bool) → nat_eq m n ≡ b → (m ≡ n) ⊎ (m ≢ n)
    by_test true e = inl (grind (arith, nat_tests))
    by_test false e = inr (λ p. grind (arith, nat_tests))

circle_is : (c : Colour) → is_circle c ≡ true → c ≡ Circular
circle_is White h = absurd (let e : false ≡ true = h in cc)
circle_is Grey h = absurd (let e : false ≡ true = h in cc)
circle_is Ordered h = absurd (let e : false ≡ true = h in cc)
circle_is Circular h = refl

any_in : (p : ℕ → Bool) (xs : List ℕ) (x : ℕ) → IsIn x xs → p x ≡ true → list_any p xs ≡ true
any_in p [] x h e = absurd h
any_in p (y ∷ ys) x (inl q) e = ap (λ b. b || list_any p ys) (ap p q ∙ e)
any_in p (y ∷ ys) x (inr h) e = by_first (p y) (any_in p ys x h e)
  where
    by_first : (b : Bool) → list_any p ys ≡ true → b || list_any p ys ≡ true
    by_first true h = refl
    by_first false h = h

any_more : (p q : ℕ → Bool) (xs : List ℕ) → ((x : ℕ) → p x ≡ true → q x ≡ true) → list_any p xs ≡ true → list_any q xs ≡ true
any_more p q [] h k = k
any_more p q (x ∷ xs) h k = by_first (p x) (q x) (h x) (λ j. any_more p q xs h j) k
  where
    by_first : (a b : Bool) → (a ≡ true → b ≡ true) → (list_any p xs ≡ true → list_any q xs ≡ true) → a || list_any p xs ≡ true → b || list_any q xs ≡ true
    by_first true b f r k = ap (λ c. c || list_any q xs) (f refl)
    by_first false true f r k = refl
    by_first false false f r k = r k

module _ (mentions : ℕ → List ℕ) (rest : ℕ → Progress → List ℕ) (first hue hue' : ℕ → Colour) where
  abbrev Before : List ℕ → List Entry → Type 0
  Before order stack = Holds mentions rest first hue order stack

  abbrev After : List ℕ → List Entry → Type 0
  After order stack = Holds mentions rest first hue' order stack

  -- what stands on the stack is grey
  pub stack_grey : (st : List Entry) → AreOpen mentions rest first hue st → (c : ℕ) → IsInStack c st → hue c ≡ Grey
  stack_grey [] k c i = absurd i
  stack_grey (e ∷ st) k c (inl p) = ap hue (sym p) ∙ k.0.grey
  stack_grey (e ∷ st) k c (inr i) = stack_grey st k.3 c i

  -- a colour that isn't new is the one of before, where the other was
  abbrev IsNew : (ℕ → Colour) → ℕ → Type 0
  IsNew h c = (h c ≡ White) ⊎ (h c ≡ Grey)

  new_before : (c : ℕ) → hue' c ≡ hue c → IsNew hue' c → IsNew hue c
  new_before c e (inl q) = inl (sym e ∙ q)
  new_before c e (inr q) = inr (sym e ∙ q)

  -- circular ones stay so, where one changes that wasn't
  circles_stay : ((d : ℕ) → hue d ≡ Circular → hue' d ≡ Circular) → (c : ℕ) → list_any (λ d. is_circle (hue d)) (mentions c) ≡ true → list_any (λ d. is_circle (hue' d)) (mentions c) ≡ true
  circles_stay keeps c h = any_more (λ d. is_circle (hue d)) (λ d. is_circle (hue' d)) (mentions c) (λ d k. ap is_circle (keeps d (circle_is (hue d) k))) h

  module _ (at : ℕ) (others : (c : ℕ) → c ≢ at → hue' c ≡ hue c) where
    -- where one cell changes that isn't on a stack, the stack stays open
    still_open : (hue at ≢ Ordered) → (stack : List Entry) → (IsInStack at stack → ⊥) → AreOpen mentions rest first hue stack → AreOpen mentions rest first hue' stack
    still_open n [] k h = tt
    still_open n (e ∷ stack) k h = (
      record {
        grey = others e.cell (λ q. k (inl q)) ∙ h.0.grey;
        left = λ d i. by_left d (h.0.left d i);
        within = h.0.within;
      },
      h.1,
      h.2,
      still_open n stack (λ j. k (inr j)) h.3,
    )
      where
        by_left : (d : ℕ) → ((hue d ≡ Ordered) ⊎ IsIn d (rest e.cell e.place)) → (hue' d ≡ Ordered) ⊎ IsIn d (rest e.cell e.place)
        by_left d (inr i) = inr i
        by_left d (inl q) = inl (others d (λ p. n (ap hue (sym p) ∙ q)) ∙ q)

    keeps_circles : hue at ≢ Circular → (d : ℕ) → hue d ≡ Circular → hue' d ≡ Circular
    keeps_circles n d q = others d (λ p. n (ap hue (sym p) ∙ q)) ∙ q

    -- the uppermost has all its mentions in order: it takes its place
    pub finish : (e : Entry) (order : List ℕ) (stack : List Entry) → e.cell ≡ at → Before order (e ∷ stack) → ((d : ℕ) → IsIn d (mentions e.cell) → hue d ≡ Ordered) → hue' at ≡ Ordered → After (at ∷ order) stack
    finish e order stack same h none now = record {
      orderly = (λ d i. h.in_order d (none d (subst (λ c. IsIn d (mentions c)) (sym same) i)), h.orderly);
      in_order = λ c q. by_place c (same_or_not at c) q;
      ordered = λ c i. placed c i;
      distinct = (λ i. not_ordered (h.ordered at i).0, h.distinct);
      circles = λ c q. circle c (same_or_not c at) q;
      grey = λ c q. grey c (same_or_not c at) q;
      new = λ c k. still_new c (same_or_not c at) k;
      entries = still_open not_ordered stack (subst (λ c. IsInStack c stack → ⊥) same h.entries.2) h.entries.3;
    }
      where
        was : hue at ≡ Grey
        was = ap hue (sym same) ∙ h.entries.0.grey

        not_ordered : hue at ≢ Ordered
        not_ordered q = let clash : Grey ≡ Ordered = sym was ∙ q in cc

        not_circular : hue at ≢ Circular
        not_circular q = let clash : Grey ≡ Circular = sym was ∙ q in cc

        placed : (c : ℕ) → IsIn c (at ∷ order) → (hue' c ≡ Ordered) × (first c ≡ White)
        placed c (inl p) = (ap hue' (sym p) ∙ now, ap first (sym p) ∙ h.new at (inr was))
        placed c (inr i) = let k = h.ordered c i in (others c (λ p. not_ordered (ap hue (sym p) ∙ k.0)) ∙ k.0, k.1)

        still_new : (c : ℕ) → ((c ≡ at) ⊎ (c ≢ at)) → IsNew hue' c → first c ≡ White
        still_new c (inl p) (inl q) = absurd (let clash : Ordered ≡ White = sym now ∙ (ap hue' (sym p) ∙ q) in cc)
        still_new c (inl p) (inr q) = absurd (let clash : Ordered ≡ Grey = sym now ∙ (ap hue' (sym p) ∙ q) in cc)
        still_new c (inr p) k = h.new c (new_before c (others c p) k)

        by_place : (c : ℕ) → ((at ≡ c) ⊎ (at ≢ c)) → hue' c ≡ Ordered → IsIn c (at ∷ order) ⊎ (first c ≡ Ordered)
        by_place c (inl p) q = inl (inl p)
        by_place c (inr p) q = one_more (h.in_order c (sym (others c (λ r. p (sym r))) ∙ q))
          where
            one_more : (IsIn c order ⊎ (first c ≡ Ordered)) → IsIn c (at ∷ order) ⊎ (first c ≡ Ordered)
            one_more (inl k) = inl (inr k)
            one_more (inr k) = inr k

        circle : (c : ℕ) → ((c ≡ at) ⊎ (c ≢ at)) → hue' c ≡ Circular → list_any (λ d. is_circle (hue' d)) (mentions c) ≡ true
        circle c (inl p) q = absurd (let clash : Ordered ≡ Circular = sym now ∙ (ap hue' (sym p) ∙ q) in cc)
        circle c (inr p) q = circles_stay (keeps_circles not_circular) c (h.circles c (sym (others c p) ∙ q))

        grey : (c : ℕ) → ((c ≡ at) ⊎ (c ≢ at)) → hue' c ≡ Grey → IsInStack c stack
        grey c (inl p) q = absurd (let clash : Ordered ≡ Grey = sym now ∙ (ap hue' (sym p) ∙ q) in cc)
        grey c (inr p) q = below (h.grey c (sym (others c p) ∙ q))
          where
            below : IsInStack c (e ∷ stack) → IsInStack c stack
            below (inl r) = absurd (p (sym r ∙ same))
            below (inr r) = r

    -- a cell that was white comes onto the stack: the one below, if there is one, mentions it
    pub push : (place : Progress) (order : List ℕ) (stack : List Entry) → Before order stack → hue at ≡ White → hue' at ≡ Grey → rest at place ≡ mentions at → IsAbove mentions rest first (record { cell = at; place = place }) stack →
        After order (record { cell = at; place = place } ∷ stack)
    push place order stack h was now all above = record {
      orderly = h.orderly;
      in_order = λ c q. h.in_order c (known c Ordered (same_or_not c at) q (λ r. cc));
      ordered = λ c i. let k = h.ordered c i in (others c (λ p. not_ordered (ap hue (sym p) ∙ k.0)) ∙ k.0, k.1);
      distinct = h.distinct;
      circles = λ c q. circles_stay (keeps_circles not_circular) c (h.circles c (known c Circular (same_or_not c at) q (λ r. cc)));
      grey = λ c q. grey c (same_or_not c at) q;
      new = λ c k. still_new c (same_or_not c at) k;
      entries = (record { grey = now; left = λ d i. inr (subst (λ (xs : List ℕ). IsIn d xs) (sym all) i); within = λ d i. subst (λ (xs : List ℕ). IsIn d xs) all i }, above, apart stack h.entries, still_open not_ordered stack (apart stack h.entries) h.entries);
    }
      where
        not_ordered : hue at ≢ Ordered
        not_ordered q = let clash : White ≡ Ordered = sym was ∙ q in cc

        not_circular : hue at ≢ Circular
        not_circular q = let clash : White ≡ Circular = sym was ∙ q in cc

        still_new : (c : ℕ) → ((c ≡ at) ⊎ (c ≢ at)) → IsNew hue' c → first c ≡ White
        still_new c (inl p) k = ap first p ∙ h.new at (inl was)
        still_new c (inr p) k = h.new c (new_before c (others c p) k)

        known : (c : ℕ) (x : Colour) → ((c ≡ at) ⊎ (c ≢ at)) → hue' c ≡ x → (Grey ≡ x → ⊥) → hue c ≡ x
        known c x (inl p) q n = absurd (n (sym now ∙ (ap hue' (sym p) ∙ q)))
        known c x (inr p) q n = sym (others c p) ∙ q

        grey : (c : ℕ) → ((c ≡ at) ⊎ (c ≢ at)) → hue' c ≡ Grey → IsInStack c (record { cell = at; place = place } ∷ stack)
        grey c (inl p) q = inl (sym p)
        grey c (inr p) q = inr (h.grey c (sym (others c p) ∙ q))

        apart : (st : List Entry) → AreOpen mentions rest first hue st → IsInStack at st → ⊥
        apart [] k i = i
        apart (e ∷ st) k (inl p) = let clash : White ≡ Grey = sym was ∙ (ap hue (sym p) ∙ k.0.grey) in cc
        apart (e ∷ st) k (inr i) = apart st k.3 i

  -- the uppermost mentions one that is on the stack or circular: the whole stack is circular
  pub circle : (e : Entry) (order : List ℕ) (stack : List Entry) (d : ℕ) → Before order (e ∷ stack) → IsIn d (mentions e.cell) → hue d ≢ White → hue d ≢ Ordered →
      ((c : ℕ) → IsInStack c (e ∷ stack) → hue' c ≡ Circular) → ((c : ℕ) → (IsInStack c (e ∷ stack) → ⊥) → hue' c ≡ hue c) → After order []
  circle e order stack d h i not_white not_ordered marked others = record {
    orderly = h.orderly;
    in_order = λ c q. h.in_order c (known c q (in_stack c (e ∷ stack)));
    ordered = λ c i. let k = h.ordered c i in (others c (λ j. grey_or_ordered c j k.0) ∙ k.0, k.1);
    distinct = h.distinct;
    circles = λ c q. circles c q (in_stack c (e ∷ stack));
    grey = λ c q. no_grey c q (in_stack c (e ∷ stack));
    new = λ c k. still_new c k (in_stack c (e ∷ stack));
    entries = tt;
  }
    where
      in_stack : (c : ℕ) (st : List Entry) → IsInStack c st ⊎ (IsInStack c st → ⊥)
      in_stack c [] = inr (λ k. k)
      in_stack c (f ∷ st) = by_both (same_or_not f.cell c) (in_stack c st)
        where
          by_both : ((f.cell ≡ c) ⊎ (f.cell ≢ c)) → (IsInStack c st ⊎ (IsInStack c st → ⊥)) → IsInStack c (f ∷ st) ⊎ (IsInStack c (f ∷ st) → ⊥)
          by_both (inl p) k = inl (inl p)
          by_both (inr p) (inl k) = inl (inr k)
          by_both (inr p) (inr k) = inr neither
            where
              neither : IsInStack c (f ∷ st) → ⊥
              neither (inl q) = p q
              neither (inr q) = k q

      grey_or_ordered : (c : ℕ) → IsInStack c (e ∷ stack) → hue c ≡ Ordered → ⊥
      grey_or_ordered c j q = let clash : Grey ≡ Ordered = sym (stack_grey (e ∷ stack) h.entries c j) ∙ q in cc

      still_new : (c : ℕ) → IsNew hue' c → (IsInStack c (e ∷ stack) ⊎ (IsInStack c (e ∷ stack) → ⊥)) → first c ≡ White
      still_new c (inl q) (inl k) = absurd (let clash : Circular ≡ White = sym (marked c k) ∙ q in cc)
      still_new c (inr q) (inl k) = absurd (let clash : Circular ≡ Grey = sym (marked c k) ∙ q in cc)
      still_new c n (inr k) = h.new c (new_before c (others c k) n)

      known : (c : ℕ) → hue' c ≡ Ordered → (IsInStack c (e ∷ stack) ⊎ (IsInStack c (e ∷ stack) → ⊥)) → hue c ≡ Ordered
      known c q (inl k) = absurd (let clash : Circular ≡ Ordered = sym (marked c k) ∙ q in cc)
      known c q (inr k) = sym (others c k) ∙ q

      no_grey : (c : ℕ) → hue' c ≡ Grey → (IsInStack c (e ∷ stack) ⊎ (IsInStack c (e ∷ stack) → ⊥)) → IsInStack c []
      no_grey c q (inl k) = let clash : Circular ≡ Grey = sym (marked c k) ∙ q in cc
      no_grey c q (inr k) = absurd (k (h.grey c (sym (others c k) ∙ q)))

      stays : (c : ℕ) → hue c ≡ Circular → hue' c ≡ Circular
      stays c q = by_stack (in_stack c (e ∷ stack))
        where
          by_stack : (IsInStack c (e ∷ stack) ⊎ (IsInStack c (e ∷ stack) → ⊥)) → hue' c ≡ Circular
          by_stack (inl k) = marked c k
          by_stack (inr k) = others c k ∙ q

      found : (x : Colour) → hue d ≡ x → hue' d ≡ Circular
      found White q = absurd (not_white q)
      found Ordered q = absurd (not_ordered q)
      found Circular q = stays d q
      found Grey q = marked d (h.grey d q)

      mentions_one : (f : Entry) (c : ℕ) → IsIn c (mentions f.cell) → hue' c ≡ Circular → list_any (λ x. is_circle (hue' x)) (mentions f.cell) ≡ true
      mentions_one f c k q = any_in (λ x. is_circle (hue' x)) (mentions f.cell) c k (ap is_circle q)

      -- each one on the stack mentions the one above it
      each : (f : Entry) (st : List Entry) → AreOpen mentions rest first hue (f ∷ st) → list_any (λ x. is_circle (hue' x)) (mentions f.cell) ≡ true → hue' f.cell ≡ Circular → ((c : ℕ) → IsInStack c st → hue' c ≡ Circular) → (c : ℕ) → IsInStack c (f ∷ st) →
          list_any (λ x. is_circle (hue' x)) (mentions c) ≡ true
      each f st k one is all c (inl p) = subst (λ y. list_any (λ x. is_circle (hue' x)) (mentions y) ≡ true) p one
      each f [] k one is all c (inr j) = absurd j
      each f (g ∷ st) k one is all c (inr j) = each g st k.3 (mentions_one g f.cell k.1 is) (all g.cell (inl refl)) (λ x y. all x (inr y)) c j

      circles : (c : ℕ) → hue' c ≡ Circular → (IsInStack c (e ∷ stack) ⊎ (IsInStack c (e ∷ stack) → ⊥)) → list_any (λ x. is_circle (hue' x)) (mentions c) ≡ true
      circles c q (inl k) = each e stack h.entries (mentions_one e d i (found (hue d) refl)) (marked e.cell (inl refl)) (λ x y. marked x (inr y)) c k
      circles c q (inr k) = circles_stay stays c (h.circles c (sym (others c k) ∙ q))

module _ (mentions : ℕ → List ℕ) (rest : ℕ → Progress → List ℕ) (first hue : ℕ → Colour) where
  -- the uppermost goes through mentions that are in order
  pub advance : (cell : ℕ) (from place : Progress) (d : ℕ) (order : List ℕ) (stack : List Entry) → Holds mentions rest first hue order (record { cell = cell; place = from } ∷ stack) → Opens (rest cell) hue from place (Some d) →
      Holds mentions rest first hue order (record { cell = cell; place = place } ∷ stack)
  advance cell from place d order stack h o = record {
    orderly = h.orderly;
    in_order = h.in_order;
    ordered = h.ordered;
    distinct = h.distinct;
    circles = h.circles;
    grey = h.grey;
    new = h.new;
    entries = (record { grey = h.entries.0.grey; left = λ x i. later x (h.entries.0.left x i); within = λ x i. h.entries.0.within x (o.4 x i) }, above stack h.entries.1, h.entries.2, h.entries.3);
  }
    where
      later : (x : ℕ) → ((hue x ≡ Ordered) ⊎ IsIn x (rest cell from)) → (hue x ≡ Ordered) ⊎ IsIn x (rest cell place)
      later x (inl q) = inl q
      later x (inr i) = o.3 x i

      above : (st : List Entry) → IsAbove mentions rest first (record { cell = cell; place = from }) st → IsAbove mentions rest first (record { cell = cell; place = place }) st
      above [] k = tt
      above (f ∷ st) k = k

  -- the uppermost has gone through all of them
  pub finished : (cell : ℕ) (from place : Progress) (order : List ℕ) (stack : List Entry) → Holds mentions rest first hue order (record { cell = cell; place = from } ∷ stack) → Opens (rest cell) hue from place None →
      (d : ℕ) → IsIn d (mentions cell) → hue d ≡ Ordered
  finished cell from place order stack h o d i = by_left (h.entries.0.left d i)
    where
      by_left : ((hue d ≡ Ordered) ⊎ IsIn d (rest cell from)) → hue d ≡ Ordered
      by_left (inl q) = q
      by_left (inr k) = o.1 d k

-- the walk begins with nothing on its stack
pub begins : (mentions : ℕ → List ℕ) (rest : ℕ → Progress → List ℕ) (first : ℕ → Colour) → MayBegin mentions first → Holds mentions rest first first [] []
begins mentions rest first h = record {
  orderly = tt;
  in_order = λ c q. inr q;
  ordered = λ c i. absurd i;
  distinct = tt;
  circles = h.circles;
  grey = λ c q. h.no_grey c q;
  new = λ c k. white c k;
  entries = tt;
}
  where
    white : (c : ℕ) → ((first c ≡ White) ⊎ (first c ≡ Grey)) → first c ≡ White
    white c (inl q) = q
    white c (inr q) = absurd (h.no_grey c q)

-- and ends with nothing on it
pub ends : (mentions : ℕ → List ℕ) (rest : ℕ → Progress → List ℕ) (first hue : ℕ → Colour) (count : ℕ) (order : List ℕ) → Holds mentions rest first hue order [] → ((c : ℕ) → c < count → hue c ≢ White) → IsFound mentions first count hue order
ends mentions rest first hue count order h none = record {
  each = λ c k. by_hue c (hue c) refl (none c k);
  circles = h.circles;
  orderly = h.orderly;
  in_order = h.in_order;
  ordered = h.ordered;
  distinct = h.distinct;
}
  where
    by_hue : (c : ℕ) (x : Colour) → hue c ≡ x → hue c ≢ White → (hue c ≡ Ordered) ⊎ (hue c ≡ Circular)
    by_hue c White q n = absurd (n q)
    by_hue c Grey q n = absurd (h.grey c q)
    by_hue c Ordered q n = inl q
    by_hue c Circular q n = inr q
