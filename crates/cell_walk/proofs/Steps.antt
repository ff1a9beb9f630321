-- One turn of a walk, over the lists that it keeps.
use Rattle.std.proofs.Common.{◌≡◌, ◌≢◌, ℕ, ◌+◌, ◌<◌, List, [], ◌∷◌, ◌++◌, length, refl, ap, sym, ◌∙◌, subst, arith, inl, inr}
use Rattle.std.specs.Prelude.{◌⊎◌, slice_set, sum_by, reverse, None, Some, Result, Ok, Err, OnOk}
use Rattle.std.specs.List.{AllByRecursion}
use Rattle.std.proofs.lemmas.List.{reverse-append, reverse-reverse, length-set}
use Rattle.cell_walk.specs.declared.walking.Colour.{Colour}
use Rattle.cell_walk.specs.declared.walking.Colour.TheVariants.{White, Grey, Ordered, Circular}
use Rattle.cell_walk.specs.declared.walking.Entry.{Entry}
use Rattle.cell_walk.specs.declared.walking.Progress.{Progress}
use Rattle.cell_walk.specs.Walks.{at_start, IsIn, IsInStack, hue, weight, Opens, IsMarked, Holds, MayBegin, MentionsWithin}
use Rattle.cell_walk.proofs.Turns.{same_or_not, stack_grey, finish, push, circle, advance, finished}
use Rattle.cell_walk.proofs.Hues.{hue_within, hue_same, hue_other, weight_set, in_reverse}

for_each : {A : Type 0} (P : A → Type 0) (xs : List A) → ((x : A) → IsIn x xs → P x) → AllByRecursion P xs
for_each P [] h = tt
for_each P (y ∷ ys) h = (h y (inl refl), for_each P ys (λ x k. h x (inr k)))

module _ (mentions : ℕ → List ℕ) (rest : ℕ → Progress → List ℕ) (first : ℕ → Colour) where
  abbrev Keeps : List Colour → List ℕ → List Entry → Type 0
  Keeps cs order stack = Holds mentions rest first (hue cs) (reverse order) stack

  -- a grey cell is one of the cells
  grey_within : (cs : List Colour) (c : ℕ) → hue cs c ≡ Grey → c < length cs
  grey_within cs c h = hue_within cs c (λ p. let e : White ≡ Grey = sym p ∙ h in cc)

  module _ (cs : List Colour) (order : List ℕ) (stack : List Entry) (top : Entry) (h : Keeps cs order (top ∷ reverse stack)) where
    pub top_within : top.cell < length cs
    top_within = grey_within cs top.cell h.entries.0.grey

    pub rest_within : MentionsWithin (length cs) mentions → (d : ℕ) → IsIn d (rest top.cell top.place) → d < length cs
    rest_within w d i = w top.cell d top_within (h.entries.0.within d i)

    pub stack_within : AllByRecursion (λ e. e.cell < length cs) stack
    stack_within = for_each (λ (e : Entry). e.cell < length cs) stack (λ e i. grey_within cs e.cell (stack_grey mentions rest first (hue cs) (hue cs) (reverse stack) h.entries.3 e.cell (in_reverse e.cell stack (its_cell e stack i))))
      where
        its_cell : (e : Entry) (st : List Entry) → IsIn e st → IsInStack e.cell st
        its_cell e [] i = i
        its_cell e (f ∷ st) (inl p) = inl (ap (λ (x : Entry). x.cell) p)
        its_cell e (f ∷ st) (inr i) = inr (its_cell e st i)

    pub finish_turn : (cs' : List Colour) (order' : List ℕ) (stack' : List Entry) (place : Progress) → Opens (rest top.cell) (hue cs) top.place place None →
        cs' ≡ slice_set cs top.cell Ordered → order' ≡ order ++ top.cell ∷ [] → stack' ≡ stack → Keeps cs' order' (reverse stack')
    finish_turn cs' order' stack' place o e f k =
        let now = finish mentions rest first (hue cs) (hue (slice_set cs top.cell Ordered)) top.cell (λ c n. hue_other cs top.cell Ordered c n) top (reverse order) (reverse stack) refl h
        (finished mentions rest first (hue cs) top.cell top.place place (reverse order) (reverse stack) h o) (hue_same cs top.cell Ordered top_within) in
        let turned : reverse order' ≡ top.cell ∷ reverse order = ap reverse f ∙ reverse-append order (top.cell ∷ []) in
        subst (λ (ds : List Colour). Keeps ds order' (reverse stack')) (sym e)
        (subst (λ (st : List Entry). Keeps (slice_set cs top.cell Ordered) order' (reverse st)) (sym k)
        (subst (λ (ns : List ℕ). Holds mentions rest first (hue (slice_set cs top.cell Ordered)) ns (reverse stack)) (sym turned) now))

    pub descend_turn : ((c : ℕ) → rest c at_start ≡ mentions c) → (cs' : List Colour) (order' : List ℕ) (stack' : List Entry) (place : Progress) (d : ℕ) → d < length cs → Opens (rest top.cell) (hue cs) top.place place (Some d) → hue cs d ≡ White →
        cs' ≡ slice_set cs d Grey → order' ≡ order → stack' ≡ stack ++ (record { cell = top.cell; place = place } ∷ []) ++ record { cell = d; place = at_start } ∷ [] → Keeps cs' order' (reverse stack')
    descend_turn starts cs' order' stack' place d le o white e f k =
        let below : Entry = record { cell = top.cell; place = place } in
        let above : Entry = record { cell = d; place = at_start } in
        let far = advance mentions rest first (hue cs) top.cell top.place place d (reverse order) (reverse stack) h o in
        let now = push mentions rest first (hue cs) (hue (slice_set cs d Grey)) d (λ c n. hue_other cs d Grey c n) at_start (reverse order) (below ∷ reverse stack) far white (hue_same cs d Grey le) (starts d)
        (h.entries.0.within d o.0) in
        let turned : reverse stack' ≡ above ∷ below ∷ reverse stack = ap reverse k ∙ (reverse-append (stack ++ below ∷ []) (above ∷ []) ∙ ap (λ (st : List Entry). above ∷ st) (reverse-append stack (below ∷ []))) in
        subst (λ (ds : List Colour). Keeps ds order' (reverse stack')) (sym e)
        (subst (λ (st : List Entry). Holds mentions rest first (hue (slice_set cs d Grey)) (reverse order') st) (sym turned)
        (subst (λ (ns : List ℕ). Holds mentions rest first (hue (slice_set cs d Grey)) (reverse ns) (above ∷ below ∷ reverse stack)) (sym f) now))

    pub give_up_turn : (cs' : List Colour) (order' : List ℕ) (stack' : List Entry) (place : Progress) (d : ℕ) → Opens (rest top.cell) (hue cs) top.place place (Some d) → hue cs d ≢ White →
        IsMarked (slice_set cs top.cell Circular) cs' stack → order' ≡ order → stack' ≡ [] → Keeps cs' order' (reverse stack')
    give_up_turn cs' order' stack' place d o white m f k =
        let now = circle mentions rest first (hue cs) (hue cs') top (reverse order) (reverse stack) d h (h.entries.0.within d o.0) white o.2 marked others in
        subst (λ (st : List Entry). Keeps cs' order' (reverse st)) (sym k) (subst (λ (ns : List ℕ). Holds mentions rest first (hue cs') (reverse ns) []) (sym f) now)
      where
        turned : (c : ℕ) → IsInStack c (reverse stack) → IsInStack c stack
        turned c i = subst (λ (st : List Entry). IsInStack c st) (reverse-reverse stack) (in_reverse c (reverse stack) i)

        marked : (c : ℕ) → IsInStack c (top ∷ reverse stack) → hue cs' c ≡ Circular
        marked c (inl p) = subst (λ x. hue cs' x ≡ Circular) p
            (m.others top.cell (λ i. h.entries.2 (in_reverse top.cell stack i)) ∙ hue_same cs top.cell Circular top_within)
        marked c (inr i) = m.marked c (turned c i)

        others : (c : ℕ) → (IsInStack c (top ∷ reverse stack) → ⊥) → hue cs' c ≡ hue cs c
        others c n = m.others c (λ i. n (inr (in_reverse c stack i))) ∙ hue_other cs top.cell Circular c (λ p. n (inl (sym p)))

    pub descend_less : (cs' : List Colour) (d : ℕ) → d < length cs → hue cs d ≡ White → cs' ≡ slice_set cs d Grey → sum_by weight cs' < sum_by weight cs
    descend_less cs' d le white e =
        let w = weight_set cs d Grey le in
        let two : weight (hue cs d) ≡ 2 = ap weight white in
        let same : sum_by weight cs' ≡ sum_by weight (slice_set cs d Grey) = ap (sum_by weight) e in
        omega arith

    pub finish_less : (cs' : List Colour) → cs' ≡ slice_set cs top.cell Ordered → sum_by weight cs' < sum_by weight cs
    finish_less cs' e =
        let w = weight_set cs top.cell Ordered top_within in
        let one : weight (hue cs top.cell) ≡ 1 = ap weight h.entries.0.grey in
        let same : sum_by weight cs' ≡ sum_by weight (slice_set cs top.cell Ordered) = ap (sum_by weight) e in
        omega arith

    pub give_up_less : (cs' : List Colour) → IsMarked (slice_set cs top.cell Circular) cs' stack → sum_by weight cs' < sum_by weight cs
    give_up_less cs' m =
        let w = weight_set cs top.cell Circular top_within in
        let one : weight (hue cs top.cell) ≡ 1 = ap weight h.entries.0.grey in
        let le = m.less in
        omega arith

    -- what is in order isn't marked
    pub give_up_keeps : (cs' : List Colour) → IsMarked (slice_set cs top.cell Circular) cs' stack → (c : ℕ) → hue cs c ≡ Ordered → hue cs' c ≡ Ordered
    give_up_keeps cs' m c o =
        m.others c (λ i. clash (stack_grey mentions rest first (hue cs) (hue cs) (reverse stack) h.entries.3 c (in_reverse c stack i)))
        ∙ (hue_other cs top.cell Circular c (λ p. clash (ap (hue cs) p ∙ h.entries.0.grey)) ∙ o)
      where
        clash : hue cs c ≡ Grey → ⊥
        clash g = let e : Grey ≡ Ordered = sym g ∙ o in cc

pub marked_len : (cs cs' : List Colour) (stack : List Entry) (cell : ℕ) → IsMarked (slice_set cs cell Circular) cs' stack → length cs' ≡ length cs
marked_len cs cs' stack cell m = m.len ∙ length-set cs cell Circular

-- what two clauses of a call say together
pub on_ok2 : {A E : Type 0} {P Q T : Type 0} (r : Result A E) → OnOk r P → OnOk r Q → (P → Q → T) → OnOk r T
on_ok2 (Ok x) p q f = f p q
on_ok2 (Err e) p q f = tt

-- what three clauses of a call say together
pub on_ok3 : {A E : Type 0} {P Q S T : Type 0} (r : Result A E) → OnOk r P → OnOk r Q → OnOk r S → (P → Q → S → T) → OnOk r T
on_ok3 (Ok x) p q s f = f p q s
on_ok3 (Err e) p q s f = tt

pub on_ok1 : {A E : Type 0} {P T : Type 0} (r : Result A E) → OnOk r P → (P → T) → OnOk r T
on_ok1 (Ok x) p f = f p
on_ok1 (Err e) p f = tt

module _ (mentions : ℕ → List ℕ) (rest : ℕ → Progress → List ℕ) (first : ℕ → Colour) where
  -- the uppermost was taken off
  pub popped : (cs : List Colour) (order : List ℕ) (old new : List Entry) (top : Entry) → old ≡ new ++ top ∷ [] → Holds mentions rest first (hue cs) (reverse order) (reverse old) → Holds mentions rest first (hue cs) (reverse order) (top ∷ reverse new)
  popped cs order old new top e h = subst (λ (st : List Entry). Holds mentions rest first (hue cs) (reverse order) st) (ap reverse e ∙ reverse-append new (top ∷ [])) h

  -- nothing is on the stack yet, and nothing in the order
  pub at_first : (order : List ℕ) → order ≡ [] → MayBegin mentions first → Holds mentions rest first first (reverse order) []
  at_first order e begin = subst (λ (ns : List ℕ). Holds mentions rest first first (reverse ns) []) (sym e) (record {
    orderly = tt;
    in_order = λ c h. inr h;
    ordered = λ c i. absurd i;
    distinct = tt;
    circles = begin.circles;
    grey = λ c h. absurd (begin.no_grey c h);
    new = λ c h. white c h;
    entries = tt;
  })
    where
      white : (c : ℕ) → ((first c ≡ White) ⊎ (first c ≡ Grey)) → first c ≡ White
      white c (inl h) = h
      white c (inr h) = absurd (begin.no_grey c h)

  -- a cell that was new comes onto an empty stack
  pub begun : (cs cs' : List Colour) (order order' : List ℕ) (stack stack' : List Entry) (d : ℕ) → ((c : ℕ) → rest c at_start ≡ mentions c) → d < length cs → hue cs d ≡ White → stack ≡ [] →
      Holds mentions rest first (hue cs) (reverse order) [] → cs' ≡ slice_set cs d Grey → order' ≡ order → stack' ≡ stack ++ [] ++ record { cell = d; place = at_start } ∷ [] → Holds mentions rest first (hue cs') (reverse order') (reverse stack')
  begun cs cs' order order' stack stack' d starts le white none h e f k =
      let now = push mentions rest first (hue cs) (hue (slice_set cs d Grey)) d (λ c n. hue_other cs d Grey c n) at_start (reverse order) [] h white (hue_same cs d Grey le) (starts d) tt in
      let one : stack' ≡ record { cell = d; place = at_start } ∷ [] = k ∙ ap (λ (st : List Entry). st ++ [] ++ record { cell = d; place = at_start } ∷ []) none in
      subst (λ (ds : List Colour). Holds mentions rest first (hue ds) (reverse order') (reverse stack')) (sym e)
      (subst (λ (st : List Entry). Holds mentions rest first (hue (slice_set cs d Grey)) (reverse order') (reverse st)) (sym one)
      (subst (λ (ns : List ℕ). Holds mentions rest first (hue (slice_set cs d Grey)) (reverse ns) (record { cell = d; place = at_start } ∷ [])) (sym f) now))

-- a cell that gets another colour than white, and what was not white, isn't white
pub seen_set : (cs cs' : List Colour) (d : ℕ) (x : Colour) → d < length cs → x ≢ White → cs' ≡ slice_set cs d x → (c : ℕ) → (hue cs c ≢ White) ⊎ (c ≡ d) → hue cs' c ≢ White
seen_set cs cs' d x le n e c k = subst (λ (ds : List Colour). hue ds c ≢ White) (sym e) (by_cell (same_or_not c d) k)
  where
    by_cell : ((c ≡ d) ⊎ (c ≢ d)) → ((hue cs c ≢ White) ⊎ (c ≡ d)) → hue (slice_set cs d x) c ≢ White
    by_cell (inl p) k q = n (sym (hue_same cs d x le) ∙ (ap (hue (slice_set cs d x)) (sym p) ∙ q))
    by_cell (inr p) (inl k) q = k (sym (hue_other cs d x c p) ∙ q)
    by_cell (inr p) (inr k) q = p k

pub nil_of : (xs : List Entry) → length xs ≡ 0 → xs ≡ []
nil_of [] h = refl
nil_of (x ∷ xs) h = absurd (omega arith)

pub within_len : (mentions : ℕ → List ℕ) (m n : ℕ) → m ≡ n → MentionsWithin n mentions → MentionsWithin m mentions
within_len mentions m n e w = subst (λ (k : ℕ). MentionsWithin k mentions) (sym e) w

pub seen_more : (cs cs' : List Colour) (n : ℕ) → ((c : ℕ) → c < n → hue cs c ≢ White) → ((c : ℕ) → hue cs c ≢ White → hue cs' c ≢ White) → hue cs' n ≢ White → (c : ℕ) → c < n + 1 → hue cs' c ≢ White
seen_more cs cs' n before keeps here c h = by_place (same_or_not c n)
  where
    by_place : ((c ≡ n) ⊎ (c ≢ n)) → hue cs' c ≢ White
    by_place (inl p) = subst (λ (d : ℕ). hue cs' d ≢ White) (sym p) here
    by_place (inr p) = keeps c (before c (omega arith))
