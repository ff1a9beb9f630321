-- What a walk has to show, so that what it found is circular and what it put in order has its value.
use Rattle.std.proofs.Common.{◌≡◌, ℕ, zero, suc, ◌+◌, ◌<◌, ◌≤◌, Bool, true, false, cond, List, [], ◌∷◌, length, refl, ap, sym, ◌∙◌, subst, arith, inl, inr}
use Rattle.std.specs.Prelude.{◌&&◌, ◌||◌, ◌⊎◌}
use Rattle.std.specs.List.{list_any, AllByRecursion}
use Rattle.full_calc.specs.Depth.{circular_at, at_depth}
use Rattle.cell_walk.specs.Walks.{IsIn}

true_or_false : (b : Bool) → (b ≡ true) ⊎ (b ≡ false)
true_or_false true = inl refl
true_or_false false = inr refl

not_both : {b : Bool} → b ≡ true → b ≡ false → ⊥
not_both p q = let clash : true ≡ false = sym p ∙ q in cc

pub first_of_and : (a b : Bool) → a && b ≡ true → a ≡ true
first_of_and true b h = refl
first_of_and false b h = h

pub last_of_and : (a b : Bool) → a && b ≡ true → b ≡ true
last_of_and true b h = h
last_of_and false b h = absurd (cc)

pub and_false : (a b : Bool) → b ≡ false → a && b ≡ false
and_false true b h = h
and_false false b h = refl

both_true : (a b : Bool) → a ≡ true → b ≡ true → a && b ≡ true
both_true a b p q = λ i. p i && q i

module _ {A : Type 0} where
  pub at_each : (P : A → Type 0) (xs : List A) (x : A) → AllByRecursion P xs → IsIn x xs → P x
  at_each P [] x h k = absurd k
  at_each P (y ∷ ys) x h (inl e) = subst P e h.0
  at_each P (y ∷ ys) x h (inr k) = at_each P ys x h.1 k

  pub for_each : (P : A → Type 0) (xs : List A) → ((x : A) → IsIn x xs → P x) → AllByRecursion P xs
  for_each P [] h = tt
  for_each P (y ∷ ys) h = (h y (inl refl), for_each P ys (λ x k. h x (inr k)))

  any_more : (p q : A → Bool) (xs : List A) → ((x : A) → p x ≡ true → q x ≡ true) → list_any p xs ≡ true → list_any q xs ≡ true
  any_more p q [] h k = k
  any_more p q (x ∷ xs) h k = by_first (p x) (q x) (h x) (λ j. any_more p q xs h j) k
    where
      by_first : (a b : Bool) → (a ≡ true → b ≡ true) → (list_any p xs ≡ true → list_any q xs ≡ true) → a || list_any p xs ≡ true → b || list_any q xs ≡ true
      by_first true b f r k = ap (λ c. c || list_any q xs) (f refl)
      by_first false true f r k = refl
      by_first false false f r k = r k

  pub none_of : (p : A → Bool) (xs : List A) → AllByRecursion (λ x. p x ≡ false) xs → list_any p xs ≡ false
  none_of p [] h = refl
  none_of p (x ∷ xs) h = λ i. h.0 i || none_of p xs h.1 i

-- how many pass
counted : {A : Type 0} → (A → Bool) → List A → ℕ
counted p [] = 0
counted p (x ∷ xs) = cond (p x) (suc (counted p xs)) (counted p xs)

module _ {A : Type 0} (p q : A → Bool) (less : (x : A) → q x ≡ true → p x ≡ true) where
  fewer : (xs : List A) → counted q xs ≤ counted p xs
  unfolding counted
  fewer [] = omega arith
  fewer (x ∷ xs) = by_first (p x) (q x) (less x) (fewer xs)
    where
      by_first : (a b : Bool) → (b ≡ true → a ≡ true) → counted q xs ≤ counted p xs → cond b (suc (counted q xs)) (counted q xs) ≤ cond a (suc (counted p xs)) (counted p xs)
      by_first true true f h = omega arith
      by_first true false f h = omega arith
      by_first false true f h = absurd (let e = f refl in cc)
      by_first false false f h = h

  -- both pass the same, or there are fewer
  fewer_or_same : (xs : List A) → AllByRecursion (λ x. q x ≡ p x) xs ⊎ (counted q xs < counted p xs)
  unfolding counted
  fewer_or_same [] = inl tt
  fewer_or_same (x ∷ xs) = by_first (p x) (q x) refl refl (less x) (fewer_or_same xs)
    where
      by_first : (a b : Bool) → p x ≡ a → q x ≡ b → (b ≡ true → a ≡ true) → AllByRecursion (λ y. q y ≡ p y) xs ⊎ (counted q xs < counted p xs) →
          ((q x ≡ p x) × AllByRecursion (λ y. q y ≡ p y) xs) ⊎ (cond (q x) (suc (counted q xs)) (counted q xs) < cond (p x) (suc (counted p xs)) (counted p xs))
      by_first true true d e f (inl h) = inl (e ∙ sym d, h)
      by_first true true d e f (inr h) = inr (rw (d, e) (omega arith))
      by_first true false d e f h = let le = fewer xs in inr (rw (d, e) (omega arith))
      by_first false true d e f h = absurd (let g = f refl in cc)
      by_first false false d e f (inl h) = inl (e ∙ sym d, h)
      by_first false false d e f (inr h) = inr (rw (d, e) h)

counted_most : {A : Type 0} (p : A → Bool) (xs : List A) → counted p xs ≤ length xs
unfolding counted
counted_most p [] = omega arith
counted_most p (x ∷ xs) = by_first (p x) (counted_most p xs)
  where
    by_first : (a : Bool) → counted p xs ≤ length xs → cond a (suc (counted p xs)) (counted p xs) ≤ suc (length xs)
    by_first true h = omega arith
    by_first false h = omega arith

none_counted : {A : Type 0} (p : A → Bool) (xs : List A) → counted p xs ≤ 0 → AllByRecursion (λ x. p x ≡ false) xs
unfolding counted
none_counted p [] h = tt
none_counted p (x ∷ xs) h = by_first (p x) refl (λ k. none_counted p xs k) h
  where
    by_first : (a : Bool) → p x ≡ a → (counted p xs ≤ 0 → AllByRecursion (λ y. p y ≡ false) xs) → cond a (suc (counted p xs)) (counted p xs) ≤ 0 → (p x ≡ false) × AllByRecursion (λ y. p y ≡ false) xs
    by_first true e r h = absurd (omega arith)
    by_first false e r h = (e, r h)

module _ {A : Type 0} (node : A → Bool) (precedents : A → List A) where
  abbrev circ : ℕ → A → Bool
  circ n c = circular_at node precedents n c

  pub circular-node : (n : ℕ) (c : A) → circ n c ≡ true → node c ≡ true
  circular-node zero c h = h
  circular-node (suc n) c h = first_of_and (node c) (list_any (λ d. circ n d) (precedents c)) h

  pub circular-less : (n : ℕ) (c : A) → circ (suc n) c ≡ true → circ n c ≡ true
  circular-less zero c h = circular-node 1 c h
  circular-less (suc n) c h =
      both_true (node c) (list_any (λ d. circ n d) (precedents c)) (circular-node (suc (suc n)) c h)
      (any_more (λ d. circ (suc n) d) (λ d. circ n d) (precedents c) (λ d k. circular-less n d k) (last_of_and (node c) (list_any (λ d. circ (suc n) d) (precedents c)) h))

  -- What a walk finds to be circular is so at every depth, where each one mentions another that was found.
  pub found_circular : (found : A → Bool) → ((c : A) → found c ≡ true → (node c ≡ true) × (list_any found (precedents c) ≡ true)) → (n : ℕ) (c : A) → found c ≡ true → circ n c ≡ true
  found_circular found h zero c k = (h c k).0
  found_circular found h (suc n) c k =
      both_true (node c) (list_any (λ d. circ n d) (precedents c)) (h c k).0
      (any_more found (λ d. circ n d) (precedents c) (λ d j. found_circular found h n d j) (h c k).1)

  -- ---- past the number of nodes nothing changes
  abbrev Agrees : ℕ → Type 0
  Agrees n = (c : A) → circ (suc n) c ≡ circ n c

  agrees_on : (n : ℕ) → Agrees n → Agrees (suc n)
  agrees_on n h c = λ i. node c && list_any (λ d. h d i) (precedents c)

  module _ (cells : List A) (all : (c : A) → node c ≡ true → IsIn c cells) where
    agrees_all : (n : ℕ) → AllByRecursion (λ c. circ (suc n) c ≡ circ n c) cells → Agrees n
    agrees_all n h c = by_node (true_or_false (node c))
      where
        by_node : ((node c ≡ true) ⊎ (node c ≡ false)) → circ (suc n) c ≡ circ n c
        by_node (inl e) = at_each (λ d. circ (suc n) d ≡ circ n d) cells c h (all c e)
        by_node (inr e) = never (suc n) ∙ sym (never n)
          where
            never : (m : ℕ) → circ m c ≡ false
            never m = by_test (true_or_false (circ m c))
              where
                by_test : ((circ m c ≡ true) ⊎ (circ m c ≡ false)) → circ m c ≡ false
                by_test (inl k) = absurd (not_both (circular-node m c k) e)
                by_test (inr k) = k

    settling : (n : ℕ) → Agrees n ⊎ (counted (λ c. circ n c) cells + n ≤ length cells)
    settling zero = inr (let le = counted_most (λ c. circ 0 c) cells in omega arith)
    settling (suc n) = by_before (settling n)
      where
        by_before : (Agrees n ⊎ (counted (λ c. circ n c) cells + n ≤ length cells)) → Agrees (suc n) ⊎ (counted (λ c. circ (suc n) c) cells + suc n ≤ length cells)
        by_before (inl h) = inl (agrees_on n h)
        by_before (inr h) = by_count (fewer_or_same (λ c. circ n c) (λ c. circ (suc n) c) (λ c k. circular-less n c k) cells)
          where
            by_count : (AllByRecursion (λ c. circ (suc n) c ≡ circ n c) cells ⊎ (counted (λ c. circ (suc n) c) cells < counted (λ c. circ n c) cells)) → Agrees (suc n) ⊎ (counted (λ c. circ (suc n) c) cells + suc n ≤ length cells)
            by_count (inl k) = inl (agrees_on n (agrees_all n k))
            by_count (inr k) = inr (omega arith)

    pub settled : Agrees (length cells)
    settled = by_count (settling (length cells))
      where
        by_count : (Agrees (length cells) ⊎ (counted (λ c. circ (length cells) c) cells + length cells ≤ length cells)) → Agrees (length cells)
        by_count (inl h) = h
        by_count (inr h) =
            let none = none_counted (λ c. circ (length cells) c) cells (omega arith) in
            agrees_all (length cells) (for_each (λ c. circ (suc (length cells)) c ≡ circ (length cells) c) cells (λ c k. both_false c (at_each (λ d. circ (length cells) d ≡ false) cells c none k)))
          where
            both_false : (c : A) → circ (length cells) c ≡ false → circ (suc (length cells)) c ≡ circ (length cells) c
            both_false c e = by_test (true_or_false (circ (suc (length cells)) c))
              where
                by_test : ((circ (suc (length cells)) c ≡ true) ⊎ (circ (suc (length cells)) c ≡ false)) → circ (suc (length cells)) c ≡ circ (length cells) c
                by_test (inl k) = absurd (not_both (circular-less (length cells) c k) e)
                by_test (inr k) = k ∙ sym e

    -- at least as deep as there are nodes: the same as at every greater depth
    pub settled_above : (k : ℕ) (c : A) → circ (k + length cells) c ≡ circ (length cells) c
    settled_above zero c = ap (λ m. circ m c) (let e : 0 + length cells ≡ length cells = omega arith in e)
    settled_above (suc k) c = ap (λ m. circ m c) (let e : suc k + length cells ≡ suc (k + length cells) = omega arith in e) ∙ (agree k c ∙ settled_above k c)
      where
        agree : (k : ℕ) → Agrees (k + length cells)
        agree zero = subst Agrees (let e : length cells ≡ 0 + length cells = omega arith in e) settled
        agree (suc k) = subst Agrees (let e : suc (k + length cells) ≡ suc k + length cells = omega arith in e) (agrees_on (k + length cells) (agree k))

    -- circular at the number of nodes: circular at every depth
    pub circular_ever : (c : A) → circ (length cells) c ≡ true → (n : ℕ) → circ n c ≡ true
    circular_ever c h n = less (length cells) n (settled_above n c ∙ h)
      where
        less : (k n : ℕ) → circ (n + k) c ≡ true → circ n c ≡ true
        less zero n h = subst (λ m. circ m c ≡ true) (let e : n + 0 ≡ n = omega arith in e) h
        less (suc k) n h = less k n (circular-less (n + k) c (subst (λ m. circ m c ≡ true) (let e : n + suc k ≡ suc (n + k) = omega arith in e) h))

-- ---- what a walk puts in order
module _ {A V : Type 0} (node : A → Bool) (precedents : A → List A) (bound : ℕ) (fault : V) (base : A → V) (step : A → (A → V) → V) where
  abbrev circular : A → Bool
  circular c = circular_at node precedents bound c

  abbrev value : ℕ → A → V
  value n c = at_depth circular fault base step n c

  -- each one's nodes stand among those before it
  abbrev pub IsOrdered : List A → List A → Type 0
  IsOrdered before [] = Unit {0}
  IsOrdered before (c ∷ cs) = AllByRecursion (λ d. (node d ≡ false) ⊎ IsIn d before) (precedents c) × IsOrdered (c ∷ before) cs

  -- at a depth, and at every greater one, these are not circular
  abbrev AreFree : ℕ → List A → Type 0
  AreFree n cs = (c : A) → IsIn c cs → (k : ℕ) → n ≤ k → circular_at node precedents k c ≡ false

  no_node : (n : ℕ) (c : A) → node c ≡ false → circular_at node precedents n c ≡ false
  no_node n c e = by_test (true_or_false (circular_at node precedents n c))
    where
      by_test : ((circular_at node precedents n c ≡ true) ⊎ (circular_at node precedents n c ≡ false)) → circular_at node precedents n c ≡ false
      by_test (inl k) = absurd (not_both (circular-node node precedents n c k) e)
      by_test (inr k) = k

  one_more_free : (n : ℕ) (before : List A) (c : A) → AreFree n before → AllByRecursion (λ d. (node d ≡ false) ⊎ IsIn d before) (precedents c) → AreFree (suc n) (c ∷ before)
  one_more_free n before c h k x (inl e) zero le = absurd (omega arith)
  one_more_free n before c h k x (inl e) (suc m) le =
      subst (λ y. circular_at node precedents (suc m) y ≡ false) e
      (and_false (node c) (list_any (λ d. circular_at node precedents m d) (precedents c))
      (none_of (λ d. circular_at node precedents m d) (precedents c) (for_each (λ d. circular_at node precedents m d ≡ false) (precedents c) (λ d i. free d (at_each (λ d. (node d ≡ false) ⊎ IsIn d before) (precedents c) d k i)))))
    where
      free : (d : A) → ((node d ≡ false) ⊎ IsIn d before) → circular_at node precedents m d ≡ false
      free d (inl e) = no_node m d e
      free d (inr i) = h d i m (omega arith)
  one_more_free n before c h k x (inr i) m le = h x i m (omega arith)

  ordered_free : (n : ℕ) (before cs : List A) → AreFree n before → IsOrdered before cs → (c : A) → IsIn c cs → (k : ℕ) → n + length cs ≤ k → circular_at node precedents k c ≡ false
  ordered_free n before [] h o c i k le = absurd i
  ordered_free n before (x ∷ cs) h o c (inl e) k le = one_more_free n before x h o.0 c (inl e) k (omega arith)
  ordered_free n before (x ∷ cs) h o c (inr i) k le = ordered_free (suc n) (x ∷ before) cs (one_more_free n before x h o.0) o.1 c i k (omega arith)

  -- Those in order are not circular, where there are no more of them than the bound.
  pub order_free : (cs : List A) → IsOrdered [] cs → length cs ≤ bound → (c : A) → IsIn c cs → circular c ≡ false
  order_free cs o le c i = ordered_free 0 [] cs (λ x k. absurd k) o c i bound (omega arith)

  -- what is asked of the values v
  module _ (v : A → V)
      (same : (c : A) (v w : A → V) → AllByRecursion (λ d. v d ≡ w d) (precedents c) → step c v ≡ step c w)
      (cs : List A) (ordered : IsOrdered [] cs) (few : length cs ≤ bound)
      (computed : (c : A) → IsIn c cs → v c ≡ step c v)
      -- the others that are mentioned: a value that depends on nothing
      (leaves : (c d : A) → IsIn c cs → IsIn d (precedents c) → node d ≡ false → (n : ℕ) → value n d ≡ v d) where
    abbrev HaveValue : ℕ → List A → Type 0
    HaveValue n before = (c : A) → IsIn c before → (k : ℕ) → n ≤ k → value k c ≡ v c

    one_more_value : (n : ℕ) (before : List A) (c : A) → IsIn c cs → HaveValue n before → AllByRecursion (λ d. (node d ≡ false) ⊎ IsIn d before) (precedents c) → HaveValue (suc n) (c ∷ before)
    one_more_value n before c here h k x (inl e) zero le = absurd (omega arith)
    one_more_value n before c here h k x (inl e) (suc m) le =
        subst (λ y. value (suc m) y ≡ v y) e
        (ap (λ b. cond b fault (step c (value m))) (order_free cs ordered few c here)
        ∙ (same c (value m) v (for_each (λ d. value m d ≡ v d) (precedents c) (λ d i. known d i (at_each (λ d. (node d ≡ false) ⊎ IsIn d before) (precedents c) d k i)))
        ∙ sym (computed c here)))
      where
        known : (d : A) → IsIn d (precedents c) → ((node d ≡ false) ⊎ IsIn d before) → value m d ≡ v d
        known d i (inl e) = leaves c d here i e m
        known d i (inr j) = h d j m (omega arith)
    one_more_value n before c here h k x (inr i) m le = h x i m (omega arith)

    ordered_values : (n : ℕ) (before rest : List A) → ((c : A) → IsIn c rest → IsIn c cs) → HaveValue n before → IsOrdered before rest → (c : A) → IsIn c rest → (k : ℕ) → n + length rest ≤ k → value k c ≡ v c
    ordered_values n before [] sub h o c i k le = absurd i
    ordered_values n before (x ∷ rest) sub h o c (inl e) k le = one_more_value n before x (sub x (inl refl)) h o.0 c (inl e) k (omega arith)
    ordered_values n before (x ∷ rest) sub h o c (inr i) k le = ordered_values (suc n) (x ∷ before) rest (λ y j. sub y (inr j)) (one_more_value n before x (sub x (inl refl)) h o.0) o.1 c i k (omega arith)

    -- Values that were computed in the order are those of the bound, and of every greater depth.
    pub order_value : (c : A) → IsIn c cs → (k : ℕ) → bound ≤ k → value k c ≡ v c
    order_value c i k le = ordered_values 0 [] cs (λ y j. j) (λ x j. absurd j) ordered c i k (omega arith)

-- ---- from its level on a value stays
module _ {A V : Type 0} (node : A → Bool) (precedents : A → List A) (circular : A → Bool) (fault : V) (base : A → V) (step : A → (A → V) → V)
    (same : (c : A) (v w : A → V) → AllByRecursion (λ d. v d ≡ w d) (precedents c) → step c v ≡ step c w)
    -- what stands at its place in the sheet
    (live : A → Type 0)
    (leads : (c d : A) → live c → IsIn d (precedents c) → live d)
    (leaf : (c : A) → live c → node c ≡ false → (v : A → V) → base c ≡ step c v) where
  abbrev depth_value : ℕ → A → V
  depth_value n c = at_depth circular fault base step n c

  leaf_stays : (c : A) → live c → node c ≡ false → (m n : ℕ) → depth_value m c ≡ depth_value n c
  leaf_stays c l e zero zero = refl
  leaf_stays c l e zero (suc n) = ap (λ x. cond (circular c) fault x) (leaf c l e (depth_value n))
  leaf_stays c l e (suc m) zero = ap (λ x. cond (circular c) fault x) (sym (leaf c l e (depth_value m)))
  leaf_stays c l e (suc m) (suc n) = ap (λ x. cond (circular c) fault x) (sym (leaf c l e (depth_value m)) ∙ leaf c l e (depth_value n))

  all_not : (p : A → Bool) (xs : List A) → list_any p xs ≡ false → AllByRecursion (λ x. p x ≡ false) xs
  all_not p [] h = tt
  all_not p (x ∷ xs) h = by_first (p x) refl (λ k. all_not p xs k) h
    where
      by_first : (b : Bool) → p x ≡ b → (list_any p xs ≡ false → AllByRecursion (λ y. p y ≡ false) xs) → b || list_any p xs ≡ false → (p x ≡ false) × AllByRecursion (λ y. p y ≡ false) xs
      by_first true e r h = absurd (cc)
      by_first false e r h = (e, r h)

  -- a node that isn't circular at a depth has its value from that depth on
  pub stays : (m : ℕ) (c : A) → live c → circular_at node precedents m c ≡ false → (k : ℕ) → depth_value (k + m) c ≡ depth_value m c
  stays zero c l e k = leaf_stays c l e (k + 0) 0
  stays (suc m) c l e k = by_node (true_or_false (node c)) (λ d j f. stays m d j f k)
    where
      deeper : suc (k + m) ≡ k + suc m
      deeper = omega arith

      by_node : ((node c ≡ true) ⊎ (node c ≡ false)) → ((d : A) → live d → circular_at node precedents m d ≡ false → depth_value (k + m) d ≡ depth_value m d) → depth_value (k + suc m) c ≡ depth_value (suc m) c
      by_node (inr f) r = leaf_stays c l f (k + suc m) (suc m)
      by_node (inl f) r =
          let free = all_not (λ d. circular_at node precedents m d) (precedents c) (ap (λ b. b && list_any (λ d. circular_at node precedents m d) (precedents c)) (sym f) ∙ e) in
          ap (λ n. depth_value n c) (sym deeper)
          ∙ ap (λ x. cond (circular c) fault x) (same c (depth_value (k + m)) (depth_value m)
          (for_each (λ d. depth_value (k + m) d ≡ depth_value m d) (precedents c) (λ d i. r d (leads c d l i) (at_each (λ d. circular_at node precedents m d ≡ false) (precedents c) d free i))))

-- ---- cells of which two sheets show the same
module _ {A : Type 0} (node node' : A → Bool) (precedents precedents' : A → List A) (clean : A → Type 0)
    (nodes : (c : A) → clean c → node c ≡ node' c)
    (leads : (c : A) → clean c → precedents c ≡ precedents' c)
    (closed : (c d : A) → clean c → IsIn d (precedents c) → clean d) where
  any_same : (p q : A → Bool) (xs : List A) → AllByRecursion (λ x. p x ≡ q x) xs → list_any p xs ≡ list_any q xs
  any_same p q [] h = refl
  any_same p q (x ∷ xs) h = λ i. h.0 i || any_same p q xs h.1 i

  pub same_depth : (n : ℕ) (c : A) → clean c → circular_at node precedents n c ≡ circular_at node' precedents' n c
  same_depth zero c h = nodes c h
  same_depth (suc n) c h =
      ap (λ b. node c && b) (any_same (λ d. circular_at node precedents n d) (λ d. circular_at node' precedents' n d) (precedents c)
      (for_each (λ d. circular_at node precedents n d ≡ circular_at node' precedents' n d) (precedents c) (λ d i. same_depth n d (closed c d h i))))
      ∙ (λ i. nodes c h i && list_any (λ d. circular_at node' precedents' n d) (leads c h i))

  -- circular in the one, circular in the other
  module _ (cells cells' : List A) (all : (c : A) → node c ≡ true → IsIn c cells) (all' : (c : A) → node' c ≡ true → IsIn c cells') where
    pub same_circular : (c : A) → clean c → circular_at node precedents (length cells) c ≡ circular_at node' precedents' (length cells') c
    same_circular c h = both (circular_at node precedents (length cells) c) (circular_at node' precedents' (length cells') c) refl refl
      where
        both : (a b : Bool) → circular_at node precedents (length cells) c ≡ a → circular_at node' precedents' (length cells') c ≡ b → a ≡ b
        both true true p q = refl
        both false false p q = refl
        both true false p q = absurd (not_both (sym (same_depth (length cells') c h) ∙ circular_ever node precedents cells all c p (length cells')) q)
        both false true p q = absurd (not_both (same_depth (length cells) c h ∙ circular_ever node' precedents' cells' all' c q (length cells)) p)

    module _ {V : Type 0} (fault : V) (base base' : A → V) (step step' : A → (A → V) → V)
        (bases : (c : A) → clean c → base c ≡ base' c)
        (steps : (c : A) (v w : A → V) → clean c → AllByRecursion (λ d. v d ≡ w d) (precedents c) → step c v ≡ step' c w) where
      pub same_value : (n : ℕ) (c : A) → clean c →
          at_depth (λ d. circular_at node precedents (length cells) d) fault base step n c ≡ at_depth (λ d. circular_at node' precedents' (length cells') d) fault base' step' n c
      same_value zero c h = λ i. cond (same_circular c h i) fault (bases c h i)
      same_value (suc n) c h =
          let before = at_depth (λ d. circular_at node precedents (length cells) d) fault base step n in
          let after = at_depth (λ d. circular_at node' precedents' (length cells') d) fault base' step' n in
          let e = steps c before after h (for_each (λ d. before d ≡ after d) (precedents c) (λ d i. same_value n d (closed c d h i))) in
          λ i. cond (same_circular c h i) fault (e i)

-- what is no node is never circular
pub no_circle : {A : Type 0} (node : A → Bool) (precedents : A → List A) (n : ℕ) (c : A) → node c ≡ false → circular_at node precedents n c ≡ false
no_circle node precedents zero c e = e
no_circle node precedents (suc n) c e = ap (λ b. b && list_any (λ d. circular_at node precedents n d) (precedents c)) e
