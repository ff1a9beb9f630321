-- Cells that may be skipped, and runs of cells.
use Rattle.std.proofs.Common.{◌≡◌, ℕ, zero, suc, ◌+◌, ◌<◌, ◌≤◌, Bool, true, false, List, [], ◌∷◌, ◌++◌, length, get_or, take, refl, ap, sym, ◌∙◌, subst, arith, inl, inr}
use Rattle.std.specs.Prelude.{◌-◌, ◌⊎◌, nat_lt, drop}
use Rattle.std.proofs.lemmas.Bool.Decides.{nat_tests}
use Rattle.cell_walk.specs.declared.walking.Colour.{Colour}
use Rattle.cell_walk.specs.declared.walking.Colour.TheVariants.{Ordered}
use Rattle.cell_walk.specs.declared.walking.Interval.{Interval}
use Rattle.cell_walk.specs.Walks.{cells_from, interval_cells, IsIn, hue}
use Rattle.cell_walk.specs.Skips.{MaySkip}

less_or_not : (a b : ℕ) → (a < b) ⊎ (b ≤ a)
less_or_not a b = by_test (nat_lt a b) refl
  where
    by_test : (t : Bool) → nat_lt a b ≡ t → (a < b) ⊎ (b ≤ a)
    by_test true e = inl (grind (arith, nat_tests))
    by_test false e = inr (grind (arith, nat_tests))

-- ---- runs
cells_in : (c first count : ℕ) → IsIn c (cells_from first count) → (first ≤ c) × (c < first + count)
cells_in c first zero h = absurd h
cells_in c first (suc count) (inl p) = (omega arith, omega arith)
cells_in c first (suc count) (inr h) = let r = cells_in c (suc first) count h in let a = r.0 in let b = r.1 in (omega (arith, a), omega (arith, b))

in_cells : (c first count : ℕ) → first ≤ c → c < first + count → IsIn c (cells_from first count)
in_cells c first zero h k = absurd (omega arith)
in_cells c first (suc count) h k = by_first (less_or_not first c) (λ l. in_cells c (suc first) count l (omega arith))
  where
    by_first : ((first < c) ⊎ (c ≤ first)) → (suc first ≤ c → IsIn c (cells_from (suc first) count)) → IsIn c (cells_from first (suc count))
    by_first (inl l) f = inr (f (omega arith))
    by_first (inr l) f = inl (let e : first ≡ c = omega arith in e)

join_cases : (d : ℕ) (xs ys : List ℕ) → IsIn d (xs ++ ys) → IsIn d xs ⊎ IsIn d ys
join_cases d [] ys h = inr h
join_cases d (x ∷ xs) ys (inl e) = inl (inl e)
join_cases d (x ∷ xs) ys (inr h) = more (join_cases d xs ys h)
  where
    more : (IsIn d xs ⊎ IsIn d ys) → IsIn d (x ∷ xs) ⊎ IsIn d ys
    more (inl i) = inl (inr i)
    more (inr i) = inr i

in_join : (d : ℕ) (xs ys : List ℕ) → (IsIn d xs ⊎ IsIn d ys) → IsIn d (xs ++ ys)
in_join d [] ys (inl h) = absurd h
in_join d [] ys (inr h) = h
in_join d (x ∷ xs) ys (inl (inl e)) = inl e
in_join d (x ∷ xs) ys (inl (inr h)) = inr (in_join d xs ys (inl h))
in_join d (x ∷ xs) ys (inr h) = inr (in_join d xs ys (inr h))

module _ (now more : List ℕ) (run : Interval) (is : now ≡ interval_cells run ++ more) where
  pub run_in : (c : ℕ) → run.first ≤ c → c < run.end → IsIn c now
  run_in c h k = subst (λ (xs : List ℕ). IsIn c xs) (sym is) (in_join c (interval_cells run) more (inl (in_cells c run.first (run.end - run.first) h (omega arith))))

  pub behind_in : (c : ℕ) → IsIn c more → IsIn c now
  behind_in c h = subst (λ (xs : List ℕ). IsIn c xs) (sym is) (in_join c (interval_cells run) more (inr h))

  -- the run was passed over
  pub run_passed : (hue : ℕ → Colour) (from : List ℕ) → ((c : ℕ) → run.first ≤ c → c < run.end → hue c ≡ Ordered) → ((x : ℕ) → IsIn x from → (hue x ≡ Ordered) ⊎ IsIn x now) → (x : ℕ) → IsIn x from → (hue x ≡ Ordered) ⊎ IsIn x more
  run_passed hue from all h x i = by_left (h x i)
    where
      by_part : (IsIn x (interval_cells run) ⊎ IsIn x more) → (hue x ≡ Ordered) ⊎ IsIn x more
      by_part (inl k) = let r = cells_in x run.first (run.end - run.first) k in let a = r.0 in let b = r.1 in inl (all x a (omega (arith, a, b)))
      by_part (inr k) = inr k

      by_left : ((hue x ≡ Ordered) ⊎ IsIn x now) → (hue x ≡ Ordered) ⊎ IsIn x more
      by_left (inl q) = inl q
      by_left (inr k) = by_part (join_cases x (interval_cells run) more (subst (λ (xs : List ℕ). IsIn x xs) is k))

  length-cells : (first count : ℕ) → length (cells_from first count ++ more) ≡ count + length more
  length-cells first zero = omega arith
  length-cells first (suc count) = let r = length-cells (suc first) count in omega (arith, r)

  pub run_less : run.first < run.end → length more < length now
  run_less h = let e = ap (λ (xs : List ℕ). length xs) is ∙ length-cells run.first (run.end - run.first) in omega (arith, e, h)

-- ---- what may be skipped

-- what is in order stays so
pub still_skips : (cs cs' : List Colour) (after after' : List ℕ) → MaySkip cs after → after' ≡ after → length cs' ≡ length cs → ((c : ℕ) → hue cs c ≡ Ordered → hue cs' c ≡ Ordered) → MaySkip cs' after'
still_skips cs cs' after after' m same len keeps = subst (λ (xs : List ℕ). MaySkip cs' xs) (sym same) (record {
  len = m.len ∙ sym len;
  ahead = m.ahead;
  ordered = λ c d h k j. keeps d (m.ordered c d h k j);
})

-- ---- at first
pub cells_push : (first count : ℕ) → cells_from first count ++ (first + count) ∷ [] ≡ cells_from first (count + 1)
cells_push first zero = let e : first + 0 ≡ first = omega arith in ap (λ c. c ∷ []) e
cells_push first (suc count) =
    let e : first + suc count ≡ suc first + count = omega arith in
    let r = cells_push (suc first) count in
    ap (λ c. first ∷ (cells_from (suc first) count ++ c ∷ [])) e ∙ (ap (λ (cs : List ℕ). first ∷ cs) r ∙ ap (cells_from first) (let q : suc (count + 1) ≡ suc count + 1 = omega arith in q))

cells_length : (first count : ℕ) → length (cells_from first count) ≡ count
cells_length first zero = refl
cells_length first (suc count) = ap suc (cells_length (suc first) count)

cells_at : (first count i : ℕ) → i < count → get_or (cells_from first count) i 0 ≡ first + i
cells_at first zero i h = absurd (omega arith)
cells_at first (suc count) zero h = omega arith
cells_at first (suc count) (suc i) h = let r = cells_at (suc first) count i (omega arith) in r ∙ (let e : suc first + i ≡ first + suc i = omega arith in e)

pub first_skips : (colours : List Colour) (count : ℕ) (after : List ℕ) → after ≡ cells_from 1 count → count ≡ length colours → MaySkip colours after
first_skips colours count after is all = subst (λ (xs : List ℕ). MaySkip colours xs) (sym is) (record {
  len = cells_length 1 count ∙ all;
  ahead = λ c h. let e = at c h in omega (arith, e);
  ordered = λ c d h k j. absurd (let e = at c h in omega (arith, e, k, j));
})
  where
    at : (c : ℕ) → c < length (cells_from 1 count) → get_or (cells_from 1 count) c 0 ≡ 1 + c
    at c h = cells_at 1 count c (let l = cells_length 1 count in omega (arith, h, l))

-- a slice of a whole list was written
pub written_back : (xs new : List ℕ) (n : ℕ) → n ≡ length xs → length new ≡ length xs → take n (new ++ drop (length new) xs) ≡ new
written_back [] [] zero e l = refl
written_back [] [] (suc n) e l = absurd (omega arith)
written_back [] (y ∷ ys) n e l = absurd (omega arith)
written_back (x ∷ xs) [] n e l = absurd (omega arith)
written_back (x ∷ xs) (y ∷ ys) zero e l = absurd (omega arith)
written_back (x ∷ xs) (y ∷ ys) (suc n) e l = ap (λ (zs : List ℕ). y ∷ zs) (written_back xs ys n (omega arith) (omega arith))
