-- What the counts of visible lines say.
use Rattle.std.proofs.Common.{◌≡◌, ℕ, zero, suc, ◌+◌, ◌<◌, ◌≤◌, Bool, true, false, cond, List, [], ◌∷◌, ◌++◌, length, take, refl, ap, sym, ◌∙◌, arith, inl, inr, Some}
use Rattle.std.specs.Prelude.{◌⊎◌, min, slice_get, slice_index_or}
use Rattle.std.proofs.lemmas.Option.{get_or_from_slice_get, slice_get_within}
use Rattle.std.proofs.lemmas.List.{take_more, take_all}
use Rattle.marked_lines.specs.Marks.{visible_count, visible_before}
use Rattle.marked_lines.proofs.Positions.{visible_before-all, visible_count-le}
use Rattle.sheet_graph.specs.Cursor.{less_or_not}
use Rattle.full_calc.specs.Counted.{counts_from, AreCounts}

length-counts : (n : ℕ) (marks : List Bool) → length (counts_from n marks) ≡ length marks + 1
length-counts n [] = omega arith
length-counts n (true ∷ marks) = let e = length-counts n marks in omega (arith, e)
length-counts n (false ∷ marks) = let e = length-counts (suc n) marks in omega (arith, e)

count_at : (n : ℕ) (marks : List Bool) (p d : ℕ) → p ≤ length marks → slice_index_or (counts_from n marks) p d ≡ n + visible_before marks p
count_at n [] zero d h = omega arith
count_at n [] (suc p) d h = absurd (omega arith)
count_at n (true ∷ marks) zero d h = omega arith
count_at n (true ∷ marks) (suc p) d h = count_at n marks p d (omega arith)
count_at n (false ∷ marks) zero d h = omega arith
count_at n (false ∷ marks) (suc p) d h = count_at (suc n) marks p d (omega arith) ∙ (let e : suc n + visible_before marks p ≡ n + suc (visible_before marks p) = omega arith in e)

count_before : (marks : List Bool) (p d : ℕ) → p ≤ length marks → slice_index_or (counts_from 0 marks) p d ≡ visible_before marks p
count_before marks p d h = count_at 0 marks p d h ∙ (let e : 0 + visible_before marks p ≡ visible_before marks p = omega arith in e)

-- behind the last line all are counted
past_all : (marks : List Bool) (p : ℕ) → length marks ≤ p → visible_before marks p ≡ visible_before marks (length marks)
past_all marks p h = ap visible_count (take_all p marks h) ∙ sym (ap visible_count (take_all (length marks) marks (omega arith)))

-- what is looked up for a position
pub count_here : (marks : List Bool) (before : List ℕ) (p k d : ℕ) → AreCounts marks before → k ≡ min p (length marks) → slice_index_or before k d ≡ visible_before marks p
count_here marks before p k d h e = ap (λ (ns : List ℕ). slice_index_or ns k d) h.each ∙ by_place (less_or_not p (length marks))
  where
    by_place : ((p < length marks) ⊎ (length marks ≤ p)) → slice_index_or (counts_from 0 marks) k d ≡ visible_before marks p
    by_place (inl l) = count_before marks k d (omega arith) ∙ ap (visible_before marks) (let s : k ≡ p = omega arith in s)
    by_place (inr l) = count_before marks k d (omega arith) ∙ (ap (visible_before marks) (let s : k ≡ length marks = omega arith in s) ∙ sym (past_all marks p l))

pub count_inside : (marks : List Bool) (before : List ℕ) (p k : ℕ) → AreCounts marks before → k ≡ min p (length marks) → k < length before
count_inside marks before p k h e = let l = ap (λ (ns : List ℕ). length ns) h.each ∙ length-counts 0 marks in omega (arith, e, l)

pub count_few : (marks : List Bool) (p : ℕ) → visible_before marks p ≤ length marks
count_few marks p = let a = visible_before-all marks p in let b = visible_count-le marks in omega (arith, a, b)

-- ---- one line more
counts_push : (n : ℕ) (marks : List Bool) (b : Bool) → counts_from n (marks ++ b ∷ []) ≡ counts_from n marks ++ (n + visible_count (marks ++ b ∷ [])) ∷ []
counts_push n [] true = λ i. n ∷ (let e : n ≡ n + 0 = omega arith in e) i ∷ []
counts_push n [] false = λ i. n ∷ (let e : suc n ≡ n + 1 = omega arith in e) i ∷ []
counts_push n (true ∷ marks) b = ap (λ ns. n ∷ ns) (counts_push n marks b)
counts_push n (false ∷ marks) b =
    ap (λ ns. n ∷ ns) (counts_push (suc n) marks b)
    ∙ (λ i. n ∷ counts_from (suc n) marks ++ (let e : suc n + visible_count (marks ++ b ∷ []) ≡ n + suc (visible_count (marks ++ b ∷ [])) = omega arith in e) i ∷ [])

counts_more_by : (marks : List Bool) (b : Bool) → counts_from 0 (marks ++ b ∷ []) ≡ counts_from 0 marks ++ visible_count (marks ++ b ∷ []) ∷ []
counts_more_by marks b = counts_push 0 marks b ∙ (λ i. counts_from 0 marks ++ (let e : 0 + visible_count (marks ++ b ∷ []) ≡ visible_count (marks ++ b ∷ []) = omega arith in e) i ∷ [])

count_push : (marks : List Bool) (b : Bool) → visible_count (marks ++ b ∷ []) ≡ cond b (visible_count marks) (visible_count marks + 1)
count_push [] true = refl
count_push [] false = refl
count_push (true ∷ marks) b = count_push marks b
count_push (false ∷ marks) true = let e = count_push marks true in omega (arith, e)
count_push (false ∷ marks) false = let e = count_push marks false in omega (arith, e)

-- the counts of the first so many lines, but for the last number, which is kept apart
pub record AreCountsTo (marks : List Bool) (i count : ℕ) (before : List ℕ) : Type 0 where
  pub within : count ≤ i
  pub count_is : count ≡ visible_before marks i
  pub each : before ++ count ∷ [] ≡ counts_from 0 (take i marks)

pub no_counts : (marks : List Bool) (before : List ℕ) → before ≡ [] → AreCountsTo marks 0 0 before
no_counts marks before e = record {
  within = omega arith;
  count_is = refl;
  each = ap (λ (ns : List ℕ). ns ++ 0 ∷ []) e;
}

pub counts_more : (marks : List Bool) (i count next : ℕ) (before after : List ℕ) → i < length marks → AreCountsTo marks i count before → after ≡ before ++ count ∷ [] → next ≡ cond (slice_index_or marks i true) count (count + 1) → AreCountsTo marks (i + 1) next after
counts_more marks i count next before after l h a s = record {
  within = by_mark (slice_index_or marks i true) s;
  count_is = is;
  each =
      (λ k. (a ∙ h.each) k ++ (is ∙ ap visible_count (take_more marks i true l)) k ∷ [])
      ∙ (sym (counts_more_by (take i marks) (slice_index_or marks i true)) ∙ ap (counts_from 0) (sym (take_more marks i true l)));
}
  where
    by_mark : (b : Bool) → next ≡ cond b count (count + 1) → next ≤ i + 1
    by_mark true e = let w = h.within in omega (arith, e, w)
    by_mark false e = let w = h.within in omega (arith, e, w)

    is : next ≡ visible_before marks (i + 1)
    is =
        s
        ∙ ((λ k. cond (slice_index_or marks i true) (h.count_is k) (h.count_is k + 1))
        ∙ (sym (count_push (take i marks) (slice_index_or marks i true)) ∙ ap visible_count (sym (take_more marks i true l))))

pub all_counts : (marks : List Bool) (i count : ℕ) (before after : List ℕ) → length marks ≤ 16000 → length marks ≤ i → AreCountsTo marks i count before → after ≡ before ++ count ∷ [] → AreCounts marks after
all_counts marks i count before after few l h a = record {
  few = few;
  each = a ∙ (h.each ∙ ap (counts_from 0) (take_all i marks l));
}

-- ---- marks that are taken one after another
pub marks_more : (marks : List Bool) (p : ℕ) (m : Bool) (before after : List Bool) → before ≡ take p marks → after ≡ before ++ m ∷ [] → slice_get marks p ≡ Some m → after ≡ take (p + 1) marks
marks_more marks p m before after b a g =
    a ∙ ((λ i. b i ++ sym (get_or_from_slice_get marks p m m g) i ∷ []) ∙ sym (take_more marks p m (slice_get_within marks p m g)))

pub all_marks : (marks before : List Bool) (p : ℕ) → before ≡ take p marks → length marks ≤ p → before ≡ marks
all_marks marks before p b h = b ∙ take_all p marks h
