-- the greatest nesting at hand never falls
use Rattle.std.proofs.Common.{◌≡◌, ◌≢◌, ℕ, ◌++◌, ◌<◌, ◌≤◌, max, Bool, true, false, cond, nat_lt, List, [], ◌∷◌, Option, Some, None, Err, refl, ap, sym, ◌∙◌, arith}
use Rattle.std.specs.Prelude.{reverse}
use Rattle.std.proofs.lemmas.Bool.{lt-ltb}
use Rattle.std.proofs.lemmas.List.{reverse-append, reverse-reverse}
use Rattle.formula_tree.specs.Precedence.{precedence_of_operator}
use Rattle.formula_tree.specs.declared.operators.BinOp.TheVariants.{Add, Sub}
use Rattle.formula_tree.specs.Tokens.{TokenValue, sign, opening, closing, semicolon}
use Rattle.formula_read.specs.declared.tree_err.TreeErr.{TreeErr}
use Rattle.formula_read.specs.declared.tree_err.TreeErr.TheVariants.{Outside, Deep, Memory}
use Rattle.formula_read.specs.declared.stack.Frame.{Frame}
use Rattle.formula_read.specs.declared.stack.Frame.TheVariants.{Sign, Left, Group, Call}
use Rattle.formula_read.specs.declared.stack.Side.{Side}
use Rattle.formula_read.specs.declared.stack.Side.TheVariants.{Head, Wants, Named, Has}
use Rattle.formula_read.specs.Nested.{Nested, Makes}
use Rattle.formula_read.specs.Stack.{State, wanted, completed, reduced, closed, parted, ended_call, begun, call_opened, ended, stepped, state_after, alone, finished, finished_at}
use Rattle.formula_read.specs.Steps.{frame_nesting, frames_nesting, side_nesting, state_nesting, Reduces, IsStepOutcome, Answers}

joined_deeper : (f : Frame) (x : Nested) → max x.nesting (frame_nesting f) ≤ (completed f x).nesting
joined_deeper (Sign op) x = omega arith
joined_deeper (Left y op) x = omega arith
joined_deeper Group x = omega arith
joined_deeper (Call fun args) x = omega arith

abbrev pair_nesting : Nested × List Frame → ℕ
pair_nesting s = max s.0.nesting (frames_nesting s.1)

settled_deeper : (p : ℕ) (x : Nested) (fs : List Frame) → pair_nesting (x, fs) ≤ pair_nesting (reduced p x fs)
settled_deeper p x [] = omega arith
settled_deeper p x (f ∷ fs) = by_test (nat_lt p (wanted f)) (settled_deeper p (completed f x) fs)
  where
    by_test : (t : Bool) → pair_nesting (completed f x, fs) ≤ pair_nesting (reduced p (completed f x) fs) →
        pair_nesting (x, f ∷ fs) ≤ pair_nesting (cond t (reduced p (completed f x) fs) (x, f ∷ fs))
    by_test true more = let here = joined_deeper f x in omega arith
    by_test false more = omega arith

operand_deeper : (p : ℕ) (x : Nested) (fs : List Frame) → x.nesting ≤ (reduced p x fs).0.nesting
operand_deeper p x [] = omega arith
operand_deeper p x (f ∷ fs) = by_test (nat_lt p (wanted f)) (operand_deeper p (completed f x) fs)
  where
    by_test : (t : Bool) → (completed f x).nesting ≤ (reduced p (completed f x) fs).0.nesting →
        x.nesting ≤ (cond t (reduced p (completed f x) fs) (x, f ∷ fs)).0.nesting
    by_test true more = let here = joined_deeper f x in omega arith
    by_test false more = omega arith

-- a step that leads somewhere
abbrev Deepens : ℕ → Option State → Type 0
Deepens n None = Unit {0}
Deepens n (Some s) = n ≤ state_nesting s

closed_deeper : (s : Nested × List Frame) → Deepens (pair_nesting s) (closed s)
closed_deeper (x, []) = tt
closed_deeper (x, f ∷ fs) = let here = joined_deeper f x in omega arith

parted_deeper : (s : Nested × List Frame) → Deepens (pair_nesting s) (parted s)
parted_deeper (x, []) = tt
parted_deeper (x, Call fun args ∷ fs) = omega arith
parted_deeper (x, f ∷ fs) = tt

ended_call_deeper : (fs : List Frame) → Deepens (frames_nesting fs) (ended_call fs)
ended_call_deeper [] = tt
ended_call_deeper (Call fun args ∷ fs) = omega arith
ended_call_deeper (f ∷ fs) = tt

deepens_more : (m n : ℕ) (o : Option State) → m ≤ n → Deepens n o → Deepens m o
deepens_more m n None h d = tt
deepens_more m n (Some s) h d = omega arith

begun_deeper : (fs : List Frame) (t : TokenValue) → Deepens (frames_nesting fs) (begun fs t)
begun_deeper fs (sign Add) = omega arith
begun_deeper fs (sign Sub) = omega arith
begun_deeper fs (sign op) = tt
begun_deeper fs closing = ended_call_deeper fs
begun_deeper fs semicolon = tt
begun_deeper fs t = omega arith

opened_deeper : (fs : List Frame) (t : TokenValue) → Deepens (frames_nesting fs) (call_opened fs t)
opened_deeper fs opening = omega arith
opened_deeper fs t = tt

ended_deeper : (x : Nested) (fs : List Frame) (t : TokenValue) → Deepens (pair_nesting (x, fs)) (ended x fs t)
ended_deeper x fs (sign op) = let more = settled_deeper (precedence_of_operator op) x fs in omega arith
ended_deeper x fs closing = deepens_more _ _ _ (settled_deeper 1 x fs) (closed_deeper (reduced 1 x fs))
ended_deeper x fs semicolon = deepens_more _ _ _ (settled_deeper 1 x fs) (parted_deeper (reduced 1 x fs))
ended_deeper x fs t = tt

stepped_deeper : (p : Side) (fs : List Frame) (t : TokenValue) → Deepens (max (side_nesting p) (frames_nesting fs)) (stepped p fs t)
stepped_deeper Head fs t = omega arith
stepped_deeper Wants fs t = deepens_more _ (frames_nesting fs) (begun fs t) (omega arith) (begun_deeper fs t)
stepped_deeper Named fs t = deepens_more _ (frames_nesting fs) (call_opened fs t) (omega arith) (opened_deeper fs t)
stepped_deeper (Has x) fs t = ended_deeper x fs t

walked_deeper : (n : ℕ) (o : Option State) (ts : List TokenValue) → Deepens n o → Deepens n (state_after o ts)
walked_deeper n None ts d = tt
walked_deeper n (Some s) [] d = d
walked_deeper n (Some s) (t ∷ ts) d =
    walked_deeper n (stepped s.side s.frames t) ts (deepens_more n _ (stepped s.side s.frames t) d (stepped_deeper s.side s.frames t))

abbrev IsAbove : ℕ → Option Nested → Type 0
IsAbove n None = Unit {0}
IsAbove n (Some x) = n ≤ x.nesting

alone_deeper : (n : ℕ) (s : Nested × List Frame) → n ≤ pair_nesting s → IsAbove n (alone s)
alone_deeper n (x, []) h = omega arith
alone_deeper n (x, f ∷ fs) h = tt

finished_deeper : (n : ℕ) (o : Option State) → Deepens n o → IsAbove n (finished_at o)
finished_deeper n None d = tt
finished_deeper n (Some s) d = by_side s.side d
  where
    by_side : (p : Side) → n ≤ max (side_nesting p) (frames_nesting s.frames) → IsAbove n (finished p s.frames)
    by_side Head d = tt
    by_side Wants d = tt
    by_side Named d = tt
    by_side (Has x) d = let more = settled_deeper 1 x s.frames in alone_deeper n (reduced 1 x s.frames) (omega arith)

-- a refused step refuses the text
pub refused_step : (e : TreeErr) (fs : List Frame) (o : Option State) (ts : List TokenValue) → IsStepOutcome (Err e) fs o → Answers (Err e) (finished_at (state_after o ts))
refused_step Memory fs o ts h = tt
refused_step Outside fs o ts h = ap (λ (o : Option State). finished_at (state_after o ts)) h
refused_step Deep fs o ts h = by_answer (finished_at (state_after o ts)) (finished_deeper 65 (state_after o ts) (walked_deeper 65 o ts (deep o h)))
  where
    deep : (o : Option State) → IsStepOutcome (Err Deep) fs o → Deepens 65 o
    deep None h = tt
    deep (Some s) h = omega arith

    by_answer : (a : Option Nested) → IsAbove 65 a → Answers (Err Deep) a
    by_answer None h = tt
    by_answer (Some x) h = omega arith

-- The loop that joins an operand with what waits for it.
module _ (p : ℕ) (x : Nested) (f : Frame) (old new : List Frame) (goal : Nested × List Frame) (cut : old ≡ new ++ f ∷ []) (tight : p < wanted f) (whole : reduced p x (reverse old) ≡ goal) where
  settles_on : reduced p (completed f x) (reverse new) ≡ goal
  settles_on =
      sym (ap (λ (t : Bool). cond t (reduced p (completed f x) (reverse new)) (x, f ∷ reverse new)) (lt-ltb p (wanted f) tight))
      ∙ (ap (reduced p x) (sym (reverse-append new (f ∷ []))) ∙ (ap (λ (fs : List Frame). reduced p x (reverse fs)) (sym cut) ∙ whole))

  pub refused_join : (e : TreeErr) → Makes (Err e) (completed f x) → Reduces (Err e) new goal
  refused_join Memory h = tt
  refused_join Outside h = absurd h
  refused_join Deep h =
      let more = operand_deeper p (completed f x) (reverse new) in
      let same_nesting : (reduced p (completed f x) (reverse new)).0.nesting ≡ goal.0.nesting = λ i. (settles_on i).0.nesting in
      omega arith

-- an operand behind which something still waits
pub not_alone : (new : List Frame) (s : Nested × List Frame) → reverse new ≡ s.1 → new ≢ [] → alone s ≡ None
not_alone new (x, []) e some = absurd (some (sym (reverse-reverse new) ∙ ap reverse e))
not_alone new (x, f ∷ fs) e some = refl
