-- the tokens of a derivation lead the reader to its tree and its nesting
use Rattle.std.proofs.Common.{◌≡◌, ℕ, suc, ◌<◌, ◌≤◌, max, Bool, false, cond, nat_lt, List, [], ◌∷◌, ◌++◌, Option, Some, None, refl, ap, sym, ◌∙◌, append_assoc, arith}
use Rattle.std.proofs.lemmas.Bool.{lt-ltb}
use Rattle.std.proofs.lemmas.Bool.Decides.{nat_tests}
use Rattle.ss_base.specs.declared.types.Spot.{Spot}
use Rattle.ss_base.specs.declared.types.Span.{Span}
use Rattle.formula_tree.specs.declared.operators.PreOp.TheVariants.{Plus, Minus}
use Rattle.formula_tree.specs.declared.operators.BinOp.{BinOp}
use Rattle.formula_tree.specs.declared.functions.Fun.{Fun}
use Rattle.formula_tree.specs.Tree.{Tree, Trees, trees_from}
use Rattle.formula_tree.specs.Tree as tree
use Rattle.formula_tree.specs.Precedence.{precedence_of_operator}
use Rattle.formula_tree.specs.Tokens.{TokenValue, sign, opening, closing, semicolon}
use Rattle.formula_tree.specs.Grammar.{Derives, Arguments, Listed, operator_of_sign}
use Rattle.formula_tree.specs.Grammar as grammar
use Rattle.formula_read.specs.declared.stack.Frame.{Frame}
use Rattle.formula_read.specs.declared.stack.Frame.TheVariants.{Sign, Left, Group, Call}
use Rattle.formula_read.specs.Nested.{Nested, NestedList, no_arguments, with_argument}
use Rattle.formula_read.specs.Stack.{State, start, waiting, standing, wanted, completed, reduced, operator_behind, closed, parted, stepped, state_after, alone, finished_at}
use Rattle.formula_read.proofs.Choices.{same}
use Rattle.formula_read.proofs.Syntax.{most_precedence}
use Rattle.formula_read.proofs.NamedFunctions.{function_named-name_of}

abbrev nested : Tree Spot Span → ℕ → Nested
nested t n = record { tree = t; nesting = n }

state_after-append : (o : Option State) (xs ys : List TokenValue) → state_after o (xs ++ ys) ≡ state_after (state_after o xs) ys
state_after-append None xs ys = refl
state_after-append (Some s) [] ys = refl
state_after-append (Some s) (x ∷ xs) ys = state_after-append (stepped s.side s.frames x) xs ys

-- how tightly an operand has to bind behind all that waits
abbrev wanted_behind : List Frame → ℕ
wanted_behind [] = 1
wanted_behind (f ∷ fs) = wanted f

looser_test : (p w : ℕ) → w ≤ p → nat_lt p w ≡ false
looser_test p w h = grind (arith, nat_tests)

stays : (p : ℕ) (x : Nested) (fs : List Frame) → wanted_behind fs ≤ p → reduced p x fs ≡ (x, fs)
stays p x [] h = refl
stays p x (f ∷ fs) h = ap (λ (t : Bool). cond t (reduced p (completed f x) fs) (x, f ∷ fs)) (looser_test p (wanted f) h)

goes : (p : ℕ) (x : Nested) (f : Frame) (fs : List Frame) → p < wanted f → reduced p x (f ∷ fs) ≡ reduced p (completed f x) fs
goes p x f fs h = ap (λ (t : Bool). cond t (reduced p (completed f x) fs) (x, f ∷ fs)) (lt-ltb p (wanted f) h)

-- The reader ends with some operand and what waits for it, and goes on from there as with the whole operand: behind
-- tokens that bind at least as tightly as p, no sign that binds more tightly than p can follow.
record IsRead (p : ℕ) (fs : List Frame) (ts : List TokenValue) (x : Nested) : Type 0 where
  operand : Nested
  waits : List Frame
  walks : state_after (Some (waiting fs)) ts ≡ Some (standing operand waits)
  agrees : (q : ℕ) → q ≤ p → q ≤ 5 → reduced q operand waits ≡ reduced q x fs

by_itself : (p : ℕ) (fs : List Frame) (ts : List TokenValue) (x : Nested) → state_after (Some (waiting fs)) ts ≡ Some (standing x fs) → IsRead p fs ts x
by_itself p fs ts x h = record { operand = x; waits = fs; walks = h; agrees = λ q _ _. refl }

-- behind tokens that were read
behind_read : {p : ℕ} {fs : List Frame} {ts : List TokenValue} {x : Nested} → IsRead p fs ts x → (us : List TokenValue) → (y : Nested) × (gs : List Frame) ×
    (state_after (Some (waiting fs)) (ts ++ us) ≡ state_after (Some (standing y gs)) us) × ((q : ℕ) → q ≤ p → q ≤ 5 → reduced q y gs ≡ reduced q x fs)
behind_read {p} {fs} {ts} {x} r us = (r.operand, r.waits, state_after-append (Some (waiting fs)) ts us ∙ ap (λ (o : Option State). state_after o us) r.walks, r.agrees)

module _ (fs : List Frame) (ts us : List TokenValue) (x : Nested) where
  operator_read : (p : ℕ) (op : BinOp) → precedence_of_operator op ≤ p → wanted_behind fs ≤ precedence_of_operator op → IsRead p fs ts x →
      state_after (Some (waiting fs)) (ts ++ sign op ∷ us) ≡ state_after (Some (waiting (Left x op ∷ fs))) us
  operator_read p op tight low r =
      let (y, gs, walks, agrees) = behind_read r (sign op ∷ us) in
      walks ∙ ap (λ (z : Nested × List Frame). state_after (Some (operator_behind op z)) us)
      (agrees (precedence_of_operator op) tight (most_precedence op) ∙ stays (precedence_of_operator op) x fs low)

  closing_read : (f : Frame) → wanted f ≡ 1 → IsRead 1 (f ∷ fs) ts x →
      state_after (Some (waiting (f ∷ fs))) (ts ++ closing ∷ us) ≡ state_after (Some (standing (completed f x) fs)) us
  closing_read f w r =
      let (y, gs, walks, agrees) = behind_read r (closing ∷ us) in
      walks ∙ ap (λ (z : Nested × List Frame). state_after (closed z) us) (agrees 1 (omega arith) (omega arith) ∙ stays 1 x (f ∷ fs) (omega arith))

  semicolon_read : (fun : Fun) (args : NestedList) → IsRead 1 (Call fun args ∷ fs) ts x →
      state_after (Some (waiting (Call fun args ∷ fs))) (ts ++ semicolon ∷ us) ≡ state_after (Some (waiting (Call fun (with_argument args x) ∷ fs))) us
  semicolon_read fun args r =
      let (y, gs, walks, agrees) = behind_read r (semicolon ∷ us) in
      walks ∙ ap (λ (z : Nested × List Frame). state_after (parted z) us) (agrees 1 (omega arith) (omega arith) ∙ stays 1 x (Call fun args ∷ fs) (omega arith))

-- arguments behind others
abbrev listed : List (Tree Spot Span) → Trees Spot Span → Trees Spot Span
listed [] ts = ts
listed (t ∷ us) ts = tree.more t (listed us ts)

listed-last : (us : List (Tree Spot Span)) (t : Tree Spot Span) → trees_from (us ++ t ∷ []) ≡ listed us (tree.more t tree.none)
listed-last [] t = refl
listed-last (u ∷ us) t = ap (tree.more u) (listed-last us t)

listed-more : (us : List (Tree Spot Span)) (t : Tree Spot Span) (ts : Trees Spot Span) → listed (us ++ t ∷ []) ts ≡ listed us (tree.more t ts)
listed-more [] t ts = refl
listed-more (u ∷ us) t ts = ap (tree.more u) (listed-more us t ts)

-- a call by the arguments so far and the rest
abbrev called_with : Fun → NestedList → Trees Spot Span → ℕ → Nested
called_with fun done args n = nested (tree.call fun (listed done.trees args)) (suc (max done.nesting n))

none_more : (n : ℕ) → max 0 n ≡ n
none_more n = omega arith

more_nested : (a b c : ℕ) → max (max a b) c ≡ max a (max b c)
more_nested a b c = omega arith

mutual
  derives_walked : {p n : ℕ} {ts : List TokenValue} {t : Tree Spot Span} → Derives p ts t n → (fs : List Frame) → wanted_behind fs ≤ p → IsRead p fs ts (nested t n)
  derives_walked (grammar.tighter d) fs low =
      let r = derives_walked d fs (omega arith) in
      record { operand = r.operand; waits = r.waits; walks = r.walks; agrees = λ q h k. r.agrees q (omega arith) k }
  derives_walked (grammar.binary {m = m} {n = n} {op = op} {ss = ss} {ts = ts} {s = s} {t = t} d e) fs low =
      let f = Left (nested s m) op in
      let r = derives_walked e (f ∷ fs) (omega arith) in
      record {
        operand = r.operand;
        waits = r.waits;
        walks = operator_read fs ss ts (nested s m) (precedence_of_operator op) op (omega arith) low (derives_walked d fs low) ∙ r.walks;
        agrees = λ q h k. r.agrees q (omega arith) k ∙ goes q (nested t n) f fs (omega arith);
      }
  derives_walked (grammar.prefix {n = n} {op = Plus} {t = t} d) fs low =
      let r = derives_walked d (Sign Plus ∷ fs) (omega arith) in
      record {
        operand = r.operand;
        waits = r.waits;
        walks = r.walks;
        agrees = λ q h k. r.agrees q h k ∙ goes q (nested t n) (Sign Plus) fs (omega arith);
      }
  derives_walked (grammar.prefix {n = n} {op = Minus} {t = t} d) fs low =
      let r = derives_walked d (Sign Minus ∷ fs) (omega arith) in
      record {
        operand = r.operand;
        waits = r.waits;
        walks = r.walks;
        agrees = λ q h k. r.agrees q h k ∙ goes q (nested t n) (Sign Minus) fs (omega arith);
      }
  derives_walked grammar.numeral fs low = by_itself _ fs _ _ refl
  derives_walked grammar.text fs low = by_itself _ fs _ _ refl
  derives_walked grammar.fault fs low = by_itself _ fs _ _ refl
  derives_walked grammar.cell fs low = by_itself _ fs _ _ refl
  derives_walked grammar.range fs low = by_itself _ fs _ _ refl
  derives_walked (grammar.brackets {n = n} {ts = ts} {t = t} d) fs low =
      by_itself _ fs _ _ (closing_read fs ts [] (nested t n) Group refl (derives_walked d (Group ∷ fs) (omega arith)))
  derives_walked (grammar.call {n = n} {fun = fun} {ts = ts} {args = args} f a) fs low =
      by_itself _ fs _ _
      (ap (λ (g : Fun). state_after (Some (waiting (Call g no_arguments ∷ fs))) (ts ++ closing ∷ [])) (function_named-name_of fun f) ∙ arguments_walked a fun fs)

  arguments_walked : {n : ℕ} {ts : List TokenValue} {args : Trees Spot Span} → Arguments ts args n → (fun : Fun) (fs : List Frame) →
      state_after (Some (waiting (Call fun no_arguments ∷ fs))) (ts ++ closing ∷ []) ≡ Some (standing (nested (tree.call fun args) (suc n)) fs)
  arguments_walked grammar.empty fun fs = refl
  arguments_walked (grammar.some {n = n} {args = args} l) fun fs =
      listed_walked l fun no_arguments fs ∙ (λ i. Some (standing (nested (tree.call fun args) (suc (none_more n i))) fs))

  listed_walked : {n : ℕ} {ts : List TokenValue} {args : Trees Spot Span} → Listed ts args n → (fun : Fun) (done : NestedList) (fs : List Frame) →
      state_after (Some (waiting (Call fun done ∷ fs))) (ts ++ closing ∷ []) ≡ Some (standing (called_with fun done args n) fs)
  listed_walked (grammar.last {n = n} {ts = ts} {t = t} d) fun done fs =
      closing_read fs ts [] (nested t n) (Call fun done) refl (derives_walked d (Call fun done ∷ fs) (omega arith))
      ∙ (λ i. Some (standing (nested (tree.call fun (listed-last done.trees t i)) (suc (max done.nesting n))) fs))
  listed_walked (grammar.more {m = m} {n = n} {ts = ts} {us = us} {t = t} {args = args} d l) fun done fs =
      ap (state_after (Some (waiting (Call fun done ∷ fs)))) (append_assoc ts (semicolon ∷ us) (closing ∷ []))
      ∙ (semicolon_read fs ts (us ++ closing ∷ []) (nested t m) fun done (derives_walked d (Call fun done ∷ fs) (omega arith))
      ∙ (listed_walked l fun (with_argument done (nested t m)) fs
      ∙ (λ i. Some (standing (nested (tree.call fun (listed-more done.trees t args i)) (suc (more_nested done.nesting m n i))) fs))))

-- an expression's tokens behind a formula's `=`
pub expression_walked : (head : TokenValue) (ts : List TokenValue) (t : Tree Spot Span) (n : ℕ) → Derives 1 ts t n →
    finished_at (state_after (Some start) (head ∷ ts)) ≡ Some (record { tree = t; nesting = n })
expression_walked head ts t n d =
    let r = derives_walked d [] (omega arith) in
    ap finished_at r.walks ∙ ap alone (r.agrees 1 (omega arith) (omega arith))

-- the tokens of an expression have one tree and one nesting
pub one_derivation : (ts : List TokenValue) (t u : Tree Spot Span) (n m : ℕ) → Derives 1 ts t n → Derives 1 ts u m → (t ≡ u) × (n ≡ m)
one_derivation ts t u n m d e =
    let p = same (sym (expression_walked opening ts t n d) ∙ expression_walked opening ts u m e) in
    ((λ i. (p i).tree), (λ i. (p i).nesting))
