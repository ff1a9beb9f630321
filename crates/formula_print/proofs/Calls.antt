-- a call's text by the list of its arguments
use Rattle.std.proofs.Common.{◌≡◌, ℕ, zero, suc, ◌+◌, ◌<◌, Bool, true, false, cond, nat_lt, nat_eq, List, [], ◌∷◌, ◌++◌, length, take, get_or, refl, ap, sym, ◌∙◌, subst, append_assoc, arith}
use Rattle.std.specs.Prelude.{map, All}
use Rattle.std.specs.List.{join_with_byte}
use Rattle.std.proofs.lemmas.Bool.{lt-ltb}
use Rattle.std.proofs.lemmas.Bool.Decides.{nat_tests}
use Rattle.std.proofs.lemmas.List.{map_more, take_more, length-map, length-take}
use Rattle.ss_base.specs.declared.types.Spot.{Spot}
use Rattle.ss_base.specs.declared.types.Span.{Span}
use Rattle.formula_tree.specs.declared.functions.Fun.{Fun}
use Rattle.formula_tree.specs.declared.expression.Expr.{Expr, Call}
use Rattle.formula_tree.specs.Names.{name_of}
use Rattle.formula_tree.specs.Tree.{Tree, trees_from}
use Rattle.formula_tree.specs.Erase.{tree_of}
use Rattle.formula_tree.specs.Tokens.{doubled}
use Rattle.formula_tree.specs.WellFormed.{IsWellFormed, AreWellFormed}
use Rattle.formula_tree.specs.Printed.{tree_text, argument_texts}
use Rattle.formula_tree.proofs.Trees.{tree_of-call}
use Rattle.formula_print.specs.Arguments.{parted_texts}

listed : (es : List Expr) → argument_texts (trees_from (map tree_of es)) ≡ map (λ e. tree_text (tree_of e)) es
listed [] = refl
listed (e ∷ es) = ap (λ (l : List (List ℕ)). tree_text (tree_of e) ∷ l) (listed es)

pub call_text : (f : Fun) (es : List Expr) → tree_text (tree_of (Call f es)) ≡ name_of f ++ (40 ∷ parted_texts es ++ 41 ∷ [])
call_text f es =
    ap (λ (t : Tree Spot Span). tree_text t) (tree_of-call f es)
    ∙ ap (λ (l : List (List ℕ)). name_of f ++ (40 ∷ join_with_byte 59 l ++ 41 ∷ [])) (listed es)

each_formed : (es : List Expr) → AreWellFormed (trees_from (map tree_of es)) → (k : ℕ) (d : Expr) → k < length es → IsWellFormed (tree_of (get_or es k d))
each_formed [] w k d h = absurd (omega arith)
each_formed (e ∷ es) w zero d h = w.0
each_formed (e ∷ es) w (suc k) d h = each_formed es w.1 k d (omega arith)

pub arguments_formed : (f : Fun) (es : List Expr) → IsWellFormed (tree_of (Call f es)) → All (λ e. IsWellFormed (tree_of e)) es
arguments_formed f es w = each_formed es (subst (λ (t : Tree Spot Span). IsWellFormed t) (tree_of-call f es) w).1

-- one more argument
join_more : (x : List ℕ) (xs : List (List ℕ)) (y : List ℕ) → join_with_byte 59 (x ∷ xs ++ y ∷ []) ≡ join_with_byte 59 (x ∷ xs) ++ 59 ∷ y
join_more x [] y = refl
join_more x (z ∷ zs) y = ap (λ (l : List ℕ). x ++ 59 ∷ l) (join_more z zs y) ∙ sym (append_assoc x (59 ∷ join_with_byte 59 (z ∷ zs)) (59 ∷ y))

join_push : (xs : List (List ℕ)) (y : List ℕ) (n : ℕ) → length xs ≡ n → join_with_byte 59 (xs ++ y ∷ []) ≡ join_with_byte 59 xs ++ (cond (nat_lt 0 n) (59 ∷ []) [] ++ y)
join_push [] y n h = let none : nat_lt 0 n ≡ false = grind (arith, nat_tests) in rw none
join_push (x ∷ xs) y n h = let some : nat_lt 0 n ≡ true = lt-ltb 0 n (omega arith) in rw some (join_more x xs y)

pub parted_texts-more : (es : List Expr) (i : ℕ) (e : Expr) → i < length es → e ≡ get_or es i e →
    parted_texts (take (i + 1) es) ≡ parted_texts (take i es) ++ (cond (nat_lt 0 i) (59 ∷ []) [] ++ tree_text (tree_of e))
parted_texts-more es i e within item =
    let texts = λ (e : Expr). tree_text (tree_of e) in
    let size : length (map texts (take i es)) ≡ i = simp (length-map, length-take) (omega arith) in
    ap (join_with_byte 59) (map_more texts es i e within)
    ∙ (join_push (map texts (take i es)) (texts (get_or es i e)) i size
    ∙ ap (λ (e : Expr). parted_texts (take i es) ++ (cond (nat_lt 0 i) (59 ∷ []) [] ++ texts e)) (sym item))

-- one more byte of a text whose quotes stand twice
doubled-append : (t : List ℕ) (b : ℕ) → doubled (t ++ b ∷ []) ≡ doubled t ++ doubled (b ∷ [])
doubled-append [] b = refl
doubled-append (c ∷ cs) b = by_quote (nat_eq c 34) (doubled-append cs b)
  where
    by_quote : (t : Bool) → doubled (cs ++ b ∷ []) ≡ doubled cs ++ doubled (b ∷ []) →
        cond t (34 ∷ 34 ∷ doubled (cs ++ b ∷ [])) (c ∷ doubled (cs ++ b ∷ [])) ≡ cond t (34 ∷ 34 ∷ doubled cs) (c ∷ doubled cs) ++ doubled (b ∷ [])
    by_quote true e = ap (λ (l : List ℕ). 34 ∷ 34 ∷ l) e
    by_quote false e = ap (λ (l : List ℕ). c ∷ l) e

pub doubled-more : (text : List ℕ) (i : ℕ) → i < length text →
    doubled (take (i + 1) text) ≡ doubled (take i text) ++ (cond (nat_eq (get_or text i 0) 34) (34 ∷ []) [] ++ get_or text i 0 ∷ [])
doubled-more text i within =
    ap doubled (take_more text i 0 within)
    ∙ (doubled-append (take i text) (get_or text i 0) ∙ ap (λ (l : List ℕ). doubled (take i text) ++ l) (by_quote (get_or text i 0) (nat_eq (get_or text i 0) 34) refl))
  where
    by_quote : (b : ℕ) (t : Bool) → nat_eq b 34 ≡ t → cond t (34 ∷ 34 ∷ []) (b ∷ []) ≡ cond t (34 ∷ []) [] ++ b ∷ []
    by_quote b true h = let quote : b ≡ 34 = grind (arith, nat_tests) in ap (λ (n : ℕ). 34 ∷ n ∷ []) (sym quote)
    by_quote b false h = refl

-- two pieces appended one after the other
pub both_appended : (first front a b whole now mid last : List ℕ) → now ≡ first ++ front → mid ≡ now ++ a → last ≡ mid ++ b → whole ≡ front ++ (a ++ b) → last ≡ first ++ whole
both_appended first front a b whole now mid last p q r s =
    r ∙ (ap (λ (l : List ℕ). l ++ b) (q ∙ ap (λ (l : List ℕ). l ++ a) p)
    ∙ (append_assoc (first ++ front) a b ∙ (append_assoc first front (a ++ b) ∙ ap (λ (l : List ℕ). first ++ l) (sym s))))
