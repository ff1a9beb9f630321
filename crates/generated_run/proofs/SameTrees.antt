-- When trees of calls, and lists, are equal.
use Rattle.std.proofs.Common.{◌≡◌, ℕ, zero, suc, ◌<◌, Bool, true, List, [], ◌∷◌, length, take, get_or, refl, ap, sym, ◌∙◌, arith}
use Rattle.std.specs.Prelude.{map, ◌↔◌}
use Rattle.ss_base.specs.declared.types.Spot.{Spot}
use Rattle.ss_base.specs.declared.types.Span.{Span}
use Rattle.formula_tree.specs.declared.functions.Fun.{Fun}
use Rattle.formula_tree.specs.declared.expression.Expr.{Expr, Call}
use Rattle.formula_tree.specs.Tree.{Tree, call, trees_from}
use Rattle.formula_tree.specs.Erase.{tree_of}
use Rattle.formula_tree.proofs.Trees.{tree_of-call}

trees_back : (xs ys : List (Tree Spot Span)) → trees_from xs ≡ trees_from ys → xs ≡ ys
trees_back [] [] e = refl
trees_back [] (y ∷ ys) e = absurd (cc)
trees_back (x ∷ xs) [] e = absurd (cc)
trees_back (x ∷ xs) (y ∷ ys) e =
    let head : x ≡ y = cc in
    let tail : trees_from xs ≡ trees_from ys = cc in
    λ i. head i ∷ trees_back xs ys tail i

listed : (f g : Fun) (ts us : List (Tree Spot Span)) → call f (trees_from ts) ≡ call g (trees_from us) → ts ≡ us
listed f g ts us e = let inside : trees_from ts ≡ trees_from us = cc in trees_back ts us inside

-- calls of one function are equal exactly where their arguments are
pub same_calls : (a b : Expr) (f g : Fun) (ds es xs ys : List Expr) (same : Bool) → a ≡ Call f ds → b ≡ Call g es → f ≡ g → xs ≡ ds → ys ≡ es →
    (same ≡ true) ↔ (map tree_of xs ≡ map tree_of ys) → (same ≡ true) ↔ (tree_of a ≡ tree_of b)
same_calls a b f g ds es xs ys same at bt fun left right h =
    let one = ap (λ (e : Expr). tree_of e) at ∙ tree_of-call f ds in
    let other = ap (λ (e : Expr). tree_of e) bt ∙ tree_of-call g es in
    let moved : map tree_of ds ≡ map tree_of es → map tree_of xs ≡ map tree_of ys = λ e. ap (map tree_of) left ∙ (e ∙ sym (ap (map tree_of) right)) in
    let back : map tree_of xs ≡ map tree_of ys → map tree_of ds ≡ map tree_of es = λ e. sym (ap (map tree_of) left) ∙ (e ∙ ap (map tree_of) right) in (
      (λ t. one ∙ ((λ i. call (fun i) (trees_from (back (h.0 t) i))) ∙ sym other)),
      (λ e. h.1 (moved (listed f g (map tree_of ds) (map tree_of es) (sym one ∙ (e ∙ other))))),
    )

module _ {A B : Type 0} (f : A → B) where
  -- what stands at one place of lists with equal images
  pub same_at : (xs ys : List A) (i : ℕ) (x y : A) → i < length xs → i < length ys → x ≡ get_or xs i x → y ≡ get_or ys i y → map f xs ≡ map f ys → f x ≡ f y
  same_at [] ys i x y h k a b e = absurd (omega arith)
  same_at (u ∷ xs) [] i x y h k a b e = absurd (omega arith)
  same_at (u ∷ xs) (v ∷ ys) zero x y h k a b e = let heads : f u ≡ f v = cc in ap f a ∙ (heads ∙ sym (ap f b))
  same_at (u ∷ xs) (v ∷ ys) (suc i) x y h k a b e = let tails : map f xs ≡ map f ys = cc in same_at xs ys i x y (omega arith) (omega arith) a b tails

  -- one place more
  pub same_more : (xs ys : List A) (i : ℕ) (x y : A) → i < length xs → i < length ys → x ≡ get_or xs i x → y ≡ get_or ys i y →
      map f (take i xs) ≡ map f (take i ys) → f x ≡ f y → map f (take (suc i) xs) ≡ map f (take (suc i) ys)
  same_more [] ys i x y h k a b e here = absurd (omega arith)
  same_more (u ∷ xs) [] i x y h k a b e here = absurd (omega arith)
  same_more (u ∷ xs) (v ∷ ys) zero x y h k a b e here = let heads : f u ≡ f v = sym (ap f a) ∙ (here ∙ ap f b) in ap (λ z. z ∷ []) heads
  same_more (u ∷ xs) (v ∷ ys) (suc i) x y h k a b e here =
      let heads : f u ≡ f v = cc in
      let tails : map f (take i xs) ≡ map f (take i ys) = cc in
      let rest = same_more xs ys i x y (omega arith) (omega arith) a b tails here in
      λ j. heads j ∷ rest j
