-- how the logic stores a tree, given how it stores references
use Rattle.std.proofs.Common.{◌≡◌, ℕ, Bool, true, false, true≢false, nat_eq, refl, ap, sym, ◌∙◌}
use Rattle.std.specs.Coded.{Coded, coded_ℕ, coded_ℤ, coded_list}
use base.Stored.{Gv, gnil, gnum, gcons}
use Rattle.ss_base.specs.contracts.types.CalcErr as calc
use Rattle.formula_tree.specs.contracts.operators.PreOp as preop
use Rattle.formula_tree.specs.contracts.operators.BinOp as binop
use Rattle.formula_tree.specs.contracts.functions.Fun as fun
use Rattle.formula_tree.specs.Tree.{Tree, Trees, num, text, fault, cell, range, pre, bin, call, none, more}

abbrev head : Gv → Gv
head gnil = gnil
head (gnum n) = gnil
head (gcons a b) = a

abbrev tail : Gv → Gv
tail gnil = gnil
tail (gnum n) = gnil
tail (gcons a b) = b

-- the number at the front
abbrev tag : Gv → ℕ
tag gnil = 0
tag (gnum n) = 0
tag (gcons gnil b) = 0
tag (gcons (gnum n) b) = n
tag (gcons (gcons a b) c) = 0

abbrev is_pair : Gv → Bool
is_pair gnil = false
is_pair (gnum n) = false
is_pair (gcons a b) = true

-- codes that begin with other numbers are others; at numbers written out both tests are by `refl`
apart : (m n : ℕ) {a b : Gv} → gcons (gnum m) a ≡ gcons (gnum n) b → nat_eq m m ≡ true → nat_eq m n ≡ false → ⊥
apart m n p same other = true≢false (sym same ∙ (ap (λ g. nat_eq m (tag g)) p ∙ other))

apart_end : {n : ℕ} {a b : Gv} → gnum n ≡ gcons a b → ⊥
apart_end p = true≢false (sym (ap is_pair p))

module _ {C R : Type 0} (c : Coded C) (r : Coded R) where
  abbrev mutual
    pub tree_code : Tree C R → Gv
    tree_code (num a0) = gcons (gnum 0) (coded_ℤ.code a0)
    tree_code (text a0) = gcons (gnum 1) ((coded_list coded_ℕ).code a0)
    tree_code (fault a0) = gcons (gnum 2) (calc.the_row.coded.code a0)
    tree_code (cell a0) = gcons (gnum 3) (c.code a0)
    tree_code (range a0) = gcons (gnum 4) (r.code a0)
    tree_code (pre a0 a1) = gcons (gnum 5) (gcons (preop.the_row.coded.code a0) (tree_code a1))
    tree_code (bin a0 a1 a2) = gcons (gnum 6) (gcons (binop.the_row.coded.code a0) (gcons (tree_code a1) (tree_code a2)))
    tree_code (call a0 a1) = gcons (gnum 7) (gcons (fun.the_row.coded.code a0) (trees_code a1))

    pub trees_code : Trees C R → Gv
    trees_code none = gnum 0
    trees_code (more t ts) = gcons (tree_code t) (trees_code ts)

  mutual
    pub tree_inj : (x y : Tree C R) → tree_code x ≡ tree_code y → x ≡ y
    tree_inj (num a0) (num b0) p = λ i. num (coded_ℤ.inj a0 b0 (ap (λ g. tail g) p) i)
    tree_inj (num a0) (text b0) p = absurd (apart 0 1 p refl refl)
    tree_inj (num a0) (fault b0) p = absurd (apart 0 2 p refl refl)
    tree_inj (num a0) (cell b0) p = absurd (apart 0 3 p refl refl)
    tree_inj (num a0) (range b0) p = absurd (apart 0 4 p refl refl)
    tree_inj (num a0) (pre b0 b1) p = absurd (apart 0 5 p refl refl)
    tree_inj (num a0) (bin b0 b1 b2) p = absurd (apart 0 6 p refl refl)
    tree_inj (num a0) (call b0 b1) p = absurd (apart 0 7 p refl refl)
    tree_inj (text a0) (num b0) p = absurd (apart 1 0 p refl refl)
    tree_inj (text a0) (text b0) p = λ i. text ((coded_list coded_ℕ).inj a0 b0 (ap (λ g. tail g) p) i)
    tree_inj (text a0) (fault b0) p = absurd (apart 1 2 p refl refl)
    tree_inj (text a0) (cell b0) p = absurd (apart 1 3 p refl refl)
    tree_inj (text a0) (range b0) p = absurd (apart 1 4 p refl refl)
    tree_inj (text a0) (pre b0 b1) p = absurd (apart 1 5 p refl refl)
    tree_inj (text a0) (bin b0 b1 b2) p = absurd (apart 1 6 p refl refl)
    tree_inj (text a0) (call b0 b1) p = absurd (apart 1 7 p refl refl)
    tree_inj (fault a0) (num b0) p = absurd (apart 2 0 p refl refl)
    tree_inj (fault a0) (text b0) p = absurd (apart 2 1 p refl refl)
    tree_inj (fault a0) (fault b0) p = λ i. fault (calc.the_row.coded.inj a0 b0 (ap (λ g. tail g) p) i)
    tree_inj (fault a0) (cell b0) p = absurd (apart 2 3 p refl refl)
    tree_inj (fault a0) (range b0) p = absurd (apart 2 4 p refl refl)
    tree_inj (fault a0) (pre b0 b1) p = absurd (apart 2 5 p refl refl)
    tree_inj (fault a0) (bin b0 b1 b2) p = absurd (apart 2 6 p refl refl)
    tree_inj (fault a0) (call b0 b1) p = absurd (apart 2 7 p refl refl)
    tree_inj (cell a0) (num b0) p = absurd (apart 3 0 p refl refl)
    tree_inj (cell a0) (text b0) p = absurd (apart 3 1 p refl refl)
    tree_inj (cell a0) (fault b0) p = absurd (apart 3 2 p refl refl)
    tree_inj (cell a0) (cell b0) p = λ i. cell (c.inj a0 b0 (ap (λ g. tail g) p) i)
    tree_inj (cell a0) (range b0) p = absurd (apart 3 4 p refl refl)
    tree_inj (cell a0) (pre b0 b1) p = absurd (apart 3 5 p refl refl)
    tree_inj (cell a0) (bin b0 b1 b2) p = absurd (apart 3 6 p refl refl)
    tree_inj (cell a0) (call b0 b1) p = absurd (apart 3 7 p refl refl)
    tree_inj (range a0) (num b0) p = absurd (apart 4 0 p refl refl)
    tree_inj (range a0) (text b0) p = absurd (apart 4 1 p refl refl)
    tree_inj (range a0) (fault b0) p = absurd (apart 4 2 p refl refl)
    tree_inj (range a0) (cell b0) p = absurd (apart 4 3 p refl refl)
    tree_inj (range a0) (range b0) p = λ i. range (r.inj a0 b0 (ap (λ g. tail g) p) i)
    tree_inj (range a0) (pre b0 b1) p = absurd (apart 4 5 p refl refl)
    tree_inj (range a0) (bin b0 b1 b2) p = absurd (apart 4 6 p refl refl)
    tree_inj (range a0) (call b0 b1) p = absurd (apart 4 7 p refl refl)
    tree_inj (pre a0 a1) (num b0) p = absurd (apart 5 0 p refl refl)
    tree_inj (pre a0 a1) (text b0) p = absurd (apart 5 1 p refl refl)
    tree_inj (pre a0 a1) (fault b0) p = absurd (apart 5 2 p refl refl)
    tree_inj (pre a0 a1) (cell b0) p = absurd (apart 5 3 p refl refl)
    tree_inj (pre a0 a1) (range b0) p = absurd (apart 5 4 p refl refl)
    tree_inj (pre a0 a1) (pre b0 b1) p = λ i. pre (preop.the_row.coded.inj a0 b0 (ap (λ g. head (tail g)) p) i) (tree_inj a1 b1 (ap (λ g. tail (tail g)) p) i)
    tree_inj (pre a0 a1) (bin b0 b1 b2) p = absurd (apart 5 6 p refl refl)
    tree_inj (pre a0 a1) (call b0 b1) p = absurd (apart 5 7 p refl refl)
    tree_inj (bin a0 a1 a2) (num b0) p = absurd (apart 6 0 p refl refl)
    tree_inj (bin a0 a1 a2) (text b0) p = absurd (apart 6 1 p refl refl)
    tree_inj (bin a0 a1 a2) (fault b0) p = absurd (apart 6 2 p refl refl)
    tree_inj (bin a0 a1 a2) (cell b0) p = absurd (apart 6 3 p refl refl)
    tree_inj (bin a0 a1 a2) (range b0) p = absurd (apart 6 4 p refl refl)
    tree_inj (bin a0 a1 a2) (pre b0 b1) p = absurd (apart 6 5 p refl refl)
    tree_inj (bin a0 a1 a2) (bin b0 b1 b2) p = λ i. bin (binop.the_row.coded.inj a0 b0 (ap (λ g. head (tail g)) p) i) (tree_inj a1 b1 (ap (λ g. head (tail (tail g))) p) i) (tree_inj a2 b2 (ap (λ g. tail (tail (tail g))) p) i)
    tree_inj (bin a0 a1 a2) (call b0 b1) p = absurd (apart 6 7 p refl refl)
    tree_inj (call a0 a1) (num b0) p = absurd (apart 7 0 p refl refl)
    tree_inj (call a0 a1) (text b0) p = absurd (apart 7 1 p refl refl)
    tree_inj (call a0 a1) (fault b0) p = absurd (apart 7 2 p refl refl)
    tree_inj (call a0 a1) (cell b0) p = absurd (apart 7 3 p refl refl)
    tree_inj (call a0 a1) (range b0) p = absurd (apart 7 4 p refl refl)
    tree_inj (call a0 a1) (pre b0 b1) p = absurd (apart 7 5 p refl refl)
    tree_inj (call a0 a1) (bin b0 b1 b2) p = absurd (apart 7 6 p refl refl)
    tree_inj (call a0 a1) (call b0 b1) p = λ i. call (fun.the_row.coded.inj a0 b0 (ap (λ g. head (tail g)) p) i) (trees_inj a1 b1 (ap (λ g. tail (tail g)) p) i)

    pub trees_inj : (x y : Trees C R) → trees_code x ≡ trees_code y → x ≡ y
    trees_inj none none p = λ i. none
    trees_inj none (more u us) p = absurd (apart_end p)
    trees_inj (more t ts) none p = absurd (apart_end (sym p))
    trees_inj (more t ts) (more u us) p = λ i. more (tree_inj t u (ap (λ g. head g) p) i) (trees_inj ts us (ap (λ g. tail g) p) i)

  abbrev pub coded_tree : Coded (Tree C R)
  coded_tree = record { code = tree_code; inj = tree_inj }
