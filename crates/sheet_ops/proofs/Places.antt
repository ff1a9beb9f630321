-- What stands at a place, and where something stands.
use Rattle.std.proofs.Common.{◌≡◌, ℕ, zero, suc, ◌<◌, Bool, true, false, cond, List, [], ◌∷◌, length, refl, ap, sym, ◌∙◌, arith, inl, inr}
use Rattle.std.specs.Prelude.{◌⊎◌, slice_index_or}
use Rattle.sheet_ops.specs.LineIds.{LineId, id_eq}
use Rattle.sheet_ops.specs.Lines.{AxisLine, no_line, place_where}
use Rattle.sheet_ops.specs.Fits.{Avoids, AreApart}
use Rattle.sheet_ops.proofs.Ids.{id_eq-same, id_eq-self, id_eq-other, true_or_false}

-- the element at an index doesn't depend on what is read past the end
pub at_inside : {A : Type 0} (xs : List A) (p : ℕ) (d e : A) → p < length xs → slice_index_or xs p d ≡ slice_index_or xs p e
at_inside [] p d e k = absurd (omega arith)
at_inside (x ∷ xs) zero d e k = refl
at_inside (x ∷ xs) (suc p) d e k = at_inside xs p d e (omega arith)

module _ (of : AxisLine → LineId) where
  abbrev pub id_at : List AxisLine → ℕ → LineId
  id_at ls p = of (slice_index_or ls p no_line)

  abbrev pub place_of : List AxisLine → LineId → ℕ
  place_of ls id = place_where (λ l. id_eq (of l) id) ls

  pub avoided : (ls : List AxisLine) (id : LineId) → Avoids of ls id → (p : ℕ) → p < length ls → id_eq (id_at ls p) id ≡ false
  avoided [] id v p k = absurd (omega arith)
  avoided (l ∷ ls) id v zero k = v.0
  avoided (l ∷ ls) id v (suc p) k = avoided ls id v.1 p (omega arith)

  pub avoids_from : (ls : List AxisLine) (id : LineId) → ((p : ℕ) → p < length ls → id_eq (id_at ls p) id ≡ false) → Avoids of ls id
  avoids_from [] id h = tt
  avoids_from (l ∷ ls) id h = (h 0 (omega arith), avoids_from ls id (λ p k. h (suc p) (omega arith)))

  -- apart: one identifier stands at one place
  pub one_place : (ls : List AxisLine) → AreApart of ls → (p q : ℕ) → p < length ls → q < length ls → id_eq (id_at ls p) (id_at ls q) ≡ true → p ≡ q
  one_place [] a p q k j e = absurd (omega arith)
  one_place (l ∷ ls) a zero zero k j e = refl
  one_place (l ∷ ls) a zero (suc q) k j e = absurd (let clash : true ≡ false = sym e ∙ id_eq-other (id_at ls q) (of l) (avoided ls (of l) a.0 q (omega arith)) in cc)
  one_place (l ∷ ls) a (suc p) zero k j e = absurd (let clash : true ≡ false = sym e ∙ avoided ls (of l) a.0 p (omega arith) in cc)
  one_place (l ∷ ls) a (suc p) (suc q) k j e = ap suc (one_place ls a.1 p q (omega arith) (omega arith) e)

  pub apart_from : (ls : List AxisLine) → ((p q : ℕ) → p < length ls → q < length ls → id_eq (id_at ls p) (id_at ls q) ≡ true → p ≡ q) → AreApart of ls
  apart_from [] h = tt
  apart_from (l ∷ ls) h = (avoids_from ls (of l) (λ p k. by_test (true_or_false (id_eq (id_at ls p) (of l))) (h (suc p) 0 (omega arith) (omega arith))), apart_from ls (λ p q k j e. let s : suc p ≡ suc q = h (suc p) (suc q) (omega arith) (omega arith) e in omega arith))
    where
      by_test : {b : Bool} {p : ℕ} → ((b ≡ true) ⊎ (b ≡ false)) → (b ≡ true → suc p ≡ 0) → b ≡ false
      by_test (inr e) clash = e
      by_test (inl e) clash = let c = clash e in absurd (omega arith)

  -- what stands at the place of an identifier
  pub at_of_place : (ls : List AxisLine) (id : LineId) → place_of ls id < length ls → id_at ls (place_of ls id) ≡ id
  at_of_place [] id h = absurd (omega arith)
  at_of_place (l ∷ ls) id h = by_test (id_eq (of l) id) refl (λ j. at_of_place ls id j) h
    where
      by_test : (b : Bool) → id_eq (of l) id ≡ b → (place_of ls id < length ls → id_at ls (place_of ls id) ≡ id) → cond b 0 (suc (place_of ls id)) < suc (length ls) → id_at (l ∷ ls) (cond b 0 (suc (place_of ls id))) ≡ id
      by_test true e rest j = id_eq-same (of l) id e
      by_test false e rest j = rest (omega arith)

  -- what stands somewhere has a place
  pub has_place : (ls : List AxisLine) (p : ℕ) → p < length ls → place_of ls (id_at ls p) < length ls
  has_place [] p k = absurd (omega arith)
  has_place (l ∷ ls) zero k = rw (id_eq-self (of l)) (omega arith)
  has_place (l ∷ ls) (suc p) k = by_test (id_eq (of l) (id_at ls p)) (has_place ls p (omega arith))
    where
      by_test : (b : Bool) → place_of ls (id_at ls p) < length ls → cond b 0 (suc (place_of ls (id_at ls p))) < suc (length ls)
      by_test true rest = omega arith
      by_test false rest = omega arith

  pub place_of_at : (ls : List AxisLine) → AreApart of ls → (p : ℕ) → p < length ls → place_of ls (id_at ls p) ≡ p
  place_of_at ls a p k =
      let inside = has_place ls p k in
      one_place ls a (place_of ls (id_at ls p)) p inside k (ap (λ (i : LineId). id_eq i (id_at ls p)) (at_of_place ls (id_at ls p) inside) ∙ id_eq-self (id_at ls p))
