-- Walks that begin with nothing known.
use Rattle.std.proofs.Common.{◌≡◌, ℕ, zero, suc, List, length, refl, ap, sym, ◌∙◌, subst, Result, Ok, Err}
use Rattle.std.specs.Prelude.{replicate, IfOk}
use Rattle.cell_walk.specs.declared.walking.Colour.{Colour}
use Rattle.cell_walk.specs.declared.walking.Colour.TheVariants.{White, Grey, Circular}
use Rattle.cell_walk.specs.Walks.{hue, MayBegin, IsFound}

white_hue : (n c : ℕ) → hue (replicate n White) c ≡ White
white_hue zero c = refl
white_hue (suc n) zero = refl
white_hue (suc n) (suc c) = white_hue n c

length-white : (n : ℕ) → length (replicate n White) ≡ n
length-white zero = refl
length-white (suc n) = ap suc (length-white n)

pub if_ok : {A E : Type 0} {P Q : A → Type 0} (r : Result A E) → IfOk r P → ((x : A) → P x → Q x) → IfOk r Q
if_ok (Ok x) p f = f x p
if_ok (Err e) p f = tt

module _ (colours : List Colour) (count : ℕ) (white : colours ≡ replicate count White) where
  pub count_is : length colours ≡ count
  count_is = ap (λ (cs : List Colour). length cs) white ∙ length-white count

  all_white : hue colours ≡ (λ c. White)
  all_white = λ i c. (ap (λ (cs : List Colour). hue cs c) white ∙ white_hue count c) i

  hue_is : (c : ℕ) → hue colours c ≡ White
  hue_is c = λ i. all_white i c

  pub begins_white : (mentions : ℕ → List ℕ) → MayBegin mentions (hue colours)
  begins_white mentions = record {
    no_grey = λ c q. let clash : White ≡ Grey = sym (hue_is c) ∙ q in cc;
    circles = λ c q. absurd (let clash : White ≡ Circular = sym (hue_is c) ∙ q in cc);
  }

  pub found_white : (mentions : ℕ → List ℕ) (h : ℕ → Colour) (order : List ℕ) → IsFound mentions (hue colours) (length colours) h order → IsFound mentions (λ c. White) count h order
  found_white mentions h order f =
      subst (λ (n : ℕ). IsFound mentions (λ c. White) n h order) count_is (subst (λ (first : ℕ → Colour). IsFound mentions first (length colours) h order) all_white f)
