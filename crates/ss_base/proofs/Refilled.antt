-- what is at hand where a source is read on and bytes are moved behind a line
use Rattle.std.proofs.Common.{◌≡◌, ℕ, List, [], ◌∷◌, ◌++◌, drop, arith, ◌≢◌, refl, ap, sym, ◌∙◌, append_assoc, subst, Option, Some, None}
use Rattle.ss_base.specs.Search.{Refills, NoFeed}
use Rattle.std.specs.Prelude.{nat_eq, false}
use Rattle.std.proofs.lemmas.Bool.Decides.{nat_tests}

pub Refills-refl : (r : Option (List ℕ)) (x : List ℕ) → Refills r r x x
Refills-refl None x = tt
Refills-refl (Some b) x = refl

-- behind a front that stays
pub Refills-on : (r s t : Option (List ℕ)) (x front a a' : List ℕ) → Refills r s x (front ++ a) → Refills s t a a' → Refills r t x (front ++ a')
Refills-on None None None x front a a' p q = tt
Refills-on (Some b) (Some c) (Some d) x front a a' p q = p ∙ (append_assoc front a c ∙ (ap (λ ys. front ++ ys) q ∙ sym (append_assoc front a' d)))
Refills-on None (Some c) t x front a a' p q = absurd p
Refills-on (Some b) None t x front a a' p q = absurd p
Refills-on None None (Some d) x front a a' p q = absurd q
Refills-on (Some b) (Some c) None x front a a' p q = absurd q

-- the next byte moves behind the front
pub Refills-push : (r s : Option (List ℕ)) (x front ahead front' ahead' : List ℕ) (b : ℕ) (rest : List ℕ) → Refills r s x (front ++ ahead)
    → ahead ≡ b ∷ rest → front' ≡ front ++ b ∷ [] → ahead' ≡ drop 1 ahead → Refills r s x (front' ++ ahead')
Refills-push r s x front ahead front' ahead' b rest p next pushed skipped =
    let behind : ahead' ≡ rest = skipped ∙ ap (drop 1) next in
    subst (Refills r s x) (ap (λ (a : List ℕ). front ++ a) next ∙ (sym (append_assoc front (b ∷ []) rest) ∙ (λ i. sym pushed i ++ sym behind i))) p

pub NoFeed-push : (front : List ℕ) (b : ℕ) → NoFeed front → nat_eq b 10 ≡ false → NoFeed (front ++ b ∷ [])
NoFeed-push [] b h e = (e, tt)
NoFeed-push (x ∷ xs) b h e = (h.0, NoFeed-push xs b h.1 e)

pub not_feed : (b : ℕ) → b ≢ 10 → nat_eq b 10 ≡ false
not_feed b h = grind (arith, nat_tests)
