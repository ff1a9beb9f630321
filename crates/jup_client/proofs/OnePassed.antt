-- One more own operation passed.
use Rattle.std.proofs.Common.{◌≡◌, ℕ, ◌+◌, ◌<◌, List, [], ◌∷◌, ◌++◌, length, take, drop, get_or, ap, sym, ◌∙◌, subst, arith, Option}
use Rattle.std.specs.Prelude.{reverse, unwrap_or}
use Rattle.std.proofs.lemmas.List.{reverse-append, take_more, take-append-drop, length-take-le}
use Rattle.ss_base.specs.declared.types.Size.{Size}
use Rattle.sheet_ops.specs.declared.operation.Intent.{Intent}
use Rattle.sheet_ops.specs.declared.operation.Effect.{Effect}
use Rattle.sheet_ops.specs.Naming.{effect_of_intent}
use Rattle.sheet_ops.specs.Fits.{IntentFits}
use Rattle.sheet_ops.specs.Squares.{Converges}
use Rattle.sheet_ops.specs.Chains.{size_past, size_after, EachFitsAfter, PassesOwn}
use Rattle.pair_transform.specs.Changes.{replaced}

behind : (s : Size) (ys zs : List Intent) → EachFitsAfter s (ys ++ zs) → EachFitsAfter s zs
behind s [] zs f = f
behind s (y ∷ ys) zs f = behind s ys zs f.1

-- the last of a front stands first in its reverse
pub front_reversed : (xs : List Intent) (i : ℕ) (d : Intent) → i < length xs → reverse (take (i + 1) xs) ≡ get_or xs i d ∷ reverse (take i xs)
front_reversed xs i d h = ap (λ (ys : List Intent). reverse ys) (take_more xs i d h) ∙ reverse-append (take i xs) (get_or xs i d ∷ [])

pub fits_at : (s : Size) (xs : List Intent) (i : ℕ) (d : Intent) → i < length xs → EachFitsAfter s (reverse xs) → IntentFits (size_after s (reverse (take i xs))) (get_or xs i d)
fits_at s xs i d h f =
    let whole : reverse xs ≡ reverse (drop (i + 1) xs) ++ reverse (take (i + 1) xs) = ap (λ (ys : List Intent). reverse ys) (sym (take-append-drop (i + 1) xs)) ∙ reverse-append (take (i + 1) xs) (drop (i + 1) xs) in
    let front = behind s (reverse (drop (i + 1) xs)) (reverse (take (i + 1) xs)) (subst (λ (ys : List Intent). EachFitsAfter s ys) whole f) in
    (subst (λ (ys : List Intent). EachFitsAfter s ys) (front_reversed xs i d h) front).0

pub passes_more : (s : Size) (e : Effect) (xs : List Intent) (i : ℕ) (d : Intent) → i < length xs → (done : List Intent) (mid : Effect) (size : Size) →
    size ≡ size_after s (reverse (take i xs)) → PassesOwn s e (reverse (take i xs)) (reverse done) mid → (c' : Intent) (last : Effect) → Converges size (get_or xs i d) mid c' last →
    (done' : List Intent) → done' ≡ done ++ c' ∷ [] → PassesOwn s e (reverse (take (i + 1) xs)) (reverse done') last
passes_more s e xs i d h done mid size sized p c' last pair done' is =
    subst (λ (ys : List Intent). PassesOwn s e ys (reverse done') last) (sym (front_reversed xs i d h))
    (c', reverse done, mid, p, subst (λ (z : Size). Converges z (get_or xs i d) mid c' last) sized pair, ap (λ (ys : List Intent). reverse ys) is ∙ reverse-append done (c' ∷ []))

pub size_more : (s : Size) (xs : List Intent) (i : ℕ) (d : Intent) → i < length xs → (size : Size) → size ≡ size_after s (reverse (take i xs)) →
    size_past size (effect_of_intent (get_or xs i d)) ≡ size_after s (reverse (take (i + 1) xs))
size_more s xs i d h size sized = ap (λ z. size_past z (effect_of_intent (get_or xs i d))) sized ∙ ap (λ (ys : List Intent). size_after s ys) (sym (front_reversed xs i d h))

-- one operation more at the end fits, where it fits what those before it leave
pub fits_more : (s : Size) (done : List Intent) (c' : Intent) (done' : List Intent) → done' ≡ done ++ c' ∷ [] → EachFitsAfter s (reverse done) → (z : Size) → z ≡ size_after s (reverse done) → IntentFits z c' → EachFitsAfter s (reverse done')
fits_more s done c' done' is f z sized fit =
    subst (λ (ys : List Intent). EachFitsAfter s ys) (sym (ap (λ (ys : List Intent). reverse ys) is ∙ reverse-append done (c' ∷ []))) (subst (λ (y : Size). IntentFits y c') sized fit, f)

pub sized_more : (s : Size) (done : List Intent) (c' : Intent) (done' : List Intent) → done' ≡ done ++ c' ∷ [] → size_after s (reverse done') ≡ size_past (size_after s (reverse done)) (effect_of_intent c')
sized_more s done c' done' is = ap (λ (ys : List Intent). size_after s ys) (ap (λ (ys : List Intent). reverse ys) is ∙ reverse-append done (c' ∷ []))

-- ---- one operation more, of which a change is noted or none
pub replaced_next : (xs : List Intent) (i : ℕ) (x : Intent) → i < length xs → x ≡ get_or xs i x → (cs more : List (Option Intent)) (c : Option Intent) →
    ((ys : List Intent) (y : Intent) → length ys ≡ i → replaced more (ys ++ y ∷ []) ≡ replaced cs ys ++ unwrap_or c y ∷ []) → replaced more (take (i + 1) xs) ≡ replaced cs (take i xs) ++ unwrap_or c x ∷ []
replaced_next xs i x h at cs more c noted =
    ap (replaced more) (take_more xs i x h ∙ ap (λ (y : Intent). take i xs ++ y ∷ []) (sym at)) ∙ noted (take i xs) x (length-take-le i xs (omega arith))
