-- Operations in turn: one more at the end, and past another's effect.
use Rattle.std.proofs.Common.{◌≡◌, ℕ, zero, suc, ◌+◌, ◌<◌, ◌≤◌, List, [], ◌∷◌, ◌++◌, length, take, drop, get_or, refl, ap, sym, ◌∙◌, subst, arith, append_assoc}
use Rattle.std.proofs.lemmas.List.{take_more}
use Rattle.ss_base.specs.declared.types.Size.{Size}
use Rattle.sheet_ops.specs.declared.operation.Effect.{Effect}
use Rattle.sheet_ops.specs.declared.operation.Intent.{Intent}
use Rattle.sheet_ops.specs.Chains.{size_past}
use Rattle.sheet_ops.specs.Effects.{StepsTo}
use Rattle.sheet_ops.specs.Fits.{IntentFits, EffectFits}
use Rattle.sheet_ops.specs.Naming.{effect_of_intent}
use Rattle.sheet_ops.specs.Placed.{PlacedSheet}
use Rattle.sheet_ops.specs.Transforms.{own_past, other_past}
use Rattle.sheet_ops.proofs.Convergence.{converges}
use Rattle.sheet_ops.proofs.Published.{own_fits_again, effect_fits_again}
use Rattle.name_model.specs.InTurn.{EachFitsInTurn, size_past_each, own_each_past, other_past_each, StepsEach}
use Rattle.name_model.proofs.Sized.{grows, sizes_meet}

-- ---- the next of a list
pub first_left : (xs : List Intent) (i : ℕ) (d : Intent) → i < length xs → drop i xs ≡ get_or xs i d ∷ drop (i + 1) xs
first_left [] i d h = absurd (omega arith)
first_left (x ∷ xs) zero d h = refl
first_left (x ∷ xs) (suc i) d h = let e : suc (i + 1) ≡ suc i + 1 = omega arith in first_left xs i d (omega arith) ∙ ap (λ n. get_or xs i d ∷ drop n (x ∷ xs)) e

pub none_left : (xs : List Intent) (i : ℕ) → length xs ≤ i → drop i xs ≡ []
none_left [] zero h = refl
none_left [] (suc i) h = refl
none_left (x ∷ xs) zero h = absurd (omega arith)
none_left (x ∷ xs) (suc i) h = none_left xs i (omega arith)

-- those that were taken and the next one, and the next one and those that are left
module _ (xs : List Intent) (i : ℕ) (x : Intent) (h : i < length xs) (is : x ≡ get_or xs i x) where
  pub taken_more : take (i + 1) xs ≡ take i xs ++ x ∷ []
  taken_more = take_more xs i x h ∙ ap (λ (y : Intent). take i xs ++ y ∷ []) (sym is)

  pub next_left : drop i xs ≡ x ∷ drop (i + 1) xs
  next_left = first_left xs i x h ∙ ap (λ (y : Intent). y ∷ drop (i + 1) xs) (sym is)

-- ---- one more
pub size_more : (s : Size) (cs : List Intent) (c : Intent) → size_past_each s (cs ++ c ∷ []) ≡ size_past (size_past_each s cs) (effect_of_intent c)
size_more s [] c = refl
size_more s (b ∷ cs) c = size_more (size_past s (effect_of_intent b)) cs c

pub steps_more : (P R Q : PlacedSheet) (cs : List Intent) (c : Intent) → StepsEach P cs R → StepsTo R (effect_of_intent c) Q → StepsEach P (cs ++ c ∷ []) Q
steps_more P R Q [] c s step = (Q, subst (λ (S : PlacedSheet). StepsTo S (effect_of_intent c) Q) (sym s) step, refl)
steps_more P R Q (b ∷ cs) c (M, first, rest) step = (M, first, steps_more M R Q cs c rest step)

-- room for one line less is left
pub room_left : (n m left rest : ℕ) → n + left ≤ 16000 → left ≡ suc rest → m ≤ n + 1 → m + rest ≤ 16000
room_left n m left rest h e g = omega arith

pub grows_each : (s : Size) (cs : List Intent) → ((size_past_each s cs).rows ≤ s.rows + length cs) × ((size_past_each s cs).cols ≤ s.cols + length cs)
grows_each s [] = (omega arith, omega arith)
grows_each s (c ∷ cs) =
    let one = grows s (effect_of_intent c) in
    let rest = grows_each (size_past s (effect_of_intent c)) cs in
    (omega (arith, one.0, rest.0), omega (arith, one.1, rest.1))

-- ---- past another's effect
pub each_fits : (s : Size) (cs : List Intent) (e : Effect) → EachFitsInTurn s cs → EffectFits s e →
    EachFitsInTurn (size_past s e) (own_each_past s cs e) × EffectFits (size_past_each s cs) (other_past_each s cs e)
each_fits s [] e f g = (tt, g)
each_fits s (c ∷ cs) e f g =
    let pair = converges s c e f.0 g in
    let own = own_fits_again s c e (own_past c e) (other_past s c e) f.0 g pair in
    let other = effect_fits_again s c e (own_past c e) (other_past s c e) f.0 g pair in
    let rest = each_fits (size_past s (effect_of_intent c)) cs (other_past s c e) f.1 other in
    ((own, subst (λ (z : Size). EachFitsInTurn z (own_each_past (size_past s (effect_of_intent c)) cs (other_past s c e))) (sym (sizes_meet s c e)) rest.0), rest.1)

pub length-own_each_past : (s : Size) (cs : List Intent) (e : Effect) → length (own_each_past s cs e) ≡ length cs
length-own_each_past s [] e = refl
length-own_each_past s (c ∷ cs) e = ap suc (length-own_each_past (size_past s (effect_of_intent c)) cs (other_past s c e))

-- one operation more past the effect
module _ (now later : Size) (cs rest : List Intent) (c after : Intent) (e past : Effect) (left : cs ≡ c ∷ rest) (own : after ≡ own_past c e) (other : past ≡ other_past now c e) (size : later ≡ size_past now (effect_of_intent c)) where
  pub own_more : (all done more : List Intent) → all ≡ done ++ own_each_past now cs e → more ≡ done ++ after ∷ [] → all ≡ more ++ own_each_past later rest past
  own_more all done more before pushed =
      before
      ∙ (ap (λ (xs : List Intent). done ++ own_each_past now xs e) left
      ∙ ((λ i. done ++ sym own i ∷ own_each_past (sym size i) rest (sym other i))
      ∙ (sym (append_assoc done (after ∷ []) (own_each_past later rest past)) ∙ ap (λ (xs : List Intent). xs ++ own_each_past later rest past) (sym pushed))))

  pub other_more : (all : Effect) → all ≡ other_past_each now cs e → all ≡ other_past_each later rest past
  other_more all before = before ∙ (ap (λ (xs : List Intent). other_past_each now xs e) left ∙ (λ i. other_past_each (sym size i) rest (sym other i)))

  pub fits_rest : EachFitsInTurn now cs → EachFitsInTurn later rest
  fits_rest f = subst (λ (z : Size). EachFitsInTurn z rest) (sym size) (subst (λ (xs : List Intent). EachFitsInTurn now xs) left f).1
