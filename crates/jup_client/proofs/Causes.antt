-- Why a client refuses a message: at most one cause holds.
use Rattle.std.proofs.Common.{◌≡◌, ℕ, List, [], ◌∷◌, refl, ap, sym, ◌∙◌, subst, arith, inl, inr, Option, None, Some, Ok, Err}
use Rattle.std.specs.Prelude.{◌↔◌, Result, OnOk, OnErr, IfErr, MatchResult}
use Rattle.ss_base.specs.declared.types.Size.{Size}
use Rattle.sheet_ops.specs.declared.operation.Effect.{Effect}
use Rattle.sheet_ops.specs.declared.operation.Intent.{Intent}
use Rattle.sheet_ops.specs.Naming.{effect_of_intent}
use Rattle.sheet_ops.specs.Chains.{size_past}
use Rattle.sheet_ops.specs.Represents.{ClientState}
use Rattle.jup_client.specs.declared.Down.{Down}
use Rattle.jup_client.specs.declared.Down.TheVariants as message
use Rattle.jup_client.specs.declared.client.TakeErr.{TakeErr}
use Rattle.jup_client.specs.declared.client.TakeErr.TheVariants as fault
use Rattle.jup_client.specs.Clients.{IsSmall, IsBig, IsClient, first_past, base_past, down_misfit, RefusesMessage, AcceptsMessage, IsCause}

-- ---- what differs
abbrev IsOther : Down → Type 0
IsOther message.Own = ⊥
IsOther (message.Other e) = Unit {0}

pub not_own : (e : Effect) → message.Other e ≡ message.Own → ⊥
not_own e h = subst IsOther h tt

abbrev IsFound : Option ℕ → Type 0
IsFound None = ⊥
IsFound (Some k) = Unit {0}

pub not_found : (k : ℕ) → Some k ≡ None → ⊥
not_found k h = subst IsFound h tt

abbrev HasSome : List Intent → Type 0
HasSome [] = ⊥
HasSome (op ∷ ops) = Unit {0}

pub not_empty : (op : Intent) (ops : List Intent) → op ∷ ops ≡ [] → ⊥
not_empty op ops h = subst HasSome h tt

abbrev IsRefusal : {A : Type 0} → Result A TakeErr → Type 0
IsRefusal (Ok a) = ⊥
IsRefusal (Err x) = Unit {0}

abbrev refusal_or : {A : Type 0} → TakeErr → Result A TakeErr → TakeErr
refusal_or d (Ok a) = d
refusal_or d (Err x) = x

abbrev found_or : ℕ → Option ℕ → ℕ
found_or d None = d
found_or d (Some k) = k

pub not_big : (s : Size) → IsSmall s → IsBig s → ⊥
not_big s (rows, cols) (inl h) = omega (arith, rows, h)
not_big s (rows, cols) (inr h) = omega (arith, cols, h)

-- ---- an own entry
module _ (c : ClientState) (op : Intent) (ops : List Intent) (is : c.pending ≡ op ∷ ops) where
  own_past_is : size_past c.base (effect_of_intent op) ≡ first_past c.base c.pending
  own_past_is = sym (ap (first_past c.base) is)

  pub admitted_own : IsSmall (size_past c.base (effect_of_intent op)) → AcceptsMessage c message.Own
  admitted_own small fault.NotMine r = not_empty op ops (sym is ∙ r.1)
  admitted_own small (fault.BadPlace k) r = not_found k (sym r)
  admitted_own small fault.TooBig r = not_big (first_past c.base c.pending) (subst IsSmall own_past_is small) r.1
  admitted_own small fault.Memory r = r

  pub refused_own : IsBig (size_past c.base (effect_of_intent op)) → RefusesMessage c message.Own fault.TooBig
  refused_own big = (refl, subst IsBig own_past_is big)

-- ---- another's effect
pub admitted_other : (c : ClientState) (e : Effect) → down_misfit c (message.Other e) ≡ None → IsSmall (size_past c.base e) → AcceptsMessage c (message.Other e)
admitted_other c e none small fault.NotMine r = not_own e r.0
admitted_other c e none small (fault.BadPlace k) r = not_found k (sym r ∙ none)
admitted_other c e none small fault.TooBig r = not_big (size_past c.base e) small r.1
admitted_other c e none small fault.Memory r = r

-- ---- two causes are one
module _ (c : ClientState) (ok : IsClient c) (d : Down) where
  own_fits : d ≡ message.Own → down_misfit c d ≡ None
  own_fits is = ap (down_misfit c) is

  none_small : d ≡ message.Own → c.pending ≡ [] → IsBig (base_past c d) → ⊥
  none_small is none big = not_big c.base ok.small (subst IsBig (ap (base_past c) is ∙ ap (first_past c.base) none) big)

  pub same_cause : (x y : TakeErr) → RefusesMessage c d x → RefusesMessage c d y → x ≡ y
  same_cause fault.NotMine fault.NotMine r s = refl
  same_cause fault.NotMine (fault.BadPlace k) r s = absurd (not_found k (sym s ∙ own_fits r.0))
  same_cause fault.NotMine fault.TooBig r s = absurd (none_small r.0 r.1 s.1)
  same_cause fault.NotMine fault.Memory r s = absurd s
  same_cause (fault.BadPlace j) fault.NotMine r s = absurd (not_found j (sym r ∙ own_fits s.0))
  same_cause (fault.BadPlace j) (fault.BadPlace k) r s = ap (λ (m : Option ℕ). fault.BadPlace (found_or 0 m)) (sym r ∙ s)
  same_cause (fault.BadPlace j) fault.TooBig r s = absurd (not_found j (sym r ∙ s.0))
  same_cause (fault.BadPlace j) fault.Memory r s = absurd s
  same_cause fault.TooBig fault.NotMine r s = absurd (none_small s.0 s.1 r.1)
  same_cause fault.TooBig (fault.BadPlace k) r s = absurd (not_found k (sym s ∙ r.0))
  same_cause fault.TooBig fault.TooBig r s = refl
  same_cause fault.TooBig fault.Memory r s = absurd s
  same_cause fault.Memory y r s = absurd r

  -- an answer that comes for a cause comes exactly for it
  pub exact : {A : Type 0} (r : Result A TakeErr) → MatchResult r (λ _. AcceptsMessage c d) (IsCause c d) → (x : TakeErr) → (x ≡ fault.Memory → ⊥) → ((r ≡ Err x) ↔ RefusesMessage c d x)
  exact {A} (Ok a) free x apart = ((λ h. absurd (subst IsRefusal (sym h) tt)), λ s. absurd (free x s))
  exact {A} (Err y) (inl r) x apart = ((λ h. subst (RefusesMessage c d) (ap (refusal_or y) h) r), λ s. ap (λ (z : TakeErr). Err z) (same_cause y x r s))
  exact {A} (Err y) (inr (is, free)) x apart = ((λ h. absurd (apart (sym (ap (refusal_or y) h) ∙ is))), λ s. absurd (free x s))

-- where no cause holds there is want of memory alone
pub memory_alone : {A : Type 0} (c : ClientState) (d : Down) (r : Result A TakeErr) → MatchResult r (λ _. AcceptsMessage c d) (IsCause c d) → AcceptsMessage c d → IfErr r (λ x. x ≡ fault.Memory)
memory_alone c d (Ok a) came free = tt
memory_alone c d (Err y) (inl r) free = absurd (free y r)
memory_alone c d (Err y) (inr (is, rest)) free = is

-- what holds at Ok, and of each other answer
pub either : {A E : Type 0} (P : Type 0) (Q : E → Type 0) (r : Result A E) → OnOk r P → IfErr r Q → MatchResult r (λ _. P) Q
either P Q (Ok a) p q = p
either P Q (Err x) p q = q

pub at_err : {A E : Type 0} (P : Type 0) (r : Result A E) → P → OnErr r P
at_err P (Ok a) p = tt
at_err P (Err x) p = p
