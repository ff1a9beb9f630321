-- Why a server refuses a message: at most one cause holds, and none of an entry that may come next.
use Rattle.std.proofs.Common.{◌≡◌, ℕ, ◌+◌, ◌<◌, ◌≤◌, List, [], ◌∷◌, ◌++◌, length, refl, ap, sym, ◌∙◌, subst, arith, inl, inr, Option, None, Some, Ok, Err}
use Rattle.std.specs.Prelude.{◌⊎◌, ◌↔◌, Result, IfErr, MatchResult}
use Rattle.ss_base.specs.declared.types.Size.{Size}
use Rattle.sheet_ops.specs.declared.operation.Entry.{Entry}
use Rattle.sheet_ops.specs.Naming.{operations_of}
use Rattle.sheet_ops.specs.Fits.{IntentFits}
use Rattle.sheet_ops.specs.Placed.{size_of}
use Rattle.sheet_ops.specs.History.{own_entries, operations, IsValidHistory}
use Rattle.sheet_ops.specs.Represents.{view_at, LinkRepresents, ServerState, ServerRepresents}
use Rattle.sheet_ops.proofs.Lengths.{one_of}
use Rattle.sheet_ops.proofs.Published.{site_from, site_to, seen_within, seen_later, few_before, fits_before}
use Rattle.sheet_ops.specs.declared.operation.Up.{Up}
use Rattle.sheet_ops.specs.Misfits.{misfit, intent_tests}
use Rattle.sheet_ops.proofs.Sizes.{intent_none}
use Rattle.jup_server.specs.declared.SubmitErr.{SubmitErr}
use Rattle.jup_server.specs.declared.SubmitErr.TheVariants as fault
use Rattle.jup_server.specs.Servers.{link_at, seen_size, entry_of, IsSite, HasLeft, low_of, IsInReach, IsRefused, IsAdmitted, MayTake}
use Rattle.jup_server.proofs.Submitted.{link, view_size}

abbrev IsFound : Option ℕ → Type 0
IsFound None = ⊥
IsFound (Some k) = Unit {0}

not_found : (k : ℕ) → Some k ≡ None → ⊥
not_found k h = subst IsFound h tt

abbrev found_or : ℕ → Option ℕ → ℕ
found_or d None = d
found_or d (Some k) = k

abbrev IsCaused : SubmitErr → Type 0
IsCaused fault.NoSite = ⊥
IsCaused fault.Spent = ⊥
IsCaused (fault.BadSeen a b c) = ⊥
IsCaused (fault.BadPlace k) = ⊥
IsCaused fault.Memory = Unit {0}

abbrev IsRefusal : {A : Type 0} → Result A SubmitErr → Type 0
IsRefusal (Ok a) = ⊥
IsRefusal (Err x) = Unit {0}

abbrev refusal_or : {A : Type 0} → SubmitErr → Result A SubmitErr → SubmitErr
refusal_or d (Ok a) = d
refusal_or d (Err x) = x

-- ---- two causes are one
module _ (size : Size) (sites : ℕ) (H : List Entry) (e : Entry) where
  off : ((e.site.0 ≡ 0) ⊎ (sites < e.site.0)) → IsSite sites e → ⊥
  off (inl h) (from, to) = omega (arith, h, from)
  off (inr h) (from, to) = omega (arith, h, to)

  spent : (1000 < operations (own_entries e.site.0 H) + operations_of e.intent) → HasLeft H e → ⊥
  spent h few = omega (arith, h, few)

  far : (seen low high : ℕ) → seen ≡ e.seen → low ≡ low_of H e → high ≡ length H → ((seen < low) ⊎ (high < seen)) → IsInReach H e → ⊥
  far seen low high a b c (inl h) (from, to) = omega (arith, a, b, h, from)
  far seen low high a b c (inr h) (from, to) = omega (arith, a, c, h, to)

  pub same_cause : (x y : SubmitErr) → IsRefused size sites H e x → IsRefused size sites H e y → x ≡ y
  same_cause fault.NoSite fault.NoSite r s = refl
  same_cause fault.NoSite fault.Spent r s = absurd (off r s.0)
  same_cause fault.NoSite (fault.BadSeen a b c) r s = absurd (off r s.0)
  same_cause fault.NoSite (fault.BadPlace k) r s = absurd (off r s.0)
  same_cause fault.NoSite fault.Memory r s = absurd s
  same_cause fault.Spent fault.NoSite r s = absurd (off s r.0)
  same_cause fault.Spent fault.Spent r s = refl
  same_cause fault.Spent (fault.BadSeen a b c) r s = absurd (spent r.1 s.1)
  same_cause fault.Spent (fault.BadPlace k) r s = absurd (spent r.1 s.1)
  same_cause fault.Spent fault.Memory r s = absurd s
  same_cause (fault.BadSeen a b c) fault.NoSite r s = absurd (off s r.0)
  same_cause (fault.BadSeen a b c) fault.Spent r s = absurd (spent s.1 r.1)
  same_cause (fault.BadSeen a b c) (fault.BadSeen a' b' c') r s = λ i. fault.BadSeen ((r.2 ∙ sym s.2) i) ((r.3 ∙ sym s.3) i) ((r.4 ∙ sym s.4) i)
  same_cause (fault.BadSeen a b c) (fault.BadPlace k) r s = absurd (far a b c r.2 r.3 r.4 r.5 s.2)
  same_cause (fault.BadSeen a b c) fault.Memory r s = absurd s
  same_cause (fault.BadPlace j) fault.NoSite r s = absurd (off s r.0)
  same_cause (fault.BadPlace j) fault.Spent r s = absurd (spent s.1 r.1)
  same_cause (fault.BadPlace j) (fault.BadSeen a b c) r s = absurd (far a b c s.2 s.3 s.4 s.5 r.2)
  same_cause (fault.BadPlace j) (fault.BadPlace k) r s = ap (λ (m : Option ℕ). fault.BadPlace (found_or 0 m)) (sym r.3 ∙ s.3)
  same_cause (fault.BadPlace j) fault.Memory r s = absurd s
  same_cause fault.Memory y r s = absurd r

  -- no cause holds of an entry that may come next
  pub admitted_by : IsSite sites e → HasLeft H e → IsInReach H e → IntentFits (size_of (view_at size H e.site.0 e.seen)) e.intent → IsAdmitted size sites H e
  admitted_by site few reach fits fault.NoSite r = off r site
  admitted_by site few reach fits fault.Spent r = spent r.1 few
  admitted_by site few reach fits (fault.BadSeen a b c) r = far a b c r.2 r.3 r.4 r.5 reach
  admitted_by site few reach fits (fault.BadPlace k) r = not_found k (sym r.3 ∙ intent_none (size_of (view_at size H e.site.0 e.seen)) e.intent fits)
  admitted_by site few reach fits fault.Memory r = r

  pub admitted_next : IsValidHistory size sites (H ++ e ∷ []) → IsAdmitted size sites H e
  admitted_next v =
      admitted_by (site_from size sites H e v, site_to size sites H e v) (few_before size sites H e v) (seen_later size sites H e v, seen_within size sites H e v) (fits_before size sites H e v)

  -- why a call that may want memory answers
  abbrev pub IsCause : SubmitErr → Type 0
  IsCause x = IsRefused size sites H e x ⊎ ((x ≡ fault.Memory) × IsAdmitted size sites H e)

  pub exact : {A : Type 0} (r : Result A SubmitErr) → MatchResult r (λ _. IsAdmitted size sites H e) IsCause → (x : SubmitErr) → (x ≡ fault.Memory → ⊥) → ((r ≡ Err x) ↔ IsRefused size sites H e x)
  exact {A} (Ok a) free x apart = ((λ h. absurd (subst IsRefusal (sym h) tt)), λ s. absurd (free x s))
  exact {A} (Err y) (inl r) x apart = ((λ h. subst (IsRefused size sites H e) (ap (refusal_or y) h) r), λ s. ap (λ (z : SubmitErr). Err z) (same_cause y x r s))
  exact {A} (Err y) (inr (is, free)) x apart = ((λ h. absurd (apart (sym (ap (refusal_or y) h) ∙ is))), λ s. absurd (free x s))

  pub memory_alone : {A : Type 0} (r : Result A SubmitErr) → MatchResult r (λ _. IsAdmitted size sites H e) IsCause → IsAdmitted size sites H e → IfErr r (λ x. x ≡ fault.Memory)
  memory_alone (Ok a) came free = tt
  memory_alone (Err y) (inl r) free = absurd (free y r)
  memory_alone (Err y) (inr (is, rest)) free = is

  -- what an exact answer says of the causes
  pub free_at : {A : Type 0} (r : Result A SubmitErr) (a : A) → r ≡ Ok a → ((x : SubmitErr) → (x ≡ fault.Memory → ⊥) → ((r ≡ Err x) ↔ IsRefused size sites H e x)) → IsAdmitted size sites H e
  free_at {A} r a ok all x cause = absurd_at x cause (λ other. subst IsRefusal (sym ((all x other).1 cause) ∙ ok) tt)
    where
      absurd_at : (x : SubmitErr) → IsRefused size sites H e x → ((x ≡ fault.Memory → ⊥) → ⊥) → ⊥
      absurd_at fault.NoSite r f = f (λ h. subst IsCaused (sym h) tt)
      absurd_at fault.Spent r f = f (λ h. subst IsCaused (sym h) tt)
      absurd_at (fault.BadSeen i j k) r f = f (λ h. subst IsCaused (sym h) tt)
      absurd_at (fault.BadPlace k) r f = f (λ h. subst IsCaused (sym h) tt)
      absurd_at fault.Memory r f = r

-- ---- the causes by what is kept of a site
module _ (s : ServerState) (H : List Entry) (r : ServerRepresents s H) (rows : s.size.rows ≤ 1000) (cols : s.size.cols ≤ 64) (sites : s.sites ≤ 8) (site : ℕ) (up : Up) (from : 0 < site) (to : site ≤ s.sites) where
  its : LinkRepresents s.size H site (link_at s site)
  its = link s H r rows cols sites site from to

  left : (link_at s site).issued < 1000 → HasLeft H (entry_of site up)
  left few = let n = its.issued in let m = one_of up.intent in omega (arith, n, m, few)

  pub spent_here : 1000 ≤ (link_at s site).issued → IsRefused s.size s.sites H (entry_of site up) fault.Spent
  spent_here h = ((from, to), (let n = its.issued in let m = one_of up.intent in omega (arith, n, m, h)))

  pub far_here : (link_at s site).issued < 1000 → ((up.seen < (link_at s site).seen) ⊎ (s.count < up.seen)) → IsRefused s.size s.sites H (entry_of site up) (fault.BadSeen up.seen (link_at s site).seen s.count)
  far_here few h = ((from, to), left few, refl, its.seen, r.count, h)

  reach : (link_at s site).seen ≤ up.seen → up.seen ≤ s.count → IsInReach H (entry_of site up)
  reach low high = let n = its.seen in let m = r.count in (omega (arith, n, low), omega (arith, m, high))

  view_is : (link_at s site).seen ≤ up.seen → up.seen ≤ s.count → size_of (view_at s.size H site up.seen) ≡ seen_size (link_at s site) up.seen
  view_is low high = view_size s H r rows cols sites site from to up.seen low high

  pub misfit_here : (link_at s site).issued < 1000 → (link_at s site).seen ≤ up.seen → up.seen ≤ s.count → (k : ℕ) → misfit (intent_tests (seen_size (link_at s site) up.seen) up.intent) ≡ Some k →
      IsRefused s.size s.sites H (entry_of site up) (fault.BadPlace k)
  misfit_here few low high k is = ((from, to), left few, reach low high, ap (λ (z : Size). misfit (intent_tests z up.intent)) (view_is low high) ∙ is)

  pub admitted_here : MayTake s site up → IsAdmitted s.size s.sites H (entry_of site up)
  admitted_here may =
      admitted_by s.size s.sites H (entry_of site up) (from, to) (left may.few) (reach may.low may.high) (subst (λ (z : Size). IntentFits z up.intent) (sym (view_is may.low may.high)) may.fits)
