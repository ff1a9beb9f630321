-- Causes of a refusal, where want of memory may come before them.
use Rattle.std.proofs.Common.{◌≡◌, List, refl, inl, inr}
use Rattle.std.specs.Prelude.{ℕ, ◌⊎◌}
use Rattle.ss_base.specs.declared.types.Size.{Size}
use Rattle.sheet_ops.specs.declared.operation.Entry.{Entry}
use Rattle.jup_server.specs.declared.SubmitErr.{SubmitErr}
use Rattle.jup_server.specs.declared.SubmitErr.TheVariants as fault
use Rattle.jup_server.specs.Servers.{IsRefused, IsAdmitted}

pub admitted : (size : Size) (sites : ℕ) (H : List Entry) (e : Entry) → ((x : SubmitErr) → (x ≡ fault.Memory → ⊥) → IsRefused size sites H e x → ⊥) → IsAdmitted size sites H e
admitted size sites H e none fault.NoSite r = none fault.NoSite (λ m. absurd (cc)) r
admitted size sites H e none fault.Spent r = none fault.Spent (λ m. absurd (cc)) r
admitted size sites H e none (fault.BadSeen seen low high) r = none (fault.BadSeen seen low high) (λ m. absurd (cc)) r
admitted size sites H e none (fault.BadPlace k) r = none (fault.BadPlace k) (λ m. absurd (cc)) r
admitted size sites H e none fault.Memory r = r

pub caused : (size : Size) (sites : ℕ) (H : List Entry) (e : Entry) (x : SubmitErr) → ((x ≡ fault.Memory → ⊥) → IsRefused size sites H e x) → (x ≡ fault.Memory) ⊎ IsRefused size sites H e x
caused size sites H e fault.NoSite h = inr (h (λ m. absurd (cc)))
caused size sites H e fault.Spent h = inr (h (λ m. absurd (cc)))
caused size sites H e (fault.BadSeen seen low high) h = inr (h (λ m. absurd (cc)))
caused size sites H e (fault.BadPlace k) h = inr (h (λ m. absurd (cc)))
caused size sites H e fault.Memory h = inl refl
