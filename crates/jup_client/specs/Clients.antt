-- What a client keeps, the messages that it is sent, and what comes of each.
use Rattle.std.specs.Prelude.{ℕ, ◌≡◌, ◌<◌, ◌≤◌, ◌+◌, ◌-◌, ◌^◌, ◌⊎◌, min, if◌then◌else◌, List, [], ◌∷◌, length, reverse, Option, None, Some}
use Rattle.ss_base.specs.declared.types.Size.{Size}
use Rattle.sheet_ops.specs.declared.operation.Effect.{Effect}
use Rattle.sheet_ops.specs.declared.operation.Entry.{Entry}
use Rattle.sheet_ops.specs.declared.operation.Intent.{Intent}
use Rattle.sheet_ops.specs.Naming.{effect_of_intent}
use Rattle.sheet_ops.specs.Placed.{placed_size}
use Rattle.sheet_ops.specs.Effects.{effect_on}
use Rattle.sheet_ops.specs.Chains.{size_past, size_after, EachFitsAfter, PassesOwn}
use Rattle.sheet_ops.specs.Represents.{ClientState, is_own}
use Rattle.sheet_ops.specs.Published.{effect_at}
use Rattle.sheet_ops.specs.Misfits.{misfit, effect_tests}
use Rattle.jup_client.specs.declared.Down.{Down}
use Rattle.jup_client.specs.declared.Down.TheVariants as message
use Rattle.jup_client.specs.declared.client.TakeErr.{TakeErr}
use Rattle.jup_client.specs.declared.client.TakeErr.TheVariants as fault

-- no more rows and columns than a history comes to, and more
abbrev pub IsSmall : Size → Type 0
IsSmall s = (s.rows ≤ 9000) × (s.cols ≤ 8064)

abbrev pub IsBig : Size → Type 0
IsBig s = (9000 < s.rows) ⊎ (8064 < s.cols)

-- what holds of every client
pub record IsClient (c : ClientState) : Type 0 where
  pub site : 0 < c.site
  pub rows : c.size.rows ≤ 1000
  pub cols : c.size.cols ≤ 64
  pub small : IsSmall c.base
  pub pending_few : length c.pending ≤ c.issued
  pub issued_few : c.issued ≤ 1000
  pub fits : EachFitsAfter c.base (reverse c.pending)
  pub sized : placed_size c.sheet ≡ size_after c.base (reverse c.pending)

-- the message that a site is sent for the entry at place k of the history
abbrev pub down_at : Size → List Entry → ℕ → ℕ → Down
down_at size H site k = if is_own H site k then message.Own else message.Other (effect_at size H k)

-- the entry that an own operation becomes
abbrev pub own_entry : ClientState → Intent → Entry
own_entry c op = record { site = record { 0 = c.site }; seen = c.taken; intent = op }

-- the size that the first of some operations leaves
abbrev pub first_past : Size → List Intent → Size
first_past s [] = s
first_past s (op ∷ ops) = size_past s (effect_of_intent op)

-- the base size after a message
abbrev pub base_past : ClientState → Down → Size
base_past c message.Own = first_past c.base c.pending
base_past c (message.Other e) = size_past c.base e

-- the index of the first number of an effect that isn't in a sheet of the base size
abbrev pub down_misfit : ClientState → Down → Option ℕ
down_misfit c message.Own = None
down_misfit c (message.Other e) = misfit (effect_tests c.base e)

-- Why a client refuses a message.
abbrev pub RefusesMessage : ClientState → Down → TakeErr → Type 0
RefusesMessage c d fault.NotMine = (d ≡ message.Own) × (c.pending ≡ [])
RefusesMessage c d (fault.BadPlace k) = down_misfit c d ≡ Some k
RefusesMessage c d fault.TooBig = (down_misfit c d ≡ None) × IsBig (base_past c d)
RefusesMessage c d fault.Memory = ⊥

-- no cause holds; and why an answer other than Ok came: for a cause, or for want of memory where none holds
abbrev pub AcceptsMessage : ClientState → Down → Type 0
AcceptsMessage c d = (x : TakeErr) → RefusesMessage c d x → ⊥

abbrev pub IsCause : ClientState → Down → TakeErr → Type 0
IsCause c d x = RefusesMessage c d x ⊎ ((x ≡ fault.Memory) × AcceptsMessage c d)

-- so many entries and one more; the last number of a `u32` stands for all above it
abbrev pub one_more : ℕ → ℕ
one_more n = min (n + 1) (2 ^ 32 - 1)

-- The client after a message. An own entry is the first that is pending, and is pending no more. Another's effect is done
-- on the sheet as it is past the pending operations, and these are pending as they are past the effect.
abbrev pub IsTaken : ClientState → Down → ClientState → Type 0
IsTaken c message.Own d = (op : Intent) × (c.pending ≡ op ∷ d.pending)
    × (d ≡ record c { taken = one_more c.taken; pending = d.pending; base = size_past c.base (effect_of_intent op) })
IsTaken c (message.Other e) d = (last : Effect) × PassesOwn c.base e (reverse c.pending) (reverse d.pending) last
    × (d ≡ record c { taken = one_more c.taken; sheet = effect_on c.sheet last; pending = d.pending; base = size_past c.base e })
