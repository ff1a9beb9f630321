-- The rest of a history, which a client lacks.
use Rattle.std.proofs.Common.{◌≡◌, ℕ, suc, ◌-◌, ◌≤◌, min, List, [], ◌∷◌, ◌++◌, length, take, drop, ap, sym, ◌∙◌, subst, arith}
use Rattle.std.proofs.lemmas.List.{length-append, length-take, length-drop}
use Rattle.std.proofs.lemmas.List.FromFn.{length-map-range_with_len}
use Rattle.ss_base.specs.declared.types.Size.{Size}
use Rattle.ss_base.specs.Lists.{IsPrefixOf}
use Rattle.sheet_ops.specs.History.{own_entries, IsValidHistory}
use Rattle.sheet_ops.specs.Represents.{ClientState, ClientRepresents}
use Rattle.sheet_ops.proofs.Lengths.{valid_few}
use Rattle.jup_client.specs.declared.Down.{Down}
use Rattle.jup_client.specs.Clients.{down_at}
use Rattle.hub.specs.Hubs.{HubOf}
use Rattle.hub.specs.Messages.{messages_of}
use Rattle.live_session.specs.Pulling.{AreNextMessages, HasTakenMore}
use Rattle.live_record.specs.Records.{HasTakenAll}
use Rattle.live_close.specs.Closing.{MayTakeRest, HaveTakenRest}
use Rattle.live_close.proofs.Lists.{begins_itself, each_more}

module _ (hub : HubOf) (site : ℕ) (old : ClientState) (may : MayTakeRest hub site old) (from number most : ℕ) (downs : List Down) where
  -- the messages from what was taken on, for this site
  abbrev AreRest : Type 0
  AreRest = (from ≡ old.taken) × (number ≡ site) × (downs ≡ take most (drop from (messages_of hub.size hub.entries number)))

  few_entries : length hub.entries ≤ 8000
  few_entries = let few = valid_few hub.size hub.sites hub.entries may.valid in let sites = may.few in omega (arith, few, sites)

  pub next_messages : AreRest → AreNextMessages old hub.entries (own_entries site hub.entries) downs
  next_messages (from_is, number_is, are) = record {
    sites = hub.sites;
    few = may.few;
    valid = subst (λ (z : Size). IsValidHistory z hub.sites hub.entries) (sym may.sized) may.valid;
    own = subst (λ (n : ℕ). IsPrefixOf (own_entries n hub.entries) (own_entries site hub.entries)) (sym may.number) (begins_itself (own_entries site hub.entries));
    represents = may.represents;
    messages = (most, are ∙ (λ i. take most (drop (from_is i) (messages_of (sym may.sized i) hub.entries ((number_is ∙ sym may.number) i)))));
  }

  as_many : AreRest → 8000 ≤ most → length downs ≡ length hub.entries - old.taken
  as_many (from_is, number_is, are) enough =
      let all = messages_of hub.size hub.entries number in
      let few = few_entries in
      let whole : length all ≡ length hub.entries = length-map-range_with_len (down_at hub.size hub.entries number) 0 (length hub.entries) in
      let left = length-drop from all in
      let some : length downs ≡ min most (length (drop from all)) = ap length are ∙ length-take most (drop from all) in
      omega (arith, few, whole, left, some, from_is, enough)

  pub has_taken_all : AreRest → 8000 ≤ most → (new : ClientState) → HasTakenMore (length downs) old new → ClientRepresents new hub.entries (own_entries site hub.entries) → HasTakenAll hub.size hub.entries site new
  has_taken_all are enough new took represents = record {
    number = took.site ∙ may.number;
    sized = took.size ∙ may.sized;
    taken = (let more = took.taken in let many = as_many are enough in let within = may.within in omega (arith, more, many, within));
    represents = represents;
  }

-- one client more has taken all
pub more_taken : (hub : HubOf) (clients done : List ClientState) (old new : ClientState) → HaveTakenRest hub clients done → HasTakenAll hub.size hub.entries (suc (length clients)) new → HaveTakenRest hub (clients ++ old ∷ []) (done ++ new ∷ [])
more_taken hub clients done old new taken all = record {
  as_many = (let n = length-append clients (old ∷ []) in let m = length-append done (new ∷ []) in let same = taken.as_many in omega (arith, n, m, same));
  each = each_more (λ k (c : ClientState). HasTakenAll hub.size hub.entries (suc k) c) done new taken.each
      (subst (λ (n : ℕ). HasTakenAll hub.size hub.entries (suc n) new) (sym taken.as_many) all);
}
