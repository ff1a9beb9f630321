-- The messages for the next entries of a history, taken one after another.
use Rattle.std.proofs.Common.{◌≡◌, ℕ, ◌+◌, ◌-◌, ◌<◌, ◌≤◌, min, List, length, get_or, drop, refl, ap, sym, ◌∙◌, subst, arith}
use Rattle.std.proofs.lemmas.List.{length-take, length-drop, get_or-take, get_or-drop}
use Rattle.std.proofs.lemmas.List.FromFn.{length-map-range_with_len, get_or-map-range_with_len}
use Rattle.ss_base.specs.declared.types.Size.{Size}
use Rattle.ss_base.specs.Lists.{IsPrefixOf}
use Rattle.sheet_ops.specs.declared.operation.Entry.{Entry}
use Rattle.sheet_ops.specs.History.{own_entries, IsValidHistory}
use Rattle.sheet_ops.specs.Represents.{ClientState, ClientRepresents}
use Rattle.sheet_ops.proofs.Lengths.{valid_few}
use Rattle.jup_client.specs.declared.Down.{Down}
use Rattle.jup_client.specs.declared.Down.TheVariants as message
use Rattle.jup_client.specs.Clients.{IsTaken, down_at}
use Rattle.hub.specs.Messages.{messages_of}
use Rattle.live_session.specs.Pulling.{AreNextMessages, HasTakenMore}

pub took_none : (c : ClientState) → HasTakenMore 0 c c
took_none c = record { site = refl; size = refl; issued = refl; taken = omega arith }

-- one message more
pub took_more : (old c new : ClientState) (i : ℕ) (d : Down) → HasTakenMore i old c → IsTaken c d new → old.taken + i < 8000 → HasTakenMore (i + 1) old new
took_more old c new i message.Own t (op, first, is) small = record {
  site = ap (λ (x : ClientState). x.site) is ∙ t.site;
  size = ap (λ (x : ClientState). x.size) is ∙ t.size;
  issued = ap (λ (x : ClientState). x.issued) is ∙ t.issued;
  taken = omega (arith, ap (λ (x : ClientState). x.taken) is, t.taken, small);
}
took_more old c new i (message.Other e) t (last, passes, is) small = record {
  site = ap (λ (x : ClientState). x.site) is ∙ t.site;
  size = ap (λ (x : ClientState). x.size) is ∙ t.size;
  issued = ap (λ (x : ClientState). x.issued) is ∙ t.issued;
  taken = omega (arith, ap (λ (x : ClientState). x.taken) is, t.taken, small);
}

module _ (old : ClientState) (H G : List Entry) (downs : List Down) (next : AreNextMessages old H G downs) where
  few_entries : length H ≤ 8000
  few_entries = let few = valid_few old.size next.sites H next.valid in omega (arith, few, next.few)

  -- no more than the history has
  within : (i : ℕ) → i < length downs → (i < next.messages.0) × (old.taken + i < length H)
  within i h =
      let all = messages_of old.size H old.site in
      let rest : length (drop old.taken all) ≡ length all - old.taken = length-drop old.taken all in
      let some : length downs ≡ min next.messages.0 (length (drop old.taken all)) = ap length next.messages.1 ∙ length-take next.messages.0 (drop old.taken all) in
      let whole : length all ≡ length H = length-map-range_with_len (down_at old.size H old.site) 0 (length H) in
      (omega (arith, h, some), omega (arith, h, some, rest, whole))

  message_at : (i : ℕ) (d : Down) → i < length downs → get_or downs i d ≡ down_at old.size H old.site (old.taken + i)
  message_at i d h =
      let all = messages_of old.size H old.site in
      ap (λ (ds : List Down). get_or ds i d) next.messages.1
      ∙ (get_or-take next.messages.0 (drop old.taken all) i d (within i h).0
      ∙ (get_or-drop old.taken all i d
      ∙ get_or-map-range_with_len (down_at old.size H old.site) 0 (length H) (old.taken + i) (old.taken + i) d (within i h).1 (omega arith)))

  -- where so many were taken
  module _ (c : ClientState) (i : ℕ) (t : HasTakenMore i old c) (h : i < length downs) where
    pub taken_small : old.taken + i < 8000
    taken_small = let few = few_entries in let more = (within i h).1 in omega (arith, few, more)

    -- what is asked of the next one
    pub take_next : (P : List Entry → List Entry → Type 0) (d : Down) → d ≡ get_or downs i d → ClientRepresents c H G
        → ((sites : ℕ) (K L : List Entry) → sites ≤ 8 → IsValidHistory c.size sites K → ClientRepresents c K L → c.taken < length K → IsPrefixOf (own_entries c.site K) L → d ≡ down_at c.size K c.site c.taken → P K L)
        → P H G
    take_next P d is represents asked =
        let more = (within i h).1 in
        asked next.sites H G next.few
        (subst (λ (z : Size). IsValidHistory z next.sites H) (sym t.size) next.valid)
        represents
        (omega (arith, more, t.taken))
        (subst (λ (n : ℕ). IsPrefixOf (own_entries n H) G) (sym t.site) next.own)
        (is ∙ (message_at i d h ∙ (λ j. down_at (sym t.size j) H (sym t.site j) (sym t.taken j))))
