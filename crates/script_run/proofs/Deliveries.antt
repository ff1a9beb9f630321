-- What the messages of a valid run come to.
use Rattle.std.proofs.Common.{◌≡◌, ℕ, suc, ◌+◌, ◌<◌, ◌≤◌, Bool, true, false, cond, List, [], ◌∷◌, ◌++◌, length, drop, ap, sym, ◌∙◌, subst, arith, Option, Some}
use Rattle.std.specs.Prelude.{slice_get, slice_index_or, unwrap_or}
use Rattle.std.proofs.lemmas.Option.{slice_get-get_or}
use Rattle.std.proofs.lemmas.List.{take-append-drop}
use Rattle.ss_base.specs.declared.types.Size.{Size}
use Rattle.sheet_ops.specs.declared.operation.Entry.{Entry}
use Rattle.sheet_ops.specs.declared.operation.Effect.{Effect}
use Rattle.sheet_ops.specs.History.{own_entries, IsValidHistory}
use Rattle.sheet_ops.specs.Represents.{ClientState, ClientRepresents, ServerState, is_own}
use Rattle.sheet_ops.specs.Published.{effect_at}
use Rattle.sheet_ops.proofs.Lengths.{valid_few}
use Rattle.jup_client.specs.declared.Down.{Down}
use Rattle.jup_client.specs.declared.Down.TheVariants as message
use Rattle.jup_client.specs.Clients.{IsTaken, down_at}
use Rattle.jup_client.proofs.Longer.{may_come}
use Rattle.script_run.specs.declared.seat.Seat.{Seat}
use Rattle.script_run.specs.Runs.{AreEffectsOf}
use Rattle.script_run.specs.Deliveries.{MaySubmit, MayPull}
use Rattle.script_run.proofs.Lists.{drop-at}
use Rattle.script_run.proofs.Seats.{of_site}

-- the next entry of a site may come next in the history
module _ (s : ServerState) (site : ℕ) (seat : Seat) (may : MaySubmit s site seat) (e : Entry) (next : slice_get seat.made seat.pushed ≡ Some e) where
  own_here : seat.made ≡ own_entries may.client.site may.history ++ e ∷ drop (suc seat.pushed) seat.made
  own_here =
      sym (take-append-drop seat.pushed seat.made)
      ∙ ((λ i. sym may.holds.mine i ++ drop-at seat.made seat.pushed e next i)
      ∙ ap (λ n. own_entries n may.history ++ e ∷ drop (suc seat.pushed) seat.made) (sym may.stands.number))

  pub valid_with : IsValidHistory s.size s.sites (may.history ++ e ∷ [])
  valid_with =
      subst (λ (z : Size). IsValidHistory z s.sites (may.history ++ e ∷ [])) may.stands.sized
      (may_come may.client s.sites may.history (drop (suc seat.pushed) seat.made) e
      (subst (λ (z : Size). IsValidHistory z s.sites may.history) (sym may.stands.sized) may.server.valid)
      (subst (λ (G : List Entry). ClientRepresents may.client may.history G) own_here may.stands.represents)
      (of_site site seat.made seat.pushed e may.holds.own next ∙ sym may.stands.number)
      (subst (λ n. 0 < n) (sym may.stands.number) may.from)
      (subst (λ n. n ≤ s.sites) (sym may.stands.number) may.to)
      (omega (arith, may.stands.represents.issued, may.holds.few)))

module _ (c : ClientState) (site : ℕ) (H : List Entry) (es : List Effect) (may : MayPull c site H es) where
  pub taken_small : c.taken < 8000
  taken_small = let few = valid_few c.size may.sites H may.valid in omega (arith, few, may.more, may.few)

-- what a client that has taken few entries has after a message
pub taken_counts : (c : ClientState) (d : Down) (k : ClientState) → IsTaken c d k → c.taken < 8000 → (k.site ≡ c.site) × (k.size ≡ c.size) × (k.taken ≡ c.taken + 1)
taken_counts c message.Own k (op, first, is) small = (ap (λ (x : ClientState). x.site) is, ap (λ (x : ClientState). x.size) is, omega (arith, ap (λ (x : ClientState). x.taken) is, small))
taken_counts c (message.Other e) k (last, passes, is) small = (ap (λ (x : ClientState). x.site) is, ap (λ (x : ClientState). x.size) is, omega (arith, ap (λ (x : ClientState). x.taken) is, small))

-- what the entry at a place of the history is to a site
pub own_down : (size : Size) (H : List Entry) (site k : ℕ) → is_own H site k ≡ true → message.Own ≡ down_at size H site k
own_down size H site k own = ap (λ (t : Bool). cond t message.Own (message.Other (effect_at size H k))) (sym own)

pub other_down : (size : Size) (H : List Entry) (es : List Effect) (site k : ℕ) → AreEffectsOf size H es → k < length H → is_own H site k ≡ false → (e : Effect) → e ≡ slice_index_or es k e → message.Other e ≡ down_at size H site k
other_down size H es site k are within other e there =
    let here : slice_index_or es k e ≡ effect_at size H k =
    ap (λ (o : Option Effect). unwrap_or o e) (sym (slice_get-get_or es k e (subst (λ (n : ℕ). k < n) (sym are.as_many) within)) ∙ are.each k within) in
    ap message.Other (there ∙ here) ∙ ap (λ (t : Bool). cond t message.Own (message.Other (effect_at size H k))) (sym other)
