-- A server after an operation of a site.
use Rattle.std.proofs.Common.{◌≡◌, ℕ, suc, ◌+◌, ◌-◌, ◌<◌, ◌≤◌, true, false, List, [], ◌∷◌, ◌++◌, length, take, drop, refl, ap, sym, ◌∙◌, subst, arith, Option, None, Some, inl}
use Rattle.std.specs.Prelude.{nat_eq, reverse}
use Rattle.std.proofs.lemmas.Bool.Decides.{nat_tests}
use Rattle.std.proofs.lemmas.List.{reverse-append, length-reverse, reverse-reverse, take_all, length-append, append-nil}
use Rattle.ss_base.specs.declared.types.Size.{Size}
use Rattle.sheet_ops.specs.declared.operation.Intent.{Intent}
use Rattle.sheet_ops.specs.declared.operation.Effect.{Effect}
use Rattle.sheet_ops.specs.declared.operation.Entry.{Entry}
use Rattle.sheet_ops.specs.LineIds.{LineId, operation_id}
use Rattle.sheet_ops.specs.Identity.{IdOp, IdSheet, opened}
use Rattle.sheet_ops.specs.Act.{act, acts}
use Rattle.sheet_ops.specs.Naming.{operations_of, brought, resolve, locate, step, effect_of_intent}
use Rattle.sheet_ops.specs.Placed.{size_of}
use Rattle.sheet_ops.specs.Fits.{IntentFits, EffectFits, IsWellFormed, AreNew}
use Rattle.sheet_ops.specs.History.{own_entries, operations, entry_ids, view_of, resolved, view, sheet_of, SeenRises, EachFollows, IsValidHistory}
use Rattle.sheet_ops.specs.Chains.{size_past, Leads, ChainFrom, end_of, PassesChain}
use Rattle.sheet_ops.specs.Represents.{view_at, ids_at, entry_at, is_own, last_seen, LinkState, LinkRepresents}
use Rattle.sheet_ops.proofs.Again.{meant_again, meant_bears, step_is_act, length-operation_ids, as_many_effects, as_many_located, own_effect_fits}
use Rattle.sheet_ops.proofs.Views.{IsFresh, known_after, known_to, views_fresh, sheets_fresh, next_unknown, other_unknown, rises_later, own_grows}
use Rattle.sheet_ops.proofs.Counts.{operations-push, operations-reverse, own_reverse, own_another, own_one_more, own_count_reversed, own_count_grows}
use Rattle.sheet_ops.proofs.Names.{both_new, brought_new}
use Rattle.sheet_ops.proofs.Chains.{size_of-step, end_of-append, end_of-drop, chain_dropped, chain_extended, chain_still, chain_same, chain_passed}
use Rattle.sheet_ops.proofs.Histories.{length-resolved, view_of-last, view_before, view_whole, sheet_push, entries_before, entry_before, entry_here, ids_before, ids_here, own_rises, site_positive}

pub end_of-length : {A : Type 0} (k : ℕ) (xs : List A) → end_of k xs ≡ k + length xs
end_of-length k [] = omega arith
end_of-length k (x ∷ xs) = let h = end_of-length (suc k) xs in omega arith

self_test : (n : ℕ) → nat_eq n n ≡ true
self_test n = grind (arith, nat_tests)

module _ (size : Size) (sites : ℕ) (H : List Entry) (valid : IsValidHistory size sites H) where
  -- what a site's entries had seen, the last one first
  pub rises_at : (site k : ℕ) → last_seen (reverse (own_entries site H)) ≤ k → SeenRises k (reverse (own_entries site H))
  rises_at site k h =
      rises_later (last_seen (reverse (own_entries site H))) k (reverse (own_entries site H)) h
      (subst (λ (G : List Entry). SeenRises (last_seen G) G) (own_reverse site H) (own_rises size sites site (reverse H) valid))

  pub fresh_at : (site k : ℕ) → 0 < site → k ≤ length H → last_seen (reverse (own_entries site H)) ≤ k → IsFresh (known_to (take k H) site (reverse (own_entries site H))) (view_at size H site k)
  fresh_at site k pos h later = views_fresh size sites H valid site pos k h (own_entries site H) (inl ([], append-nil (own_entries site H))) (rises_at site k later)

  pub sheet_fresh : IsFresh (known_after H) (sheet_of size H)
  sheet_fresh =
      let n = length-resolved size H in
      subst (λ (es : List Entry). IsFresh (known_after es) (sheet_of size H)) (take_all (length H) H (omega arith))
      (subst (λ (Rs : List IdOp). IsFresh (known_after (take (length H) H)) (acts (opened size) Rs)) (take_all (length H) (resolved size H) (omega arith)) (sheets_fresh size sites H valid (length H) (omega arith)))

  -- the lines that a site's next operation and another's entry bring are new in the site's view
  pub sound_at : (site k : ℕ) → 0 < site → k < length H → last_seen (reverse (own_entries site H)) ≤ k → is_own H site k ≡ false → (V : IdSheet) (op : Intent) →
      IsWellFormed (view_at size H site k) × AreNew (view_at size H site k) (brought (resolve V site (suc (operations (own_entries site H))) op) ++ ids_at H k)
  sound_at site k pos h later apart V op =
      let fresh = fresh_at site k pos (omega arith) later in
      let other = (entry_at H k).site.0 in
      let its = operations (own_entries other (take k H)) in
      let turned = operations-reverse (own_entries site H) in
      let few : operations (own_entries site (take k H)) ≤ operations (own_entries site (take (length H) H)) = own_count_grows site H k (length H) (omega arith) in
      let whole : operations (own_entries site (take (length H) H)) ≡ operations (own_entries site H) = ap (λ (es : List Entry). operations (own_entries site es)) (take_all (length H) H (omega arith)) in (
        fresh.formed,
        brought_new (view_at size H site k) V site (suc (operations (own_entries site H))) op (ids_at H k)
            (both_new (view_at size H site k) site other (suc (operations (own_entries site H))) (operations_of op) (suc its) (operations_of (entry_at H k).intent) apart
            (λ n low. fresh.new (operation_id site n) (next_unknown (take k H) site (reverse (own_entries site H)) pos (omega arith) n (omega arith)))
            (λ n low. fresh.new (operation_id other n) (other_unknown (take k H) site other (reverse (own_entries site H)) (site_positive size sites H valid k h) apart n (omega arith)))),
      )

  module _ (site seen : ℕ) (op : Intent) (from : 0 < site) (to : site ≤ sites) (within : seen ≤ length H) (later : last_seen (reverse (own_entries site H)) ≤ seen)
      (few : operations (own_entries site H) + operations_of op ≤ 1000) (fits : IntentFits (size_of (view_at size H site seen)) op) where
    abbrev pub e : Entry
    e = record { site = record { 0 = site }; seen = seen; intent = op }

    abbrev pub next : List Entry
    next = H ++ e ∷ []

    abbrev pub N : IdOp
    N = resolve (view_at size H site seen) site (suc (operations (own_entries site H))) op

    -- the identifiers of its operations
    abbrev pub ids : List LineId
    ids = entry_ids site (own_entries site H) op

    operations_reverse : operations (reverse (own_entries site H)) ≡ operations (own_entries site H)
    operations_reverse = operations-reverse (own_entries site H)

    pub valid_next : IsValidHistory size sites next
    valid_next = subst (EachFollows size sites) (sym (reverse-append H (e ∷ []))) (
      record {
        from = from;
        to = to;
        seen = let n = length-reverse H in omega arith;
        few = let n : operations (own_entries site (reverse H)) ≡ operations (own_entries site H) = own_count_reversed site H in omega arith;
        rises = subst (SeenRises seen) (sym (own_reverse site H)) (rises_at site seen later);
        fits = subst (λ (X : IdSheet). IntentFits (size_of X) op) (λ i. view_of size (sym (reverse-reverse H) i) (resolved size H) site seen (sym (own_reverse site H) i)) fits;
      },
      valid,
    )

    -- the site's views have the operation at their end
    pub own_view : (k : ℕ) → seen ≤ k → k ≤ length H → view_at size next site k ≡ act (view_at size H site k) N
    own_view k low high =
        ap (λ (G : List Entry). view size next site k G) (own_one_more site H e (self_test site))
        ∙ (ap (λ (G : List Entry). view_of size next (resolved size next) site k G) (reverse-append (own_entries site H) (e ∷ []))
        ∙ (view_of-last size next (resolved size next) site k e (reverse (own_entries site H)) held
        ∙ ((λ i. act (view_before size H e site k (reverse (own_entries site H)) high (rises_at site k (omega arith)) i)
        (resolve (view_before size H e site seen (reverse (own_entries site H)) within (rises_at site seen later) i) site (suc (operations_reverse i)) op)))))
      where
        held : length (own_entries site (take k next)) ≤ length (reverse (own_entries site H))
        held =
            let a : length (own_entries site (take k next)) ≡ length (own_entries site (take k H)) = ap (λ (es : List Entry). length (own_entries site es)) (entries_before size H e k high) in
            let b = own_grows site H k (length H) high in
            let c : length (own_entries site (take (length H) H)) ≡ length (own_entries site H) = ap (λ (es : List Entry). length (own_entries site es)) (take_all (length H) H (omega arith)) in
            let d = length-reverse (own_entries site H) in
            omega arith

    pub sheet_next : sheet_of size next ≡ act (sheet_of size H) N
    sheet_next = sheet_push size H e

    length_next : length next ≡ suc (length H)
    length_next = length-append H (e ∷ []) ∙ omega arith

    -- what is kept of the site itself
    pub served_own : (l : LinkState) → LinkRepresents size H site l → l.seen ≤ seen → (done : List (Option Effect)) (last : Intent) → PassesChain (size_of (view_at size H site seen)) op (drop (seen - l.seen) l.chain) done last →
        LinkRepresents size next site (record { seen = seen; issued = l.issued + operations_of op; base = size_past (size_of (view_at size H site seen)) (effect_of_intent op); chain = done ++ None ∷ [] })
        × (locate (sheet_of size H) N ≡ last) × IntentFits (size_of (sheet_of size H)) last
    served_own l r low done last p = (
      record {
        seen = sym (ap last_seen (ap reverse (own_one_more site H e (self_test site)) ∙ reverse-append (own_entries site H) (e ∷ [])));
        issued = ap (λ n. n + operations_of op) r.issued ∙ sym (ap operations (own_one_more site H e (self_test site)) ∙ one_more);
        base = sym (ap size_of (own_view seen (omega arith) within ∙ sym (step_is_act (view_at size H site seen) formed N ids (meant_bears (view_at size H site seen) formed (view_at size H site seen) site (suc (operations (own_entries site H))) op) fits_here)
            ∙ ap (λ (c : Intent). step (view_at size H site seen) (effect_of_intent c) ids) located) ∙ size_of-step (view_at size H site seen) (effect_of_intent op) ids (own_effect_fits (size_of (view_at size H site seen)) op fits));
        chain = chain_still (view_at size next site) (ids_at next) (is_own next site) seen done along own_end still;
        whole = end_of-append seen done None ∙ (ap suc ends ∙ sym length_next);
      },
      ap (λ (X : IdSheet). locate X N) (sym (view_whole size H site) ∙ ap (view_at size H site) (sym reached)) ∙ passed.2,
      subst (λ (X : IdSheet). IntentFits (size_of X) last) (ap (view_at size H site) reached ∙ view_whole size H site) passed.3,
    )
      where
        formed : IsWellFormed (view_at size H site seen)
        formed = (fresh_at site seen from within later).formed

        located : locate (view_at size H site seen) N ≡ op
        located = meant_again (view_at size H site seen) formed site (suc (operations (own_entries site H))) op fits

        fits_here : IntentFits (size_of (view_at size H site seen)) (locate (view_at size H site seen) N)
        fits_here = subst (λ (c : Intent). IntentFits (size_of (view_at size H site seen)) c) (sym located) fits

        one_more : operations (own_entries site H ++ e ∷ []) ≡ operations (own_entries site H) + operations_of op
        one_more = operations-push (own_entries site H) e

        many : seen - l.seen ≤ length l.chain
        many = let w = r.whole in let n = end_of-length l.seen l.chain in omega arith

        at : l.seen + (seen - l.seen) ≡ seen
        at = omega arith

        left : List (Option Effect)
        left = drop (seen - l.seen) l.chain

        reached : end_of seen (drop (seen - l.seen) l.chain) ≡ length H
        reached = ap (λ k. end_of k (drop (seen - l.seen) l.chain)) (sym at) ∙ (end_of-drop (seen - l.seen) l.seen l.chain many ∙ r.whole)

        dropped : ChainFrom (view_at size H site) (ids_at H) (is_own H site) seen (drop (seen - l.seen) l.chain)
        dropped = subst (λ k. ChainFrom (view_at size H site) (ids_at H) (is_own H site) k (drop (seen - l.seen) l.chain)) at (chain_dropped (view_at size H site) (ids_at H) (is_own H site) (seen - l.seen) l.seen l.chain many r.chain)

        passed : ChainFrom (λ j. act (view_at size H site j) N) (ids_at H) (is_own H site) seen done × (end_of seen done ≡ end_of seen (drop (seen - l.seen) l.chain))
            × (locate (view_at size H site (end_of seen (drop (seen - l.seen) l.chain))) N ≡ last) × IntentFits (size_of (view_at size H site (end_of seen (drop (seen - l.seen) l.chain)))) last
        passed = chain_passed (view_at size H site) (ids_at H) (is_own H site) N seen (drop (seen - l.seen) l.chain) (λ j a b apart. sound_at site j from (omega (arith, b, reached)) (omega (arith, a, later)) apart (view_at size H site seen) op) dropped
            (size_of (view_at size H site seen)) refl op located fits done last p

        ends : end_of seen done ≡ length H
        ends = passed.1 ∙ reached

        along : ChainFrom (view_at size next site) (ids_at next) (is_own next site) seen done
        along = chain_same (λ j. act (view_at size H site j) N) (view_at size next site) (ids_at H) (ids_at next) (is_own H site) (is_own next site) seen done
            (λ j a b. sym (own_view j a (omega (arith, b, ends))))
            (λ j a b. sym (ids_before size H e j (omega (arith, b, ends))))
            (λ j a b. sym (ap (λ (x : Entry). nat_eq x.site.0 site) (entry_before size H e j (omega (arith, b, ends)))))
            passed.0

        own_end : is_own next site (end_of seen done) ≡ true
        own_end = ap (is_own next site) ends ∙ (ap (λ (x : Entry). nat_eq x.site.0 site) (entry_here size H e) ∙ self_test site)

        still : view_at size next site (suc (end_of seen done)) ≡ view_at size next site (end_of seen done)
        still =
            ap (λ k. view_at size next site k) (ap suc ends ∙ sym length_next)
            ∙ (view_whole size next site ∙ (sheet_next ∙ sym (ap (λ k. view_at size next site k) ends ∙ (own_view (length H) within (omega arith) ∙ ap (λ (X : IdSheet). act X N) (view_whole size H site)))))

    -- the effect that is published leads from the sheet to the next one
    module _ (last : Intent) (located : locate (sheet_of size H) N ≡ last) (fit : IntentFits (size_of (sheet_of size H)) last) where
      pub served_sheet : Leads (sheet_of size H) (sheet_of size next) (effect_of_intent last) ids
      served_sheet = record {
        fits = own_effect_fits (size_of (sheet_of size H)) last fit;
        as_many =
            length-operation_ids site (suc (operations (own_entries site H))) (operations_of op)
            ∙ sym (as_many_effects last ∙ (ap operations_of (sym located) ∙ as_many_located (sheet_of size H) (view_at size H site seen) site (suc (operations (own_entries site H))) op));
        same =
            ap (λ (c : Intent). step (sheet_of size H) (effect_of_intent c) ids) (sym located)
            ∙ (step_is_act (sheet_of size H) sheet_fresh.formed N ids (meant_bears (sheet_of size H) sheet_fresh.formed (view_at size H site seen) site (suc (operations (own_entries site H))) op)
            (subst (λ (c : Intent). IntentFits (size_of (sheet_of size H)) c) (sym located) fit) ∙ sym sheet_next);
      }

      -- what is kept of another site
      pub served_other : (other : ℕ) → nat_eq site other ≡ false → (l : LinkState) → LinkRepresents size H other l → l.seen ≤ length H → LinkRepresents size next other (record l { chain = l.chain ++ Some (effect_of_intent last) ∷ [] })
      served_other other apart l r low = record {
        seen = r.seen ∙ ap (λ (G : List Entry). last_seen (reverse G)) (sym same_own);
        issued = r.issued ∙ ap operations (sym same_own);
        base = r.base ∙ ap size_of (sym (same_view l.seen (omega arith) low));
        chain = chain_extended (view_at size next other) (ids_at next) (is_own next other) l.seen l.chain (effect_of_intent last)
            (chain_same (view_at size H other) (view_at size next other) (ids_at H) (ids_at next) (is_own H other) (is_own next other) l.seen l.chain
            (λ j a b. sym (same_view j a (omega (arith, b, r.whole))))
            (λ j a b. sym (ids_before size H e j (omega (arith, b, r.whole))))
            (λ j a b. sym (ap (λ (x : Entry). nat_eq x.site.0 other) (entry_before size H e j (omega (arith, b, r.whole)))))
            r.chain)
            (ap (is_own next other) r.whole ∙ (ap (λ (x : Entry). nat_eq x.site.0 other) (entry_here size H e) ∙ apart))
            (subst (λ k. Leads (view_at size next other k) (view_at size next other (suc k)) (effect_of_intent last) (ids_at next k)) (sym r.whole) last_step);
        whole = end_of-append l.seen l.chain (Some (effect_of_intent last)) ∙ (ap suc r.whole ∙ sym length_next);
      }
        where
          same_own : own_entries other next ≡ own_entries other H
          same_own = own_another other H e apart

          same_view : (k : ℕ) → l.seen ≤ k → k ≤ length H → view_at size next other k ≡ view_at size H other k
          same_view k a b = ap (λ (G : List Entry). view size next other k G) same_own ∙ view_before size H e other k (reverse (own_entries other H)) b (rises_at other k (omega (arith, a, r.seen)))

          last_step : Leads (view_at size next other (length H)) (view_at size next other (suc (length H))) (effect_of_intent last) (ids_at next (length H))
          last_step =
              let here : view_at size next other (length H) ≡ sheet_of size H = same_view (length H) low (omega arith) ∙ view_whole size H other in
              let there : view_at size next other (suc (length H)) ≡ sheet_of size next = ap (λ k. view_at size next other k) (sym length_next) ∙ view_whole size next other in
              record {
                fits = subst (λ (X : IdSheet). EffectFits (size_of X) (effect_of_intent last)) (sym here) served_sheet.fits;
                as_many = ap length (ids_here size H e) ∙ served_sheet.as_many;
                same = (λ i. step (here i) (effect_of_intent last) (ids_here size H e i)) ∙ (served_sheet.same ∙ sym there);
              }
