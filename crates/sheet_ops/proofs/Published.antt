-- The effects that are published of a valid history lead from each of its sheets to the next one.
use Rattle.std.proofs.Common.{◌≡◌, ℕ, zero, suc, ◌+◌, ◌-◌, ◌<◌, ◌≤◌, true, false, List, [], ◌∷◌, ◌++◌, length, take, drop, refl, ap, sym, ◌∙◌, subst, arith, append_assoc, inl, inr, Option, None, Some}
use Rattle.std.specs.Prelude.{◌⊎◌, nat_eq, nat_le, reverse, slice_index_or}
use Rattle.std.proofs.lemmas.Bool.Decides.{nat_tests}
use Rattle.std.proofs.lemmas.List.{reverse-append, length-append, length-take-le, length-reverse, reverse-reverse}
use Rattle.ss_base.specs.declared.types.Size.{Size}
use Rattle.sheet_ops.specs.declared.operation.Entry.{Entry}
use Rattle.sheet_ops.specs.declared.operation.Intent.{Intent}
use Rattle.sheet_ops.specs.declared.operation.Effect.{Effect}
use Rattle.sheet_ops.specs.LineIds.{LineId, operation_id, operation_ids}
use Rattle.sheet_ops.specs.Identity.{IdOp, IdSheet, opened}
use Rattle.sheet_ops.specs.Act.{act}
use Rattle.sheet_ops.specs.Naming.{operations_of, operations_in, brought, resolve, locate, step, effect_of_intent}
use Rattle.sheet_ops.specs.Placed.{size_of}
use Rattle.sheet_ops.specs.Fits.{IntentFits, EffectFits, AreNew}
use Rattle.sheet_ops.specs.Squares.{Converges, Meets}
use Rattle.sheet_ops.specs.Transforms.{own_past, other_past}
use Rattle.sheet_ops.specs.Chains.{size_past, Leads, ChainFrom, PassesChain, EachChainFits}
use Rattle.sheet_ops.specs.History.{own_entries, operations, entry_ids, view_of, resolved, sheet_of, SeenRises, MayFollow, EachFollows, IsValidHistory}
use Rattle.sheet_ops.specs.Represents.{sheet_at, view_at, entry_at, ids_at, is_own, last_seen, LinkState, LinkRepresents}
use Rattle.sheet_ops.specs.Published.{no_operation, effect_at}
use Rattle.sheet_ops.proofs.Ids.{length-opening_lines, true_or_false, same_number}
use Rattle.sheet_ops.proofs.Again.{meant_again, meant_bears, step_is_act, own_effect_fits, length-operation_ids}
use Rattle.sheet_ops.proofs.Views.{IsFresh, known_after, history_fresh}
use Rattle.sheet_ops.proofs.Counts.{own_reverse, own_count_reversed}
use Rattle.sheet_ops.proofs.Names.{brought_new, both_new}
use Rattle.sheet_ops.proofs.Chains.{size_of-step, chain_dropped}
use Rattle.sheet_ops.proofs.Histories.{length-resolved, resolved-push, ids_here}
use Rattle.sheet_ops.proofs.Acknowledged.{resolved_front}
use Rattle.sheet_ops.proofs.Convergence.{converges}
use Rattle.sheet_ops.proofs.Served.{end_of-length, served_own, served_sheet, served_other}
use Rattle.sheet_ops.proofs.Prefixes.{split_at, valid_front, sheet_front, entry_front}

-- ---- what converges fits again
module _ (s : Size) (c : Intent) (e : Effect) (c' : Intent) (e' : Effect) (f : IntentFits s c) (g : EffectFits s e) (pair : Converges s c e c' e') where
  abbrev X : IdSheet
  X = opened s

  -- identifiers of another site
  abbrev ids : List LineId
  ids = operation_ids 2 1 (operations_in e)

  sized : size_of X ≡ s
  sized = λ i. record { rows = length-opening_lines 0 s.rows i; cols = length-opening_lines 0 s.cols i }

  fresh : IsFresh (known_after []) (opened s)
  fresh = history_fresh s 0 [] tt 0 (omega arith)

  f_here : IntentFits (size_of (opened s)) c
  f_here = subst (λ (z : Size). IntentFits z c) (sym sized) f

  located : locate (opened s) (resolve (opened s) 1 1 c) ≡ c
  located = meant_again (opened s) fresh.formed 1 1 c f_here

  are_new : AreNew (opened s) (brought (resolve (opened s) 1 1 c) ++ ids)
  are_new =
      brought_new (opened s) (opened s) 1 1 c ids
      (both_new (opened s) 1 2 1 (operations_of c) 1 (operations_in e) refl (λ n low. fresh.new (operation_id 1 n) (none n low)) (λ n low. fresh.new (operation_id 2 n) (none n low)))
    where
      none : (n : ℕ) → 1 ≤ n → nat_le n 0 ≡ false
      none n h = grind (arith, nat_tests)

  meets : Meets (opened s) (resolve (opened s) 1 1 c) e ids c' e'
  meets = pair (opened s) (resolve (opened s) 1 1 c) ids fresh.formed sized located (length-operation_ids 2 1 (operations_in e)) are_new

  pub own_fits_again : IntentFits (size_past s e) c'
  own_fits_again = subst (λ (z : Size). IntentFits z c') (size_of-step (opened s) e ids (subst (λ (z : Size). EffectFits z e) (sym sized) g) ∙ ap (λ (z : Size). size_past z e) sized) meets.fits

  abbrev meant : IdOp
  meant = resolve (opened s) 1 1 c

  f_there : IntentFits (size_of (opened s)) (locate (opened s) meant)
  f_there = subst (λ (op : Intent). IntentFits (size_of (opened s)) op) (sym located) f_here

  done : step (opened s) (effect_of_intent (locate (opened s) meant)) (operation_ids 1 1 (operations_of c)) ≡ act (opened s) meant
  done = step_is_act (opened s) fresh.formed meant (operation_ids 1 1 (operations_of c)) (meant_bears (opened s) fresh.formed (opened s) 1 1 c) f_there

  grown : size_of (act (opened s) meant) ≡ size_past s (effect_of_intent c)
  grown =
      ap size_of (sym done)
      ∙ (size_of-step (opened s) (effect_of_intent (locate (opened s) meant)) (operation_ids 1 1 (operations_of c)) (own_effect_fits (size_of (opened s)) (locate (opened s) meant) f_there)
      ∙ (λ i. size_past (sized i) (effect_of_intent (located i))))

  pub effect_fits_again : EffectFits (size_past s (effect_of_intent c)) e'
  effect_fits_again = subst (λ (z : Size). EffectFits z e') grown meets.effect_fits

-- ---- an operation always passes a chain that fits
pub chain_fits : (V : ℕ → IdSheet) (named : ℕ → List LineId) (own : ℕ → _) (k : ℕ) (es : List (Option Effect)) → ChainFrom V named own k es → (s : Size) → size_of (V k) ≡ s → EachChainFits s es
chain_fits V named own k [] c s is = tt
chain_fits V named own k (None ∷ es) c s is = chain_fits V named own (suc k) es c.2 s (ap size_of c.1 ∙ is)
chain_fits V named own k (Some e ∷ es) c s is = (
  subst (λ (z : Size). EffectFits z e) is c.1.fits,
  chain_fits V named own (suc k) es c.2 (size_past s e) (ap size_of (sym c.1.same) ∙ (size_of-step (V k) e (named k) c.1.fits ∙ ap (λ (z : Size). size_past z e) is)),
)

pub pass_exists : (s : Size) (c : Intent) (es : List (Option Effect)) → IntentFits s c → EachChainFits s es → (done : List (Option Effect)) × (last : Intent) × PassesChain s c es done last
pass_exists s c [] f g = ([], c, (refl, refl))
pass_exists s c (None ∷ es) f g = let (done, last, p) = pass_exists s c es f g in (None ∷ done, last, (done, p, refl))
pass_exists s c (Some e ∷ es) f g =
    let pair = converges s c e f g.0 in
    let (done, last, p) = pass_exists (size_past s e) (own_past c e) es (own_fits_again s c e (own_past c e) (other_past s c e) f g.0 pair) g.1 in
    (Some (other_past s c e) ∷ done, last, (own_past c e, other_past s c e, done, pair, p, refl))

-- ---- what a valid history gives of its last entry
module _ (size : Size) (sites : ℕ) (H : List Entry) (e : Entry) (v : IsValidHistory size sites (H ++ e ∷ [])) where
  may : MayFollow size sites (reverse H) e
  may = (subst (EachFollows size sites) (reverse-append H (e ∷ [])) v).0

  pub valid_before : IsValidHistory size sites H
  valid_before = valid_front size sites H (e ∷ []) v

  pub site_from : 0 < e.site.0
  site_from = may.from

  pub site_to : e.site.0 ≤ sites
  site_to = may.to

  pub seen_within : e.seen ≤ length H
  seen_within = let n = length-reverse H in let h = may.seen in omega arith

  first_seen : (most : ℕ) (G : List Entry) → SeenRises most G → last_seen G ≤ most
  first_seen most [] r = omega arith
  first_seen most (g ∷ G) r = r.0

  pub seen_later : last_seen (reverse (own_entries e.site.0 H)) ≤ e.seen
  seen_later = first_seen e.seen (reverse (own_entries e.site.0 H)) (subst (SeenRises e.seen) (own_reverse e.site.0 H) may.rises)

  pub few_before : operations (own_entries e.site.0 H) + operations_of e.intent ≤ 1000
  few_before = let n : operations (own_entries e.site.0 (reverse H)) ≡ operations (own_entries e.site.0 H) = own_count_reversed e.site.0 H in let h = may.few in omega arith

  pub fits_before : IntentFits (size_of (view_at size H e.site.0 e.seen)) e.intent
  fits_before = subst (λ (X : IdSheet). IntentFits (size_of X) e.intent) (λ i. view_of size (reverse-reverse H i) (resolved size H) e.site.0 e.seen (own_reverse e.site.0 H i)) may.fits

  module _ (l : LinkState) (r : LinkRepresents size H e.site.0 l) where
    abbrev here : IdSheet
    here = view_at size H e.site.0 e.seen

    pub low : l.seen ≤ e.seen
    low = let a = r.seen in let b = seen_later in omega arith

    many : e.seen - l.seen ≤ length l.chain
    many = let w = r.whole in let n = end_of-length l.seen l.chain in let h = seen_within in omega arith

    at : l.seen + (e.seen - l.seen) ≡ e.seen
    at = let h = low in omega arith

    pub dropped_fits : EachChainFits (size_of (view_at size H e.site.0 e.seen)) (drop (e.seen - l.seen) l.chain)
    dropped_fits =
        chain_fits (view_at size H e.site.0) (ids_at H) (is_own H e.site.0) e.seen (drop (e.seen - l.seen) l.chain)
        (subst (λ k. ChainFrom (view_at size H e.site.0) (ids_at H) (is_own H e.site.0) k (drop (e.seen - l.seen) l.chain)) at (chain_dropped (view_at size H e.site.0) (ids_at H) (is_own H e.site.0) (e.seen - l.seen) l.seen l.chain many r.chain))
        (size_of (view_at size H e.site.0 e.seen)) refl

    run : (done : List (Option Effect)) × (last : Intent) × PassesChain (size_of (view_at size H e.site.0 e.seen)) e.intent (drop (e.seen - l.seen) l.chain) done last
    run = pass_exists (size_of (view_at size H e.site.0 e.seen)) e.intent (drop (e.seen - l.seen) l.chain) fits_before dropped_fits

    abbrev N : IdOp
    N = resolve (view_at size H e.site.0 e.seen) e.site.0 (suc (operations (own_entries e.site.0 H))) e.intent

    pub entry_fits : IntentFits (size_of (sheet_of size H)) (locate (sheet_of size H) N)
    entry_fits =
        let s = served_own size sites H valid_before e.site.0 e.seen e.intent site_from site_to seen_within seen_later few_before fits_before l r low run.0 run.1 run.2 in
        subst (IntentFits (size_of (sheet_of size H))) (sym s.1) s.2

    pub entry_leads : Leads (sheet_of size H) (sheet_of size (H ++ e ∷ [])) (effect_of_intent (locate (sheet_of size H) N)) (entry_ids e.site.0 (own_entries e.site.0 H) e.intent)
    entry_leads = served_sheet size sites H valid_before e.site.0 e.seen e.intent site_from site_to seen_within seen_later few_before fits_before (locate (sheet_of size H) N) refl entry_fits

    -- the link of each site goes on
    pub link_next : (site : ℕ) (k : LinkState) → LinkRepresents size H site k → (m : LinkState) × LinkRepresents size (H ++ e ∷ []) site m
    link_next site k q = by_site (true_or_false (nat_eq e.site.0 site))
      where
        by_site : ((nat_eq e.site.0 site ≡ true) ⊎ (nat_eq e.site.0 site ≡ false)) → (m : LinkState) × LinkRepresents size (H ++ e ∷ []) site m
        by_site (inl same) =
            let s = served_own size sites H valid_before e.site.0 e.seen e.intent site_from site_to seen_within seen_later few_before fits_before l r low run.0 run.1 run.2 in
            let m : LinkState = record { seen = e.seen; issued = l.issued + operations_of e.intent; base = size_past (size_of (view_at size H e.site.0 e.seen)) (effect_of_intent e.intent); chain = run.0 ++ None ∷ [] } in
            (m, subst (λ n. LinkRepresents size (H ++ e ∷ []) n m) (same_number e.site.0 site same) s.0)
        by_site (inr apart) = (
          record k { chain = k.chain ++ Some (effect_of_intent (locate (sheet_of size H) N)) ∷ [] },
          served_other size sites H valid_before e.site.0 e.seen e.intent site_from site_to seen_within seen_later few_before fits_before (locate (sheet_of size H) N) refl entry_fits site apart k q
              (let w = q.whole in let n = end_of-length k.seen k.chain in omega arith),
        )

-- a server has a link for each site of each valid history
pub link_of : (size : Size) (sites : ℕ) (L : List Entry) → IsValidHistory size sites (reverse L) → (site : ℕ) → (l : LinkState) × LinkRepresents size (reverse L) site l
link_of size sites [] v site = (record { seen = 0; issued = 0; base = size_of (opened size); chain = [] }, record { seen = refl; issued = refl; base = refl; chain = tt; whole = refl })
link_of size sites (e ∷ L) v site =
    let turned : reverse (e ∷ L) ≡ reverse L ++ e ∷ [] = reverse-append (e ∷ []) L in
    let v' : IsValidHistory size sites (reverse L ++ e ∷ []) = subst (IsValidHistory size sites) turned v in
    let before = link_of size sites L (valid_before size sites (reverse L) e v') in
    let own = before e.site.0 in
    let k = before site in
    let next = link_next size sites (reverse L) e v' own.0 own.1 site k.0 k.1 in
    (next.0, subst (λ (es : List Entry). LinkRepresents size es site next.0) (sym turned) next.1)

at_taken : {A : Type 0} (d : A) (xs ys : List A) (k : ℕ) (x : A) → take (suc k) xs ≡ ys ++ x ∷ [] → length ys ≡ k → slice_index_or xs k d ≡ x
at_taken d [] [] k x t n = absurd (let h = ap length t in omega arith)
at_taken d [] (y ∷ ys) k x t n = absurd (let h = ap length t in omega arith)
at_taken {A} d (z ∷ xs) [] zero x t n = ap (head_or d) t
  where
    head_or : A → List A → A
    head_or d [] = d
    head_or d (b ∷ bs) = b
at_taken d (z ∷ xs) [] (suc k) x t n = absurd (omega arith)
at_taken d (z ∷ xs) (y ∷ ys) zero x t n = absurd (omega arith)
at_taken {A} d (z ∷ xs) (y ∷ ys) (suc k) x t n = at_taken d xs ys k x (ap tail_of t) (omega arith)
  where
    tail_of : List A → List A
    tail_of [] = []
    tail_of (b ∷ bs) = bs

module _ (size : Size) (sites : ℕ) (H : List Entry) (e : Entry) (more : List Entry) (valid : IsValidHistory size sites ((H ++ e ∷ []) ++ more)) where
  abbrev whole : List Entry
  whole = (H ++ e ∷ []) ++ more

  pub v : IsValidHistory size sites (H ++ e ∷ [])
  v = valid_front size sites (H ++ e ∷ []) more valid

  turned : reverse (reverse H) ≡ H
  turned = reverse-reverse H

  link : (l : LinkState) × LinkRepresents size H e.site.0 l
  link = let k = link_of size sites (reverse H) (subst (IsValidHistory size sites) (sym turned) (valid_before size sites H e v)) e.site.0 in (k.0, subst (λ (es : List Entry). LinkRepresents size es e.site.0 k.0) turned k.1)

  pub sheet_here : sheet_at size whole (length H) ≡ sheet_of size H
  sheet_here = ap (λ (es : List Entry). sheet_at size es (length H)) (append_assoc H (e ∷ []) more) ∙ sheet_front size H (e ∷ [] ++ more)

  long : length (H ++ e ∷ []) ≡ suc (length H)
  long = length-append H (e ∷ []) ∙ omega arith

  pub sheet_next : sheet_at size whole (suc (length H)) ≡ sheet_of size (H ++ e ∷ [])
  sheet_next = ap (sheet_at size whole) (sym long) ∙ sheet_front size (H ++ e ∷ []) more

  abbrev first : ℕ
  first = suc (operations (own_entries e.site.0 H))

  meaning : slice_index_or (resolved size whole) (length H) no_operation ≡ resolve (view_at size H e.site.0 e.seen) e.site.0 first e.intent
  meaning =
      at_taken no_operation (resolved size whole) (resolved size H) (length H) (resolve (view_at size H e.site.0 e.seen) e.site.0 first e.intent)
      (resolved_front size more (H ++ e ∷ []) (suc (length H)) (omega (arith, long)) ∙ (all_taken (resolved size (H ++ e ∷ [])) (suc (length H)) (let n = length-resolved size (H ++ e ∷ []) in omega (arith, n, long)) ∙ resolved-push size H e))
      (length-resolved size H)
    where
      all_taken : (Rs : List IdOp) (k : ℕ) → length Rs ≤ k → take k Rs ≡ Rs
      all_taken [] zero h = refl
      all_taken [] (suc k) h = refl
      all_taken (R ∷ Rs) zero h = absurd (omega arith)
      all_taken (R ∷ Rs) (suc k) h = ap (λ (Ss : List IdOp). R ∷ Ss) (all_taken Rs k (omega arith))

  pub effect_here : effect_at size whole (length H) ≡ effect_of_intent (locate (sheet_of size H) (resolve (view_at size H e.site.0 e.seen) e.site.0 first e.intent))
  effect_here = λ i. effect_of_intent (locate (sheet_here i) (meaning i))

  pub ids_there : ids_at whole (length H) ≡ entry_ids e.site.0 (own_entries e.site.0 H) e.intent
  ids_there = (λ i. entry_ids (same_entry i).site.0 (own_entries (same_entry i).site.0 (same_front i)) (same_entry i).intent) ∙ ids_here size H e
    where
      same_entry : entry_at whole (length H) ≡ entry_at (H ++ e ∷ []) (length H)
      same_entry = entry_front (H ++ e ∷ []) more (length H) (omega (arith, long))

      same_front : take (length H) whole ≡ take (length H) (H ++ e ∷ [])
      same_front = front (H ++ e ∷ []) (length H) (omega (arith, long))
        where
          front : (xs : List Entry) (k : ℕ) → k ≤ length xs → take k (xs ++ more) ≡ take k xs
          front xs zero h = refl
          front [] (suc k) h = absurd (omega arith)
          front (x ∷ xs) (suc k) h = ap (λ (es : List Entry). x ∷ es) (front xs k (omega arith))

  pub leads_here : Leads (sheet_at size whole (length H)) (sheet_at size whole (suc (length H))) (effect_at size whole (length H)) (ids_at whole (length H))
  leads_here =
      let lead = entry_leads size sites H e v link.0 link.1 in record {
        fits = subst (λ (d : Effect). EffectFits (size_of (sheet_at size whole (length H))) d) (sym effect_here) (subst (λ (X : IdSheet). EffectFits (size_of X) (effect_of_intent (locate (sheet_of size H) (resolve (view_at size H e.site.0 e.seen) e.site.0 first e.intent)))) (sym sheet_here) lead.fits);
        as_many = ap length ids_there ∙ (lead.as_many ∙ sym (ap operations_in effect_here));
        same = (λ i. step (sheet_here i) (effect_here i) (ids_there i)) ∙ (lead.same ∙ sym sheet_next);
      }

pub published_leads : (size : Size) (sites : ℕ) (H : List Entry) → IsValidHistory size sites H → (k : ℕ) → k < length H → Leads (sheet_at size H k) (sheet_at size H (suc k)) (effect_at size H k) (ids_at H k)
published_leads size sites H valid k h =
    let split = split_at H k h in
    let there = leads_here size sites (take k H) (entry_at H k) (drop (suc k) H) (subst (IsValidHistory size sites) (sym split) valid) in
    subst (λ (es : List Entry). Leads (sheet_at size es k) (sheet_at size es (suc k)) (effect_at size es k) (ids_at es k)) split
    (subst (λ (n : ℕ). Leads (sheet_at size ((take k H ++ entry_at H k ∷ []) ++ drop (suc k) H) n) (sheet_at size ((take k H ++ entry_at H k ∷ []) ++ drop (suc k) H) (suc n)) (effect_at size ((take k H ++ entry_at H k ∷ []) ++ drop (suc k) H) n) (ids_at ((take k H ++ entry_at H k ∷ []) ++ drop (suc k) H) n)) (length-take-le k H (omega arith)) there)
