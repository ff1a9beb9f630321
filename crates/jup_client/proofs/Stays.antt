-- What a client represents after each of its calls.
use Rattle.std.proofs.Common.{◌≡◌, ℕ, suc, ◌+◌, ◌-◌, ◌<◌, ◌≤◌, Bool, true, false, List, [], ◌∷◌, ◌++◌, length, take, drop, get_or, refl, ap, sym, ◌∙◌, subst, arith, inl}
use Rattle.std.specs.Prelude.{◌^◌, min, if◌then◌else◌, reverse}
use Rattle.std.proofs.Math.Nat.{min-eq_left}
use Rattle.std.proofs.lemmas.List.{reverse-append, length-append, length-take-le, length-reverse, take_at}
use Rattle.ss_base.specs.declared.types.Size.{Size}
use Rattle.ss_base.specs.Lists.{IsPrefixOf}
use Rattle.sheet_ops.specs.declared.operation.Entry.{Entry}
use Rattle.sheet_ops.specs.declared.operation.Intent.{Intent}
use Rattle.sheet_ops.specs.declared.operation.Effect.{Effect}
use Rattle.sheet_ops.specs.LineIds.{LineId, operation_id}
use Rattle.sheet_ops.specs.Identity.{IdSheet, opened}
use Rattle.sheet_ops.specs.Naming.{operations_of, operations_in, resolve, locate, effect_of_intent}
use Rattle.sheet_ops.specs.Placed.{PlacedSheet, placed, placed_size, size_of}
use Rattle.sheet_ops.specs.Fits.{IntentFits, EffectFits, EachNew}
use Rattle.sheet_ops.specs.Effects.{effect_on, StepsTo}
use Rattle.sheet_ops.specs.Chains.{size_past, size_after, Leads, EachFitsAfter, PassesOwn}
use Rattle.sheet_ops.specs.History.{own_entries, operations, entry_ids, view_of, resolved, view, sheet_of, SeenRises, IsValidHistory}
use Rattle.sheet_ops.specs.Represents.{pending_of, sheet_at, ClientState, ClientRepresents, entry_at, is_own, ids_at}
use Rattle.sheet_ops.specs.Published.{effect_at}
use Rattle.sheet_ops.proofs.Ids.{same_number, length-opening_lines}
use Rattle.sheet_ops.proofs.Again.{length-operation_ids, as_many_effects}
use Rattle.sheet_ops.proofs.Counts.{own_another, own_one_more, count_agrees, counts_agree}
use Rattle.sheet_ops.proofs.Names.{each_new}
use Rattle.sheet_ops.proofs.Lengths.{one_of, each_new_for, as_many_each, valid_few, small_at}
use Rattle.sheet_ops.proofs.Sound.{each_sound}
use Rattle.sheet_ops.proofs.Chains.{size_of-step}
use Rattle.sheet_ops.proofs.Views.{IsFresh, known_to, views_fresh, rises_later, next_unknown, other_unknown}
use Rattle.sheet_ops.proofs.Histories.{view_of-held, site_positive}
use Rattle.sheet_ops.proofs.Served.{rises_at}
use Rattle.sheet_ops.proofs.Prefixes.{split_at, take_suc, own_held, own_prefix}
use Rattle.sheet_ops.proofs.Sizes.{size_placed, grows, effect_none}
use Rattle.sheet_ops.proofs.Published.{v, valid_before, seen_within, seen_later, sheet_here, effect_here, leads_here, published_leads}
use Rattle.sheet_ops.proofs.Acknowledged.{view_stays, pending_stays, seen_same, count, held}
use Rattle.sheet_ops.proofs.Taken.{taken_other, edited}
use Rattle.jup_client.specs.declared.Down.{Down}
use Rattle.jup_client.specs.declared.Down.TheVariants as message
use Rattle.jup_client.specs.Clients.{IsSmall, IsClient, down_at, own_entry, one_more, AcceptsMessage, IsTaken}
use Rattle.jup_client.proofs.Causes.{admitted_own, admitted_other}
use Rattle.jup_client.proofs.OnePassed.{fits_more, sized_more}

-- ---- an edit
module _ (c : ClientState) (sites : ℕ) (H G : List Entry) (pos : 0 < c.site) (valid : IsValidHistory c.size sites H) (r : ClientRepresents c H G) where
  abbrev here : IdSheet
  here = view c.size H c.site c.taken G

  fresh : IsFresh (known_to (take c.taken H) c.site (reverse G)) (view c.size H c.site c.taken G)
  fresh = views_fresh c.size sites H valid c.site pos c.taken r.within G r.ordered.agrees r.ordered.rises

  -- the identifiers of an own operation
  abbrev own_ids : Intent → List LineId
  own_ids op = entry_ids c.site (reverse G) op

  few : operations (own_entries c.site (take c.taken H)) ≤ operations (reverse G)
  few = count_agrees c.site H (reverse G) (counts_agree c.site H G r.ordered.agrees) c.taken (let n = length-reverse G in let h = r.ordered.held in omega arith)

  own_new : (op : Intent) → EachNew (view c.size H c.site c.taken G) (entry_ids c.site (reverse G) op)
  own_new op =
      each_new (view c.size H c.site c.taken G) c.site (suc (operations (reverse G))) (operations_of op)
      (λ n low. fresh.new (operation_id c.site n) (next_unknown (take c.taken H) c.site (reverse G) pos few n (omega arith)))

  pub edit_stays : IsPrefixOf (own_entries c.site H) G → (op : Intent) → IntentFits (placed_size c.sheet) op → (P : PlacedSheet) → StepsTo c.sheet (effect_of_intent op) P →
      ClientRepresents (record c { issued = c.issued + 1; sheet = P; pending = c.pending ++ op ∷ [] }) H (G ++ own_entry c op ∷ [])
  edit_stays front op fits P steps =
      let fit : IntentFits (size_of here) op = subst (λ (z : Size). IntentFits z op) (ap placed_size r.sheet ∙ size_placed here) fits in
      let many : length (own_ids op) ≡ operations_in (effect_of_intent op) = length-operation_ids c.site (suc (operations (reverse G))) (operations_of op) ∙ sym (as_many_effects op) in
      subst (λ (n : ℕ). ClientRepresents (record c { issued = c.issued + n; sheet = P; pending = c.pending ++ op ∷ [] }) H (G ++ own_entry c op ∷ [])) (one_of op)
      (subst (λ (Q : PlacedSheet). ClientRepresents (record c { issued = c.issued + operations_of op; sheet = Q; pending = c.pending ++ op ∷ [] }) H (G ++ own_entry c op ∷ []))
      (steps here (own_ids op) fresh.formed (each_new_for here (own_ids op) fresh.formed (own_new op) (effect_of_intent op) many) (sym r.sheet)) (edited c H G op r front fresh.formed fit))

  -- ---- another's entry
  module _ (more : c.taken < length H) (apart : is_own H c.site c.taken ≡ false) where
    others : length (own_entries c.site (take (suc c.taken) H)) ≡ length (own_entries c.site (take c.taken H))
    others = ap (λ (es : List Entry). length (own_entries c.site es)) (take_suc H c.taken more) ∙ ap length (own_another c.site (take c.taken H) (entry_at H c.taken) apart)

    lead : Leads (sheet_at c.size H c.taken) (sheet_at c.size H (suc c.taken)) (effect_at c.size H c.taken) (ids_at H c.taken)
    lead = published_leads c.size sites H valid c.taken more

    other_new : EachNew (view c.size H c.site c.taken G) (ids_at H c.taken)
    other_new =
        let other = (entry_at H c.taken).site.0 in
        each_new (view c.size H c.site c.taken G) other (suc (operations (own_entries other (take c.taken H)))) (operations_of (entry_at H c.taken).intent)
        (λ n low. fresh.new (operation_id other n) (other_unknown (take c.taken H) c.site other (reverse G) (site_positive c.size sites H valid c.taken more) apart n (omega arith)))

    pub other_stays : suc c.taken ≡ one_more c.taken → EachFitsAfter c.base (reverse c.pending) → (done : List Intent) (last : Effect) → PassesOwn c.base (effect_at c.size H c.taken) (reverse c.pending) (reverse done) last → (P : PlacedSheet) → StepsTo c.sheet last P →
        ClientRepresents (record c { taken = one_more c.taken; sheet = P; pending = done; base = size_past c.base (effect_at c.size H c.taken) }) H G
    other_stays one fits done last p P steps =
        let many : length (ids_at H c.taken) ≡ operations_in last = lead.as_many ∙ as_many_each (effect_at c.size H c.taken) last in
        let sound = each_sound c.size sites H valid c.site c.taken pos more apart (effect_at c.size H c.taken) others lead (reverse G) (counts_agree c.site H G r.ordered.agrees) r.ordered.rises in
        subst (λ (n : ℕ). ClientRepresents (record c { taken = n; sheet = P; pending = done; base = size_past c.base (effect_at c.size H c.taken) }) H G) one
        (subst (λ (Q : PlacedSheet). ClientRepresents (record c { taken = suc c.taken; sheet = Q; pending = done; base = size_past c.base (effect_at c.size H c.taken) }) H G)
        (steps here (ids_at H c.taken) fresh.formed (each_new_for here (ids_at H c.taken) fresh.formed other_new last many) (sym r.sheet))
        (taken_other c H G (effect_at c.size H c.taken) (ids_at H c.taken) r more others lead sound fits done last p))

-- ---- an entry of its own: the history cut there
module _ (size : Size) (sites : ℕ) (H0 : List Entry) (e : Entry) (more : List Entry) (valid : IsValidHistory size sites ((H0 ++ e ∷ []) ++ more)) (rest : List Entry) where
  abbrev H : List Entry
  H = (H0 ++ e ∷ []) ++ more

  abbrev site : ℕ
  site = e.site.0

  abbrev G0 : List Entry
  G0 = reverse (own_entries e.site.0 H0)

  abbrev G : List Entry
  G = (own_entries e.site.0 H0 ++ e ∷ []) ++ rest

  valid0 : IsValidHistory size sites H0
  valid0 = valid_before size sites H0 e (v size sites H0 e more valid)

  within : e.seen ≤ length H0
  within = seen_within size sites H0 e (v size sites H0 e more valid)

  rises : SeenRises e.seen (reverse (own_entries e.site.0 H0))
  rises = rises_at size sites H0 valid0 e.site.0 e.seen (seen_later size sites H0 e (v size sites H0 e more valid))

  turned : reverse ((own_entries e.site.0 H0 ++ e ∷ []) ++ rest) ≡ reverse rest ++ (e ∷ reverse (own_entries e.site.0 H0))
  turned = reverse-append (own_entries e.site.0 H0 ++ e ∷ []) rest ∙ ap (λ (es : List Entry). reverse rest ++ es) (reverse-append (own_entries e.site.0 H0) (e ∷ []))

  pub view_same : view size H site (suc (length H0)) G ≡ view size H site (length H0) G
  view_same =
      ap (view_of size H (resolved size H) site (suc (length H0))) turned
      ∙ (view_stays size H0 e more within rises (reverse rest) ∙ sym (ap (view_of size H (resolved size H) site (length H0)) turned))

  abbrev pub own_intent : Intent
  own_intent = locate (view_of size H (resolved size H) site (length H0) G0) (resolve (view_of size H (resolved size H) site e.seen G0) site (suc (operations G0)) e.intent)

  pub pending_same : pending_of size H site (length H0) (reverse G) ≡ own_intent ∷ pending_of size H site (suc (length H0)) (reverse G)
  pending_same =
      ap (pending_of size H site (length H0)) turned
      ∙ (pending_stays size H0 e more within rises (reverse rest) ∙ ap (λ (ps : List Intent). own_intent ∷ ps) (sym (ap (pending_of size H site (suc (length H0))) turned)))

  effect_same : effect_at size H (length H0) ≡ effect_of_intent own_intent
  effect_same =
      effect_here size sites H0 e more valid
      ∙ sym (λ i. effect_of_intent (locate (there i) (resolve (seen_same size H0 e more within rises i) site (suc (count size H0 e more within rises i)) e.intent)))
    where
      there : view_of size H (resolved size H) site (length H0) G0 ≡ sheet_of size H0
      there =
          view_of-held size H (resolved size H) site (length H0) G0 (let n = held size H0 e more within rises in omega arith)
          ∙ sheet_here size sites H0 e more valid

  pub base_same : size_of (sheet_at size H (suc (length H0))) ≡ size_past (size_of (sheet_at size H (length H0))) (effect_of_intent own_intent)
  base_same =
      let lead = leads_here size sites H0 e more valid in
      ap size_of (sym lead.same) ∙ (size_of-step (sheet_at size H (length H0)) (effect_at size H (length H0)) (ids_at H (length H0)) lead.fits ∙ ap (size_past (size_of (sheet_at size H (length H0)))) effect_same)

abbrev OwnFacts : Size → List Entry → List Entry → ℕ → ℕ → Type 0
OwnFacts size H G site k =
    (y : Intent) × (view size H site (suc k) G ≡ view size H site k G) × (pending_of size H site k (reverse G) ≡ y ∷ pending_of size H site (suc k) (reverse G))
    × (size_of (sheet_at size H (suc k)) ≡ size_past (size_of (sheet_at size H k)) (effect_of_intent y))

own_facts : (size : Size) (sites : ℕ) (H G : List Entry) (site k : ℕ) → IsValidHistory size sites H → k < length H → is_own H site k ≡ true → IsPrefixOf (own_entries site (take (suc k) H)) G → OwnFacts size H G site k
own_facts size sites H G site k valid more own (rest, is) =
    let H0 = take k H in
    let e = entry_at H k in
    let split = split_at H k more in
    let valid' = subst (IsValidHistory size sites) (sym split) valid in
    let same : e.site.0 ≡ site = same_number e.site.0 site own in
    let whole : (own_entries e.site.0 H0 ++ e ∷ []) ++ rest ≡ G =
    (λ i. (own_entries (same i) H0 ++ e ∷ []) ++ rest) ∙ (ap (λ (es : List Entry). es ++ rest) (sym (own_one_more site H0 e own) ∙ ap (own_entries site) (sym (take_suc H k more))) ∙ is) in
    let there : OwnFacts size ((H0 ++ e ∷ []) ++ drop (suc k) H) ((own_entries e.site.0 H0 ++ e ∷ []) ++ rest) e.site.0 (length H0) = (
      own_intent size sites H0 e (drop (suc k) H) valid' rest,
      view_same size sites H0 e (drop (suc k) H) valid' rest,
      pending_same size sites H0 e (drop (suc k) H) valid' rest,
      base_same size sites H0 e (drop (suc k) H) valid' rest,
    ) in
    subst (λ (es : List Entry). OwnFacts size H es site k) whole
    (subst (λ (n : ℕ). OwnFacts size H ((own_entries e.site.0 H0 ++ e ∷ []) ++ rest) n k) same
    (subst (λ (n : ℕ). OwnFacts size H ((own_entries e.site.0 H0 ++ e ∷ []) ++ rest) e.site.0 n) (length-take-le k H (omega arith))
    (subst (λ (es : List Entry). OwnFacts size es ((own_entries e.site.0 H0 ++ e ∷ []) ++ rest) e.site.0 (length H0)) split there)))

abbrev head_or : Intent → List Intent → Intent
head_or d [] = d
head_or d (p ∷ ps) = p

abbrev tail_of : List Intent → List Intent
tail_of [] = []
tail_of (p ∷ ps) = ps

pub own_stays : (c : ClientState) (sites : ℕ) (H G : List Entry) → suc c.taken ≡ one_more c.taken → IsValidHistory c.size sites H → ClientRepresents c H G → c.taken < length H → is_own H c.site c.taken ≡ true →
    length (own_entries c.site (take (suc c.taken) H)) ≤ length G → (op : Intent) (ops : List Intent) → c.pending ≡ op ∷ ops →
    ClientRepresents (record c { taken = one_more c.taken; pending = ops; base = size_past c.base (effect_of_intent op) }) H G
own_stays c sites H G one valid r more own held op ops is =
    let facts = own_facts c.size sites H G c.site c.taken valid more own (own_held c.site (suc c.taken) H G r.ordered.agrees held) in
    let both : op ∷ ops ≡ facts.0 ∷ pending_of c.size H c.site (suc c.taken) (reverse G) = sym is ∙ (r.pending ∙ facts.2) in
    let same : op ≡ facts.0 = ap (head_or op) both in
    subst (λ (n : ℕ). ClientRepresents (record c { taken = n; pending = ops; base = size_past c.base (effect_of_intent op) }) H G) one
    (record {
      within = omega (arith, more);
      ordered = record { agrees = r.ordered.agrees; held = held; rises = rises_later c.taken (suc c.taken) (reverse G) (omega arith) r.ordered.rises; fits = r.ordered.fits };
      issued = r.issued;
      sheet = r.sheet ∙ ap placed (sym facts.1);
      pending = ap tail_of both;
      base = (λ i. size_past (r.base i) (effect_of_intent (same i))) ∙ sym facts.3;
    })

-- ---- a new client
size_opened : (size : Size) → placed_size (placed (opened size)) ≡ size
size_opened size = size_placed (opened size) ∙ (λ i. record { rows = length-opening_lines 0 size.rows i; cols = length-opening_lines 0 size.cols i })

pub new_client : (site : ℕ) (size : Size) (sheet : PlacedSheet) (pending : List Intent) → 0 < site → size.rows ≤ 1000 → size.cols ≤ 64 → sheet ≡ placed (opened size) → pending ≡ [] →
    IsClient (record { site = site; size = size; taken = 0; issued = 0; sheet = sheet; pending = pending; base = size })
new_client site size sheet pending pos rows cols is none = subst (λ (ps : List Intent). IsClient (record { site = site; size = size; taken = 0; issued = 0; sheet = sheet; pending = ps; base = size })) (sym none) (record {
  site = pos;
  rows = rows;
  cols = cols;
  small = (omega arith, omega arith);
  pending_few = omega arith;
  issued_few = omega arith;
  fits = tt;
  sized = ap placed_size is ∙ size_opened size;
})

pub new_represents : (site : ℕ) (size : Size) (sheet : PlacedSheet) (pending : List Intent) → sheet ≡ placed (opened size) → pending ≡ [] →
    ClientRepresents (record { site = site; size = size; taken = 0; issued = 0; sheet = sheet; pending = pending; base = size }) [] []
new_represents site size sheet pending is none = record {
  within = omega arith;
  ordered = record { agrees = inl ([], refl); held = omega arith; rises = tt; fits = tt };
  issued = refl;
  sheet = is;
  pending = none;
  base = sym (λ i. record { rows = length-opening_lines 0 size.rows i; cols = length-opening_lines 0 size.cols i });
}

-- ---- what a client keeps
pub edit_client : (c : ClientState) → IsClient c → (op : Intent) → IntentFits (placed_size c.sheet) op → c.issued < 1000 → (P : PlacedSheet) → placed_size P ≡ size_past (placed_size c.sheet) (effect_of_intent op) →
    (pending : List Intent) (kept : Intent) → pending ≡ c.pending ++ kept ∷ [] → kept ≡ op → IsClient (record c { issued = c.issued + 1; sheet = P; pending = pending })
edit_client c ok op fits few P sized pending kept pushed same =
    let now : pending ≡ c.pending ++ op ∷ [] = pushed ∙ ap (λ (d : Intent). c.pending ++ d ∷ []) same in
    record {
      site = ok.site;
      rows = ok.rows;
      cols = ok.cols;
      small = ok.small;
      pending_few = let n = ap length now in let m = length-append c.pending (op ∷ []) in let h = ok.pending_few in omega arith;
      issued_few = omega (arith, few);
      fits = fits_more c.base c.pending op pending now ok.fits (placed_size c.sheet) ok.sized fits;
      sized = sized ∙ (ap (λ (z : Size). size_past z (effect_of_intent op)) ok.sized ∙ sym (sized_more c.base c.pending op pending now));
    }

after_first : (s : Size) (ys : List Intent) (op : Intent) → size_after s (ys ++ op ∷ []) ≡ size_after (size_past s (effect_of_intent op)) ys
after_first s [] op = refl
after_first s (y ∷ ys) op = ap (λ (z : Size). size_past z (effect_of_intent y)) (after_first s ys op)

fits_without : (s : Size) (ys : List Intent) (op : Intent) → EachFitsAfter s (ys ++ op ∷ []) → EachFitsAfter (size_past s (effect_of_intent op)) ys
fits_without s [] op f = tt
fits_without s (y ∷ ys) op f = (subst (λ (z : Size). IntentFits z y) (after_first s ys op) f.0, fits_without s ys op f.1)

pub own_client : (c : ClientState) → IsClient c → (op : Intent) (ops : List Intent) → c.pending ≡ op ∷ ops → (base : Size) → base ≡ size_past c.base (effect_of_intent op) → IsSmall base → (n : ℕ) → IsClient (record c { taken = n; pending = ops; base = base })
own_client c ok op ops is base past small n =
    let turned : reverse c.pending ≡ reverse ops ++ op ∷ [] = ap (λ (ps : List Intent). reverse ps) is ∙ reverse-append (op ∷ []) ops in
    record {
      site = ok.site;
      rows = ok.rows;
      cols = ok.cols;
      small = small;
      pending_few = let k = ap length is in let h = ok.pending_few in omega arith;
      issued_few = ok.issued_few;
      fits = subst (λ (z : Size). EachFitsAfter z (reverse ops)) (sym past) (fits_without c.base (reverse ops) op (subst (λ (ps : List Intent). EachFitsAfter c.base ps) turned ok.fits));
      sized = ok.sized ∙ (ap (λ (ps : List Intent). size_after c.base ps) turned ∙ (after_first c.base (reverse ops) op ∙ ap (λ (z : Size). size_after z (reverse ops)) (sym past)));
    }

pub other_client : (c : ClientState) → IsClient c → (e last : Effect) (P : PlacedSheet) → placed_size P ≡ size_past (placed_size c.sheet) last → (done : List Intent) → EachFitsAfter (size_past c.base e) (reverse done) →
    size_after (size_past c.base e) (reverse done) ≡ size_past (size_after c.base (reverse c.pending)) last → length done ≡ length c.pending → (base : Size) → base ≡ size_past c.base e → IsSmall base → (n : ℕ) →
    IsClient (record c { taken = n; sheet = P; pending = done; base = base })
other_client c ok e last P sized done fits meets many base past small n = record {
  site = ok.site;
  rows = ok.rows;
  cols = ok.cols;
  small = small;
  pending_few = let h = ok.pending_few in omega (arith, many);
  issued_few = ok.issued_few;
  fits = subst (λ (z : Size). EachFitsAfter z (reverse done)) (sym past) fits;
  sized = sized ∙ (ap (λ (z : Size). size_past z last) ok.sized ∙ (sym meets ∙ ap (λ (z : Size). size_after z (reverse done)) (sym past)));
}

pub split_first : (xs : List Intent) (x : Intent) → 0 < length xs → x ≡ get_or xs 0 x → xs ≡ x ∷ drop 1 xs
split_first [] x h is = absurd (omega arith)
split_first (y ∷ xs) x h is = ap (λ (z : Intent). z ∷ xs) (sym is)

-- ---- the same at the fields from which a state was opened
pub edit_at : (c0 c : ClientState) → c0 ≡ c → IsClient c0 → (sites : ℕ) (H G : List Entry) → IsValidHistory c.size sites H → ClientRepresents c H G → IsPrefixOf (own_entries c.site H) G → (op kept : Intent) → IntentFits (placed_size c.sheet) op →
    (P : PlacedSheet) → StepsTo c0.sheet (effect_of_intent op) P → (pending : List Intent) → pending ≡ c0.pending ++ kept ∷ [] → kept ≡ op →
    ClientRepresents (record c0 { issued = c0.issued + 1; sheet = P; pending = pending }) H (G ++ own_entry c op ∷ [])
edit_at c0 c is ok sites H G valid r front op kept fits P steps pending pushed same =
    let back = sym is in
    let now : c0.pending ++ op ∷ [] ≡ pending = sym (pushed ∙ ap (λ (d : Intent). c0.pending ++ d ∷ []) same) in
    subst (λ (d : ClientState). ClientRepresents (record c0 { issued = c0.issued + 1; sheet = P; pending = pending }) H (G ++ own_entry d op ∷ [])) is
    (subst (λ (ps : List Intent). ClientRepresents (record c0 { issued = c0.issued + 1; sheet = P; pending = ps }) H (G ++ own_entry c0 op ∷ [])) now
    (edit_stays c0 sites H G ok.site (subst (λ (d : ClientState). IsValidHistory d.size sites H) back valid) (subst (λ (d : ClientState). ClientRepresents d H G) back r)
    (subst (λ (d : ClientState). IsPrefixOf (own_entries d.site H) G) back front) op (subst (λ (d : ClientState). IntentFits (placed_size d.sheet) op) back fits) P steps))

-- ---- the message
abbrev IsOther : Down → Type 0
IsOther message.Own = ⊥
IsOther (message.Other e) = Unit {0}

abbrev effect_or : Effect → Down → Effect
effect_or d message.Own = d
effect_or d (message.Other e) = e

other_than : (b : Bool) (e : Effect) → (if b then message.Own else message.Other e) ≡ message.Own → b ≡ true
other_than true e h = refl
other_than false e h = absurd (subst IsOther h tt)

own_than : (b : Bool) (d e : Effect) → (if b then message.Own else message.Other d) ≡ message.Other e → (b ≡ false) × (d ≡ e)
own_than true d e h = absurd (subst IsOther (sym h) tt)
own_than false d e h = (refl, ap (effect_or d) h)

pub own_message : (size : Size) (H : List Entry) (site k : ℕ) → message.Own ≡ down_at size H site k → is_own H site k ≡ true
own_message size H site k h = other_than (is_own H site k) (effect_at size H k) (sym h)

pub other_message : (size : Size) (H : List Entry) (site k : ℕ) (e : Effect) → message.Other e ≡ down_at size H site k → (is_own H site k ≡ false) × (effect_at size H k ≡ e)
other_message size H site k e h = own_than (is_own H site k) (effect_at size H k) e (sym h)

-- ---- a message taken
first_front : {A : Type 0} (xs ys zs : List A) → IsPrefixOf xs ys → IsPrefixOf ys zs → length xs ≤ length zs
first_front xs ys zs (a, p) (b, q) = let m = ap length (sym p) ∙ length-append xs a in let n = ap length (sym q) ∙ length-append ys b in omega (arith, m, n)

counted : (k : ℕ) → k ≤ 8000 → suc k ≡ one_more k
counted k h =
    let e : min (k + 1) (2 ^ 32 - 1) ≡ k + 1 = min-eq_left (omega arith) in
    let f : suc k ≡ k + 1 = omega arith in
    f ∙ sym e

module _ (c : ClientState) (ok : IsClient c) (sites : ℕ) (H G : List Entry) (few : sites ≤ 8) (valid : IsValidHistory c.size sites H) (r : ClientRepresents c H G)
    (more : c.taken < length H) (front : IsPrefixOf (own_entries c.site H) G) where
  short : length H ≤ 8000
  short = let n = valid_few c.size sites H valid in omega (arith, n, few)

  one : suc c.taken ≡ one_more c.taken
  one = counted c.taken (let n = short in omega arith)

  all_held : length (own_entries c.site (take (suc c.taken) H)) ≤ length G
  all_held = first_front (own_entries c.site (take (suc c.taken) H)) (own_entries c.site H) G (own_prefix c.site (suc c.taken) H) front

  next_small : IsSmall (size_of (sheet_at c.size H (suc c.taken)))
  next_small = let h = small_at c.size sites H valid (suc c.taken) (omega arith) in let n = short in (omega (arith, h.0, ok.rows, n, more), omega (arith, h.1, ok.cols, n, more))

  facts : is_own H c.site c.taken ≡ true → OwnFacts c.size H G c.site c.taken
  facts own = own_facts c.size sites H G c.site c.taken valid more own (own_held c.site (suc c.taken) H G r.ordered.agrees all_held)

  there : Leads (sheet_at c.size H c.taken) (sheet_at c.size H (suc c.taken)) (effect_at c.size H c.taken) (ids_at H c.taken)
  there = published_leads c.size sites H valid c.taken more

  -- what the server sends is taken
  pub sent_admitted : (d : Down) → d ≡ down_at c.size H c.site c.taken → AcceptsMessage c d
  sent_admitted message.Own sent =
      let own = facts (own_message c.size H c.site c.taken sent) in
      admitted_own c own.0 (pending_of c.size H c.site (suc c.taken) (reverse G)) (r.pending ∙ own.2)
      (subst IsSmall (own.3 ∙ ap (λ (z : Size). size_past z (effect_of_intent own.0)) (sym r.base)) next_small)
  sent_admitted (message.Other e) sent =
      let (apart, same) = other_message c.size H c.site c.taken e sent in
      let fits : EffectFits c.base e = subst (λ (d : Effect). EffectFits c.base d) same (subst (λ (z : Size). EffectFits z (effect_at c.size H c.taken)) (sym r.base) there.fits) in
      let sized : size_of (sheet_at c.size H (suc c.taken)) ≡ size_past c.base e =
      ap size_of (sym there.same) ∙ (size_of-step (sheet_at c.size H c.taken) (effect_at c.size H c.taken) (ids_at H c.taken) there.fits ∙ (λ i. size_past (sym r.base i) (same i))) in
      admitted_other c e (effect_none c.base e fits) (subst IsSmall sized next_small)

  -- and the client stands for the history then
  pub own_taken : (d : ClientState) → IsTaken c message.Own d → message.Own ≡ down_at c.size H c.site c.taken → ClientRepresents d H G
  own_taken d (op, split, now) sent =
      subst (λ (x : ClientState). ClientRepresents x H G) (sym now) (own_stays c sites H G one valid r more (own_message c.size H c.site c.taken sent) all_held op d.pending split)

  pub other_taken : (e : Effect) (d : ClientState) (taken : IsTaken c (message.Other e) d) → StepsTo c.sheet taken.0 d.sheet → message.Other e ≡ down_at c.size H c.site c.taken → ClientRepresents d H G
  other_taken e d (last, p, now) steps sent =
      let (apart, same) = other_message c.size H c.site c.taken e sent in
      let all = other_stays c sites H G ok.site valid r more apart one ok.fits d.pending last (subst (λ (x : Effect). PassesOwn c.base x (reverse c.pending) (reverse d.pending) last) (sym same) p)
      (effect_on c.sheet last) (subst (StepsTo c.sheet last) (ap (λ (x : ClientState). x.sheet) now) steps) in
      subst (λ (x : ClientState). ClientRepresents x H G) (sym now)
      (subst (λ (x : Effect). ClientRepresents (record c { taken = one_more c.taken; sheet = effect_on c.sheet last; pending = d.pending; base = size_past c.base x }) H G) same all)

pub last_fits : (c : ClientState) → IsClient c → (last : Effect) → EffectFits (size_after c.base (reverse c.pending)) last → EffectFits (placed_size c.sheet) last
last_fits c ok last f = subst (λ (z : Size). EffectFits z last) (sym ok.sized) f

-- the sheet has room for an operation more
after_few : (s : Size) (cs : List Intent) → ((size_after s cs).rows ≤ s.rows + length cs) × ((size_after s cs).cols ≤ s.cols + length cs)
after_few s [] = (omega arith, omega arith)
after_few s (c ∷ cs) = let h = after_few s cs in let g = grows (size_after s cs) (effect_of_intent c) in (omega (arith, h.0, g.0), omega (arith, h.1, g.1))

pub has_room : (c : ClientState) → IsClient c → ((placed_size c.sheet).rows < 16000) × ((placed_size c.sheet).cols < 16000)
has_room c ok =
    let h = after_few c.base (reverse c.pending) in
    let n = length-reverse c.pending in
    let few = ok.pending_few in
    let all = ok.issued_few in
    (omega (arith, h.0, n, few, all, ok.small.0, ap (λ (z : Size). z.rows) ok.sized), omega (arith, h.1, n, few, all, ok.small.1, ap (λ (z : Size). z.cols) ok.sized))

-- ---- the state at the fields after a message
pub own_state : (c0 c : ClientState) → c0 ≡ c → (op : Intent) (ops : List Intent) → c0.pending ≡ op ∷ ops → (base : Size) → base ≡ size_past c0.base (effect_of_intent op) → (n : ℕ) → n ≡ one_more c0.taken →
    IsTaken c message.Own (record c0 { taken = n; pending = ops; base = base })
own_state c0 c is op ops split base past n count =
    subst (λ (x : ClientState). IsTaken x message.Own (record c0 { taken = n; pending = ops; base = base })) is (op, split, λ i. record c0 { taken = count i; pending = ops; base = past i })

pub other_state : (c0 c : ClientState) → c0 ≡ c → (e last : Effect) (done : List Intent) → PassesOwn c0.base e (reverse c0.pending) (reverse done) last → (P : PlacedSheet) → P ≡ effect_on c0.sheet last → StepsTo c0.sheet last P →
    (base : Size) → base ≡ size_past c0.base e → (n : ℕ) → n ≡ one_more c0.taken →
    (taken : IsTaken c (message.Other e) (record c0 { taken = n; sheet = P; pending = done; base = base })) × StepsTo c.sheet taken.0 P
other_state c0 c is e last done p P on steps base past n count =
    subst (λ (x : ClientState). (taken : IsTaken x (message.Other e) (record c0 { taken = n; sheet = P; pending = done; base = base })) × StepsTo x.sheet taken.0 P) is
    ((last, p, λ i. record c0 { taken = count i; sheet = on i; pending = done; base = past i }), steps)

-- ---- a refused call leaves the client
pub unchanged : (c0 c : ClientState) → c0 ≡ c → (P : PlacedSheet) → P ≡ c0.sheet → (ps : List Intent) → ps ≡ c0.pending → record c0 { sheet = P; pending = ps } ≡ c
unchanged c0 c is P on ps same = (λ i. record c0 { sheet = on i; pending = same i }) ∙ is

-- an operation that was put at the end and taken out again
pub popped : (xs ys zs : List Intent) (x : Intent) (n : ℕ) → ys ≡ xs ++ x ∷ [] → zs ≡ take n ys → n ≡ length xs → zs ≡ xs
popped xs ys zs x n pushed rest is = rest ∙ (ap (λ (ws : List Intent). take n ws) pushed ∙ take_at xs (x ∷ []) n (sym is))
