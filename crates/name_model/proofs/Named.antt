-- Both ways round by identity, for own operations in turn.
use Rattle.std.proofs.Common.{◌≡◌, ℕ, zero, suc, ◌<◌, ◌≤◌, true, false, List, [], ◌∷◌, ◌++◌, length, refl, ap, sym, ◌∙◌, subst, arith, append_assoc}
use Rattle.std.specs.Prelude.{◌&&◌, nat_eq}
use Rattle.std.proofs.lemmas.Bool.Decides.{nat_tests}
use Rattle.ss_base.specs.declared.types.Size.{Size}
use Rattle.sheet_ops.specs.declared.operation.Effect.{Effect}
use Rattle.sheet_ops.specs.declared.operation.Intent.{Intent}
use Rattle.sheet_ops.specs.declared.operation.Intent.TheVariants as intent
use Rattle.sheet_ops.specs.LineIds.{LineId, operation_id, operation_ids, first_id, AreOthers, AllDiffer}
use Rattle.sheet_ops.specs.Identity.{IdOp, one, write, ins_row, ins_col, del_row, del_col, sort, IdSheet}
use Rattle.sheet_ops.specs.Act.{act, acts}
use Rattle.sheet_ops.specs.Chains.{size_past}
use Rattle.sheet_ops.specs.Effects.{StepsTo}
use Rattle.sheet_ops.specs.Fits.{IntentFits, EffectFits, IsWellFormed, IsNew, EachNew, AreNew, IsNewFor}
use Rattle.sheet_ops.specs.Naming.{operations_in, brought, resolve, locate, step, effect_of_intent}
use Rattle.sheet_ops.specs.Placed.{PlacedSheet, placed, placed_size, size_of, lifted}
use Rattle.sheet_ops.specs.Transforms.{own_past, other_past}
use Rattle.sheet_ops.proofs.Again.{Bears, meant_again, step_is_act, own_effect_fits, length-operation_ids}
use Rattle.sheet_ops.proofs.Chains.{size_of-step}
use Rattle.sheet_ops.proofs.Convergence.{converges, one_in, new_for}
use Rattle.sheet_ops.proofs.Names.{EachNew-append, EachNew-behind, first_new, each_new}
use Rattle.sheet_ops.proofs.Published.{effect_fits_again}
use Rattle.sheet_ops.proofs.Sizes.{size_placed}
use Rattle.name_model.proofs.StayNew.{others_behind, others_front, others_both, others_before, differ_without, act_formed, act_new, step_formed, act_each_new, step_each_new}
use Rattle.name_model.specs.InTurn.{brought_each, locate_each, EachFitsInTurn, size_past_each, own_each_past, other_past_each, StepsEach}
use Rattle.name_model.specs.Laws.{IsByIdentity, IsWhole}
use Rattle.name_model.proofs.Lifted.{placed-lifted, lifted-formed, lifted-new}
use Rattle.name_model.proofs.Turns.{each_fits}

-- ---- identifiers that differ
new_front : (X : IdSheet) (is js : List LineId) → EachNew X (is ++ js) → EachNew X is
new_front X [] js n = tt
new_front X (i ∷ is) js n = (n.0, new_front X is js n.1)

differ_front : (is js : List LineId) → AllDiffer (is ++ js) → AllDiffer is
differ_front [] js d = tt
differ_front (i ∷ is) js d = (others_front is js i d.0, differ_front is js d.1)

differ_behind : (is js : List LineId) → AllDiffer (is ++ js) → AllDiffer js
differ_behind [] js d = d
differ_behind (i ∷ is) js d = differ_behind is js d.1

-- some left out in the middle
new_without : (X : IdSheet) (is js ks : List LineId) → AreNew X ((is ++ js) ++ ks) → AreNew X (is ++ ks)
new_without X is js ks a = record { new = left is a.new; differ = apart is a.differ }
  where
    left : (is : List LineId) → EachNew X ((is ++ js) ++ ks) → EachNew X (is ++ ks)
    left [] n = EachNew-behind X js ks n
    left (i ∷ is) n = (n.0, left is n.1)

    others : (is : List LineId) (id : LineId) → AreOthers ((is ++ js) ++ ks) id → AreOthers (is ++ ks) id
    others [] id o = others_behind js ks id o
    others (i ∷ is) id o = (o.0, others is id o.1)

    apart : (is : List LineId) → AllDiffer ((is ++ js) ++ ks) → AllDiffer (is ++ ks)
    apart [] d = differ_behind js ks d
    apart (i ∷ is) d = (others is i d.0, apart is d.1)

-- of one identifier and others before it
others_first : (is ids : List LineId) → length ids ≡ 1 → AllDiffer (is ++ ids) → AreOthers is (first_id ids)
others_first is [] h d = absurd (omega arith)
others_first is (id ∷ ids) h d = others_before is id ids d

-- ---- one operation
bears_own : (X : IdSheet) (ok : IsWellFormed X) (N : IdOp) → Bears X ok N (brought N)
bears_own X ok (one (write ps)) = tt
bears_own X ok (one (ins_row b n)) = refl
bears_own X ok (one (ins_col b n)) = refl
bears_own X ok (one (del_row r)) = tt
bears_own X ok (one (del_col r)) = tt
bears_own X ok (one (sort S R)) = tt

own_new : (X : IdSheet) (N : IdOp) → EachNew X (brought N) → IsNewFor (effect_of_intent (locate X N)) X (brought N)
own_new X (one (write ps)) n = tt
own_new X (one (ins_row b id)) n = (n.0.rows, n.0.in_row)
own_new X (one (ins_col b id)) n = (n.0.cols, n.0.in_col)
own_new X (one (del_row r)) n = tt
own_new X (one (del_col r)) n = tt
own_new X (one (sort S R)) n = tt

size_of-act : (X : IdSheet) → IsWellFormed X → (N : IdOp) (s : Size) → size_of X ≡ s → (c : Intent) → locate X N ≡ c → IntentFits s c → size_of (act X N) ≡ size_past s (effect_of_intent c)
size_of-act X ok N s sized c located fits =
    let here : IntentFits (size_of X) (locate X N) = subst (λ (z : Size). IntentFits z (locate X N)) (sym sized) (subst (λ (d : Intent). IntentFits s d) (sym located) fits) in
    ap size_of (sym (step_is_act X ok N (brought N) (bears_own X ok N) here))
    ∙ (size_of-step X (effect_of_intent (locate X N)) (brought N) (own_effect_fits (size_of X) (locate X N) here) ∙ (λ i. size_past (sized i) (effect_of_intent (located i))))

-- ---- the position steps of the effects do what the operations do
pub run_is : (Ns : List IdOp) (cs : List Intent) (X : IdSheet) → IsWellFormed X → locate_each X Ns ≡ cs → EachFitsInTurn (size_of X) cs → AreNew X (brought_each Ns) → (P Q : PlacedSheet) → placed X ≡ P → StepsEach P cs Q → placed (acts X Ns) ≡ Q
run_is [] [] X ok located fits new P Q is steps = is ∙ steps
run_is [] (c ∷ cs) X ok located fits new P Q is steps = absurd (cc)
run_is (N ∷ Ns) [] X ok located fits new P Q is steps = absurd (cc)
run_is (N ∷ Ns) (c ∷ cs) X ok located fits new P Q is (R, first, rest) =
    let here : locate X N ≡ c = cc in
    let behind : locate_each (act X N) Ns ≡ cs = cc in
    let fit : IntentFits (size_of X) (locate X N) = subst (λ (d : Intent). IntentFits (size_of X) d) (sym here) fits.0 in
    let mine : EachNew X (brought N) = new_front X (brought N) (brought_each Ns) new.new in
    let done : step X (effect_of_intent c) (brought N) ≡ act X N = ap (λ (d : Intent). step X (effect_of_intent d) (brought N)) (sym here) ∙ step_is_act X ok N (brought N) (bears_own X ok N) fit in
    let stepped : placed (step X (effect_of_intent c) (brought N)) ≡ R = first X (brought N) ok (subst (λ (d : Intent). IsNewFor (effect_of_intent d) X (brought N)) here (own_new X N mine)) is in
    let later : AreNew (act X N) (brought_each Ns) = record {
      new = act_each_new X ok N fit (brought_each Ns) new.differ (EachNew-behind X (brought N) (brought_each Ns) new.new);
      differ = differ_behind (brought N) (brought_each Ns) new.differ;
    } in
    run_is Ns cs (act X N) (act_formed X ok N fit mine) behind (subst (λ (z : Size). EachFitsInTurn z cs) (sym (size_of-act X ok N (size_of X) refl c here fits.0)) fits.1) later R Q (ap placed (sym done) ∙ stepped) rest

-- ---- the two ways meet
record EachMeets (X : IdSheet) (Ns : List IdOp) (e : Effect) (ids : List LineId) (own : List Intent) (other : Effect) : Type 0 where
  located : own ≡ locate_each (step X e ids) Ns
  same : acts (step X e ids) Ns ≡ step (acts X Ns) other ids
  as_many : operations_in other ≡ operations_in e
  formed : IsWellFormed (acts X Ns)
  new : EachNew (acts X Ns) ids

each_meets : (Ns : List IdOp) (cs : List Intent) (X : IdSheet) (s : Size) (e : Effect) (ids : List LineId) → IsWellFormed X → size_of X ≡ s → locate_each X Ns ≡ cs → EachFitsInTurn s cs → EffectFits s e →
    length ids ≡ operations_in e → AreNew X (brought_each Ns ++ ids) → EachMeets X Ns e ids (own_each_past s cs e) (other_past_each s cs e)
each_meets [] [] X s e ids ok sized located fits effect many new = record { located = refl; same = refl; as_many = refl; formed = ok; new = new.new }
each_meets [] (c ∷ cs) X s e ids ok sized located fits effect many new = absurd (cc)
each_meets (N ∷ Ns) [] X s e ids ok sized located fits effect many new = absurd (cc)
each_meets (N ∷ Ns) (c ∷ cs) X s e ids ok sized located fits effect many new =
    let here : locate X N ≡ c = cc in
    let behind : locate_each (act X N) Ns ≡ cs = cc in
    let pair = converges s c e fits.0 effect in
    let meets = pair X N ids ok sized here many (new_without X (brought N) (brought_each Ns) ids new) in
    let fit : IntentFits (size_of X) (locate X N) = subst (λ (z : Size). IntentFits z (locate X N)) (sym sized) (subst (λ (d : Intent). IntentFits s d) (sym here) fits.0) in
    let fresh = subst (λ (js : List LineId). AreNew X js) (append_assoc (brought N) (brought_each Ns) ids) new in
    let later : AreNew (act X N) (brought_each Ns ++ ids) = record {
      new = act_each_new X ok N fit (brought_each Ns ++ ids) fresh.differ (EachNew-behind X (brought N) (brought_each Ns ++ ids) fresh.new);
      differ = differ_behind (brought N) (brought_each Ns ++ ids) fresh.differ;
    } in
    let formed = act_formed X ok N fit (new_front X (brought N) (brought_each Ns ++ ids) fresh.new) in
    let next = size_of-act X ok N s sized c here fits.0 in
    let past = effect_fits_again s c e (own_past c e) (other_past s c e) fits.0 effect pair in
    let r = each_meets Ns cs (act X N) (size_past s (effect_of_intent c)) (other_past s c e) ids formed next behind fits.1 past (many ∙ sym meets.as_many) later in
    record {
      located = λ i. meets.located i ∷ (r.located ∙ ap (λ (Y : IdSheet). locate_each Y Ns) (sym meets.same)) i;
      same = ap (λ (Y : IdSheet). acts Y Ns) meets.same ∙ r.same;
      as_many = r.as_many ∙ meets.as_many;
      formed = r.formed;
      new = r.new;
    }

-- ---- the laws
size_is : (X : IdSheet) (P : PlacedSheet) → placed X ≡ P → size_of X ≡ placed_size P
size_is X P is = sym (size_placed X) ∙ ap placed_size is

module _ (P : PlacedSheet) (own : List Intent) (other : Effect) (fits : EachFitsInTurn (placed_size P) own) (effect : EffectFits (placed_size P) other) where
  -- the effect first
  pub left_by_identity : (R Q : PlacedSheet) → StepsTo P other R → StepsEach R (own_each_past (placed_size P) own other) Q → IsByIdentity P own other Q
  left_by_identity R Q first steps X Ns ids ok is located many new =
      let sized = size_is X P is in
      let meets = each_meets Ns own X (placed_size P) other ids ok sized located fits effect many new in
      let effect' : EffectFits (size_of X) other = subst (λ (z : Size). EffectFits z other) (sym sized) effect in
      let new_e : IsNewFor other X ids = new_for X ids ok (first_new X ids (many ∙ one_in other) (EachNew-behind X (brought_each Ns) ids new.new)) other in
      let size_after : size_of (step X other ids) ≡ size_past (placed_size P) other = size_of-step X other ids effect' ∙ ap (λ (z : Size). size_past z other) sized in
      run_is Ns (own_each_past (placed_size P) own other) (step X other ids) (step_formed X ok other ids new_e effect') (sym meets.located)
      (subst (λ (z : Size). EachFitsInTurn z (own_each_past (placed_size P) own other)) (sym size_after) (each_fits (placed_size P) own other fits effect).0)
      (record {
        new = step_each_new X ok other ids effect' (brought_each Ns) (others_first (brought_each Ns) ids (many ∙ one_in other) new.differ) (new_front X (brought_each Ns) ids new.new);
        differ = differ_front (brought_each Ns) ids new.differ;
      })
      R Q (first X ids ok new_e is) steps

  -- the own operations first
  pub right_by_identity : (R Q : PlacedSheet) → StepsEach P own R → StepsTo R (other_past_each (placed_size P) own other) Q → IsByIdentity P own other Q
  right_by_identity R Q steps last X Ns ids ok is located many new =
      let sized = size_is X P is in
      let meets = each_meets Ns own X (placed_size P) other ids ok sized located fits effect many new in
      let there : placed (acts X Ns) ≡ R = run_is Ns own X ok located (subst (λ (z : Size). EachFitsInTurn z own) (sym sized) fits) (record { new = new_front X (brought_each Ns) ids new.new; differ = differ_front (brought_each Ns) ids new.differ }) P R is steps in
      ap placed meets.same
      ∙ last (acts X Ns) ids meets.formed (new_for (acts X Ns) ids meets.formed (first_new (acts X Ns) ids (many ∙ one_in other) meets.new) (other_past_each (placed_size P) own other)) there

-- ---- there are such operations and names
-- operations of site 1, numbered from a first number on, each on what those before it leave
resolve_each : IdSheet → ℕ → List Intent → List IdOp
resolve_each X first [] = []
resolve_each X first (c ∷ cs) = resolve X 1 first c ∷ resolve_each (act X (resolve X 1 first c)) (suc first) cs

brought_one : (X V : IdSheet) (first : ℕ) (c : Intent) → IsNew X (operation_id 1 first) → EachNew X (brought (resolve V 1 first c))
brought_one X V first (intent.Write ps) n = tt
brought_one X V first (intent.InsRow p) n = (n, tt)
brought_one X V first (intent.InsCol p) n = (n, tt)
brought_one X V first (intent.DelRow p) n = tt
brought_one X V first (intent.DelCol p) n = tt
brought_one X V first (intent.Sort ss rs) n = tt

-- one operation brings no identifier of another number
brought_other : (V : IdSheet) (first n : ℕ) (c : Intent) → nat_eq first n ≡ false → AreOthers (brought (resolve V 1 first c)) (operation_id 1 n)
brought_other V first n (intent.Write ps) e = tt
brought_other V first n (intent.InsRow p) e = (e, tt)
brought_other V first n (intent.InsCol p) e = (e, tt)
brought_other V first n (intent.DelRow p) e = tt
brought_other V first n (intent.DelCol p) e = tt
brought_other V first n (intent.Sort ss rs) e = tt

differ_more : (V : IdSheet) (first : ℕ) (c : Intent) (js : List LineId) → AreOthers js (operation_id 1 first) → AllDiffer js → AllDiffer (brought (resolve V 1 first c) ++ js)
differ_more V first (intent.Write ps) js o d = d
differ_more V first (intent.InsRow p) js o d = (o, d)
differ_more V first (intent.InsCol p) js o d = (o, d)
differ_more V first (intent.DelRow p) js o d = d
differ_more V first (intent.DelCol p) js o d = d
differ_more V first (intent.Sort ss rs) js o d = d

earlier : (first n : ℕ) → first < n → nat_eq first n ≡ false
earlier first n h = grind (arith, nat_tests)

later : (first n : ℕ) → n < first → nat_eq first n ≡ false
later first n h = grind (arith, nat_tests)

-- those of site 2 are others, and differ
second_others : (n first count : ℕ) → AreOthers (operation_ids 2 first count) (operation_id 1 n)
second_others n first zero = tt
second_others n first (suc count) = (refl, second_others n (suc first) count)

second_differ : (ids : List LineId) → length ids ≡ 1 → AllDiffer ids
second_differ [] h = tt
second_differ (id ∷ []) h = (tt, tt)
second_differ (id ∷ (i ∷ ids)) h = absurd (omega arith)

module _ (count : ℕ) (single : count ≡ 1) where
  each_other : (cs : List Intent) (V : IdSheet) (first n : ℕ) → n < first → AreOthers (brought_each (resolve_each V first cs) ++ operation_ids 2 1 count) (operation_id 1 n)
  unfolding resolve_each
  each_other [] V first n h = second_others n 1 count
  each_other (c ∷ cs) V first n h =
      subst (λ (js : List LineId). AreOthers js (operation_id 1 n)) (sym (append_assoc (brought (resolve V 1 first c)) (brought_each (resolve_each (act V (resolve V 1 first c)) (suc first) cs)) (operation_ids 2 1 count)))
      (others_both (brought (resolve V 1 first c)) (brought_each (resolve_each (act V (resolve V 1 first c)) (suc first) cs) ++ operation_ids 2 1 count) (operation_id 1 n) (brought_other V first n c (later first n h))
      (each_other cs (act V (resolve V 1 first c)) (suc first) n (omega arith)))

  each_differ : (cs : List Intent) (V : IdSheet) (first : ℕ) → AllDiffer (brought_each (resolve_each V first cs) ++ operation_ids 2 1 count)
  unfolding resolve_each
  each_differ [] V first = second_differ (operation_ids 2 1 count) (length-operation_ids 2 1 count ∙ single)
  each_differ (c ∷ cs) V first =
      subst AllDiffer (sym (append_assoc (brought (resolve V 1 first c)) (brought_each (resolve_each (act V (resolve V 1 first c)) (suc first) cs)) (operation_ids 2 1 count)))
      (differ_more V first c (brought_each (resolve_each (act V (resolve V 1 first c)) (suc first) cs) ++ operation_ids 2 1 count)
      (each_other cs (act V (resolve V 1 first c)) (suc first) first (omega arith)) (each_differ cs (act V (resolve V 1 first c)) (suc first)))

brought_new : (X : IdSheet) (cs : List Intent) (V : IdSheet) (first : ℕ) → ((n : ℕ) → first ≤ n → IsNew X (operation_id 1 n)) → EachNew X (brought_each (resolve_each V first cs))
unfolding resolve_each
brought_new X [] V first new = tt
brought_new X (c ∷ cs) V first new =
    EachNew-append X (brought (resolve V 1 first c)) (brought_each (resolve_each (act V (resolve V 1 first c)) (suc first) cs)) (brought_one X V first c (new first (omega arith)))
    (brought_new X cs (act V (resolve V 1 first c)) (suc first) (λ n h. new n (omega arith)))

each_located : (cs : List Intent) (X : IdSheet) → IsWellFormed X → (first : ℕ) → ((n : ℕ) → first ≤ n → IsNew X (operation_id 1 n)) → EachFitsInTurn (size_of X) cs → locate_each X (resolve_each X first cs) ≡ cs
unfolding resolve_each
each_located [] X ok first new fits = refl
each_located (c ∷ cs) X ok first new fits =
    let located : locate X (resolve X 1 first c) ≡ c = meant_again X ok 1 first c fits.0 in
    let fit : IntentFits (size_of X) (locate X (resolve X 1 first c)) = subst (IntentFits (size_of X)) (sym located) fits.0 in
    let formed = act_formed X ok (resolve X 1 first c) fit (brought_one X X first c (new first (omega arith))) in
    let next = size_of-act X ok (resolve X 1 first c) (size_of X) refl c located fits.0 in
    let again = each_located cs (act X (resolve X 1 first c)) formed (suc first)
    (λ n low. act_new X ok (resolve X 1 first c) fit (operation_id 1 n) (brought_other X first n c (earlier first n (omega arith))) (new n (omega arith))) (subst (λ (z : Size). EachFitsInTurn z cs) (sym next) fits.1) in
    λ i. located i ∷ again i

-- so both ways lead to one sheet
pub both_same : (P : PlacedSheet) → IsWhole P → (own : List Intent) (other : Effect) → EachFitsInTurn (placed_size P) own → (Q R : PlacedSheet) → IsByIdentity P own other Q → IsByIdentity P own other R → Q ≡ R
both_same P whole own other fits Q R left right =
    let X = lifted P in
    let is : placed (lifted P) ≡ P = placed-lifted P whole in
    let Ns = resolve_each (lifted P) 1 own in
    let ids = operation_ids 2 1 (operations_in other) in
    let ok = lifted-formed P in
    let mine : (n : ℕ) → 1 ≤ n → IsNew (lifted P) (operation_id 1 n) = λ n h. lifted-new P 1 n (omega arith) in
    let located : locate_each (lifted P) (resolve_each (lifted P) 1 own) ≡ own = each_located own (lifted P) ok 1 mine (subst (λ (z : Size). EachFitsInTurn z own) (sym (size_is (lifted P) P is)) fits) in
    let new : AreNew (lifted P) (brought_each (resolve_each (lifted P) 1 own) ++ operation_ids 2 1 (operations_in other)) = record {
      new = EachNew-append (lifted P) (brought_each (resolve_each (lifted P) 1 own)) (operation_ids 2 1 (operations_in other)) (brought_new (lifted P) own (lifted P) 1 mine) (each_new (lifted P) 2 1 (operations_in other) (λ n h. lifted-new P 2 n (omega arith)));
      differ = each_differ (operations_in other) (one_in other) own (lifted P) 1;
    } in
    let many = length-operation_ids 2 1 (operations_in other) in
    sym (left (lifted P) (resolve_each (lifted P) 1 own) (operation_ids 2 1 (operations_in other)) ok is located many new)
    ∙ right (lifted P) (resolve_each (lifted P) 1 own) (operation_ids 2 1 (operations_in other)) ok is located many new
