-- What a desk keeps from turn to turn.
use Rattle.std.proofs.Common.{◌≡◌, ℕ, zero, suc, refl, take, ◌+◌, ◌≤◌, Bool, true, false, List, [], ◌∷◌, ◌++◌, length, map, drop, ap, sym, ◌∙◌, subst, arith, inl, inr, Option, Some, Ok, Err}
use Rattle.std.specs.Prelude.{◌⊎◌, All, slice_get, slice_index_or, Result, IfOk, OnOk, OnErr}
use Rattle.std.specs.List.{AllZip}
use Rattle.std.proofs.lemmas.List.{append-nil, length-append, length-map}
use Rattle.ss_base.specs.declared.types.Size.{Size}
use Rattle.ss_base.specs.Lists.{IsPrefixOf}
use Rattle.sheet_ops.specs.declared.operation.Entry.{Entry}
use Rattle.sheet_ops.specs.declared.operation.Effect.{Effect}
use Rattle.sheet_ops.specs.History.{sheet_of, IsValidHistory}
use Rattle.sheet_ops.specs.Placed.{placed}
use Rattle.sheet_ops.specs.Represents.{sheet_at}
use Rattle.sheet_ops.proofs.Prefixes.{sheet_front}
use Rattle.sheet_value.specs.declared.batch.Batch.{Batch}
use Rattle.sheet_value.specs.Tables.{Table}
use Rattle.turn_book.specs.Passes.{BookId, PassOf, IsSamePass, items_in}
use Rattle.value_snap.specs.declared.published.Published.{Published}
use Rattle.value_snap.specs.declared.published.Published.TheVariants.{Full}
use Rattle.value_snap.specs.declared.rule.Store.{Store}
use Rattle.value_snap.specs.Lists.{is_ended, replay_of, upto_from, MayBePublished}
use Rattle.value_snap.specs.Stores.{PublisherOf}
use Rattle.value_snap.specs.Views.{store_size}
use Rattle.value_snap.proofs.Fronts.{unended_full, full_begins}
use Rattle.value_snap.proofs.Replays.{replay_length}
use Rattle.hub.specs.Hubs.{opening_of}
use Rattle.hub.specs.Messages.{effects_of}
use Rattle.recalc_loop.specs.declared.evaluation.Evaluation.{Evaluation}
use Rattle.recalc_loop.specs.Changes.{batch_between}
use Rattle.recalc_loop.specs.Evaluations.{IsEvaluated, AreNext}
use Rattle.recalc_loop.specs.Publishing.{batch_of, published, MayHavePublished}
use Rattle.recalc_loop.specs.Standing.{StandsFor, EachStands, IsSnapshotOf}
use Rattle.recalc_loop.specs.Desks.{IsDesk, IsCurrent, KeepsDesk, KeepsCurrent}
use Rattle.recalc_loop.proofs.Evaluating.{as_many}
use Rattle.recalc_loop.proofs.Standings.{each_first, each_later, each_more, first_shown, first_stands, stands_after, shown_after, all_map, all_zip, zip_there, length_zip}

-- a beginning isn't longer
pub not_longer : {A : Type 0} (xs ys : List A) → IsPrefixOf xs ys → length xs ≤ length ys
not_longer xs ys p = omega (arith, length-append xs p.0, ap length p.1)

-- the first so many of a list that goes on
pub front : {A : Type 0} (xs zs : List A) (n : ℕ) → length xs ≡ n → take n (xs ++ zs) ≡ xs
front [] zs zero e = refl
front [] zs (suc n) e = absurd (omega arith)
front (x ∷ xs) zs zero e = absurd (omega arith)
front {A} (x ∷ xs) zs (suc n) e = ap (λ (l : List A). x ∷ l) (front xs zs n (omega arith))

pub none_left : {A : Type 0} (xs : List A) → length xs ≡ 0 → xs ≡ []
none_left [] e = refl
none_left (x ∷ xs) e = absurd (omega arith)

not_spent : {A : Type 0} → true ≡ false → A
not_spent clash = absurd (cc)

-- nothing was published
pub none_published : (b : Batch) (qs : List PublisherOf) → AllZip (MayHavePublished b) qs qs
none_published b [] = tt
none_published b (q ∷ qs) = (record { store = refl; list = inl refl }, none_published b qs)

pub begins_itself : {A : Type 0} (xs : List A) → IsPrefixOf xs xs
begins_itself xs = ([], append-nil xs)

-- ---- facts of an answer
module _ {T E : Type 0} where
  pub at_ok : (P : T → Type 0) (r : Result T E) (x : T) → r ≡ Ok x → IfOk r P → P x
  at_ok P r x is fact = subst (λ (s : Result T E). IfOk s P) is fact

  pub if_ok : (P Q : T → Type 0) → ((x : T) → P x → Q x) → (r : Result T E) → IfOk r P → IfOk r Q
  if_ok P Q step (Ok x) fact = step x fact
  if_ok P Q step (Err e) fact = tt

  pub at_ok_on : {A : Type 0} (r : Result T E) (x : T) → r ≡ Ok x → OnOk r A → A
  at_ok_on {A} r x is fact = subst (λ (s : Result T E). OnOk s A) is fact

  pub on_ok_always : {A : Type 0} (r : Result T E) → A → OnOk r A
  on_ok_always (Ok x) fact = fact
  on_ok_always (Err e) fact = tt

  pub on_err_always : {A : Type 0} (r : Result T E) → A → OnErr r A
  on_err_always (Ok x) fact = tt
  on_err_always (Err e) fact = fact

-- what was done to the publishers as a slice is done to them as a list
module _ (size : Size) (k h H : List Entry) (qs now after rest : List PublisherOf) (n : ℕ) (was : k ≡ h) (were : now ≡ qs) (len : length now ≡ n) where
  pub kept_whole : AllZip (MayHavePublished (batch_of size h H)) now after → AllZip (MayHavePublished (batch_of size k H)) qs (take n (after ++ rest))
  kept_whole zipped =
      let long : length after ≡ n = length_zip (MayHavePublished (batch_of size h H)) now after zipped ∙ len in
      subst (λ (l : List PublisherOf). AllZip (MayHavePublished (batch_of size k H)) qs l) (sym (front after rest n long))
      (subst (λ (l : List PublisherOf). AllZip (MayHavePublished (batch_of size k H)) l after) were
      (subst (λ (j : List Entry). AllZip (MayHavePublished (batch_of size j H)) now after) (sym was) zipped))

  pub one_batch_whole : after ≡ map (published (batch_of size h H)) now → take n (after ++ rest) ≡ map (published (batch_of size k H)) qs
  one_batch_whole is =
      let long : length after ≡ n = ap length is ∙ (length-map now (published (batch_of size h H)) ∙ len) in
      front after rest n long ∙ (is ∙ (λ i. map (published (batch_of size (sym was i) H)) (were i)))

module _ (size : Size) (h H : List Entry) (e : Evaluation) (old : IsEvaluated size h e) where
  -- what is published leads from the one history to the other
  pub batch_leads : (e' : Evaluation) → IsEvaluated size H e' → (b : Batch) → b ≡ batch_between e'.length e.values e'.values → b ≡ batch_of size h H
  batch_leads e' now b is = is ∙ (λ i. batch_between (now.count i) (old.values i) (now.values i))

  -- nothing new
  pub nothing_lacks : (sites : ℕ) → IsPrefixOf h H → AreNext size sites H e [] → h ≡ H
  nothing_lacks sites begins next = let long = as_many size sites H e [] next in let count = old.count in full_begins h H begins (omega (arith, long, count))

module _ (book : BookId) (size : Size) (sites : ℕ) (stores : ℕ → Store) where
  -- the pass is there
  pub desk_there : (o : Option (PassOf Entry)) (p : PassOf Entry) (qs : List PublisherOf) (spent : Bool) → o ≡ Some p → KeepsDesk book size sites stores o qs spent → IsDesk book size sites stores p qs spent
  desk_there o p qs spent is desk = subst (λ (x : Option (PassOf Entry)). KeepsDesk book size sites stores x qs spent) is desk

  pub current_there : (o : Option (PassOf Entry)) (p : PassOf Entry) (e : Evaluation) (qs : List PublisherOf) → o ≡ Some p → KeepsCurrent size o e qs → IsCurrent size (items_in p.seen) e qs
  current_there o p e qs is now = subst (λ (x : Option (PassOf Entry)). KeepsCurrent size x e qs) is now

  -- a hold, in which the history may have gone on; whether the state is spent isn't known yet
  pub desk_found : (p p' : PassOf Entry) (qs : List PublisherOf) (spent : Bool) → IsDesk book size sites stores p qs spent → IsSamePass p p' → IsPrefixOf (items_in p.seen) (items_in p'.seen) → IsDesk book size sites stores p' qs true
  desk_found p p' qs spent desk same more = record {
    book_is = same.book ∙ desk.book_is;
    number = same.number ∙ desk.number;
    opening = same.opening ∙ desk.opening;
    rows = desk.rows;
    cols = desk.cols;
    few = desk.few;
    count = desk.count;
    stores_are = desk.stores_are;
    sized = desk.sized;
    unclosed = desk.unclosed;
    each = λ k q h. each_later size (slice_index_or qs k q).list (items_in p.seen) (items_in p'.seen) more (desk.each k q h);
    unspent = λ clash. not_spent clash;
    whole = λ clash. not_spent clash;
  }

  -- before the first turn
  module _ (p : PassOf Entry) (qs : List PublisherOf) (unseen : p.seen ≡ []) (none : All (λ (q : PublisherOf). q.list ≡ []) qs) where
    pub desk_first : p.book ≡ book → p.number ≡ 0 → p.opening ≡ opening_of size sites → size.rows ≤ 1000 → size.cols ≤ 64 → sites ≤ 8 → length qs ≡ sites →
        ((i : ℕ) (q : PublisherOf) → slice_get qs i ≡ Some q → q.store ≡ stores (i + 1)) → ((i : ℕ) (q : PublisherOf) → slice_get qs i ≡ Some q → store_size q.store ≡ size) → All (λ (q : PublisherOf). q.spent ≡ false) qs →
        IsDesk book size sites stores p qs false
    desk_first book_is number opening rows cols few count stores_are sized unspent = record {
      book_is = book_is;
      number = number;
      opening = opening;
      rows = rows;
      cols = cols;
      few = few;
      count = count;
      stores_are = stores_are;
      sized = sized;
      unclosed = λ k q inside. ap is_ended (none k q inside);
      each = λ k q inside. subst (λ (l : List Published). EachStands size l (items_in p.seen)) (sym (none k q inside)) (each_first size (items_in p.seen));
      unspent = λ same. unspent;
      whole = λ same k q inside. subst (λ (l : List Published). StandsFor size l (items_in p.seen)) (sym (none k q inside)) (subst (λ (H : List Entry). StandsFor size [] H) (sym (ap items_in unseen)) (first_stands size));
    }

    pub current_first : (e : Evaluation) → IsEvaluated size [] e → IsCurrent size (items_in p.seen) e qs
    current_first e now = record {
      evaluated = subst (λ (H : List Entry). IsEvaluated size H e) (sym (ap items_in unseen)) now;
      shown = λ k q inside. subst (λ (l : List Published). IsSnapshotOf e.values (replay_of size l)) (sym (none k q inside)) (subst (λ (T : Table). IsSnapshotOf T (replay_of size [])) (sym now.values) (first_shown size));
    }

  -- a turn with nothing new
  module _ (p : PassOf Entry) (h : List Entry) (qs : List PublisherOf) (e : Evaluation) (begins : IsPrefixOf h (items_in p.seen)) (before : IsCurrent size h e qs) (next : AreNext size sites (items_in p.seen) e []) where
    history_same : h ≡ items_in p.seen
    history_same = nothing_lacks size h (items_in p.seen) e before.evaluated sites begins next

    pub desk_same : IsDesk book size sites stores p qs true → All (λ (q : PublisherOf). q.spent ≡ false) qs → All (λ (q : PublisherOf). StandsFor size q.list h) qs → IsDesk book size sites stores p qs false
    desk_same desk unspent whole = record {
      book_is = desk.book_is;
      number = desk.number;
      opening = desk.opening;
      rows = desk.rows;
      cols = desk.cols;
      few = desk.few;
      count = desk.count;
      stores_are = desk.stores_are;
      sized = desk.sized;
      unclosed = desk.unclosed;
      each = desk.each;
      unspent = λ same. unspent;
      whole = λ same. subst (λ (H : List Entry). All (λ (q : PublisherOf). StandsFor size q.list H) qs) history_same whole;
    }

    pub current_same : IsCurrent size (items_in p.seen) e qs
    current_same = subst (λ (H : List Entry). IsCurrent size H e qs) history_same before

  -- what was found is what the evaluation lacks
  pub are_next : (p p' : PassOf Entry) (e : Evaluation) (qs : List PublisherOf) (effects : List Effect) → IsDesk book size sites stores p qs false → IsCurrent size (items_in p.seen) e qs → IsPrefixOf (items_in p.seen) (items_in p'.seen) →
      IsValidHistory size sites (items_in p'.seen) → effects ≡ drop e.length (effects_of size (items_in p'.seen)) → AreNext size sites (items_in p'.seen) e effects
  are_next p p' e qs effects desk now more valid is =
      let h = items_in p.seen in
      let count = now.evaluated.count in
      record {
        rows = desk.rows;
        cols = desk.cols;
        few = desk.few;
        valid = valid;
        within = let long : length h + length more.0 ≡ length (items_in p'.seen) = sym (length-append h more.0) ∙ ap length more.1 in omega (arith, count, long);
        sheet = ap placed (subst (λ (H : List Entry). sheet_at size H e.length ≡ sheet_of size h) more.1 (ap (sheet_at size (h ++ more.0)) count ∙ sheet_front size h more.0)) ∙ now.evaluated.sheet;
        effects_are = is;
      }

  module _ (p : PassOf Entry) (h : List Entry) (qs : List PublisherOf) (desk : IsDesk book size sites stores p qs true) (e e' : Evaluation) (before : IsCurrent size h e qs) (now : IsEvaluated size (items_in p.seen) e') (b : Batch) (b_is : b ≡ batch_between e'.length e.values e'.values) where
    abbrev H : List Entry
    H = items_in p.seen

    batch_is : b ≡ batch_between (length H) e.values e'.values
    batch_is = b_is ∙ ap (λ (n : ℕ). batch_between n e.values e'.values) now.count

    -- a list that is one batch longer
    shown_more : (list : List Published) → IsSnapshotOf e.values (replay_of size list) → IsSnapshotOf e'.values (replay_of size (list ++ Full b ∷ []))
    shown_more list shown = shown_after size h H e.values e'.values before.evaluated.values now.values b batch_is list shown

    stands_more : (list : List Published) → IsSnapshotOf e.values (replay_of size list) → StandsFor size (list ++ Full b ∷ []) H
    stands_more list shown = stands_after size h H e.values e'.values before.evaluated.values now.values b batch_is list shown

    -- the batch may be published
    pub follows : All (λ (q : PublisherOf). (replay_of size q.list).length ≡ length h) qs → length h ≤ length H → All (λ (q : PublisherOf). MayBePublished q.list (Full b)) qs
    follows lengths more k q inside =
        let q' = slice_index_or qs k q in
        let n : upto_from 0 q'.list ≡ length h = sym (replay_length size q'.list) ∙ lengths k q inside in
        let m : b.upto ≡ length H = ap (λ (c : Batch). c.upto) batch_is in
        (desk.unclosed k q inside, omega (arith, n, m, more))

    -- a refused turn: each publisher has published the batch, or nothing
    pub desk_refused : (qs' : List PublisherOf) → AllZip (MayHavePublished b) qs qs' → IsDesk book size sites stores p qs' true
    desk_refused qs' zipped = record {
      book_is = desk.book_is;
      number = desk.number;
      opening = desk.opening;
      rows = desk.rows;
      cols = desk.cols;
      few = desk.few;
      count = length_zip (MayHavePublished b) qs qs' zipped ∙ desk.count;
      stores_are = λ i q is. let (o, there, may) = zip_there (MayHavePublished b) qs qs' zipped i q is in may.store ∙ desk.stores_are i o there;
      sized = λ i q is. let (o, there, may) = zip_there (MayHavePublished b) qs qs' zipped i q is in ap store_size may.store ∙ desk.sized i o there;
      unclosed = all_zip (λ (q : PublisherOf). is_ended q.list ≡ false) (λ (q : PublisherOf). is_ended q.list ≡ false) (MayHavePublished b) still_open qs qs' zipped desk.unclosed;
      each = all_zip (λ (q : PublisherOf). EachStands size q.list H × IsSnapshotOf e.values (replay_of size q.list)) (λ (q : PublisherOf). EachStands size q.list H) (MayHavePublished b) still_stands qs qs' zipped
          (λ k q inside. (desk.each k q inside, before.shown k q inside));
      unspent = λ clash. not_spent clash;
      whole = λ clash. not_spent clash;
    }
      where
        still_open : (x y : PublisherOf) → MayHavePublished b x y → is_ended x.list ≡ false → is_ended y.list ≡ false
        still_open x y may unclosed = by_list may.list
          where
            by_list : (y.list ≡ x.list) ⊎ (y.list ≡ x.list ++ Full b ∷ []) → is_ended y.list ≡ false
            by_list (inl is) = ap is_ended is ∙ unclosed
            by_list (inr is) = ap is_ended is ∙ unended_full x.list b

        still_stands : (x y : PublisherOf) → MayHavePublished b x y → EachStands size x.list H × IsSnapshotOf e.values (replay_of size x.list) → EachStands size y.list H
        still_stands x y may old = by_list may.list
          where
            by_list : (y.list ≡ x.list) ⊎ (y.list ≡ x.list ++ Full b ∷ []) → EachStands size y.list H
            by_list (inl is) = subst (λ (l : List Published). EachStands size l H) (sym is) old.0
            by_list (inr is) = subst (λ (l : List Published). EachStands size l H) (sym is) (each_more size x.list b H old.0 (stands_more x.list old.1))

    -- a turn in which each publisher has published the batch
    module _ (qs' : List PublisherOf) (zipped : AllZip (MayHavePublished b) qs qs') (is : qs' ≡ map (published b) qs) where
      pub desk_published : All (λ (q : PublisherOf). q.spent ≡ false) qs → IsDesk book size sites stores p qs' false
      desk_published unspent =
          let refused = desk_refused qs' zipped in
          record {
            book_is = refused.book_is;
            number = refused.number;
            opening = refused.opening;
            rows = refused.rows;
            cols = refused.cols;
            few = refused.few;
            count = refused.count;
            stores_are = refused.stores_are;
            sized = refused.sized;
            unclosed = refused.unclosed;
            each = refused.each;
            unspent = λ same. subst (λ (l : List PublisherOf). All (λ (q : PublisherOf). q.spent ≡ false) l) (sym is) (all_map (λ (q : PublisherOf). q.spent ≡ false) (published b) qs unspent);
            whole = λ same. subst (λ (l : List PublisherOf). All (λ (q : PublisherOf). StandsFor size q.list H) l) (sym is)
                (all_map (λ (q : PublisherOf). StandsFor size q.list H) (published b) qs (λ k q inside. stands_more (slice_index_or qs k q).list (before.shown k q inside)));
          }

      pub current_published : IsCurrent size H e' qs'
      current_published = record {
        evaluated = now;
        shown = subst (λ (l : List PublisherOf). All (λ (q : PublisherOf). IsSnapshotOf e'.values (replay_of size q.list)) l) (sym is)
            (all_map (λ (q : PublisherOf). IsSnapshotOf e'.values (replay_of size q.list)) (published b) qs (λ k q inside. shown_more (slice_index_or qs k q).list (before.shown k q inside)));
      }
