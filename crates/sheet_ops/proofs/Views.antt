-- Every view is well formed, and the next identifier of a site is new in it.
use Rattle.std.proofs.Common.{◌≡◌, ℕ, zero, suc, ◌+◌, ◌<◌, ◌≤◌, Bool, true, false, cond, List, [], ◌∷◌, ◌++◌, length, take, refl, ap, sym, ◌∙◌, subst, arith, inl, inr}
use Rattle.std.specs.Prelude.{◌⊎◌, ◌&&◌, ◌||◌, nat_eq, nat_le, map, insert, reverse, slice_index_or}
use Rattle.std.proofs.lemmas.Bool.{cases_lt}
use Rattle.std.proofs.lemmas.Bool.Decides.{nat_tests}
use Rattle.std.proofs.lemmas.List.{reverse-append, length-reverse, reverse-reverse, take_all, take-append-le, length-append}
use Rattle.ss_base.specs.declared.types.Size.{Size}
use Rattle.ss_base.specs.Lists.{IsPrefixOf}
use Rattle.sheet_ops.specs.declared.content.Put.{Put}
use Rattle.sheet_ops.specs.declared.operation.Intent.{Intent}
use Rattle.sheet_ops.specs.declared.operation.Intent.TheVariants as intent
use Rattle.sheet_ops.specs.declared.operation.Entry.{Entry}
use Rattle.sheet_ops.specs.LineIds.{LineId, id_eq, opening_id, operation_id}
use Rattle.sheet_ops.specs.Lines.{AxisLine, Axis, new_line, no_line, opening_lines, rec_at, slot_at, before_place, before_at, inserted, deleted, sorted, sorted_moves}
use Rattle.sheet_ops.specs.Identity.{IdContent, IdPut, IdChange, write, ins_row, ins_col, del_row, del_col, sort, IdOp, IdSheet, opened}
use Rattle.sheet_ops.specs.Act.{put_at, puts_at, change, act, acts}
use Rattle.sheet_ops.specs.Naming.{operations_of, resolve_put, resolve}
use Rattle.sheet_ops.specs.Fits.{Avoids, AreApart, IsWellFormedAxis, IsWellFormed, IsNewOn, IsNew}
use Rattle.sheet_ops.specs.History.{own_entries, operations, view_of, resolved_from, resolved, view, SeenRises, EachFollows, IsValidHistory}
use Rattle.marked_lines.proofs.Permuting.{source_below}
use Rattle.marked_lines.specs.Moves.{source}
use Rattle.sheet_ops.proofs.Ids.{same_number, id_eq-same, id_eq-self, true_or_false, opening_well_formed}
use Rattle.sheet_ops.proofs.Counts.{operations-cons, own_count_reversed, own_count_more, own_count_next, own_count_grows, CountsAgree, count_agrees, counts_agree, newest_counts_agree}
use Rattle.sheet_ops.proofs.Places.{avoided, avoids_from}
use Rattle.sheet_ops.proofs.Carried.{apart_inserted, formed_moved, length-moved, slot_moved, rec_moved}
use Rattle.sheet_ops.proofs.Sorts.{sorted_moves-perm, sorted_moves-below}

-- Identifiers that may stand in a sheet are known by a test; every other is new in it.
pub record IsFresh (known : LineId → Bool) (X : IdSheet) : Type 0 where
  pub formed : IsWellFormed X
  pub new : (id : LineId) → known id ≡ false → IsNew X id
  pub opening : (n : ℕ) → known (opening_id n) ≡ true

-- ---- what an operation brings and speaks of
abbrev pub PutsKnown : (LineId → Bool) → List IdPut → Type 0
PutsKnown known [] = Unit {0}
PutsKnown known (p ∷ ps) = (known p.row ≡ true) × (known p.col ≡ true) × PutsKnown known ps

-- what it brings is new to the first test, and all is known by the second
abbrev pub OpKnown : (LineId → Bool) → (LineId → Bool) → IdChange → Type 0
OpKnown old known (write ps) = PutsKnown known ps
OpKnown old known (ins_row b n) = (old n ≡ false) × (known n ≡ true)
OpKnown old known (ins_col b n) = (old n ≡ false) × (known n ≡ true)
OpKnown old known (del_row r) = known r ≡ true
OpKnown old known (del_col r) = known r ≡ true
OpKnown old known (sort S R) = Unit {0}

apart_known : (known : LineId → Bool) (a id : LineId) → known a ≡ true → known id ≡ false → id_eq a id ≡ false
apart_known known a id k u = by_test (true_or_false (id_eq a id))
  where
    by_test : ((id_eq a id ≡ true) ⊎ (id_eq a id ≡ false)) → id_eq a id ≡ false
    by_test (inr e) = e
    by_test (inl e) = absurd (let clash : true ≡ false = sym k ∙ (ap known (id_eq-same a id e) ∙ u) in cc)

avoids_insert : (of : AxisLine → LineId) (ls : List AxisLine) (q : ℕ) (l : AxisLine) (id : LineId) → Avoids of ls id → id_eq (of l) id ≡ false → Avoids of (insert ls q l) id
avoids_insert of ls zero l id v e = (e, v)
avoids_insert of [] (suc q) l id v e = (e, v)
avoids_insert of (m ∷ ls) (suc q) l id v e = (v.0, avoids_insert of ls q l id v.1 e)

-- past the end an insertion is one at the end
insert_past : {A : Type 0} (xs : List A) (q : ℕ) (x : A) → length xs ≤ q → insert xs q x ≡ insert xs (length xs) x
insert_past [] zero x h = refl
insert_past [] (suc q) x h = refl
insert_past (y ∷ xs) zero x h = absurd (omega arith)
insert_past (y ∷ xs) (suc q) x h = ap (λ zs. y ∷ zs) (insert_past xs q x (omega arith))

apart_insert : (of : AxisLine → LineId) (ls : List AxisLine) (q : ℕ) (l : AxisLine) → AreApart of ls → Avoids of ls (of l) → AreApart of (insert ls q l)
apart_insert of ls q l apart avoids = by_side (cases_lt (length ls) q)
  where
    by_side : ((length ls < q) ⊎ (q ≤ length ls)) → AreApart of (insert ls q l)
    by_side (inr h) = apart_inserted of ls q l apart avoids h
    by_side (inl h) = subst (λ (ms : List AxisLine). AreApart of ms) (sym (insert_past ls q l (omega arith))) (apart_inserted of ls (length ls) l apart avoids (omega arith))

-- ---- one axis
module _ (A : Axis) (ok : IsWellFormedAxis A) where
  pub axis_inserted : (q : ℕ) (n : LineId) → IsNewOn A n → IsWellFormedAxis (inserted A q n)
  axis_inserted q n new = record {
    slots = apart_insert (λ l. l.slot) A.lines q (new_line n) ok.slots new.slots;
    recs = apart_insert (λ l. l.rec) A.lines q (new_line n) ok.recs new.recs;
  }

  pub axis_sorted : (S R : List LineId) → IsWellFormedAxis (sorted A S R)
  axis_sorted S R = formed_moved A (sorted_moves A S R) (sorted_moves-perm S R A ok) (sorted_moves-below S R A ok) ok

  pub new_inserted : (q : ℕ) (n id : LineId) → IsNewOn A id → id_eq n id ≡ false → IsNewOn (inserted A q n) id
  new_inserted q n id new e = record { slots = avoids_insert (λ l. l.slot) A.lines q (new_line n) id new.slots e; recs = avoids_insert (λ l. l.rec) A.lines q (new_line n) id new.recs e; live = new.live }

  pub new_deleted : (r id : LineId) → IsNewOn A id → id_eq r id ≡ false → IsNewOn (deleted A r) id
  new_deleted r id new e = record { slots = new.slots; recs = new.recs; live = ap (λ b. b || A.dead id) e ∙ new.live }

  pub new_sorted : (S R : List LineId) (id : LineId) → IsNewOn A id → IsNewOn (sorted A S R) id
  new_sorted S R id new =
      let moves = sorted_moves A S R in
      let below = sorted_moves-below S R A ok in
      record {
        slots = avoids_from (λ l. l.slot) (sorted A S R).lines id (λ p k.
            let k' = rw (length-moved A moves) at k in ap (λ (a : LineId). id_eq a id) (slot_moved A moves p k') ∙ avoided (λ l. l.slot) A.lines id new.slots p k');
        recs = avoids_from (λ l. l.rec) (sorted A S R).lines id (λ p k.
            let k' = rw (length-moved A moves) at k in
            ap (λ (a : LineId). id_eq a id) (rec_moved A moves below p k') ∙ avoided (λ l. l.rec) A.lines id new.recs (source moves p) (source_below moves (length A.lines) p below k'));
        live = new.live;
      }

-- ---- one operation
module _ (old known : LineId → Bool) (grows : (id : LineId) → known id ≡ false → old id ≡ false) (opening : (n : ℕ) → known (opening_id n) ≡ true) (X : IdSheet) (fresh : IsFresh old X) where
  cell_unknown : (cells : LineId → LineId → IdContent) (ps : List IdPut) → PutsKnown known ps → (a b : LineId) → ((known a ≡ false) ⊎ (known b ≡ false)) → puts_at cells ps a b ≡ cells a b
  cell_unknown cells [] k a b u = refl
  cell_unknown cells (p ∷ ps) k a b u = cell_unknown (put_at cells p) ps k.2 a b u ∙ here u
    where
      second : (x y : Bool) → y ≡ false → x && y ≡ false
      second true y e = e
      second false y e = refl

      here : ((known a ≡ false) ⊎ (known b ≡ false)) → put_at cells p a b ≡ cells a b
      here (inl e) = ap (λ t. cond (t && id_eq p.col b) p.content (cells a b)) (apart_known known p.row a k.0 e)
      here (inr e) = ap (λ t. cond t p.content (cells a b)) (second (id_eq p.row a) (id_eq p.col b) (apart_known known p.col b k.1 e))

  pub change_fresh : (N : IdChange) → OpKnown old known N → IsFresh known (change X N)
  change_fresh (write ps) k = record {
    formed = record { rows = fresh.formed.rows; cols = fresh.formed.cols };
    new = λ id u. let n = fresh.new id (grows id u) in record {
      rows = n.rows;
      cols = n.cols;
      in_row = λ col. cell_unknown X.cells ps k id col (inl u) ∙ n.in_row col;
      in_col = λ row. cell_unknown X.cells ps k row id (inr u) ∙ n.in_col row;
    };
    opening = opening;
  }
  change_fresh (ins_row b m) k = record {
    formed = record { rows = axis_inserted X.rows fresh.formed.rows (before_place X.rows b) m (fresh.new m k.0).rows; cols = fresh.formed.cols };
    new = λ id u. let n = fresh.new id (grows id u) in record {
      rows = new_inserted X.rows fresh.formed.rows (before_place X.rows b) m id n.rows (apart_known known m id k.1 u);
      cols = n.cols;
      in_row = n.in_row;
      in_col = n.in_col;
    };
    opening = opening;
  }
  change_fresh (ins_col b m) k = record {
    formed = record { rows = fresh.formed.rows; cols = axis_inserted X.cols fresh.formed.cols (before_place X.cols b) m (fresh.new m k.0).cols };
    new = λ id u. let n = fresh.new id (grows id u) in record {
      rows = n.rows;
      cols = new_inserted X.cols fresh.formed.cols (before_place X.cols b) m id n.cols (apart_known known m id k.1 u);
      in_row = n.in_row;
      in_col = n.in_col;
    };
    opening = opening;
  }
  change_fresh (del_row r) k = record {
    formed = record { rows = record { slots = fresh.formed.rows.slots; recs = fresh.formed.rows.recs }; cols = fresh.formed.cols };
    new = λ id u. let n = fresh.new id (grows id u) in record { rows = new_deleted X.rows fresh.formed.rows r id n.rows (apart_known known r id k u); cols = n.cols; in_row = n.in_row; in_col = n.in_col };
    opening = opening;
  }
  change_fresh (del_col r) k = record {
    formed = record { rows = fresh.formed.rows; cols = record { slots = fresh.formed.cols.slots; recs = fresh.formed.cols.recs } };
    new = λ id u. let n = fresh.new id (grows id u) in record { rows = n.rows; cols = new_deleted X.cols fresh.formed.cols r id n.cols (apart_known known r id k u); in_row = n.in_row; in_col = n.in_col };
    opening = opening;
  }
  change_fresh (sort S R) k = record {
    formed = record { rows = axis_sorted X.rows fresh.formed.rows S R; cols = fresh.formed.cols };
    new = λ id u. let n = fresh.new id (grows id u) in record { rows = new_sorted X.rows fresh.formed.rows S R id n.rows; cols = n.cols; in_row = n.in_row; in_col = n.in_col };
    opening = opening;
  }

-- more known
pub weaker_fresh : (old known : LineId → Bool) → ((id : LineId) → known id ≡ false → old id ≡ false) → (X : IdSheet) → IsFresh old X → IsFresh known X
weaker_fresh old known grows X fresh = record { formed = fresh.formed; new = λ id u. fresh.new id (grows id u); opening = λ n. by_test n (true_or_false (known (opening_id n))) }
  where
    by_test : (n : ℕ) → ((known (opening_id n) ≡ true) ⊎ (known (opening_id n) ≡ false)) → known (opening_id n) ≡ true
    by_test n (inl e) = e
    by_test n (inr e) = absurd (let clash : true ≡ false = sym (fresh.opening n) ∙ grows (opening_id n) e in cc)

-- ---- what an intent means is known
past_end : {A : Type 0} (xs : List A) (p : ℕ) (d : A) → length xs ≤ p → slice_index_or xs p d ≡ d
past_end [] p d h = refl
past_end (x ∷ xs) zero d h = absurd (omega arith)
past_end (x ∷ xs) (suc p) d h = past_end xs p d (omega arith)

module _ (known : LineId → Bool) (X : IdSheet) (fresh : IsFresh known X) where
  row_known : (p : ℕ) → known (rec_at X.rows p) ≡ true
  row_known p = by_test (true_or_false (known (rec_at X.rows p))) (cases_lt p (length X.rows.lines))
    where
      by_test : ((known (rec_at X.rows p) ≡ true) ⊎ (known (rec_at X.rows p) ≡ false)) → ((p < length X.rows.lines) ⊎ (length X.rows.lines ≤ p)) → known (rec_at X.rows p) ≡ true
      by_test (inl e) side = e
      by_test (inr e) (inl k) = absurd (let clash : true ≡ false = sym (id_eq-self (rec_at X.rows p)) ∙ avoided (λ l. l.rec) X.rows.lines (rec_at X.rows p) (fresh.new (rec_at X.rows p) e).rows.recs p k in cc)
      by_test (inr e) (inr k) = ap (λ (l : AxisLine). known l.rec) (past_end X.rows.lines p no_line k) ∙ fresh.opening 0

  col_known : (p : ℕ) → known (rec_at X.cols p) ≡ true
  col_known p = by_test (true_or_false (known (rec_at X.cols p))) (cases_lt p (length X.cols.lines))
    where
      by_test : ((known (rec_at X.cols p) ≡ true) ⊎ (known (rec_at X.cols p) ≡ false)) → ((p < length X.cols.lines) ⊎ (length X.cols.lines ≤ p)) → known (rec_at X.cols p) ≡ true
      by_test (inl e) side = e
      by_test (inr e) (inl k) = absurd (let clash : true ≡ false = sym (id_eq-self (rec_at X.cols p)) ∙ avoided (λ l. l.rec) X.cols.lines (rec_at X.cols p) (fresh.new (rec_at X.cols p) e).cols.recs p k in cc)
      by_test (inr e) (inr k) = ap (λ (l : AxisLine). known l.rec) (past_end X.cols.lines p no_line k) ∙ fresh.opening 0

  puts_known : (ps : List Put) → PutsKnown known (map (resolve_put X) ps)
  puts_known [] = tt
  puts_known (p ∷ ps) = (row_known p.row, col_known p.col, puts_known ps)

-- what a site's operation with a number means on one view, done on another
module _ (old known there : LineId → Bool) (grows : (id : LineId) → known id ≡ false → old id ≡ false) (wider : (id : LineId) → known id ≡ false → there id ≡ false)
    (X : IdSheet) (fresh : IsFresh old X) (V : IdSheet) (seen : IsFresh there V) (site first : ℕ) where
  pub resolved_fresh : (op : Intent) → ((n : ℕ) → first ≤ n → old (operation_id site n) ≡ false) → ((n : ℕ) → first ≤ n → n < first + operations_of op → known (operation_id site n) ≡ true) → IsFresh known (act X (resolve V site first op))
  resolved_fresh op next now = by_kind op next now
    where
      here : IsFresh known V
      here = weaker_fresh there known wider V seen

      by_kind : (op : Intent) → ((n : ℕ) → first ≤ n → old (operation_id site n) ≡ false) → ((n : ℕ) → first ≤ n → n < first + operations_of op → known (operation_id site n) ≡ true) → IsFresh known (act X (resolve V site first op))
      by_kind (intent.Write ps) next now = change_fresh old known grows here.opening X fresh (write (map (resolve_put V) ps)) (puts_known known V here ps)
      by_kind (intent.InsRow p) next now = change_fresh old known grows here.opening X fresh (ins_row (before_at V.rows p) (operation_id site first)) (next first (omega arith), now first (omega arith) (omega arith))
      by_kind (intent.InsCol p) next now = change_fresh old known grows here.opening X fresh (ins_col (before_at V.cols p) (operation_id site first)) (next first (omega arith), now first (omega arith) (omega arith))
      by_kind (intent.DelRow p) next now = change_fresh old known grows here.opening X fresh (del_row (rec_at V.rows p)) (row_known known V here p)
      by_kind (intent.DelCol p) next now = change_fresh old known grows here.opening X fresh (del_col (rec_at V.cols p)) (col_known known V here p)
      by_kind (intent.Sort ss rs) next now = change_fresh old known grows here.opening X fresh (sort (map (slot_at V.rows) ss) (map (rec_at V.rows) rs)) tt

-- ---- what is known
-- known: opening lines, and those that the operations of some entries bring
abbrev pub known_after : List Entry → LineId → Bool
known_after es id = nat_eq id.site 0 || nat_le id.number (operations (own_entries id.site es))

-- and those of a site's own entries
abbrev pub known_to : List Entry → ℕ → List Entry → LineId → Bool
known_to es site G id = known_after es id || (nat_eq id.site site && nat_le id.number (operations G))

pub own_grows : (site : ℕ) (H : List Entry) (a b : ℕ) → a ≤ b → length (own_entries site (take a H)) ≤ length (own_entries site (take b H))
own_grows site H zero b h = omega arith
own_grows site H (suc a) zero h = absurd (omega arith)
own_grows site [] (suc a) (suc b) h = omega arith
own_grows site (e ∷ H) (suc a) (suc b) h = by_test (true_or_false (nat_eq e.site.0 site)) (own_grows site H a b (omega arith))
  where
    by_test : ((nat_eq e.site.0 site ≡ true) ⊎ (nat_eq e.site.0 site ≡ false)) → length (own_entries site (take a H)) ≤ length (own_entries site (take b H)) → length (own_entries site (e ∷ take a H)) ≤ length (own_entries site (e ∷ take b H))
    by_test (inl k) rest = simp k (omega arith)
    by_test (inr k) rest = simp k rest

self_test : (n : ℕ) → nat_eq n n ≡ true
self_test n = grind (arith, nat_tests)

fewer_known : (n A A' : ℕ) → A ≤ A' → nat_le n A ≡ true → nat_le n A' ≡ true
fewer_known n A A' h e = grind (arith, nat_tests)

less_known : (z l l' t m m' : Bool) → (l ≡ true → l' ≡ true) → (m ≡ true → m' ≡ true) → (z || l') || (t && m') ≡ false → (z || l) || (t && m) ≡ false
less_known true l l' t m m' f g h = absurd (cc)
less_known false true l' t m m' f g h = absurd (let e = f refl in let k : (l' || (t && m')) ≡ false = h in let clash : true ≡ false = rw e at k in cc)
less_known false false true t m m' f g h = absurd (cc)
less_known false false false false m m' f g h = refl
less_known false false false true true m' f g h = absurd (let e = g refl in let clash : true ≡ false = sym e ∙ h in cc)
less_known false false false true false m' f g h = refl

known_grows : (es fs : List Entry) (site : ℕ) (G G' : List Entry) → ((s : ℕ) → operations (own_entries s es) ≤ operations (own_entries s fs)) → operations G ≤ operations G' → (id : LineId) → known_to fs site G' id ≡ false → known_to es site G id ≡ false
known_grows es fs site G G' more longer id =
    less_known (nat_eq id.site 0) (nat_le id.number (operations (own_entries id.site es))) (nat_le id.number (operations (own_entries id.site fs))) (nat_eq id.site site) (nat_le id.number (operations G)) (nat_le id.number (operations G'))
    (fewer_known id.number (operations (own_entries id.site es)) (operations (own_entries id.site fs)) (more id.site))
    (fewer_known id.number (operations G) (operations G') longer)

or_first : (a b : Bool) → a || b ≡ false → a ≡ false
or_first true b h = absurd (cc)
or_first false b h = refl

or_second : (a b : Bool) → a || b ≡ false → b ≡ false
or_second true b h = absurd (cc)
or_second false b h = h

after_grows : (z l l' : Bool) → (l ≡ true → l' ≡ true) → z || l' ≡ false → z || l ≡ false
after_grows true l l' f h = absurd (cc)
after_grows false false l' f h = refl
after_grows false true l' f h = absurd (let e = f refl in let clash : true ≡ false = sym e ∙ h in cc)

or_false : (a b : Bool) → a ≡ false → b ≡ false → a || b ≡ false
or_false a b e f = rw (e, f) refl

and_false : (a b : Bool) → b ≡ false → a && b ≡ false
and_false true b e = e
and_false false b e = refl

or_true : (a b : Bool) → b ≡ true → a || b ≡ true
or_true true b e = refl
or_true false b e = e

not_zero : (n : ℕ) → 0 < n → nat_eq n 0 ≡ false
not_zero n h = grind (arith, nat_tests)

too_many : (n A : ℕ) → A < n → nat_le n A ≡ false
too_many n A h = grind (arith, nat_tests)

few_enough : (n A : ℕ) → n ≤ A → nat_le n A ≡ true
few_enough n A h = grind (arith, nat_tests)

pub rises_later : (a b : ℕ) (G : List Entry) → a ≤ b → SeenRises a G → SeenRises b G
rises_later a b [] h r = tt
rises_later a b (g ∷ G) h r = (omega (arith, r.0), r.1)

-- the next identifiers of a site are not known yet
pub next_unknown : (es : List Entry) (site : ℕ) (G : List Entry) → 0 < site → operations (own_entries site es) ≤ operations G → (n : ℕ) → operations G < n → known_to es site G (operation_id site n) ≡ false
next_unknown es site G pos h n later =
    or_false (known_after es (operation_id site n)) _
    (or_false (nat_eq site 0) _ (not_zero site pos) (too_many n (operations (own_entries site es)) (omega arith)))
    (and_false (nat_eq site site) _ (too_many n (operations G) later))

-- nor are the next ones of another site
pub other_unknown : (es : List Entry) (site other : ℕ) (G : List Entry) → 0 < other → nat_eq other site ≡ false → (n : ℕ) → operations (own_entries other es) < n → known_to es site G (operation_id other n) ≡ false
other_unknown es site other G pos apart n h =
    or_false (known_after es (operation_id other n)) _ (or_false (nat_eq other 0) _ (not_zero other pos) (too_many n (operations (own_entries other es)) h)) (ap (λ t. t && nat_le n (operations G)) apart)

-- ---- every view, where every sheet of the history is well formed and knows the operations taken
module _ (size : Size) (H : List Entry) (Rs : List IdOp) (site : ℕ) (pos : 0 < site) (base : (k : ℕ) → k ≤ length H → IsFresh (known_after (take k H)) (acts (opened size) (take k Rs))) where
  at_base : (G : List Entry) (k : ℕ) → k ≤ length H → IsFresh (known_to (take k H) site G) (acts (opened size) (take k Rs))
  at_base G k h = weaker_fresh (known_after (take k H)) (known_to (take k H) site G) (λ id u. or_first (known_after (take k H) id) _ u) (acts (opened size) (take k Rs)) (base k h)

  pub view_of-fresh : (G : List Entry) → CountsAgree site H G → (k : ℕ) → k ≤ length H → SeenRises k G → IsFresh (known_to (take k H) site G) (view_of size H Rs site k G)
  view_of-fresh [] agrees k h r = at_base [] k h
  view_of-fresh (g ∷ G) agrees k h r =
      by_held (nat_le (suc (length G)) (length (own_entries site (take k H)))) refl (view_of-fresh G agrees.1 k h (rises_later g.seen k G r.0 r.1)) (view_of-fresh G agrees.1 g.seen (omega (arith, r.0)) r.1)
    where
      by_held : (b : Bool) → nat_le (suc (length G)) (length (own_entries site (take k H))) ≡ b → IsFresh (known_to (take k H) site G) (view_of size H Rs site k G) → IsFresh (known_to (take g.seen H) site G) (view_of size H Rs site g.seen G) →
          IsFresh (known_to (take k H) site (g ∷ G)) (cond b (acts (opened size) (take k Rs)) (act (view_of size H Rs site k G) (resolve (view_of size H Rs site g.seen G) site (suc (operations G)) g.intent)))
      by_held true e here there = at_base (g ∷ G) k h
      by_held false e here there =
          let held : length (own_entries site (take k H)) ≤ length G = grind (arith, nat_tests) in
          let few = count_agrees site H G agrees.1 k held in
          let sum = operations-cons g G in
          resolved_fresh (known_to (take k H) site G) (known_to (take k H) site (g ∷ G)) (known_to (take g.seen H) site G)
          (known_grows (take k H) (take k H) site G (g ∷ G) (λ s. omega arith) (omega arith))
          (known_grows (take g.seen H) (take k H) site G (g ∷ G) (λ s. own_count_grows s H g.seen k r.0) (omega arith))
          (view_of size H Rs site k G) here (view_of size H Rs site g.seen G) there site (suc (operations G))
          g.intent
          (λ n later. next_unknown (take k H) site G pos few n later)
          (λ n low below. or_true (known_after (take k H) (operation_id site n)) _
          (let s = self_test site in let f = few_enough n (operations (g ∷ G)) (omega arith) in rw (s, f) refl))

-- ---- every sheet of the history
pub acts-append : (X : IdSheet) (Ns Ms : List IdOp) → acts X (Ns ++ Ms) ≡ acts (acts X Ns) Ms
acts-append X [] Ms = refl
acts-append X (N ∷ Ns) Ms = acts-append (act X N) Ns Ms

opening_avoid : (of : AxisLine → LineId) → ((k : ℕ) → of (new_line (opening_id k)) ≡ opening_id k) → (id : LineId) → nat_eq id.site 0 ≡ false → (first count : ℕ) → Avoids of (opening_lines first count) id
opening_avoid of e id h first zero = tt
opening_avoid of e id h first (suc count) = (ap (λ (a : LineId). id_eq a id) (e first) ∙ ap (λ t. t && nat_eq first id.number) (turned_test id.site h), opening_avoid of e id h (suc first) count)
  where
    turned_test : (n : ℕ) → nat_eq n 0 ≡ false → nat_eq 0 n ≡ false
    turned_test n h = grind (arith, nat_tests)

module _ (size : Size) where
  opened_fresh : IsFresh (known_after []) (opened size)
  opened_fresh = record {
    formed = record { rows = opening_well_formed (opened size).rows size.rows refl; cols = opening_well_formed (opened size).cols size.cols refl };
    new = λ id u. let other = or_first (nat_eq id.site 0) _ u in record {
      rows = record { slots = opening_avoid (λ l. l.slot) (λ k. refl) id other 0 size.rows; recs = opening_avoid (λ l. l.rec) (λ k. refl) id other 0 size.rows; live = refl };
      cols = record { slots = opening_avoid (λ l. l.slot) (λ k. refl) id other 0 size.cols; recs = opening_avoid (λ l. l.rec) (λ k. refl) id other 0 size.cols; live = refl };
      in_row = λ col. refl;
      in_col = λ row. refl;
    };
    opening = λ n. refl;
  }

  pub length-resolved_from : (L : List Entry) → length (resolved_from size L) ≡ length L
  length-resolved_from [] = refl
  length-resolved_from (e ∷ L) = length-append (resolved_from size L) _ ∙ (let h = length-resolved_from L in omega arith)

  take_none : {A : Type 0} (xs : List A) → take 0 xs ≡ []
  take_none xs = refl

  pub history_fresh : (sites : ℕ) (L : List Entry) → EachFollows size sites L → (k : ℕ) → k ≤ length L → IsFresh (known_after (take k (reverse L))) (acts (opened size) (take k (resolved_from size L)))
  history_fresh sites [] v zero h = opened_fresh
  history_fresh sites [] v (suc k) h = absurd (omega arith)
  history_fresh sites (e ∷ L) v k h = by_side (cases_lt k (suc (length L))) (history_fresh sites L v.1)
    where
      by_side : ((k < suc (length L)) ⊎ (suc (length L) ≤ k)) → ((j : ℕ) → j ≤ length L → IsFresh (known_after (take j (reverse L))) (acts (opened size) (take j (resolved_from size L)))) →
          IsFresh (known_after (take k (reverse (e ∷ L)))) (acts (opened size) (take k (resolved_from size (e ∷ L))))
      by_side (inl j) before =
          let entries : take k (reverse (e ∷ L)) ≡ take k (reverse L) = ap (λ (es : List Entry). take k es) (reverse-append (e ∷ []) L) ∙ take-append-le k (reverse L) (e ∷ []) (let n = length-reverse L in omega arith) in
          let ops : take k (resolved_from size (e ∷ L)) ≡ take k (resolved_from size L) = take-append-le k (resolved_from size L) _ (let n = length-resolved_from L in omega arith) in
          let here = before k (omega arith) in
          subst (λ (es : List Entry). IsFresh (known_after es) (acts (opened size) (take k (resolved_from size (e ∷ L))))) (sym entries)
          (subst (λ (Rs : List IdOp). IsFresh (known_after (take k (reverse L))) (acts (opened size) Rs)) (sym ops) here)
      by_side (inr j) before =
          let entries : take k (reverse (e ∷ L)) ≡ reverse L ++ e ∷ [] = ap (λ (es : List Entry). take k es) (reverse-append (e ∷ []) L) ∙ take_all k (reverse L ++ e ∷ []) (let n = length-reverse L in let m = length-append (reverse L) (e ∷ []) in omega arith) in
          let ops : take k (resolved_from size (e ∷ L)) ≡ resolved_from size (e ∷ L) = take_all k (resolved_from size (e ∷ L)) (let n = length-resolved_from (e ∷ L) in omega arith) in
          subst (λ (es : List Entry). IsFresh (known_after es) (acts (opened size) (take k (resolved_from size (e ∷ L))))) (sym entries)
          (subst (λ (Rs : List IdOp). IsFresh (known_after (reverse L ++ e ∷ [])) (acts (opened size) Rs)) (sym ops) (last before))
        where
          own : List Entry
          own = own_entries e.site.0 L

          last : ((j : ℕ) → j ≤ length L → IsFresh (known_after (take j (reverse L))) (acts (opened size) (take j (resolved_from size L)))) → IsFresh (known_after (reverse L ++ e ∷ [])) (acts (opened size) (resolved_from size (e ∷ L)))
          last before =
              subst (λ (X : IdSheet). IsFresh (known_after (reverse L ++ e ∷ [])) X) (sym (acts-append (opened size) (resolved_from size L) _))
              (resolved_fresh (known_after (reverse L)) (known_after (reverse L ++ e ∷ [])) (known_to (take e.seen (reverse L)) e.site.0 own)
              (λ id u. after_grows (nat_eq id.site 0) _ _ (fewer_known id.number (operations (own_entries id.site (reverse L))) (operations (own_entries id.site (reverse L ++ e ∷ []))) (own_count_more id.site (reverse L) e)) u)
              wider
              (acts (opened size) (resolved_from size L)) all
              (view_of size (reverse L) (resolved_from size L) e.site.0 e.seen own)
              (view_of-fresh size (reverse L) (resolved_from size L) e.site.0 v.0.from (λ j w. before j (let n = length-reverse L in omega arith)) own (newest_counts_agree e.site.0 L) e.seen (let n = length-reverse L in omega (arith, v.0.seen)) v.0.rises)
              e.site.0 (suc (operations own))
              e.intent
              (λ n later. or_false (nat_eq e.site.0 0) _ (not_zero e.site.0 v.0.from) (too_many n (operations (own_entries e.site.0 (reverse L))) (let c = own_count_reversed e.site.0 L in omega arith)))
              (λ n low below. or_true (nat_eq e.site.0 0) _ (few_enough n (operations (own_entries e.site.0 (reverse L ++ e ∷ []))) (let c = own_count_reversed e.site.0 L in let m = own_count_next (reverse L) e in omega arith))))
            where
              all : IsFresh (known_after (reverse L)) (acts (opened size) (resolved_from size L))
              all =
                  let entries : take (length L) (reverse L) ≡ reverse L = take_all (length L) (reverse L) (let n = length-reverse L in omega arith) in
                  let ops : take (length L) (resolved_from size L) ≡ resolved_from size L = take_all (length L) (resolved_from size L) (let n = length-resolved_from L in omega arith) in
                  subst (λ (es : List Entry). IsFresh (known_after es) (acts (opened size) (resolved_from size L))) entries
                  (subst (λ (Rs : List IdOp). IsFresh (known_after (take (length L) (reverse L))) (acts (opened size) Rs)) ops (before (length L) (omega arith)))

              few_taken : (site : ℕ) → operations (own_entries site (take e.seen (reverse L))) ≤ operations (own_entries site (reverse L ++ e ∷ []))
              few_taken site =
                  let whole : take (length (reverse L)) (reverse L) ≡ reverse L = take_all (length (reverse L)) (reverse L) (omega arith) in
                  let a = own_count_grows site (reverse L) e.seen (length (reverse L)) (let n = length-reverse L in omega (arith, v.0.seen)) in
                  let b : operations (own_entries site (take (length (reverse L)) (reverse L))) ≡ operations (own_entries site (reverse L)) = ap (λ (es : List Entry). operations (own_entries site es)) whole in
                  let c = own_count_more site (reverse L) e in
                  omega arith

              wider : (id : LineId) → known_after (reverse L ++ e ∷ []) id ≡ false → known_to (take e.seen (reverse L)) e.site.0 own id ≡ false
              wider id u =
                  or_false (known_after (take e.seen (reverse L)) id) _
                  (after_grows (nat_eq id.site 0) _ _ (fewer_known id.number (operations (own_entries id.site (take e.seen (reverse L)))) (operations (own_entries id.site (reverse L ++ e ∷ []))) (few_taken id.site)) u)
                  (by_site (true_or_false (nat_eq id.site e.site.0)))
                where
                  by_site : ((nat_eq id.site e.site.0 ≡ true) ⊎ (nat_eq id.site e.site.0 ≡ false)) → nat_eq id.site e.site.0 && nat_le id.number (operations own) ≡ false
                  by_site (inr k) = ap (λ t. t && nat_le id.number (operations own)) k
                  by_site (inl k) =
                      let same : id.site ≡ e.site.0 = same_number id.site e.site.0 k in
                      let many : operations own ≤ operations (own_entries id.site (reverse L ++ e ∷ [])) =
                      (let r : operations (own_entries id.site (reverse L)) ≡ operations own = ap (λ n. operations (own_entries n (reverse L))) same ∙ own_count_reversed e.site.0 L in let m = own_count_more id.site (reverse L) e in omega arith) in
                      and_false (nat_eq id.site e.site.0) _ (by_number (true_or_false (nat_le id.number (operations own))) many)
                    where
                      by_number : ((nat_le id.number (operations own) ≡ true) ⊎ (nat_le id.number (operations own) ≡ false)) → operations own ≤ operations (own_entries id.site (reverse L ++ e ∷ [])) → nat_le id.number (operations own) ≡ false
                      by_number (inr f) many = f
                      by_number (inl t) many = absurd (let seen = fewer_known id.number (operations own) (operations (own_entries id.site (reverse L ++ e ∷ []))) many t in let clash : true ≡ false = sym seen ∙ or_second (nat_eq id.site 0) _ u in cc)

-- ---- what a valid history gives
module _ (size : Size) (sites : ℕ) (H : List Entry) (valid : IsValidHistory size sites H) where
  pub sheets_fresh : (k : ℕ) → k ≤ length H → IsFresh (known_after (take k H)) (acts (opened size) (take k (resolved size H)))
  sheets_fresh k h =
      subst (λ (es : List Entry). IsFresh (known_after (take k es)) (acts (opened size) (take k (resolved size H)))) (reverse-reverse H)
      (history_fresh size sites (reverse H) valid k (let n = length-reverse H in omega arith))

  -- Every view is well formed, and new to it is each line that its entries haven't brought.
  pub views_fresh : (site : ℕ) → 0 < site → (k : ℕ) → k ≤ length H → (G : List Entry) → (IsPrefixOf (own_entries site H) G ⊎ IsPrefixOf G (own_entries site H)) → SeenRises k (reverse G) → IsFresh (known_to (take k H) site (reverse G)) (view size H site k G)
  views_fresh site pos k h G agrees rises = view_of-fresh size H (resolved size H) site pos sheets_fresh (reverse G) (counts_agree site H G agrees) k h rises
