-- How long a valid history is, and how large its sheets are.
use Rattle.std.proofs.Common.{◌≡◌, ℕ, zero, suc, ◌+◌, ◌*◌, ◌<◌, ◌≤◌, true, false, List, [], ◌∷◌, length, refl, ap, sym, ◌∙◌, arith, inl, inr}
use Rattle.std.specs.Prelude.{◌⊎◌, nat_eq, reverse}
use Rattle.std.proofs.lemmas.Bool.Decides.{nat_tests}
use Rattle.std.proofs.lemmas.List.{length-reverse}
use Rattle.ss_base.specs.declared.types.Size.{Size}
use Rattle.sheet_ops.specs.declared.operation.Entry.{Entry}
use Rattle.sheet_ops.specs.declared.operation.Effect.{Effect}
use Rattle.sheet_ops.specs.declared.operation.Effect.TheVariants as effect
use Rattle.sheet_ops.specs.Identity.{IdSheet}
use Rattle.sheet_ops.specs.declared.operation.Intent.{Intent}
use Rattle.sheet_ops.specs.declared.operation.Intent.TheVariants as intent
use Rattle.sheet_ops.specs.Naming.{operations_of}
use Rattle.sheet_ops.specs.Placed.{size_of}
use Rattle.sheet_ops.specs.Chains.{size_past}
use Rattle.sheet_ops.specs.History.{own_entries, operations, EachFollows, IsValidHistory, sheet_of}
use Rattle.sheet_ops.specs.Represents.{sheet_at, ids_at}
use Rattle.sheet_ops.specs.Published.{effect_at}
use Rattle.sheet_ops.proofs.Ids.{true_or_false, same_number, length-opening_lines}
use Rattle.sheet_ops.proofs.Chains.{size_of-step}
use Rattle.sheet_ops.proofs.Counts.{operations-cons}
use Rattle.sheet_ops.proofs.Names.{first_new}
use Rattle.sheet_ops.proofs.Convergence.{one_in, new_for}
use Rattle.sheet_ops.specs.LineIds.{LineId}
use Rattle.sheet_ops.specs.Fits.{IsWellFormed, EachNew, IsNewFor}
use Rattle.sheet_ops.specs.Naming.{operations_in}
use Rattle.sheet_ops.proofs.Published.{published_leads}
use Rattle.sheet_ops.proofs.Prefixes.{sheet_front}
use Rattle.std.proofs.lemmas.List.{append-nil}

-- the entries of the sites from 1 to n
abbrev among : ℕ → List Entry → ℕ
among zero es = 0
among (suc n) es = among n es + length (own_entries (suc n) es)

own_more : (site : ℕ) (e : Entry) (es : List Entry) → length (own_entries site es) ≤ length (own_entries site (e ∷ es))
own_more site e es = by_test (true_or_false (nat_eq e.site.0 site))
  where
    by_test : ((nat_eq e.site.0 site ≡ true) ⊎ (nat_eq e.site.0 site ≡ false)) → length (own_entries site es) ≤ length (own_entries site (e ∷ es))
    by_test (inl k) = simp k (omega arith)
    by_test (inr k) = simp k (omega arith)

own_one : (site : ℕ) (e : Entry) (es : List Entry) → nat_eq e.site.0 site ≡ true → length (own_entries site (e ∷ es)) ≡ suc (length (own_entries site es))
own_one site e es k = simp k refl

among_more : (n : ℕ) (e : Entry) (es : List Entry) → among n es ≤ among n (e ∷ es)
among_more zero e es = omega arith
among_more (suc n) e es = let a = among_more n e es in let b = own_more (suc n) e es in omega (arith, a, b)

among_one : (n : ℕ) (e : Entry) (es : List Entry) → 0 < e.site.0 → e.site.0 ≤ n → suc (among n es) ≤ among n (e ∷ es)
among_one zero e es h k = absurd (omega arith)
among_one (suc n) e es h k = by_test (λ apart. among_one n e es h apart) (true_or_false (nat_eq e.site.0 (suc n)))
  where
    by_test : (e.site.0 ≤ n → suc (among n es) ≤ among n (e ∷ es)) → ((nat_eq e.site.0 (suc n) ≡ true) ⊎ (nat_eq e.site.0 (suc n) ≡ false)) → suc (among (suc n) es) ≤ among (suc n) (e ∷ es)
    by_test before (inl t) = let a = among_more n e es in let b = own_one (suc n) e es t in omega (arith, a, b)
    by_test before (inr t) =
        let apart : e.site.0 ≤ n = not_last e.site.0 n k t in
        let a = before apart in let b = own_more (suc n) e es in omega (arith, a, b)
      where
        not_last : (m n : ℕ) → m ≤ suc n → nat_eq m (suc n) ≡ false → m ≤ n
        not_last m n h t = grind (arith, nat_tests)

-- each entry counts for an operation at least
pub some_operation : (c : Intent) → 1 ≤ operations_of c
some_operation (intent.Write ps) = omega arith
some_operation (intent.InsRow p) = omega arith
some_operation (intent.InsCol p) = omega arith
some_operation (intent.DelRow p) = omega arith
some_operation (intent.DelCol p) = omega arith
some_operation (intent.Sort ss rs) = omega arith

-- and for no more
pub one_of : (c : Intent) → operations_of c ≡ 1
one_of (intent.Write ps) = refl
one_of (intent.InsRow p) = refl
one_of (intent.InsCol p) = refl
one_of (intent.DelRow p) = refl
one_of (intent.DelCol p) = refl
one_of (intent.Sort ss rs) = refl

-- as many new identifiers as an effect has operations are new for it
pub each_new_for : (X : IdSheet) (ids : List LineId) → IsWellFormed X → EachNew X ids → (e : Effect) → length ids ≡ operations_in e → IsNewFor e X ids
each_new_for X ids ok new e many = new_for X ids ok (first_new X ids (many ∙ one_in e) new) e

-- two effects count for as many
pub as_many_each : (e d : Effect) → operations_in e ≡ operations_in d
as_many_each e d = one_in e ∙ sym (one_in d)

pub length-operations : (es : List Entry) → length es ≤ operations es
length-operations [] = omega arith
length-operations (e ∷ es) = let a = length-operations es in let b = some_operation e.intent in let c = operations-cons e es in omega (arith, a, b, c)

module _ (size : Size) (sites : ℕ) where
  all_among : (L : List Entry) → EachFollows size sites L → length L ≤ among sites L
  all_among [] v = omega arith
  all_among (e ∷ L) v = let a = all_among L v.1 in let b = among_one sites e L v.0.from v.0.to in omega (arith, a, b)

  own_few : (site : ℕ) (L : List Entry) → EachFollows size sites L → operations (own_entries site L) ≤ 1000
  own_few site [] v = omega arith
  own_few site (e ∷ L) v = by_test (true_or_false (nat_eq e.site.0 site)) (own_few site L v.1)
    where
      own_here : nat_eq e.site.0 site ≡ true → operations (own_entries site (e ∷ L)) ≡ operations (e ∷ own_entries site L)
      own_here k = simp k refl

      by_test : ((nat_eq e.site.0 site ≡ true) ⊎ (nat_eq e.site.0 site ≡ false)) → operations (own_entries site L) ≤ 1000 → operations (own_entries site (e ∷ L)) ≤ 1000
      by_test (inl t) before =
          let a = own_here t in
          let d = operations-cons e (own_entries site L) in
          let b : operations (own_entries e.site.0 L) ≡ operations (own_entries site L) = ap (λ n. operations (own_entries n L)) (same_number e.site.0 site t) in
          let c = v.0.few in omega (arith, a, b, c, d)
      by_test (inr t) before = simp t before

  few_among : (n : ℕ) (L : List Entry) → EachFollows size sites L → among n L ≤ n * 1000
  few_among zero L v = omega arith
  few_among (suc n) L v = let a = few_among n L v in let b = own_few (suc n) L v in let c = length-operations (own_entries (suc n) L) in omega (arith, a, b, c)

  -- each site has at most 1,000 entries
  pub valid_few : (H : List Entry) → IsValidHistory size sites H → length H ≤ sites * 1000
  valid_few H v = let a = all_among (reverse H) v in let b = few_among sites (reverse H) v in let n = length-reverse H in omega (arith, a, b, n)

  grows_one : (s : Size) (e : Effect) → ((size_past s e).rows ≤ s.rows + 1) × ((size_past s e).cols ≤ s.cols + 1)
  grows_one s (effect.Write es) = (omega arith, omega arith)
  grows_one s (effect.InsRow q) = (omega arith, omega arith)
  grows_one s (effect.InsCol q) = (omega arith, omega arith)
  grows_one s (effect.DelRow q) = (omega arith, omega arith)
  grows_one s (effect.DelCol q) = (omega arith, omega arith)
  grows_one s (effect.Move moves) = (omega arith, omega arith)

  -- an entry brings one row or column at most
  pub small_at : (H : List Entry) → IsValidHistory size sites H → (k : ℕ) → k ≤ length H → ((size_of (sheet_at size H k)).rows ≤ size.rows + k) × ((size_of (sheet_at size H k)).cols ≤ size.cols + k)
  small_at H v zero h = let r = length-opening_lines 0 size.rows in let c = length-opening_lines 0 size.cols in (omega (arith, r), omega (arith, c))
  small_at H v (suc k) h =
      let before = small_at H v k (omega arith) in
      let lead = published_leads size sites H v k (omega arith) in
      let next : size_of (sheet_at size H (suc k)) ≡ size_past (size_of (sheet_at size H k)) (effect_at size H k) = ap size_of (sym lead.same) ∙ size_of-step (sheet_at size H k) (effect_at size H k) (ids_at H k) lead.fits in
      let g = grows_one (size_of (sheet_at size H k)) (effect_at size H k) in
      (omega (arith, before.0, g.0, ap (λ (z : Size). z.rows) next), omega (arith, before.1, g.1, ap (λ (z : Size). z.cols) next))

  pub sheet_small : (H : List Entry) → IsValidHistory size sites H → ((size_of (sheet_of size H)).rows ≤ size.rows + length H) × ((size_of (sheet_of size H)).cols ≤ size.cols + length H)
  sheet_small H v =
      let same : sheet_at size H (length H) ≡ sheet_of size H = ap (λ (es : List Entry). sheet_at size es (length H)) (sym (append-nil H)) ∙ sheet_front size H [] in
      let s = small_at H v (length H) (omega arith) in
      (omega (arith, s.0, ap (λ (X : IdSheet). (size_of X).rows) same), omega (arith, s.1, ap (λ (X : IdSheet). (size_of X).cols) same))
