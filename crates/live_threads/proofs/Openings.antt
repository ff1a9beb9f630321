-- Sessions and their stores, one after another.
use Rattle.std.proofs.Common.{◌≡◌, ℕ, suc, ◌+◌, ◌<◌, ◌≤◌, List, [], ◌∷◌, ◌++◌, length, map, drop, get_or, refl, ap, sym, ◌∙◌, subst, arith, Some, None, max}
use Rattle.std.specs.Prelude.{slice_get, All}
use Rattle.std.specs.List.{range_with_len}
use Rattle.std.proofs.Math.ListN.{get_or-append}
use Rattle.std.proofs.Math.Seq.{get_or-append_seam}
use Rattle.std.proofs.lemmas.Option.{slice_get_within, get_or_from_slice_get}
use Rattle.ss_base.specs.declared.types.Size.{Size}
use Rattle.turn_book.specs.Passes.{BookOf, PassOf, new_pass}
use Rattle.value_snap.specs.declared.rule.Store.{Store}
use Rattle.value_snap.specs.Stores.{PublisherOf}
use Rattle.live_session.specs.Sessions.{SessionOf}
use Rattle.live_threads.specs.Threads.{IsFresh, no_publisher, stores_of}
use Rattle.live_threads.proofs.Lists.{each_more, next_there, numbered_there}

-- the stores that are there stay, and the next one is the last
pub store_kept : (qs : List PublisherOf) (q : PublisherOf) (k : ℕ) → k < length qs → stores_of (qs ++ q ∷ []) (suc k) ≡ stores_of qs (suc k)
store_kept qs q k within = ap (λ (p : PublisherOf). p.store) (get_or-append qs (q ∷ []) no_publisher k within)

pub store_last : (qs : List PublisherOf) (q : PublisherOf) (n : ℕ) → length qs ≡ n → stores_of (qs ++ q ∷ []) (suc n) ≡ q.store
store_last qs q n is = ap (λ (m : ℕ). stores_of (qs ++ q ∷ []) (suc m)) (sym is) ∙ ap (λ (p : PublisherOf). p.store) (get_or-append_seam qs q [] no_publisher)

-- the store of a publisher that is there
pub store_there : (qs : List PublisherOf) (k : ℕ) (q : PublisherOf) → slice_get qs k ≡ Some q → q.store ≡ stores_of qs (suc k)
store_there qs k q at = ap (λ (p : PublisherOf). p.store) (sym (get_or_from_slice_get qs k q no_publisher at))

-- one more session, over one more store
pub fresh_more : (size : Size) (book : BookOf) (qs : List PublisherOf) (q : PublisherOf) (ss : List SessionOf) (s : SessionOf) → length qs ≡ length ss
    → ((k : ℕ) (t : SessionOf) → slice_get ss k ≡ Some t → IsFresh size book (suc k) (stores_of qs (suc k)) t)
    → IsFresh size book (suc (length ss)) q.store s
    → (k : ℕ) (t : SessionOf) → slice_get (ss ++ s ∷ []) k ≡ Some t → IsFresh size book (suc k) (stores_of (qs ++ q ∷ []) (suc k)) t
fresh_more size book qs q ss s many each last =
    each_more (λ k t. IsFresh size book (suc k) (stores_of (qs ++ q ∷ []) (suc k)) t) ss s
    (λ k t at.
    let within : k < length qs = let h = slice_get_within ss k t at in omega (arith, h, many) in
    subst (λ (store : Store). IsFresh size book (suc k) store t) (sym (store_kept qs q k within)) (each k t at))
    (subst (λ (store : Store). IsFresh size book (suc (length ss)) store s) (sym (store_last qs q (length ss) many)) last)

-- the pass that comes next has the next number
pub pass_next : {I : Type 0} (book : BookOf) (n k : ℕ) (items : List (PassOf I)) (p : PassOf I) (left rest : List (PassOf I)) → items ≡ map (new_pass book) (range_with_len 1 n) → left ≡ drop k items → left ≡ p ∷ rest → p ≡ new_pass book (k + 1)
pass_next {I} book n k items p left rest are is next =
    numbered_there (new_pass book) n k p (ap (λ (l : List (PassOf I)). slice_get l k) (sym are) ∙ next_there items k p rest (sym is ∙ next)) ∙ ap (new_pass book) (let one : suc k ≡ k + 1 = omega arith in one)
