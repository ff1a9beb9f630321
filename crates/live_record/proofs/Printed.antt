-- What is printed of clients that have taken all, and of a server.
use Rattle.std.proofs.Common.{◌≡◌, ℕ, zero, suc, ◌+◌, ◌<◌, ◌≤◌, true, cond, List, [], ◌∷◌, ◌++◌, length, take, get_or, All, refl, ap, sym, ◌∙◌, subst, arith, append_assoc}
use Rattle.std.specs.Prelude.{nat_le, reverse}
use Rattle.std.proofs.lemmas.Bool.Decides.{nat_tests}
use Rattle.std.proofs.lemmas.List.{append-nil, length-reverse, take_all, take_more}
use Rattle.ss_base.specs.declared.types.Size.{Size}
use Rattle.sheet_ops.specs.declared.operation.Entry.{Entry}
use Rattle.sheet_ops.specs.declared.operation.Intent.{Intent}
use Rattle.sheet_ops.specs.Identity.{IdSheet}
use Rattle.sheet_ops.specs.Fits.{IsWellFormed}
use Rattle.sheet_ops.specs.Placed.{placed}
use Rattle.sheet_ops.specs.Naming.{resolve, locate}
use Rattle.sheet_ops.specs.History.{own_entries, operations, resolved, view_of, view, sheet_of, IsValidHistory}
use Rattle.sheet_ops.specs.Represents.{pending_of, ClientState, ServerState, ServerRepresents}
use Rattle.sheet_ops.proofs.Beginnings.{sheet_whole, formed_whole}
use Rattle.sheet_ops.proofs.Histories.{view_of-held}
use Rattle.sheet_text.specs.Operations.{IntentWithin}
use Rattle.sheet_text.specs.Shown.{shown, shown_placed}
use Rattle.sheet_text.specs.Texts.{sheet_text, head_text, server_head_text}
use Rattle.sheet_text.proofs.Seen.{shown-placed}
use Rattle.sheet_text.proofs.Within.{entries_within}
use Rattle.live_script.specs.declared.script.SiteScript.{SiteScript}
use Rattle.live_record.specs.Records.{HasTakenAll, log_text, logs_text, replica_text}

-- ---- a client that has taken all
none_pending : (size : Size) (H : List Entry) (site k : ℕ) (G : List Entry) → length G ≤ length (own_entries site (take k H)) → pending_of size H site k G ≡ []
none_pending size H site k [] h = refl
none_pending size H site k (g ∷ G) h =
    let test : nat_le (suc (length G)) (length (own_entries site (take k H))) ≡ true = grind (arith, nat_tests) in
    ap (λ t. cond t [] (pending_of size H site k G ++ locate (view_of size H (resolved size H) site k G) (resolve (view_of size H (resolved size H) site g.seen G) site (suc (operations G)) g.intent) ∷ [])) test

module _ (size : Size) (H : List Entry) (site : ℕ) (c : ClientState) (all : HasTakenAll size H site c) where
  abbrev own : List Entry
  own = own_entries site H

  held : length (reverse own) ≤ length (own_entries site (take (length H) H))
  held =
      let whole : length (own_entries site (take (length H) H)) ≡ length own = ap (λ (es : List Entry). length (own_entries site es)) (take_all (length H) H (omega arith)) in
      let n = length-reverse own in
      omega arith

  sheet_is : c.sheet ≡ placed (sheet_of size H)
  sheet_is =
      all.represents.sheet ∙ ((λ i. placed (view (all.sized i) H (all.number i) (all.taken i) own))
      ∙ ap placed (view_of-held size H (resolved size H) site (length H) (reverse own) held ∙ sheet_whole size H))

  pending_is : c.pending ≡ []
  pending_is =
      all.represents.pending ∙ ((λ i. pending_of (all.sized i) H (all.number i) (all.taken i) (reverse own)) ∙ none_pending size H site (length H) (reverse own) held)

  pub replica_shown : (s : SiteScript) → sheet_text (head_text s.name c.taken (length c.pending) (shown_placed c.sheet)) (shown_placed c.sheet) ≡ replica_text (sheet_of size H) (length H) s
  replica_shown s =
      let seen : shown_placed c.sheet ≡ shown (sheet_of size H) = ap shown_placed sheet_is ∙ sym (shown-placed (sheet_of size H)) in
      λ i. sheet_text (head_text s.name (all.taken i) (length (pending_is i)) (seen i)) (seen i)

-- ---- a server
module _ (s : ServerState) (H : List Entry) (represents : ServerRepresents s H) where
  pub server_shown : sheet_text (server_head_text s.count (shown_placed s.sheet)) (shown_placed s.sheet) ≡ sheet_text (server_head_text (length H) (shown (sheet_of s.size H))) (shown (sheet_of s.size H))
  server_shown =
      let seen : shown_placed s.sheet ≡ shown (sheet_of s.size H) = ap shown_placed represents.sheet ∙ sym (shown-placed (sheet_of s.size H)) in
      λ i. sheet_text (server_head_text (represents.count i) (seen i)) (seen i)

  pub server_formed : IsWellFormed (sheet_of s.size H)
  server_formed = formed_whole s.size s.sites H represents.valid

  pub short_entries : (size : Size) → s.size ≡ size → size.rows ≤ 1000 → size.cols ≤ 64 → s.sites ≤ 8 → All (λ e. IntentWithin 16000 e.intent) H
  short_entries size sized rows cols few = entries_within size s.sites rows cols few H (subst (λ (z : Size). IsValidHistory z s.sites H) sized represents.valid)

-- ---- piece by piece
pub logs_more : (sites : List SiteScript) (logs : List (List ℕ)) (k : ℕ) (s : SiteScript) (log : List ℕ) → k < length sites → k < length logs → s ≡ get_or sites k s → log ≡ get_or logs k log →
    logs_text (take (k + 1) sites) (take (k + 1) logs) ≡ logs_text (take k sites) (take k logs) ++ log_text s.name log
logs_more sites logs k s log h j here there =
    (λ i. logs_text (take_more sites k s h i) (take_more logs k log j i))
    ∙ (pushed (take k sites) (take k logs) (get_or sites k s) (get_or logs k log) (lengths sites logs k h j)
    ∙ (λ i. logs_text (take k sites) (take k logs) ++ log_text (sym here i).name (sym there i)))
  where
    lengths : (xs : List SiteScript) (ys : List (List ℕ)) (n : ℕ) → n < length xs → n < length ys → length (take n xs) ≡ length (take n ys)
    lengths xs ys zero p q = refl
    lengths [] ys (suc n) p q = absurd (omega arith)
    lengths (x ∷ xs) [] (suc n) p q = absurd (omega arith)
    lengths (x ∷ xs) (y ∷ ys) (suc n) p q = ap suc (lengths xs ys n (omega arith) (omega arith))

    pushed : (xs : List SiteScript) (ys : List (List ℕ)) (x : SiteScript) (y : List ℕ) → length xs ≡ length ys → logs_text (xs ++ x ∷ []) (ys ++ y ∷ []) ≡ logs_text xs ys ++ log_text x.name y
    pushed [] [] x y e = append-nil (log_text x.name y)
    pushed [] (z ∷ ys) x y e = absurd (omega arith)
    pushed (z ∷ xs) [] x y e = absurd (omega arith)
    pushed (z ∷ xs) (w ∷ ys) x y e = ap (λ (t : List ℕ). log_text z.name w ++ t) (pushed xs ys x y (omega arith)) ∙ sym (append_assoc (log_text z.name w) (logs_text xs ys) (log_text x.name y))

-- five texts that are appended one after another to the empty one
pub put_together : (first l m n o p a b c d e : List ℕ) → first ≡ [] → l ≡ first ++ a → m ≡ l ++ b → n ≡ m ++ c → o ≡ n ++ d → p ≡ o ++ e → p ≡ a ++ (b ++ (c ++ (d ++ e)))
put_together first l m n o p a b c d e none fa fb fc fd fe =
    fe ∙ (ap (λ (x : List ℕ). x ++ e) (fd ∙ ap (λ (x : List ℕ). x ++ d) (fc ∙ ap (λ (x : List ℕ). x ++ c) (fb ∙ ap (λ (x : List ℕ). x ++ b) (fa ∙ ap (λ (x : List ℕ). x ++ a) none)))) ∙ grouped a b c d e)
  where
    grouped : (a b c d e : List ℕ) → (((a ++ b) ++ c) ++ d) ++ e ≡ a ++ (b ++ (c ++ (d ++ e)))
    grouped a b c d e = simp append_assoc refl
