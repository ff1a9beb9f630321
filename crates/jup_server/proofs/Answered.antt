-- Answers to messages, one more.
use Rattle.std.proofs.Common.{◌≡◌, ℕ, List, [], ◌∷◌, ◌++◌, refl, sym, subst, Ok, Err}
use Rattle.std.specs.Prelude.{◌↔◌, Result, IfOk, MatchResult}
use Rattle.ss_base.specs.declared.types.Memory.{Memory}
use Rattle.ss_base.specs.declared.types.Size.{Size}
use Rattle.sheet_ops.specs.declared.operation.Entry.{Entry}
use Rattle.jup_server.specs.declared.list.Sent.{Sent}
use Rattle.jup_server.specs.declared.list.Answer.{Answer}
use Rattle.sheet_ops.specs.Represents.{ServerState, ServerRepresents}
use Rattle.jup_server.specs.declared.list.Answer.TheVariants as answer
use Rattle.jup_server.specs.declared.SubmitErr.{SubmitErr}
use Rattle.jup_server.specs.declared.SubmitErr.TheVariants as fault
use Rattle.jup_server.specs.Servers.{entry_of, IsRefused}
use Rattle.jup_server.proofs.Causes.{free_at}
use Rattle.jup_server.specs.Answers.{AnswersOne, AnswersAll}

pub answers_more : (size : Size) (sites : ℕ) (H : List Entry) (ms : List Sent) (given : List Answer) (L : List Entry) → AnswersAll size sites H ms given L → (m : Sent) (a : Answer) (K : List Entry) → AnswersOne size sites L m a K →
    AnswersAll size sites H (ms ++ m ∷ []) (given ++ a ∷ []) K
answers_more size sites H [] [] L is m a K one = (K, subst (λ (es : List Entry). AnswersOne size sites es m a K) is one, refl)
answers_more size sites H [] (b ∷ given) L r m a K one = absurd r
answers_more size sites H (n ∷ ms) [] L r m a K one = absurd r
answers_more size sites H (n ∷ ms) (b ∷ given) L (M, first, rest) m a K one = (M, first, answers_more size sites M ms given L rest m a K one)

-- ---- one message
module _ (old new : ServerState) (H : List Entry) (m : Sent) where
  abbrev pub IsAnswered : Answer → Type 0
  IsAnswered a = (K : List Entry) × AnswersOne old.size old.sites H m a K × ServerRepresents new K

  pub taken_one : {A : Type 0} (r : Result A SubmitErr) (a : A) → r ≡ Ok a → ((x : SubmitErr) → (x ≡ fault.Memory → ⊥) → ((r ≡ Err x) ↔ IsRefused old.size old.sites H (entry_of m.site.0 m.up) x)) →
      ServerRepresents new (H ++ entry_of m.site.0 m.up ∷ []) → IsAnswered answer.Taken
  taken_one r a ok causes stands = (H ++ entry_of m.site.0 m.up ∷ [], (free_at old.size old.sites H (entry_of m.site.0 m.up) r a ok causes, refl), stands)

  pub refused_one : {A : Type 0} (r : Result A SubmitErr) (cause : SubmitErr) → r ≡ Err cause → ((x : SubmitErr) → (x ≡ fault.Memory → ⊥) → ((r ≡ Err x) ↔ IsRefused old.size old.sites H (entry_of m.site.0 m.up) x)) →
      new ≡ old → ServerRepresents old H → (given : Result Answer Memory) → MatchResult given (λ b. (b ≡ answer.Refused cause) × (cause ≡ fault.Memory → ⊥)) (λ _. cause ≡ fault.Memory) → IfOk given IsAnswered
  refused_one r cause is causes same stands (Ok b) (made, apart) =
      (H, subst (λ (a : Answer). AnswersOne old.size old.sites H m a H) (sym made) ((causes cause apart).0 is, refl), subst (λ (s : ServerState). ServerRepresents s H) (sym same) stands)
  refused_one r cause is causes same stands (Err x) made = tt
