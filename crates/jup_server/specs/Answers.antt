-- What a server answers to messages, one after another.
use Rattle.std.specs.Prelude.{ℕ, ◌≡◌, ◌++◌, List, [], ◌∷◌}
use Rattle.ss_base.specs.declared.types.Size.{Size}
use Rattle.sheet_ops.specs.declared.operation.Entry.{Entry}
use Rattle.jup_server.specs.declared.list.Sent.{Sent}
use Rattle.jup_server.specs.declared.list.Answer.{Answer}
use Rattle.jup_server.specs.declared.list.Answer.TheVariants as answer
use Rattle.jup_server.specs.Servers.{entry_of, IsRefused, IsAdmitted}

-- the answer of a server of so many sites whose history is H to a message, and its history afterwards
abbrev pub AnswersOne : Size → ℕ → List Entry → Sent → Answer → List Entry → Type 0
AnswersOne size sites H m answer.Taken K = IsAdmitted size sites H (entry_of m.site.0 m.up) × (K ≡ H ++ entry_of m.site.0 m.up ∷ [])
AnswersOne size sites H m (answer.Refused x) K = IsRefused size sites H (entry_of m.site.0 m.up) x × (K ≡ H)

-- one answer to each message
abbrev pub AnswersAll : Size → ℕ → List Entry → List Sent → List Answer → List Entry → Type 0
AnswersAll size sites H [] [] K = K ≡ H
AnswersAll size sites H [] (a ∷ others) K = ⊥
AnswersAll size sites H (m ∷ ms) [] K = ⊥
AnswersAll size sites H (m ∷ ms) (a ∷ others) K = (L : List Entry) × AnswersOne size sites H m a L × AnswersAll size sites L ms others K
