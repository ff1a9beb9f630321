use Rattle.std.proofs.Common.{◌≡◌, List, drop, Some}
use Rattle.std.specs.Prelude.{reverse}
use Rattle.formula_tree.specs.Lexing.{Lexeme}
use Rattle.formula_read.specs.Places.{tokens_of}
use Rattle.formula_read.specs.Stack.{start, state_after, finished_at}
use Rattle.formula_read.specs.Steps.{AreTokens}
use Rattle.formula_read.proofs.tree.operand_of.Given as goal

abbrev pub invariant-loop-token : goal.invariant-loop-token
invariant-loop-token l =
    (ls : List Lexeme) → AreTokens ls l.text l.tokens →
    finished_at (state_after (Some start) (tokens_of ls)) ≡ finished_at (state_after (Some (record { side = l.side; frames = reverse l.frames })) (drop l.token-index (tokens_of ls)))
