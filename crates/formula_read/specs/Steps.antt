-- What the steps of the reader of trees give: what the stack says, unless a nesting gets above 64 or memory is wanting.
use Rattle.std.specs.Prelude.{ℕ, ◌≡◌, ◌<◌, max, List, [], ◌∷◌, reverse, map, Option, Some, None, Result, Ok, Err}
use Rattle.formula_tree.specs.declared.expression.Expr.{Expr}
use Rattle.formula_tree.specs.Erase.{tree_of}
use Rattle.formula_tree.specs.Tokens.{TokenValue, Spells}
use Rattle.formula_tree.specs.Tree.{Tree}
use Rattle.formula_tree.specs.Lexing.{Lexeme, Lexes}
use Rattle.ss_base.specs.declared.types.Spot.{Spot}
use Rattle.ss_base.specs.declared.types.Span.{Span}
use Rattle.formula_read.specs.declared.kinds.TokenKind.{TokenKind}
use Rattle.formula_read.specs.declared.kinds.Token.{Token}
use Rattle.formula_read.specs.declared.tree_err.TreeErr.{TreeErr}
use Rattle.formula_read.specs.declared.tree_err.TreeErr.TheVariants.{Outside, Deep, Memory}
use Rattle.formula_read.specs.declared.stack.Frame.{Frame}
use Rattle.formula_read.specs.declared.stack.Frame.TheVariants.{Sign, Left, Group, Call}
use Rattle.formula_read.specs.declared.stack.Side.{Side}
use Rattle.formula_read.specs.declared.stack.Side.TheVariants.{Has}
use Rattle.formula_read.specs.Read.{token_kind, placed_token}
use Rattle.formula_read.specs.Nested.{Nested}
use Rattle.formula_read.specs.Stack.{State, reduced}

-- the token has this kind, and the bytes spell it
abbrev pub IsToken : TokenValue → TokenKind → List ℕ → Type 0
IsToken t k bs = (token_kind t ≡ k) × Spells bs t

-- some token does
abbrev pub IsSpelled : TokenKind → List ℕ → Type 0
IsSpelled k bs = (t : TokenValue) × IsToken t k bs

-- the tokens of the text are those, by their places and kinds
abbrev pub AreTokens : List Lexeme → List ℕ → List Token → Type 0
AreTokens ls text ts = Lexes 0 text ls × (ts ≡ map placed_token ls)

-- the greatest nesting of what was read
abbrev pub frame_nesting : Frame → ℕ
frame_nesting (Sign op) = 0
frame_nesting (Left x op) = x.nesting
frame_nesting Group = 0
frame_nesting (Call fun args) = args.nesting

abbrev pub frames_nesting : List Frame → ℕ
frames_nesting [] = 0
frames_nesting (f ∷ fs) = max (frame_nesting f) (frames_nesting fs)

abbrev pub side_nesting : Side → ℕ
side_nesting (Has x) = x.nesting
side_nesting p = 0

abbrev pub state_nesting : State → ℕ
state_nesting s = max (side_nesting s.side) (frames_nesting s.frames)

-- the tree of a token, if it stands by itself
abbrev pub MakesLeaf : Result Expr TreeErr → Option (Tree Spot Span) → Type 0
MakesLeaf (Ok e) (Some t) = tree_of e ≡ t
MakesLeaf (Ok e) None = ⊥
MakesLeaf (Err Deep) o = ⊥
MakesLeaf (Err Memory) o = Unit {0}
MakesLeaf (Err Outside) o = o ≡ None

-- nothing that waits is joined with an operand that something which binds so tightly follows
abbrev pub IsReduced : ℕ → List Frame → Type 0
IsReduced p fs = (x : Nested) → reduced p x fs ≡ (x, fs)

-- an operand, and what still waits for it, the innermost last
abbrev pub Reduces : Result Nested TreeErr → List Frame → Nested × List Frame → Type 0
Reduces (Ok y) gs s = (y ≡ s.0) × (reverse gs ≡ s.1)
Reduces (Err Deep) gs s = 64 < s.0.nesting
Reduces (Err Memory) gs s = Unit {0}
Reduces (Err Outside) gs s = ⊥

-- where the reader stands, and what waits, the innermost last
abbrev pub IsStepOutcome : Result Side TreeErr → List Frame → Option State → Type 0
IsStepOutcome (Ok p) fs (Some s) = s ≡ record { side = p; frames = reverse fs }
IsStepOutcome (Ok p) fs None = ⊥
IsStepOutcome (Err Deep) fs (Some s) = 64 < state_nesting s
IsStepOutcome (Err Deep) fs None = Unit {0}
IsStepOutcome (Err Memory) fs o = Unit {0}
IsStepOutcome (Err Outside) fs o = o ≡ None

-- the operand of a whole text
abbrev pub Answers : Result Nested TreeErr → Option Nested → Type 0
Answers (Ok y) (Some x) = y ≡ x
Answers (Ok y) None = ⊥
Answers (Err Deep) (Some x) = 64 < x.nesting
Answers (Err Deep) None = Unit {0}
Answers (Err Memory) o = Unit {0}
Answers (Err Outside) o = o ≡ None
