-- How a reader of a formula's tokens comes to its tree: what stands before the operand at hand waits on a stack, the
-- innermost first.
use Rattle.std.specs.Prelude.{ℕ, suc, pos, nat_lt, if◌then◌else◌, List, [], ◌∷◌, Option, Some, None}
use Rattle.ss_base.specs.declared.types.Spot.{Spot}
use Rattle.ss_base.specs.declared.types.Span.{Span}
use Rattle.formula_tree.specs.declared.operators.PreOp.TheVariants.{Plus, Minus}
use Rattle.formula_tree.specs.declared.operators.BinOp.{BinOp}
use Rattle.formula_tree.specs.declared.operators.BinOp.TheVariants.{Add, Sub}
use Rattle.formula_tree.specs.Precedence.{precedence_of_operator}
use Rattle.formula_tree.specs.Tokens.{TokenValue, numeral, text, fault, cell, range, name, sign, opening, closing, semicolon}
use Rattle.formula_tree.specs.Tree as tree
use Rattle.formula_read.specs.declared.stack.Frame.{Frame}
use Rattle.formula_read.specs.declared.stack.Frame.TheVariants.{Sign, Left, Group, Call}
use Rattle.formula_read.specs.declared.stack.Side.{Side}
use Rattle.formula_read.specs.declared.stack.Side.TheVariants.{Head, Wants, Named, Has}
use Rattle.formula_read.specs.FunctionNames.{function_named}
use Rattle.formula_read.specs.Nested.{Nested, leaf, with_sign, between, bracketed, no_arguments, with_argument, called}

-- where the reader stands, and what waits
pub record State : Type 0 where
  pub side : Side
  pub frames : List Frame

abbrev pub start : State
start = record { side = Head; frames = [] }

-- an operand is wanted
abbrev pub waiting : List Frame → State
waiting fs = record { side = Wants; frames = fs }

-- an operand was read
abbrev pub standing : Nested → List Frame → State
standing x fs = record { side = Has x; frames = fs }

-- how tightly an operand has to bind behind what waits
abbrev pub wanted : Frame → ℕ
wanted (Sign op) = 6
wanted (Left x op) = suc (precedence_of_operator op)
wanted Group = 1
wanted (Call fun args) = 1

-- an operand with what waits for it; a bracket is closed behind it
abbrev pub completed : Frame → Nested → Nested
completed (Sign op) x = with_sign op x
completed (Left y op) x = between op y x
completed Group x = bracketed x
completed (Call fun args) x = called fun (with_argument args x)

-- an operand where something that binds so tightly may follow: joined with all that binds it more tightly, and what
-- still waits
abbrev pub reduced : ℕ → Nested → List Frame → Nested × List Frame
reduced p x [] = (x, [])
reduced p x (f ∷ fs) = if nat_lt p (wanted f) then reduced p (completed f x) fs else (x, f ∷ fs)

-- a binary operator behind an operand
abbrev pub operator_behind : BinOp → Nested × List Frame → State
operator_behind op (x, fs) = waiting (Left x op ∷ fs)

-- a closing bracket behind an operand
abbrev pub closed : Nested × List Frame → Option State
closed (x, []) = None
closed (x, f ∷ fs) = Some (standing (completed f x) fs)

-- a semicolon behind an operand
abbrev pub parted : Nested × List Frame → Option State
parted (x, Call fun args ∷ fs) = Some (waiting (Call fun (with_argument args x) ∷ fs))
parted (x, fs) = None

-- a closing bracket where an operand is wanted
abbrev pub ended_call : List Frame → Option State
ended_call (Call fun args ∷ fs) = Some (standing (called fun args) fs)
ended_call fs = None

-- the tree of a token that stands by itself
abbrev pub leaf_of : TokenValue → Option (tree.Tree Spot Span)
leaf_of (numeral n) = Some (tree.num (pos n))
leaf_of (text t) = Some (tree.text t)
leaf_of (fault e) = Some (tree.fault e)
leaf_of (cell c) = Some (tree.cell c)
leaf_of (range r) = Some (tree.range r)
leaf_of t = None

-- one more token where an operand is wanted
abbrev pub begun : List Frame → TokenValue → Option State
begun fs (numeral n) = Some (standing (leaf (tree.num (pos n))) fs)
begun fs (text t) = Some (standing (leaf (tree.text t)) fs)
begun fs (fault e) = Some (standing (leaf (tree.fault e)) fs)
begun fs (cell c) = Some (standing (leaf (tree.cell c)) fs)
begun fs (range r) = Some (standing (leaf (tree.range r)) fs)
begun fs (name n) = Some (record { side = Named; frames = Call (function_named n) no_arguments ∷ fs })
begun fs (sign Add) = Some (waiting (Sign Plus ∷ fs))
begun fs (sign Sub) = Some (waiting (Sign Minus ∷ fs))
begun fs opening = Some (waiting (Group ∷ fs))
begun fs closing = ended_call fs
begun fs t = None

-- one more token behind a function's name
abbrev pub call_opened : List Frame → TokenValue → Option State
call_opened fs opening = Some (waiting fs)
call_opened fs t = None

-- one more token behind an operand
abbrev pub ended : Nested → List Frame → TokenValue → Option State
ended x fs (sign op) = Some (operator_behind op (reduced (precedence_of_operator op) x fs))
ended x fs closing = closed (reduced 1 x fs)
ended x fs semicolon = parted (reduced 1 x fs)
ended x fs t = None

-- one more token
abbrev pub stepped : Side → List Frame → TokenValue → Option State
stepped Head fs t = Some (waiting fs)
stepped Wants fs t = begun fs t
stepped Named fs t = call_opened fs t
stepped (Has x) fs t = ended x fs t

abbrev pub state_after : Option State → List TokenValue → Option State
state_after None ts = None
state_after (Some s) [] = Some s
state_after (Some s) (t ∷ ts) = state_after (stepped s.side s.frames t) ts

-- the operand at the end, where nothing waits
abbrev pub alone : Nested × List Frame → Option Nested
alone (x, []) = Some x
alone (x, f ∷ fs) = None

abbrev pub finished : Side → List Frame → Option Nested
finished (Has x) fs = alone (reduced 1 x fs)
finished p fs = None

abbrev pub finished_at : Option State → Option Nested
finished_at None = None
finished_at (Some s) = finished s.side s.frames
