-- What a formula means, by the nodes of its tree.
use Rattle.std.specs.Prelude.{pos, List, [], ◌∷◌}
use Rattle.ss_base.specs.declared.types.Spot.{Spot}
use Rattle.ss_base.specs.declared.types.Span.{Span}
use Rattle.sheet_value.specs.declared.value.Value.{Value}
use Rattle.sheet_value.specs.declared.value.Value.TheVariants as value
use Rattle.sheet_value.specs.Values.{text_value}
use Rattle.sheet_value.specs.Environment.{Environment}
use Rattle.formula_tree.specs.Tree.{Tree, Trees, num, text, fault, cell, range, pre, bin, call, none, more}
use Rattle.funcs.specs.declared.arg.Arg.{Arg}
use Rattle.funcs.specs.declared.arg.Arg.TheVariants as arg
use Rattle.funcs.specs.Args.{value_of_argument}
use Rattle.funcs.specs.Calls.{call_of}
use Rattle.funcs.specs.Steps.{answer}
use Rattle.cell_eval.specs.Operators.{prefixed, combined}

-- what a function is given for a tree that means a value: a reference itself, and else the value
abbrev pub argument : Tree Spot Span → Value → Arg
argument (cell s) v = arg.At s
argument (range s) v = arg.Over s
argument t v = arg.One v

abbrev mutual
  pub meaning : Environment → Tree Spot Span → Value
  meaning E (num n) = value.Num n
  meaning E (text t) = text_value t
  meaning E (fault e) = value.Err e
  meaning E (cell s) = value_of_argument E (arg.At s)
  meaning E (range s) = value_of_argument E (arg.Over s)
  meaning E (pre op t) = answer (prefixed op (meaning E t))
  meaning E (bin op s t) = answer (combined op (meaning E s) (meaning E t))
  meaning E (call f ts) = answer (call_of f E (arguments E ts))

  pub arguments : Environment → Trees Spot Span → List Arg
  arguments E none = []
  arguments E (more t ts) = argument t (meaning E t) ∷ arguments E ts

-- an empty value counts as 0
abbrev pub or_zero : Value → Value
or_zero value.Empty = value.Num (pos 0)
or_zero v = v

-- the value of a cell with this formula
abbrev pub formula_value : Environment → Tree Spot Span → Value
formula_value E t = or_zero (meaning E t)
