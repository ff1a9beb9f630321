-- no formula means a text of more than 127 bytes
use Rattle.std.proofs.Common.{ℤ, pos, negsuc, ◌+ℤ◌, ◌-ℤ◌, ◌*ℤ◌, Bool, true, false, cond, List, ◌∷◌, ◌++◌, Err}
use Rattle.std.specs.Prelude.{int_div, int_rem}
use Rattle.std.specs.Int.{int_pow}
use Rattle.ss_base.specs.declared.types.Spot.{Spot}
use Rattle.ss_base.specs.declared.types.Span.{Span}
use Rattle.ss_base.specs.declared.types.CalcErr.TheVariants as fault
use Rattle.sheet_value.specs.declared.value.Value.{Value}
use Rattle.sheet_value.specs.declared.value.Value.TheVariants as value
use Rattle.sheet_value.specs.Values.{number_of, text_of, IsWithinLimit}
use Rattle.sheet_value.specs.Order.{comparison}
use Rattle.sheet_value.specs.Environment.{Environment, HasShortTexts}
use Rattle.formula_tree.specs.declared.operators.PreOp.{PreOp}
use Rattle.formula_tree.specs.declared.operators.BinOp.{BinOp}
use Rattle.formula_tree.specs.declared.operators.BinOp.TheVariants.{Pow, Mul, Div, Add, Sub, Join, Eq, Ne, Lt, Le, Gt, Ge}
use Rattle.formula_tree.specs.Tree.{Tree, Trees, num, text, fault, cell, range, pre, bin, call, none, more}
use Rattle.funcs.specs.declared.arg.Arg.{Arg}
use Rattle.funcs.specs.Args.{AreWithinLimit}
use Rattle.funcs.specs.Numbers.{number_value, is_zero, divisor}
use Rattle.funcs.specs.Steps.{answer}
use Rattle.funcs.proofs.Limits.{steps, number-within, truth-within, text_value-within, cell-within, call-within}
use Rattle.cell_eval.specs.Operators.{signed, prefixed, both_numbers, whole_quotient, power_of, holds, compared, combined}
use Rattle.cell_eval.specs.Meaning.{argument, meaning, arguments, or_zero, formula_value}

prefixed-within : (op : PreOp) (v : Value) → IsWithinLimit (answer (prefixed op v))
prefixed-within op v = steps (number_of v) _ (λ n _. number-within (signed op n))

power-within : (m n : ℤ) → IsWithinLimit (answer (power_of m n))
power-within m (pos n) = number-within (int_pow m n)
power-within m (negsuc n) = tt

quotient-within : (m d : ℤ) → IsWithinLimit (answer (whole_quotient m d))
quotient-within m d = by_test (is_zero (int_rem m d))
  where
    by_test : (b : Bool) → IsWithinLimit (answer (cond b (number_value (int_div m d)) (Err fault.BadNum)))
    by_test true = number-within (int_div m d)
    by_test false = tt

compared-within : (op : BinOp) (a b : Value) → IsWithinLimit (answer (compared op a b))
compared-within op a b = steps (comparison a b) _ (λ order _. truth-within (holds op order))

combined-within : (op : BinOp) (a b : Value) → IsWithinLimit (answer (combined op a b))
combined-within Pow a b = steps (both_numbers a b) _ (λ p _. power-within p.0 p.1)
combined-within Mul a b = steps (both_numbers a b) _ (λ p _. number-within (p.0 *ℤ p.1))
combined-within Div a b = steps (both_numbers a b) _ (λ p _. steps (divisor p.1) _ (λ d _. quotient-within p.0 d))
combined-within Add a b = steps (both_numbers a b) _ (λ p _. number-within (p.0 +ℤ p.1))
combined-within Sub a b = steps (both_numbers a b) _ (λ p _. number-within (p.0 -ℤ p.1))
combined-within Join a b = steps (text_of a) _ (λ s _. steps (text_of b) _ (λ t _. text_value-within (s ++ t)))
combined-within Eq a b = compared-within Eq a b
combined-within Ne a b = compared-within Ne a b
combined-within Lt a b = compared-within Lt a b
combined-within Le a b = compared-within Le a b
combined-within Gt a b = compared-within Gt a b
combined-within Ge a b = compared-within Ge a b

argument-within : (t : Tree Spot Span) (v : Value) (args : List Arg) → IsWithinLimit v → AreWithinLimit args → AreWithinLimit (argument t v ∷ args)
argument-within (num n) v args h k = (h, k)
argument-within (text t) v args h k = (h, k)
argument-within (fault e) v args h k = (h, k)
argument-within (cell s) v args h k = k
argument-within (range s) v args h k = k
argument-within (pre op t) v args h k = (h, k)
argument-within (bin op s t) v args h k = (h, k)
argument-within (call f ts) v args h k = (h, k)

module _ (E : Environment) (short : HasShortTexts E) where
  mutual
    meaning-within : (t : Tree Spot Span) → IsWithinLimit (meaning E t)
    meaning-within (num n) = tt
    meaning-within (text t) = text_value-within t
    meaning-within (fault e) = tt
    meaning-within (cell s) = cell-within E short s
    meaning-within (range s) = tt
    meaning-within (pre op t) = prefixed-within op (meaning E t)
    meaning-within (bin op s t) = combined-within op (meaning E s) (meaning E t)
    meaning-within (call f ts) = call-within E short f (arguments E ts) (arguments-within ts)

    arguments-within : (ts : Trees Spot Span) → AreWithinLimit (arguments E ts)
    arguments-within none = tt
    arguments-within (more t ts) = argument-within t (meaning E t) (arguments E ts) (meaning-within t) (arguments-within ts)

  pub formula-within : (t : Tree Spot Span) → IsWithinLimit (formula_value E t)
  formula-within t = zero_or (meaning E t) (meaning-within t)
    where
      zero_or : (v : Value) → IsWithinLimit v → IsWithinLimit (or_zero v)
      zero_or value.Empty h = tt
      zero_or (value.Num n) h = tt
      zero_or (value.Text t) h = h
      zero_or (value.Err e) h = tt
