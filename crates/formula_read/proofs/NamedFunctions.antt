-- functions by their names
use Rattle.std.proofs.Common.{◌≡◌, ℕ, List, Option, Some, None, refl, ap, sym, ◌∙◌}
use Rattle.std.specs.Prelude.{find}
use Rattle.formula_tree.specs.declared.functions.Fun.{Fun}
use Rattle.formula_tree.specs.declared.functions.Fun.TheVariants as fun
use Rattle.formula_tree.specs.Names.{name_of, known_functions}
use Rattle.formula_tree.specs.WellFormed.{IsFun}
use Rattle.formula_tree.proofs.FunctionNames.{has_name, is_first, known_found}
use Rattle.formula_read.specs.FunctionNames.{found_or_unknown, function_named}

none_named : (name : List ℕ) → IsFun (fun.Unknown name) → find (has_name name) known_functions ≡ None
none_named name h = by_first (find (has_name name) known_functions) refl
  where
    by_first : (o : Option Fun) → find (has_name name) known_functions ≡ o → o ≡ None
    by_first None e = refl
    by_first (Some f) e = let (known, same) = known_found name f (sym e) in absurd (h.2 f known same)

pub function_named-name_of : (f : Fun) → IsFun f → function_named (name_of f) ≡ f
unfolding function_named
function_named-name_of (fun.Unknown name) h = ap (found_or_unknown name) (none_named name h)
function_named-name_of f h = ap (found_or_unknown (name_of f)) (is_first f refl)

-- a proper function is the one of its name
pub function_of_name : (f : Fun) (name : List ℕ) → IsFun f → name_of f ≡ name → f ≡ function_named name
function_of_name f name h e = sym (function_named-name_of f h) ∙ ap function_named e
