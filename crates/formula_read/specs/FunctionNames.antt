-- functions by their names
use Rattle.std.specs.Prelude.{ℕ, List, Option, Some, None}
use Rattle.std.specs.List.{find}
use Rattle.std.specs.Str.{bytes_eq}
use Rattle.formula_tree.specs.declared.functions.Fun.{Fun}
use Rattle.formula_tree.specs.declared.functions.Fun.TheVariants.{Unknown}
use Rattle.formula_tree.specs.Names.{name_of, known_functions}

abbrev pub found_or_unknown : List ℕ → Option Fun → Fun
found_or_unknown name (Some fun) = fun
found_or_unknown name None = Unknown name

-- the function of a name in upper case
unfoldable pub function_named : List ℕ → Fun
function_named name = found_or_unknown name (find (λ fun. bytes_eq (name_of fun) name) known_functions)
