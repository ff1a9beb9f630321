-- The arguments of a call.
use Rattle.std.specs.Prelude.{ℕ, List, map}
use Rattle.std.specs.List.{join_with_byte}
use Rattle.formula_tree.specs.declared.expression.Expr.{Expr}
use Rattle.formula_tree.specs.Erase.{tree_of}
use Rattle.formula_tree.specs.Printed.{tree_text}

-- the texts of several expressions, with a semicolon between each two
abbrev pub parted_texts : List Expr → List ℕ
parted_texts es = join_with_byte 59 (map (λ e. tree_text (tree_of e)) es)
