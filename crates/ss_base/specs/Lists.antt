-- lists and their beginnings
use Rattle.std.specs.Prelude.{◌≡◌, List, ◌++◌}

-- one list is a beginning of another
abbrev pub IsPrefixOf : {A : Type 0} → List A → List A → Type 0
IsPrefixOf {A} xs ys = (rest : List A) × (xs ++ rest ≡ ys)
