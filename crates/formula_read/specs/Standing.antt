-- The reader's place, as the code keeps it.
use Rattle.std.specs.Prelude.{Bool, true, false, List, ◌∷◌}
use Rattle.formula_read.specs.declared.brackets.Bracket.{Bracket}
use Rattle.formula_read.specs.declared.cursor.Stage.{Stage}
use Rattle.formula_read.specs.declared.cursor.Stage.TheVariants as stage
use Rattle.formula_read.specs.Places.{Place, head, wants, has, named, begins}

abbrev pub place_at_stage : Stage → List Bracket → Place
place_at_stage stage.Head ds = head
place_at_stage stage.Wants ds = wants ds
place_at_stage stage.Has ds = has ds
place_at_stage stage.Named ds = named ds
place_at_stage stage.Begins ds = begins ds

-- no bracket is open before the `=`
abbrev pub is_sound : Stage → List Bracket → Bool
is_sound stage.Head (d ∷ ds) = false
is_sound s ds = true
