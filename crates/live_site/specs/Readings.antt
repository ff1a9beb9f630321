-- What is read of the values after a list.
use Rattle.std.specs.Prelude.{◌≡◌, Option, Some, None}
use Rattle.ss_base.specs.declared.types.Span.{Span}
use Rattle.sheet_value.specs.Snapshots.{Snapshot}
use Rattle.value_snap.specs.declared.snap.View.{View}
use Rattle.value_snap.specs.Parts.{IsWithin, view_of_range}

-- the values of a range of the visible sheet, or nothing where the range isn't in it
abbrev pub ReadsOf : Snapshot → Span → Option View → Type 0
ReadsOf s range (Some v) = (v ≡ view_of_range s range) × IsWithin s range
ReadsOf s range None = ¬ IsWithin s range
