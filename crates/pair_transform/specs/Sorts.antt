-- Which operations are sorts.
use Rattle.sheet_ops.specs.declared.operation.Intent.{Intent}
use Rattle.sheet_ops.specs.declared.operation.Intent.TheVariants as intent

abbrev pub IsSort : Intent → Type 0
IsSort (intent.Sort slots recs) = Unit {0}
IsSort (intent.Write ps) = ⊥
IsSort (intent.InsRow p) = ⊥
IsSort (intent.InsCol p) = ⊥
IsSort (intent.DelRow p) = ⊥
IsSort (intent.DelCol p) = ⊥
