-- Which refusal of a read it was.
use Rattle.std.specs.Prelude.{◌≡◌, Result, Err}
use Rattle.value_snap.specs.declared.reader.ReadErr.{ReadErr}
use Rattle.value_snap.specs.declared.reader.ReadErr.TheVariants.{NoEntry, OutOfSheet}

abbrev pub IsNoEntry : {A : Type 0} → Result A ReadErr → Type 0
IsNoEntry result = result ≡ Err NoEntry

abbrev pub IsOutside : {A : Type 0} → Result A ReadErr → Type 0
IsOutside result = result ≡ Err OutOfSheet
