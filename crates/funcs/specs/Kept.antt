-- How the code keeps a text.
use Rattle.std.specs.Prelude.{ℕ, List}
use Rattle.funcs.specs.declared.text_ref.Kept.{Kept}
use Rattle.funcs.specs.declared.text_ref.Kept.TheVariants as kept

abbrev pub kept_bytes : Kept → List ℕ
kept_bytes (kept.Lent t) = t.now
kept_bytes (kept.Made t) = t
