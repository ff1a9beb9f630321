-- what stands behind an index of a slice
use Rattle.std.proofs.Common.{◌≡◌, ℕ, ◌-◌, List, length, take, drop, arith}
use Rattle.std.proofs.lemmas.List.{take_all, length-drop}

pub take-drop_rest : {A : Type 0} (xs : List A) (k : ℕ) → take (length xs - k) (drop k xs) ≡ drop k xs
take-drop_rest xs k = take_all (length xs - k) (drop k xs) (simp length-drop (omega arith))
