-- What is left of a number by the floor of its quotient by a negative one.
use Rattle.std.proofs.Common.{◌≡◌, ◌≢◌, ℕ, zero, suc, ◌+◌, ◌*◌, ◌/◌, ℤ, pos, negsuc, ◌-ℤ◌, ◌*ℤ◌, neg_ℤ, false, arith, refl, ap, ◌∙◌}
use Rattle.std.specs.Prelude.{nat_lt}
use lib.Signed.{lt_z}
use Rattle.std.proofs.lemmas.Bool.Decides.{nat_tests}
use Rattle.std.proofs.Math.Nat.{mul-suc}
use Rattle.std.proofs.Math.IntN.{negsuc-*ℤ-pos, negsuc-*ℤ-negsuc}
use Rattle.std.proofs.lemmas.Int.{ints}
use Rattle.std.specs.Int.{int_rem_euclid}
use Rattle.funcs.specs.Numbers.{floor_div}

left : (a : ℤ) (k : ℕ) → neg_ℤ (int_rem_euclid (neg_ℤ a) (pos (suc k))) ≡ a -ℤ negsuc k *ℤ floor_div a (negsuc k)
left (pos zero) k = rw (negsuc-*ℤ-pos k (0 / suc k)) (omega (arith, ints))
left (pos (suc m)) k = rw (negsuc-*ℤ-negsuc k (m / suc k)) (let e : suc k * suc (m / suc k) ≡ suc k * (m / suc k) + suc k = mul-suc (suc k) (m / suc k) in omega (arith, ints))
left (negsuc m) k = rw (negsuc-*ℤ-pos k (suc m / suc k)) (omega (arith, ints))

-- for any negative number
pub below : (a b r : ℤ) → b ≢ pos 0 → lt_z (pos 0) b ≡ false → r ≡ int_rem_euclid (neg_ℤ a) (neg_ℤ b) → neg_ℤ r ≡ a -ℤ b *ℤ floor_div a b
below a (pos zero) r some neg e = absurd (some refl)
below a (pos (suc k)) r some neg e = absurd (let h : nat_lt 0 (suc k) ≡ false = neg in grind (arith, nat_tests))
below a (negsuc k) r some neg e = ap neg_ℤ e ∙ left a k
