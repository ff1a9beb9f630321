-- Tests that compare numbers.
use Rattle.std.proofs.Common.{◌≡◌, ◌≢◌, ℕ, ◌<◌, ◌≤◌, true, false, arith}
use Rattle.std.specs.Prelude.{nat_eq, nat_lt}
use Rattle.std.proofs.lemmas.Bool.Decides.{nat_tests}

pub other_test : (m n : ℕ) → m ≢ n → nat_eq m n ≡ false
other_test m n h = grind (arith, nat_tests)

pub turned_test : (m n : ℕ) → nat_eq m n ≡ nat_eq n m
turned_test m n = grind (arith, nat_tests)

pub below_test : (m n : ℕ) → m < n → nat_lt m n ≡ true
below_test m n h = grind (arith, nat_tests)

pub above_test : (m n : ℕ) → n ≤ m → nat_lt m n ≡ false
above_test m n h = grind (arith, nat_tests)
