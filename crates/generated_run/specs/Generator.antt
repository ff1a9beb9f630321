-- The numbers that a generated run draws.
use Rattle.std.specs.Prelude.{ℕ, zero, suc, ◌+◌, ◌*◌, ◌/◌, ◌%◌, ◌^◌}
use Rattle.generated_run.specs.declared.draws.Draws.{Draws}

-- the number that replaces a number at a draw
unfoldable pub next : ℕ → ℕ
next x = (x * 6364136223846793005 + 1442695040888963407) % 2 ^ 64

-- what a draw below k answers, by the number that it leaves
unfoldable pub drawn : ℕ → ℕ → ℕ
drawn k x = x / 2 ^ 33 % k

-- the number after so many draws
abbrev pub after_draws : ℕ → ℕ → ℕ
after_draws zero x = x
after_draws (suc count) x = next (after_draws count x)

-- the seven draws of a turn, in their order, by the number before them; rows are counted from 0
abbrev pub draws_from : ℕ → Draws
draws_from x = record {
  kind = drawn 16 (after_draws 1 x);
  row = drawn 40 (after_draws 2 x);
  col = drawn 8 (after_draws 3 x);
  number = drawn 1000 (after_draws 4 x);
  other_row = drawn 37 (after_draws 5 x);
  other_col = drawn 8 (after_draws 6 x);
  delivery = drawn 4 (after_draws 7 x);
}

-- the draws of a turn of the run of a number: each turn before it took seven
abbrev pub draws_of : ℕ → ℕ → Draws
draws_of number turn = draws_from (after_draws (7 * turn) number)
