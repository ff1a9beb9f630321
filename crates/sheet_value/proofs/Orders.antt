-- The order of values is total.
use Rattle.std.proofs.Common.{◌≡◌, ℕ, ℤ, pos, List, [], refl, sym, ap, ◌∙◌, subst}
use Rattle.std.specs.Prelude.{nat_eq, if◌then◌else◌}
use Rattle.std.specs.declared.cmp.Ordering.{Ordering}
use Rattle.std.specs.declared.cmp.Ordering.TheVariants.{Less, Equal, Greater}
use Rattle.std.specs.Ordering.{ordering_then, nat_cmp, int_cmp, on, then_cmp}
use Rattle.std.specs.Cmp.{IsTotalOrder, nat_cmp_total, int_cmp_total, on_total, then_total}
use Rattle.std.specs.Cmp.Lexicographic.{slice_cmp, nat_list_cmp_total}
use Rattle.std.proofs.lemmas.Map.Lookups.{exact_signed, exact_bytes, exact_unsigned}
use Rattle.ss_base.specs.declared.types.CalcErr.{CalcErr}
use Rattle.ss_base.specs.declared.types.CalcErr.TheVariants as fault
use Rattle.sheet_value.specs.declared.value.Value.{Value}
use Rattle.sheet_value.specs.declared.value.Value.TheVariants as value
use Rattle.sheet_value.specs.Order.{kind_rank, error_rank, order_of}

-- the number, the text and the error of a value, or else some fixed one
number_part : Value → ℤ
number_part (value.Num n) = n
number_part v = pos 0

text_part : Value → List ℕ
text_part (value.Text t) = t
text_part v = []

error_part : Value → ℕ
error_part (value.Err e) = error_rank e
error_part v = 0

by_parts : Value → Value → Ordering
by_parts = then_cmp (on kind_rank nat_cmp) (then_cmp (on number_part int_cmp) (then_cmp (on text_part (slice_cmp nat_cmp)) (on error_part nat_cmp)))

then-level : (r : Ordering) → ordering_then r Equal ≡ r
then-level Less = refl
then-level Equal = refl
then-level Greater = refl

order_is : (a b : Value) → by_parts a b ≡ order_of a b
unfolding by_parts number_part text_part error_part
order_is (value.Num m) (value.Num n) = then-level (int_cmp m n)
order_is (value.Num m) (value.Text t) = refl
order_is (value.Num m) (value.Err e) = refl
order_is (value.Num m) value.Empty = refl
order_is (value.Text s) (value.Num n) = refl
order_is (value.Text s) (value.Text t) = then-level (slice_cmp nat_cmp s t)
order_is (value.Text s) (value.Err e) = refl
order_is (value.Text s) value.Empty = refl
order_is (value.Err d) (value.Num n) = refl
order_is (value.Err d) (value.Text t) = refl
order_is (value.Err d) (value.Err e) = refl
order_is (value.Err d) value.Empty = refl
order_is value.Empty (value.Num n) = refl
order_is value.Empty (value.Text t) = refl
order_is value.Empty (value.Err e) = refl
order_is value.Empty value.Empty = refl

by_parts_total : IsTotalOrder by_parts
unfolding by_parts
by_parts_total =
    then_total (on_total kind_rank nat_cmp_total) (then_total (on_total number_part int_cmp_total)
    (then_total (on_total text_part nat_list_cmp_total) (on_total error_part nat_cmp_total)))

pub order_total : IsTotalOrder order_of
order_total = subst IsTotalOrder (λ i a b. order_is a b i) by_parts_total

-- ---- only equal values are level

-- the error at a rank
error_at : ℕ → CalcErr
error_at r =
    if nat_eq r 0 then fault.Div0 else if nat_eq r 1 then fault.Na else if nat_eq r 2 then fault.NoName
    else if nat_eq r 3 then fault.BadNum else if nat_eq r 4 then fault.Lost else if nat_eq r 5 then fault.BadKind else fault.Circ

error_at-rank : (e : CalcErr) → error_at (error_rank e) ≡ e
unfolding error_at
error_at-rank fault.Div0 = refl
error_at-rank fault.Na = refl
error_at-rank fault.NoName = refl
error_at-rank fault.BadNum = refl
error_at-rank fault.Lost = refl
error_at-rank fault.BadKind = refl
error_at-rank fault.Circ = refl

same_rank : (d e : CalcErr) → error_rank d ≡ error_rank e → d ≡ e
same_rank d e h = sym (error_at-rank d) ∙ ap error_at h ∙ error_at-rank e

pub level : (a b : Value) → order_of a b ≡ Equal → a ≡ b
level (value.Num m) (value.Num n) e = ap (λ (z : ℤ). value.Num z) (exact_signed m n e)
level (value.Num m) (value.Text t) e = absurd (cc)
level (value.Num m) (value.Err d) e = absurd (cc)
level (value.Num m) value.Empty e = absurd (cc)
level (value.Text s) (value.Num n) e = absurd (cc)
level (value.Text s) (value.Text t) e = ap (λ (u : List ℕ). value.Text u) (exact_bytes s t e)
level (value.Text s) (value.Err d) e = absurd (cc)
level (value.Text s) value.Empty e = absurd (cc)
level (value.Err c) (value.Num n) e = absurd (cc)
level (value.Err c) (value.Text t) e = absurd (cc)
level (value.Err c) (value.Err d) e = ap (λ (u : CalcErr). value.Err u) (same_rank c d (exact_unsigned (error_rank c) (error_rank d) e))
level (value.Err c) value.Empty e = absurd (cc)
level value.Empty (value.Num n) e = absurd (cc)
level value.Empty (value.Text t) e = absurd (cc)
level value.Empty (value.Err d) e = absurd (cc)
level value.Empty value.Empty e = refl
