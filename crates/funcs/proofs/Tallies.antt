-- What a tally says of its numbers.
use Rattle.std.proofs.Common.{◌≡◌, ℤ, pos, ◌+ℤ◌, Bool, true, false, List, [], ◌∷◌, ◌++◌, fold, Result, Ok, Err, Option, Some, None, refl, sym, ap, ◌∙◌}
use Rattle.std.specs.Prelude.{◌&&◌, ◌||◌, not, unwrap_or}
use Rattle.std.specs.List.{list_all, list_any}
use Rattle.std.specs.Int.{int_min, int_max}
use Rattle.ss_base.specs.declared.types.CalcErr.{CalcErr}
use Rattle.ss_base.specs.declared.types.CalcErr.TheVariants as fault
use Rattle.sheet_value.specs.declared.value.Value.{Value}
use Rattle.sheet_value.specs.declared.value.Value.TheVariants as value
use Rattle.funcs.specs.Steps.{and_then, all_of}
use Rattle.funcs.specs.Numbers.{number_value, truth, is_zero, total}
use Rattle.funcs.specs.Args.{one_or_more}
use Rattle.funcs.specs.Lists.{least, greatest}
use Rattle.funcs.specs.Tallies.{TallyOf, nothing_tallied, least_with, greatest_with, with_number, with_numbers, tally_of}

-- ---- some numbers, and others after them
tallied-more : (t : TallyOf) (n : ℤ) (r : Result (List ℤ) CalcErr) → with_numbers t (and_then r (λ more. Ok (n ∷ more))) ≡ with_numbers (with_number t n) r
tallied-more t n (Ok more) = refl
tallied-more t n (Err e) = refl

pub tallied-both : (t : TallyOf) (rs ss : List (Result ℤ CalcErr)) → with_numbers t (all_of (rs ++ ss)) ≡ and_then (with_numbers t (all_of rs)) (λ u. with_numbers u (all_of ss))
tallied-both t [] ss = refl
tallied-both t (Ok n ∷ rs) ss =
    tallied-more t n (all_of (rs ++ ss))
    ∙ (tallied-both (with_number t n) rs ss
    ∙ ap (λ (r : Result TallyOf CalcErr). and_then r (λ u. with_numbers u (all_of ss))) (sym (tallied-more t n (all_of rs))))
tallied-both t (Err e ∷ rs) ss = refl

-- ---- each part of a tally
total-fold : (t : TallyOf) (ns : List ℤ) → (fold with_number t ns).total ≡ fold ◌+ℤ◌ t.total ns
total-fold t [] = refl
total-fold t (n ∷ ns) = total-fold (with_number t n) ns

least-fold : (t : TallyOf) (m : ℤ) → t.least ≡ Some m → (ns : List ℤ) → (fold with_number t ns).least ≡ Some (fold int_min m ns)
least-fold t m e [] = e
least-fold t m e (n ∷ ns) = least-fold (with_number t n) (int_min m n) (ap (λ (o : Option ℤ). Some (least_with o n)) e) ns

greatest-fold : (t : TallyOf) (m : ℤ) → t.greatest ≡ Some m → (ns : List ℤ) → (fold with_number t ns).greatest ≡ Some (fold int_max m ns)
greatest-fold t m e [] = e
greatest-fold t m e (n ∷ ns) = greatest-fold (with_number t n) (int_max m n) (ap (λ (o : Option ℤ). Some (greatest_with o n)) e) ns

both-true : (a b c : Bool) → ((a && b) && c) ≡ (a && (b && c))
both-true true b c = refl
both-true false b c = refl

and-true : (a : Bool) → a ≡ (a && true)
and-true true = refl
and-true false = refl

either-true : (a b c : Bool) → ((a || b) || c) ≡ (a || (b || c))
either-true true b c = refl
either-true false b c = refl

or-false : (a : Bool) → a ≡ (a || false)
or-false true = refl
or-false false = refl

all-fold : (t : TallyOf) (ns : List ℤ) → (fold with_number t ns).all_true ≡ (t.all_true && list_all (λ n. not (is_zero n)) ns)
all-fold t [] = and-true t.all_true
all-fold t (n ∷ ns) = all-fold (with_number t n) ns ∙ both-true t.all_true (not (is_zero n)) (list_all (λ m. not (is_zero m)) ns)

any-fold : (t : TallyOf) (ns : List ℤ) → (fold with_number t ns).any_true ≡ (t.any_true || list_any (λ n. not (is_zero n)) ns)
any-fold t [] = or-false t.any_true
any-fold t (n ∷ ns) = any-fold (with_number t n) ns ∙ either-true t.any_true (not (is_zero n)) (list_any (λ m. not (is_zero m)) ns)

-- ---- what the functions say of the tally of all numbers
-- an error before it is theirs
pub tally-err : {B : Type 0} (r : Result (List ℤ) CalcErr) (d : CalcErr) (f : List ℤ → Result B CalcErr) → Err d ≡ tally_of r → and_then r f ≡ Err d
tally-err (Ok ns) d f e = absurd (cc)
tally-err (Err c) d f e = let is : c ≡ d = cc in λ i. Err (is i)

module _ (t : TallyOf) where
  same : (ns : List ℤ) → Ok t ≡ tally_of (Ok ns) → t ≡ fold with_number nothing_tallied ns
  same ns e = cc

  pub tally-total : (r : Result (List ℤ) CalcErr) → Ok t ≡ tally_of r → and_then r (λ ns. number_value (total ns)) ≡ number_value t.total
  tally-total (Err c) e = absurd (cc)
  tally-total (Ok ns) e = ap number_value (sym (ap (λ (u : TallyOf). u.total) (same ns e) ∙ total-fold nothing_tallied ns))

  pub tally-least : (r : Result (List ℤ) CalcErr) → Ok t ≡ tally_of r → and_then r (λ ns. Ok (value.Num (least ns))) ≡ Ok (value.Num (unwrap_or t.least (pos 0)))
  tally-least (Err c) e = absurd (cc)
  tally-least (Ok ns) e = ap (λ (n : ℤ). Ok (value.Num n)) (sym (ap (λ (u : TallyOf). unwrap_or u.least (pos 0)) (same ns e) ∙ of_all ns))
    where
      of_all : (ms : List ℤ) → unwrap_or (fold with_number nothing_tallied ms).least (pos 0) ≡ least ms
      of_all [] = refl
      of_all (m ∷ ms) = ap (λ (o : Option ℤ). unwrap_or o (pos 0)) (least-fold (with_number nothing_tallied m) m refl ms)

  pub tally-greatest : (r : Result (List ℤ) CalcErr) → Ok t ≡ tally_of r → and_then r (λ ns. Ok (value.Num (greatest ns))) ≡ Ok (value.Num (unwrap_or t.greatest (pos 0)))
  tally-greatest (Err c) e = absurd (cc)
  tally-greatest (Ok ns) e = ap (λ (n : ℤ). Ok (value.Num n)) (sym (ap (λ (u : TallyOf). unwrap_or u.greatest (pos 0)) (same ns e) ∙ of_all ns))
    where
      of_all : (ms : List ℤ) → unwrap_or (fold with_number nothing_tallied ms).greatest (pos 0) ≡ greatest ms
      of_all [] = refl
      of_all (m ∷ ms) = ap (λ (o : Option ℤ). unwrap_or o (pos 0)) (greatest-fold (with_number nothing_tallied m) m refl ms)

  -- without numbers, and with some
  pub tally-none : (r : Result (List ℤ) CalcErr) (f : List ℤ → Result Value CalcErr) → Ok t ≡ tally_of r → t.least ≡ None → and_then r (λ ns. and_then (one_or_more ns) f) ≡ Err fault.BadKind
  tally-none (Err c) f e none = absurd (cc)
  tally-none (Ok []) f e none = refl
  tally-none (Ok (n ∷ ns)) f e none =
      absurd (let clash : None ≡ Some (fold int_min n ns) = sym none ∙ (ap (λ (u : TallyOf). u.least) (same (n ∷ ns) e) ∙ least-fold (with_number nothing_tallied n) n refl ns) in cc)

  pub tally-all : (r : Result (List ℤ) CalcErr) (m : ℤ) → Ok t ≡ tally_of r → t.least ≡ Some m →
      and_then r (λ ns. and_then (one_or_more ns) (λ some. Ok (truth (list_all (λ n. not (is_zero n)) some)))) ≡ Ok (truth t.all_true)
  tally-all (Err c) m e some = absurd (cc)
  tally-all (Ok []) m e some = absurd (let clash : Some m ≡ None = sym some ∙ ap (λ (u : TallyOf). u.least) (same [] e) in cc)
  tally-all (Ok (n ∷ ns)) m e some = ap (λ (b : Bool). Ok (truth b)) (sym (ap (λ (u : TallyOf). u.all_true) (same (n ∷ ns) e) ∙ all-fold nothing_tallied (n ∷ ns)))

  pub tally-any : (r : Result (List ℤ) CalcErr) (m : ℤ) → Ok t ≡ tally_of r → t.least ≡ Some m →
      and_then r (λ ns. and_then (one_or_more ns) (λ some. Ok (truth (list_any (λ n. not (is_zero n)) some)))) ≡ Ok (truth t.any_true)
  tally-any (Err c) m e some = absurd (cc)
  tally-any (Ok []) m e some = absurd (let clash : Some m ≡ None = sym some ∙ ap (λ (u : TallyOf). u.least) (same [] e) in cc)
  tally-any (Ok (n ∷ ns)) m e some = ap (λ (b : Bool). Ok (truth b)) (sym (ap (λ (u : TallyOf). u.any_true) (same (n ∷ ns) e) ∙ any-fold nothing_tallied (n ∷ ns)))
