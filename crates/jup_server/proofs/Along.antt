-- One more step of a chain.
use Rattle.std.proofs.Common.{◌≡◌, ℕ, zero, suc, ◌+◌, ◌<◌, ◌≤◌, List, [], ◌∷◌, ◌++◌, length, take, drop, get_or, refl, ap, sym, ◌∙◌, subst, arith, Option, None, Some}
use Rattle.std.specs.Prelude.{unwrap_or}
use Rattle.std.proofs.lemmas.List.{take_more, take-append-drop, drop_more, length-take-le, length-drop, drop-append-le}
use Rattle.ss_base.specs.declared.types.Size.{Size}
use Rattle.sheet_ops.specs.declared.operation.Intent.{Intent}
use Rattle.sheet_ops.specs.declared.operation.Effect.{Effect}
use Rattle.sheet_ops.specs.Chains.{size_past, sizes_past, PassesChain, EachChainFits}
use Rattle.sheet_ops.proofs.Chains.{passes_more, passes_still}
use Rattle.sheet_ops.proofs.Sizes.{grows}
use Rattle.pair_transform.specs.Changes.{replaced}
use Rattle.pair_transform.proofs.Replaced.{replaced_behind}
use Rattle.jup_server.specs.Servers.{step_past}
use Rattle.jup_server.specs.Steps.{StepFits, PassesStep}

pub along-append : (s : Size) (xs ys : List (Option Effect)) → sizes_past s (xs ++ ys) ≡ sizes_past (sizes_past s xs) ys
along-append s [] ys = refl
along-append s (None ∷ xs) ys = along-append s xs ys
along-append s (Some e ∷ xs) ys = along-append (size_past s e) xs ys

pub along-grows : (s : Size) (xs : List (Option Effect)) → (s.rows ≤ (sizes_past s xs).rows) × (s.cols ≤ (sizes_past s xs).cols)
along-grows s [] = (omega arith, omega arith)
along-grows s (None ∷ xs) = along-grows s xs
along-grows s (Some e ∷ xs) = let a = grows s e in let b = along-grows (size_past s e) xs in (omega (arith, a.2, b.0), omega (arith, a.3, b.1))

-- the size that a front leaves is at most the last one
pub front_small : (s : Size) (xs : List (Option Effect)) (i : ℕ) → ((sizes_past s (take i xs)).rows ≤ (sizes_past s xs).rows) × ((sizes_past s (take i xs)).cols ≤ (sizes_past s xs).cols)
front_small s xs i =
    let whole : sizes_past s xs ≡ sizes_past (sizes_past s (take i xs)) (drop i xs) = ap (sizes_past s) (sym (take-append-drop i xs)) ∙ along-append s (take i xs) (drop i xs) in
    let more = along-grows (sizes_past s (take i xs)) (drop i xs) in
    (omega (arith, more.0, ap (λ (z : Size). z.rows) whole), omega (arith, more.1, ap (λ (z : Size). z.cols) whole))

step_last : (s : Size) (x : Option Effect) → sizes_past s (x ∷ []) ≡ step_past s x
step_last s None = refl
step_last s (Some e) = refl

pub step_grows : (s : Size) (x : Option Effect) → ((step_past s x).rows ≤ s.rows + 1) × ((step_past s x).cols ≤ s.cols + 1)
step_grows s None = (omega arith, omega arith)
step_grows s (Some e) = let g = grows s e in (g.0, g.1)

-- ---- a step more; x stands at place i
module _ (s : Size) (xs : List (Option Effect)) (i : ℕ) (x : Option Effect) (h : i < length xs) (at : x ≡ get_or xs i x) (z : Size) (sized : z ≡ sizes_past s (take i xs)) where
  more : take (i + 1) xs ≡ take i xs ++ x ∷ []
  more = take_more xs i x h ∙ ap (λ (y : Option Effect). take i xs ++ y ∷ []) (sym at)

  pub along_next : step_past z x ≡ sizes_past s (take (i + 1) xs)
  along_next =
      ap (λ (y : Size). step_past y x) sized ∙ (sym (step_last (sizes_past s (take i xs)) x)
      ∙ (sym (along-append s (take i xs) (x ∷ [])) ∙ ap (sizes_past s) (sym more)))

  pub step_fits : EachChainFits s xs → StepFits z x
  step_fits f =
      let whole : xs ≡ take i xs ++ x ∷ drop (i + 1) xs =
      sym (take-append-drop i xs) ∙ (ap (λ (ys : List (Option Effect)). take i xs ++ ys) (drop_more xs i x h) ∙ ap (λ (y : Option Effect). take i xs ++ y ∷ drop (i + 1) xs) (sym at)) in
      subst (λ (y : Size). StepFits y x) (sym sized) (fits_there s (take i xs) x (drop (i + 1) xs) (subst (EachChainFits s) whole f))
    where
      fits_there : (s : Size) (xs : List (Option Effect)) (x : Option Effect) (ys : List (Option Effect)) → EachChainFits s (xs ++ x ∷ ys) → StepFits (sizes_past s xs) x
      fits_there s [] None ys f = tt
      fits_there s [] (Some e) ys f = f.0
      fits_there s (None ∷ xs) x ys f = fits_there s xs x ys f
      fits_there s (Some e ∷ xs) x ys f = fits_there (size_past s e) xs x ys f.1

  -- the operation past one step more, and the changed steps
  module _ (c : Intent) (steps : List (Option (Option Effect))) (mid : Intent) (p : PassesChain s c (take i xs) (replaced steps (take i xs)) mid) where
    pub passed_next : (d : Option (Option Effect)) (last : Intent) → PassesStep z mid x (unwrap_or d x) last → (steps' : List (Option (Option Effect))) →
        ((ys : List (Option Effect)) (y : Option Effect) → length ys ≡ i → replaced steps' (ys ++ y ∷ []) ≡ replaced steps ys ++ unwrap_or d y ∷ []) → PassesChain s c (take (i + 1) xs) (replaced steps' (take (i + 1) xs)) last
    passed_next d last q steps' noted =
        let there : replaced steps' (take (i + 1) xs) ≡ replaced steps (take i xs) ++ unwrap_or d x ∷ [] =
        ap (replaced steps') more ∙ noted (take i xs) x (length-take-le i xs (omega arith)) in
        let all = pass_one s c (take i xs) (replaced steps (take i xs)) mid p x (unwrap_or d x) last (subst (λ (y : Size). PassesStep y mid x (unwrap_or d x) last) sized q) in
        subst (λ (ys : List (Option Effect)). PassesChain s c ys (replaced steps' (take (i + 1) xs)) last) (sym more)
        (subst (λ (ds : List (Option Effect)). PassesChain s c (take i xs ++ x ∷ []) ds last) (sym there) all)
      where
        pass_one : (s : Size) (c : Intent) (ws done : List (Option Effect)) (mid : Intent) → PassesChain s c ws done mid → (x d : Option Effect) (last : Intent) → PassesStep (sizes_past s ws) mid x d last → PassesChain s c (ws ++ x ∷ []) (done ++ d ∷ []) last
        pass_one s c ws done mid p None d last (kept, same) =
            subst (λ (l : Intent). PassesChain s c (ws ++ None ∷ []) (done ++ d ∷ []) l) (sym same)
            (subst (λ (y : Option Effect). PassesChain s c (ws ++ None ∷ []) (done ++ y ∷ []) mid) (sym kept) (passes_still s c ws done mid p))
        pass_one s c ws done mid p (Some e) d last (e', pair, is) =
            subst (λ (y : Option Effect). PassesChain s c (ws ++ Some e ∷ []) (done ++ y ∷ []) last) (sym is) (passes_more s c ws done mid p e last e' pair)

-- ---- a chain cut in two
fits_behind : (s : Size) (n : ℕ) (xs : List (Option Effect)) → EachChainFits s xs → EachChainFits (sizes_past s (take n xs)) (drop n xs)
fits_behind s zero xs f = f
fits_behind s (suc n) [] f = f
fits_behind s (suc n) (None ∷ xs) f = fits_behind s n xs f
fits_behind s (suc n) (Some e ∷ xs) f = fits_behind (size_past s e) n xs f.1

module _ (s : Size) (xs : List (Option Effect)) (n : ℕ) where
  pub cut_back : sizes_past (sizes_past s (take n xs)) (drop n xs) ≡ sizes_past s xs
  cut_back = sym (along-append s (take n xs) (drop n xs)) ∙ ap (sizes_past s) (take-append-drop n xs)

  pub cut_fits : EachChainFits s xs → EachChainFits (sizes_past s (take n xs)) (drop n xs)
  cut_fits = fits_behind s n xs

  -- a step put at the end stays there
  pub end_stays : (x : Option Effect) (steps : List (Option (Option Effect))) → n ≤ length xs → length steps + n ≤ length xs → replaced steps (drop n (xs ++ x ∷ [])) ≡ replaced steps (drop n xs) ++ x ∷ []
  end_stays x steps h many =
      ap (replaced steps) (drop-append-le n xs (x ∷ []) h)
      ∙ replaced_behind steps (drop n xs) (x ∷ []) (let k = length-drop n xs in omega (arith, k, many, h))
