-- A line that is added to the one site of a name, or to each.
use Rattle.std.proofs.Common.{◌≡◌, ℕ, zero, suc, ◌<◌, Bool, true, false, cond, List, [], ◌∷◌, ◌++◌, length, map, get_or, ◌+◌, take, drop, refl, ap, sym, ◌∙◌, subst, arith, Some, None}
use Rattle.std.specs.Prelude.{slice_set, ◌||◌, Result, Ok, Err, OnOk}
use Rattle.std.specs.List.{All, list_any}
use Rattle.std.specs.Str.{bytes_eq}
use Rattle.std.specs.Cmp.Lexicographic.{bytes_decides}
use Rattle.std.proofs.lemmas.List.{append-nil, get_or_default}
use Rattle.std.proofs.lemmas.List.Edits.{map_over_more}
use Rattle.std.proofs.lemmas.List.Elements.{All-nil, All-cons, All-head, All-tail}
use Rattle.live_script.specs.declared.script.Action.{Action}
use Rattle.live_script.specs.declared.script.SiteLine.{SiteLine}
use Rattle.live_script.specs.declared.script.SiteScript.{SiteScript}
use Rattle.live_script.specs.Scripts.{only_for, line_before}
use Rattle.live_script.specs.SoFar.{NamesDiffer, with_action}
use Rattle.live_script.proofs.Holding.{name_of, site_with}

module _ (n : ℕ) (name : List ℕ) (a : Action) where
  abbrev pub added : SiteScript → SiteScript
  added s = site_with s.name (s.lines ++ record { number = n; action = a } ∷ [])

  abbrev pub for_name : SiteScript → SiteScript
  for_name s = with_action n (λ (site : List ℕ). only_for site name a) s

  by_name : (s : SiteScript) (b : Bool) → bytes_eq s.name name ≡ b → for_name s ≡ site_with s.name (s.lines ++ line_before n (cond b (Some a) None) [])
  by_name s b e = ap (λ t. site_with s.name (s.lines ++ line_before n (cond t (Some a) None) [])) e

  hit : (s : SiteScript) → bytes_eq s.name name ≡ true → added s ≡ for_name s
  hit s e = sym (by_name s true e)

  miss : (s : SiteScript) → bytes_eq s.name name ≡ false → for_name s ≡ s
  miss s e = by_name s false e ∙ (λ i. site_with s.name (append-nil s.lines i))

  pub no_line : (sites : List SiteScript) → All (λ (s : SiteScript). bytes_eq s.name name ≡ false) sites → map for_name sites ≡ sites
  no_line [] h = refl
  no_line (s ∷ ss) h = λ i. miss s (All-head (λ (t : SiteScript). bytes_eq t.name name ≡ false) s ss h) i ∷ no_line ss (All-tail (λ (t : SiteScript). bytes_eq t.name name ≡ false) s ss h) i

  spread : (x : List ℕ) (sites : List SiteScript) → All (λ (later : List ℕ). bytes_eq later x ≡ false) (map name_of sites) → All (λ (s : SiteScript). bytes_eq s.name x ≡ false) sites
  spread x [] h = All-nil _
  spread x (s ∷ ss) h = All-cons (λ (t : SiteScript). bytes_eq t.name x ≡ false) s ss (All-head (λ (later : List ℕ). bytes_eq later x ≡ false) s.name (map name_of ss) h) (spread x ss (All-tail (λ (later : List ℕ). bytes_eq later x ≡ false) s.name (map name_of ss) h))

  pub put_line : (sites : List SiteScript) (p : ℕ) (d : SiteScript) → NamesDiffer (map name_of sites) → p < length sites → bytes_eq (get_or sites p d).name name ≡ true → slice_set sites p (added (get_or sites p d)) ≡ map for_name sites
  put_line [] p d h lt e = absurd (omega arith)
  put_line (s ∷ ss) zero d h lt e = λ i. hit s e i ∷ sym (no_line ss (subst (λ (x : List ℕ). All (λ (t : SiteScript). bytes_eq t.name x ≡ false) ss) ((bytes_decides s.name name).0 e) (spread s.name ss h.0))) i
  put_line (s ∷ ss) (suc p) d h lt e = λ i. sym (miss s (other (bytes_eq s.name name) refl)) i ∷ put_line ss p d h.1 within e i
    where
      within : p < length ss
      within = omega arith

      other : (b : Bool) → bytes_eq s.name name ≡ b → bytes_eq s.name name ≡ false
      other false t = t
      other true t =
          let later = spread s.name ss h.0 p d within in
          let clash : true ≡ false = sym e ∙ (ap (bytes_eq (get_or ss p d).name) (sym ((bytes_decides s.name name).0 t)) ∙ later) in
          absurd (cc)

  -- at a place that was found among equal sites
  pub put_at : (sites seen : List SiteScript) → seen ≡ sites → (p : ℕ) (x : SiteScript) (lines : List SiteLine) → NamesDiffer (map name_of sites) → (p < length seen) × ((d : SiteScript) → bytes_eq (get_or seen p d).name name ≡ true) →
      x ≡ get_or sites p x → lines ≡ x.lines ++ record { number = n; action = a } ∷ [] → slice_set sites p (site_with x.name lines) ≡ map for_name sites
  put_at sites seen same p x lines apart found at e =
      let here = subst (λ (ss : List SiteScript). (p < length ss) × ((d : SiteScript) → bytes_eq (get_or ss p d).name name ≡ true)) same found in
      ap (λ (ls : List SiteLine). slice_set sites p (site_with x.name ls)) e
      ∙ (ap (λ (s : SiteScript). slice_set sites p (added s)) at ∙ put_line sites p x apart here.0 (here.1 x))

  pub none_at : (sites seen : List SiteScript) → seen ≡ sites → All (λ (s : SiteScript). bytes_eq s.name name ≡ false) seen → sites ≡ map for_name sites
  none_at sites seen same h = sym (no_line sites (subst (λ (ss : List SiteScript). All (λ (s : SiteScript). bytes_eq s.name name ≡ false) ss) same h))

pub on_ok : {T E A B : Type 0} (x : Result T E) → (A → B) → OnOk x A → OnOk x B
on_ok (Ok y) f a = f a
on_ok (Err e) f a = tt

-- a name is that of a site
pub any_name : (name : List ℕ) (sites : List SiteScript) → list_any (λ (s : SiteScript). bytes_eq name s.name) sites ≡ list_any (bytes_eq name) (map name_of sites)
any_name name [] = refl
any_name name (s ∷ ss) = ap (λ b. bytes_eq name s.name || b) (any_name name ss)

-- ---- a line for each site

abbrev pub every : ℕ → Action → SiteScript → SiteScript
every n a s = with_action n (λ (site : List ℕ). Some a) s

pub each_more : (n : ℕ) (a b : Action) (xs ys : List SiteScript) (i : ℕ) (d : SiteScript) (lines : List SiteLine) → b ≡ a → i < length xs → i < length ys → ys ≡ map (every n a) (take i xs) ++ drop i xs →
    lines ≡ (get_or ys i d).lines ++ record { number = n; action = b } ∷ [] → slice_set ys i (site_with (get_or ys i d).name lines) ≡ map (every n a) (take (i + 1) xs) ++ drop (i + 1) xs
each_more n a b xs ys i d lines same lt within so_far e =
    let x = get_or ys i d in
    ap (λ (ls : List SiteLine). slice_set ys i (site_with x.name ls)) (e ∙ ap (λ (z : Action). x.lines ++ record { number = n; action = z } ∷ []) same)
    ∙ map_over_more (every n a) xs ys i x lt so_far (get_or_default ys i d x within)
