-- What an operation leaves as it is.
use Rattle.std.proofs.Common.{◌≡◌, ℕ, zero, suc, ◌<◌, Bool, true, false, List, [], ◌∷◌, length, get_or, refl, ap, sym, ◌∙◌, subst, arith, inl, inr}
use Rattle.std.specs.Prelude.{◌⊎◌, ◌||◌, not, map}
use Rattle.std.specs.List.{list_any}
use Rattle.ss_base.specs.declared.types.Size.{Size}
use Rattle.sheet_ops.specs.declared.content.Put.{Put}
use Rattle.sheet_ops.specs.declared.operation.Effect.{Effect}
use Rattle.sheet_ops.specs.declared.operation.Effect.TheVariants as effect
use Rattle.sheet_ops.specs.declared.operation.Intent.{Intent}
use Rattle.sheet_ops.specs.declared.operation.Intent.TheVariants as intent
use Rattle.sheet_ops.specs.Chains.{size_past}
use Rattle.sheet_ops.specs.Fits.{ContentFits, PutsFit, writes_cell}
use Rattle.sheet_ops.specs.Naming.{effect_of_intent}
use Rattle.sheet_ops.specs.Effects.{uncovered}
use Rattle.sheet_ops.specs.Maps.{LineMap, unmoved, put_moved, intent_moved}
use Rattle.sheet_ops.specs.Transforms.{own_past, other_past}
use Rattle.sheet_ops.proofs.Moved.{uncovered_by_none, puts_unmoved}
use Rattle.sheet_ops.proofs.Sorts.{map_same}

abbrev IsYes : Bool → Type 0
IsYes true = Unit {0}
IsYes false = ⊥

-- a put of those that fit
pub put_fits : (size : Size) (ps : List Put) (i : ℕ) (d : Put) → i < length ps → PutsFit size ps → let p = get_or ps i d in (p.row < size.rows) × (p.col < size.cols) × ContentFits size p.content
put_fits size [] i d h f = absurd (omega arith)
put_fits size (p ∷ ps) zero d h f = (f.0, f.1, f.2)
put_fits size (p ∷ ps) (suc i) d h f = put_fits size ps i d (omega arith) f.4

pub intent_unmoved : (c : Intent) → intent_moved unmoved unmoved c ≡ c
intent_unmoved (intent.Write ps) = ap intent.Write (puts_unmoved ps)
intent_unmoved (intent.InsRow p) = refl
intent_unmoved (intent.InsCol p) = refl
intent_unmoved (intent.DelRow p) = refl
intent_unmoved (intent.DelCol p) = refl
intent_unmoved (intent.Sort ss rs) = λ i. intent.Sort (map_same ss i) (map_same rs i)

-- a write covers cells and moves nothing
pub write_covered : (size : Size) (ps es : List Put) → effect.Write (uncovered ps es) ≡ other_past size (intent.Write ps) (effect.Write es)
write_covered size ps es = ap effect.Write (sym (puts_unmoved (uncovered ps es)))

-- an operation on lines covers no cell
pub puts_left : (r c : LineMap) (es : List Put) → map (put_moved r c) es ≡ map (put_moved r c) (uncovered [] es)
puts_left r c es = ap (map (put_moved r c)) (sym (uncovered_by_none es))

pub write_stays : (r c : LineMap) (es kept : List Put) → kept ≡ es → map (put_moved r c) kept ≡ kept → map (put_moved r c) (uncovered [] es) ≡ es
write_stays r c es kept is stay = sym (puts_left r c es) ∙ subst (λ (ps : List Put). map (put_moved r c) ps ≡ ps) is stay

-- an effect that moves no position leaves the own operation
pub own_left : (c : Intent) (e : Effect) → (((ps : List Put) × (e ≡ effect.Write ps)) ⊎ (((p : ℕ) × (e ≡ effect.DelRow p)) ⊎ ((p : ℕ) × (e ≡ effect.DelCol p)))) → c ≡ own_past c e
own_left c e (inl (ps, is)) = sym (intent_unmoved c) ∙ ap (own_past c) (sym is)
own_left c e (inr (inl (p, is))) = sym (intent_unmoved c) ∙ ap (own_past c) (sym is)
own_left c e (inr (inr (p, is))) = sym (intent_unmoved c) ∙ ap (own_past c) (sym is)

-- it brings no line either, and no more does a deletion
pub effect_brings_none : (e : Effect) → (((ps : List Put) × (e ≡ effect.Write ps)) ⊎ (((p : ℕ) × (e ≡ effect.DelRow p)) ⊎ ((p : ℕ) × (e ≡ effect.DelCol p)))) → (size : Size) → size_past size e ≡ size
effect_brings_none e (inl (ps, is)) size = ap (size_past size) is
effect_brings_none e (inr (inl (p, is))) size = ap (size_past size) is
effect_brings_none e (inr (inr (p, is))) size = ap (size_past size) is

pub deletion_brings_none : (c : Intent) → (((p : ℕ) × (c ≡ intent.DelRow p)) ⊎ ((p : ℕ) × (c ≡ intent.DelCol p))) → (size : Size) → size_past size (effect_of_intent c) ≡ size
deletion_brings_none c (inl (p, is)) size = ap (λ (d : Intent). size_past size (effect_of_intent d)) is
deletion_brings_none c (inr (p, is)) size = ap (λ (d : Intent). size_past size (effect_of_intent d)) is

-- a deletion leaves every effect
row_deleted : (size : Size) (p : ℕ) (e : Effect) → e ≡ other_past size (intent.DelRow p) e
row_deleted size p (effect.Write es) = ap effect.Write (sym (puts_unmoved es) ∙ puts_left unmoved unmoved es)
row_deleted size p (effect.InsRow q) = refl
row_deleted size p (effect.InsCol q) = refl
row_deleted size p (effect.DelRow q) = refl
row_deleted size p (effect.DelCol q) = refl
row_deleted size p (effect.Move moves) = refl

col_deleted : (size : Size) (p : ℕ) (e : Effect) → e ≡ other_past size (intent.DelCol p) e
col_deleted size p (effect.Write es) = ap effect.Write (sym (puts_unmoved es) ∙ puts_left unmoved unmoved es)
col_deleted size p (effect.InsRow q) = refl
col_deleted size p (effect.InsCol q) = refl
col_deleted size p (effect.DelRow q) = refl
col_deleted size p (effect.DelCol q) = refl
col_deleted size p (effect.Move moves) = refl

pub deletion_leaves : (size : Size) (c : Intent) (e : Effect) → (((p : ℕ) × (c ≡ intent.DelRow p)) ⊎ ((p : ℕ) × (c ≡ intent.DelCol p))) → e ≡ other_past size c e
deletion_leaves size c e (inl (p, is)) = row_deleted size p e ∙ ap (λ (d : Intent). other_past size d e) (sym is)
deletion_leaves size c e (inr (p, is)) = col_deleted size p e ∙ ap (λ (d : Intent). other_past size d e) (sym is)

-- a write leaves an effect that writes none of its cells
one_left : (t : Bool) (ps : List Put) (e : Put) (es : List Put) → writes_cell ps e ≡ t → (t || list_any (λ put. writes_cell ps put) es) ≡ false → (list_any (λ put. writes_cell ps put) es ≡ false → es ≡ uncovered ps es) → e ∷ es ≡ uncovered ps (e ∷ es)
one_left true ps e es is h rest = absurd (subst IsYes h tt)
one_left false ps e es is h rest = simp is (ap (λ (ds : List Put). e ∷ ds) (rest h))

none_covered : (ps es : List Put) → list_any (λ put. writes_cell ps put) es ≡ false → es ≡ uncovered ps es
none_covered ps [] h = refl
none_covered ps (e ∷ es) h = one_left (writes_cell ps e) ps e es refl h (λ k. none_covered ps es k)

pub write_leaves : (size : Size) (ps es : List Put) (e : Effect) → e ≡ effect.Write es → (b : Bool) → b ≡ list_any (λ put. writes_cell ps put) es → not b ≡ true → e ≡ other_past size (intent.Write ps) e
write_leaves size ps es e is true some h = absurd (subst IsYes (sym h) tt)
write_leaves size ps es e is false some h = is ∙ (ap effect.Write (none_covered ps es (sym some)) ∙ (write_covered size ps es ∙ ap (other_past size (intent.Write ps)) (sym is)))
