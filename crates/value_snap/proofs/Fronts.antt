-- Beginnings of a list of what was published.
use Rattle.std.proofs.Common.{◌≡◌, ℕ, zero, suc, ◌≤◌, Bool, true, false, List, [], ◌∷◌, ◌++◌, length, refl, ap, sym, ◌∙◌, subst, arith}
use Rattle.ss_base.specs.Lists.{IsPrefixOf}
use Rattle.sheet_value.specs.declared.batch.Batch.{Batch}
use Rattle.value_snap.specs.declared.published.Published.{Published}
use Rattle.value_snap.specs.declared.published.Published.TheVariants.{Full, End}
use Rattle.value_snap.specs.Lists.{IsOrderedFrom, MayBePublished, is_ended, upto_from}

-- of two beginnings of one list the shorter begins the longer
pub shorter_begins : {A : Type 0} (xs ys zs : List A) → IsPrefixOf xs zs → IsPrefixOf ys zs → length xs ≤ length ys → IsPrefixOf xs ys
shorter_begins [] ys zs p q le = (ys, refl)
shorter_begins (x ∷ xs) [] zs p q le = absurd (omega arith)
shorter_begins (x ∷ xs) (y ∷ ys) [] p q le = absurd (cc (p.1))
shorter_begins (x ∷ xs) (y ∷ ys) (z ∷ zs) p q le =
    let heads : x ≡ y = cc (p.1, q.1) in
    let rest = shorter_begins xs ys zs (p.0, cc (p.1)) (q.0, cc (q.1)) (omega arith) in
    (rest.0, cc (heads, rest.1))

pub full_begins : {A : Type 0} (xs ys : List A) → IsPrefixOf xs ys → length ys ≤ length xs → xs ≡ ys
full_begins [] [] p le = refl
full_begins [] (y ∷ ys) p le = absurd (omega arith)
full_begins (x ∷ xs) [] p le = absurd (cc (p.1))
full_begins (x ∷ xs) (y ∷ ys) p le = let rest = full_begins xs ys (p.0, cc (p.1)) (omega arith) in cc (p.1, rest)

-- what may come behind a list that begins at this length
abbrev pub FollowsFrom : ℕ → List Published → Published → Type 0
FollowsFrom n es (Full b) = (is_ended es ≡ false) × (upto_from n es ≤ b.upto)
FollowsFrom n es End = is_ended es ≡ false

pub follows_is : (es : List Published) (e : Published) → MayBePublished es e → FollowsFrom 0 es e
follows_is es (Full b) may = may
follows_is es End may = may

pub ordered_more : (n : ℕ) (es : List Published) (e : Published) → IsOrderedFrom n es → FollowsFrom n es e → IsOrderedFrom n (es ++ e ∷ [])
ordered_more n [] (Full b) o may = (may.1, tt)
ordered_more n [] End o may = refl
ordered_more n (Full c ∷ es) (Full b) o may = (o.0, ordered_more c.upto es (Full b) o.1 may)
ordered_more n (Full c ∷ es) End o may = (o.0, ordered_more c.upto es End o.1 may)
ordered_more n (End ∷ []) (Full b) o may = absurd (let clash : true ≡ false = may.0 in cc)
ordered_more n (End ∷ []) End o may = absurd (let clash : true ≡ false = may in cc)
ordered_more n (End ∷ (x ∷ es)) (Full b) o may = absurd (cc (o))
ordered_more n (End ∷ (x ∷ es)) End o may = absurd (cc (o))

-- nothing follows a mark: a beginning that ends in one is the whole
pub ended_is_whole : (n : ℕ) (xs ys : List Published) → IsOrderedFrom n ys → IsPrefixOf xs ys → is_ended xs ≡ true → xs ≡ ys
ended_is_whole n [] ys o p ended = absurd (let clash : false ≡ true = ended in cc)
ended_is_whole n (x ∷ xs) [] o p ended = absurd (cc (p.1))
ended_is_whole n (Full b ∷ xs) (Full c ∷ ys) o p ended =
    let rest = ended_is_whole c.upto xs ys o.1 (p.0, cc (p.1)) ended in cc (p.1, rest)
ended_is_whole n (Full b ∷ xs) (End ∷ ys) o p ended = absurd (cc (p.1))
ended_is_whole n (End ∷ xs) (Full c ∷ ys) o p ended = absurd (cc (p.1))
ended_is_whole n (End ∷ []) (End ∷ ys) o p ended = let none : ys ≡ [] = o in cc (none)
ended_is_whole n (End ∷ (x ∷ xs)) (End ∷ ys) o p ended = absurd (cc (p.1, o))

-- ---- whether a list ends in the mark
pub unended_full : (es : List Published) (b : Batch) → is_ended (es ++ Full b ∷ []) ≡ false
unended_full [] b = refl
unended_full (Full c ∷ es) b = unended_full es b
unended_full (End ∷ []) b = refl
unended_full (End ∷ (e ∷ es)) b = unended_full (e ∷ es) b

pub ended_end : (es : List Published) → is_ended (es ++ End ∷ []) ≡ true
ended_end [] = refl
ended_end (Full c ∷ es) = ended_end es
ended_end (End ∷ []) = refl
ended_end (End ∷ (e ∷ es)) = ended_end (e ∷ es)

-- ---- how far a list goes
pub upto_full : (n : ℕ) (es : List Published) (b : Batch) → b.upto ≡ upto_from n (es ++ Full b ∷ [])
upto_full n [] b = refl
upto_full n (Full c ∷ es) b = upto_full c.upto es b
upto_full n (End ∷ es) b = upto_full n es b

pub upto_end : (n : ℕ) (es : List Published) → upto_from n es ≡ upto_from n (es ++ End ∷ [])
upto_end n [] = refl
upto_end n (Full c ∷ es) = upto_end c.upto es
upto_end n (End ∷ es) = upto_end n es

upto_least : (n : ℕ) (es : List Published) → IsOrderedFrom n es → n ≤ upto_from n es
upto_least n [] o = omega arith
upto_least n (Full b ∷ es) o = let more = upto_least b.upto es o.1 in let first = o.0 in omega (arith, more, first)
upto_least n (End ∷ []) o = omega arith
upto_least n (End ∷ (e ∷ es)) o = absurd (cc (o))

upto_more : (n : ℕ) (es rest : List Published) → IsOrderedFrom n (es ++ rest) → upto_from n es ≤ upto_from n (es ++ rest)
upto_more n [] rest o = upto_least n rest o
upto_more n (Full b ∷ es) rest o = upto_more b.upto es rest o.1
upto_more n (End ∷ es) rest o = upto_more n es rest (subst (IsOrderedFrom n) (sym o) tt)

-- a list goes no less far than one that it begins with
pub upto_grows : (old new : List Published) → IsPrefixOf old new → IsOrderedFrom 0 new → upto_from 0 old ≤ upto_from 0 new
upto_grows old new p o = subst (λ (l : List Published). upto_from 0 old ≤ upto_from 0 l) p.1 (upto_more 0 old p.0 (subst (IsOrderedFrom 0) (sym p.1) o))
