-- Effects after a sort.
use Rattle.std.proofs.Common.{◌≡◌, ℕ, zero, suc, ◌+◌, ◌<◌, ◌≤◌, ◌≢◌, List, [], length, get_or, refl, ap, sym, ◌∙◌, arith, inl, inr, All}
use Rattle.std.specs.Prelude.{◌⊎◌, map}
use Rattle.std.proofs.lemmas.Bool.{cases_lt}
use Rattle.ss_base.specs.declared.types.Size.{Size}
use Rattle.marked_lines.specs.Moves.{image, source, IsPerm, MovesBelow, moves_of}
use Rattle.marked_lines.proofs.Canonical.{moves_same, image_moves_of, below_stay}
use Rattle.sheet_ops.specs.declared.content.Put.{Put}
use Rattle.sheet_ops.specs.declared.operation.Effect.{Effect}
use Rattle.sheet_ops.specs.declared.operation.Effect.TheVariants as effect
use Rattle.sheet_ops.specs.declared.operation.Intent.{Intent}
use Rattle.sheet_ops.specs.declared.operation.Intent.TheVariants as intent
use Rattle.sheet_ops.specs.Fits.{SortFits, IntentFits}
use Rattle.sheet_ops.specs.Lines.{sort_moves}
use Rattle.sheet_ops.specs.Naming.{effect_of_intent}
use Rattle.sheet_ops.specs.Maps.{unmoved, past_moves, row_map, col_map, put_moved}
use Rattle.sheet_ops.specs.Effects.{puts_of, uncovered}
use Rattle.sheet_ops.specs.Transforms.{own_past, other_past, numbers_from, sorted_anew}
use Rattle.sheet_ops.proofs.Moved.{uncovered_by_none}
use Rattle.sheet_ops.proofs.Sorts.{map_same, fits_after, sort_moves-perm, sort_moves-below, sorted_anew-perm}
use Rattle.pair_transform.specs.Sorts.{IsSort}

-- ---- what a sort leaves
none_put : (c : Intent) → IsSort c → puts_of c ≡ []
none_put (intent.Sort ss rs) s = refl
none_put (intent.Write ps) s = absurd s
none_put (intent.InsRow p) s = absurd s
none_put (intent.InsCol p) s = absurd s
none_put (intent.DelRow p) s = absurd s
none_put (intent.DelCol p) s = absurd s

pub row_insertion_stays : (size : Size) (c : Intent) → IsSort c → (q : ℕ) → effect.InsRow q ≡ other_past size c (effect.InsRow q)
row_insertion_stays size (intent.Sort ss rs) s q = refl
row_insertion_stays size (intent.Write ps) s q = absurd s
row_insertion_stays size (intent.InsRow p) s q = absurd s
row_insertion_stays size (intent.InsCol p) s q = absurd s
row_insertion_stays size (intent.DelRow p) s q = absurd s
row_insertion_stays size (intent.DelCol p) s q = absurd s

pub col_insertion_stays : (size : Size) (c : Intent) → IsSort c → (q : ℕ) → effect.InsCol q ≡ other_past size c (effect.InsCol q)
col_insertion_stays size (intent.Sort ss rs) s q = refl
col_insertion_stays size (intent.Write ps) s q = absurd s
col_insertion_stays size (intent.InsRow p) s q = absurd s
col_insertion_stays size (intent.InsCol p) s q = absurd s
col_insertion_stays size (intent.DelRow p) s q = absurd s
col_insertion_stays size (intent.DelCol p) s q = absurd s

pub col_deletion_stays : (size : Size) (c : Intent) → IsSort c → (q : ℕ) → effect.DelCol q ≡ other_past size c (effect.DelCol q)
col_deletion_stays size (intent.Sort ss rs) s q = refl
col_deletion_stays size (intent.Write ps) s q = absurd s
col_deletion_stays size (intent.InsRow p) s q = absurd s
col_deletion_stays size (intent.InsCol p) s q = absurd s
col_deletion_stays size (intent.DelRow p) s q = absurd s
col_deletion_stays size (intent.DelCol p) s q = absurd s

-- ---- what goes with the records
module _ (size : Size) (c : Intent) (s : IsSort c) (moves : List (ℕ × ℕ)) (is : effect_of_intent c ≡ effect.Move moves) where
  pub write_sorted : (es : List Put) → effect.Write (map (put_moved (past_moves moves) unmoved) es) ≡ other_past size c (effect.Write es)
  write_sorted es = λ i. effect.Write (map (put_moved (row_map (sym is i)) (col_map (sym is i))) (left i))
    where
      left : es ≡ uncovered (puts_of c) es
      left = sym (ap (λ (ps : List Put). uncovered ps es) (none_put c s) ∙ uncovered_by_none es)

  pub deletion_sorted : (q : ℕ) → effect.DelRow (image moves q) ≡ other_past size c (effect.DelRow q)
  deletion_sorted q = λ i. effect.DelRow ((row_map (sym is i)).rec q)

-- a sort's effect is moves
pub is_moved : (c : Intent) (e : Effect) → IsSort c → e ≡ effect_of_intent c → (moves : List (ℕ × ℕ)) × (e ≡ effect.Move moves)
is_moved (intent.Sort ss rs) e s is = (sort_moves ss rs, is)
is_moved (intent.Write ps) e s is = absurd s
is_moved (intent.InsRow p) e s is = absurd s
is_moved (intent.InsCol p) e s is = absurd s
is_moved (intent.DelRow p) e s is = absurd s
is_moved (intent.DelCol p) e s is = absurd s

-- a sort is one after moves, too
pub sort_past : (c : Intent) → IsSort c → (moves : List (ℕ × ℕ)) → IsSort (own_past c (effect.Move moves))
sort_past (intent.Sort ss rs) s moves = tt
sort_past (intent.Write ps) s moves = absurd s
sort_past (intent.InsRow p) s moves = absurd s
sort_past (intent.InsCol p) s moves = absurd s
sort_past (intent.DelRow p) s moves = absurd s
sort_past (intent.DelCol p) s moves = absurd s

-- ---- moves after a sort
length-numbers_from : (first count : ℕ) → length (numbers_from first count) ≡ count
length-numbers_from first zero = refl
length-numbers_from first (suc count) = ap suc (length-numbers_from (suc first) count)

number_at : (first count k d : ℕ) → k < count → get_or (numbers_from first count) k d ≡ first + k
number_at first zero k d h = absurd (omega arith)
number_at first (suc count) zero d h = omega arith
number_at first (suc count) (suc k) d h = let e = number_at (suc first) count k d (omega arith) in omega (arith, e)

moves_in : Effect → List (ℕ × ℕ)
moves_in (effect.Move moves) = moves
moves_in (effect.Write es) = []
moves_in (effect.InsRow q) = []
moves_in (effect.InsCol q) = []
moves_in (effect.DelRow q) = []
moves_in (effect.DelCol q) = []

same_moves : (a b : List (ℕ × ℕ)) → effect.Move a ≡ effect.Move b → a ≡ b
unfolding moves_in
same_moves a b e = ap moves_in e

module _ (n : ℕ) (ss rs : List ℕ) (f : SortFits n ss rs) (moves : List (ℕ × ℕ)) (perm : IsPerm moves) (below : MovesBelow n moves) where
  abbrev before : List (ℕ × ℕ)
  before = sort_moves ss rs

  abbrev after : List (ℕ × ℕ)
  after = sort_moves ss (map (image moves) rs)

  anew_stays : (p : ℕ) → n ≤ p → sorted_anew ss rs moves p ≡ p
  anew_stays p h =
      ap (λ q. image after (image moves q)) (ap (source before) (sym (below_stay before n (sort_moves-below n ss rs f) p h)) ∙ (sort_moves-perm n ss rs f).back p)
      ∙ (ap (image after) (below_stay moves n below p h) ∙ below_stay after n (sort_moves-below n ss (map (image moves) rs) (fits_after n ss rs moves perm below f)) p h)

  past_all : (p : ℕ) → All (λ q. q ≢ p) (numbers_from 0 n) → n ≤ p
  past_all p none = by_side (cases_lt p n)
    where
      by_side : ((p < n) ⊎ (n ≤ p)) → n ≤ p
      by_side (inr h) = h
      by_side (inl h) = absurd (none p 0 (let e = length-numbers_from 0 n in omega (arith, e, h)) (number_at 0 n p 0 h ∙ omega arith))

  -- a permutation that sends each position as the sort undone, the moves and the sort anew do
  pub moves_anew : (r : List (ℕ × ℕ)) → IsPerm r → ((p : ℕ) → image r p ≡ image after (image moves (source before p))) → r ≡ moves_of (sorted_anew ss rs moves) (numbers_from 0 n)
  moves_anew r ok is =
      moves_same r (moves_of (sorted_anew ss rs moves) (numbers_from 0 n)) ok (sorted_anew-perm n ss rs moves perm below f)
      (λ p. is p ∙ sym (image_moves_of (sorted_anew ss rs moves) (numbers_from 0 n) p (λ none. anew_stays p (past_all p none))))

pub moves_sorted : (size : Size) (c : Intent) → IsSort c → IntentFits size c → (moves : List (ℕ × ℕ)) → IsPerm moves → MovesBelow size.rows moves → (before after : List (ℕ × ℕ)) → effect_of_intent c ≡ effect.Move before → effect_of_intent (own_past c (effect.Move moves)) ≡ effect.Move after →
    (r : List (ℕ × ℕ)) → IsPerm r → ((p : ℕ) → image r p ≡ image after (image moves (source before p))) → effect.Move r ≡ other_past size c (effect.Move moves)
moves_sorted size (intent.Sort ss rs) s f moves perm below before after b a r ok is =
    let is_before : before ≡ sort_moves ss rs = sym (same_moves (sort_moves ss rs) before b) in
    let is_after : after ≡ sort_moves ss (map (image moves) rs) = sym (ap (λ (xs : List ℕ). sort_moves xs (map (image moves) rs)) (sym (map_same ss)) ∙ same_moves (sort_moves (map (λ p. p) ss) (map (image moves) rs)) after a) in
    ap effect.Move (moves_anew size.rows ss rs f moves perm below r ok (λ p. is p ∙ (λ i. image (is_after i) (image moves (source (is_before i) p)))))
moves_sorted size (intent.Write ps) s f moves perm below before after b a r ok is = absurd s
moves_sorted size (intent.InsRow p) s f moves perm below before after b a r ok is = absurd s
moves_sorted size (intent.InsCol p) s f moves perm below before after b a r ok is = absurd s
moves_sorted size (intent.DelRow p) s f moves perm below before after b a r ok is = absurd s
moves_sorted size (intent.DelCol p) s f moves perm below before after b a r ok is = absurd s
