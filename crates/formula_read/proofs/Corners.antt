-- addresses of cells, byte by byte
use Rattle.std.proofs.Common.{◌≡◌, ℕ, ◌+◌, ◌≤◌, Bool, true, false, ◌&&◌, nat_lt, nat_eq, List, [], ◌∷◌, ◌++◌, length, Some, refl, ap, sym, ◌∙◌, subst, append_assoc, arith}
use Rattle.std.specs.Char.{is_ascii_alphabetic, is_ascii_digit}
use Rattle.std.specs.Int.{is_in_range}
use Rattle.std.specs.List.{list_all}
use Rattle.std.proofs.lemmas.Bool.{and_parts, and_from, le-leb, leb-true}
use Rattle.std.proofs.lemmas.Bool.Decides.{nat_tests}
use Rattle.std.proofs.lemmas.List.{append-nil, length-append}
use Rattle.std.proofs.lemmas.List.Folds.{list_all-append}
use Rattle.cell_addr.specs.Rows.{is_count}
use Rattle.cell_addr.specs.Cells.{dollar}
use Rattle.formula_read.specs.declared.partial.Corner.{Corner}
use Rattle.formula_read.specs.declared.partial.Corner.TheVariants.{Start, Dollar, Letters, Fixed, Digits}
use Rattle.formula_read.specs.Partial.{corner_step, first_digit}
use Rattle.formula_read.proofs.Choices.{on_test, nothing, same, same_number, first_is_digit}

-- 1 to 3 letters
pub record IsColumn (n : ℕ) (ls : List ℕ) : Type 0 where
  pub letters : list_all is_ascii_alphabetic ls ≡ true
  pub size : length ls ≡ n
  pub some : 1 ≤ n
  pub few : n ≤ 3

-- a row number
pub record IsRow (m : ℕ) (ds : List ℕ) : Type 0 where
  pub count : is_count ds ≡ true
  pub size : length ds ≡ m

-- what stands before the next byte of an address
abbrev pub CornerHolds : Corner → List ℕ → Type 0
CornerHolds Start p = p ≡ []
CornerHolds Dollar p = p ≡ 36 ∷ []
CornerHolds (Letters n) p = (d : Bool) × (ls : List ℕ) × IsColumn n ls × (p ≡ dollar d ++ ls)
CornerHolds Fixed p = (d : Bool) × (ls : List ℕ) × (n : ℕ) × IsColumn n ls × (p ≡ dollar d ++ (ls ++ 36 ∷ []))
CornerHolds (Digits m) p =
    (d : Bool) × (ls : List ℕ) × (n : ℕ) × (e : Bool) × (ds : List ℕ) × IsColumn n ls × IsRow m ds × (p ≡ dollar d ++ (ls ++ (dollar e ++ ds)))

pub one_letter : (b : ℕ) → is_ascii_alphabetic b ≡ true → IsColumn 1 (b ∷ [])
one_letter b h = record { letters = and_from _ _ h refl; size = refl; some = omega arith; few = omega arith }

one_more_letter : (n : ℕ) (ls : List ℕ) (b : ℕ) → IsColumn n ls → is_ascii_alphabetic b ≡ true → nat_lt n 3 ≡ true → IsColumn (n + 1) (ls ++ b ∷ [])
one_more_letter n ls b c h few = record {
  letters = list_all-append is_ascii_alphabetic ls (b ∷ []) ∙ and_from _ _ c.letters (and_from _ _ h refl);
  size = length-append ls (b ∷ []) ∙ (let size = c.size in omega arith);
  some = (let some = c.some in omega arith);
  few = grind (arith, nat_tests);
}

one_digit : (b : ℕ) → is_in_range 49 57 b ≡ true → IsRow 1 (b ∷ [])
one_digit b h = record { count = and_from _ _ h (and_from _ _ (and_from _ _ (first_is_digit b h) refl) refl); size = refl }

-- the parts of a count's test
pub count_parts : (d : ℕ) (ds : List ℕ) → is_count (d ∷ ds) ≡ true → (is_in_range 49 57 d ≡ true) × (list_all is_ascii_digit (d ∷ ds) ≡ true) × (length (d ∷ ds) ≤ 7)
count_parts d ds h =
    let (first, rest) = and_parts _ _ h in
    let (all, few) = and_parts _ _ rest in
    (first, all, leb-true _ _ few)

count_from : (d : ℕ) (ds : List ℕ) → is_in_range 49 57 d ≡ true → list_all is_ascii_digit (d ∷ ds) ≡ true → length (d ∷ ds) ≤ 7 → is_count (d ∷ ds) ≡ true
count_from d ds first all few = and_from _ _ first (and_from _ _ all (le-leb _ _ few))

one_more_digit : (m : ℕ) (ds : List ℕ) (b : ℕ) → IsRow m ds → is_ascii_digit b ≡ true → nat_lt m 7 ≡ true → IsRow (m + 1) (ds ++ b ∷ [])
one_more_digit m [] b r h few = absurd (let count = r.count in cc)
one_more_digit m (d ∷ ds) b r h few =
    let (first, all, short) = count_parts d ds r.count in
    let size : length (d ∷ ds ++ b ∷ []) ≡ m + 1 = length-append (d ∷ ds) (b ∷ []) ∙ (let size = r.size in omega arith) in
    record {
      count = count_from d (ds ++ b ∷ []) first (list_all-append is_ascii_digit (d ∷ ds) (b ∷ []) ∙ and_from _ _ all (and_from _ _ h refl)) (grind (arith, nat_tests));
      size = size;
    }

-- more bytes behind the last of two parts, or the last of three
pub behind_two : {p : List ℕ} (a b x : List ℕ) → p ≡ a ++ b → p ++ x ≡ a ++ (b ++ x)
behind_two a b x e = (λ i. e i ++ x) ∙ append_assoc a b x

behind_three : {p : List ℕ} (a b c x : List ℕ) → p ≡ a ++ (b ++ c) → p ++ x ≡ a ++ (b ++ (c ++ x))
behind_three a b c x e = behind_two a (b ++ c) x e ∙ ap (λ (l : List ℕ). a ++ l) (append_assoc b c x)

behind_four : {p : List ℕ} (a b c d x : List ℕ) → p ≡ a ++ (b ++ (c ++ d)) → p ++ x ≡ a ++ (b ++ (c ++ (d ++ x)))
behind_four a b c d x e = behind_three a b (c ++ d) x e ∙ ap (λ (l : List ℕ). a ++ (b ++ l)) (append_assoc c d x)

module _ (p : List ℕ) (b : ℕ) (next : Corner) where
  at_next : {c : Corner} → Some c ≡ Some next → CornerHolds c (p ++ b ∷ []) → CornerHolds next (p ++ b ∷ [])
  at_next m h = subst (λ (c : Corner). CornerHolds c (p ++ b ∷ [])) (same m) h

  -- a first digit behind a column and perhaps a `$`
  row_begins : (d : Bool) (ls : List ℕ) (n : ℕ) (e : Bool) → IsColumn n ls → p ≡ dollar d ++ (ls ++ dollar e) → first_digit b ≡ Some next → CornerHolds next (p ++ b ∷ [])
  row_begins d ls n e c q m = on_test (is_in_range 49 57 b) _ _ next m
      (λ k m. at_next m (d, ls, n, e, b ∷ [], c, one_digit b k, behind_three (dollar d) ls (dollar e) (b ∷ []) q))
      (λ _ m. nothing m)

  pub corner_goes : (c : Corner) → CornerHolds c p → corner_step c b ≡ Some next → CornerHolds next (p ++ b ∷ [])
  corner_goes Start h m = on_test (is_ascii_alphabetic b) _ _ next m
      (λ k m. at_next m (false, b ∷ [], one_letter b k, (λ i. h i ++ b ∷ [])))
      (λ _ m. on_test (nat_eq b 36) _ _ next m (λ k m. at_next m (λ i. h i ++ same_number b 36 k i ∷ [])) (λ _ m. nothing m))
  corner_goes Dollar h m = on_test (is_ascii_alphabetic b) _ _ next m
      (λ k m. at_next m (true, b ∷ [], one_letter b k, (λ i. h i ++ b ∷ [])))
      (λ _ m. nothing m)
  corner_goes (Letters n) (d, ls, c, q) m = on_test (is_ascii_alphabetic b) _ _ next m
      (λ k m. on_test (nat_lt n 3) _ _ next m
      (λ few m. at_next m (d, ls ++ b ∷ [], one_more_letter n ls b c k few, behind_two (dollar d) ls (b ∷ []) q))
      (λ _ m. nothing m))
      (λ _ m. on_test (nat_eq b 36) _ _ next m
      (λ k m. at_next m (d, ls, n, c, behind_two (dollar d) ls (b ∷ []) q ∙ (λ i. dollar d ++ (ls ++ same_number b 36 k i ∷ []))))
      (λ _ m. row_begins d ls n false c (q ∙ ap (λ (l : List ℕ). dollar d ++ l) (sym (append-nil ls))) m))
  corner_goes Fixed (d, ls, n, c, q) m = row_begins d ls n true c q m
  corner_goes (Digits k) (d, ls, n, e, ds, c, r, q) m = on_test (is_ascii_digit b && nat_lt k 7) _ _ next m
      (λ t m. let (digit, few) = and_parts _ _ t in
      at_next m (d, ls, n, e, ds ++ b ∷ [], c, one_more_digit k ds b r digit few, behind_four (dollar d) ls (dollar e) ds (b ∷ []) q))
      (λ _ m. nothing m)
