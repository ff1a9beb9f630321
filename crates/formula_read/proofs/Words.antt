-- words: names of functions, and addresses of cells and ranges
use Rattle.std.proofs.Common.{◌≡◌, ℕ, ◌+◌, ◌<◌, ◌≤◌, Bool, true, false, cond, ◌&&◌, nat_lt, nat_le, nat_eq, List, [], ◌∷◌, ◌++◌, length, Option, Some, None, refl, ap, sym, ◌∙◌, arith}
use Rattle.std.specs.Char.{is_ascii_alphabetic, is_ascii_digit}
use Rattle.std.specs.List.{list_all}
use Rattle.std.proofs.lemmas.Bool.{and_parts, and_from, lt-ltb, ltb-true, le-leb, leb-true}
use Rattle.std.proofs.lemmas.Bool.Decides.{nat_tests}
use Rattle.std.proofs.lemmas.List.{length-append, append-nil}
use Rattle.std.proofs.lemmas.List.Folds.{list_all-append}
use Rattle.ss_base.specs.declared.types.Spot.{Spot}
use Rattle.cell_addr.specs.Cells.{cell_of}
use Rattle.formula_tree.specs.Tokens.{is_name, is_name_byte}
use Rattle.formula_read.specs.declared.partial.Partial.{Partial}
use Rattle.formula_read.specs.declared.partial.Partial.TheVariants.{Fresh, Word}
use Rattle.formula_read.specs.declared.partial.Address.{Address}
use Rattle.formula_read.specs.declared.partial.Address.TheVariants.{Neither, Cell, Range}
use Rattle.formula_read.specs.declared.partial.Corner.{Corner}
use Rattle.formula_read.specs.declared.partial.Corner.TheVariants.{Start, Dollar, Letters, Fixed, Digits}
use Rattle.formula_read.specs.Partial.{corner_step, cell_step, cell_or_neither, range_or_neither, address_step, name_step, word, fresh_step}
use Rattle.formula_read.specs.Longest.{partial_after}
use Rattle.formula_read.proofs.Choices.{on_test, nothing, same, same_number, all_parts, letter_is_no_digit, digit_is_no_colon}
use Rattle.formula_read.proofs.Corners.{CornerHolds, corner_goes, behind_two}
use Rattle.formula_read.proofs.Addresses.{spelled_cell, cell_spelled, corner_run, corner_completes}

-- what stands before the next byte of an address
abbrev pub AddressHolds : Address → List ℕ → Type 0
AddressHolds Neither p = Unit {0}
AddressHolds (Cell c) p = CornerHolds c p
AddressHolds (Range c) p = (q : List ℕ) × (r : List ℕ) × (s : Spot) × (cell_of q ≡ Some s) × CornerHolds c r × (p ≡ q ++ 58 ∷ r)

cell_goes : (c : Corner) (p : List ℕ) (b : ℕ) → CornerHolds c p → AddressHolds (cell_or_neither (corner_step c b)) (p ++ b ∷ [])
cell_goes c p b h = by_step (corner_step c b) refl
  where
    by_step : (o : Option Corner) → corner_step c b ≡ o → AddressHolds (cell_or_neither o) (p ++ b ∷ [])
    by_step None m = tt
    by_step (Some next) m = corner_goes p b next c h m

range_goes : (c : Corner) (p : List ℕ) (b : ℕ) → AddressHolds (Range c) p → AddressHolds (range_or_neither (corner_step c b)) (p ++ b ∷ [])
range_goes c p b (q, r, s, cell, h, e) = by_step (corner_step c b) refl
  where
    by_step : (o : Option Corner) → corner_step c b ≡ o → AddressHolds (range_or_neither o) (p ++ b ∷ [])
    by_step None m = tt
    by_step (Some next) m = (q, r ++ b ∷ [], s, cell, corner_goes r b next c h m, behind_two q (58 ∷ r) (b ∷ []) e)

pub address_goes : (a : Address) (p : List ℕ) (b : ℕ) → AddressHolds a p → AddressHolds (address_step a b) (p ++ b ∷ [])
address_goes Neither p b h = tt
address_goes (Cell Start) p b h = cell_goes Start p b h
address_goes (Cell Dollar) p b h = cell_goes Dollar p b h
address_goes (Cell (Letters n)) p b h = cell_goes (Letters n) p b h
address_goes (Cell Fixed) p b h = cell_goes Fixed p b h
address_goes (Cell (Digits n)) p b h = by_colon (nat_eq b 58) refl
  where
    by_colon : (t : Bool) → nat_eq b 58 ≡ t → AddressHolds (cond t (Range Start) (cell_or_neither (corner_step (Digits n) b))) (p ++ b ∷ [])
    by_colon true k = let (s, e) = spelled_cell n p h in (p, [], s, e, refl, (λ i. p ++ same_number b 58 k i ∷ []))
    by_colon false k = cell_goes (Digits n) p b h
address_goes (Range c) p b h = range_goes c p b h

-- a front of a name
abbrev pub NameHolds : ℕ → List ℕ → Type 0
NameHolds n p = 0 < n → (is_name p ≡ true) × (length p ≡ n)

longer_name : (p : List ℕ) (b : ℕ) → is_name p ≡ true → is_name_byte b ≡ true → length p < 32 → is_name (p ++ b ∷ []) ≡ true
longer_name [] b h k few = absurd (cc)
longer_name (c ∷ cs) b h k few =
    let (first, rest) = and_parts (is_ascii_alphabetic c) (list_all is_name_byte cs && nat_le (length cs) 31) h in
    let (all, _) = and_parts (list_all is_name_byte cs) (nat_le (length cs) 31) rest in
    and_from _ _ first (and_from _ _ (list_all-append is_name_byte cs (b ∷ []) ∙ and_from _ _ all (and_from _ _ k refl))
    (le-leb _ _ (let size = length-append cs (b ∷ []) in omega arith)))

pub name_goes : (n : ℕ) (p : List ℕ) (b : ℕ) → NameHolds n p → NameHolds (name_step n b) (p ++ b ∷ [])
name_goes n p b h = by_test (is_name_byte b && (nat_lt 0 n && nat_lt n 32)) refl
  where
    by_test : (t : Bool) → (is_name_byte b && (nat_lt 0 n && nat_lt n 32)) ≡ t → NameHolds (cond t (n + 1) 0) (p ++ b ∷ [])
    by_test false k = λ some. absurd (omega arith)
    by_test true k = λ _.
        let (byte, sizes) = and_parts (is_name_byte b) (nat_lt 0 n && nat_lt n 32) k in
        let (some, few) = and_parts (nat_lt 0 n) (nat_lt n 32) sizes in
        let (name, size) = h (ltb-true 0 n some) in
        let short : n < 32 = ltb-true n 32 few in
        (longer_name p b name byte (omega arith), length-append p (b ∷ []) ∙ (omega arith))

-- a word that is alive
abbrev pub IsWord : ℕ → Address → Type 0
IsWord n Neither = 0 < n
IsWord n a = Unit {0}

pub word_is : (n : ℕ) (a : Address) (s : Partial) → word n a ≡ Some s → (Word n a ≡ s) × IsWord n a
word_is n Neither s m = on_test (nat_lt 0 n) _ _ s m (λ k m. (same m, ltb-true 0 n k)) (λ _ m. nothing m)
word_is n (Cell c) s m = (same m, tt)
word_is n (Range c) s m = (same m, tt)

-- an address and a name's length after more bytes
abbrev pub follow : Address → List ℕ → Address
follow a [] = a
follow a (b ∷ bs) = follow (address_step a b) bs

abbrev pub name_length : ℕ → List ℕ → ℕ
name_length n [] = n
name_length n (b ∷ bs) = name_length (name_step n b) bs

follow-append : (a : Address) (xs ys : List ℕ) → follow a (xs ++ ys) ≡ follow (follow a xs) ys
follow-append a [] ys = refl
follow-append a (x ∷ xs) ys = follow-append (address_step a x) xs ys

no_name : (b : ℕ) → name_step 0 b ≡ 0
no_name b = by_test (is_name_byte b)
  where
    by_test : (t : Bool) → cond (t && (nat_lt 0 0 && nat_lt 0 32)) (0 + 1) 0 ≡ 0
    by_test true = refl
    by_test false = refl

gone : (n : ℕ) (bs : List ℕ) → n ≡ 0 → word (name_length n bs) (follow Neither bs) ≡ None
gone n [] z = rw z refl
gone n (b ∷ bs) z = gone (name_step n b) bs (ap (λ m. name_step m b) z ∙ no_name b)

-- a word is followed by its two parts
abbrev IsFollowed : ℕ → Address → List ℕ → Type 0
IsFollowed n a bs = word n a ≡ Some (Word n a) → partial_after (Some (Word n a)) bs ≡ word (name_length n bs) (follow a bs)

run_from : (n : ℕ) (a : Address) (bs : List ℕ) → IsFollowed n a bs → partial_after (word n a) bs ≡ word (name_length n bs) (follow a bs)
run_from n Neither bs alive = by_some (nat_lt 0 n) refl
  where
    by_some : (t : Bool) → nat_lt 0 n ≡ t → partial_after (cond t (Some (Word n Neither)) None) bs ≡ word (name_length n bs) (follow Neither bs)
    by_some true k = alive (ap (λ (t : Bool). cond t (Some (Word n Neither)) None) k)
    by_some false k = sym (gone n bs (grind (arith, nat_tests)))
run_from n (Cell c) bs alive = alive refl
run_from n (Range c) bs alive = alive refl

run_alive : (n : ℕ) (a : Address) (bs : List ℕ) → IsFollowed n a bs
run_alive n a [] h = sym h
run_alive n a (b ∷ bs) h = run_from (name_step n b) (address_step a b) bs (run_alive (name_step n b) (address_step a b) bs)

pub run_word : (n : ℕ) (a : Address) (bs : List ℕ) → partial_after (word n a) bs ≡ word (name_length n bs) (follow a bs)
run_word n a bs = run_from n a bs (run_alive n a bs)

-- the first byte of a word
begin_letter : (b : ℕ) → is_ascii_alphabetic b ≡ true → fresh_step b ≡ word 1 (Cell (Letters 1))
begin_letter b h = rw (letter_is_no_digit b h, h)

begin_address : (b : ℕ) (c : Corner) → corner_step Start b ≡ Some c → (n : ℕ) × (fresh_step b ≡ word n (Cell c))
begin_address b c m = on_test (is_ascii_alphabetic b) _ _ c m
    (λ k m. (1, begin_letter b k ∙ (λ i. word 1 (Cell (same m i)))))
    (λ _ m. on_test (nat_eq b 36) _ _ c m (λ k m. (0, ap fresh_step (same_number b 36 k) ∙ (λ i. word 0 (Cell (same m i))))) (λ _ m. nothing m))

-- bytes that go on with a cell's address, behind a colon or before any
cell_follows : (c : Corner) (b : ℕ) (next : Corner) → corner_step c b ≡ Some next → cell_step c b ≡ Cell next
cell_follows Start b next m = ap cell_or_neither m
cell_follows Dollar b next m = ap cell_or_neither m
cell_follows (Letters n) b next m = ap cell_or_neither m
cell_follows Fixed b next m = ap cell_or_neither m
cell_follows (Digits n) b next m = on_test (is_ascii_digit b && nat_lt n 7) _ _ next m
    (λ k _. ap (λ (t : Bool). cond t (Range Start) (cell_or_neither (corner_step (Digits n) b))) (digit_is_no_colon b (and_parts _ _ k).0) ∙ ap cell_or_neither m)
    (λ _ m. nothing m)

pub corner_next : (c : Corner) (b : ℕ) (bs : List ℕ) (last : Corner) → corner_run (Some c) (b ∷ bs) ≡ Some last → (next : Corner) × (corner_step c b ≡ Some next) × (corner_run (Some next) bs ≡ Some last)
corner_next c b bs last h = by_step (corner_step c b) refl h
  where
    by_step : (o : Option Corner) → corner_step c b ≡ o → corner_run o bs ≡ Some last → (next : Corner) × (corner_step c b ≡ Some next) × (corner_run (Some next) bs ≡ Some last)
    by_step None m h = nothing h
    by_step (Some next) m h = (next, m, h)

pub follow_cell : (c : Corner) (bs : List ℕ) (last : Corner) → corner_run (Some c) bs ≡ Some last → follow (Cell c) bs ≡ Cell last
follow_cell c [] last h = ap Cell (same h)
follow_cell c (b ∷ bs) last h =
    let (next, m, rest) = corner_next c b bs last h in
    ap (λ (a : Address). follow a bs) (cell_follows c b next m) ∙ follow_cell next bs last rest

pub follow_range : (c : Corner) (bs : List ℕ) (last : Corner) → corner_run (Some c) bs ≡ Some last → follow (Range c) bs ≡ Range last
follow_range c [] last h = ap Range (same h)
follow_range c (b ∷ bs) last h =
    let (next, m, rest) = corner_next c b bs last h in
    ap (λ (a : Address). follow a bs) (ap range_or_neither m) ∙ follow_range next bs last rest

-- a cell's bytes, and more behind them
cell_then : (p : List ℕ) (m : ℕ) (more : List ℕ) → CornerHolds (Digits m) p → (n : ℕ) × (partial_after (Some Fresh) (p ++ more) ≡ word n (follow (Cell (Digits m)) more))
cell_then [] m more h = absurd (let clash : Some Start ≡ Some (Digits m) = corner_completes m [] h in cc)
cell_then (b ∷ bs) m more h =
    let (next, first, rest) = corner_next Start b bs (Digits m) (corner_completes m (b ∷ bs) h) in
    let (n, begins) = begin_address b next first in (
      name_length n (bs ++ more),
      ap (λ (o : Option Partial). partial_after o (bs ++ more)) begins
          ∙ (run_word n (Cell next) (bs ++ more)
          ∙ ap (word (name_length n (bs ++ more))) (follow-append (Cell next) bs more ∙ ap (λ (a : Address). follow a more) (follow_cell next bs (Digits m) rest))),
    )

pub run_cell : (p : List ℕ) (c : Spot) → cell_of p ≡ Some c → (n m : ℕ) × (partial_after (Some Fresh) p ≡ Some (Word n (Cell (Digits m))))
run_cell p c h =
    let (m, holds) = cell_spelled p c h in
    let (n, runs) = cell_then p m [] holds in
    (n, m, ap (λ (l : List ℕ). partial_after (Some Fresh) l) (sym (append-nil p)) ∙ runs)

pub run_range : (p first last : List ℕ) (a b : Spot) → p ≡ first ++ 58 ∷ last → cell_of first ≡ Some a → cell_of last ≡ Some b → (n m : ℕ) × (partial_after (Some Fresh) p ≡ Some (Word n (Range (Digits m))))
run_range p first last a b e f l =
    let (k, front) = cell_spelled first a f in
    let (m, back) = cell_spelled last b l in
    let (n, runs) = cell_then first k (58 ∷ last) front in
    (n, m, ap (λ (l : List ℕ). partial_after (Some Fresh) l) e ∙ (runs ∙ ap (word n) (follow_range Start last (Digits m) (corner_completes m last back))))

-- a name's bytes
name_follows : (n : ℕ) (bs : List ℕ) → 0 < n → n + length bs ≤ 32 → list_all is_name_byte bs ≡ true → name_length n bs ≡ n + length bs
name_follows n [] some few all = omega arith
name_follows n (b ∷ bs) some few all =
    let (here, more) = all_parts is_name_byte b bs all in
    let longer : name_step n b ≡ n + 1 = rw (here, lt-ltb 0 n some, lt-ltb n 32 (omega arith)) in
    ap (λ (k : ℕ). name_length k bs) longer ∙ (name_follows (n + 1) bs (omega arith) (omega arith) more ∙ (omega arith))

word_some : (n : ℕ) (a : Address) → 0 < n → word n a ≡ Some (Word n a)
word_some n Neither h = rw (lt-ltb 0 n h)
word_some n (Cell c) h = refl
word_some n (Range c) h = refl

pub run_name : (p : List ℕ) → is_name p ≡ true → (n : ℕ) × (a : Address) × (0 < n) × (partial_after (Some Fresh) p ≡ Some (Word n a))
run_name [] h = absurd (cc)
run_name (b ∷ bs) h =
    let (letter, rest) = and_parts (is_ascii_alphabetic b) (list_all is_name_byte bs && nat_le (length bs) 31) h in
    let (all, few) = and_parts (list_all is_name_byte bs) (nat_le (length bs) 31) rest in
    let short : length bs ≤ 31 = leb-true _ _ few in
    let size = name_follows 1 bs (omega arith) (omega arith) all in
    let a = follow (Cell (Letters 1)) bs in (
      1 + length bs,
      a,
      omega arith,
      ap (λ (o : Option Partial). partial_after o bs) (begin_letter b letter)
          ∙ (run_word 1 (Cell (Letters 1)) bs ∙ (ap (λ (n : ℕ). word n a) size ∙ word_some (1 + length bs) a (omega arith))),
    )
