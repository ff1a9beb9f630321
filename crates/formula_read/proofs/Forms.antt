-- the reader of tokens is somewhere exactly after the fronts of tokens, and ends a token exactly where one fits
use Rattle.std.proofs.Common.{◌≡◌, ℕ, ◌+◌, ◌-◌, ◌*◌, ◌^◌, ◌<◌, ◌≤◌, Bool, true, false, cond, ◌&&◌, nat_lt, nat_eq, List, [], ◌∷◌, ◌++◌, length, take, drop, Option, Some, None, refl, ap, sym, ◌∙◌, subst, append_assoc, arith}
use Rattle.std.specs.Char.{is_ascii_digit, digit_value}
use Rattle.std.specs.List.{list_all}
use Rattle.std.specs.Str.Parse.{AllDigits, digits_value, digits_value_after}
use Rattle.std.proofs.lemmas.Bool.{and_parts, lt-ltb, ltb-true}
use Rattle.std.proofs.lemmas.List.{append-nil, take-append-drop}
use Rattle.ss_base.specs.declared.types.Spot.{Spot}
use Rattle.ss_base.specs.declared.types.CalcErr.{CalcErr}
use Rattle.ss_base.specs.declared.types.CalcErr.TheVariants.{Div0, Na, NoName, BadNum, Lost, BadKind, Circ}
use Rattle.cell_addr.specs.Cells.{cell_of, range_between}
use Rattle.formula_tree.specs.declared.operators.BinOp.{BinOp}
use Rattle.formula_tree.specs.declared.operators.BinOp.TheVariants.{Pow, Mul, Div, Add, Sub, Join, Eq, Ne, Lt, Le, Gt, Ge}
use Rattle.formula_tree.specs.Tokens.{TokenValue, Spells, Follows, Fits, SpellsRange, doubled, is_printable, is_name, error_name, sign_text, upper_case}
use Rattle.formula_tree.specs.Tokens as token
use Rattle.formula_read.specs.declared.kinds.TokenKind.{TokenKind}
use Rattle.formula_read.specs.declared.kinds.TokenKind.TheVariants as kind
use Rattle.formula_read.specs.declared.partial.Partial.{Partial}
use Rattle.formula_read.specs.declared.partial.Partial.TheVariants.{Fresh, Numeral, Quoted, Closed, Hash, HashN, Error, Word, Less, Greater, Whole}
use Rattle.formula_read.specs.declared.partial.Address.{Address}
use Rattle.formula_read.specs.declared.partial.Address.TheVariants.{Neither, Cell, Range}
use Rattle.formula_read.specs.declared.partial.Corner.{Corner}
use Rattle.formula_read.specs.declared.partial.Corner.TheVariants.{Start, Dollar, Letters, Fixed, Digits}
use Rattle.formula_read.specs.Partial.{partial_step, fresh_step, numeral_step, quoted_step, address_kind, is_open, kind_at}
use Rattle.formula_read.specs.Longest.{partial_after, first_byte}
use Rattle.formula_read.specs.Read.{token_kind}
use Rattle.formula_read.proofs.Choices.{on_test, nothing, same, same_number, all_parts, value_of_digit, is_digit_by_value}
use Rattle.formula_read.proofs.Corners.{CornerHolds, corner_goes}
use Rattle.formula_read.proofs.Addresses.{spelled_cell}
use Rattle.formula_read.proofs.Words.{AddressHolds, NameHolds, IsWord, run_cell, run_range, run_name}
use Rattle.formula_read.proofs.States.{Holds, goes}

pub run-append : (o : Option Partial) (xs ys : List ℕ) → partial_after o (xs ++ ys) ≡ partial_after (partial_after o xs) ys
run-append None xs ys = refl
run-append (Some s) [] ys = refl
run-append (Some s) (x ∷ xs) ys = run-append (partial_step s x) xs ys

-- what the reader has read is what its state says
pub run_holds : (s : Partial) (p q : List ℕ) (last : Partial) → Holds s p → partial_after (Some s) q ≡ Some last → Holds last (p ++ q)
run_holds s p [] last h m = subst (λ (t : Partial). Holds t (p ++ [])) (same m) (subst (λ (l : List ℕ). Holds s l) (sym (append-nil p)) h)
run_holds s p (b ∷ bs) last h m = by_step (partial_step s b) refl m (λ next h m. run_holds next (p ++ b ∷ []) bs last h m)
  where
    by_step : (o : Option Partial) → partial_step s b ≡ o → partial_after o bs ≡ Some last →
        ((next : Partial) → Holds next (p ++ b ∷ []) → partial_after (Some next) bs ≡ Some last → Holds last ((p ++ b ∷ []) ++ bs)) → Holds last (p ++ b ∷ bs)
    by_step None k m rest = nothing m
    by_step (Some next) k m rest = subst (λ (l : List ℕ). Holds last l) (append_assoc p (b ∷ []) bs) (rest next (goes p b next s h k) m)

pub fresh_holds : (p : List ℕ) (s : Partial) → partial_after (Some Fresh) p ≡ Some s → Holds s p
fresh_holds p s m = run_holds Fresh [] p s refl m

-- a token that ends where the reader says so
abbrev pub FitsAs : List ℕ → List ℕ → TokenKind → Type 0
FitsAs p r k = (t : TokenValue) × Fits p t r × (token_kind t ≡ k)

opens : (r : List ℕ) → is_open (first_byte r) ≡ true → (more : List ℕ) × (r ≡ 40 ∷ more)
opens [] h = absurd (cc)
opens (b ∷ bs) h = (bs, λ i. same_number b 40 h i ∷ bs)

address_fits : (a : Address) (p r : List ℕ) (k : TokenKind) → AddressHolds a p → address_kind a ≡ Some k → FitsAs p r k
address_fits (Cell (Digits n)) p r k h m = let (c, e) = spelled_cell n p h in (token.cell c, (e, tt), same m)
address_fits (Range (Digits n)) p r k (first, last, a, cell, h, e) m =
    let (b, f) = spelled_cell n last h in
    (token.range (range_between a b), ((first, last, a, b, e, cell, f, refl), tt), same m)
address_fits a p r k h m = nothing m

pub sound : (s : Partial) (p r : List ℕ) (k : TokenKind) → Holds s p → kind_at s (first_byte r) ≡ Some k → FitsAs p r k
sound (Numeral v) p r k h m = (token.numeral v, (h, tt), same m)
sound Closed p r k (t, e, all) m = (token.text t, ((e, all), tt), same m)
sound (Error e n) p r k h m = on_test (nat_eq n (length (error_name e))) _ _ k m
    (λ t m. (token.fault e, (h.0 ∙ (ap (λ (n : ℕ). take n (error_name e)) (same_number _ _ t) ∙ whole (error_name e)), tt), same m))
    (λ _ m. nothing m)
  where
    whole : (xs : List ℕ) → take (length xs) xs ≡ xs
    whole [] = refl
    whole (x ∷ xs) = ap (λ (l : List ℕ). x ∷ l) (whole xs)
sound (Word n a) p r k h m = on_test (nat_lt 0 n && is_open (first_byte r)) _ _ k m
    (λ t m. let (some, open') = and_parts (nat_lt 0 n) (is_open (first_byte r)) t in
    let (name, size) = h.0 (ltb-true 0 n some) in
    (token.name (upper_case p), ((name, refl), opens r open'), same m))
    (λ _ m. address_fits a p r k h.1 m)
sound Less p r k h m = (token.sign Lt, (h, tt), same m)
sound Greater p r k h m = (token.sign Gt, (h, tt), same m)
sound (Whole j) p r k (t, spells, e, follows) m = (t, (spells, follows r), e ∙ same m)
sound s p r k h m = nothing m

-- the reader ends a token here
abbrev pub Ends : List ℕ → List ℕ → TokenKind → Type 0
Ends p r k = (s : Partial) × (partial_after (Some Fresh) p ≡ Some s) × (kind_at s (first_byte r) ≡ Some k)

-- more digits make no number less
after_ge : (n : ℕ) (ds : List ℕ) → n ≤ digits_value_after 10 n ds
after_ge n [] = omega arith
after_ge n (d ∷ ds) = let more = after_ge (n * 10 + digit_value d) ds in omega arith

numeral_more : (v d : ℕ) → is_ascii_digit d ≡ true → v * 10 + digit_value d < 2 ^ 63 → numeral_step v d ≡ Some (Numeral (v * 10 + digit_value d))
numeral_more v d h k =
    let value = value_of_digit d h in
    let few : v * 10 + (d - 48) < 2 ^ 63 = omega arith in
    rw (h, lt-ltb (v * 10 + (d - 48)) (2 ^ 63) few) (ap (λ (n : ℕ). Some (Numeral (v * 10 + n))) (sym value))

numeral_run : (v : ℕ) (ds : List ℕ) → AllDigits 10 ds → digits_value_after 10 v ds < 2 ^ 63 → partial_after (Some (Numeral v)) ds ≡ Some (Numeral (digits_value_after 10 v ds))
numeral_run v [] h few = refl
numeral_run v (d ∷ ds) h few =
    let least = after_ge (v * 10 + digit_value d) ds in
    ap (λ (o : Option Partial). partial_after o ds) (numeral_more v d (is_digit_by_value d h.0) (omega arith)) ∙ numeral_run (v * 10 + digit_value d) ds h.1 few

begin_numeral : (d : ℕ) → is_ascii_digit d ≡ true → fresh_step d ≡ Some (Numeral (0 * 10 + digit_value d))
begin_numeral d h = rw h (λ i. Some (Numeral (same_value i)))
  where
    same_value : d - 48 ≡ 0 * 10 + digit_value d
    same_value = let value = value_of_digit d h in omega arith

text_run : (t : List ℕ) → list_all is_printable t ≡ true → partial_after (Some Quoted) (doubled t ++ 34 ∷ []) ≡ Some Closed
text_run [] h = refl
text_run (b ∷ bs) h = let (here, more) = all_parts is_printable b bs h in by_quote (nat_eq b 34) refl here (text_run bs more)
  where
    by_quote : (t : Bool) → nat_eq b 34 ≡ t → is_printable b ≡ true → partial_after (Some Quoted) (doubled bs ++ 34 ∷ []) ≡ Some Closed →
        partial_after (Some Quoted) (cond t (34 ∷ 34 ∷ doubled bs) (b ∷ doubled bs) ++ 34 ∷ []) ≡ Some Closed
    by_quote true k here rest = rest
    by_quote false k here rest = ap (λ (o : Option Partial). partial_after o (doubled bs ++ 34 ∷ [])) goes_on ∙ rest
      where
        goes_on : quoted_step b ≡ Some Quoted
        goes_on = rw (k, here)

error_run : (e : CalcErr) → partial_after (Some Fresh) (error_name e) ≡ Some (Error e (length (error_name e)))
error_run Div0 = refl
error_run Na = refl
error_run NoName = refl
error_run BadNum = refl
error_run Lost = refl
error_run BadKind = refl
error_run Circ = refl

error_kind : (e : CalcErr) (next : Option ℕ) → kind_at (Error e (length (error_name e))) next ≡ Some kind.Error
error_kind Div0 next = refl
error_kind Na next = refl
error_kind NoName next = refl
error_kind BadNum next = refl
error_kind Lost next = refl
error_kind BadKind next = refl
error_kind Circ next = refl

sign_run : (op : BinOp) → (s : Partial) × (partial_after (Some Fresh) (sign_text op) ≡ Some s) × ((next : Option ℕ) → kind_at s next ≡ Some kind.Sign)
sign_run Pow = (Whole kind.Sign, refl, λ next. refl)
sign_run Mul = (Whole kind.Sign, refl, λ next. refl)
sign_run Div = (Whole kind.Sign, refl, λ next. refl)
sign_run Add = (Whole kind.Sign, refl, λ next. refl)
sign_run Sub = (Whole kind.Sign, refl, λ next. refl)
sign_run Join = (Whole kind.Sign, refl, λ next. refl)
sign_run Eq = (Whole kind.Sign, refl, λ next. refl)
sign_run Ne = (Whole kind.Sign, refl, λ next. refl)
sign_run Lt = (Less, refl, λ next. refl)
sign_run Le = (Whole kind.Sign, refl, λ next. refl)
sign_run Gt = (Greater, refl, λ next. refl)
sign_run Ge = (Whole kind.Sign, refl, λ next. refl)

-- bytes that spell a token are read to the end of one
whole_word : (n : ℕ) (a : Address) (next : Option ℕ) (k : TokenKind) → address_kind a ≡ Some k → (j : TokenKind) × (kind_at (Word n a) next ≡ Some j)
whole_word n a next k h = by_test (nat_lt 0 n && is_open next)
  where
    by_test : (t : Bool) → (j : TokenKind) × (cond t (Some kind.Name) (address_kind a) ≡ Some j)
    by_test true = (kind.Name, refl)
    by_test false = (k, h)

pub name_ends : (p n r : List ℕ) → Fits p (token.name n) r → Ends p r kind.Name
name_ends p n r ((name, _), (more, e)) =
    let (m, a, some, runs) = run_name p name in
    (Word m a, runs, ap (λ (r : List ℕ). kind_at (Word m a) (first_byte r)) e ∙ ap (λ (t : Bool). cond (t && true) (Some kind.Name) (address_kind a)) (lt-ltb 0 m some))

-- a token that is no word
abbrev pub is_plain : TokenValue → Bool
is_plain (token.cell c) = false
is_plain (token.range r) = false
is_plain (token.name n) = false
is_plain t = true

pub plain_ends : (p : List ℕ) (t : TokenValue) (r : List ℕ) → is_plain t ≡ true → Fits p t r → Ends p r (token_kind t)
plain_ends [] (token.numeral n) r _ h = absurd (let some = h.0.0.0 in omega arith)
plain_ends (d ∷ ds) (token.numeral n) r _ ((digits, e, few), _) = (
  Numeral (digits_value 10 (d ∷ ds)),
  ap (λ (o : Option Partial). partial_after o ds) (begin_numeral d (is_digit_by_value d digits.1.0)) ∙ numeral_run (0 * 10 + digit_value d) ds digits.1.1 (let value = e in omega arith),
  refl,
)
plain_ends p (token.text t) r _ ((e, all), _) = (Closed, ap (λ (l : List ℕ). partial_after (Some Fresh) l) e ∙ text_run t all, refl)
plain_ends p (token.fault e) r _ (h, _) = (Error e (length (error_name e)), ap (λ (l : List ℕ). partial_after (Some Fresh) l) h ∙ error_run e, error_kind e (first_byte r))
plain_ends p (token.sign op) r _ (h, _) =
    let (s, runs, ends) = sign_run op in
    (s, ap (λ (l : List ℕ). partial_after (Some Fresh) l) h ∙ runs, ends (first_byte r))
plain_ends p token.opening r _ (h, _) = (Whole kind.Open, ap (λ (l : List ℕ). partial_after (Some Fresh) l) h, refl)
plain_ends p token.closing r _ (h, _) = (Whole kind.Close, ap (λ (l : List ℕ). partial_after (Some Fresh) l) h, refl)
plain_ends p token.semicolon r _ (h, _) = (Whole kind.Semi, ap (λ (l : List ℕ). partial_after (Some Fresh) l) h, refl)
plain_ends p t r plain h = absurd (cc)

pub complete : (p : List ℕ) (t : TokenValue) (r : List ℕ) → Fits p t r → (k : TokenKind) × Ends p r k
complete p (token.cell c) r (h, _) =
    let (n, m, runs) = run_cell p c h in
    let (k, ends) = whole_word n (Cell (Digits m)) (first_byte r) kind.Cell refl in
    (k, (Word n (Cell (Digits m)), runs, ends))
complete p (token.range s) r ((first, last, a, b, e, f, l, _), _) =
    let (n, m, runs) = run_range p first last a b e f l in
    let (k, ends) = whole_word n (Range (Digits m)) (first_byte r) kind.Range refl in
    (k, (Word n (Range (Digits m)), runs, ends))
complete p (token.name n) r h = (kind.Name, name_ends p n r h)
complete p t r h = (token_kind t, plain_ends p t r refl h)

-- every front of an address is one's
corner_ends : (c : Corner) (p : List ℕ) → CornerHolds c p → (y : List ℕ) × (s : Spot) × (cell_of (p ++ y) ≡ Some s)
corner_ends Start p h = (65 ∷ 49 ∷ [], record { row = 0; col = 0; abs_row = false; abs_col = false }, ap (λ (l : List ℕ). cell_of (l ++ 65 ∷ 49 ∷ [])) h)
corner_ends Dollar p h = (65 ∷ 49 ∷ [], record { row = 0; col = 0; abs_row = false; abs_col = true }, ap (λ (l : List ℕ). cell_of (l ++ 65 ∷ 49 ∷ [])) h)
corner_ends (Letters n) p h = let (s, e) = spelled_cell 1 (p ++ 49 ∷ []) (corner_goes p 49 (Digits 1) (Letters n) h refl) in (49 ∷ [], s, e)
corner_ends Fixed p h = let (s, e) = spelled_cell 1 (p ++ 49 ∷ []) (corner_goes p 49 (Digits 1) Fixed h refl) in (49 ∷ [], s, e)
corner_ends (Digits m) p h = let (s, e) = spelled_cell m p h in ([], s, ap cell_of (append-nil p) ∙ e)

address_ends : (n : ℕ) (a : Address) (p : List ℕ) → NameHolds n p → AddressHolds a p → IsWord n a → (y : List ℕ) × (t : TokenValue) × Spells (p ++ y) t
address_ends n Neither p name h some = let (is, _) = name some in ([], token.name (upper_case (p ++ [])), (ap (λ (l : List ℕ). is_name l) (append-nil p) ∙ is, refl))
address_ends n (Cell c) p name h some = let (y, s, e) = corner_ends c p h in (y, token.cell s, e)
address_ends n (Range c) p name (q, r, a, cell, h, e) some =
    let (y, b, f) = corner_ends c r h in
    (y, token.range (range_between a b), (q, r ++ y, a, b, (λ i. e i ++ y) ∙ append_assoc q (58 ∷ r) y, cell, f, refl))

-- every front of a token is one's
pub completes : (s : Partial) (p : List ℕ) → Holds s p → (y : List ℕ) × (t : TokenValue) × Spells (p ++ y) t
completes Fresh p h = (40 ∷ [], token.opening, (λ i. h i ++ 40 ∷ []))
completes (Numeral v) p h = ([], token.numeral v, subst (λ (l : List ℕ). Spells l (token.numeral v)) (sym (append-nil p)) h)
completes Quoted p (t, e, all) = (34 ∷ [], token.text t, ((λ i. e i ++ 34 ∷ []), all))
completes Closed p (t, e, all) = ([], token.text t, (append-nil p ∙ e, all))
completes Hash p h = (78 ∷ 47 ∷ 65 ∷ [], token.fault Na, (λ i. h i ++ 78 ∷ 47 ∷ 65 ∷ []))
completes HashN p h = (47 ∷ 65 ∷ [], token.fault Na, (λ i. h i ++ 47 ∷ 65 ∷ []))
completes (Error e n) p h = (drop n (error_name e), token.fault e, (λ i. h.0 i ++ drop n (error_name e)) ∙ take-append-drop n (error_name e))
completes (Word n a) p (name, address, alive) = address_ends n a p name address alive
completes Less p h = ([], token.sign Lt, append-nil p ∙ h)
completes Greater p h = ([], token.sign Gt, append-nil p ∙ h)
completes (Whole k) p (t, spells, _, _) = ([], t, subst (λ (l : List ℕ). Spells l t) (sym (append-nil p)) spells)
