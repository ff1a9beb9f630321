-- a formula's text is read byte by byte
use Rattle.std.proofs.Common.{◌≡◌, ◌≢◌, ℕ, ◌+◌, Bool, true, false, cond, ◌&&◌, ◌||◌, nat_lt, nat_eq, List, [], ◌∷◌, ◌++◌, length, Option, Some, None, refl, ap, sym, ◌∙◌, subst, arith, inl, inr}
use Rattle.std.specs.Prelude.{◌⊎◌, option_map, option_and_then, slice_index}
use Rattle.std.specs.Option.{option_zip}
use Rattle.std.specs.Int.{is_in_range}
use Rattle.std.specs.Char.{is_ascii_alphabetic, is_ascii_digit}
use Rattle.std.proofs.lemmas.Bool.{or_left, and_parts, or_cases}
use Rattle.std.proofs.lemmas.Bool.Decides.{nat_tests}
use Rattle.ss_base.specs.declared.types.CalcErr.{CalcErr}
use Rattle.ss_base.specs.declared.types.CalcErr.TheVariants.{Div0, Na, NoName, BadNum, Lost, BadKind, Circ}
use Rattle.formula_tree.specs.declared.operators.BinOp.{BinOp}
use Rattle.formula_tree.specs.declared.operators.BinOp.TheVariants.{Pow, Mul, Div, Add, Sub, Join, Eq, Ne, Lt, Le, Gt, Ge}
use Rattle.formula_tree.specs.Tokens.{TokenValue, Spells, Follows, Fits, IsNext, is_name, is_name_byte, sign_text, error_name}
use Rattle.formula_tree.specs.Tokens as token
use Rattle.formula_tree.specs.Lexing.{Lexeme, Lexes, space_count, past_spaces}
use Rattle.formula_tree.specs.Lexing as cut
use Rattle.formula_read.specs.declared.kinds.TokenKind.{TokenKind}
use Rattle.formula_read.specs.declared.kinds.TokenKind.TheVariants as kind
use Rattle.formula_read.specs.declared.partial.Partial.{Partial}
use Rattle.formula_read.specs.declared.partial.Partial.TheVariants.{Fresh, Numeral, Closed, Error, Word, Less, Greater, Whole}
use Rattle.formula_read.specs.declared.partial.Address.{Address}
use Rattle.formula_read.specs.declared.partial.Address.TheVariants.{Neither, Cell, Range}
use Rattle.formula_read.specs.declared.partial.Corner.{Corner}
use Rattle.formula_read.specs.declared.partial.Corner.TheVariants.{Start, Dollar, Letters, Fixed, Digits}
use Rattle.ss_base.specs.declared.types.Spot.{Spot}
use Rattle.cell_addr.specs.Cells.{cell_of}
use Rattle.formula_read.specs.Partial.{corner_step, partial_step, fresh_step, word, name_step, address_step, address_kind, is_open, cell_or_neither, range_or_neither, kind_at}
use Rattle.formula_read.specs.Longest.{partial_after, first_byte}
use Rattle.formula_tree.specs.Grammar.{IsFront, IsFormulaText}
use Rattle.formula_read.specs.Read.{token_kind}
use Rattle.formula_read.specs.declared.brackets.Bracket.{Bracket}
use Rattle.formula_read.specs.declared.brackets.Bracket.TheVariants.{Group, Call}
use Rattle.formula_read.specs.declared.class.SignClass.TheVariants.{Prefix, Equals}
use Rattle.formula_read.specs.declared.class.TokenClass.{TokenClass}
use Rattle.formula_read.specs.declared.class.TokenClass.TheVariants as class
use Rattle.formula_read.specs.Classes.{sign_class, token_class, begins_word, begins_infix, class_begun}
use Rattle.formula_read.specs.Places.{Place, head, wants, has, named, begins, operand, behind_closing, behind_semicolon, after, advance, advance_all, tokens_of}
use Rattle.formula_read.specs.Reading.{after_begun, read_first, read_between, read_between_at, behind_token, place_after, is_inside, inside, is_fresh, read_byte, read_text, place_ended}
use Rattle.formula_read.proofs.Addresses.{cell_spelled, corner_completes}
use Rattle.formula_read.proofs.Words.{corner_next, run_name}
use Rattle.formula_read.proofs.Choices.{on_test, nothing, same, same_number, letter_is_no_digit, is_digit_by_value}
use Rattle.formula_read.proofs.Forms.{run-append, fresh_holds}
use Rattle.formula_read.proofs.Cuts.{closed_word}
use Rattle.formula_read.proofs.Functions.{tokens_read}
use Rattle.formula_read.proofs.Next.{fits_reached, no_empty_token}
use Rattle.formula_read.proofs.Spellings.{next_ends, Parts, parts}

-- what a token is taken for by its first byte
abbrev pub taken_for : TokenClass → TokenClass
taken_for class.Name = class.Leaf
taken_for c = c

-- the first byte of a token
abbrev pub Starts : TokenValue → ℕ → Type 0
Starts t b = class_begun b ≡ Some (taken_for (token_class t))

digit_starts : (b : ℕ) → is_ascii_digit b ≡ true → class_begun b ≡ Some class.Leaf
digit_starts b h = rw h

letter_starts : (b : ℕ) → is_ascii_alphabetic b ≡ true → class_begun b ≡ Some class.Leaf
letter_starts b h = let digit = letter_is_no_digit b h in rw (digit, h)

pub first_of : {a b : ℕ} {xs ys : List ℕ} → a ∷ xs ≡ b ∷ ys → a ≡ b
first_of e = cc

error_first : (e : CalcErr) (b : ℕ) (bs : List ℕ) → b ∷ bs ≡ error_name e → b ≡ 35
error_first Div0 b bs e = first_of e
error_first Na b bs e = first_of e
error_first NoName b bs e = first_of e
error_first BadNum b bs e = first_of e
error_first Lost b bs e = first_of e
error_first BadKind b bs e = first_of e
error_first Circ b bs e = first_of e

corner_starts : (b : ℕ) (c : Corner) → corner_step Start b ≡ Some c → class_begun b ≡ Some class.Leaf
corner_starts b c m = on_test (is_ascii_alphabetic b) _ _ c m (λ k _. letter_starts b k)
    (λ _ m. on_test (nat_eq b 36) _ _ c m (λ k _. ap class_begun (same_number b 36 k)) (λ _ m. nothing m))

cell_starts : (b : ℕ) (bs : List ℕ) (c : Spot) → cell_of (b ∷ bs) ≡ Some c → class_begun b ≡ Some class.Leaf
cell_starts b bs c h =
    let (m, holds) = cell_spelled (b ∷ bs) c h in
    let (next, first, _) = corner_next Start b bs (Digits m) (corner_completes m (b ∷ bs) holds) in
    corner_starts b next first

no_empty_cell : (c : Spot) → cell_of [] ≡ Some c → ⊥
no_empty_cell c h = absurd (cc)

sign_starts : (op : BinOp) (b : ℕ) (bs : List ℕ) → b ∷ bs ≡ sign_text op → class_begun b ≡ Some (class.Sign (sign_class op))
sign_starts Pow b bs e = ap class_begun (first_of e)
sign_starts Mul b bs e = ap class_begun (first_of e)
sign_starts Div b bs e = ap class_begun (first_of e)
sign_starts Add b bs e = ap class_begun (first_of e)
sign_starts Sub b bs e = ap class_begun (first_of e)
sign_starts Join b bs e = ap class_begun (first_of e)
sign_starts Eq b bs e = ap class_begun (first_of e)
sign_starts Ne b bs e = ap class_begun (first_of e)
sign_starts Lt b bs e = ap class_begun (first_of e)
sign_starts Le b bs e = ap class_begun (first_of e)
sign_starts Gt b bs e = ap class_begun (first_of e)
sign_starts Ge b bs e = ap class_begun (first_of e)

pub starts : (t : TokenValue) (b : ℕ) (bs : List ℕ) → Spells (b ∷ bs) t → Starts t b
starts (token.numeral n) b bs h = digit_starts b (is_digit_by_value b h.0.1.0)
starts (token.text t) b bs h = ap class_begun (first_of h.0)
starts (token.fault e) b bs h = ap class_begun (error_first e b bs h)
starts (token.cell c) b bs h = cell_starts b bs c h
starts (token.range r) b bs ([], last, a, c, e, f, _, _) = absurd (no_empty_cell a f)
starts (token.range r) b bs (x ∷ xs, last, a, c, e, f, _, _) = ap class_begun (first_of e) ∙ cell_starts x xs a f
starts (token.name n) b bs h = letter_starts b (and_parts (is_ascii_alphabetic b) _ h.0).0
starts (token.sign op) b bs h = sign_starts op b bs h
starts token.opening b bs h = ap class_begun (first_of h)
starts token.closing b bs h = ap class_begun (first_of h)
starts token.semicolon b bs h = ap class_begun (first_of h)

-- the place behind a token is the one to which its first byte leads, once its kind is known
abbrev pub place_by_kind : TokenKind → Option Place → Option Place
place_by_kind k o = option_map (behind_token k) o

same_place : (o : Option Place) → o ≡ option_map (λ p. p) o
same_place None = refl
same_place (Some p) = refl

named_place : (q : Place) → after q class.Name ≡ place_by_kind kind.Name (after q class.Leaf)
named_place head = refl
named_place (wants ds) = refl
named_place (has ds) = refl
named_place (named ds) = refl
named_place (begins ds) = refl

pub advance_begun : (q : Place) (t : TokenValue) → advance q t ≡ place_by_kind (token_kind t) (after q (taken_for (token_class t)))
advance_begun q (token.name n) = named_place q
advance_begun q (token.numeral n) = same_place (after q class.Leaf)
advance_begun q (token.text n) = same_place (after q class.Leaf)
advance_begun q (token.fault n) = same_place (after q class.Leaf)
advance_begun q (token.cell n) = same_place (after q class.Leaf)
advance_begun q (token.range n) = same_place (after q class.Leaf)
advance_begun q (token.sign op) = same_place (after q (class.Sign (sign_class op)))
advance_begun q token.opening = same_place (after q class.Open)
advance_begun q token.closing = same_place (after q class.Close)
advance_begun q token.semicolon = same_place (after q class.Semi)

-- where a token may stand, its first byte leads somewhere
begun_place : (q : Place) (t : TokenValue) (p : Place) → advance q t ≡ Some p → (r : Place) × (after q (taken_for (token_class t)) ≡ Some r) × (behind_token (token_kind t) r ≡ p)
begun_place q t p m = by_begun (after q (taken_for (token_class t))) refl (sym (advance_begun q t) ∙ m)
  where
    by_begun : (o : Option Place) → after q (taken_for (token_class t)) ≡ o → place_by_kind (token_kind t) o ≡ Some p →
        (r : Place) × (after q (taken_for (token_class t)) ≡ Some r) × (behind_token (token_kind t) r ≡ p)
    by_begun None e m = nothing m
    by_begun (Some r) e m = (r, e, same m)

-- bytes that go on with a token
not_fresh : (s : Partial) (x : List ℕ) → x ≢ [] → partial_after (Some Fresh) x ≡ Some s → is_fresh s ≡ false
not_fresh Fresh x some h = absurd (some (fresh_holds x Fresh h))
not_fresh s x some h = refl

some_more : (x : List ℕ) (b : ℕ) → x ++ b ∷ [] ≢ []
some_more [] b e = absurd (cc)
some_more (a ∷ x) b e = absurd (cc)

byte_inside : (p : Place) (s : Partial) (b : ℕ) (x : List ℕ) (o : Option Partial) → x ≢ [] → partial_after (Some Fresh) x ≡ Some s → partial_step s b ≡ o → read_byte p s b ≡ inside p s b o
byte_inside p s b x o some h e = ap (λ (t : Bool). cond t (read_between p b) (inside p s b (partial_step s b))) (not_fresh s x some h) ∙ ap (inside p s b) e

read_piece : (p : Place) (x y : List ℕ) (s last : Partial) (behind : List ℕ) → x ≢ [] → partial_after (Some Fresh) x ≡ Some s → partial_after (Some s) y ≡ Some last →
    read_text (Some (p, s)) (y ++ behind) ≡ read_text (Some (p, last)) behind
read_piece p x [] s last behind some h m = ap (λ (t : Partial). read_text (Some (p, t)) behind) (same m)
read_piece p x (b ∷ y) s last behind some h m = by_step (partial_step s b) refl m (λ next h m. read_piece p (x ++ b ∷ []) y next last behind (some_more x b) h m)
  where
    by_step : (o : Option Partial) → partial_step s b ≡ o → partial_after o y ≡ Some last →
        ((next : Partial) → partial_after (Some Fresh) (x ++ b ∷ []) ≡ Some next → partial_after (Some next) y ≡ Some last → read_text (Some (p, next)) (y ++ behind) ≡ read_text (Some (p, last)) behind) →
        read_text (read_byte p s b) (y ++ behind) ≡ read_text (Some (p, last)) behind
    by_step None k m rest = nothing m
    by_step (Some next) k m rest =
        ap (λ (r : Option (Place × Partial)). read_text r (y ++ behind)) (byte_inside p s b x (Some next) some h k)
        ∙ rest next (run-append (Some Fresh) x (b ∷ []) ∙ (ap (λ (o : Option Partial). partial_after o (b ∷ [])) h ∙ ap (λ (o : Option Partial). partial_after o []) k)) m

-- bytes behind which no operand goes on
abbrev pub is_stop : ℕ → Bool
is_stop c = nat_eq c 32 || (nat_eq c 41 || (nat_eq c 59 || (nat_eq c 61 || (nat_eq c 43 || (nat_eq c 45 || begins_infix c)))))

pub record IsOther (c : ℕ) : Type 0 where
  digit : is_ascii_digit c ≡ false
  letter : is_ascii_alphabetic c ≡ false
  count : is_in_range 49 57 c ≡ false
  byte : is_name_byte c ≡ false
  quote : nat_eq c 34 ≡ false
  dollar : nat_eq c 36 ≡ false
  colon : nat_eq c 58 ≡ false

pub other : (c : ℕ) → is_stop c ≡ true → IsOther c
other c h = record {
  digit = grind (arith, nat_tests);
  letter = grind (arith, nat_tests);
  count = grind (arith, nat_tests);
  byte = grind (arith, nat_tests);
  quote = grind (arith, nat_tests);
  dollar = grind (arith, nat_tests);
  colon = grind (arith, nat_tests);
}

corner_stops : (k : Corner) (c : ℕ) → IsOther c → corner_step k c ≡ None
corner_stops Start c h = rw (h.letter, h.dollar)
corner_stops Dollar c h = rw h.letter
corner_stops (Letters n) c h = rw (h.letter, h.dollar, h.count)
corner_stops Fixed c h = rw h.count
corner_stops (Digits n) c h = rw h.digit

address_stops : (a : Address) (c : ℕ) → IsOther c → address_step a c ≡ Neither
address_stops Neither c h = refl
address_stops (Cell Start) c h = ap cell_or_neither (corner_stops Start c h)
address_stops (Cell Dollar) c h = ap cell_or_neither (corner_stops Dollar c h)
address_stops (Cell (Letters n)) c h = ap cell_or_neither (corner_stops (Letters n) c h)
address_stops (Cell Fixed) c h = ap cell_or_neither (corner_stops Fixed c h)
address_stops (Cell (Digits n)) c h = ap (λ (t : Bool). cond t (Range Start) (cell_or_neither (corner_step (Digits n) c))) h.colon ∙ ap cell_or_neither (corner_stops (Digits n) c h)
address_stops (Range k) c h = ap range_or_neither (corner_stops k c h)

pub word_stops : (n : ℕ) (a : Address) (c : ℕ) → IsOther c → word (name_step n c) (address_step a c) ≡ None
word_stops n a c h = ap (word (name_step n c)) (address_stops a c h) ∙ ap (λ (t : Bool). word (cond (t && (nat_lt 0 n && nat_lt n 32)) (n + 1) 0) Neither) h.byte

abbrev pub is_leaf_kind : TokenKind → Bool
is_leaf_kind kind.Numeral = true
is_leaf_kind kind.Text = true
is_leaf_kind kind.Error = true
is_leaf_kind kind.Cell = true
is_leaf_kind kind.Range = true
is_leaf_kind k = false

pub leaf_stops : (s : Partial) (next : Option ℕ) (k : TokenKind) (c : ℕ) → kind_at s next ≡ Some k → is_leaf_kind k ≡ true → IsOther c → partial_step s c ≡ None
leaf_stops (Numeral v) next k c m l h = rw h.digit
leaf_stops Closed next k c m l h = rw h.quote
leaf_stops (Error e n) next k c m l h = on_test (nat_eq n (length (error_name e))) _ _ k m
    (λ t _. let past : nat_lt n (length (error_name e)) ≡ false = grind (arith, nat_tests) in
    ap (λ (t : Bool). cond (t && nat_eq c (slice_index (error_name e) n)) (Some (Error e (n + 1))) None) past) (λ _ m. nothing m)
leaf_stops (Word n a) next k c m l h = word_stops n a c h
leaf_stops Less next k c m l h = absurd (let clash : true ≡ false = sym l ∙ ap is_leaf_kind (sym (same m)) in cc)
leaf_stops Greater next k c m l h = absurd (let clash : true ≡ false = sym l ∙ ap is_leaf_kind (sym (same m)) in cc)
leaf_stops (Whole j) next k c m l h = refl
leaf_stops s next k c m l h = nothing m

-- behind an operand
pub leaf_place : (q p : Place) → after q class.Leaf ≡ Some p → (ds : List Bracket) × (has ds ≡ p)
leaf_place head p m = nothing m
leaf_place (wants ds) p m = (ds, same m)
leaf_place (has ds) p m = nothing m
leaf_place (named ds) p m = nothing m
leaf_place (begins ds) p m = (Call ∷ ds, same m)

abbrev is_behind : TokenClass → Bool
is_behind class.Leaf = false
is_behind class.Name = false
is_behind class.Open = false
is_behind c = true

behind_stops : (b : ℕ) (c : TokenClass) → class_begun b ≡ Some c → is_behind c ≡ true → is_stop b ≡ true
behind_stops b c m h =
    on_test (begins_word b) _ _ c m (λ _ m. clash m refl)
    (λ _ m. on_test (nat_eq b 40) _ _ c m (λ _ m. clash m refl)
    (λ _ m. on_test (nat_eq b 41) _ _ c m (λ k _. ap is_stop (same_number b 41 k))
    (λ _ m. on_test (nat_eq b 59) _ _ c m (λ k _. ap is_stop (same_number b 59 k))
    (λ _ m. on_test (nat_eq b 61) _ _ c m (λ k _. ap is_stop (same_number b 61 k))
    (λ _ m. on_test (nat_eq b 43 || nat_eq b 45) _ _ c m (λ k _. prefix k)
    (λ _ m. on_test (begins_infix b) _ _ c m (λ k _. infix' k) (λ _ m. nothing m)))))))
  where
    clash : {d : TokenClass} → Some d ≡ Some c → is_behind d ≡ false → is_stop b ≡ true
    clash e f = absurd (let wrong : false ≡ true = sym f ∙ (ap is_behind (same e) ∙ h) in cc)

    prefix : (nat_eq b 43 || nat_eq b 45) ≡ true → is_stop b ≡ true
    prefix k = grind (arith, nat_tests)

    infix' : begins_infix b ≡ true → is_stop b ≡ true
    infix' k = grind (arith, nat_tests)

stop_token : (ds : List Bracket) (c : TokenClass) (p : Place) (b : ℕ) → after (has ds) c ≡ Some p → class_begun b ≡ Some (taken_for c) → is_stop b ≡ true
stop_token ds (class.Sign s) p b m h = behind_stops b (class.Sign s) h refl
stop_token ds class.Close p b m h = behind_stops b class.Close h refl
stop_token ds class.Semi p b m h = behind_stops b class.Semi h refl
stop_token ds c p b m h = nothing m

-- the tokens of a text that begins with a byte
token_at : (at : ℕ) (b : ℕ) (bs : List ℕ) (ls : List Lexeme) → Lexes at (b ∷ bs) ls → (u : TokenValue) × (more : List Lexeme) × Starts u b × (tokens_of ls ≡ u ∷ tokens_of more)
token_at at b bs ls l = by_parts (parts l)
  where
    by_parts : Parts at (b ∷ bs) ls → (u : TokenValue) × (more : List Lexeme) × Starts u b × (tokens_of ls ≡ u ∷ tokens_of more)
    by_parts (inl (e, none)) = absurd (cc)
    by_parts (inr ([], behind, u, more, e, n, l, whole)) = absurd (no_empty_token u behind n.fits)
    by_parts (inr (x ∷ piece, behind, u, more, e, n, l, whole)) = (u, more, subst (λ (c : ℕ). Starts u c) (sym (first_of e)) (starts u x piece n.fits.0), ap tokens_of whole)

next_stops : (ds : List Bracket) (at : ℕ) (b : ℕ) (bs : List ℕ) (ls : List Lexeme) → Lexes at (past_spaces (b ∷ bs)) ls → advance_all (Some (has ds)) (tokens_of ls) ≢ None → is_stop b ≡ true
next_stops ds at b bs ls l alive = by_space (nat_eq b 32) refl l
  where
    by_token : (u : TokenValue) (more : List Lexeme) → Starts u b → tokens_of ls ≡ u ∷ tokens_of more → (o : Option Place) → advance (has ds) u ≡ o → is_stop b ≡ true
    by_token u more h e None k = absurd (alive (ap (advance_all (Some (has ds))) e ∙ ap (λ (o : Option Place). advance_all o (tokens_of more)) k))
    by_token u more h e (Some p) k = stop_token ds (token_class u) p b k h

    by_space : (t : Bool) → nat_eq b 32 ≡ t → Lexes at (cond t (past_spaces bs) (b ∷ bs)) ls → is_stop b ≡ true
    by_space true k l = or_left _ _ k
    by_space false k l = let (u, more, h, e) = token_at at b bs ls l in by_token u more h e (advance (has ds) u) refl

leaf_conflict : (q p : Place) (b : ℕ) (bs : List ℕ) (s next : Partial) (k : TokenKind) (at : ℕ) (ls : List Lexeme) → is_leaf_kind k ≡ true →
    kind_at s (Some b) ≡ Some k → partial_step s b ≡ Some next → after q class.Leaf ≡ Some p → Lexes at (past_spaces (b ∷ bs)) ls → advance_all (Some p) (tokens_of ls) ≢ None → ⊥
leaf_conflict q p b bs s next k at ls leaf ends goes m l alive =
    let (ds, e) = leaf_place q p m in
    let stop = next_stops ds at b bs ls l (subst (λ (p : Place). advance_all (Some p) (tokens_of ls) ≢ None) (sym e) alive) in
    let none = leaf_stops s (Some b) k b ends leaf (other b stop) in
    absurd (let clash : None ≡ Some next = sym none ∙ goes in cc)

-- a sign that goes on is a longer one
longer_sign : (piece : List ℕ) (t : TokenValue) (bs : List ℕ) (b c : ℕ) (op : BinOp) → IsNext piece t (b ∷ bs) → piece ≡ c ∷ [] → sign_text op ≡ c ∷ b ∷ [] → ⊥
longer_sign piece t bs b c op n e f =
    let most = n.longest (c ∷ b ∷ []) (token.sign op) bs (sym ((λ i. e i ++ b ∷ bs))) (sym f, tt) in
    let size = ap length e in
    absurd (omega arith)

pub no_sign : {G : Type 0} (a : Address) → address_kind a ≡ Some kind.Sign → G
no_sign (Cell (Digits n)) f = absurd (cc)
no_sign (Range (Digits n)) f = absurd (cc)
no_sign a f = nothing f

sign_conflict : (piece : List ℕ) (t : TokenValue) (b : ℕ) (bs : List ℕ) (s next : Partial) → IsNext piece t (b ∷ bs) → partial_after (Some Fresh) piece ≡ Some s → kind_at s (Some b) ≡ Some kind.Sign → partial_step s b ≡ Some next → ⊥
sign_conflict piece t b bs (Numeral v) next n runs ends goes = absurd (cc)
sign_conflict piece t b bs Closed next n runs ends goes = absurd (cc)
sign_conflict piece t b bs (Error e m) next n runs ends goes = on_test (nat_eq m (length (error_name e))) _ _ kind.Sign ends (λ _ f. absurd (cc)) (λ _ f. nothing f)
sign_conflict piece t b bs (Word m a) next n runs ends goes = on_test (nat_lt 0 m && is_open (Some b)) _ _ kind.Sign ends (λ _ f. absurd (cc)) (λ _ f. no_sign a f)
sign_conflict piece t b bs Less next n runs ends goes = on_test (nat_eq b 61 || nat_eq b 62) _ _ next goes (λ k _. by_sign (or_cases _ _ k)) (λ _ m. nothing m)
  where
    by_sign : ((nat_eq b 61 ≡ true) ⊎ (nat_eq b 62 ≡ true)) → ⊥
    by_sign (inl k) = longer_sign piece t bs b 60 Le n (fresh_holds piece Less runs) (ap (λ (c : ℕ). 60 ∷ c ∷ []) (sym (same_number b 61 k)))
    by_sign (inr k) = longer_sign piece t bs b 60 Ne n (fresh_holds piece Less runs) (ap (λ (c : ℕ). 60 ∷ c ∷ []) (sym (same_number b 62 k)))
sign_conflict piece t b bs Greater next n runs ends goes = on_test (nat_eq b 61) _ _ next goes
    (λ k _. longer_sign piece t bs b 62 Ge n (fresh_holds piece Greater runs) (ap (λ (c : ℕ). 62 ∷ c ∷ []) (sym (same_number b 61 k)))) (λ _ m. nothing m)
sign_conflict piece t b bs (Whole k) next n runs ends goes = nothing goes
sign_conflict piece t b bs s next n runs ends goes = nothing ends

-- no token leads back before the `=`
inside_of : {r p : Place} → Some r ≡ Some p → is_inside r ≡ true → is_inside p ≡ true
inside_of m h = ap is_inside (sym (same m)) ∙ h

operand_inside : (ds : List Bracket) (c : TokenClass) (p : Place) → operand ds c ≡ Some p → is_inside p ≡ true
operand_inside ds class.Leaf p m = inside_of m refl
operand_inside ds class.Name p m = inside_of m refl
operand_inside ds (class.Sign Prefix) p m = inside_of m refl
operand_inside ds class.Open p m = inside_of m refl
operand_inside ds c p m = nothing m

closed_inside : (ds : List Bracket) (p : Place) → behind_closing ds ≡ Some p → is_inside p ≡ true
closed_inside [] p m = nothing m
closed_inside (d ∷ ds) p m = inside_of m refl

parted_inside : (ds : List Bracket) (p : Place) → behind_semicolon ds ≡ Some p → is_inside p ≡ true
parted_inside [] p m = nothing m
parted_inside (Group ∷ ds) p m = nothing m
parted_inside (Call ∷ ds) p m = inside_of m refl

after_inside : (q : Place) (c : TokenClass) (p : Place) → after q c ≡ Some p → is_inside p ≡ true
after_inside head (class.Sign Equals) p m = inside_of m refl
after_inside head c p m = nothing m
after_inside (wants ds) c p m = operand_inside ds c p m
after_inside (has ds) (class.Sign s) p m = inside_of m refl
after_inside (has ds) class.Close p m = closed_inside ds p m
after_inside (has ds) class.Semi p m = parted_inside ds p m
after_inside (has ds) c p m = nothing m
after_inside (named ds) class.Open p m = inside_of m refl
after_inside (named ds) c p m = nothing m
after_inside (begins ds) class.Close p m = inside_of m refl
after_inside (begins ds) c p m = operand_inside (Call ∷ ds) c p m

-- spaces are passed over
spaces_read : (p : Place) → is_inside p ≡ true → (bs : List ℕ) → read_text (Some (p, Fresh)) bs ≡ read_text (Some (p, Fresh)) (past_spaces bs)
spaces_read p h [] = refl
spaces_read p h (b ∷ bs) = by_space (nat_eq b 32) refl (spaces_read p h bs)
  where
    space : nat_eq b 32 ≡ true → read_between p b ≡ Some (p, Fresh)
    space k = λ i. cond (h i && k i) (Some (p, Fresh)) (read_first p b)

    by_space : (t : Bool) → nat_eq b 32 ≡ t → read_text (Some (p, Fresh)) bs ≡ read_text (Some (p, Fresh)) (past_spaces bs) →
        read_text (read_between p b) bs ≡ read_text (Some (p, Fresh)) (cond t (past_spaces bs) (b ∷ bs))
    by_space true k rest = ap (λ (r : Option (Place × Partial)). read_text r bs) (space k) ∙ rest
    by_space false k rest = refl

enters : (p q : Place) (b : ℕ) (s : Partial) → nat_eq b 32 ≡ false → after_begun p b ≡ Some q → fresh_step b ≡ Some s → read_between p b ≡ Some (q, s)
enters p q b s k h e = by_place (is_inside p) ∙ (λ i. option_zip (h i) (e i))
  where
    by_place : (t : Bool) → cond (t && nat_eq b 32) (Some (p, Fresh)) (read_first p b) ≡ read_first p b
    by_place true = ap (λ (t : Bool). cond t (Some (p, Fresh)) (read_first p b)) k
    by_place false = refl

pub no_space : (b : ℕ) (s : Partial) → fresh_step b ≡ Some s → nat_eq b 32 ≡ false
no_space b s e = by_space (nat_eq b 32) refl
  where
    by_space : (t : Bool) → nat_eq b 32 ≡ t → nat_eq b 32 ≡ false
    by_space false k = k
    by_space true k = absurd (let clash : None ≡ Some s = ap fresh_step (sym (same_number b 32 k)) ∙ e in cc)

step_none : (s t : Partial) (b : ℕ) (next : Partial) → s ≡ t → partial_step t b ≡ None → partial_step s b ≡ Some next → ⊥
step_none s t b next e none goes = absurd (let clash : None ≡ Some next = sym none ∙ (ap (λ (s : Partial). partial_step s b) (sym e) ∙ goes) in cc)

-- Where a token goes on, it was the last that could stand there.
conflict : (q p : Place) (piece : List ℕ) (t : TokenValue) (b : ℕ) (bs : List ℕ) (s next : Partial) (at : ℕ) (ls : List Lexeme) → IsNext piece t (b ∷ bs) →
    partial_after (Some Fresh) piece ≡ Some s → kind_at s (Some b) ≡ Some (token_kind t) → partial_step s b ≡ Some next → advance q t ≡ Some p → Lexes at (past_spaces (b ∷ bs)) ls → advance_all (Some p) (tokens_of ls) ≢ None → ⊥
conflict q p piece (token.name n) b bs s next at ls n' runs ends goes m l alive =
    let (j, a, some, also) = run_name piece n'.fits.0.0 in
    let (more, e) = n'.fits.1 in
    step_none s (Word j a) b next (same (sym runs ∙ also)) (ap (partial_step (Word j a)) (first_of e) ∙ closed_word j a) goes
conflict q p piece (token.sign op) b bs s next at ls n' runs ends goes m l alive = sign_conflict piece (token.sign op) b bs s next n' runs ends goes
conflict q p piece token.opening b bs s next at ls n' runs ends goes m l alive = step_none s (Whole kind.Open) b next (same (sym runs ∙ ap (partial_after (Some Fresh)) n'.fits.0)) refl goes
conflict q p piece token.closing b bs s next at ls n' runs ends goes m l alive = step_none s (Whole kind.Close) b next (same (sym runs ∙ ap (partial_after (Some Fresh)) n'.fits.0)) refl goes
conflict q p piece token.semicolon b bs s next at ls n' runs ends goes m l alive = step_none s (Whole kind.Semi) b next (same (sym runs ∙ ap (partial_after (Some Fresh)) n'.fits.0)) refl goes
conflict q p piece t b bs s next at ls n' runs ends goes m l alive = leaf_conflict q p b bs s next (token_kind t) at ls refl ends goes m l alive

-- the end of a token, or the byte behind it
token_ends : (q r p last : Place) (piece : List ℕ) (t : TokenValue) (behind : List ℕ) (s : Partial) (at : ℕ) (ls : List Lexeme) → IsNext piece t behind → partial_after (Some Fresh) piece ≡ Some s → piece ≢ [] →
    advance q t ≡ Some p → behind_token (token_kind t) r ≡ p → Lexes at (past_spaces behind) ls → advance_all (Some p) (tokens_of ls) ≢ None →
    place_ended (read_text (Some (p, Fresh)) (past_spaces behind)) ≡ Some last → place_ended (read_text (Some (r, s)) behind) ≡ Some last
token_ends q r p last piece t behind s at ls n runs some m to l alive rest = by_rest behind n l rest
  where
    kind_there : (behind : List ℕ) → IsNext piece t behind → kind_at s (first_byte behind) ≡ Some (token_kind t)
    kind_there behind n = let (s', also, ends') = next_ends piece t behind n in ap (λ (s : Partial). kind_at s (first_byte behind)) (same (sym runs ∙ also)) ∙ ends'

    place_there : (behind : List ℕ) → IsNext piece t behind → place_after r (kind_at s (first_byte behind)) ≡ Some p
    place_there behind n = ap (place_after r) (kind_there behind n) ∙ ap Some to

    by_rest : (behind : List ℕ) → IsNext piece t behind → Lexes at (past_spaces behind) ls → place_ended (read_text (Some (p, Fresh)) (past_spaces behind)) ≡ Some last →
        place_ended (read_text (Some (r, s)) behind) ≡ Some last
    by_rest [] n l rest = ap (λ (t : Bool). cond t (Some r) (place_after r (kind_at s None))) (not_fresh s piece some runs) ∙ (place_there [] n ∙ rest)
    by_rest (b ∷ bs) n l rest = by_step (partial_step s b) refl
      where
        by_step : (o : Option Partial) → partial_step s b ≡ o → place_ended (read_text (read_byte r s b) bs) ≡ Some last
        by_step (Some next) goes = absurd (conflict q p piece t b bs s next at ls n runs (kind_there (b ∷ bs) n) goes m l alive)
        by_step None goes =
            let moved : read_byte r s b ≡ read_between p b = byte_inside r s b piece None some runs goes ∙ ap (λ (o : Option Place). read_between_at o b) (place_there (b ∷ bs) n) in
            ap (λ (r : Option (Place × Partial)). place_ended (read_text r bs)) moved ∙ (ap place_ended (spaces_read p (after_inside q (token_class t) p m) (b ∷ bs)) ∙ rest)

-- the reader of a text's bytes ends where that of its tokens does
pub text_ended : {at : ℕ} {bs : List ℕ} {ls : List Lexeme} → Lexes at bs ls → (q last : Place) → advance_all (Some q) (tokens_of ls) ≡ Some last → place_ended (read_text (Some (q, Fresh)) bs) ≡ Some last
text_ended cut.end q last read = read
text_ended (cut.next {at = at} {piece = piece} {behind = behind} {t = t} {ls = ls} n more) q last read = by_place (advance q t) refl (λ p read. text_ended more p last read)
  where
    by_piece : (piece : List ℕ) → IsNext piece t behind → (r : Place) → after q (taken_for (token_class t)) ≡ Some r → (s : Partial) → partial_after (Some Fresh) piece ≡ Some s →
        place_ended (read_text (Some (r, s)) behind) ≡ Some last → place_ended (read_text (Some (q, Fresh)) (piece ++ behind)) ≡ Some last
    by_piece [] n r m s runs rest = absurd (no_empty_token t behind n.fits)
    by_piece (b ∷ bs) n r m s runs rest = by_begun (fresh_step b) refl runs
      where
        by_begun : (o : Option Partial) → fresh_step b ≡ o → partial_after o bs ≡ Some s → place_ended (read_text (read_byte q Fresh b) (bs ++ behind)) ≡ Some last
        by_begun None e runs = nothing runs
        by_begun (Some s0) e runs =
            let into : after_begun q b ≡ Some r = ap (option_and_then (after q)) (starts t b bs n.fits.0) ∙ m in
            let entered' : read_between q b ≡ Some (r, s0) = enters q r b s0 (no_space b s0 e) into e in
            let whole : read_text (read_byte q Fresh b) (bs ++ behind) ≡ read_text (Some (r, s)) behind =
            ap (λ (r : Option (Place × Partial)). read_text r (bs ++ behind)) entered' ∙ read_piece r (b ∷ []) bs s0 s behind (λ e. absurd (cc)) (ap (λ (o : Option Partial). partial_after o []) e) runs in
            ap place_ended whole ∙ rest

    by_place : (o : Option Place) → advance q t ≡ o → ((p : Place) → advance_all (Some p) (tokens_of ls) ≡ Some last → place_ended (read_text (Some (p, Fresh)) (past_spaces behind)) ≡ Some last) →
        place_ended (read_text (Some (q, Fresh)) (piece ++ behind)) ≡ Some last
    by_place None k again = absurd (let clash : None ≡ Some last = sym (ap (λ (o : Option Place). advance_all o (tokens_of ls)) k) ∙ read in cc)
    by_place (Some p) k again =
        let left : advance_all (Some p) (tokens_of ls) ≡ Some last = sym (ap (λ (o : Option Place). advance_all o (tokens_of ls)) k) ∙ read in
        let alive : advance_all (Some p) (tokens_of ls) ≢ None = λ none. absurd (let clash : None ≡ Some last = sym none ∙ left in cc) in
        let (s, runs) = fits_reached piece t behind n.fits in
        let some : piece ≢ [] = λ e. no_empty_token t behind (subst (λ (l : List ℕ). Fits l t behind) e n.fits) in
        let (r, into, to) = begun_place q t p k in
        by_piece piece n r into s runs (token_ends q r p last piece t behind s _ ls n runs some k to more alive (again p left))

pub read_text-append : (r : Option (Place × Partial)) (xs ys : List ℕ) → read_text r (xs ++ ys) ≡ read_text (read_text r xs) ys
read_text-append None xs ys = refl
read_text-append (Some r) [] ys = refl
read_text-append (Some r) (x ∷ xs) ys = read_text-append (read_byte r.0 r.1 x) xs ys

-- a formula's text is read to its end, and a front of it is read
pub formula_ended : (bs : List ℕ) → IsFormulaText bs → place_ended (read_text (Some (head, Fresh)) bs) ≡ Some (has [])
formula_ended bs h = let (ls, l, r) = tokens_read bs h in text_ended l head (has []) r

pub front_alive : (bs : List ℕ) → IsFront bs → read_text (Some (head, Fresh)) bs ≢ None
front_alive bs (rest, t, n, stands) e =
    let stops : read_text (Some (head, Fresh)) (bs ++ rest) ≡ None = read_text-append (Some (head, Fresh)) bs rest ∙ ap (λ (r : Option (Place × Partial)). read_text r rest) e in
    absurd (let clash : None ≡ Some (has []) = sym (ap place_ended stops) ∙ formula_ended (bs ++ rest) (t, n, stands) in cc)
