-- where the reader of bytes stands, a formula begins so
use Rattle.std.proofs.Common.{◌≡◌, ◌≢◌, ℕ, ◌+◌, ◌<◌, ◌≤◌, Bool, true, false, cond, ◌&&◌, nat_lt, nat_eq, List, [], ◌∷◌, ◌++◌, length, Option, Some, None, refl, ap, sym, ◌∙◌, subst, append_assoc, arith, inl, inr}
use Rattle.std.specs.Prelude.{◌⊎◌, option_and_then}
use Rattle.std.specs.Option.{option_zip}
use Rattle.std.specs.Char.{is_ascii_alphabetic}
use Rattle.std.proofs.lemmas.Bool.{cases_lt, and_parts}
use Rattle.std.proofs.lemmas.List.{append-nil}
use Rattle.formula_tree.specs.declared.operators.BinOp.{BinOp}
use Rattle.formula_tree.specs.declared.operators.BinOp.TheVariants.{Eq}
use Rattle.formula_tree.specs.Tokens.{TokenValue, Spells, Follows, Fits, IsNext, is_name, is_name_byte, sign_text, error_name}
use Rattle.formula_tree.specs.Tokens as token
use Rattle.formula_tree.specs.Lexing.{Lexeme, Lexes, space_count, past_spaces}
use Rattle.formula_tree.specs.Lexing as cut
use Rattle.formula_read.specs.declared.kinds.TokenKind.{TokenKind}
use Rattle.formula_read.specs.declared.kinds.TokenKind.TheVariants as kind
use Rattle.formula_read.specs.declared.partial.Partial.{Partial}
use Rattle.formula_read.specs.declared.partial.Partial.TheVariants.{Fresh, Numeral, Closed, Error, Word, Less, Greater, Whole}
use Rattle.formula_read.specs.declared.partial.Address.TheVariants.{Cell, Range}
use Rattle.formula_read.specs.declared.partial.Corner.TheVariants.{Digits}
use Rattle.formula_read.specs.Partial.{partial_step, fresh_step, is_open, kind_at}
use Rattle.formula_read.specs.Longest.{partial_after}
use Rattle.formula_tree.specs.Grammar.{IsFront, IsFormulaText}
use Rattle.formula_read.specs.Read.{token_kind}
use Rattle.formula_read.specs.declared.brackets.Bracket.{Bracket}
use Rattle.formula_read.specs.declared.brackets.Bracket.TheVariants.{Call}
use Rattle.formula_read.specs.declared.class.SignClass.{SignClass}
use Rattle.formula_read.specs.declared.class.SignClass.TheVariants.{Prefix, Equals}
use Rattle.formula_read.specs.declared.class.TokenClass.TheVariants as class
use Rattle.formula_read.specs.Classes.{sign_class}
use Rattle.formula_read.specs.Places.{Place, head, wants, has, named, begins, after, advance, advance_all, tokens_of}
use Rattle.formula_read.specs.Reading.{after_begun, read_first, read_between, read_between_at, behind_token, place_after, is_inside, inside, is_fresh, read_byte, read_text, place_at_end, place_ended}
use Rattle.formula_read.proofs.Words.{run_cell, run_range, run_name}
use Rattle.formula_read.proofs.Choices.{on_test, nothing, same, same_number}
use Rattle.formula_read.proofs.Forms.{Ends, run-append, fresh_holds, sound, name_ends, plain_ends}
use Rattle.formula_read.proofs.Cuts.{closed_word}
use Rattle.formula_read.proofs.Next.{fits_reached, one_end}
use Rattle.formula_read.proofs.Forms.{completes, is_plain}
use Rattle.formula_read.proofs.Next.{name_by_kind}
use Rattle.formula_read.proofs.Cuts.{cut_tight, fits_too, last_token}
use Rattle.formula_read.proofs.Splits.{shorter_front}
use Rattle.formula_read.proofs.Syntax.{advance_all-append}
use Rattle.formula_read.proofs.Functions.{read_tokens}
use Rattle.formula_read.proofs.Bytes.{Starts, starts, place_by_kind, advance_begun, leaf_stops, word_stops, other, is_leaf_kind, first_of, no_space, no_sign, leaf_place}

-- a clash of a test
clash : {G : Type 0} (f : ℕ → Bool) (b c : ℕ) → c ≡ b → f b ≡ true → f c ≡ false → G
clash f b c e h k = absurd (let wrong : true ≡ false = sym h ∙ (ap f (sym e) ∙ k) in cc)

-- where a token's first byte leads, the token does
leads_on : (p q : Place) (t : TokenValue) (b : ℕ) → Starts t b → after_begun p b ≡ Some q → advance p t ≡ Some (behind_token (token_kind t) q)
leads_on p q t b h m = advance_begun p t ∙ ap (place_by_kind (token_kind t)) (sym (ap (option_and_then (after p)) h) ∙ m)

-- a text cut into these tokens, wherever it stands
abbrev CutAs : List ℕ → List TokenValue → Type 0
CutAs bs ts = (at : ℕ) → (ls : List Lexeme) × Lexes at bs ls × (tokens_of ls ≡ ts)

cut_none : CutAs [] []
cut_none at = ([], cut.end, refl)

cut_one : (p : List ℕ) (t : TokenValue) (r : List ℕ) (ts : List TokenValue) → IsNext p t r → CutAs (past_spaces r) ts → CutAs (p ++ r) (t ∷ ts)
cut_one p t r ts n c at = let (ls, l, e) = c (at + length p + space_count r) in (_, cut.next n l, ap (λ (ts : List TokenValue). t ∷ ts) e)

cut_as_tight : (bs : List ℕ) (ts : List TokenValue) → CutAs bs ts → past_spaces bs ≡ bs
cut_as_tight bs ts c = let (ls, l, _) = c 0 in cut_tight l

-- a token that can't go on with the byte behind it is the next one
stopped : (p : List ℕ) (t : TokenValue) (s : Partial) (b : ℕ) (bs : List ℕ) → Fits p t (b ∷ bs) → partial_after (Some Fresh) p ≡ Some s → partial_step s b ≡ None → ((n : List ℕ) → Fits p (token.name n) (b ∷ bs) → t ≡ token.name n) → IsNext p t (b ∷ bs)
stopped p t s b bs fits runs stops name = record {
  fits = fits;
  longest = (λ q u r e f. by_size q u r e f (cases_lt (length p) (length q)));
  named = name;
}
  where
    by_rest : (q : List ℕ) (u : TokenValue) (r : List ℕ) (z : List ℕ) → Fits q u r → q ≡ p ++ z → b ∷ bs ≡ z ++ r → length q ≤ length p
    by_rest q u r [] f front rest = let size = ap length (front ∙ append-nil p) in omega arith
    by_rest q u r (c ∷ z) f front rest =
        let (last, also) = fits_reached q u r f in
        absurd (let wrong : None ≡ Some last =
        sym (ap (partial_after (Some Fresh)) front ∙ (run-append (Some Fresh) p (c ∷ z) ∙ (ap (λ (o : Option Partial). partial_after o (c ∷ z)) runs
        ∙ (ap (λ (c : ℕ). partial_after (partial_step s c) z) (sym (first_of rest)) ∙ ap (λ (o : Option Partial). partial_after o z) stops)))) ∙ also in cc)

    by_size : (q : List ℕ) (u : TokenValue) (r : List ℕ) → q ++ r ≡ p ++ b ∷ bs → Fits q u r → ((length p < length q) ⊎ (length q ≤ length p)) → length q ≤ length p
    by_size q u r e f (inr small) = small
    by_size q u r e f (inl big) = let (z, front, rest) = shorter_front p (b ∷ bs) q r (sym e) (omega arith) in by_rest q u r z f front rest

name_only : (p : List ℕ) (t : TokenValue) (r : List ℕ) (k : TokenKind) → Fits p t r → token_kind t ≡ k → Ends p r k → (n : List ℕ) → Fits p (token.name n) r → t ≡ token.name n
name_only p t r k fits is ends n f = name_by_kind t p n (is ∙ one_end p r k kind.Name ends (name_ends p n r f)) fits.0 f.0.1

no_name_before : {G : Type 0} (p : List ℕ) (b : ℕ) (bs n : List ℕ) → nat_eq b 40 ≡ false → Fits p (token.name n) (b ∷ bs) → G
no_name_before p b bs n h (_, (more, e)) = clash (λ (c : ℕ). nat_eq c 40) 40 b (first_of e) refl h

-- a token that never goes on
whole_next : (p : List ℕ) (t : TokenValue) (k : TokenKind) (w : List ℕ) → Spells p t → ((r : List ℕ) → Follows t r) → ((n : List ℕ) → is_name p ≡ true → ⊥) → partial_after (Some Fresh) p ≡ Some (Whole k) → IsNext p t w
whole_next p t k [] spells follows unnamed runs = last_token p t (spells, follows [])
whole_next p t k (b ∷ bs) spells follows unnamed runs = stopped p t (Whole k) b bs (spells, follows (b ∷ bs)) runs refl (λ n f. absurd (unnamed n f.0.0))

cut_more : (p : List ℕ) (t : TokenValue) (r : List ℕ) (ts : List TokenValue) → IsNext p t r → CutAs r ts → CutAs (p ++ r) (t ∷ ts)
cut_more p t r ts n c = cut_one p t r ts n (subst (λ (l : List ℕ). CutAs l ts) (sym (cut_as_tight r ts c)) c)

-- what ends a formula
abbrev close_bytes : List Bracket → List ℕ
close_bytes [] = []
close_bytes (d ∷ ds) = 41 ∷ close_bytes ds

abbrev close_tokens : List Bracket → List TokenValue
close_tokens [] = []
close_tokens (d ∷ ds) = token.closing ∷ close_tokens ds

no_name_byte : (b : ℕ) → is_ascii_alphabetic b ≡ false → (n : List ℕ) → is_name (b ∷ []) ≡ true → ⊥
no_name_byte b h n k = absurd (let wrong : true ≡ false = sym (and_parts (is_ascii_alphabetic b) _ k).0 ∙ h in cc)

closing_next : (w : List ℕ) → IsNext (41 ∷ []) token.closing w
closing_next w = whole_next (41 ∷ []) token.closing kind.Close w refl (λ r. tt) (no_name_byte 41 refl) refl

opening_next : (w : List ℕ) → IsNext (40 ∷ []) token.opening w
opening_next w = whole_next (40 ∷ []) token.opening kind.Open w refl (λ r. tt) (no_name_byte 40 refl) refl

equals_next : (w : List ℕ) → IsNext (61 ∷ []) (token.sign Eq) w
equals_next w = whole_next (61 ∷ []) (token.sign Eq) kind.Sign w refl (λ r. tt) (no_name_byte 61 refl) refl

close_cut : (ds : List Bracket) → CutAs (close_bytes ds) (close_tokens ds)
close_cut [] = cut_none
close_cut (d ∷ ds) = cut_more (41 ∷ []) token.closing (close_bytes ds) (close_tokens ds) (closing_next (close_bytes ds)) (close_cut ds)

close_all : (ds : List Bracket) → advance_all (Some (has ds)) (close_tokens ds) ≡ Some (has [])
close_all [] = refl
close_all (d ∷ ds) = close_all ds

one_spelled : Spells (49 ∷ []) (token.numeral 1)
one_spelled = ((omega arith, (omega arith, tt)), refl, omega arith)

one_next : (ds : List Bracket) → IsNext (49 ∷ []) (token.numeral 1) (close_bytes ds)
one_next [] = last_token (49 ∷ []) (token.numeral 1) (one_spelled, tt)
one_next (d ∷ ds) = stopped (49 ∷ []) (token.numeral 1) (Numeral 1) 41 (close_bytes ds) (one_spelled, tt) refl refl (λ n f. no_name_before (49 ∷ []) 41 (close_bytes ds) n refl f)

one_cut : (ds : List Bracket) → CutAs (49 ∷ close_bytes ds) (token.numeral 1 ∷ close_tokens ds)
one_cut ds = cut_more (49 ∷ []) (token.numeral 1) (close_bytes ds) (close_tokens ds) (one_next ds) (close_cut ds)

abbrev ending_bytes : Place → List ℕ
ending_bytes head = 61 ∷ 49 ∷ []
ending_bytes (wants ds) = 49 ∷ close_bytes ds
ending_bytes (has ds) = close_bytes ds
ending_bytes (named ds) = 40 ∷ 41 ∷ close_bytes ds
ending_bytes (begins ds) = 41 ∷ close_bytes ds

abbrev ending_tokens : Place → List TokenValue
ending_tokens head = token.sign Eq ∷ token.numeral 1 ∷ []
ending_tokens (wants ds) = token.numeral 1 ∷ close_tokens ds
ending_tokens (has ds) = close_tokens ds
ending_tokens (named ds) = token.opening ∷ token.closing ∷ close_tokens ds
ending_tokens (begins ds) = token.closing ∷ close_tokens ds

ending_cut : (p : Place) → CutAs (ending_bytes p) (ending_tokens p)
ending_cut head = cut_more (61 ∷ []) (token.sign Eq) (49 ∷ []) (token.numeral 1 ∷ []) (equals_next (49 ∷ [])) (one_cut [])
ending_cut (wants ds) = one_cut ds
ending_cut (has ds) = close_cut ds
ending_cut (named ds) = cut_more (40 ∷ []) token.opening (41 ∷ close_bytes ds) (token.closing ∷ close_tokens ds) (opening_next (41 ∷ close_bytes ds))
    (cut_more (41 ∷ []) token.closing (close_bytes ds) (close_tokens ds) (closing_next (close_bytes ds)) (close_cut ds))
ending_cut (begins ds) = cut_more (41 ∷ []) token.closing (close_bytes ds) (close_tokens ds) (closing_next (close_bytes ds)) (close_cut ds)

ending_read : (p : Place) → advance_all (Some p) (ending_tokens p) ≡ Some (has [])
ending_read head = refl
ending_read (wants ds) = close_all ds
ending_read (has ds) = close_all ds
ending_read (named ds) = close_all ds
ending_read (begins ds) = close_all ds

-- behind a sign, and behind a name
sign_place : (q : Place) (s : SignClass) (p : Place) → after q (class.Sign s) ≡ Some p → (ds : List Bracket) × (wants ds ≡ p)
sign_place head Equals p m = ([], same m)
sign_place (wants ds) Prefix p m = (ds, same m)
sign_place (has ds) s p m = (ds, same m)
sign_place (begins ds) Prefix p m = (Call ∷ ds, same m)
sign_place q s p m = nothing m

name_place : (q p : Place) → after q class.Name ≡ Some p → (ds : List Bracket) × (named ds ≡ p)
name_place (wants ds) p m = (ds, same m)
name_place (begins ds) p m = (Call ∷ ds, same m)
name_place q p m = nothing m

-- a token that leads to a place is the next one before what ends the formula there
leaf_next : (piece : List ℕ) (t : TokenValue) (ds : List Bracket) → Spells piece t → ((r : List ℕ) → Follows t r) → ((s : Partial) → partial_after (Some Fresh) piece ≡ Some s → partial_step s 41 ≡ None) → IsNext piece t (close_bytes ds)
leaf_next piece t [] spells follows stops = last_token piece t (spells, follows [])
leaf_next piece t (d ∷ ds) spells follows stops =
    let (s, runs) = fits_reached piece t [] (spells, follows []) in
    stopped piece t s 41 (close_bytes ds) (spells, follows (41 ∷ close_bytes ds)) runs (stops s runs) (λ n f. no_name_before piece 41 (close_bytes ds) n refl f)

plain_stops : (piece : List ℕ) (t : TokenValue) → is_plain t ≡ true → is_leaf_kind (token_kind t) ≡ true → Fits piece t (41 ∷ []) → (s : Partial) → partial_after (Some Fresh) piece ≡ Some s → partial_step s 41 ≡ None
plain_stops piece t plain leaf fits s runs =
    let (s', also, ends) = plain_ends piece t (41 ∷ []) plain fits in
    ap (λ (s : Partial). partial_step s 41) (same (sym runs ∙ also)) ∙ leaf_stops s' (Some 41) (token_kind t) 41 ends leaf (other 41 refl)

sign_next : (piece : List ℕ) (op : BinOp) (ds : List Bracket) → Spells piece (token.sign op) → (s : Partial) → partial_after (Some Fresh) piece ≡ Some s → kind_at s (Some 49) ≡ Some kind.Sign → IsNext piece (token.sign op) (49 ∷ close_bytes ds)
sign_next piece op ds spells s runs ends = stopped piece (token.sign op) s 49 (close_bytes ds) (spells, tt) runs (stops s ends) (λ n f. no_name_before piece 49 (close_bytes ds) n refl f)
  where
    stops : (s : Partial) → kind_at s (Some 49) ≡ Some kind.Sign → partial_step s 49 ≡ None
    stops (Numeral v) e = absurd (cc)
    stops Closed e = absurd (cc)
    stops (Error x m) e = on_test (nat_eq m (length (error_name x))) _ _ kind.Sign e (λ _ f. absurd (cc)) (λ _ f. nothing f)
    stops (Word m a) e = on_test (nat_lt 0 m && is_open (Some 49)) _ _ kind.Sign e (λ _ f. absurd (cc)) (λ _ f. no_sign a f)
    stops Less e = refl
    stops Greater e = refl
    stops (Whole k) e = refl
    stops s e = nothing e

next_ending : (q : Place) (t : TokenValue) (p : Place) (piece : List ℕ) → advance q t ≡ Some p → Spells piece t → IsNext piece t (ending_bytes p)
next_ending q (token.numeral n) p piece m h = let (ds, e) = leaf_place q p m in subst (λ (p : Place). IsNext piece (token.numeral n) (ending_bytes p)) e (leaf_next piece (token.numeral n) ds h (λ r. tt) (plain_stops piece (token.numeral n) refl refl (h, tt)))
next_ending q (token.text n) p piece m h = let (ds, e) = leaf_place q p m in subst (λ (p : Place). IsNext piece (token.text n) (ending_bytes p)) e (leaf_next piece (token.text n) ds h (λ r. tt) (plain_stops piece (token.text n) refl refl (h, tt)))
next_ending q (token.fault n) p piece m h = let (ds, e) = leaf_place q p m in subst (λ (p : Place). IsNext piece (token.fault n) (ending_bytes p)) e (leaf_next piece (token.fault n) ds h (λ r. tt) (plain_stops piece (token.fault n) refl refl (h, tt)))
next_ending q (token.cell c) p piece m h =
    let (ds, e) = leaf_place q p m in
    let (j, k, runs) = run_cell piece c h in
    subst (λ (p : Place). IsNext piece (token.cell c) (ending_bytes p)) e
    (leaf_next piece (token.cell c) ds h (λ r. tt) (λ s also. ap (λ (s : Partial). partial_step s 41) (same (sym also ∙ runs)) ∙ word_stops j (Cell (Digits k)) 41 (other 41 refl)))
next_ending q (token.range v) p piece m (first, last, a, b, x, f, l, y) =
    let (ds, e) = leaf_place q p m in
    let (j, k, runs) = run_range piece first last a b x f l in
    subst (λ (p : Place). IsNext piece (token.range v) (ending_bytes p)) e
    (leaf_next piece (token.range v) ds (first, last, a, b, x, f, l, y) (λ r. tt) (λ s also. ap (λ (s : Partial). partial_step s 41) (same (sym also ∙ runs)) ∙ word_stops j (Range (Digits k)) 41 (other 41 refl)))
next_ending q (token.name n) p piece m h =
    let (ds, e) = name_place q p m in
    let (j, a, some, runs) = run_name piece h.0 in
    subst (λ (p : Place). IsNext piece (token.name n) (ending_bytes p)) e
    (stopped piece (token.name n) (Word j a) 40 (41 ∷ close_bytes ds) (h, (41 ∷ close_bytes ds, refl)) runs (closed_word j a) (λ k f. ap token.name (h.1 ∙ sym f.0.1)))
next_ending q (token.sign op) p piece m h =
    let (ds, e) = sign_place q (sign_class op) p m in
    let (s, runs, ends) = plain_ends piece (token.sign op) (49 ∷ []) refl (h, tt) in
    subst (λ (p : Place). IsNext piece (token.sign op) (ending_bytes p)) e (sign_next piece op ds h s runs ends)
next_ending q token.opening p piece m h = subst (λ (l : List ℕ). IsNext l token.opening (ending_bytes p)) (sym h) (opening_next (ending_bytes p))
next_ending q token.closing p piece m h = subst (λ (l : List ℕ). IsNext l token.closing (ending_bytes p)) (sym h) (closing_next (ending_bytes p))
next_ending q token.semicolon p piece m h = subst (λ (l : List ℕ). IsNext l token.semicolon (ending_bytes p)) (sym h)
    (whole_next (59 ∷ []) token.semicolon kind.Semi (ending_bytes p) refl (λ r. tt) (no_name_byte 59 refl) refl)

-- no space is wanted before the `=`, and any number of them behind it
abbrev skipped : Place → List ℕ → List ℕ
skipped head bs = bs
skipped p bs = past_spaces bs

skipped_tight : (p : Place) (bs : List ℕ) → past_spaces bs ≡ bs → skipped p bs ≡ bs
skipped_tight head bs h = refl
skipped_tight (wants ds) bs h = h
skipped_tight (has ds) bs h = h
skipped_tight (named ds) bs h = h
skipped_tight (begins ds) bs h = h

skipped_inside : (p : Place) (bs : List ℕ) → is_inside p ≡ true → skipped p bs ≡ past_spaces bs
skipped_inside head bs h = absurd (cc)
skipped_inside (wants ds) bs h = refl
skipped_inside (has ds) bs h = refl
skipped_inside (named ds) bs h = refl
skipped_inside (begins ds) bs h = refl

-- the front of a token leads there
abbrev Leads : Place → List ℕ → Place → Type 0
Leads p [] q = p ≡ q
Leads p (b ∷ bs) q = after_begun p b ≡ Some q

leads_more : (p q : Place) (x y : List ℕ) → x ≢ [] → Leads p x q → Leads p (x ++ y) q
leads_more p q [] y some h = absurd (some refl)
leads_more p q (b ∷ x) y some h = h

-- What was read: tokens, and the front of the next one. What goes on with it is cut into those and its own tokens.
record Before (p : Place) (s : Partial) (bs : List ℕ) : Type 0 where
  done : List ℕ
  part : List ℕ
  tokens : List TokenValue
  place : Place
  split : bs ≡ done ++ part
  read : advance_all (Some head) tokens ≡ Some place
  state : partial_after (Some Fresh) part ≡ Some s
  first : Leads place part p
  cut : (v : List ℕ) (us : List TokenValue) → CutAs (skipped place (part ++ v)) us → CutAs (done ++ (part ++ v)) (tokens ++ us)

before_none : Before head Fresh []
before_none = record { done = []; part = []; tokens = []; place = head; split = refl; read = refl; state = refl; first = refl; cut = (λ v us c. c) }

-- the part has one byte more
part_more : (p q : Place) (s next : Partial) (b : ℕ) (bs : List ℕ) (h : Before p s bs) → partial_after (Some s) (b ∷ []) ≡ Some next → Leads h.place (h.part ++ b ∷ []) q → Before q next (bs ++ b ∷ [])
part_more p q s next b bs h goes first = record {
  done = h.done;
  part = h.part ++ b ∷ [];
  tokens = h.tokens;
  place = h.place;
  split = (λ i. h.split i ++ b ∷ []) ∙ append_assoc h.done h.part (b ∷ []);
  read = h.read;
  state = run-append (Some Fresh) h.part (b ∷ []) ∙ (ap (λ (o : Option Partial). partial_after o (b ∷ [])) h.state ∙ goes);
  first = first;
  cut = (λ v us c.
      let one = append_assoc h.part (b ∷ []) v in
      subst (λ (l : List ℕ). CutAs (h.done ++ l) (h.tokens ++ us)) (sym one) (h.cut (b ∷ v) us (subst (λ (l : List ℕ). CutAs (skipped h.place l) us) one c)));
}

-- a byte between tokens: a space, or a token's first, which leads behind that token
abbrev IsBetween : Place → ℕ → Place → Partial → Type 0
IsBetween p b q s = ((is_inside p ≡ true) × (b ≡ 32) × (p ≡ q) × (Fresh ≡ s)) ⊎ ((after_begun p b ≡ Some q) × (fresh_step b ≡ Some s))

entered_parts : (p q : Place) (b : ℕ) (s : Partial) → read_first p b ≡ Some (q, s) → IsBetween p b q s
entered_parts p q b s m = inr (parts (after_begun p b) (fresh_step b) m)
  where
    parts : (o : Option Place) (u : Option Partial) → option_zip o u ≡ Some (q, s) → (o ≡ Some q) × (u ≡ Some s)
    parts None u m = nothing m
    parts (Some r) None m = nothing m
    parts (Some r) (Some t) m = (ap (λ (r : Place × Partial). Some r.0) (same m), ap (λ (r : Place × Partial). Some r.1) (same m))

between_parts : (p q : Place) (b : ℕ) (s : Partial) → read_between p b ≡ Some (q, s) → IsBetween p b q s
between_parts p q b s m = on_test (is_inside p && nat_eq b 32) _ _ (q, s) m
    (λ k m. let (within, space) = and_parts (is_inside p) (nat_eq b 32) k in
    inl (within, same_number b 32 space, ap (λ (r : Place × Partial). r.0) (same m), ap (λ (r : Place × Partial). r.1) (same m)))
    (λ _ m. entered_parts p q b s m)

-- between tokens: what is cut may go on after spaces
between_goes : (p q : Place) (b : ℕ) (s : Partial) (bs : List ℕ) → Before p Fresh bs → IsBetween p b q s → Before q s (bs ++ b ∷ [])
between_goes p q b s bs h between' = by_byte between'
  where
    none : h.part ≡ []
    none = fresh_holds h.part Fresh h.state

    here : h.place ≡ p
    here = subst (λ (x : List ℕ). Leads h.place x p) none h.first

    by_byte : IsBetween p b q s → Before q s (bs ++ b ∷ [])
    by_byte (inr (enter, begin)) =
        part_more p q Fresh s b bs h (ap (λ (o : Option Partial). partial_after o []) begin)
        (subst (λ (x : List ℕ). Leads h.place (x ++ b ∷ []) q) (sym none) (ap (λ (p : Place). after_begun p b) here ∙ enter))
    by_byte (inl (within, space, e, f)) =
        let within' : is_inside h.place ≡ true = ap is_inside here ∙ within in
        let before : Before p Fresh (bs ++ b ∷ []) = record {
          done = h.done ++ 32 ∷ [];
          part = [];
          tokens = h.tokens;
          place = h.place;
          split = (λ i. h.split i ++ space i ∷ []) ∙ ((λ i. (h.done ++ none i) ++ 32 ∷ []) ∙ ((λ i. append-nil h.done i ++ 32 ∷ []) ∙ sym (append-nil (h.done ++ 32 ∷ []))));
          read = h.read;
          state = refl;
          first = here;
          cut = (λ v us c.
              let c' : CutAs (past_spaces (32 ∷ v)) us = subst (λ (l : List ℕ). CutAs l us) (skipped_inside h.place v within') c in
              let c'' : CutAs (skipped h.place (h.part ++ 32 ∷ v)) us = subst (λ (l : List ℕ). CutAs l us) (sym ((λ i. skipped h.place (none i ++ 32 ∷ v)) ∙ skipped_inside h.place (32 ∷ v) within')) c' in
              subst (λ (l : List ℕ). CutAs l (h.tokens ++ us)) ((λ i. h.done ++ (none i ++ 32 ∷ v)) ∙ sym (append_assoc h.done (32 ∷ []) v)) (h.cut (32 ∷ v) us c''));
        } in
        subst (λ (q : Place). Before q s (bs ++ b ∷ [])) e (subst (λ (s : Partial). Before p s (bs ++ b ∷ [])) f before)

-- the token at hand ends before the byte
ends_goes : (p q r : Place) (s last : Partial) (b : ℕ) (bs : List ℕ) (h : Before p s bs) (t : TokenValue) → ((w : List ℕ) → IsNext h.part t (b ∷ w)) → advance h.place t ≡ Some q →
    IsBetween q b r last → Before r last (bs ++ b ∷ [])
ends_goes p q r s last b bs h t next m between' = by_byte between'
  where
    placed : advance_all (Some head) (h.tokens ++ t ∷ []) ≡ Some q
    placed = advance_all-append (Some head) h.tokens (t ∷ []) ∙ (ap (λ (o : Option Place). advance_all o (t ∷ [])) h.read ∙ ap (λ (o : Option Place). advance_all o []) m)

    cut_on : (v : List ℕ) (us : List TokenValue) → CutAs (past_spaces (b ∷ v)) us → CutAs (h.done ++ (h.part ++ b ∷ v)) ((h.tokens ++ t ∷ []) ++ us)
    cut_on v us c =
        let one = cut_one h.part t (b ∷ v) us (next v) c in
        let tight = skipped_tight h.place (h.part ++ b ∷ v) (cut_as_tight (h.part ++ b ∷ v) (t ∷ us) one) in
        subst (λ (ts : List TokenValue). CutAs (h.done ++ (h.part ++ b ∷ v)) ts) (sym (append_assoc h.tokens (t ∷ []) us))
        (h.cut (b ∷ v) (t ∷ us) (subst (λ (l : List ℕ). CutAs l (t ∷ us)) (sym tight) one))

    by_byte : IsBetween q b r last → Before r last (bs ++ b ∷ [])
    by_byte (inr (enter, begin)) =
        let space = no_space b last begin in
        record {
          done = h.done ++ h.part;
          part = b ∷ [];
          tokens = h.tokens ++ t ∷ [];
          place = q;
          split = (λ i. h.split i ++ b ∷ []);
          read = placed;
          state = ap (λ (o : Option Partial). partial_after o []) begin;
          first = enter;
          cut = (λ v us c.
              let tight : past_spaces (b ∷ v) ≡ b ∷ v = ap (λ (k : Bool). cond k (past_spaces v) (b ∷ v)) space in
              let c' = subst (λ (l : List ℕ). CutAs l us) (skipped_tight q (b ∷ v) tight ∙ sym tight) c in
              subst (λ (l : List ℕ). CutAs l ((h.tokens ++ t ∷ []) ++ us)) (sym (append_assoc h.done h.part (b ∷ v))) (cut_on v us c'));
        }
    by_byte (inl (within, space, e, f)) =
        let before : Before q Fresh (bs ++ b ∷ []) = record {
          done = (h.done ++ h.part) ++ b ∷ [];
          part = [];
          tokens = h.tokens ++ t ∷ [];
          place = q;
          split = (λ i. h.split i ++ b ∷ []) ∙ sym (append-nil ((h.done ++ h.part) ++ b ∷ []));
          read = placed;
          state = refl;
          first = refl;
          cut = (λ v us c.
              let past : past_spaces (b ∷ v) ≡ past_spaces v = ap (λ (c : ℕ). past_spaces (c ∷ v)) space in
              let c' = subst (λ (l : List ℕ). CutAs l us) (skipped_inside q v within ∙ sym past) c in
              subst (λ (l : List ℕ). CutAs l ((h.tokens ++ t ∷ []) ++ us)) (regroup h.done h.part (b ∷ v) v) (cut_on v us c'));
        } in
        subst (λ (r : Place). Before r last (bs ++ b ∷ [])) e (subst (λ (s : Partial). Before q s (bs ++ b ∷ [])) f before)
      where
        regroup : (d x y v : List ℕ) → d ++ (x ++ (b ∷ v)) ≡ ((d ++ x) ++ b ∷ []) ++ v
        regroup d x y v = simp append_assoc

fresh_is : (s : Partial) → is_fresh s ≡ true → s ≡ Fresh
fresh_is Fresh h = refl
fresh_is s h = absurd (cc)

-- some byte of the token at hand was read
some_part : (p : Place) (s : Partial) (bs : List ℕ) (h : Before p s bs) → is_fresh s ≡ false → h.part ≢ []
some_part p s bs h k e = absurd (let wrong : true ≡ false = ap is_fresh (same (ap (partial_after (Some Fresh)) (sym e) ∙ h.state)) ∙ k in cc)

-- the token that the part is where the byte comes next
part_ends : (p r : Place) (s last : Partial) (b : ℕ) (bs : List ℕ) (h : Before p s bs) (k : TokenKind) → h.part ≢ [] → partial_step s b ≡ None → kind_at s (Some b) ≡ Some k →
    IsBetween (behind_token k p) b r last → Before r last (bs ++ b ∷ [])
part_ends p r s last b bs h k some stops ends between' = by_part h.part refl h.first
  where
    by_part : (x : List ℕ) → h.part ≡ x → Leads h.place x p → Before r last (bs ++ b ∷ [])
    by_part [] e first = absurd (some e)
    by_part (c ∷ x) e first =
        let (t, fits, is) = sound s h.part (b ∷ []) k (fresh_holds h.part s h.state) ends in
        let m = leads_on h.place p t c (starts t c x (subst (λ (l : List ℕ). Spells l t) e fits.0)) first in
        let next : (w : List ℕ) → IsNext h.part t (b ∷ w) = λ w.
        let fits' = fits_too h.part t (b ∷ []) [] w (λ e. absurd (cc)) fits in
        stopped h.part t s b w fits' h.state stops (name_only h.part t (b ∷ w) k fits' is (s, h.state, ends)) in
        ends_goes p (behind_token k p) r s last b bs h t next (m ∙ ap (λ (k : TokenKind). Some (behind_token k p)) is) between'

byte_goes : (p q : Place) (s last : Partial) (b : ℕ) (bs : List ℕ) → Before p s bs → read_byte p s b ≡ Some (q, last) → Before q last (bs ++ b ∷ [])
byte_goes p q s last b bs h m = on_test (is_fresh s) _ _ (q, last) m
    (λ k m. between_goes p q b last bs (subst (λ (s : Partial). Before p s bs) (fresh_is s k) h) (between_parts p q b last m))
    (λ k m. by_step (some_part p s bs h k) (partial_step s b) refl m)
  where
    by_kind : h.part ≢ [] → partial_step s b ≡ None → (o : Option TokenKind) → kind_at s (Some b) ≡ o → read_between_at (place_after p o) b ≡ Some (q, last) → Before q last (bs ++ b ∷ [])
    by_kind some stops None ends m = nothing m
    by_kind some stops (Some k) ends m = part_ends p q s last b bs h k some stops ends (between_parts (behind_token k p) q b last m)

    by_step : h.part ≢ [] → (o : Option Partial) → partial_step s b ≡ o → inside p s b o ≡ Some (q, last) → Before q last (bs ++ b ∷ [])
    by_step some None stops m = by_kind some stops (kind_at s (Some b)) refl m
    by_step some (Some next) goes m =
        subst (λ (r : Place × Partial). Before r.0 r.1 (bs ++ b ∷ [])) (same m)
        (part_more p p s next b bs h (ap (λ (o : Option Partial). partial_after o []) goes) (leads_more h.place p h.part (b ∷ []) some h.first))

text_goes : (p q : Place) (s last : Partial) (bs more : List ℕ) → Before p s bs → read_text (Some (p, s)) more ≡ Some (q, last) → Before q last (bs ++ more)
text_goes p q s last bs [] h m = subst (λ (r : Place × Partial). Before r.0 r.1 (bs ++ [])) (same m) (subst (λ (l : List ℕ). Before p s l) (sym (append-nil bs)) h)
text_goes p q s last bs (b ∷ more) h m = by_byte (read_byte p s b) refl m (λ r t h m. text_goes r q t last (bs ++ b ∷ []) more h m)
  where
    by_byte : (o : Option (Place × Partial)) → read_byte p s b ≡ o → read_text o more ≡ Some (q, last) →
        ((r : Place) (t : Partial) → Before r t (bs ++ b ∷ []) → read_text (Some (r, t)) more ≡ Some (q, last) → Before q last ((bs ++ b ∷ []) ++ more)) → Before q last (bs ++ b ∷ more)
    by_byte None k m again = nothing m
    by_byte (Some (r, t)) k m again = subst (λ (l : List ℕ). Before q last l) (append_assoc bs (b ∷ []) more) (again r t (byte_goes p r s t b bs h k) m)

-- a text that is cut into a formula's tokens
cut_formula : (bs : List ℕ) (ts us : List TokenValue) (p : Place) → CutAs bs (ts ++ us) → advance_all (Some head) ts ≡ Some p → advance_all (Some p) us ≡ Some (has []) → IsFormulaText bs
cut_formula bs ts us p cuts placed ended' =
    let (ls, l, e) = cuts 0 in
    let whole = advance_all-append (Some head) ts us ∙ (ap (λ (o : Option Place). advance_all o us) placed ∙ ended') in
    read_tokens bs (ls, l, ap (advance_all (Some head)) e ∙ whole)

-- a text that goes on to a formula
finish : (bs v : List ℕ) (ts us : List TokenValue) (p : Place) → CutAs (bs ++ v) (ts ++ us) → advance_all (Some head) ts ≡ Some p → advance_all (Some p) us ≡ Some (has []) → IsFront bs
finish bs v ts us p cuts placed ended' = let (t, n, stands) = cut_formula (bs ++ v) ts us p cuts placed ended' in (v, t, n, stands)

before_front : (p : Place) (s : Partial) (bs : List ℕ) → Before p s bs → IsFront bs
before_front p s bs h = by_part h.part refl h.first
  where
    goes_on : (v : List ℕ) → bs ++ v ≡ h.done ++ (h.part ++ v)
    goes_on v = (λ i. h.split i ++ v) ∙ append_assoc h.done h.part v

    by_part : (x : List ℕ) → h.part ≡ x → Leads h.place x p → IsFront bs
    by_part [] e first =
        let v = ending_bytes h.place in
        let us = ending_tokens h.place in
        let here : CutAs (skipped h.place v) us = subst (λ (l : List ℕ). CutAs l us) (sym (skipped_tight h.place v (cut_as_tight v us (ending_cut h.place)))) (ending_cut h.place) in
        let cuts = h.cut v us (subst (λ (x : List ℕ). CutAs (skipped h.place (x ++ v)) us) (sym e) here) in
        finish bs v h.tokens us h.place (subst (λ (l : List ℕ). CutAs l (h.tokens ++ us)) (sym (goes_on v)) cuts) h.read (ending_read h.place)
    by_part (b ∷ x) e first =
        let (y, t, spells) = completes s h.part (fresh_holds h.part s h.state) in
        let q = behind_token (token_kind t) p in
        let m = leads_on h.place p t b (starts t b (x ++ y) (subst (λ (l : List ℕ). Spells (l ++ y) t) e spells)) first in
        let v = y ++ ending_bytes q in
        let us = t ∷ ending_tokens q in
        let one : CutAs (h.part ++ v) us = subst (λ (l : List ℕ). CutAs l us) (append_assoc h.part y (ending_bytes q))
        (cut_more (h.part ++ y) t (ending_bytes q) (ending_tokens q) (next_ending h.place t q (h.part ++ y) m spells) (ending_cut q)) in
        let here : CutAs (skipped h.place (h.part ++ v)) us = subst (λ (l : List ℕ). CutAs l us) (sym (skipped_tight h.place (h.part ++ v) (cut_as_tight (h.part ++ v) us one))) one in
        finish bs v h.tokens us h.place (subst (λ (l : List ℕ). CutAs l (h.tokens ++ us)) (sym (goes_on v)) (h.cut v us here)) h.read
        (ap (λ (o : Option Place). advance_all o (ending_tokens q)) m ∙ ending_read q)

-- a text that ends where a formula may end
before_formula : (p : Place) (s : Partial) (bs : List ℕ) → Before p s bs → place_at_end p s ≡ Some (has []) → IsFormulaText bs
before_formula p s bs h e = on_test (is_fresh s) _ _ (has []) e between_tokens (λ k e. by_kind (some_part p s bs h k) (kind_at s None) refl e)
  where
    -- where these tokens are what is left
    ends_with : (us : List TokenValue) → CutAs (h.part ++ []) us → advance_all (Some h.place) us ≡ Some (has []) → IsFormulaText bs
    ends_with us c read =
        let here : CutAs (skipped h.place (h.part ++ [])) us = subst (λ (l : List ℕ). CutAs l us) (sym (skipped_tight h.place (h.part ++ []) (cut_as_tight (h.part ++ []) us c))) c in
        let whole : h.done ++ (h.part ++ []) ≡ bs = (λ i. h.done ++ append-nil h.part i) ∙ sym h.split in
        cut_formula bs h.tokens us h.place (subst (λ (l : List ℕ). CutAs l (h.tokens ++ us)) whole (h.cut [] us here)) h.read read

    between_tokens : is_fresh s ≡ true → Some p ≡ Some (has []) → IsFormulaText bs
    between_tokens k e =
        let none : h.part ≡ [] = fresh_holds h.part Fresh (h.state ∙ ap Some (fresh_is s k)) in
        ends_with [] (subst (λ (l : List ℕ). CutAs (l ++ []) []) (sym none) cut_none) (ap Some (subst (λ (x : List ℕ). Leads h.place x p) none h.first) ∙ e)

    by_part : h.part ≢ [] → (k : TokenKind) → kind_at s None ≡ Some k → Some (behind_token k p) ≡ Some (has []) → (x : List ℕ) → h.part ≡ x → Leads h.place x p → IsFormulaText bs
    by_part some k ends after' [] e first = absurd (some e)
    by_part some k ends after' (c ∷ x) e first =
        let (t, fits, is) = sound s h.part [] k (fresh_holds h.part s h.state) ends in
        let m = leads_on h.place p t c (starts t c x (subst (λ (l : List ℕ). Spells l t) e fits.0)) first in
        ends_with (t ∷ []) (cut_more h.part t [] [] (last_token h.part t fits) cut_none)
        (ap (λ (o : Option Place). advance_all o []) (m ∙ (ap (λ (k : TokenKind). Some (behind_token k p)) is ∙ after')))

    by_kind : h.part ≢ [] → (o : Option TokenKind) → kind_at s None ≡ o → place_after p o ≡ Some (has []) → IsFormulaText bs
    by_kind some None ends after' = nothing after'
    by_kind some (Some k) ends after' = by_part some k ends after' h.part refl h.first

-- where the reader stands somewhere, some formula begins so
pub alive_front : (bs : List ℕ) → read_text (Some (head, Fresh)) bs ≢ None → IsFront bs
alive_front bs some = by_end (read_text (Some (head, Fresh)) bs) refl
  where
    by_end : (o : Option (Place × Partial)) → read_text (Some (head, Fresh)) bs ≡ o → IsFront bs
    by_end None m = absurd (some m)
    by_end (Some (p, s)) m = before_front p s bs (text_goes head p Fresh s [] bs before_none m)

-- where it ends with an operand outside all brackets, the text is a formula's
pub ended_formula : (bs : List ℕ) → place_ended (read_text (Some (head, Fresh)) bs) ≡ Some (has []) → IsFormulaText bs
ended_formula bs e = by_end (read_text (Some (head, Fresh)) bs) refl e
  where
    by_end : (o : Option (Place × Partial)) → read_text (Some (head, Fresh)) bs ≡ o → place_ended o ≡ Some (has []) → IsFormulaText bs
    by_end None m e = nothing e
    by_end (Some (p, s)) m e = before_formula p s bs (text_goes head p Fresh s [] bs before_none m) e
