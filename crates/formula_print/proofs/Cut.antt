-- the text of a tree's tokens is cut into them
use Rattle.std.proofs.Common.{◌≡◌, ℕ, suc, ◌+◌, Bool, true, false, cond, nat_lt, pos, negsuc, List, [], ◌∷◌, ◌++◌, length, map, refl, ap, sym, ◌∙◌, subst, append_assoc, append-nil}
use Rattle.ss_base.specs.declared.types.Spot.{Spot}
use Rattle.ss_base.specs.declared.types.Span.{Span}
use Rattle.formula_tree.specs.declared.operators.PreOp.{PreOp}
use Rattle.formula_tree.specs.declared.operators.BinOp.{BinOp}
use Rattle.formula_tree.specs.declared.operators.BinOp.TheVariants.{Eq}
use Rattle.formula_tree.specs.declared.functions.Fun.{Fun}
use Rattle.formula_tree.specs.Names.{name_of}
use Rattle.formula_tree.specs.Tree.{Tree, Trees, num, text, fault, cell, range, pre, bin, call, none, more}
use Rattle.formula_tree.specs.Precedence.{precedence_of, precedence_of_operator}
use Rattle.formula_tree.specs.Measures.{print_nesting}
use Rattle.formula_tree.specs.Tokens.{TokenValue, Spells, Fits, IsNext, is_printable, sign_text}
use Rattle.formula_tree.specs.Tokens as token
use Rattle.formula_tree.specs.Lexing.{Lexeme, Lexes, space_count, past_spaces}
use Rattle.formula_tree.specs.Lexing as cut
use Rattle.formula_tree.specs.Grammar.{operator_of_sign, Derives, Stands}
use Rattle.formula_tree.specs.WellFormed.{IsWellFormed, AreWellFormed, IsFun}
use Rattle.formula_tree.specs.Printed.{formula_text}
use Rattle.formula_read.specs.Read.{token_kind}
use Rattle.formula_read.specs.Behind.{goes_on}
use Rattle.formula_print.proofs.TreeTokens.{token_text, token_texts, placed_tokens, parted_tokens, tree_tokens, argument_tokens, tree_text-tokens}
use Rattle.formula_print.proofs.Derived.{expression_derives}
use Rattle.formula_print.proofs.Parting.{is_operand, is_behind, is_operand-append, ends_tree, IsParted, parted_behind, parted_sign, parted_opening, parted_semicolon, parted_empty, parted_name}
use Rattle.formula_print.proofs.Spelled.{ReadsCells, spells_numeral, numeral_operand, fault_operand, cell_begins, spells_range, name_spelled, name_begins, sign_behind, prefix_operand}

-- what formula_read says of tokens
abbrev pub FindsNext : Type 0
FindsNext = (piece : List ℕ) (t : TokenValue) (rest : List ℕ) → Fits piece t rest → goes_on (token_kind t) rest ≡ false → IsNext piece t rest

-- each token is spelled by its text, which ends before the text of those behind it
abbrev AreParted : List TokenValue → Type 0
AreParted [] = Unit {0}
AreParted (t ∷ ts) = Spells (token_text t) t × IsParted t (token_texts ts) × AreParted ts

lexes : FindsNext → (ts : List TokenValue) → AreParted ts → (at : ℕ) → (ls : List Lexeme) × Lexes at (token_texts ts) ls × (map (λ l. l.token) ls ≡ ts)
lexes finds [] h at = ([], cut.end, refl)
lexes finds (t ∷ ts) (spells, parted, others) at =
    let piece = token_text t in
    let rest = token_texts ts in
    let (ls, cuts, same) = lexes finds ts others (at + length piece + space_count rest) in
    let next = finds piece t rest (spells, parted.follows) parted.ends in
    let whole = cut.next next (subst (λ (bs : List ℕ). Lexes (at + length piece + space_count rest) bs ls) (sym parted.past) cuts) in
    (record { from = at; to = at + length piece; token = t } ∷ ls, whole, ap (λ (us : List TokenValue). t ∷ us) same)

-- tokens of an operand: with tokens behind them that may stand behind an operand they are parted, and they begin as one
record IsOperand (ts : List TokenValue) : Type 0 where
  parted : (us : List TokenValue) → is_behind (token_texts us) ≡ true → AreParted us → AreParted (ts ++ us)
  begins : (us : List TokenValue) → is_operand (token_texts (ts ++ us)) ≡ true

one_token : (t : TokenValue) → Spells (token_text t) t → is_operand (token_text t) ≡ true → ends_tree t ≡ true → IsOperand (t ∷ [])
one_token t spells first ends = record {
  parted = (λ us behind h. (spells, parted_behind t (token_texts us) ends behind, h));
  begins = (λ us. is_operand-append (token_text t) (token_texts us) first);
}

-- a closing bracket behind an operand
closed : (us : List TokenValue) → is_behind (token_texts us) ≡ true → AreParted us → AreParted (token.closing ∷ us)
closed us behind h = (refl, parted_behind token.closing (token_texts us) refl behind, h)

bracketed : (ts : List TokenValue) → IsOperand ts → IsOperand (token.opening ∷ ts ++ token.closing ∷ [])
bracketed ts o = record {
  parted = (λ us behind h.
      let inner = o.parted (token.closing ∷ us) refl (closed us behind h) in
      subst (λ (l : List TokenValue). AreParted (token.opening ∷ l)) (sym (append_assoc ts (token.closing ∷ []) us))
      (refl, parted_opening (token_texts (ts ++ token.closing ∷ us)) (o.begins (token.closing ∷ us)), inner));
  begins = (λ us. refl);
}

placed_operand : (wanted precedence : ℕ) (ts : List TokenValue) → IsOperand ts → IsOperand (placed_tokens wanted precedence ts)
placed_operand wanted precedence ts o = by_test (nat_lt precedence wanted)
  where
    by_test : (b : Bool) → IsOperand (cond b (token.opening ∷ ts ++ token.closing ∷ []) ts)
    by_test true = bracketed ts o
    by_test false = o

signed : (op : PreOp) (ts : List TokenValue) → IsOperand ts → IsOperand (token.sign (operator_of_sign op) ∷ ts)
signed op ts o = record {
  parted = (λ us behind h. (refl, parted_sign (operator_of_sign op) (token_texts (ts ++ us)) (o.begins us), o.parted us behind h));
  begins = (λ us. prefix_operand op (token_texts (ts ++ us)));
}

combined : (op : BinOp) (ss ts : List TokenValue) → IsOperand ss → IsOperand ts → IsOperand (ss ++ token.sign op ∷ ts)
combined op ss ts o p = record {
  parted = (λ us behind h.
      let right : AreParted (token.sign op ∷ (ts ++ us)) = (refl, parted_sign op (token_texts (ts ++ us)) (p.begins us), p.parted us behind h) in
      subst AreParted (sym (append_assoc ss (token.sign op ∷ ts) us)) (o.parted (token.sign op ∷ (ts ++ us)) (sign_behind op (token_texts (ts ++ us))) right));
  begins = (λ us. subst (λ (l : List TokenValue). is_operand (token_texts l) ≡ true) (sym (append_assoc ss (token.sign op ∷ ts) us)) (o.begins (token.sign op ∷ (ts ++ us))));
}

-- arguments
abbrev AreOperands : List (List TokenValue) → Type 0
AreOperands [] = Unit {0}
AreOperands (ts ∷ rest) = IsOperand ts × AreOperands rest

parted_begins : (ts : List TokenValue) (rest : List (List TokenValue)) → IsOperand ts → (us : List TokenValue) → is_operand (token_texts (parted_tokens (ts ∷ rest) ++ us)) ≡ true
parted_begins ts [] o us = o.begins us
parted_begins ts (next ∷ rest) o us =
    subst (λ (l : List TokenValue). is_operand (token_texts l) ≡ true) (sym (append_assoc ts (token.semicolon ∷ parted_tokens (next ∷ rest)) us)) (o.begins (token.semicolon ∷ (parted_tokens (next ∷ rest) ++ us)))

all_parted : (tss : List (List TokenValue)) → AreOperands tss → (us : List TokenValue) → is_behind (token_texts us) ≡ true → AreParted us → AreParted (parted_tokens tss ++ us)
all_parted [] o us behind h = h
all_parted (ts ∷ []) o us behind h = o.0.parted us behind h
all_parted (ts ∷ next ∷ rest) (o, (p, q)) us behind h =
    let others = parted_tokens (next ∷ rest) in
    let right : AreParted (token.semicolon ∷ (others ++ us)) =
    (refl, parted_semicolon (token_texts (others ++ us)) (parted_begins next rest p us), all_parted (next ∷ rest) (p, q) us behind h) in
    subst AreParted (sym (append_assoc ts (token.semicolon ∷ others) us)) (o.parted (token.semicolon ∷ (others ++ us)) refl right)

opening_parted : (tss : List (List TokenValue)) → AreOperands tss → (us : List TokenValue) → IsParted token.opening (token_texts (parted_tokens tss ++ token.closing ∷ us))
opening_parted [] o us = parted_empty (token_texts us)
opening_parted (ts ∷ rest) o us = parted_opening (token_texts (parted_tokens (ts ∷ rest) ++ token.closing ∷ us)) (parted_begins ts rest o.0 (token.closing ∷ us))

called : (f : Fun) (tss : List (List TokenValue)) → IsFun f → AreOperands tss → IsOperand (token.name (name_of f) ∷ token.opening ∷ parted_tokens tss ++ token.closing ∷ [])
called f tss is o =
    let (name, upper) = name_spelled f is in
    record {
      parted = (λ us behind h.
          let inner = all_parted tss o (token.closing ∷ us) refl (closed us behind h) in
          subst (λ (l : List TokenValue). AreParted (token.name (name_of f) ∷ token.opening ∷ l)) (sym (append_assoc (parted_tokens tss) (token.closing ∷ []) us))
          ((name, upper), parted_name (name_of f) (token_texts (parted_tokens tss ++ token.closing ∷ us)), (refl, opening_parted tss o us, inner)));
      begins = (λ us. is_operand-append (name_of f) (token_texts ((token.opening ∷ parted_tokens tss ++ token.closing ∷ []) ++ us)) (name_begins (name_of f) name));
    }

module _ (reads : ReadsCells) where
  mutual
    operand : (t : Tree Spot Span) → IsWellFormed t → IsOperand (tree_tokens t)
    operand (num (pos n)) w = one_token (token.numeral n) (spells_numeral n w) (numeral_operand n w) refl
    operand (num (negsuc n)) w = absurd w
    operand (text t) w = one_token (token.text t) (refl, w) refl refl
    operand (fault e) w = one_token (token.fault e) refl (fault_operand e) refl
    operand (cell c) w = let spells = reads c w.0 w.1 in one_token (token.cell c) spells (cell_begins (token_text (token.cell c)) c spells) refl
    operand (range r) w =
        let (first, last, a, b, e, f, l, is) = spells_range reads r w in
        one_token (token.range r) (first, last, a, b, e, f, l, is) (ap is_operand e ∙ is_operand-append first (58 ∷ last) (cell_begins first a f)) refl
    operand (pre op t) w = signed op (placed_tokens 6 (precedence_of t) (tree_tokens t)) (placed_operand 6 (precedence_of t) (tree_tokens t) (operand t w))
    operand (bin op s t) w = combined op _ _
        (placed_operand (precedence_of_operator op) (precedence_of s) (tree_tokens s) (operand s w.0))
        (placed_operand (suc (precedence_of_operator op)) (precedence_of t) (tree_tokens t) (operand t w.1))
    operand (call f ts) w = called f (argument_tokens ts) w.0 (operands ts w.1)

    operands : (ts : Trees Spot Span) → AreWellFormed ts → AreOperands (argument_tokens ts)
    operands none w = tt
    operands (more t ts) w = (operand t w.0, operands ts w.1)

  -- the printed text stands for the tree
  pub text_stands : FindsNext → (t : Tree Spot Span) → IsWellFormed t → Stands (formula_text t) t (print_nesting t)
  text_stands finds t w =
      let o = operand t w in
      let ts = tree_tokens t in
      let all : AreParted ts = subst AreParted (append-nil ts) (o.parted [] refl tt) in
      let begins : is_operand (token_texts ts) ≡ true = ap (λ (l : List TokenValue). is_operand (token_texts l)) (sym (append-nil ts)) ∙ o.begins [] in
      let first = parted_sign Eq (token_texts ts) begins in
      let (ls, cuts, same) = lexes finds ts all (0 + length {A = ℕ} (61 ∷ []) + space_count (token_texts ts)) in
      let next : IsNext (61 ∷ []) (token.sign Eq) (token_texts ts) = finds (61 ∷ []) (token.sign Eq) (token_texts ts) (refl, tt) first.ends in
      let head : Lexeme = record { from = 0; to = 0 + length {A = ℕ} (61 ∷ []); token = token.sign Eq } in
      let whole : Lexes 0 (61 ∷ token_texts ts) (head ∷ ls) =
      cut.next next (subst (λ (bs : List ℕ). Lexes (0 + length {A = ℕ} (61 ∷ []) + space_count (token_texts ts)) bs ls) (sym first.past) cuts) in (
        head,
        ls,
        subst (λ (bs : List ℕ). Lexes 0 (61 ∷ bs) (head ∷ ls)) (sym (tree_text-tokens t w)) whole,
        refl,
        subst (λ (us : List TokenValue). Derives 1 us t (print_nesting t)) (sym same) (expression_derives t w),
      )
