-- each name of a text is that of a function
use Rattle.std.proofs.Common.{◌≡◌, ℕ, true, List, [], ◌∷◌, Option, Some, None, refl, sym, ◌∙◌, subst}
use Rattle.std.specs.Prelude.{◌↔◌, find}
use Rattle.formula_tree.specs.declared.functions.Fun.{Fun}
use Rattle.formula_tree.specs.declared.functions.Fun.TheVariants as fun
use Rattle.formula_tree.specs.Names.{name_of, known_functions}
use Rattle.formula_tree.specs.WellFormed.{IsFun}
use Rattle.formula_tree.specs.Tokens.{TokenValue, is_name, upper_case, IsNext}
use Rattle.formula_tree.specs.Tokens as token
use Rattle.formula_tree.specs.Lexing.{Lexeme, Lexes}
use Rattle.formula_tree.specs.Lexing as cut
use Rattle.formula_tree.specs.declared.operators.BinOp.TheVariants.{Eq}
use Rattle.formula_tree.specs.Grammar.{Derives, IsFormulaText}
use Rattle.formula_tree.proofs.FunctionNames.{has_name, known_fun, unknown_fun, known_found, none_found}
use Rattle.formula_read.specs.Places.{IsKnownToken, AreKnownTokens, AreFormulaTokens, tokens_of, IsReadToEnd}
use Rattle.formula_read.proofs.Syntax.{formula_read, read_is_formula}

pub name_is_function : (bs : List ℕ) → is_name bs ≡ true → (f : Fun) × IsFun f × (name_of f ≡ upper_case bs)
name_is_function bs h = by_first (find (has_name (upper_case bs)) known_functions) refl
  where
    by_first : (o : Option Fun) → find (has_name (upper_case bs)) known_functions ≡ o → (f : Fun) × IsFun f × (name_of f ≡ upper_case bs)
    by_first (Some f) e = let (known, name) = known_found (upper_case bs) f (sym e) in (f, known_fun f known, name)
    by_first None e = (fun.Unknown (upper_case bs), unknown_fun bs h (none_found (upper_case bs) (sym e)), refl)

-- tokens of a text are proper
pub lexed_proper : {at : ℕ} {bs : List ℕ} {ls : List Lexeme} → Lexes at bs ls → AreKnownTokens (tokens_of ls)
lexed_proper cut.end = tt
lexed_proper (cut.next {piece = piece} {behind = behind} {t = t} n more) = (proper piece t behind n, lexed_proper more)
  where
    proper : (piece : List ℕ) (t : TokenValue) (behind : List ℕ) → IsNext piece t behind → IsKnownToken t
    proper p (token.name n) r next = let (f, is, e) = name_is_function p next.fits.0.0 in (f, is, e ∙ sym next.fits.0.1)
    proper p t r next = tt

-- a formula's text by its tokens
pub tokens_read : (bs : List ℕ) → IsFormulaText bs → IsReadToEnd bs
tokens_read bs (t, n, (first, ls, l, e, d)) =
    (first ∷ ls, l, formula_read (tokens_of (first ∷ ls)) (tokens_of ls, (λ i. e i ∷ tokens_of ls), (t, n, d)))

pub read_tokens : (bs : List ℕ) → IsReadToEnd bs → IsFormulaText bs
read_tokens bs (ls, l, r) = by_tokens ls l (read_is_formula (tokens_of ls) (lexed_proper l) r)
  where
    by_tokens : (ls : List Lexeme) → Lexes 0 bs ls → AreFormulaTokens (tokens_of ls) → IsFormulaText bs
    by_tokens [] l (us, e, _) = absurd (cc)
    by_tokens (first ∷ ls) l (us, e, (t, n, d)) =
        let sign' : first.token ≡ token.sign Eq = cc in
        let rest : us ≡ tokens_of ls = cc in
        (t, n, (first, ls, l, sign', subst (λ (us : List TokenValue). Derives 1 us t n) rest d))

pub text_is_read : (bs : List ℕ) → IsFormulaText bs ↔ IsReadToEnd bs
text_is_read bs = (tokens_read bs, read_tokens bs)
