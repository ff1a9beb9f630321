-- The grammar of formulas, after OpenFormula ("Expression Syntax" of part 4 of OpenDocument 1.3) in this profile.
use Rattle.std.specs.Prelude.{ℕ, suc, ◌≡◌, pos, max, List, [], ◌∷◌, ◌++◌, map}
use Rattle.ss_base.specs.declared.types.Spot.{Spot}
use Rattle.ss_base.specs.declared.types.Span.{Span}
use Rattle.ss_base.specs.declared.types.CalcErr.{CalcErr}
use Rattle.formula_tree.specs.declared.operators.PreOp.{PreOp}
use Rattle.formula_tree.specs.declared.operators.PreOp.TheVariants.{Plus, Minus}
use Rattle.formula_tree.specs.declared.operators.BinOp.{BinOp}
use Rattle.formula_tree.specs.declared.operators.BinOp.TheVariants.{Add, Sub, Eq}
use Rattle.formula_tree.specs.declared.functions.Fun.{Fun}
use Rattle.formula_tree.specs.Names.{name_of}
use Rattle.formula_tree.specs.Tree.{Tree, Trees}
use Rattle.formula_tree.specs.Tree as tree
use Rattle.formula_tree.specs.Precedence.{precedence_of_operator}
use Rattle.formula_tree.specs.WellFormed.{IsFun}
use Rattle.formula_tree.specs.Tokens.{TokenValue}
use Rattle.formula_tree.specs.Tokens as token
use Rattle.formula_tree.specs.Lexing.{Lexeme, Lexes}

-- a prefix sign is spelled as the operator
abbrev pub operator_of_sign : PreOp → BinOp
operator_of_sign Plus = Add
operator_of_sign Minus = Sub

mutual
  -- Tokens that bind at least as tightly as the number says (1 comparisons to 6 prefix signs, 7 what stands by itself),
  -- the tree that they form, and their nesting. Operators of one precedence group to the left. Brackets leave no node.
  pub data Derives : ℕ → List TokenValue → Tree Spot Span → ℕ → Type 0 where
    tighter : {p n : ℕ} {ts : List TokenValue} {t : Tree Spot Span} → Derives (suc p) ts t n → Derives p ts t n
    binary : {m n : ℕ} {op : BinOp} {ss ts : List TokenValue} {s t : Tree Spot Span} →
        Derives (precedence_of_operator op) ss s m → Derives (suc (precedence_of_operator op)) ts t n →
        Derives (precedence_of_operator op) (ss ++ token.sign op ∷ ts) (tree.bin op s t) (suc (max m n))
    prefix : {n : ℕ} {op : PreOp} {ts : List TokenValue} {t : Tree Spot Span} →
        Derives 6 ts t n → Derives 6 (token.sign (operator_of_sign op) ∷ ts) (tree.pre op t) (suc n)
    numeral : {n : ℕ} → Derives 7 (token.numeral n ∷ []) (tree.num (pos n)) 1
    text : {t : List ℕ} → Derives 7 (token.text t ∷ []) (tree.text t) 1
    fault : {e : CalcErr} → Derives 7 (token.fault e ∷ []) (tree.fault e) 1
    cell : {c : Spot} → Derives 7 (token.cell c ∷ []) (tree.cell c) 1
    range : {r : Span} → Derives 7 (token.range r ∷ []) (tree.range r) 1
    brackets : {n : ℕ} {ts : List TokenValue} {t : Tree Spot Span} →
        Derives 1 ts t n → Derives 7 (token.opening ∷ ts ++ token.closing ∷ []) t (suc n)
    call : {n : ℕ} {fun : Fun} {ts : List TokenValue} {args : Trees Spot Span} → IsFun fun → Arguments ts args n →
        Derives 7 (token.name (name_of fun) ∷ token.opening ∷ ts ++ token.closing ∷ []) (tree.call fun args) (suc n)

  -- the arguments of a call, parted by semicolons, and their greatest nesting
  pub data Arguments : List TokenValue → Trees Spot Span → ℕ → Type 0 where
    empty : Arguments [] tree.none 0
    some : {n : ℕ} {ts : List TokenValue} {args : Trees Spot Span} → Listed ts args n → Arguments ts args n

  pub data Listed : List TokenValue → Trees Spot Span → ℕ → Type 0 where
    last : {n : ℕ} {ts : List TokenValue} {t : Tree Spot Span} → Derives 1 ts t n → Listed ts (tree.more t tree.none) n
    more : {m n : ℕ} {ts us : List TokenValue} {t : Tree Spot Span} {args : Trees Spot Span} →
        Derives 1 ts t m → Listed us args n → Listed (ts ++ token.semicolon ∷ us) (tree.more t args) (max m n)

-- the text is a formula's: it spells `=` and tokens that form the tree, and has that nesting
abbrev pub Stands : List ℕ → Tree Spot Span → ℕ → Type 0
Stands bs t n =
    (head : Lexeme) × (ls : List Lexeme) × Lexes 0 bs (head ∷ ls) × (head.token ≡ token.sign Eq) × Derives 1 (map (λ l. l.token) ls) t n

-- the text is a formula's
abbrev pub IsFormulaText : List ℕ → Type 0
IsFormulaText bs = (t : Tree Spot Span) × (n : ℕ) × Stands bs t n

-- some formula's text begins so
abbrev pub IsFront : List ℕ → Type 0
IsFront bs = (rest : List ℕ) × (t : Tree Spot Span) × (n : ℕ) × Stands (bs ++ rest) t n
