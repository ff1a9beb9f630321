-- Where a reader of a formula's tokens stands.
use Rattle.std.specs.Prelude.{ℕ, ◌≡◌, List, [], ◌∷◌, ◌++◌, Option, Some, None, map}
use Rattle.ss_base.specs.declared.types.Spot.{Spot}
use Rattle.ss_base.specs.declared.types.Span.{Span}
use Rattle.formula_tree.specs.declared.operators.BinOp.TheVariants.{Eq}
use Rattle.formula_tree.specs.declared.functions.Fun.{Fun}
use Rattle.formula_tree.specs.Names.{name_of}
use Rattle.formula_tree.specs.Tree.{Tree}
use Rattle.formula_tree.specs.WellFormed.{IsFun}
use Rattle.formula_tree.specs.Tokens.{TokenValue, name, sign}
use Rattle.formula_tree.specs.Lexing.{Lexeme, Lexes}
use Rattle.formula_tree.specs.Grammar.{Derives}
use Rattle.formula_read.specs.declared.class.SignClass.TheVariants.{Prefix, Equals}
use Rattle.formula_read.specs.declared.class.TokenClass.{TokenClass}
use Rattle.formula_read.specs.declared.class.TokenClass.TheVariants.{Leaf, Name, Sign, Open, Close, Semi}
use Rattle.formula_read.specs.Classes.{token_class}
use Rattle.formula_read.specs.declared.brackets.Bracket.{Bracket}
use Rattle.formula_read.specs.declared.brackets.Bracket.TheVariants.{Group, Call}

-- inside these brackets, the innermost first
pub data Place : Type 0 where
  head : Place  -- before the `=`
  wants : List Bracket → Place  -- an operand is wanted
  has : List Bracket → Place  -- an operand is there
  named : List Bracket → Place  -- a function's name is there, and its bracket is wanted
  begins : List Bracket → Place  -- a call's bracket is there, and its first argument or its end is wanted

-- what an operand's first token leads to
abbrev pub operand : List Bracket → TokenClass → Option Place
operand ds Leaf = Some (has ds)
operand ds Name = Some (named ds)
operand ds (Sign Prefix) = Some (wants ds)
operand ds Open = Some (wants (Group ∷ ds))
operand ds c = None

-- a bracket closed
abbrev pub behind_closing : List Bracket → Option Place
behind_closing [] = None
behind_closing (d ∷ ds) = Some (has ds)

-- the next argument of a call
abbrev pub behind_semicolon : List Bracket → Option Place
behind_semicolon (Call ∷ ds) = Some (wants (Call ∷ ds))
behind_semicolon ds = None

-- where the reader stands after one more token of this class, if some formula goes on so
abbrev pub after : Place → TokenClass → Option Place
after head (Sign Equals) = Some (wants [])
after head c = None
after (wants ds) c = operand ds c
after (has ds) (Sign s) = Some (wants ds)
after (has ds) Close = behind_closing ds
after (has ds) Semi = behind_semicolon ds
after (has ds) c = None
after (named ds) Open = Some (begins ds)
after (named ds) c = None
after (begins ds) Close = Some (has ds)
after (begins ds) c = operand (Call ∷ ds) c

abbrev pub advance : Place → TokenValue → Option Place
advance p t = after p (token_class t)

abbrev pub advance_all : Option Place → List TokenValue → Option Place
advance_all None ts = None
advance_all (Some p) [] = Some p
advance_all (Some p) (t ∷ ts) = advance_all (advance p t) ts

-- a name is a function's
abbrev pub IsKnownToken : TokenValue → Type 0
IsKnownToken (name n) = (fun : Fun) × IsFun fun × (name_of fun ≡ n)
IsKnownToken t = Unit {0}

abbrev pub AreKnownTokens : List TokenValue → Type 0
AreKnownTokens [] = Unit {0}
AreKnownTokens (t ∷ ts) = IsKnownToken t × AreKnownTokens ts

-- the tokens of a formula: the `=`, and those of an expression
abbrev pub IsExpression : List TokenValue → Type 0
IsExpression ts = (t : Tree Spot Span) × (n : ℕ) × Derives 1 ts t n

abbrev pub AreFormulaTokens : List TokenValue → Type 0
AreFormulaTokens ts = (us : List TokenValue) × (ts ≡ sign Eq ∷ us) × IsExpression us

-- some formula's tokens begin so
abbrev pub IsFormulaFront : List TokenValue → Type 0
IsFormulaFront ts = (rest : List TokenValue) × AreFormulaTokens (ts ++ rest)

abbrev pub tokens_of : List Lexeme → List TokenValue
tokens_of ls = map (λ l. l.token) ls

-- the text is cut into tokens, and the reader of those ends with an operand outside all brackets
abbrev pub IsReadToEnd : List ℕ → Type 0
IsReadToEnd bs = (ls : List Lexeme) × Lexes 0 bs ls × (advance_all (Some head) (tokens_of ls) ≡ Some (has []))
