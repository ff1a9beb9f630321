-- What the reader of tokens answers.
use Rattle.std.specs.Prelude.{ℕ, ◌≤◌, List, length, take}
use Rattle.formula_tree.specs.Tokens.{TokenValue, numeral, text, fault, cell, range, name, sign, opening, closing, semicolon}
use Rattle.formula_tree.specs.Lexing.{Lexeme, Lexes, IsTokenFront}
use Rattle.formula_read.specs.declared.kinds.TokenKind.{TokenKind}
use Rattle.formula_read.specs.declared.kinds.TokenKind.TheVariants as kind
use Rattle.formula_read.specs.declared.kinds.Token.{Token}

abbrev pub token_kind : TokenValue → TokenKind
token_kind (numeral n) = kind.Numeral
token_kind (text t) = kind.Text
token_kind (fault e) = kind.Error
token_kind (cell c) = kind.Cell
token_kind (range r) = kind.Range
token_kind (name n) = kind.Name
token_kind (sign op) = kind.Sign
token_kind opening = kind.Open
token_kind closing = kind.Close
token_kind semicolon = kind.Semi

-- a token by its place and kind
abbrev pub placed_token : Lexeme → Token
placed_token l = record { from = l.from; to = l.to; kind = token_kind l.token }

-- some list of tokens stands for the text
abbrev pub IsLexed : List ℕ → Type 0
IsLexed bs = (ls : List Lexeme) × Lexes 0 bs ls

-- the length of the longest front of a text that some text of tokens has, too
pub record IsLongestFront (bs : List ℕ) (p : ℕ) : Type 0 where
  pub within : p ≤ length bs
  pub front : IsTokenFront (take p bs)
  pub longest : (q : ℕ) → q ≤ length bs → IsTokenFront (take q bs) → q ≤ p
