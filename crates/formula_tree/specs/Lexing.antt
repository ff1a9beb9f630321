-- A text cut into tokens. Any number of spaces may stand behind each token, and none before the first.
use Rattle.std.specs.Prelude.{ℕ, suc, ◌+◌, nat_eq, if◌then◌else◌, List, [], ◌∷◌, ◌++◌, length}
use Rattle.formula_tree.specs.Tokens.{TokenValue, IsNext}

-- the spaces at the front, and what is behind them
abbrev pub space_count : List ℕ → ℕ
space_count [] = 0
space_count (b ∷ bs) = if nat_eq b 32 then suc (space_count bs) else 0

abbrev pub past_spaces : List ℕ → List ℕ
past_spaces [] = []
past_spaces (b ∷ bs) = if nat_eq b 32 then past_spaces bs else b ∷ bs

-- a token, and where its first byte stands and the byte behind its last one
pub record Lexeme : Type 0 where
  pub from : ℕ
  pub to : ℕ
  pub token : TokenValue

-- these are the tokens of a text whose first byte stands at some place of a longer text
pub data Lexes : ℕ → List ℕ → List Lexeme → Type 0 where
  end : {at : ℕ} → Lexes at [] []
  next : {at : ℕ} {piece behind : List ℕ} {t : TokenValue} {ls : List Lexeme} → IsNext piece t behind →
      Lexes (at + length piece + space_count behind) (past_spaces behind) ls →
      Lexes at (piece ++ behind) (record { from = at; to = at + length piece; token = t } ∷ ls)

-- some text of tokens begins so
abbrev pub IsTokenFront : List ℕ → Type 0
IsTokenFront bs = (rest : List ℕ) × (ls : List Lexeme) × Lexes 0 (bs ++ rest) ls
