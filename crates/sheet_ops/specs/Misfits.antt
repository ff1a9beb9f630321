-- Which number of an operation is the first that breaks its rule. The numbers come in this order: of a write, per cell
-- its row, its column and its formula's references from left to right, a cell by row and column and a range by top, left,
-- bottom, right; of an insertion or a deletion its one number; of a sort the slots, then the records; of moves each
-- position, ascending, with its image.
use Rattle.std.specs.Prelude.{ℕ, suc, ◌-◌, ◌^◌, min, ◌&&◌, nat_lt, nat_le, Bool, false, not, if◌then◌else◌, List, [], ◌∷◌, ◌++◌, length, Option, None, Some, Result, Ok, Err}
use Rattle.std.specs.List.{list_all}
use Rattle.marked_lines.specs.Moves.{IsPerm}
use Rattle.ss_base.specs.declared.types.Size.{Size}
use Rattle.ss_base.specs.declared.types.Spot.{Spot}
use Rattle.ss_base.specs.declared.types.Span.{Span}
use Rattle.formula_tree.specs.Tree.{Tree, Trees, num, text, fault, cell, range, pre, bin, call, none, more}
use Rattle.sheet_ops.specs.declared.content.Content.{Content}
use Rattle.sheet_ops.specs.declared.content.Content.TheVariants as content
use Rattle.sheet_ops.specs.declared.content.Put.{Put}
use Rattle.sheet_ops.specs.declared.operation.Intent.{Intent}
use Rattle.sheet_ops.specs.declared.operation.Intent.TheVariants as intent
use Rattle.sheet_ops.specs.declared.operation.Effect.{Effect}
use Rattle.sheet_ops.specs.declared.operation.Effect.TheVariants as effect
use Rattle.sheet_ops.specs.Lines.{place_where, has_number}
use Rattle.sheet_ops.specs.Fits.{writes_cell}

-- each element of a list beside those before it, by the tests of its numbers, one after another
abbrev pub beside_earlier : {A : Type 0} → (List A → A → List Bool) → List A → List A → List Bool
beside_earlier tests earlier [] = []
beside_earlier tests earlier (x ∷ xs) = tests earlier x ++ beside_earlier tests (earlier ++ x ∷ []) xs

-- per number of an operation on a sheet of a size, whether it meets its rule
module _ (size : Size) where
  abbrev pub cell_tests : Spot → List Bool
  cell_tests s = nat_lt s.row size.rows ∷ nat_lt s.col size.cols ∷ []

  abbrev pub range_tests : Span → List Bool
  range_tests s = nat_lt s.top size.rows ∷ nat_lt s.left size.cols ∷ nat_lt s.bottom size.rows ∷ nat_lt s.right size.cols ∷ []

  abbrev mutual
    pub tree_tests : Tree Spot Span → List Bool
    tree_tests (num n) = []
    tree_tests (text t) = []
    tree_tests (fault e) = []
    tree_tests (cell c) = cell_tests c
    tree_tests (range r) = range_tests r
    tree_tests (pre op t) = tree_tests t
    tree_tests (bin op s t) = tree_tests s ++ tree_tests t
    tree_tests (call fun ts) = trees_tests ts

    pub trees_tests : Trees Spot Span → List Bool
    trees_tests none = []
    trees_tests (more t ts) = tree_tests t ++ trees_tests ts

  abbrev pub content_tests : Content → List Bool
  content_tests content.Empty = []
  content_tests (content.Num z) = []
  content_tests (content.Text t) = []
  content_tests (content.Formula t) = tree_tests t

  -- a 129th cell breaks its rule by its row, and a cell that is written again by its column
  abbrev pub put_tests : List Put → Put → List Bool
  put_tests earlier p = (nat_lt (length earlier) 128 && nat_lt p.row size.rows) ∷ (nat_lt p.col size.cols && not (writes_cell earlier p)) ∷ content_tests p.content

  -- at most 1,024 slots, each above those before it
  abbrev pub slot_tests : List ℕ → ℕ → List Bool
  slot_tests earlier s = (nat_lt (length earlier) 1024 && nat_lt s size.rows && list_all (λ t. nat_lt t s) earlier) ∷ []

  -- as many records as slots, each none of those before it
  abbrev pub rec_tests : ℕ → List ℕ → ℕ → List Bool
  rec_tests slots earlier r = (nat_lt (length earlier) slots && nat_lt r size.rows && not (has_number earlier r)) ∷ []

  -- a record that is missing counts as a number behind the last one
  abbrev pub missing_tests : List ℕ → List ℕ → List Bool
  missing_tests slots recs = if nat_lt (length recs) (length slots) then false ∷ [] else []

  -- a moved position and its image
  abbrev pub move_tests : List (ℕ × ℕ) → ℕ × ℕ → List Bool
  move_tests earlier m = nat_lt m.0 size.rows ∷ nat_lt m.1 size.rows ∷ []

  -- an intent to write no cell lacks its first number
  abbrev pub intent_tests : Intent → List Bool
  intent_tests (intent.Write []) = false ∷ []
  intent_tests (intent.Write (p ∷ ps)) = beside_earlier put_tests [] (p ∷ ps)
  intent_tests (intent.InsRow p) = nat_le p size.rows ∷ []
  intent_tests (intent.InsCol p) = nat_le p size.cols ∷ []
  intent_tests (intent.DelRow p) = nat_lt p size.rows ∷ []
  intent_tests (intent.DelCol p) = nat_lt p size.cols ∷ []
  intent_tests (intent.Sort slots recs) = beside_earlier slot_tests [] slots ++ beside_earlier (rec_tests (length slots)) [] recs ++ missing_tests slots recs

  abbrev pub effect_tests : Effect → List Bool
  effect_tests (effect.Write ps) = beside_earlier put_tests [] ps
  effect_tests (effect.InsRow p) = nat_le p size.rows ∷ []
  effect_tests (effect.InsCol p) = nat_le p size.cols ∷ []
  effect_tests (effect.DelRow p) = nat_lt p size.rows ∷ []
  effect_tests (effect.DelCol p) = nat_lt p size.cols ∷ []
  effect_tests (effect.Move moves) = beside_earlier move_tests [] moves

-- what the type of moves says of every effect
abbrev pub MovesArePerm : Effect → Type 0
MovesArePerm (effect.Move moves) = IsPerm moves
MovesArePerm (effect.Write ps) = Unit {0}
MovesArePerm (effect.InsRow p) = Unit {0}
MovesArePerm (effect.InsCol p) = Unit {0}
MovesArePerm (effect.DelRow p) = Unit {0}
MovesArePerm (effect.DelCol p) = Unit {0}

-- the index of the first number that breaks its rule; 2^32 - 1 stands for all above it
abbrev pub misfit : List Bool → Option ℕ
misfit tests = let k = place_where not tests in if nat_lt k (length tests) then Some (min k (2 ^ 32 - 1)) else None

-- the numbers one after another, the first of them with an index: the index behind the last where all meet their rules,
-- and else that of the first that doesn't; 2^32 - 1 stands for all above it
abbrev pub walked : ℕ → List Bool → Result ℕ ℕ
walked at [] = Ok at
walked at (t ∷ ts) = if t then walked (min (suc at) (2 ^ 32 - 1)) ts else Err at
