-- Which trees are formulas.
use Rattle.std.specs.Prelude.{ℕ, ℤ, pos, negsuc, ◌≡◌, ◌≢◌, ◌<◌, ◌≤◌, ◌^◌, true}
use Rattle.std.specs.List.{list_all}
use Rattle.ss_base.specs.declared.types.Spot.{Spot}
use Rattle.ss_base.specs.declared.types.Span.{Span}
use Rattle.formula_tree.specs.declared.functions.Fun.{Fun}
use Rattle.formula_tree.specs.declared.functions.Fun.TheVariants.{Unknown}
use Rattle.formula_tree.specs.Tree.{Tree, Trees, num, text, fault, cell, range, pre, bin, call, none, more}
use Rattle.formula_tree.specs.Names.{name_of, is_known}
use Rattle.formula_tree.specs.Tokens.{is_printable, is_name, upper_case}
use Rattle.formula_tree.specs.Measures.{print_nesting, node_count}

-- a number that a numeral can spell
abbrev pub IsNumber : ℤ → Type 0
IsNumber (pos n) = n < 2 ^ 63
IsNumber (negsuc n) = ⊥

-- a function that has a meaning, or a name in upper case that none of those has
abbrev pub IsFun : Fun → Type 0
IsFun (Unknown name) = (is_name name ≡ true) × (upper_case name ≡ name) × ((fun : Fun) → is_known fun ≡ true → name_of fun ≢ name)
IsFun fun = Unit {0}

-- a row and a column that an address can spell
abbrev pub IsPlace : ℕ → ℕ → Type 0
IsPlace row col = (row < 9999999) × (col < 18278)

abbrev pub IsCell : Spot → Type 0
IsCell c = IsPlace c.row c.col

-- its ends in order
pub record IsRange (r : Span) : Type 0 where
  pub first : IsPlace r.top r.left
  pub last : IsPlace r.bottom r.right
  pub rows : r.top ≤ r.bottom
  pub cols : r.left ≤ r.right

abbrev mutual
  pub IsWellFormed : Tree Spot Span → Type 0
  IsWellFormed (num n) = IsNumber n
  IsWellFormed (text t) = list_all is_printable t ≡ true
  IsWellFormed (fault e) = Unit {0}
  IsWellFormed (cell c) = IsCell c
  IsWellFormed (range r) = IsRange r
  IsWellFormed (pre op t) = IsWellFormed t
  IsWellFormed (bin op s t) = IsWellFormed s × IsWellFormed t
  IsWellFormed (call f ts) = IsFun f × AreWellFormed ts

  pub AreWellFormed : Trees Spot Span → Type 0
  AreWellFormed none = Unit {0}
  AreWellFormed (more t ts) = IsWellFormed t × AreWellFormed ts

-- the tree of a formula
pub record IsFormula (t : Tree Spot Span) : Type 0 where
  pub formed : IsWellFormed t
  pub shallow : print_nesting t ≤ 64
  pub small : node_count t < 2 ^ 24
