-- What is counted of a formula.
use Rattle.std.specs.Prelude.{ℕ, suc, ◌+◌, max, nat_lt, if◌then◌else◌, length}
use Rattle.formula_tree.specs.declared.functions.Fun.{Fun}
use Rattle.formula_tree.specs.declared.functions.Fun.TheVariants.{Unknown}
use Rattle.formula_tree.specs.Tree.{Tree, Trees, num, text, fault, cell, range, pre, bin, call, none, more}
use Rattle.formula_tree.specs.Precedence.{precedence_of, precedence_of_operator}

-- the nesting of an operand where its place wants some precedence: brackets go round what binds more loosely
abbrev pub placed_nesting : ℕ → ℕ → ℕ → ℕ
placed_nesting wanted precedence nesting = if nat_lt precedence wanted then suc nesting else nesting

-- The nesting of the printed text. A left operand may have the operator's own precedence, a right one binds more
-- tightly, and that of a prefix sign is a prefix or stands by itself. Arguments have no brackets of their own.
abbrev mutual
  pub print_nesting : {C R : Type 0} → Tree C R → ℕ
  print_nesting (num n) = 1
  print_nesting (text t) = 1
  print_nesting (fault e) = 1
  print_nesting (cell c) = 1
  print_nesting (range r) = 1
  print_nesting (pre op t) = suc (placed_nesting 6 (precedence_of t) (print_nesting t))
  print_nesting (bin op s t) =
      suc (max (placed_nesting (precedence_of_operator op) (precedence_of s) (print_nesting s))
      (placed_nesting (suc (precedence_of_operator op)) (precedence_of t) (print_nesting t)))
  print_nesting (call f ts) = suc (greatest_nesting ts)

  pub greatest_nesting : {C R : Type 0} → Trees C R → ℕ
  greatest_nesting none = 0
  greatest_nesting (more t ts) = max (print_nesting t) (greatest_nesting ts)

-- how many nodes a tree has
abbrev mutual
  pub node_count : {C R : Type 0} → Tree C R → ℕ
  node_count (num n) = 1
  node_count (text t) = 1
  node_count (fault e) = 1
  node_count (cell c) = 1
  node_count (range r) = 1
  node_count (pre op t) = suc (node_count t)
  node_count (bin op s t) = suc (node_count s + node_count t)
  node_count (call f ts) = suc (node_counts ts)

  pub node_counts : {C R : Type 0} → Trees C R → ℕ
  node_counts none = 0
  node_counts (more t ts) = node_count t + node_counts ts

-- the bytes of an unknown name
abbrev pub name_bytes : Fun → ℕ
name_bytes (Unknown name) = length name
name_bytes fun = 0

-- the bytes of a tree's texts and unknown names
abbrev mutual
  pub byte_count : {C R : Type 0} → Tree C R → ℕ
  byte_count (num n) = 0
  byte_count (text t) = length t
  byte_count (fault e) = 0
  byte_count (cell c) = 0
  byte_count (range r) = 0
  byte_count (pre op t) = byte_count t
  byte_count (bin op s t) = byte_count s + byte_count t
  byte_count (call f ts) = name_bytes f + byte_counts ts

  pub byte_counts : {C R : Type 0} → Trees C R → ℕ
  byte_counts none = 0
  byte_counts (more t ts) = byte_count t + byte_counts ts

-- the weight of a formula: its nodes, and the bytes of its texts and unknown names
abbrev pub weight_of : {C R : Type 0} → Tree C R → ℕ
weight_of t = node_count t + byte_count t
