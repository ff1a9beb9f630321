-- What a walk is given, what it finds, and its states on the way.
use Rattle.std.specs.Prelude.{◌≡◌, ◌≢◌, ℕ, zero, suc, ◌-◌, ◌<◌, ◌≤◌, ◌⊎◌, Bool, true, false, List, [], ◌∷◌, length, slice_index_or, sum_by, Option, None, Some}
use Rattle.std.specs.List.{list_any}
use Rattle.cell_walk.specs.declared.walking.Colour.{Colour}
use Rattle.cell_walk.specs.declared.walking.Colour.TheVariants.{White, Grey, Ordered, Circular}
use Rattle.cell_walk.specs.declared.walking.Entry.{Entry}
use Rattle.cell_walk.specs.declared.walking.Progress.{Progress}
use Rattle.cell_walk.specs.declared.walking.Interval.{Interval}

abbrev pub at_start : Progress
at_start = record { reference = 0; row = 0; col = 0 }

-- so many cells, from one on, and those of a run
abbrev pub cells_from : ℕ → ℕ → List ℕ
cells_from first zero = []
cells_from first (suc count) = first ∷ cells_from (suc first) count

abbrev pub interval_cells : Interval → List ℕ
interval_cells r = cells_from r.first (r.end - r.first)

-- x is one of a list
abbrev pub IsIn : {A : Type 0} → A → List A → Type 0
IsIn x [] = ⊥
IsIn x (y ∷ ys) = (y ≡ x) ⊎ IsIn x ys

-- none of a list comes twice
abbrev pub AreDistinct : {A : Type 0} → List A → Type 0
AreDistinct [] = Unit {0}
AreDistinct (x ∷ xs) = (IsIn x xs → ⊥) × AreDistinct xs

-- the colour of a cell
abbrev pub hue : List Colour → ℕ → Colour
hue colours c = slice_index_or colours c White

abbrev pub is_circle : Colour → Bool
is_circle Circular = true
is_circle c = false

abbrev pub is_ordered : Colour → Bool
is_ordered Ordered = true
is_ordered c = false

abbrev pub is_white : Colour → Bool
is_white White = true
is_white c = false

-- each mention of one of so many cells is one of them
abbrev pub MentionsWithin : ℕ → (ℕ → List ℕ) → Type 0
MentionsWithin count mentions = (c d : ℕ) → c < count → IsIn d (mentions c) → d < count

-- `first` is what was known of each cell when the walk began
module _ (mentions : ℕ → List ℕ) (first : ℕ → Colour) where
  -- what a walk may begin with: nothing is on the stack, and each circular cell mentions a circular one
  pub record MayBegin : Type 0 where
    pub no_grey : (c : ℕ) → first c ≢ Grey
    pub circles : (c : ℕ) → first c ≡ Circular → list_any (λ d. is_circle (first d)) (mentions c) ≡ true

  -- each cell stands behind all that it mentions, but for what was in order when the walk began; the last cell first
  abbrev pub Orderly : List ℕ → Type 0
  Orderly [] = Unit {0}
  Orderly (c ∷ before) = ((d : ℕ) → IsIn d (mentions c) → IsIn d before ⊎ (first d ≡ Ordered)) × Orderly before

  -- What a walk found of so many cells: each is in order or circular. The order, its last cell first, has each cell that
  -- was white and isn't circular once, and no other.
  pub record IsFound (count : ℕ) (hue : ℕ → Colour) (order : List ℕ) : Type 0 where
    pub each : (c : ℕ) → c < count → (hue c ≡ Ordered) ⊎ (hue c ≡ Circular)
    pub circles : (c : ℕ) → hue c ≡ Circular → list_any (λ d. is_circle (hue d)) (mentions c) ≡ true
    pub orderly : Orderly order
    pub in_order : (c : ℕ) → hue c ≡ Ordered → IsIn c order ⊎ (first c ≡ Ordered)
    pub ordered : (c : ℕ) → IsIn c order → (hue c ≡ Ordered) × (first c ≡ White)
    pub distinct : AreDistinct order

-- ---- the states on the way

-- how much is to be done for a cell
abbrev pub weight : Colour → ℕ
weight White = 2
weight Grey = 1
weight Ordered = 0
weight Circular = 0

abbrev pub IsInStack : ℕ → List Entry → Type 0
IsInStack c [] = ⊥
IsInStack c (e ∷ stack) = (e.cell ≡ c) ⊎ IsInStack c stack

-- the mentions passed over are in order, and the one found isn't
abbrev pub Opens : (Progress → List ℕ) → (ℕ → Colour) → Progress → Progress → Option ℕ → Type 0
Opens rest hue from place None = (rest place ≡ []) × ((d : ℕ) → IsIn d (rest from) → hue d ≡ Ordered)
Opens rest hue from place (Some d) = IsIn d (rest from) × IsIn d (rest place) × (hue d ≢ Ordered) × ((x : ℕ) → IsIn x (rest from) → (hue x ≡ Ordered) ⊎ IsIn x (rest place)) × ((x : ℕ) → IsIn x (rest place) → IsIn x (rest from))

-- the cells of a stack are circular now, and the others what they were
pub record IsMarked (old new : List Colour) (stack : List Entry) : Type 0 where
  pub len : length new ≡ length old
  pub marked : (c : ℕ) → IsInStack c stack → hue new c ≡ Circular
  pub others : (c : ℕ) → (IsInStack c stack → ⊥) → hue new c ≡ hue old c
  pub less : sum_by weight new ≤ sum_by weight old

module _ (mentions : ℕ → List ℕ) (rest : ℕ → Progress → List ℕ) (first : ℕ → Colour) where
  -- the cell below mentions the one above
  abbrev pub IsAbove : Entry → List Entry → Type 0
  IsAbove e [] = Unit {0}
  IsAbove e (f ∷ stack) = IsIn e.cell (mentions f.cell)

  -- a cell on the stack: what isn't left of its mentions is in order
  pub record IsOpen (hue : ℕ → Colour) (e : Entry) : Type 0 where
    pub grey : hue e.cell ≡ Grey
    pub left : (d : ℕ) → IsIn d (mentions e.cell) → (hue d ≡ Ordered) ⊎ IsIn d (rest e.cell e.place)
    pub within : (d : ℕ) → IsIn d (rest e.cell e.place) → IsIn d (mentions e.cell)

  -- a stack, the uppermost first: no cell stands there twice
  abbrev pub AreOpen : (ℕ → Colour) → List Entry → Type 0
  AreOpen hue [] = Unit {0}
  AreOpen hue (e ∷ stack) = IsOpen hue e × IsAbove e stack × (IsInStack e.cell stack → ⊥) × AreOpen hue stack

  -- what holds between two turns; the order has its last cell first
  pub record Holds (hue : ℕ → Colour) (order : List ℕ) (stack : List Entry) : Type 0 where
    pub orderly : Orderly mentions first order
    pub in_order : (c : ℕ) → hue c ≡ Ordered → IsIn c order ⊎ (first c ≡ Ordered)
    pub ordered : (c : ℕ) → IsIn c order → (hue c ≡ Ordered) × (first c ≡ White)
    pub distinct : AreDistinct order
    pub circles : (c : ℕ) → hue c ≡ Circular → list_any (λ d. is_circle (hue d)) (mentions c) ≡ true
    pub grey : (c : ℕ) → hue c ≡ Grey → IsInStack c stack
    pub new : (c : ℕ) → (hue c ≡ White) ⊎ (hue c ≡ Grey) → first c ≡ White
    pub entries : AreOpen hue stack
