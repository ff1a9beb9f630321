-- Which operations fit a sheet of a size, and which sheets are well formed.
use Rattle.std.specs.Prelude.{ℕ, ◌≡◌, ◌≢◌, ◌<◌, ◌≤◌, ◌&&◌, nat_eq, Bool, false, List, [], ◌∷◌, length, All, AllPairs}
use Rattle.std.specs.List.{list_any}
use Rattle.marked_lines.specs.Moves.{IsPerm, MovesBelow}
use Rattle.ss_base.specs.declared.types.Size.{Size}
use Rattle.ss_base.specs.declared.types.Spot.{Spot}
use Rattle.ss_base.specs.declared.types.Span.{Span}
use Rattle.formula_tree.specs.Remap.{EachReference}
use Rattle.sheet_ops.specs.declared.content.Content.{Content}
use Rattle.sheet_ops.specs.declared.content.Content.TheVariants as content
use Rattle.sheet_ops.specs.declared.content.Put.{Put}
use Rattle.sheet_ops.specs.declared.operation.Intent.{Intent}
use Rattle.sheet_ops.specs.declared.operation.Intent.TheVariants as intent
use Rattle.sheet_ops.specs.declared.operation.Effect.{Effect}
use Rattle.sheet_ops.specs.declared.operation.Effect.TheVariants as effect
use Rattle.sheet_ops.specs.LineIds.{LineId, id_eq, first_id, AllDiffer}
use Rattle.sheet_ops.specs.Lines.{AxisLine, Axis}
use Rattle.sheet_ops.specs.Identity.{blank, IdSheet}

-- a place is inside, and so are a reference to a cell and one to a range
abbrev pub IsInside : Size → ℕ → ℕ → Type 0
IsInside size row col = (row < size.rows) × (col < size.cols)

abbrev pub CellFits : Size → Spot → Type 0
CellFits size s = IsInside size s.row s.col

abbrev pub RangeFits : Size → Span → Type 0
RangeFits size s = IsInside size s.top s.left × IsInside size s.bottom s.right

-- each reference in a content is inside
abbrev pub ContentFits : Size → Content → Type 0
ContentFits size content.Empty = Unit {0}
ContentFits size (content.Num z) = Unit {0}
ContentFits size (content.Text t) = Unit {0}
ContentFits size (content.Formula t) = EachReference (CellFits size) (RangeFits size) t

-- each content's references are inside
abbrev pub GridFits : Size → List (List Content) → Type 0
GridFits size rows = All (λ row. All (ContentFits size) row) rows

abbrev pub same_cell : Put → Put → Bool
same_cell p q = nat_eq p.row q.row && nat_eq p.col q.col

-- is the cell of the last among those of the first
abbrev pub writes_cell : List Put → Put → Bool
writes_cell ps q = list_any (λ p. same_cell p q) ps

-- each cell is inside and no two are the same
abbrev pub PutsFit : Size → List Put → Type 0
PutsFit size [] = Unit {0}
PutsFit size (p ∷ ps) = (p.row < size.rows) × (p.col < size.cols) × ContentFits size p.content × (writes_cell ps p ≡ false) × PutsFit size ps

-- an effect may write no cell; an intent writes 1 to 128
abbrev pub EffectFits : Size → Effect → Type 0
EffectFits size (effect.Write ps) = (length ps ≤ 128) × PutsFit size ps
EffectFits size (effect.InsRow p) = p ≤ size.rows
EffectFits size (effect.InsCol p) = p ≤ size.cols
EffectFits size (effect.DelRow p) = p < size.rows
EffectFits size (effect.DelCol p) = p < size.cols
EffectFits size (effect.Move moves) = IsPerm moves × MovesBelow size.rows moves

-- at most 1,024 slots, strictly ascending, and as many records, all different
pub record SortFits (size : ℕ) (slots recs : List ℕ) : Type 0 where
  pub few : length slots ≤ 1024
  pub slots_below : All (λ p. p < size) slots
  pub ascending : AllPairs (λ p q. p < q) slots
  pub as_many : length recs ≡ length slots
  pub recs_below : All (λ p. p < size) recs
  pub apart : AllPairs (λ p q. p ≢ q) recs

abbrev pub IntentFits : Size → Intent → Type 0
IntentFits size (intent.Write ps) = (0 < length ps) × (length ps ≤ 128) × PutsFit size ps
IntentFits size (intent.InsRow p) = p ≤ size.rows
IntentFits size (intent.InsCol p) = p ≤ size.cols
IntentFits size (intent.DelRow p) = p < size.rows
IntentFits size (intent.DelCol p) = p < size.cols
IntentFits size (intent.Sort slots recs) = SortFits size.rows slots recs

-- no line has this identifier, as its slot or record
abbrev pub Avoids : (AxisLine → LineId) → List AxisLine → LineId → Type 0
Avoids of [] id = Unit {0}
Avoids of (l ∷ ls) id = (id_eq (of l) id ≡ false) × Avoids of ls id

-- no two lines share an identifier
abbrev pub AreApart : (AxisLine → LineId) → List AxisLine → Type 0
AreApart of [] = Unit {0}
AreApart of (l ∷ ls) = Avoids of ls (of l) × AreApart of ls

pub record IsWellFormedAxis (axis : Axis) : Type 0 where
  pub slots : AreApart (λ l. l.slot) axis.lines
  pub recs : AreApart (λ l. l.rec) axis.lines

pub record IsWellFormed (X : IdSheet) : Type 0 where
  pub rows : IsWellFormedAxis X.rows
  pub cols : IsWellFormedAxis X.cols

-- no line of the axis bears the identifier, and it isn't dead
pub record IsNewOn (axis : Axis) (id : LineId) : Type 0 where
  pub slots : Avoids (λ l. l.slot) axis.lines id
  pub recs : Avoids (λ l. l.rec) axis.lines id
  pub live : axis.dead id ≡ false

-- on both axes, and no cell is under it
pub record IsNew (X : IdSheet) (id : LineId) : Type 0 where
  pub rows : IsNewOn X.rows id
  pub cols : IsNewOn X.cols id
  pub in_row : (col : LineId) → X.cells id col ≡ blank
  pub in_col : (row : LineId) → X.cells row id ≡ blank

abbrev pub EachNew : IdSheet → List LineId → Type 0
EachNew X [] = Unit {0}
EachNew X (id ∷ ids) = IsNew X id × EachNew X ids

-- all are new, and they differ
pub record AreNew (X : IdSheet) (ids : List LineId) : Type 0 where
  pub new : EachNew X ids
  pub differ : AllDiffer ids

-- the identifiers are new where an effect brings lines: rows and columns have theirs apart
abbrev pub IsNewFor : Effect → IdSheet → List LineId → Type 0
IsNewFor (effect.InsRow p) X ids = IsNewOn X.rows (first_id ids) × ((col : LineId) → X.cells (first_id ids) col ≡ blank)
IsNewFor (effect.InsCol p) X ids = IsNewOn X.cols (first_id ids) × ((row : LineId) → X.cells row (first_id ids) ≡ blank)
IsNewFor (effect.Write es) X ids = Unit {0}
IsNewFor (effect.DelRow p) X ids = Unit {0}
IsNewFor (effect.DelCol p) X ids = Unit {0}
IsNewFor (effect.Move moves) X ids = Unit {0}

-- a line more has its place: no axis has more than 16,000
abbrev pub HasRoom : Size → Effect → Type 0
HasRoom size (effect.InsRow p) = size.rows < 16000
HasRoom size (effect.InsCol p) = size.cols < 16000
HasRoom size (effect.Write es) = Unit {0}
HasRoom size (effect.DelRow p) = Unit {0}
HasRoom size (effect.DelCol p) = Unit {0}
HasRoom size (effect.Move moves) = Unit {0}
