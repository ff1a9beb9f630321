-- The texts of operations and effects, and of a history. Positions count from 1 there, and hidden lines count.
use Rattle.std.specs.Prelude.{ℕ, suc, ◌+◌, ◌-◌, ◌≤◌, if◌then◌else◌, List, [], ◌∷◌, ◌++◌, All, length, map, codes, decimal, slice_index_or}
use Rattle.std.specs.Fmt.{signed_decimal}
use Rattle.std.specs.List.{flat_map, join_with_byte}
use Rattle.ss_base.specs.declared.types.Site.{Site}
use Rattle.cell_addr.specs.Cells.{address}
use Rattle.formula_tree.specs.Printed.{formula_text}
use Rattle.sheet_ops.specs.declared.content.Content.{Content}
use Rattle.sheet_ops.specs.declared.content.Content.TheVariants as content
use Rattle.sheet_ops.specs.declared.content.Put.{Put}
use Rattle.sheet_ops.specs.declared.operation.Entry.{Entry}
use Rattle.sheet_ops.specs.declared.operation.Intent.{Intent}
use Rattle.sheet_ops.specs.declared.operation.Intent.TheVariants as intent
use Rattle.sheet_ops.specs.declared.operation.Effect.{Effect}
use Rattle.sheet_ops.specs.declared.operation.Effect.TheVariants as effect
use Rattle.sheet_text.specs.Shown.{is_plain}

-- A content as an operation has it: a number in decimal, a text with `'` before it where it would be something else
-- without, and a formula with its references as they are, also those to hidden lines.
abbrev pub content_text : Content → List ℕ
content_text content.Empty = []
content_text (content.Num z) = signed_decimal z
content_text (content.Text t) = if is_plain t then t else 39 ∷ t
content_text (content.Formula t) = formula_text t

-- a text with a space before it, and nothing for the empty one
abbrev pub spaced : List ℕ → List ℕ
spaced [] = []
spaced (b ∷ text) = 32 ∷ b ∷ text

-- the line of a cell that is written: two spaces, its address and, unless it is emptied, a space and its content
abbrev pub put_line : Put → List ℕ
put_line p = codes "  " ++ (address p.row p.col ++ (spaced (content_text p.content) ++ 10 ∷ []))

-- how many cells are written, and below it a line for each, in their order
abbrev pub write_text : List Put → List ℕ
write_text puts = codes "write " ++ (decimal (length puts) ++ 10 ∷ flat_map put_line puts)

-- a word and a position
abbrev pub place_line : List ℕ → ℕ → List ℕ
place_line word p = word ++ (32 ∷ decimal (p + 1) ++ 10 ∷ [])

-- positions with a comma between each two
abbrev pub positions_text : List ℕ → List ℕ
positions_text ps = join_with_byte 44 (map (λ p. decimal (p + 1)) ps)

abbrev pub sort_text : List ℕ → List ℕ → List ℕ
sort_text slots recs = codes "sort " ++ (positions_text slots ++ (codes " to " ++ (positions_text recs ++ 10 ∷ [])))

-- a moved position and where its record goes, behind a space
abbrev pub move_text : ℕ × ℕ → List ℕ
move_text m = 32 ∷ decimal (m.0 + 1) ++ 62 ∷ decimal (m.1 + 1)

abbrev pub moves_text : List (ℕ × ℕ) → List ℕ
moves_text moves = codes "move" ++ (flat_map move_text moves ++ 10 ∷ [])

-- an operation as its author issued it
abbrev pub intent_text : Intent → List ℕ
intent_text (intent.Write puts) = write_text puts
intent_text (intent.InsRow p) = place_line (codes "insrow") p
intent_text (intent.InsCol p) = place_line (codes "inscol") p
intent_text (intent.DelRow p) = place_line (codes "delrow") p
intent_text (intent.DelCol p) = place_line (codes "delcol") p
intent_text (intent.Sort slots recs) = sort_text slots recs

-- an effect as it is applied
abbrev pub effect_text : Effect → List ℕ
effect_text (effect.Write puts) = write_text puts
effect_text (effect.InsRow p) = place_line (codes "insrow") p
effect_text (effect.InsCol p) = place_line (codes "inscol") p
effect_text (effect.DelRow p) = place_line (codes "delrow") p
effect_text (effect.DelCol p) = place_line (codes "delcol") p
effect_text (effect.Move moves) = moves_text moves

-- the name of a site: the first one is that of site 1, and a site without one has the empty name
abbrev pub name_of_site : List (List ℕ) → Site → List ℕ
name_of_site names site = slice_index_or names (site.0 - 1) []

-- who issued an operation, how many entries they had taken then, and the operation
abbrev pub entry_text : List (List ℕ) → Entry → List ℕ
entry_text names e = name_of_site names e.site ++ (codes " seen " ++ (decimal e.seen ++ 32 ∷ intent_text e.intent))

-- texts one below the other, each behind its number and a space, where the first has this number
abbrev pub numbered : {A : Type 0} → (A → List ℕ) → ℕ → List A → List ℕ
numbered text first [] = []
numbered text first (x ∷ xs) = decimal first ++ (32 ∷ text x ++ numbered text (suc first) xs)

-- how many entries a history has, and each with its number
abbrev pub history_text : List (List ℕ) → List Entry → List ℕ
history_text names entries = codes "history " ++ (decimal (length entries) ++ 10 ∷ numbered (entry_text names) 1 entries)

-- how many effects there are, and each with its number
abbrev pub wire_text : List Effect → List ℕ
wire_text effects = codes "wire " ++ (decimal (length effects) ++ 10 ∷ numbered effect_text 1 effects)

-- no position is above a number; references in formulas don't count
abbrev pub PutsWithin : ℕ → List Put → Type 0
PutsWithin most puts = All (λ p. (p.row ≤ most) × (p.col ≤ most)) puts

abbrev pub IntentWithin : ℕ → Intent → Type 0
IntentWithin most (intent.Write puts) = PutsWithin most puts
IntentWithin most (intent.InsRow p) = p ≤ most
IntentWithin most (intent.InsCol p) = p ≤ most
IntentWithin most (intent.DelRow p) = p ≤ most
IntentWithin most (intent.DelCol p) = p ≤ most
IntentWithin most (intent.Sort slots recs) = All (λ p. p ≤ most) slots × All (λ p. p ≤ most) recs

abbrev pub EffectWithin : ℕ → Effect → Type 0
EffectWithin most (effect.Write puts) = PutsWithin most puts
EffectWithin most (effect.InsRow p) = p ≤ most
EffectWithin most (effect.InsCol p) = p ≤ most
EffectWithin most (effect.DelRow p) = p ≤ most
EffectWithin most (effect.DelCol p) = p ≤ most
EffectWithin most (effect.Move moves) = All (λ m. (m.0 ≤ most) × (m.1 ≤ most)) moves
