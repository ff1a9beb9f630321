-- What the notes of a site say of its lines, beside the history: the lines are done again, each by the length that was noted.
use Rattle.std.specs.Prelude.{ℕ, ◌≡◌, ◌≤◌, ◌+◌, ◌-◌, min, max, List, [], ◌∷◌, ◌++◌, length, take, Option, Some, None, Result, Ok, Err}
use Rattle.ss_base.specs.declared.types.Size.{Size}
use Rattle.ss_base.specs.declared.types.Span.{Span}
use Rattle.sheet_value.specs.Tables.{Table}
use Rattle.sheet_ops.specs.declared.edit.Edit.{Edit}
use Rattle.sheet_ops.specs.declared.edit.EditErr.{EditErr}
use Rattle.sheet_ops.specs.declared.operation.Entry.{Entry}
use Rattle.sheet_ops.specs.declared.operation.Intent.{Intent}
use Rattle.sheet_ops.specs.History.{own_entries, operations, view}
use Rattle.author_ops.specs.Edits.{intended}
use Rattle.sheet_text.specs.Texts.{refusal_of}
use Rattle.sheet_text.specs.Values.{range_values_text}
use Rattle.sort_keys.specs.Keys.{keys_of}
use Rattle.script_run.specs.World.{at_most}
use Rattle.client_edits.specs.Decided.{unless_spent}
use Rattle.live_script.specs.declared.script.Action.{Action}
use Rattle.live_script.specs.declared.script.Action.TheVariants as action
use Rattle.live_script.specs.declared.script.SiteLine.{SiteLine}
use Rattle.live_record.specs.declared.note.Note.{Note}
use Rattle.live_record.specs.declared.note.NoteKind.{NoteKind}
use Rattle.live_record.specs.declared.note.NoteKind.TheVariants as kind

-- What a site's lines are done beside: the size of the opening sheet, a history, the number and the name of the site, and which
-- values may be read at a length.
pub record Beside : Type 1 where
  pub size : Size
  pub history : List Entry
  pub site : ℕ
  pub name : List ℕ
  pub Shows : ℕ → Table → Type 0

-- What a site has between two of its lines: its own entries, how many of them are pushed, how many entries of the history it has
-- taken, the greatest length that was noted of a push, of a push or a pull, and of a read or a sync, and what is logged.
pub record Done : Type 0 where
  pub own : List Entry
  pub pushed : ℕ
  pub taken : ℕ
  pub pushed_to : ℕ
  pub known : ℕ
  pub read : ℕ
  pub log : List ℕ

abbrev pub nothing_done : Done
nothing_done = record { own = []; pushed = 0; taken = 0; pushed_to = 0; known = 0; read = 0; log = [] }

-- how many of the site's entries are among so many first ones
abbrev pub own_within : Beside → ℕ → ℕ
own_within b l = length (own_entries b.site (take l b.history))

-- ---- an edit, which has no note: what it comes to on what the site sees
abbrev pub decided_beside : Beside → Done → Edit → Result Intent EditErr
decided_beside b d e = let X = view b.size b.history b.site d.taken d.own in unless_spent (operations d.own) (intended X e (keys_of X e))

-- an own entry more, unless the edit was refused
abbrev pub with_own : ℕ → Done → Result Intent EditErr → Done
with_own site d (Ok op) = record d { own = d.own ++ record { site = record { 0 = site }; seen = d.taken; intent = op } ∷ [] }
with_own site d (Err e) = d

-- and the line of a refusal
abbrev pub after_edit : Beside → Done → ℕ → Edit → Done
after_edit b d line e = let answer = decided_beside b d e in record (with_own b.site d answer) { log = d.log ++ refusal_of line answer }

-- ---- a push of all, or of at most so many
abbrev pub after_push : Done → Option ℕ → ℕ → Done
after_push d count l = record d { pushed = d.pushed + at_most count (length d.own - d.pushed); pushed_to = max d.pushed_to l; known = max d.known l }

pub record MayNotePush (b : Beside) (d : Done) (count : Option ℕ) (l : ℕ) : Type 0 where
  pub within : l ≤ length b.history
  pub holds : own_within b l ≡ (after_push d count l).pushed
  pub later : d.known ≤ l

-- ---- a pull of all, or of at most so many
abbrev pub after_pull : Done → ℕ → Done
after_pull d l = record d { taken = l; known = max d.known l }

-- one without a count takes all that the site pushed
abbrev pub PullsSoMany : Beside → Done → Option ℕ → ℕ → Type 0
PullsSoMany b d None l = (d.pushed_to ≤ l) × (own_within b l ≡ d.pushed)
PullsSoMany b d (Some count) l = (l ≤ d.taken + count) × (min (d.taken + count) d.pushed_to ≤ l) × (own_within b l ≤ d.pushed)

pub record MayNotePull (b : Beside) (d : Done) (count : Option ℕ) (l : ℕ) : Type 0 where
  pub within : l ≤ length b.history
  pub from : d.taken ≤ l
  pub so_many : PullsSoMany b d count l

-- ---- a push of all, and values that reach as far
abbrev pub after_sync : Done → ℕ → Done
after_sync d l = record d { pushed = length d.own; read = max d.read l }

-- values of so many entries are on show, and all own entries are among these
pub record MayNoteSync (b : Beside) (d : Done) (l : ℕ) : Type 0 where
  pub shown : (T : Table) × b.Shows l T
  pub holds : length d.own ≤ own_within b l

-- ---- a read
abbrev pub after_read : Beside → Done → ℕ → Span → ℕ → Table → Done
after_read b d line range l T = record d { read = max d.read l; log = d.log ++ range_values_text line b.name range l T }

pub record MayNoteRead (b : Beside) (d : Done) (l : ℕ) (T : Table) : Type 0 where
  pub later : d.read ≤ l
  pub shown : b.Shows l T

-- ---- a line
-- the first of some notes is of this line, and these are left
abbrev pub Notes : ℕ → NoteKind → ℕ → List Note → List Note → Type 0
Notes line k l notes rest = notes ≡ record { line = line; kind = k; length = l } ∷ rest

-- what a line has the site do, with the notes before it and those that are left: each line but an edit has one
abbrev pub DoesAction : Beside → ℕ → Action → Done → List Note → Done → List Note → Type 0
DoesAction b line (action.Edit e) d notes d' rest = (rest ≡ notes) × (d' ≡ after_edit b d line e)
DoesAction b line (action.Push count) d notes d' rest = (l : ℕ) × Notes line kind.Pushed l notes rest × MayNotePush b d count l × (d' ≡ after_push d count l)
DoesAction b line (action.Pull count) d notes d' rest = (l : ℕ) × Notes line kind.Taken l notes rest × MayNotePull b d count l × (d' ≡ after_pull d l)
DoesAction b line action.Sync d notes d' rest = (l : ℕ) × Notes line kind.Synced l notes rest × MayNoteSync b d l × (d' ≡ after_sync d l)
DoesAction b line (action.Read range) d notes d' rest =
    (l : ℕ) × (T : Table) × Notes line kind.Read l notes rest × MayNoteRead b d l T × (d' ≡ after_read b d line range l T)

abbrev pub DoesLine : Beside → SiteLine → Done → List Note → Done → List Note → Type 0
DoesLine b line d notes d' rest = DoesAction b line.number line.action d notes d' rest

-- all lines, with all notes
abbrev pub Does : Beside → List SiteLine → Done → List Note → Done → Type 0
Does b [] d notes end = (notes ≡ []) × (end ≡ d)
Does b (line ∷ lines) d notes end = (d' : Done) × (rest : List Note) × DoesLine b line d notes d' rest × Does b lines d' rest end
