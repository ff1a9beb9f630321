-- what sources and sinks in memory keep
use Rattle.std.specs.Prelude.{ℕ, ◌≡◌, ◌+◌, ◌-◌, ◌^◌, ◌<◌, min, List, length, Contains, Option, Result, Ok, Err}

-- one more, and at the last number of 64 bits no more
abbrev pub count_up : ℕ → ℕ
count_up n = min (n + 1) (2 ^ 64 - 1)

-- a count of failures after a call that answered this
abbrev pub failures_after : {T E : Type 0} → ℕ → Result T E → ℕ
failures_after n (Ok _) = n
failures_after n (Err _) = count_up n

-- What is seen of an end over a reader or a writer.
pub record EndState : Type 0 where
  pub known : Option (List ℕ)  -- the bytes that the reader has left, or that the writer holds, where it tells them
  pub faults : ℕ

-- Which calls are to fail, and how many calls there were and failed.
pub record PlanState : Type 0 where
  pub fail : List ℕ  -- the numbers of the calls that are to fail, counted from 1
  pub calls : ℕ
  pub faults : ℕ

-- before the first call
abbrev pub unbroken : List ℕ → PlanState
unbroken fail = record { fail = fail; calls = 0; faults = 0 }

-- the next call is to fail
abbrev pub IsToFail : PlanState → Type 0
IsToFail p = Contains p.fail (count_up p.calls)

-- after a call that went well, and after one that failed
abbrev pub passed : PlanState → PlanState
passed p = record p { calls = count_up p.calls }

abbrev pub failed : PlanState → PlanState
failed p = record p { calls = count_up p.calls; faults = count_up p.faults }

-- What a source in memory keeps whose reads fail as planned.
pub record SourceState : Type 0 where
  pub left : List ℕ  -- the bytes that are left
  pub plan : PlanState

-- What a room for bytes keeps.
pub record RoomState : Type 0 where
  pub taken : List ℕ  -- the bytes that it took
  pub room : ℕ  -- how many bytes it may take in all

-- What a sink in memory keeps that fails where its room is full.
pub record PureSinkState : Type 0 where
  pub taken : List ℕ
  pub room : ℕ
  pub faults : ℕ

-- What a sink in memory keeps whose writes fail as planned, and where its room is full.
pub record MemSinkState : Type 0 where
  pub taken : List ℕ
  pub room : ℕ
  pub plan : PlanState

-- a write of a piece finds no room
abbrev pub FindsNoRoom : List ℕ → ℕ → List ℕ → Type 0
FindsNoRoom taken room piece = (length taken ≡ room) × (0 < length piece)

-- how many bytes of a piece fit
abbrev pub fitting : List ℕ → ℕ → List ℕ → ℕ
fitting taken room piece = min (length piece) (room - length taken)
