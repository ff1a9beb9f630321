-- what a feed of lines keeps true of its fields
use Rattle.std.specs.Prelude.{◌≤◌, if◌then◌else◌, [], ◌++◌, vec_len, vec_capacity}
use Rattle.ss_base.specs.Lines.{FeedState}
use Rattle.ss_base.specs.Search.{NoFeed}
use Rattle.ss_base.specs.declared.feed.LineFeed.TheInside.{Inside}

-- a line that is unfinished belongs to what was read ahead
abbrev pub state_of : Inside → FeedState
state_of f = record { line = f.line.items; ahead = (if f.unfinished then f.line.items else []) ++ f.ahead; used = f.used }

pub record IsSound (f : Inside) : Type 0 where
  pub plain : NoFeed f.line.items
  pub short : vec_len f.line ≤ 4096
  pub room : 4096 ≤ vec_capacity f.line
  pub within : f.used ≤ 1048576
