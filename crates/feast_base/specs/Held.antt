-- What the shelf and the sink in memory hold.
use Rattle.std.specs.Prelude.{◌≡◌, ℕ, ◌+◌, ◌-◌, ◌<◌, ◌⊎◌, ◌==◌, ◌≢◌, List, [], ◌∷◌, ◌++◌, Option, None, Some, Contains, length, nat_lt, take, if◌then◌else◌}
use Rattle.feast_base.specs.Counting.{next_count}
use Rattle.feast_base.specs.Outside.{File, ShelfState, SinkState, file_of}
use Rattle.feast_base.specs.declared.stop.Stop.{Stop}

-- a shelf: its files, the names whose load failed, how many loads there were, and the numbers of
-- the loads that shall fail
pub record ShelfHeld : Type 0 where
  pub files : List File
  pub failed : List (List ℕ)
  pub calls : ℕ
  pub fail : List ℕ

-- a sink: the bytes put, how many puts failed, how many puts there were, its stops, and its total
-- room
pub record SinkHeld : Type 0 where
  pub written : List ℕ
  pub faults : ℕ
  pub calls : ℕ
  pub stops : List Stop
  pub room : ℕ

-- a shelf from which nothing was loaded
abbrev pub new_shelf : List File → List ℕ → ShelfHeld
new_shelf files fail = record { files = files; failed = []; calls = 0; fail = fail }

-- a sink to which nothing was put
abbrev pub new_sink : List Stop → ℕ → SinkHeld
new_sink stops room = record { written = []; faults = 0; calls = 0; stops = stops; room = room }

-- the next load of this name fails: its number is listed, or no file has the name
abbrev pub LoadFails : ShelfHeld → List ℕ → Type 0
LoadFails s name = Contains s.fail (next_count s.calls) ⊎ (file_of name s.files ≡ None)

-- a load of this name may fail from now on: some number is listed, or no file has the name
abbrev pub LoadMayFail : ShelfHeld → List ℕ → Type 0
LoadMayFail s name = (0 < length s.fail) ⊎ (file_of name s.files ≡ None)

-- what contracts see of it as of any shelf
abbrev pub mem_shelf_state : ShelfHeld → ShelfState
mem_shelf_state s = record { files = Some s.files; failed = s.failed; may_fail = LoadMayFail s }

-- a stop at the put with this number, of whose piece nothing is kept
abbrev pub stop_at : ℕ → Stop
stop_at call = record { call = call; keep = 0 }

-- how many bytes are kept of the put with this number, if a stop names it; the first such stop
-- counts
abbrev pub kept_at : ℕ → List Stop → Option ℕ
kept_at call [] = None
kept_at call (s ∷ stops) = if s.call == call then Some s.keep else kept_at call stops

-- the first n bytes, if a number n is given
abbrev pub front_of : Option ℕ → List ℕ → List ℕ
front_of None bytes = []
front_of (Some keep) bytes = take keep bytes

-- the room that is left
abbrev pub room_left : SinkHeld → ℕ
room_left s = s.room - length s.written

-- the next put, of this many bytes, fails: a stop names it, or it is longer than the room that is
-- left
abbrev pub PutFails : SinkHeld → ℕ → Type 0
PutFails s size = (kept_at (next_count s.calls) s.stops ≢ None) ⊎ (room_left s < size)

-- what the next put, of these bytes, appends if it fails: as many of its first bytes as the stop
-- keeps, or nothing if the piece is longer than the room that is left
abbrev pub put_front : SinkHeld → List ℕ → List ℕ
put_front s bytes = if nat_lt (room_left s) (length bytes) then [] else front_of (kept_at (next_count s.calls) s.stops) bytes

-- putting this many bytes may fail from now on: there is a stop, or they are more than the room
-- that is left
abbrev pub PutMayFail : SinkHeld → ℕ → Type 0
PutMayFail s size = (0 < length s.stops) ⊎ (room_left s < size)

-- what contracts see of it as of any sink
abbrev pub mem_sink_state : SinkHeld → SinkState
mem_sink_state s = record { written = Some s.written; faults = s.faults; may_fail = PutMayFail s }

-- a sink after a put of these bytes, and after one that failed
abbrev pub after_put : SinkHeld → List ℕ → SinkHeld
after_put s bytes = record s { written = s.written ++ bytes; calls = next_count s.calls }

abbrev pub after_failed_put : SinkHeld → List ℕ → SinkHeld
after_failed_put s bytes = record s { written = s.written ++ put_front s bytes; faults = s.faults + 1; calls = next_count s.calls }
