-- What contracts see of a sink over memory.
use Rattle.std.specs.Prelude.{Option, ℕ, List, [], ◌∷◌, None, Some}

-- the bytes taken, the room for more, the most that one call takes, the numbers of the calls that
-- fail, the number of the next call, and the faults so far
pub record SinkState : Type 0 where
  pub taken : List ℕ
  pub room : ℕ
  pub step : ℕ
  pub fails : List ℕ
  pub calls : ℕ
  pub faults : ℕ

-- a room is told where no call is to fail by its number
abbrev pub told_room : List ℕ → ℕ → Option ℕ
told_room [] room = Some room
told_room (call ∷ calls) room = None

-- the room that a sink over memory tells
abbrev pub spare_of : SinkState → Option ℕ
spare_of sink = told_room sink.fails sink.room

-- how often it failed so far
abbrev pub write_faults_of : SinkState → ℕ
write_faults_of sink = sink.faults
