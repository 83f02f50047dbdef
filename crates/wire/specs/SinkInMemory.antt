-- A sink in memory, as contracts see it, and what a put does to it.
use Rattle.std.specs.Prelude.{ℕ, ◌-◌, ◌^◌, min, List, [], ◌++◌, length, Bool, ◌==◌, ◌&&◌, ◌||◌, not, slice_index_or}
use Rattle.std.specs.List.{list_any}
use Rattle.wire.specs.Causes.{one_more}

-- the bytes that it holds, how many it has room for, the most bytes that each put takes, the numbers of the puts that
-- fail (the first is 1), how many puts there were, and how many of them failed
pub record SinkInMemory : Type 0 where
  pub held : List ℕ
  pub room : ℕ
  pub cuts : List ℕ
  pub fails : List ℕ
  pub calls : ℕ
  pub faults : ℕ

-- a sink that has been given nothing yet
abbrev pub new_sink : ℕ → List ℕ → List ℕ → SinkInMemory
new_sink room cuts fails = record {
  held = [];
  room = room;
  cuts = cuts;
  fails = fails;
  calls = 0;
  faults = 0;
}

-- how many bytes of a piece the next put takes: those that fit into the room, but no more than its
-- cut
abbrev pub next_count : SinkInMemory → List ℕ → ℕ
next_count sink piece =
    min (min (length piece) (sink.room - length sink.held))
    (slice_index_or sink.cuts sink.calls (2 ^ 64 - 1))

-- whether the next put fails: it is planned to fail, or it would take none of a piece that is not empty
abbrev pub put_fails : SinkInMemory → List ℕ → Bool
put_fails sink piece =
    list_any (λ call. call == one_more sink.calls) sink.fails
    || ((next_count sink piece == 0) && not (length piece == 0))

-- the sink after a put that takes this piece
abbrev pub with_piece : SinkInMemory → List ℕ → SinkInMemory
with_piece sink piece = record sink { held = sink.held ++ piece; calls = one_more sink.calls }

-- the sink after a put that fails
abbrev pub with_fault : SinkInMemory → SinkInMemory
with_fault sink = record sink { calls = one_more sink.calls; faults = one_more sink.faults }
