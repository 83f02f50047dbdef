-- Links in memory, as contracts see them, and what a call does to them.
use Rattle.std.specs.Prelude.{ℕ, ◌-◌, ◌^◌, ◌<◌, min, List, [], length, drop, All, Bool, ◌==◌, Some, None, slice_index_or}
use Rattle.std.specs.List.{list_any}
use Rattle.wire.specs.Causes.{one_more}
use Rattle.wire.specs.SinkInMemory.{SinkInMemory, new_sink}
use Rattle.wire.specs.Talks.{AtLink, Talk}

-- bytes that are read from the front: the whole, and what is left
pub record InputInMemory : Type 0 where
  pub whole : List ℕ
  pub left : List ℕ

-- an input of which nothing has been read yet
abbrev pub new_input : List ℕ → InputInMemory
new_input bytes = record { whole = bytes; left = bytes }

-- the input after this many bytes were read
abbrev pub with_read_of : InputInMemory → ℕ → InputInMemory
with_read_of input count = record input { left = drop count input.left }

-- a link in memory: its input, the most bytes that each recv gives, the numbers of the recvs that
-- fail (the first is 1), how many recvs there were, how many of them failed, and the sink of the
-- bytes that are sent
pub record LinkInMemory : Type 0 where
  pub input : InputInMemory
  pub cuts : List ℕ
  pub fails : List ℕ
  pub calls : ℕ
  pub faults : ℕ
  pub output : SinkInMemory

-- a link on which nothing has been received or sent yet
abbrev pub new_link : List ℕ → List ℕ → ℕ → List ℕ → List ℕ → LinkInMemory
new_link input cuts room recv_fails send_fails = record {
  input = new_input input;
  cuts = cuts;
  fails = recv_fails;
  calls = 0;
  faults = 0;
  output = new_sink room [] send_fails;
}

-- each cut lets at least one byte through
abbrev pub CutsGiveSome : List ℕ → Type 0
CutsGiveSome cuts = All (λ most. 0 < most) cuts

-- how many bytes the next recv into a room of this size gives: those that are left, but no more than its cut
abbrev pub next_given : LinkInMemory → ℕ → ℕ
next_given link room =
    min (min room (length link.input.left)) (slice_index_or link.cuts link.calls (2 ^ 64 - 1))

-- whether the next recv fails
abbrev pub recv_fails : LinkInMemory → Bool
recv_fails link = list_any (λ call. call == one_more link.calls) link.fails

-- the link after a recv that gives this many bytes
abbrev pub with_recv : LinkInMemory → ℕ → LinkInMemory
with_recv link count =
    record link { input = with_read_of link.input count; calls = one_more link.calls }

-- the link after a recv that fails
abbrev pub with_read_fault : LinkInMemory → LinkInMemory
with_read_fault link =
    record link { calls = one_more link.calls; faults = one_more link.faults }

-- the link after a send, with this output
abbrev pub with_output : LinkInMemory → SinkInMemory → LinkInMemory
with_output link output = record link { output = output }

-- the whole talk over a link in memory
abbrev pub talk_of : LinkInMemory → Talk
talk_of link =
    record { input = link.input.whole; left = link.input.left; sent = Some link.output.held }

-- a link in memory tells everything
abbrev pub link_told : LinkInMemory → AtLink
link_told link = record {
  talk = Some (talk_of link);
  read_faults = link.faults;
  write_faults = link.output.faults;
}

-- what a link tells that never fails and drops what is sent: no bytes sent
abbrev pub link_untold : InputInMemory → AtLink
link_untold input = record {
  talk = Some (record { input = input.whole; left = input.left; sent = None });
  read_faults = 0;
  write_faults = 0;
}
