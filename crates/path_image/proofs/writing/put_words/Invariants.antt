use Rattle.std.proofs.Common.{◌≤◌, take}
use Rattle.path_image.specs.Writing.{Puts}
use Rattle.path_image.proofs.writing.put_words.Given as goal

abbrev pub invariant-loop-word : goal.invariant-loop-word
invariant-loop-word g l = record {
  put : Puts (g.S.Sink.bytes l.fn.sink) l.fn.piece (g.S.Sink.bytes l.sink) l.piece (take l.word-index l.words);
  later : g.S.Sink.faults l.fn.sink ≤ g.S.Sink.faults l.sink;
}
