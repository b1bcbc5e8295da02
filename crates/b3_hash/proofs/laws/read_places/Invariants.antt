use Rattle.std.proofs.Common.{◌≡◌, take, sum_by}
use Rattle.b3_hash.specs.Laws.{bytes_read}
use Rattle.b3_hash.proofs.laws.read_places.Given as goal

-- the reads so far are written
abbrev pub invariant-loop-read : goal.invariant-loop-read
invariant-loop-read l = record {
  node : l.output.node ≡ l.initial.output.node;
  done : l.done ≡ sum_by (λ read. read.1) (take l.read-index l.reads);
  bytes : take l.done l.out ≡ bytes_read l.initial.output.node (take l.read-index l.reads);
}
