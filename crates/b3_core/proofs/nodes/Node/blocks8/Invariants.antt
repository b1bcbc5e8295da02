use Rattle.std.proofs.Common.{◌≡◌, ◌*◌, length, take}
use Rattle.b3_core.specs.Output.{output_bytes}
use Rattle.b3_core.proofs.nodes.Node.blocks8.Given as goal

abbrev pub invariant-lanes : goal.invariant-lanes
invariant-lanes l =
    (length l.out ≡ 512) × (take (64 * l.j) l.out ≡ output_bytes l.self (64 * l.first) (64 * l.j))
