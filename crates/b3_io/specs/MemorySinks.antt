-- A sink in memory as its readers see it: its bytes.
use Rattle.std.specs.Prelude.{ℕ, List}
use Rattle.b3_io.specs.declared.memory_sink.MemorySink.{MemorySink}

-- the bytes that a sink holds
abbrev pub sink_bytes : MemorySink → List ℕ
sink_bytes sink = sink.bytes.items
