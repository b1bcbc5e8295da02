-- What the program's own texts begin with, what a run fault says, and when it comes from a sink.
use Rattle.std.specs.Prelude.{ℕ, Bool, true, false, List, ◌++◌, codes, Result, Ok, Err}
use Rattle.b3_io.specs.declared.fault.RunFault.{RunFault}
use Rattle.b3_io.specs.declared.fault.RunFault.TheVariants.{ReadFault, WriteFault, Memory, BadKey, EndlessInput}

-- what each text of the program's own begins with
abbrev pub prefix : List ℕ
prefix = codes "b3sum: "

-- the text of a fault, without a line feed
abbrev pub fault_text : RunFault → List ℕ
fault_text ReadFault = prefix ++ codes "cannot read the key"
fault_text WriteFault = prefix ++ codes "cannot write"
fault_text Memory = prefix ++ codes "out of memory"
fault_text BadKey = prefix ++ codes "the key is not 32 bytes"
fault_text EndlessInput = prefix ++ codes "endless input"

-- whether a fault comes from a sink
abbrev pub is_of_sink : RunFault → Bool
is_of_sink ReadFault = false
is_of_sink WriteFault = true
is_of_sink Memory = false
is_of_sink BadKey = false
is_of_sink EndlessInput = false

-- whether a run ended because a sink failed
abbrev pub is_write_fault : {T : Type 0} → Result T RunFault → Bool
is_write_fault (Ok _) = false
is_write_fault (Err fault) = is_of_sink fault
