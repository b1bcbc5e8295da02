use Rattle.std.proofs.Common.{◌≡◌, map, string_bytes, take}
use Rattle.b3_laws.specs.declared.files.File.{File}
use Rattle.b3_laws.proofs.files.names_of.Given as goal

abbrev pub invariant-loop-file : goal.invariant-loop-file
invariant-loop-file l =
    map string_bytes l.names.items ≡ map (λ (file : File). string_bytes file.name) (take l.file-index l.files)
