use Rattle.std.proofs.Common.{◌≡◌, map, string_bytes, take}
use Rattle.b3_arguments.proofs.words.strings.Given as goal

abbrev pub invariant-loop-word : goal.invariant-loop-word
invariant-loop-word l = map string_bytes l.strings.items ≡ map (λ word. word.now) (take l.word-index l.words)
