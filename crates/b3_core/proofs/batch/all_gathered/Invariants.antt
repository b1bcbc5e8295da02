use Rattle.std.proofs.Common.{◌≡◌, ◌<◌, ℕ, [], length, get_or, map}
use Rattle.b3_core.proofs.batch.all_gathered.Given as goal

abbrev pub invariant-words : goal.invariant-words
invariant-words g l = (length l.vectors ≡ g.row.N) × ((i : ℕ) → i < l.i
    → get_or l.vectors i [] ≡ map (λ list. get_or list i 0) l.lists)
