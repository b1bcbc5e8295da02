-- When a plan or a run of workers is refused, and by which fault: of several reasons that hold, the first.
use Rattle.std.specs.Prelude.{◌≡◌, ◌⊎◌, ℕ, ◌<◌, ◌≤◌, ◌^◌, List, length}
use Rattle.std.specs.Int.{div_ceil}
use Rattle.b3_core.specs.Tree.{chunks}
use Rattle.b3_core.specs.declared.spans.Span.{Span}
use Rattle.b3_board.specs.Plans.{IsCutting, IsGrain}
use Rattle.b3_claims.specs.declared.fault.BoardFault.{BoardFault}
use Rattle.b3_claims.specs.declared.fault.BoardFault.TheVariants.{BadGrain, BadCut, TooLarge, TooManySpans, Memory, BadWorkers}

-- the refusal of an input of `len` bytes that is to be cut by a grain
abbrev pub IsGrainFault : ℕ → ℕ → BoardFault → Type 0
IsGrainFault len grain BadGrain = ¬ IsGrain grain
IsGrainFault len grain TooLarge = IsGrain grain × (2 ^ 30 < len)
IsGrainFault len grain TooManySpans = IsGrain grain × (len ≤ 2 ^ 30) × (1024 < div_ceil (chunks len) grain)
IsGrainFault len grain BadCut = ⊥
IsGrainFault len grain Memory = ⊥
IsGrainFault len grain BadWorkers = ⊥

-- the refusal of an input of `len` bytes that is to be cut into these spans
abbrev pub IsCutFault : ℕ → List Span → BoardFault → Type 0
IsCutFault len spans TooLarge = 2 ^ 30 < len
IsCutFault len spans TooManySpans = (len ≤ 2 ^ 30) × (1024 < length spans)
IsCutFault len spans BadCut = (len ≤ 2 ^ 30) × (length spans ≤ 1024) × ¬ IsCutting (chunks len) spans
IsCutFault len spans BadGrain = ⊥
IsCutFault len spans Memory = ⊥
IsCutFault len spans BadWorkers = ⊥

-- the refusal of a run of so many workers
abbrev pub IsWorkersFault : ℕ → BoardFault → Type 0
IsWorkersFault workers BadWorkers = (workers ≡ 0) ⊎ (64 < workers)
IsWorkersFault workers BadGrain = ⊥
IsWorkersFault workers BadCut = ⊥
IsWorkersFault workers TooLarge = ⊥
IsWorkersFault workers TooManySpans = ⊥
IsWorkersFault workers Memory = ⊥
