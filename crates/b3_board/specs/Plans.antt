-- Plans, and the jobs that they are cut into, as contracts see them (BLAKE3 (2020), 2.1).
use Rattle.std.specs.Prelude.{◌≡◌, ℕ, ◌+◌, ◌-◌, ◌*◌, ◌<◌, ◌≤◌, ◌^◌, min, List, map, length, take, slice_index_or}
use Rattle.std.specs.Int.{IsPowerOfTwo, div_ceil}
use Rattle.std.specs.List.{range_with_len}
use Rattle.b3_core.specs.Tree.{chunks, top}
use Rattle.b3_core.specs.declared.modes.Mode.{Mode}
use Rattle.b3_core.specs.declared.nodes.Node.{Node}
use Rattle.b3_core.specs.declared.spans.Span.{Span}
use Rattle.b3_board.specs.Spans.{IsSubtreeSpan, KnownInput, chunks_in, in_memory, part}

-- a plan: an input, its mode, the number of its first chunk, and the spans that it is cut into
pub record PlanState : Type 0 where
  pub input : List ℕ
  pub mode : Mode
  pub first : ℕ
  pub spans : List Span

-- a job: a span of a plan, with its bytes
pub record JobState : Type 0 where
  pub span : Span
  pub bytes : List ℕ
  pub mode : Mode
  pub first : ℕ

-- a job that is done
pub record DoneState : Type 0 where
  pub span : Span
  pub bytes : List ℕ
  pub mode : Mode
  pub first : ℕ
  pub node : Node

-- the plan is of this input, mode and first chunk
pub record IsPlanOf (input : KnownInput) (mode : Mode) (first : ℕ) (plan : PlanState) : Type 0 where
  pub input_is : in_memory plan.input ≡ input
  pub mode_is : plan.mode ≡ mode
  pub first_is : plan.first ≡ first

-- the job of a span of the plan
abbrev pub job_of : PlanState → Span → JobState
job_of plan span = record {
  span = span;
  bytes = part plan.input span.first span.count;
  mode = plan.mode;
  first = plan.first;
}

-- the job with its node: the top of the bytes, whose chunks are numbered from the span's first
abbrev pub done_of : JobState → DoneState
done_of job = record {
  span = job.span;
  bytes = job.bytes;
  mode = job.mode;
  first = job.first;
  node = top job.mode (job.first + job.span.first) job.bytes;
}

-- the spans are subtrees of the tree over n chunks, none is empty, and each begins where the one before
-- ends, from chunk 0 up to chunk m
pub record IsCuttingTo (n m : ℕ) (spans : List Span) : Type 0 where
  pub begins : (i : ℕ) (d : Span) → i < length spans → (slice_index_or spans i d).first ≡ chunks_in (take i spans)
  pub some : (i : ℕ) (d : Span) → i < length spans → 0 < (slice_index_or spans i d).count
  pub subtrees : (i : ℕ) (d : Span) → i < length spans → IsSubtreeSpan n (slice_index_or spans i d)
  pub ends : chunks_in spans ≡ m

-- the spans are a cutting of n chunks
abbrev pub IsCutting : ℕ → List Span → Type 0
IsCutting n spans = IsCuttingTo n n spans

-- a number of chunks that a plan may be cut by
abbrev pub IsGrain : ℕ → Type 0
IsGrain grain = IsPowerOfTwo grain × (grain ≤ 2 ^ 20)

-- of n chunks the i-th span of `grain` chunks, the last perhaps shorter
abbrev pub grain_span : ℕ → ℕ → ℕ → Span
grain_span n grain i = record { first = i * grain; count = min grain (n - i * grain) }

-- n chunks in spans of `grain` chunks, the last perhaps shorter
abbrev pub grain_spans : ℕ → ℕ → List Span
grain_spans n grain = map (grain_span n grain) (range_with_len 0 (div_ceil n grain))

-- the plan by a grain
abbrev pub by_grain : List ℕ → Mode → ℕ → ℕ → PlanState
by_grain input mode first grain = record {
  input = input;
  mode = mode;
  first = first;
  spans = grain_spans (chunks (length input)) grain;
}
