-- Which options a run may be made with, and what they say.
use Rattle.std.specs.Prelude.{ℕ, ◌+◌, ◌-◌, ◌^◌, ◌≤◌}
use Rattle.b3_io.specs.declared.options.CheckOptions.{CheckOptions}
use Rattle.b3_io.specs.declared.options.Limits.{Limits}
use Rattle.b3_io.specs.declared.options.SumOptions.{SumOptions}

-- how many output bytes a run writes of a digest at most
abbrev pub max_output_len : ℕ
max_output_len = 1048576

-- a run may hash with so many workers, let a file take so many reads, and a list have so many bytes
pub record AreBounds (workers turns largest : ℕ) : Type 0 where
  pub some_workers : (1 ≤ workers) × (workers ≤ 64)
  pub some_turns : (1 ≤ turns) × (turns ≤ 2 ^ 40)
  pub fits : largest ≤ 2 ^ 30

-- names may be summed with these options
pub record CanRun (options : SumOptions) : Type 0 where
  pub length : options.length ≤ max_output_len
  pub in_output : options.seek + options.length ≤ 2 ^ 64 - 1
  pub bounds : AreBounds options.workers options.turns options.largest

-- lists may be checked with these options
abbrev pub CanCheck : CheckOptions → Type 0
CanCheck options = AreBounds options.workers options.turns options.largest

-- how much of a file is read
abbrev pub limits_of : SumOptions → Limits
limits_of options = record { turns = options.turns; largest = options.largest }

abbrev pub check_limits : CheckOptions → Limits
check_limits options = record { turns = options.turns; largest = options.largest }
