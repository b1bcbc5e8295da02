-- What a run counts: its names and lines, and the lists that failed.
use Rattle.std.specs.Prelude.{ℕ, ◌+◌, ◌==◌, ◌&&◌, Bool, if◌then◌else◌}
use Rattle.b3_io.specs.declared.tally.Tally.{Tally}

-- nothing is counted
abbrev pub no_tally : Tally
no_tally = record { ok = 0; failed = 0; lists = 0; differing = 0; malformed = 0; missing = 0 }

-- so many names are ok, and nothing else is counted
abbrev pub all_ok : ℕ → Tally
all_ok n = record { ok = n; failed = 0; lists = 0; differing = 0; malformed = 0; missing = 0 }

-- one name cannot be read or is not text, or no line can show it
abbrev pub one_failed : Tally
one_failed = record { ok = 0; failed = 1; lists = 0; differing = 0; malformed = 0; missing = 0 }

-- one list failed
abbrev pub one_list : Tally
one_list = record { ok = 0; failed = 0; lists = 1; differing = 0; malformed = 0; missing = 0 }

-- one name has another digest than that of its line
abbrev pub one_differing : Tally
one_differing = record { ok = 0; failed = 1; lists = 0; differing = 1; malformed = 0; missing = 0 }

-- one line is no check line
abbrev pub one_malformed : Tally
one_malformed = record { ok = 0; failed = 1; lists = 0; differing = 0; malformed = 1; missing = 0 }

-- one name is missing, and is passed over
abbrev pub one_missing : Tally
one_missing = record { ok = 0; failed = 0; lists = 0; differing = 0; malformed = 0; missing = 1 }

-- what two tallies count together
abbrev pub tally_sum : Tally → Tally → Tally
tally_sum a b = record {
  ok = a.ok + b.ok;
  failed = a.failed + b.failed;
  lists = a.lists + b.lists;
  differing = a.differing + b.differing;
  malformed = a.malformed + b.malformed;
  missing = a.missing + b.missing;
}

-- whether no name was verified: the digest of none was compared
abbrev pub is_unverified : Tally → Bool
is_unverified tally = tally.ok == 0 && tally.differing == 0

-- whether no line was a check line
abbrev pub has_no_line : Tally → Bool
has_no_line tally = tally.ok == 0 && tally.missing == 0 && tally.failed == tally.malformed

-- the status that a program ends with: 0 where neither a name nor a line nor a list failed
abbrev pub status_of : Tally → ℕ
status_of tally = if tally.failed == 0 && tally.lists == 0 then 0 else 1
