use Rattle.std.proofs.Common.{codes, rules}
use Rattle.clap.specs.Words.{found_of}
use Rattle.b3_arguments.proofs.ReadingLemmas.{flag_read, number_read}
use Rattle.b3_arguments.proofs.words.words_of.Goals as goal

pub returns-clause-words : goal.returns-clause-words
returns-clause-words c =
    let found = found_of c.args.matches.now in
    record {
      check = flag_read found (codes "check") _
          c.get_flag.ensures.none c.get_flag.ensures.value c.get_flag.ensures.other;
      keyed = flag_read found (codes "keyed") _
          c.get_flag-2.ensures.none c.get_flag-2.ensures.value c.get_flag-2.ensures.other;
      derive_key = c.in_ok-value_of.ensures;
      length = (
        c.get_one.result,
        number_read found (codes "length") 32 _ c.get_one.ensures.none c.get_one.ensures.value,
        c.within_output.ensures.bounded,
      );
      seek = number_read found (codes "seek") 64 _ c.get_one-2.ensures.none c.get_one-2.ensures.value;
      raw = flag_read found (codes "raw") _
          c.get_flag-3.ensures.none c.get_flag-3.ensures.value c.get_flag-3.ensures.other;
      no_names = flag_read found (codes "no-names") _
          c.get_flag-4.ensures.none c.get_flag-4.ensures.value c.get_flag-4.ensures.other;
      tag = flag_read found (codes "tag") _
          c.get_flag-5.ensures.none c.get_flag-5.ensures.value c.get_flag-5.ensures.other;
      quiet = flag_read found (codes "quiet") _
          c.get_flag-6.ensures.none c.get_flag-6.ensures.value c.get_flag-6.ensures.other;
      ignore_missing = flag_read found (codes "ignore-missing") _
          c.get_flag-7.ensures.none c.get_flag-7.ensures.value c.get_flag-7.ensures.other;
      status = flag_read found (codes "status") _
          c.get_flag-8.ensures.none c.get_flag-8.ensures.value c.get_flag-8.ensures.other;
      strict = flag_read found (codes "strict") _
          c.get_flag-9.ensures.none c.get_flag-9.ensures.value c.get_flag-9.ensures.other;
      warn = flag_read found (codes "warn") _
          c.get_flag-10.ensures.none c.get_flag-10.ensures.value c.get_flag-10.ensures.other;
      num_threads = number_read found (codes "num-threads") 16 _ c.get_one-3.ensures.none c.get_one-3.ensures.value;
      files0_from = c.in_ok-value_of-2.ensures;
      progress = flag_read found (codes "progress") _
          c.get_flag-11.ensures.none c.get_flag-11.ensures.value c.get_flag-11.ensures.other;
      files = c.in_ok-files.ensures;
    }

pub invariant_of-result : goal.invariant_of-result
invariant_of-result c = search rules
