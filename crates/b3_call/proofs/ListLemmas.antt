-- The operands of files and of a list of names, and what is done while that is read.
use Rattle.std.proofs.Common.{◌≡◌, ℕ, ◌+◌, Bool, false, if◌then◌else◌, List, [], ◌∷◌, map, Ok, refl, sym, ap, subst, ◌∙◌, inl, inr, string_bytes, codes, arith}
use Rattle.std.specs.Global.{Global}
use Rattle.std.specs.Io.KnownBytes.{Appends}
use Rattle.std.specs.Prelude.{String}
use Rattle.b3_io.specs.Operands.Operand.{Text}
use Rattle.b3_io.specs.Reading.{IsReadingFault}
use Rattle.b3_io.specs.Runs.{Gains, GainsPart, Ran, IoState, SinkState, Stopped, sink_failures}
use Rattle.b3_io.specs.Scripts.{AgreesWith, Answer, Script, unread}
use Rattle.b3_io.specs.Scripts.Kind.{Listed}
use Rattle.b3_io.specs.Scripts.Script.{Done}
use Rattle.b3_io.specs.Sinks.{GainsBeginning}
use Rattle.b3_io.specs.Sums.{complaint, failed_report}
use Rattle.b3_io.specs.Tallies.{one_failed}
use Rattle.b3_io.specs.Faults.{fault_text, is_of_sink}
use Rattle.b3_io.specs.declared.fault.RunFault.{RunFault}
use Rattle.b3_io.specs.declared.fault.RunFault.TheVariants.{Memory, WriteFault}
use Rattle.b3_io.specs.declared.options.Limits.{Limits}
use Rattle.b3_io.proofs.Gains.{Appends-nil}
use Rattle.b3_io.proofs.OperandLemmas.{map-Text}
use Rattle.b3_io.proofs.RunLemmas.{broke_err, no_part, not_asked, ran_said, runs_surely, stopped_at_once, stopped_said, stopped_unanswered}
use Rattle.b3_program.specs.Said.{IsSaid, SaysLine, line_of}
use Rattle.b3_call.specs.Programs.{Does, EndsAtFault, IsRead, names_of, operands_of, reading_script, unread_script, with_err}

-- names that are given
pub operands_of-given : (names files : List (String Global))
    → map string_bytes names ≡ names_of (map string_bytes files)
    → map (λ (name : String Global). Text (string_bytes name)) names ≡ operands_of files
operands_of-given names files same = map-Text string_bytes names ∙ ap (map Text) same

-- there is no memory, before anything is done
pub refused_at_once : (limits : Limits) (script : Script) (before : IoState) (old err : SinkState) (status : ℕ)
    → before.err ≡ old → SaysLine (fault_text Memory) old err → status ≡ 1
    → EndsAtFault limits script before (with_err before err) status
refused_at_once limits script before old err status same said is = record {
  fault = Memory;
  err = before.err;
  whole = said.whole;
  stopped = stopped_at_once script before Memory refl;
  said = subst (λ (sink : SinkState). IsSaid sink err (line_of (fault_text Memory)) said.whole) (sym same) said.said;
  status_is = is;
}

-- a run that ends at a fault
pub ends_at : (limits : Limits) (script : Script) (before after : IoState) (err : SinkState) (fault : RunFault)
    (status : ℕ)
    → Stopped limits script before (with_err after err) fault → SaysLine (fault_text fault) err after.err → status ≡ 1
    → EndsAtFault limits script before after status
ends_at limits script before after err fault status stopped said is = record {
  fault = fault;
  err = err;
  whole = said.whole;
  stopped = stopped;
  said = said.said;
  status_is = is;
}

-- that a list cannot be read is said
pub unread_said : (limits : Limits) (list : List ℕ) (before : IoState) (old err : SinkState) → before.err ≡ old
    → Appends old.held err.held (complaint list (codes "cannot read")) → err.failures ≡ old.failures
    → Does limits (unread_script list) before (with_err before err) 1
unread_said limits list before old err same bytes count =
    let after = with_err before err in
    let said = failed_report list (codes "cannot read") in
    let gains : Gains before.err err said.err =
    subst (λ (sink : SinkState). Gains sink err said.err) (sym same) (record { bytes = bytes; count = count }) in
    let ran : Ran (unread_script list) before after one_failed =
    ran_said said (record {
      heard = not_asked before after refl refl refl;
      out = record { bytes = Appends-nil before.out.held; count = refl };
      err = gains;
    }) refl in
    inl (record {
      tally = one_failed;
      ran = ran;
      surely = runs_surely limits (unread_script list) before after (Ok one_failed) ran;
      status_is = refl;
    })

-- a beginning of it is said, then the fault
pub unread_not_said : (limits : Limits) (list : List ℕ) (before : IoState) (old between err : SinkState) (status : ℕ)
    → before.err ≡ old → GainsBeginning old.held between.held (complaint list (codes "cannot read"))
    → between.failures ≡ old.failures + 1 → SaysLine (fault_text WriteFault) between err → status ≡ 1
    → Does limits (unread_script list) before (with_err before err) status
unread_not_said limits list before old between err status same bytes count said is =
    let after = with_err before between in
    let said_of = failed_report list (codes "cannot read") in
    let begun = subst (λ (sink : SinkState). GainsBeginning sink.held between.held said_of.err) (sym same) bytes in
    let failed = subst (λ (sink : SinkState). between.failures ≡ sink.failures + 1) (sym same) count in
    inr (ends_at limits (unread_script list) before (with_err before err) between WriteFault status
    (stopped_said said_of (broke_err before after said_of WriteFault (not_asked before after refl refl refl)
    (record { bytes = Appends-nil before.out.held; count = refl }) begun failed refl) (inl refl))
    said is)

-- a fault comes while a list is read
pub reading_stopped : (limits : Limits) (list : List ℕ) (before after : IoState) (fault : RunFault)
    → after.told ≡ before.told → after.sure ≡ before.sure → after.failures ≡ before.failures
    → after.out ≡ before.out → after.err ≡ before.err → IsReadingFault fault before.told limits Listed list
    → is_of_sink fault ≡ false → Stopped limits (reading_script list) before after fault
reading_stopped limits list before after fault told sure count out err cause no_sink =
    let none : sink_failures fault ≡ 0 = ap (λ (b : Bool). if b then 1 else 0) no_sink in
    let out_count : after.out.failures ≡ before.out.failures = ap (λ (sink : SinkState). sink.failures) out in
    let err_count : after.err.failures ≡ before.err.failures = ap (λ (sink : SinkState). sink.failures) err in
    stopped_unanswered (λ answer. Done) (record {
      broke = record {
        heard = not_asked before after told sure count;
        out = subst (λ (sink : SinkState). GainsPart before.out sink []) (sym out) (no_part before.out []);
        err = subst (λ (sink : SinkState). GainsPart before.err sink []) (sym err) (no_part before.err []);
        sinks = omega (arith, none, out_count, err_count);
      };
      cause = cause;
    })

-- a list is answered, and nothing is said
pub list_answered : (list : List ℕ) (answer : Answer) (before after : IoState)
    → AgreesWith before.told before.sure Listed list answer → after.told ≡ before.told → after.sure ≡ before.sure
    → after.failures ≡ before.failures + unread (answer ∷ []) → after.out ≡ before.out → after.err ≡ before.err
    → IsRead list answer before after
list_answered list answer before after agrees told sure count out err = record {
  agrees = agrees;
  heard = record { told = told; sure = sure; failures = count };
  silent = (out, err);
}
