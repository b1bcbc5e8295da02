-- Runs: of parts of a script, one after the other, and runs that stop.
use Rattle.std.proofs.Common.{◌≡◌, ◌⊎◌, ℕ, ◌+◌, ◌≤◌, Bool, true, false, List, [], ◌∷◌, ◌++◌, Option, None, Some, Result, Ok, Err, refl, sym, ◌∙◌, ap, subst, add-zero, inl, inr, arith}
use Rattle.std.specs.Prelude.{◌≢◌, ◌==◌, IfOk, IfErr, if◌then◌else◌, length}
use Rattle.std.proofs.lemmas.Bool.{cond-false, cond-true, eq-eqb, ne_eqb}
use Rattle.b3_core.specs.declared.modes.Mode.{Mode}
use Rattle.b3_io.specs.declared.options.KeyChoice.{KeyChoice}
use Rattle.b3_io.specs.declared.options.KeyChoice.TheVariants.{Plain, Keyed, Derive}
use Rattle.b3_io.specs.Sums.{keyed_script, keys_asked, with_mode}
use Rattle.b3_io.specs.declared.options.Limits.{Limits}
use Rattle.b3_io.specs.declared.tally.Tally.{Tally}
use Rattle.b3_io.specs.declared.fault.RunFault.{RunFault}
use Rattle.b3_io.specs.declared.fault.RunFault.TheVariants.{ReadFault, WriteFault, Memory, BadKey, EndlessInput}
use Rattle.b3_io.specs.Contents.{Contents}
use Rattle.b3_io.specs.Faults.{is_write_fault}
use Rattle.b3_io.specs.Tallies.{no_tally, tally_sum}
use Rattle.b3_io.specs.Scripts.{Answer, Kind, Report, Script, AnswersFirst, AgreesWith, IsComplete, answer_of, followed_by, joined, nothing, report, report_from, then_counted}
use Rattle.b3_io.specs.Scripts.Script.{Done, Fail, Say, Ask}
use Rattle.b3_io.specs.Sinks.{GainsBeginning}
use Rattle.b3_io.specs.Reading.{Answered, FindsMode, FoundKey, FoundMode, FoundNoMode, IsReadingFault, Unanswered}
use Rattle.b3_io.specs.Runs.{Broke, CanCount, Gains, GainsPart, Heard, IoState, IsCausedBy, Ran, RanSurely, RanSurelyOver, Runs, SinkState, Stopped, Went, sink_failures}
use Rattle.b3_io.proofs.Gains.{Appends-nil, Appends-append, GainsBeginning-all, GainsBeginning-append, GainsBeginning-longer, GainsBeginning-none}
use Rattle.b3_io.proofs.ScriptLemmas.{AnswersFirst-append, AnswersFirst-longer, AnswersFirst-none, AsksNext-append, AsksNext-longer, FailsNext-append, FailsNext-longer, IsComplete-append, followed_by-counted, joined-nothing, next_of, nothing-joined, report-append, report-longer, unread-append}

-- ---- what is heard, gained and said

-- nothing happened
heard_nothing : (a : IoState) → Heard a a []
heard_nothing a = record { told = refl; sure = refl; failures = sym (add-zero a.failures) }

gains_nothing : (a : SinkState) → Gains a a []
gains_nothing a = record { bytes = Appends-nil a.held; count = refl }

pub went_nowhere : (a : IoState) → Went a a [] nothing
went_nowhere a = record { heard = heard_nothing a; out = gains_nothing a.out; err = gains_nothing a.err }

-- one step, and then another
heard_then : {a b c : IoState} {xs ys : List Answer} → Heard a b xs → Heard b c ys → Heard a c (xs ++ ys)
heard_then {a} {b} {c} {xs} {ys} first second = record {
  told = second.told ∙ first.told;
  sure = second.sure ∙ first.sure;
  failures = omega (arith, unread-append xs ys, first.failures, second.failures);
}

gains_then : {a b c : SinkState} {xs ys : List ℕ} → Gains a b xs → Gains b c ys → Gains a c (xs ++ ys)
gains_then {a} {b} {c} {xs} {ys} first second =
    record {
      bytes = Appends-append a.held b.held c.held xs ys first.bytes second.bytes;
      count = second.count
          ∙ first.count;
    }

gains_then_part : {a b c : SinkState} {xs ys : List ℕ} → Gains a b xs → GainsPart b c ys → GainsPart a c (xs ++ ys)
gains_then_part {a} {b} {c} {xs} {ys} first second = record {
  bytes = GainsBeginning-append a.held b.held c.held xs ys first.bytes second.bytes;
  count = omega (arith, first.count, second.count);
}

pub went_then : {a b c : IoState} {xs ys : List Answer} {p q : Report} → Went a b xs p → Went b c ys q
    → Went a c (xs ++ ys) (joined p q)
went_then first second = record {
  heard = heard_then first.heard second.heard;
  out = gains_then first.out second.out;
  err = gains_then first.err second.err;
}

pub went_then_broke : {a b c : IoState} {xs ys : List Answer} {p q : Report} {fault : RunFault}
    → Went a b xs p → Broke b c ys q fault → Broke a c (xs ++ ys) (joined p q) fault
went_then_broke {a} {b} {c} {xs} {ys} {p} {q} {fault} first second = record {
  heard = heard_then first.heard second.heard;
  out = gains_then_part first.out second.out;
  err = gains_then_part first.err second.err;
  sinks = omega (arith, first.out.count, first.err.count, second.sinks);
}

-- a report of which a beginning is taken, where more would have been said
longer_part : {a b : SinkState} {xs : List ℕ} (ys : List ℕ) → GainsPart a b xs → GainsPart a b (xs ++ ys)
longer_part {a} {b} {xs} ys part = record
    { bytes = GainsBeginning-longer a.held b.held xs ys part.bytes; count = part.count }

broke_early : {a b : IoState} {xs : List Answer} {p : Report} {fault : RunFault} (more : Report)
    → Broke a b xs p fault → Broke a b xs (joined p more) fault
broke_early more broke = record {
  heard = broke.heard;
  out = longer_part more.out broke.out;
  err = longer_part more.err broke.err;
  sinks = broke.sinks;
}

-- a fault that no sink has a part in, before anything is said
pub no_part : (a : SinkState) (text : List ℕ) → GainsPart a a text
no_part a text = record { bytes = GainsBeginning-none a.held text; count = omega arith }

pub broke_at_once : (a : IoState) (p : Report) (fault : RunFault) → sink_failures fault ≡ 0 → Broke a a [] p fault
broke_at_once a p fault none = record {
  heard = heard_nothing a;
  out = no_part a.out p.out;
  err = no_part a.err p.err;
  sinks = omega (arith, none);
}

-- a sink failed
pub not_asked : (a b : IoState) → b.told ≡ a.told → b.sure ≡ a.sure → b.failures ≡ a.failures → Heard a b []
not_asked a b told_is sure_is count = record { told = told_is; sure = sure_is; failures = omega (arith, count) }

pub broke_out : (a b : IoState) (p : Report) (fault : RunFault) → Heard a b []
    → GainsBeginning a.out.held b.out.held p.out
    → b.out.failures ≡ a.out.failures + 1 → b.err ≡ a.err → fault ≡ WriteFault → Broke a b [] p fault
broke_out a b p fault heard bytes count same is = record {
  heard = heard;
  out = record { bytes = bytes; count = omega (arith, count) };
  err = rw same (no_part a.err p.err);
  sinks = omega (arith, count, ap (λ (s : SinkState). s.failures) same, ap sink_failures is);
}

-- a whole text is a beginning of it
gained_part : {a b : SinkState} {text : List ℕ} → Gains a b text → GainsPart a b text
gained_part {a} {b} {text} gains = record
    { bytes = GainsBeginning-all a.held b.held text gains.bytes; count = omega (arith, gains.count) }

pub broke_err : (a b : IoState) (p : Report) (fault : RunFault) → Heard a b [] → Gains a.out b.out p.out
    → GainsBeginning a.err.held b.err.held p.err
    → b.err.failures ≡ a.err.failures + 1 → fault ≡ WriteFault → Broke a b [] p fault
broke_err a b p fault heard out bytes count is = record {
  heard = heard;
  out = gained_part out;
  err = record { bytes = bytes; count = omega (arith, count) };
  sinks = omega (arith, count, out.count, ap sink_failures is);
}

-- ---- why a fault comes

-- of want of memory or of a sink
pub caused_anywhere : (told : Option Contents) (limits : Limits) (s : Script) (xs : List Answer) (fault : RunFault)
    → (fault ≡ WriteFault) ⊎ (fault ≡ Memory) → IsCausedBy fault told limits s xs
caused_anywhere told limits s xs fault known =
    let P : RunFault → Type 0 = λ f. IsCausedBy f told limits s xs in
    elim known [ inl is ↦ subst P (sym is) tt | inr is ↦ subst P (sym is) tt ]

-- of a name that is asked for
caused_asking : (told : Option Contents) (limits : Limits) (kind : Kind) (name : List ℕ) (next : Answer → Script)
    (fault : RunFault)
    → IsReadingFault fault told limits kind name → IsCausedBy fault told limits (Ask kind name next) []
caused_asking told limits kind name next ReadFault cause = absurd cause
caused_asking told limits kind name next WriteFault cause = absurd cause
caused_asking told limits kind name next Memory cause = tt
caused_asking told limits kind name next BadKey cause = absurd cause
caused_asking told limits kind name next EndlessInput cause = cause

-- after an answer
caused_answered : (told : Option Contents) (limits : Limits) (kind : Kind) (name : List ℕ) (next : Answer → Script)
    (x : Answer) (xs : List Answer)
    (fault : RunFault) → IsCausedBy fault told limits (next x) xs
    → IsCausedBy fault told limits (Ask kind name next) (x ∷ xs)
caused_answered told limits kind name next x xs ReadFault cause = cause
caused_answered told limits kind name next x xs WriteFault cause = tt
caused_answered told limits kind name next x xs Memory cause = tt
caused_answered told limits kind name next x xs BadKey cause = cause
caused_answered told limits kind name next x xs EndlessInput cause = cause

-- after a script
pub caused_later : (told : Option Contents) (sure : Bool) (limits : Limits) (s : Script) (tally : Tally)
    (next : Tally → Script) (xs ys : List Answer)
    (fault : RunFault) → AnswersFirst told sure s xs → IsComplete s xs
    → IsCausedBy fault told limits (next_of s tally next xs) ys
    → IsCausedBy fault told limits (then_counted s tally next) (xs ++ ys)
caused_later told sure limits s tally next xs ys ReadFault first whole cause = FailsNext-append told sure s tally next
    xs ys ReadFault first whole cause
caused_later told sure limits s tally next xs ys WriteFault first whole cause = tt
caused_later told sure limits s tally next xs ys Memory first whole cause = tt
caused_later told sure limits s tally next xs ys BadKey first whole cause = FailsNext-append told sure s tally next xs
    ys BadKey first whole cause
caused_later told sure limits s tally next xs ys EndlessInput first whole cause = AsksNext-append told sure s tally
    next xs ys _ first whole cause

-- in a script, where more would have followed
caused_early : (told : Option Contents) (limits : Limits) (s : Script) (tally : Tally) (next : Tally → Script)
    (xs : List Answer)
    (fault : RunFault) → IsCausedBy fault told limits s xs → IsCausedBy fault told limits (then_counted s tally next) xs
caused_early told limits s tally next xs ReadFault cause = FailsNext-longer s tally next xs ReadFault cause
caused_early told limits s tally next xs WriteFault cause = tt
caused_early told limits s tally next xs Memory cause = tt
caused_early told limits s tally next xs BadKey cause = FailsNext-longer s tally next xs BadKey cause
caused_early told limits s tally next xs EndlessInput cause = AsksNext-longer s tally next xs _ cause

-- ---- runs of one step

-- a run of nothing
pub ran_done : (a : IoState) → Ran Done a a no_tally
ran_done a = record { answers = []; agree = tt; complete = tt; went = went_nowhere a; counted = refl }

-- a report is said
pub ran_said : {a b : IoState} {m : Tally} (p : Report) → Went a b [] p → m ≡ p.tally → Ran (Say p Done) a b m
ran_said {a} {b} {m} p went counted =
    let P : Report → Type 0 = λ q. Went a b [] q in
    record {
      answers = [];
      agree = tt;
      complete = tt;
      went = subst P (sym (joined-nothing p)) went;
      counted = counted ∙ ap (λ q. q.tally) (sym (joined-nothing p));
    }

-- a beginning of it is said
pub stopped_said : {limits : Limits} {a b : IoState} {fault : RunFault} (p : Report) → Broke a b [] p fault
    → (fault ≡ WriteFault) ⊎ (fault ≡ Memory) → Stopped limits (Say p Done) a b fault
stopped_said {limits} {a} {b} {fault} p broke known =
    let P : Report → Type 0 = λ q. Broke a b [] q fault in
    record {
      answers = [];
      agree = tt;
      broke = subst P (sym (joined-nothing p)) broke;
      cause = caused_anywhere _ limits _ _ fault known;
    }

-- a name is answered, and then a run
pub ran_answered : {a b c : IoState} {m : Tally} {kind : Kind} {name : List ℕ} (next : Answer → Script) (answer : Answer)
    → Answered kind name answer a b → Ran (next answer) b c m → Ran (Ask kind name next) a c m
ran_answered {a} {b} {c} {m} {kind} {name} next answer answered ran =
    let agree = rw (answered.went.heard.told, answered.went.heard.sure) at ran.agree in
    let P : Report → Type 0 = λ q. Went a c (answer ∷ ran.answers) q in
    record {
      answers = answer ∷ ran.answers;
      agree = (answered.agrees, agree);
      complete = ran.complete;
      went = subst P (nothing-joined (report (next answer) ran.answers)) (went_then answered.went ran.went);
      counted = ran.counted;
    }

pub stopped_answered : {limits : Limits} {a b c : IoState} {fault : RunFault} {kind : Kind} {name : List ℕ}
    (next : Answer → Script) (answer : Answer)
    → Answered kind name answer a b → Stopped limits (next answer) b c fault
    → Stopped limits (Ask kind name next) a c fault
stopped_answered {limits} {a} {b} {c} {fault} {kind} {name} next answer answered stopped =
    let agree = rw (answered.went.heard.told, answered.went.heard.sure) at stopped.agree in
    let cause = rw answered.went.heard.told at stopped.cause in
    let P : Report → Type 0 = λ q. Broke a c (answer ∷ stopped.answers) q fault in
    record {
      answers = answer ∷ stopped.answers;
      agree = (answered.agrees, agree);
      broke = subst P (nothing-joined (report (next answer) stopped.answers))
          (went_then_broke answered.went stopped.broke);
      cause = caused_answered a.told limits kind name next answer stopped.answers fault cause;
    }

-- a fault comes in place of an answer
pub stopped_unanswered : {limits : Limits} {a b : IoState} {fault : RunFault} {kind : Kind} {name : List ℕ}
    (next : Answer → Script)
    → Unanswered kind limits name a b fault → Stopped limits (Ask kind name next) a b fault
stopped_unanswered {limits} {a} {b} {fault} {kind} {name} next unanswered = record {
  answers = [];
  agree = tt;
  broke = unanswered.broke;
  cause = caused_asking a.told limits kind name next fault unanswered.cause;
}

-- a run that stops before it has done anything
pub stopped_at_once : {limits : Limits} (s : Script) (a : IoState) (fault : RunFault) → fault ≡ Memory
    → Stopped limits s a a fault
stopped_at_once {limits} s a fault refused = record {
  answers = [];
  agree = AnswersFirst-none a.told a.sure s;
  broke = broke_at_once a (report s []) fault (ap sink_failures refused);
  cause = caused_anywhere _ limits _ _ fault (inr refused);
}

-- ---- one run, and then another

pub ran_then_counted : {s : Script} {a b c : IoState} {m n : Tally} (tally : Tally) (next : Tally → Script)
    → Ran s a b m → Ran (next (tally_sum tally m)) b c n → Ran (then_counted s tally next) a c (tally_sum m n)
ran_then_counted {s} {a} {b} {c} {m} {n} tally next first second =
    let told = first.went.heard.told in
    let sure = first.went.heard.sure in
    let follows = rw first.counted at second in
    let agree = rw (told, sure) at follows.agree in
    let said = report-append a.told a.sure s tally next first.answers follows.answers first.agree first.complete in
    record {
      answers = first.answers ++ follows.answers;
      agree = AnswersFirst-append a.told a.sure s tally next first.answers follows.answers first.agree first.complete
          agree;
      complete = IsComplete-append a.told a.sure s tally next first.answers follows.answers first.agree first.complete
          follows.complete;
      went = rw said (went_then first.went follows.went);
      counted = rw (said, first.counted, follows.counted) refl;
    }

pub ran_then_counted_stopped : {limits : Limits} {s : Script} {a b c : IoState} {m : Tally} {fault : RunFault}
    (tally : Tally) (next : Tally → Script)
    → Ran s a b m → Stopped limits (next (tally_sum tally m)) b c fault
    → Stopped limits (then_counted s tally next) a c fault
ran_then_counted_stopped {limits} {s} {a} {b} {c} {m} {fault} tally next first second =
    let told = first.went.heard.told in
    let sure = first.went.heard.sure in
    let follows = rw first.counted at second in
    let agree = rw (told, sure) at follows.agree in
    let cause = rw told at follows.cause in
    let said = report-append a.told a.sure s tally next first.answers follows.answers first.agree first.complete in
    record {
      answers = first.answers ++ follows.answers;
      agree = AnswersFirst-append a.told a.sure s tally next first.answers follows.answers first.agree first.complete
          agree;
      broke = rw said (went_then_broke first.went follows.broke);
      cause = caused_later a.told a.sure limits s tally next first.answers follows.answers fault first.agree
          first.complete cause;
    }

-- a run that stops, where more would have followed
pub stopped_early_counted : {limits : Limits} {s : Script} {a b : IoState} {fault : RunFault} (tally : Tally)
    (next : Tally → Script)
    → Stopped limits s a b fault → Stopped limits (then_counted s tally next) a b fault
stopped_early_counted {limits} {s} {a} {b} {fault} tally next stopped =
    let more = report-longer a.told a.sure s tally next stopped.answers stopped.agree in
    record {
      answers = stopped.answers;
      agree = AnswersFirst-longer a.told a.sure s tally next stopped.answers stopped.agree;
      broke = rw more.1 (broke_early more.0 stopped.broke);
      cause = caused_early a.told limits s tally next stopped.answers fault stopped.cause;
    }

-- the same, where what follows depends on nothing counted
pub ran_then : {s t : Script} {a b c : IoState} {m n : Tally} → Ran s a b m → Ran t b c n
    → Ran (followed_by s t) a c (tally_sum m n)
ran_then {s} {t} {a} {b} {c} {m} {n} first second =
    rw (followed_by-counted s t no_tally) (ran_then_counted no_tally (λ _. t) first second)

pub ran_then_stopped : {limits : Limits} {s t : Script} {a b c : IoState} {m : Tally} {fault : RunFault}
    → Ran s a b m → Stopped limits t b c fault → Stopped limits (followed_by s t) a c fault
ran_then_stopped {limits} {s} {t} {a} {b} {c} {m} {fault} first second =
    rw (followed_by-counted s t no_tally) (ran_then_counted_stopped no_tally (λ _. t) first second)

pub stopped_early : {limits : Limits} {s : Script} {a b : IoState} {fault : RunFault} (t : Script)
    → Stopped limits s a b fault → Stopped limits (followed_by s t) a b fault
stopped_early {limits} {s} {a} {b} {fault} t stopped =
    rw (followed_by-counted s t no_tally) (stopped_early_counted no_tally (λ _. t) stopped)

-- ---- over a shelf that fails nowhere else

-- it gives the answer of the content
sure_answer : (contents : Contents) (kind : Kind) (name : List ℕ) (answer : Answer)
    → AgreesWith (Some contents) true kind name answer → answer ≡ answer_of kind (contents name)
sure_answer contents kind name answer agrees = elim agrees [ inl same ↦ same | inr other ↦ absurd (cc other.1) ]

-- the report of the answers is that of the contents
report_surely : (contents : Contents) (s : Script) (xs : List Answer) → AnswersFirst (Some contents) true s xs
    → IsComplete s xs
    → report s xs ≡ report_from contents s
report_surely contents Done xs agree whole = refl
report_surely contents (Fail fault) xs agree whole = refl
report_surely contents (Say p s) xs agree whole = ap (joined p) (report_surely contents s xs agree whole)
report_surely contents (Ask kind name next) [] agree whole = absurd whole
report_surely contents (Ask kind name next) (x ∷ xs) agree whole =
    report_surely contents (next x) xs agree.1 whole
    ∙ ap (λ answer. report_from contents (next answer)) (sure_answer contents kind name x agree.0)

-- a run is that of the contents
ran_surely_over : (told : Option Contents) (sure : Bool) (s : Script) (a b : IoState) (m : Tally) → a.told ≡ told
    → a.sure ≡ sure
    → Ran s a b m → RanSurelyOver told sure s a b m
ran_surely_over None sure s a b m told_is sure_is ran = tt
ran_surely_over (Some contents) false s a b m told_is sure_is ran = tt
ran_surely_over (Some contents) true s a b m told_is sure_is ran =
    let agree = rw (told_is, sure_is) at ran.agree in
    let same = report_surely contents s ran.answers agree ran.complete in
    record {
      out = rw same at ran.went.out.bytes;
      err = rw same at ran.went.err.bytes;
      counted = rw same at ran.counted;
    }

pub runs_surely : (limits : Limits) (s : Script) (a b : IoState) (result : Result Tally RunFault)
    → Runs limits s a b result
    → IfOk result (λ tally. RanSurely s a b tally)
runs_surely limits s a b (Ok tally) run = ran_surely_over a.told a.sure s a b tally refl refl run
runs_surely limits s a b (Err fault) run = tt

-- ---- what a run leaves of the counts of the sinks, and of what the shelf tells

pub runs_sinks : (limits : Limits) (s : Script) (a b : IoState) (result : Result Tally RunFault)
    → Runs limits s a b result
    → (b.out.failures + b.err.failures ≡ a.out.failures + a.err.failures + (if is_write_fault result then 1 else 0))
    × (a.out.failures ≤ b.out.failures) × (a.err.failures ≤ b.err.failures)
runs_sinks limits s a b (Ok tally) run = (
  omega (arith, run.went.out.count, run.went.err.count),
  (omega (arith, run.went.out.count)),
  (omega (arith, run.went.err.count)),
)
runs_sinks limits s a b (Err fault) run = (run.broke.sinks, run.broke.out.count, run.broke.err.count)

pub runs_shelf : (limits : Limits) (s : Script) (a b : IoState) (result : Result Tally RunFault)
    → Runs limits s a b result
    → (b.told ≡ a.told) × (b.sure ≡ a.sure)
runs_shelf limits s a b (Ok tally) run = (run.went.heard.told, run.went.heard.sure)
runs_shelf limits s a b (Err fault) run = (run.broke.heard.told, run.broke.heard.sure)

-- a run to its end, and one to a fault
pub runs_ok : (limits : Limits) (s : Script) (a b : IoState) (result : Result Tally RunFault) → Runs limits s a b result
    → IfOk result (λ tally. Ran s a b tally)
runs_ok limits s a b (Ok tally) run = run
runs_ok limits s a b (Err fault) run = tt

pub runs_fault : (limits : Limits) (s : Script) (a b : IoState) (result : Result Tally RunFault)
    → Runs limits s a b result
    → IfErr result (λ fault. Stopped limits s a b fault)
runs_fault limits s a b (Ok tally) run = tt
runs_fault limits s a b (Err fault) run = run

-- ---- the mode of a choice of key

-- the script stops as the key cannot be read, or is not 32 bytes
stopped_unread_key : {limits : Limits} (a : IoState) → Stopped limits (Fail ReadFault) a a ReadFault
stopped_unread_key a = record { answers = []; agree = tt; broke = broke_at_once a nothing ReadFault refl; cause = refl }

stopped_bad_key : {limits : Limits} (a : IoState) → Stopped limits (Fail BadKey) a a BadKey
stopped_bad_key a = record { answers = []; agree = tt; broke = broke_at_once a nothing BadKey refl; cause = refl }

-- what follows a key of 32 bytes, and any other
keyed_script-mode : {mode : Mode} {a b : IoState} (next : Mode → Script) (found : FoundKey mode a b)
    → keyed_script next (Ok found.key) ≡ next mode
keyed_script-mode next found =
    cond-true (length found.key == 32) _ _ (eq-eqb (length found.key) 32 found.len) ∙ ap next (sym found.is)

keyed_script-bad : (next : Mode → Script) (key : List ℕ) → length key ≢ 32 → keyed_script next (Ok key) ≡ Fail BadKey
keyed_script-bad next key len = cond-false (length key == 32) _ _ (ne_eqb (length key) 32 len)

pub runs_in_mode : (limits : Limits) (key : KeyChoice) (mode : Mode) (next : Mode → Script) (a b c : IoState)
    (result : Result Tally RunFault)
    → FoundMode key mode a b → Runs limits (next mode) b c result → Runs limits (with_mode key next) a c result
runs_in_mode limits Plain mode next a b c result found run =
    subst (λ (m : Mode). Runs limits (next m) a c result) found.0
    (subst (λ (s : IoState). Runs limits (next mode) s c result) found.1 run)
runs_in_mode limits (Derive context) mode next a b c result found run =
    subst (λ (m : Mode). Runs limits (next m) a c result) found.0
    (subst (λ (s : IoState). Runs limits (next mode) s c result) found.1 run)
runs_in_mode limits Keyed mode next a b c (Ok tally) found run =
    ran_answered (keyed_script next) (Ok found.key) found.answered
    (subst (λ (s : Script). Ran s b c tally) (sym (keyed_script-mode next found)) run)
runs_in_mode limits Keyed mode next a b c (Err fault) found run =
    stopped_answered (keyed_script next) (Ok found.key) found.answered
    (subst (λ (s : Script). Stopped limits s b c fault) (sym (keyed_script-mode next found)) run)

-- there is no mode
pub stopped_in_mode : (limits : Limits) (key : KeyChoice) (next : Mode → Script) (a b : IoState) (fault : RunFault)
    → FoundNoMode key fault a b → Stopped limits (with_mode key next) a b fault
stopped_in_mode limits Plain next a b fault found = absurd found
stopped_in_mode limits (Derive context) next a b fault found = absurd found
stopped_in_mode limits Keyed next a b fault found = elim found [
  | inl missing ↦ subst (λ (f : RunFault). Stopped limits (with_mode Keyed next) a b f) (sym missing.0)
      (stopped_answered (keyed_script next) (Err missing.1.why) missing.1.answered (stopped_unread_key b))
  | inr bad ↦ subst (λ (f : RunFault). Stopped limits (with_mode Keyed next) a b f) (sym bad.0)
      (stopped_answered (keyed_script next) (Ok bad.1.key) bad.1.answered
      (subst (λ (s : Script). Stopped limits s b b BadKey) (sym (keyed_script-bad next bad.1.key bad.1.len))
      (stopped_bad_key b)))
]

-- a key is asked for once at most
pub mode_count : (key : KeyChoice) (a b : IoState) (result : Result Mode RunFault) → FindsMode key a b result
    → b.failures ≤ a.failures + keys_asked key
mode_count Plain a b (Ok mode) found = omega (arith, ap (λ (s : IoState). s.failures) found.1)
mode_count Plain a b (Err fault) found = absurd found
mode_count (Derive context) a b (Ok mode) found = omega (arith, ap (λ (s : IoState). s.failures) found.1)
mode_count (Derive context) a b (Err fault) found = absurd found
mode_count Keyed a b (Ok mode) found = omega (arith, found.answered.went.heard.failures)
mode_count Keyed a b (Err fault) found = elim found [
  | inl missing ↦ omega (arith, missing.1.answered.went.heard.failures)
  | inr bad ↦ omega (arith, bad.1.answered.went.heard.failures)
]

-- the failures after it can be counted
pub mode_room : (key : KeyChoice) (mode : Mode) (a b : IoState) (count : ℕ) → FoundMode key mode a b
    → CanCount a (1 + count) → CanCount b count
mode_room Plain mode a b count found countable =
    subst (λ (s : IoState). CanCount s count) (sym found.1)
    (record { shelf = omega (arith, countable.shelf); out = countable.out; err = countable.err })
mode_room (Derive context) mode a b count found countable =
    subst (λ (s : IoState). CanCount s count) (sym found.1)
    (record { shelf = omega (arith, countable.shelf); out = countable.out; err = countable.err })
mode_room Keyed mode a b count found countable =
    let went = found.answered.went in
    record {
      shelf = omega (arith, countable.shelf, went.heard.failures);
      out = omega (arith, countable.out, went.out.count);
      err = omega (arith, countable.err, went.err.count);
    }
