-- Runs of which lines are still to be written.
use Rattle.std.proofs.Common.{◌≡◌, ◌⊎◌, ℕ, List, [], ◌++◌, Option, refl, sym, ◌∙◌, ap, subst, append_assoc}
use Rattle.std.proofs.lemmas.List.{append-nil}
use Rattle.b3_io.specs.declared.options.Limits.{Limits}
use Rattle.b3_io.specs.declared.message.Message.{Message}
use Rattle.b3_io.specs.declared.tally.Tally.{Tally}
use Rattle.b3_io.specs.declared.fault.RunFault.{RunFault}
use Rattle.b3_io.specs.declared.fault.RunFault.TheVariants.{ReadFault, WriteFault, Memory, BadKey, EndlessInput}
use Rattle.b3_io.specs.Contents.{Contents}
use Rattle.b3_io.specs.Owing.{RanOwing, WentOwing, on_out, with_out}
use Rattle.b3_io.specs.Runs.{Broke, GainsPart, IsCausedBy, Ran, IoState, Stopped, Went}
use Rattle.b3_io.specs.Scripts.{Answer, Report, Script, AnswersFirst, followed_by, joined, report}
use Rattle.b3_io.specs.Scripts.Script.{Done, Say}
use Rattle.b3_io.specs.Tallies.{no_tally, tally_sum}
use Rattle.b3_io.specs.Tasks.{Found, report_of}
use Rattle.b3_io.proofs.RunLemmas.{caused_anywhere, caused_later, no_part, went_nowhere, went_then, went_then_broke}
use Rattle.b3_io.proofs.ScriptLemmas.{AnswersFirst-append, IsComplete-append, followed_by-counted, nothing-joined, report-append}

-- ---- runs of one step

pub owing_done : (a : IoState) → RanOwing Done a a [] [] no_tally
owing_done a = record {
  answers = [];
  agree = tt;
  complete = tt;
  went = record { written = []; text = refl; went = went_nowhere a };
  counted = refl;
}

-- what a script gives is found, and said
pub owing_found : {script : Script} {a b c : IoState} {u v : List ℕ} {message : Message}
    → Found script a b message → WentOwing b c u v [] (report_of message) → RanOwing script a c u v message.tally
owing_found {script} {a} {b} {c} {u} {v} {message} found went =
    let said = with_out went.written (report_of message) in
    let both : Went a c (found.answers ++ []) said =
    subst (λ q. Went a c (found.answers ++ []) q) (nothing-joined said) (went_then found.went went.went) in
    record {
      answers = found.answers;
      agree = found.agree;
      complete = found.complete;
      went = subst (λ q. WentOwing a c u v found.answers q) found.is (record {
        written = went.written;
        text = went.text;
        went = subst (λ xs. Went a c xs said) (append-nil found.answers) both;
      });
      counted = ap (λ q. q.tally) found.is;
    }

-- a sink fails in the saying
pub stopped_found : {limits : Limits} {script : Script} {a b c : IoState} {u : List ℕ} {fault : RunFault}
    {message : Message}
    → Found script a b message → Broke b c [] (joined (on_out u) (report_of message)) fault
    → (fault ≡ WriteFault) ⊎ (fault ≡ Memory) → Stopped limits (Say (on_out u) script) a c fault
stopped_found {limits} {script} {a} {b} {c} {u} {fault} {message} found broke known =
    let said = joined (on_out u) (report_of message) in
    let both : Broke a c (found.answers ++ []) said fault =
    subst (λ q. Broke a c (found.answers ++ []) q fault) (nothing-joined said) (went_then_broke found.went broke) in
    record {
      answers = found.answers;
      agree = found.agree;
      broke = subst (λ q. Broke a c found.answers (joined (on_out u) q) fault) found.is
          (subst (λ xs. Broke a c xs said fault) (append-nil found.answers) both);
      cause = caused_anywhere _ limits _ _ fault known;
    }

-- ---- one run, and then another

-- a cause after a text is one without it
caused_unsaid : (told : Option Contents) (limits : Limits) (p : Report) (s : Script) (xs : List Answer)
    (fault : RunFault) → IsCausedBy fault told limits (Say p s) xs → IsCausedBy fault told limits s xs
caused_unsaid told limits p s xs ReadFault cause = cause
caused_unsaid told limits p s xs WriteFault cause = tt
caused_unsaid told limits p s xs Memory cause = tt
caused_unsaid told limits p s xs BadKey cause = cause
caused_unsaid told limits p s xs EndlessInput cause = cause

caused_said : (told : Option Contents) (limits : Limits) (p : Report) (s : Script) (xs : List Answer)
    (fault : RunFault) → IsCausedBy fault told limits s xs → IsCausedBy fault told limits (Say p s) xs
caused_said told limits p s xs ReadFault cause = cause
caused_said told limits p s xs WriteFault cause = tt
caused_said told limits p s xs Memory cause = tt
caused_said told limits p s xs BadKey cause = cause
caused_said told limits p s xs EndlessInput cause = cause

-- a run stops that has written nothing: what is owed was not written either
pub stopped_owing : {limits : Limits} {s : Script} {a b : IoState} {fault : RunFault} (u : List ℕ)
    → Stopped limits s a b fault → b.out ≡ a.out → Stopped limits (Say (on_out u) s) a b fault
stopped_owing {limits} {s} {a} {b} {fault} u stopped same =
    let broke = stopped.broke in
    record {
      answers = stopped.answers;
      agree = stopped.agree;
      broke = record {
        heard = broke.heard;
        out = rw same (no_part a.out (u ++ (report s stopped.answers).out));
        err = broke.err;
        sinks = broke.sinks;
      };
      cause = caused_said a.told limits (on_out u) s stopped.answers fault stopped.cause;
    }

went_owing_then : {a b c : IoState} {u v w : List ℕ} {xs ys : List Answer} {p q : Report}
    → WentOwing a b u v xs p → WentOwing b c v w ys q → WentOwing a c u w (xs ++ ys) (joined p q)
went_owing_then {a} {b} {c} {u} {v} {w} {xs} {ys} {p} {q} first second = record {
  written = first.written ++ second.written;
  text = sym (append_assoc u p.out q.out) ∙ ap (λ text. text ++ q.out) first.text
      ∙ append_assoc first.written v q.out ∙ ap (λ text. first.written ++ text) second.text
      ∙ sym (append_assoc first.written second.written w);
  went = went_then first.went second.went;
}

pub owing_then : {s t : Script} {a b c : IoState} {u v w : List ℕ} {m n : Tally}
    → RanOwing s a b u v m → RanOwing t b c v w n → RanOwing (followed_by s t) a c u w (tally_sum m n)
owing_then {s} {t} {a} {b} {c} {u} {v} {w} {m} {n} first second =
    let heard = first.went.went.heard in
    let agree = rw (heard.told, heard.sure) at second.agree in
    let said = report-append a.told a.sure s no_tally (λ _. t) first.answers second.answers first.agree first.complete
    in
    rw (followed_by-counted s t no_tally) (record {
      answers = first.answers ++ second.answers;
      agree = AnswersFirst-append a.told a.sure s no_tally (λ _. t) first.answers second.answers first.agree
          first.complete agree;
      complete = IsComplete-append a.told a.sure s no_tally (λ _. t) first.answers second.answers first.agree
          first.complete second.complete;
      went = rw said (went_owing_then first.went second.went);
      counted = rw (said, first.counted, second.counted) refl;
    })

-- what is owed comes first in what follows, and a beginning of all that was taken
broke_owing : {a b c : IoState} {v : List ℕ} {xs ys : List Answer} {p : Report} {fault : RunFault} (q : Report)
    → WentOwing a b [] v xs p → Broke b c ys (joined (on_out v) q) fault → Broke a c (xs ++ ys) (joined p q) fault
broke_owing {a} {b} {c} {v} {xs} {ys} {p} {fault} q first second =
    let both = went_then_broke first.went second in
    let text : first.written ++ (v ++ q.out) ≡ p.out ++ q.out =
    sym (append_assoc first.written v q.out) ∙ ap (λ text. text ++ q.out) (sym first.text) in
    record {
      heard = both.heard;
      out = subst (λ text. GainsPart a.out c.out text) text both.out;
      err = both.err;
      sinks = both.sinks;
    }

pub owing_stopped : {limits : Limits} {s t : Script} {a b c : IoState} {v : List ℕ} {m : Tally} {fault : RunFault}
    → RanOwing s a b [] v m → Stopped limits (Say (on_out v) t) b c fault → Stopped limits (followed_by s t) a c fault
owing_stopped {limits} {s} {t} {a} {b} {c} {v} {m} {fault} first second =
    let heard = first.went.went.heard in
    let follows : AnswersFirst b.told b.sure t second.answers = second.agree in
    let agree = rw (heard.told, heard.sure) at follows in
    let cause = rw heard.told at (caused_unsaid b.told limits (on_out v) t second.answers fault second.cause) in
    let said = report-append a.told a.sure s no_tally (λ _. t) first.answers second.answers first.agree first.complete
    in
    rw (followed_by-counted s t no_tally) (record {
      answers = first.answers ++ second.answers;
      agree = AnswersFirst-append a.told a.sure s no_tally (λ _. t) first.answers second.answers first.agree
          first.complete agree;
      broke = rw said (broke_owing (report t second.answers) first.went second.broke);
      cause = caused_later a.told a.sure limits s no_tally (λ _. t) first.answers second.answers fault first.agree
          first.complete cause;
    })

-- what is owed is written
pub owing_written : {s : Script} {a b c : IoState} {v : List ℕ} {m : Tally}
    → RanOwing s a b [] v m → Went b c [] (on_out v) → Ran s a c m
owing_written {s} {a} {b} {c} {v} {m} first written =
    let xs = first.answers in
    let p = report s xs in
    let both = went_then first.went.went written in
    record {
      answers = xs;
      agree = first.agree;
      complete = first.complete;
      went = record {
        heard = rw (append-nil xs) at both.heard;
        out = rw (sym first.went.text) at both.out;
        err = rw (append-nil p.err) at both.err;
      };
      counted = first.counted;
    }
