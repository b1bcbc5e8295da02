use Rattle.std.proofs.Common.{◌≡◌, ◌∙◌, [], ◌++◌, refl}
use Rattle.std.proofs.lemmas.List.{append-nil}
use Rattle.b3_io.specs.Faults.{fault_text}
use Rattle.b3_io.specs.declared.fault.RunFault.TheVariants as RunFault
use Rattle.b3_program.proofs.stop.Stop.say.Goals as goal

pub returns-in-NotText : goal.returns-in-NotText
returns-in-NotText g c =
    rw c.in-NotText.is (record {
      whole = c.say_line.result;
      said = c.say_line.ensures;
      out_kept = refl;
      status_is = refl;
    })

pub returns-in-TooManyFiles : goal.returns-in-TooManyFiles
returns-in-TooManyFiles g c =
    rw c.in-TooManyFiles.is (record {
      whole = c.say_line-in-TooManyFiles.result;
      said = c.say_line-in-TooManyFiles.ensures;
      out_kept = refl;
      status_is = refl;
    })

pub returns-in-Memory : goal.returns-in-Memory
returns-in-Memory g c =
    let text : c.text.result.now ++ [] ≡ fault_text RunFault.Memory = append-nil c.text.result.now ∙ c.text.ensures in
    rw c.in-Memory.is (record {
      whole = c.say_line-in-Memory.result;
      said = rw text at c.say_line-in-Memory.ensures;
      out_kept = refl;
      status_is = refl;
    })

pub returns-in-Refused : goal.returns-in-Refused
returns-in-Refused g c =
    rw c.in-Refused.is (record {
      whole = c.say.result;
      said = rw c.as_str.ensures.value at c.say.ensures;
      out_kept = refl;
      status_is = refl;
    })

pub returns-then-say : goal.returns-then-say
returns-then-say g c =
    rw c.in-Asked.is (record {
      whole = c.say-in-Asked.result;
      written = rw c.as_str-in-Asked.ensures.value at c.say-in-Asked.ensures;
      all = λ _. (refl, refl);
      failed = λ not_whole. absurd (cc (not_whole, c.if-say.true));
    })

pub returns-else-say : goal.returns-else-say
returns-else-say g c =
    let text : c.text-in-Asked.result.now ++ [] ≡ fault_text RunFault.WriteFault =
    append-nil c.text-in-Asked.result.now ∙ c.text-in-Asked.ensures in
    rw c.in-Asked.is (record {
      whole = c.say-in-Asked.result;
      written = rw c.as_str-in-Asked.ensures.value at c.say-in-Asked.ensures;
      all = λ whole. absurd (cc (whole, c.if-say.false));
      failed = λ _. record {
        whole = c.say_line-in-Asked.result;
        said = rw text at c.say_line-in-Asked.ensures;
        out_kept = refl;
        status_is = refl;
      };
    })
