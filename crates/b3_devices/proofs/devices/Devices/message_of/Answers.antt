use Rattle.std.proofs.Common.{◌≡◌, ◌≤◌, [], ◌∷◌, ◌∙◌, List, Ok, ℕ, ap, arith, sym}
use Rattle.std.proofs.lemmas.Grind.{common_steps}
use Rattle.std.proofs.lemmas.Result.{err_from_is_err_and}
use Rattle.b3_io.specs.declared.fault.RunFault.{RunFault}
use Rattle.b3_io.specs.declared.fault.RunFault.TheVariants.{Memory}
use Rattle.b3_io.specs.declared.items.Request.{Request}
use Rattle.b3_io.specs.declared.options.Limits.{Limits}
use Rattle.b3_io.specs.declared.output_range.OutputRange.{OutputRange}
use Rattle.b3_io.specs.Digests.{digest_of, digest_script}
use Rattle.b3_io.specs.Reading.{Digested, found_if}
use Rattle.b3_io.specs.Runs.{IoState, Stopped}
use Rattle.b3_io.specs.Scripts.{Given, Report}
use Rattle.b3_io.specs.Scripts.Script.{Done, Say}
use Rattle.b3_io.specs.Tasks.{bytes_of, counted, request_report}
use Rattle.b3_io.proofs.RunLemmas.{stopped_answered, stopped_at_once}
use Rattle.b3_io.proofs.ScriptLemmas.{joined-nothing}
use Rattle.b3_devices.proofs.devices.Devices.message_of.Goals.{in-Ok, in-Err}
use Rattle.b3_devices.proofs.devices.Devices.message_of.Goals as goal

-- there is no memory for what is to be said
stopped_unsaid : {limits : Limits} {a b : IoState} {fault : RunFault} {range : OutputRange} {name : List ℕ}
    {digest : Given (List ℕ)}
    (says : Given (List ℕ) → Report) → Digested range name digest a b → fault ≡ Memory
    → Stopped limits (digest_script range name says) a b fault
stopped_unsaid {limits} {a} {b} {fault} {range} {name} {digest} says digested refused =
    stopped_answered (λ answer. Say (says (digest_of range answer)) Done) digested.answer digested.answered
    (stopped_at_once _ b fault refused)

-- what is said of a name is counted at most twice
two : (request : Request) (digest : Given (List ℕ)) → counted (request_report request digest).tally ≤ 2
two request digest = grind (arith, common_steps)

pub returns-in_err-message-clause-finds : goal.returns-in_err-message-clause-finds
returns-in_err-message-clause-finds g c =
    let p = err_from_is_err_and c.from_residual-in_err-message.result c.from_residual-in_err-message.ensures.1 in
    let hashed = rw c.name.ensures at c.in_ok-whole.ensures.hashed in
    rw p.1 (stopped_unsaid (request_report c.args.request.now) hashed p.2)

pub returns-clause-one : goal.returns-clause-one
returns-clause-one g c =
    rw (ap (λ (q : Report). q.tally) c.in_ok-message.ensures) (two c.args.request.now (bytes_of c.match-whole.digest))

pub returns-clause-finds : goal.returns-clause-finds
returns-clause-finds g c =
    let hashed = rw c.name.ensures at c.in_ok-whole.ensures.hashed in
    let found : bytes_of c.match-whole.digest ≡ found_if c.in_ok-whole.whole c.hash.new.digester.digest.items =
    elim c.match-whole.branch [
      | in-Ok w ↦
          ap bytes_of w.digest-is ∙ ap Ok w.digest.ensures.bytes
          ∙ sym (ap (λ whole. found_if whole c.hash.new.digester.digest.items) w.in-Ok.is)
      | in-Err w ↦
          ap bytes_of w.digest-is ∙ sym (ap (λ whole. found_if whole c.hash.new.digester.digest.items) w.in-Err.is)
    ] in
    record {
      answers = hashed.answer ∷ [];
      agree = (hashed.answered.agrees, tt);
      complete = tt;
      went = hashed.answered.went;
      is = c.in_ok-message.ensures ∙ ap (request_report c.args.request.now) (found ∙ hashed.is) ∙ sym (joined-nothing _);
    }

pub returns-clause-range : goal.returns-clause-range
returns-clause-range g c = c.hash.ensures.range

pub returns-clause-unsaid : goal.returns-clause-unsaid
returns-clause-unsaid g c = c.hash.ensures.unsaid

pub returns-clause-loans : goal.returns-clause-loans
returns-clause-loans g c = c.hash.ensures.loans

pub returns-in_err-message-clause-range : goal.returns-in_err-message-clause-range
returns-in_err-message-clause-range g c = c.hash.ensures.range

pub returns-in_err-message-clause-unsaid : goal.returns-in_err-message-clause-unsaid
returns-in_err-message-clause-unsaid g c = c.hash.ensures.unsaid

pub returns-in_err-message-clause-loans : goal.returns-in_err-message-clause-loans
returns-in_err-message-clause-loans g c = c.hash.ensures.loans
