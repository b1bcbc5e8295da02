use Rattle.std.proofs.Common.{◌≡◌, ◌+◌, ◌∷◌, ◌∙◌, ℕ, List, Some, map, refl, rules, sym, ap, arith, length}
use Rattle.std.specs.String.{string_bytes}
use Rattle.std.proofs.lemmas.List.Elements.{All-rest}
use Rattle.b3_lines.specs.Lines.{line_at, IsWithin}
use Rattle.b3_lines.specs.Reading.{first_refusal}
use Rattle.b3_lines.specs.declared.fault.LineFault.{LineFault}
use Rattle.b3_io.specs.declared.options.CheckOptions.{CheckOptions}
use Rattle.b3_io.specs.Checks.{refused_report}
use Rattle.b3_io.specs.Scripts.{Report}
use Rattle.b3_io.specs.Tasks.{counted, line_task, line_tasks}
use Rattle.b3_io.specs.Tasks.Task.{Tell}
use Rattle.b3_io.proofs.CheckLemmas.{line_tasks-read}
use Rattle.b3_io.proofs.list_lines.ListLinesWorkItemsItem.next.Goals as goal

pub invariant_of-self-2 : goal.invariant_of-self-2
invariant_of-self-2 c =
    let steps = c.in-Some.ensures.steps in
    record {
      within = All-rest (IsWithin c.args.self.now.text.now) _ _ _ steps c.args.self.now.within;
      numbered = omega (arith, ap length steps, c.args.self.now.numbered);
    }

pub returns-in-Ok-clause-next : goal.returns-in-Ok-clause-next
returns-in-Ok-clause-next c =
    let work = c.args.self.now in
    line_tasks-read work.options work.name.now work.number work.text.now _ work.lines _ c.in-Ok.line.digest
    (string_bytes c.in-Ok.line.name) (string_bytes c.in-Ok.line.shown)
    c.in-Some.ensures.steps c.in-Ok.ensures.read

-- a line that is refused, and the lines after it
line_tasks-refused : (options : CheckOptions) (list : List ℕ) (number : ℕ) (text : List ℕ) (place : ℕ × ℕ)
    (places rest : List (ℕ × ℕ)) (fault : LineFault) (said : Report)
    → places ≡ place ∷ rest → first_refusal (line_at text place) ≡ Some fault
    → said ≡ refused_report options list number fault
    → line_tasks options list number (map (line_at text) places)
    ≡ Tell said ∷ line_tasks options list (number + 1) (map (line_at text) rest)
line_tasks-refused options list number text place places rest fault said steps refused is =
    let tasks = line_tasks options list (number + 1) (map (line_at text) rest) in
    ap (λ (ps : List (ℕ × ℕ)). line_tasks options list number (map (line_at text) ps)) steps
    ∙ (λ j. line_task options list number (line_at text place) (refused j) ∷ tasks)
    ∙ ap (λ (report : Report). Tell report ∷ tasks) (sym is)

pub returns-in_ok-message-in-Err : goal.returns-in_ok-message-in-Err
returns-in_ok-message-in-Err c =
    let work = c.args.self.now in
    let told = c.in_ok-message-in-Err.ensures in
    let refused : first_refusal (line_at work.text.now (c.in-Some.start, c.in-Some.end)) ≡ Some c.in-Err.fault =
    search rules in
    record {
      next = line_tasks-refused work.options work.name.now work.number work.text.now _ work.lines c.next.new.self
          c.in-Err.fault _ c.in-Some.ensures.steps refused told;
      over = tt;
      fit = λ _ _. omega (arith, ap (λ (said : Report). counted said.tally) told);
      still_fits = λ _. refl;
    }

pub invariant_of-self-in-Err : goal.invariant_of-self-in-Err
invariant_of-self-in-Err c =
    let steps = c.in-Some.ensures.steps in
    record {
      within = All-rest (IsWithin c.args.self.now.text.now) _ _ _ steps c.args.self.now.within;
      numbered = omega (arith, ap length steps, c.args.self.now.numbered);
    }
