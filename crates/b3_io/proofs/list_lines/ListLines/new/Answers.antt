use Rattle.std.proofs.Common.{arith, map}
use Rattle.std.proofs.lemmas.List.{length-map}
use Rattle.b3_lines.specs.Lines.{line_at}
use Rattle.b3_io.proofs.CheckLemmas.{length-line_tasks}
use Rattle.b3_io.proofs.list_lines.ListLines.new.Goals as goal

pub returns-clause-few : goal.returns-clause-few
returns-clause-few c =
    let text = c.args.text.now in
    let lines = c.lines.result in
    omega (
      arith,
      length-line_tasks c.args.options c.args.name.now c.args.first (map (line_at text) lines),
      length-map lines
          (line_at text),
      c.lines.ensures.count,
    )
