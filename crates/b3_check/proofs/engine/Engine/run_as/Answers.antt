use Rattle.std.proofs.Common.{◌≡◌, ℕ, List, [], sym}
use Rattle.b3_crew.specs.Crews.{AheadState, SoFar, tasks_ahead}
use Rattle.b3_io.specs.Runs.{IoState}
use Rattle.b3_io.specs.Tallies.{no_tally}
use Rattle.b3_io.specs.Tasks.{Task}
use Rattle.b3_io.specs.declared.output_range.OutputRange.{OutputRange}
use Rattle.b3_io.specs.declared.tally.Tally.{Tally}
use Rattle.b3_crew.proofs.CrewLemmas.{so_far_uncounted}
use Rattle.b3_crew.proofs.TaskLemmas.{so_far_none}
use Rattle.b3_check.proofs.engine.Engine.run_as.Goals as goal

-- none is taken at first, and nothing done
none_ahead : {tasks left : List Task} (ahead : AheadState) → ahead.items ≡ [] → tasks ≡ left → tasks_ahead ahead left ≡ tasks
none_ahead ahead none same = rw none (sym same)

none_done : {range : OutputRange} {tasks left : List Task} {start now : IoState} {owing : List ℕ} {tally : Tally}
    → left ≡ tasks → owing ≡ [] → start ≡ now → tally ≡ no_tally → SoFar range tasks left start now owing tally
none_done all none same tally = rw (all, none, same) (so_far_none tally)

pub do_items-requires-clause-before : goal.do_items-requires-clause-before
do_items-requires-clause-before g c = λ _ _.
    let all : tasks_ahead c.new-ahead.result (g.P.WorkItems.left c.args.work.now) ≡ g.L.RunInput.tasks =
    none_ahead c.new-ahead.result c.new-ahead.ensures.items c.requires.tasks in
    record {
      at = record { done = []; parts = sym all; count = sym c.new-ahead.ensures.next };
      so_far = so_far_uncounted c.new-saying.ensures.uncounted
          (none_done all c.new-saying.ensures.lines c.requires.start c.new-saying.ensures.tally);
      fitting = c.requires.fits;
      few = c.requires.few;
      countable = c.requires.countable;
    }

pub returns : goal.returns
returns g c = c.do_items.ensures
