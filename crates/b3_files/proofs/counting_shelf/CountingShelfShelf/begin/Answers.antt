use Rattle.b3_files.proofs.counting_shelf.CountingShelfShelf.begin.Goals as goal

pub returns-then-has_waiting : goal.returns-then-has_waiting
returns-then-has_waiting g c = c.begin-begun.ensures

pub returns-else-has_waiting : goal.returns-else-has_waiting
returns-else-has_waiting g c = c.begin-begun.ensures

pub returns-else-is_shown : goal.returns-else-is_shown
returns-else-is_shown g c = c.begin-begun.ensures
