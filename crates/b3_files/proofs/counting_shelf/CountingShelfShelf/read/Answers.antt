use Rattle.b3_files.proofs.counting_shelf.CountingShelfShelf.read.Goals as goal

pub returns-then-count-gt0 : goal.returns-then-count-gt0
returns-then-count-gt0 g c = c.in_ok-count.ensures

pub returns-else-is_shown : goal.returns-else-is_shown
returns-else-is_shown g c = c.in_ok-count.ensures
