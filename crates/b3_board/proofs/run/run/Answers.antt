use Rattle.std.proofs.Common.{◌+◌, ◌∙◌, ap, sym}
use Rattle.b3_board.proofs.run.run.Goals as goal

pub returns-clause-claimed : goal.returns-clause-claimed
returns-clause-claimed g c = c.in_ok-joined.ensures.claimed

pub returns-clause-shares : goal.returns-clause-shares
returns-clause-shares g c = c.in_ok-joined.ensures.shares

pub returns-clause-all : goal.returns-clause-all
returns-clause-all g c = ap (λ n. n + c.in-Some.swept) (sym c.in_ok-joined.ensures.chunks) ∙ c.in-Some.ensures.all

pub returns-clause-kept : goal.returns-clause-kept
returns-clause-kept g c = c.in-Some.ensures.kept

pub returns-clause-root : goal.returns-clause-root
returns-clause-root g c = c.in-Some.ensures.root

pub returns-in_default-clause-sure : goal.returns-in_default-clause-sure
returns-in_default-clause-sure g c = c.in_default.ensures.sure

pub take_root-requires-clause-serves : goal.take_root-requires-clause-serves
take_root-requires-clause-serves g c = rw c.run_all.auto.buffer c.requires.serves
