use Rattle.std.proofs.Common.{rules}
use Rattle.std.specs.Fork.{AcceptsAt, ChangesAt}
use Rattle.b3_threads.proofs.ThreadParts.{all_first, all_rest, changes_both}
use Rattle.b3_threads.proofs.threads.+chain.Goals as goal

pub all_from-one_beside_rest-requires-clause-first : goal.all_from-one_beside_rest-requires-clause-first
all_from-one_beside_rest-requires-clause-first g t c κs within =
    let cut = c.split_at_mut-first in
    all_first (AcceptsAt g.F.Fn c.args.f.now) c.args.base c.args.s.now cut.result.0.now cut.result.1.now cut.ensures.value
    c.requires

pub all_from-one_beside_rest-requires-clause-rest : goal.all_from-one_beside_rest-requires-clause-rest
all_from-one_beside_rest-requires-clause-rest g t c κs within =
    let cut = c.split_at_mut-first in
    all_rest (AcceptsAt g.F.Fn c.args.f.now) c.args.base c.args.s.now cut.result.0.now cut.result.1.now cut.ensures.value
    cut.ensures.front_len c.requires

pub all_from-returns : goal.all_from-returns
all_from-returns g t c =
    let cut = c.split_at_mut-first in
    changes_both (ChangesAt g.F.Fn c.args.f.now) c.args.base c.args.s.now cut.result.0.now cut.result.1.now
    c.one_beside_rest.new.first c.one_beside_rest.new.rest cut.ensures.value cut.ensures.front_len
    c.one_beside_rest.ensures.first c.one_beside_rest.ensures.rest

pub one_beside_rest-join_mut-requires-after_bounds : goal.one_beside_rest-join_mut-requires-after_bounds
one_beside_rest-join_mut-requires-after_bounds g c = search rules
