use Rattle.std.proofs.Common.{ℕ, ◌+◌, ◌≤◌, inl, inr, refl, sym, subst, ap}
use Rattle.b3_core.specs.Tree.{chunks}
use Rattle.b3_board.specs.Entries.{at}
use Rattle.b3_board.specs.Spans.{KnownInput}
use Rattle.b3_board.proofs.KnownNodes.{IsNodeOf-named}
use Rattle.b3_board.proofs.OpenSpans.{open_inside, same_length, still_closed}
use Rattle.b3_board.proofs.merging.close_if_open.Goals as goal

pub top_of-node-requires-clause-inside : goal.top_of-node-requires-clause-inside
top_of-node-requires-clause-inside g c =
    let l = g.L.InputLedger in
    let span = (at c.args.entries.now c.args.place).span in
    let inside = (open_inside l.input l.mode l.first c.args.entries.now c.requires.lawful c.args.place c.in-Open.is).0 in
    subst (λ (n : ℕ). span.first + span.count ≤ chunks n)
    (sym (ap (λ (k : KnownInput). k.len) c.args.backing.now.input_is)) inside

pub top_of-node-requires-clause-some : goal.top_of-node-requires-clause-some
top_of-node-requires-clause-some g c =
    let l = g.L.InputLedger in
    (open_inside l.input l.mode l.first c.args.entries.now c.requires.lawful c.args.place c.in-Open.is).1

pub returns-in-Open-clause-closed : goal.returns-in-Open-clause-closed
returns-in-Open-clause-closed g c =
    still_closed c.args.entries.now c.close_span.new.entries c.args.place c.requires.inside c.close_span.ensures.opens
    c.args.place (inl refl)

pub returns-in-Open-clause-others : goal.returns-in-Open-clause-others
returns-in-Open-clause-others g c = λ i closed.
    still_closed c.args.entries.now c.close_span.new.entries c.args.place c.requires.inside c.close_span.ensures.opens
    i (inr closed)

pub returns-in-Open-clause-len : goal.returns-in-Open-clause-len
returns-in-Open-clause-len g c =
    same_length c.args.entries.now c.close_span.new.entries c.args.place c.close_span.ensures.opens

pub close_span-requires-clause-top : goal.close_span-requires-clause-top
close_span-requires-clause-top g c =
    let b = c.args.backing.now in
    let l = g.L.InputLedger in
    IsNodeOf-named b.tree.input.now l.input b.tree.mode l.mode b.tree.first l.first
    (at c.args.entries.now c.args.place).span c.top_of-node.result b.input_is b.mode_is b.first_is c.top_of-node.ensures
