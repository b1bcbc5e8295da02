use Rattle.std.proofs.Common.{ap, ◌∙◌}
use Rattle.b3_board.specs.declared.entries.Entry.{Entry}
use Rattle.b3_board.specs.declared.entries.State.TheVariants.{Kept}
use Rattle.b3_board.specs.Entries.{at, is_kept, nothing}
use Rattle.std.proofs.lemmas.List.{get_or-set_same}
use Rattle.b3_board.proofs.Steps.{closed-apart, closed-kept_chunk, closed-kept_count, closed-open, closed-sound}
use Rattle.b3_board.proofs.merging.close_span.Goals as goal

pub merge_up-requires-clause-kept : goal.merge_up-requires-clause-kept
merge_up-requires-clause-kept g c =
    let closed : Entry = record { span = (at c.args.entries.now c.args.place).span; state = Kept c.args.kept } in
    ap (λ e. is_kept e.state) (get_or-set_same c.args.entries.now c.args.place closed nothing c.requires.inside)

pub merge_up-requires-clause-sound : goal.merge_up-requires-clause-sound
merge_up-requires-clause-sound g c =
    let of = g.L.InputLedger in
    closed-sound of.input of.mode of.first c.args.entries.now c.requires.lawful c.args.place
    c.requires.inside c.requires.open c.args.kept c.requires.top c.requires.chaining

pub merge_up-requires-clause-apart : goal.merge_up-requires-clause-apart
merge_up-requires-clause-apart g c =
    let of = g.L.InputLedger in
    closed-apart of.input of.mode of.first c.args.entries.now c.requires.lawful c.args.place
    c.requires.inside c.requires.open c.args.kept c.requires.top c.requires.chaining

pub returns-clause-chunks : goal.returns-clause-chunks
returns-clause-chunks g c = λ k.
    let of = g.L.InputLedger in
    c.merge_up.ensures.same_chunks k
    ∙ closed-kept_chunk of.input of.mode of.first c.args.entries.now c.requires.lawful c.args.place
    c.requires.inside c.requires.open c.args.kept c.requires.top c.requires.chaining k

pub returns-clause-count : goal.returns-clause-count
returns-clause-count g c =
    let of = g.L.InputLedger in
    c.merge_up.ensures.same_count
    ∙ closed-kept_count of.input of.mode of.first c.args.entries.now c.requires.lawful c.args.place
    c.requires.inside c.requires.open c.args.kept c.requires.top c.requires.chaining

pub returns-clause-opens : goal.returns-clause-opens
returns-clause-opens g c =
    let of = g.L.InputLedger in
    c.merge_up.ensures.same_open
    ∙ closed-open of.input of.mode of.first c.args.entries.now c.requires.lawful c.args.place
    c.requires.inside c.requires.open c.args.kept c.requires.top c.requires.chaining
