use Rattle.std.proofs.Common.{◌∷◌, ◌++◌, [], ap, arith}
use Rattle.std.proofs.lemmas.Grind.{common_steps}
use Rattle.std.proofs.lemmas.List.{map-append}
use Rattle.b3_crew.specs.Crews.{AheadState}
use Rattle.b3_crew.proofs.ahead.Ahead.push.Goals as goal

pub new-requires-clause-is : goal.new-requires-clause-is
new-requires-clause-is g c = grind (arith, common_steps)

pub returns-clause-items : goal.returns-clause-items
returns-clause-items g c =
    rw (c.in_ok-push_back.ensures.items, map-append, c.in_ok-new.ensures.ok, c.new.ensures)
    (ap (λ (ahead : AheadState). ahead.items ++ g.I.AnyItem.item c.args.item ∷ []) c.self.view_is)

pub returns-clause-next : goal.returns-clause-next
returns-clause-next g c = ap (λ (ahead : AheadState). ahead.next) c.self.view_is
