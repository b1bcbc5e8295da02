use Rattle.std.proofs.Common.{refl, sym, subst}
use Rattle.b3_board.specs.BoardStates.{HasTopsOf}
use Rattle.b3_board.proofs.LawfulStates.{IsLawful-in_memory, IsLawful-seen}
use Rattle.b3_board.proofs.board.Board+InMemory+L+L.input.Goals as goal

pub returns-clause-tops : goal.returns-clause-tops
returns-clause-tops g c =
    let bytes = c.self.inside.backing.tree.input.now in
    let lawful = IsLawful-seen c.self.invariant refl in
    subst (HasTopsOf bytes) c.self.view_is (IsLawful-in_memory bytes _ (sym c.self.inside.backing.input_is) lawful)
