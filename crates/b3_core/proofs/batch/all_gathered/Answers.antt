use Rattle.std.proofs.Common.{ℕ, [], length, get_or, replicate, ap, ◌∙◌, sym, arith}
use Rattle.std.proofs.Math.ListN.{get_or-map as get_or-of_map}
use Rattle.std.proofs.lemmas.List.{length-map, length-replicate}
use Rattle.b3_core.proofs.Lists.{elements, map-below}
use Rattle.b3_core.proofs.LaneWords.{lane-elements}
use Rattle.b3_core.proofs.batch.all_gathered.Goals as goal

pub words-init : goal.words-init
words-init g c = (length-replicate g.row.N (replicate 8 0), λ i lt. absurd (omega (arith, lt)))

pub returns-clause-wide : goal.returns-clause-wide
returns-clause-wide g c = (
  c.words.invariant.0,
  λ i lt. ap length (c.words.invariant.1 i (omega arith))
      ∙ length-map c.args.lists.now (λ list. get_or list i 0) ∙ c.told-lists,
)

pub returns-clause-lanes : goal.returns-clause-lanes
returns-clause-lanes g c j lt =
    let lists = c.args.lists.now in
    let n : ℕ = g.row.N in
    lane-elements j n c.words.vectors c.words.invariant.0
    ∙ map-below (λ i. get_or (get_or c.words.vectors i []) j 0) (λ i. get_or (get_or lists j []) i 0) n
    (λ i i_in. ap (λ row. get_or row j 0) (c.words.invariant.1 i (omega arith))
    ∙ get_or-of_map (λ list. get_or list i 0) lists j [])
    ∙ sym (elements (get_or lists j []) n (c.known_lengths.ensures j lt))
