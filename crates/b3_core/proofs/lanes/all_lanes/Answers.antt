use Rattle.std.proofs.Common.{◌≡◌, List, ℕ, [], ◌∷◌, get_or}
use Rattle.b3_core.specs.Lanes.{lane}
use Rattle.b3_core.proofs.Lists.{below_eight}
use Rattle.b3_core.proofs.lanes.all_lanes.Goals as goal

pub returns : goal.returns
returns c =
    let lists : List (List ℕ) =
    c.lane_words.result ∷ c.lane_words-2.result ∷ c.lane_words-3.result ∷ c.lane_words-4.result
    ∷ c.lane_words-5.result ∷ c.lane_words-6.result ∷ c.lane_words-7.result ∷ c.lane_words-8.result ∷ [] in
    below_eight (λ j. get_or lists j [] ≡ lane j c.args.v.now)
    c.lane_words.ensures c.lane_words-2.ensures c.lane_words-3.ensures c.lane_words-4.ensures
    c.lane_words-5.ensures c.lane_words-6.ensures c.lane_words-7.ensures c.lane_words-8.ensures
