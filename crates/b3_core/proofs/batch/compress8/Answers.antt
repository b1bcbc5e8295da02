use Rattle.std.proofs.Common.{◌≡◌, ℕ, ◌%◌, ◌/◌, ◌^◌, List, [], ◌∷◌, ◌++◌, get_or, lit<, ap, ◌∙◌}
use Rattle.std.proofs.Math.ListN.{get_or-map as get_or-of_map}
use Rattle.b3_core.specs.Compression.{compress, output_words}
use Rattle.b3_core.specs.Lanes.{lane}
use Rattle.b3_core.proofs.Lists.{below_eight}
use Rattle.b3_core.proofs.batch.compress8.Goals as goal

pub returns : goal.returns
unfolding compress
returns c =
    let t = c.args.t.now in
    let front = c.transposed8-front.result in
    let back = c.transposed8-back.result in
    let lists : List (List ℕ) =
    c.concatenated.result ∷ c.concatenated-2.result ∷ c.concatenated-3.result ∷ c.concatenated-4.result
    ∷ c.concatenated-5.result ∷ c.concatenated-6.result ∷ c.concatenated-7.result ∷ c.concatenated-8.result
    ∷ [] in
    let each = below_eight (λ j. get_or lists j [] ≡ get_or front j [] ++ get_or back j [])
    c.concatenated.ensures c.concatenated-2.ensures c.concatenated-3.ensures c.concatenated-4.ensures
    c.concatenated-5.ensures c.concatenated-6.ensures c.concatenated-7.ensures c.concatenated-8.ensures in
    λ j lt.
    let t_j : ℕ = get_or t j 0 in
    let low : get_or c.counters.result.0 j 0 ≡ t_j % 2 ^ 32 =
    ap (λ l. get_or l j 0) c.counters.ensures.low ∙ get_or-of_map (λ n. n % 2 ^ 32) t j 0 in
    let high : get_or c.counters.result.1 j 0 ≡ t_j / 2 ^ 32 =
    ap (λ l. get_or l j 0) c.counters.ensures.high ∙ get_or-of_map (λ n. n / 2 ^ 32) t j 0 in
    let chains = c.all_gathered-chains.ensures.lanes j lt in
    let message = c.all_gathered-message.ensures.lanes j lt in
    let state = c.final_states8-v.ensures.lanes j t_j lt low high in
    each j lt
    ∙ (λ i. c.transposed8-front.ensures.lanes j lt i ++ c.transposed8-back.ensures.lanes j lt i)
    ∙ (λ i. c.first_words8.ensures.lanes j (lane j c.all_gathered-chains.result) lt i
    ++ c.last_words8.ensures.lanes j lt i)
    ∙ (λ i. output_words (state i) (lane j c.all_gathered-chains.result))
    ∙ (λ i. compress (chains i) (message i) t_j c.args.b c.args.d)

pub concatenated-requires-2-clause-front : goal.concatenated-requires-2-clause-front
concatenated-requires-2-clause-front c = c.transposed8-front.ensures.wide.1 1 (lit< tt)

pub concatenated-requires-3-clause-front : goal.concatenated-requires-3-clause-front
concatenated-requires-3-clause-front c = c.transposed8-front.ensures.wide.1 2 (lit< tt)

pub concatenated-requires-4-clause-front : goal.concatenated-requires-4-clause-front
concatenated-requires-4-clause-front c = c.transposed8-front.ensures.wide.1 3 (lit< tt)

pub concatenated-requires-5-clause-front : goal.concatenated-requires-5-clause-front
concatenated-requires-5-clause-front c = c.transposed8-front.ensures.wide.1 4 (lit< tt)

pub concatenated-requires-6-clause-front : goal.concatenated-requires-6-clause-front
concatenated-requires-6-clause-front c = c.transposed8-front.ensures.wide.1 5 (lit< tt)

pub concatenated-requires-7-clause-front : goal.concatenated-requires-7-clause-front
concatenated-requires-7-clause-front c = c.transposed8-front.ensures.wide.1 6 (lit< tt)

pub concatenated-requires-8-clause-front : goal.concatenated-requires-8-clause-front
concatenated-requires-8-clause-front c = c.transposed8-front.ensures.wide.1 7 (lit< tt)

pub concatenated-requires-3-clause-back : goal.concatenated-requires-3-clause-back
concatenated-requires-3-clause-back c = c.transposed8-back.ensures.wide.1 2 (lit< tt)

pub concatenated-requires-4-clause-back : goal.concatenated-requires-4-clause-back
concatenated-requires-4-clause-back c = c.transposed8-back.ensures.wide.1 3 (lit< tt)

pub concatenated-requires-5-clause-back : goal.concatenated-requires-5-clause-back
concatenated-requires-5-clause-back c = c.transposed8-back.ensures.wide.1 4 (lit< tt)

pub concatenated-requires-6-clause-back : goal.concatenated-requires-6-clause-back
concatenated-requires-6-clause-back c = c.transposed8-back.ensures.wide.1 5 (lit< tt)

pub concatenated-requires-7-clause-back : goal.concatenated-requires-7-clause-back
concatenated-requires-7-clause-back c = c.transposed8-back.ensures.wide.1 6 (lit< tt)

pub concatenated-requires-8-clause-back : goal.concatenated-requires-8-clause-back
concatenated-requires-8-clause-back c = c.transposed8-back.ensures.wide.1 7 (lit< tt)
