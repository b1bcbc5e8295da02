use Rattle.std.proofs.Common.{◌≡◌, ℕ, ◌+◌, ◌%◌, ◌/◌, ◌^◌, ◌<◌, List, [], ◌∷◌, map, get_or, refl, sym, ap, ◌∙◌, add-zero}
use Rattle.b3_core.proofs.Lists.{below_eight}
use Rattle.b3_core.proofs.lanes.counters_from.Goals as goal

abbrev counted : ℕ → List ℕ
counted first =
    first ∷ (first + 1) ∷ (first + 2) ∷ (first + 3) ∷ (first + 4) ∷ (first + 5) ∷ (first + 6) ∷ (first + 7) ∷ []

counted-at : (f : ℕ → ℕ) (first j : ℕ) → j < 8 → get_or (map f (counted first)) j 0 ≡ f (first + j)
counted-at f first =
    below_eight (λ j. get_or (map f (counted first)) j 0 ≡ f (first + j))
    (ap f (sym (add-zero first))) refl refl refl refl refl refl refl

pub returns-clause-low : goal.returns-clause-low
returns-clause-low c j lt =
    ap (λ l. get_or l j 0) c.counters.ensures.low ∙ counted-at (λ n. n % 2 ^ 32) c.args.first j lt

pub returns-clause-high : goal.returns-clause-high
returns-clause-high c j lt =
    ap (λ l. get_or l j 0) c.counters.ensures.high ∙ counted-at (λ n. n / 2 ^ 32) c.args.first j lt
