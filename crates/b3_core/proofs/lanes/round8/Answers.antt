use Rattle.std.proofs.Common.{◌≡◌, ◌<◌, ℕ, T, ltb, List, [], length, get_or, lit<, sym, ◌∙◌}
use Rattle.std.proofs.lemmas.List.{length-map}
use Rattle.b3_core.specs.Compression.{half_g}
use Rattle.b3_core.specs.Lanes.{AreVectors, lane}
use Rattle.b3_core.proofs.Rounds.{columns_together, diagonals_together, round-together}
use Rattle.b3_core.proofs.LaneWords.{lane-at}
use Rattle.b3_core.proofs.lanes.round8.Goals as goal

-- a half of G after what the halves before it gave
then : (a b c d x r s : ℕ) {w v u : List ℕ} → w ≡ half_g v a b c d x r s → v ≡ u → w ≡ half_g u a b c d x r s
then a b c d x r s {w} {v} {u} is before = is ∙ (λ k. half_g (before k) a b c d x r s)

pub returns-clause-wide : goal.returns-clause-wide
returns-clause-wide c = c.half_g8-16.ensures.wide

pub returns-clause-lanes : goal.returns-clause-lanes
returns-clause-lanes c j lt =
    let v = c.args.v.now in
    let m = c.args.m.now in
    let word : (λ (i : ℕ). get_or (get_or m i []) j 0) ≡ (λ (i : ℕ). get_or (lane j m) i 0) =
    λ k i. sym (lane-at j i m) k in
    then _ _ _ _ _ _ _ (c.half_g8-16.ensures.lanes j lt)
    (then _ _ _ _ _ _ _ (c.half_g8-15.ensures.lanes j lt)
    (then _ _ _ _ _ _ _ (c.half_g8-14.ensures.lanes j lt)
    (then _ _ _ _ _ _ _ (c.half_g8-13.ensures.lanes j lt)
    (then _ _ _ _ _ _ _ (c.half_g8-12.ensures.lanes j lt)
    (then _ _ _ _ _ _ _ (c.half_g8-11.ensures.lanes j lt)
    (then _ _ _ _ _ _ _ (c.half_g8-10.ensures.lanes j lt)
    (then _ _ _ _ _ _ _ (c.half_g8-9.ensures.lanes j lt)
    (then _ _ _ _ _ _ _ (c.half_g8-8.ensures.lanes j lt)
    (then _ _ _ _ _ _ _ (c.half_g8-7.ensures.lanes j lt)
    (then _ _ _ _ _ _ _ (c.half_g8-6.ensures.lanes j lt)
    (then _ _ _ _ _ _ _ (c.half_g8-5.ensures.lanes j lt)
    (then _ _ _ _ _ _ _ (c.half_g8-4.ensures.lanes j lt)
    (then _ _ _ _ _ _ _ (c.half_g8-3.ensures.lanes j lt)
    (then _ _ _ _ _ _ _ (c.half_g8-2.ensures.lanes j lt)
    (c.half_g8.ensures.lanes j lt)))))))))))))))
    ∙ (λ k. diagonals_together (columns_together (lane j v) (word k)) (word k))
    ∙ round-together (lane j v) (lane j m) (length-map v _ ∙ c.requires.wide.0)

-- the places and the turns of a step are as they must be
allowed : (a b c d r s : ℕ) (v : List (List ℕ)) (x : List ℕ)
    → T (ltb a 16) → T (ltb b 16) → T (ltb c 16) → T (ltb d 16)
    → T (ltb 0 r) → T (ltb 0 s) → T (ltb r 32) → T (ltb s 32) → AreVectors 16 v → length x ≡ 8
    → record {
      a : a < 16;
      b : b < 16;
      c : c < 16;
      d : d < 16;
      some : (0 < r) × (0 < s);
      below : (r < 32) × (s < 32);
      wide : AreVectors 16 v;
      x : length x ≡ 8;
    }
allowed a b c d r s v x a_in b_in c_in d_in r_some s_some r_in s_in is_wide x_len = record {
  a = lit< a_in;
  b = lit< b_in;
  c = lit< c_in;
  d = lit< d_in;
  some = (lit< r_some, lit< s_some);
  below = (lit< r_in, lit< s_in);
  wide = is_wide;
  x = x_len;
}

pub half_g8-requires : goal.half_g8-requires
half_g8-requires c =
    allowed 0 4 8 12 16 12 _ _ tt tt tt tt tt tt tt tt c.requires.wide (c.requires.message.1 0 (lit< tt))

pub half_g8-requires-2 : goal.half_g8-requires-2
half_g8-requires-2 c =
    allowed 1 5 9 13 16 12 _ _ tt tt tt tt tt tt tt tt c.half_g8.ensures.wide (c.requires.message.1 2 (lit< tt))

pub half_g8-requires-3 : goal.half_g8-requires-3
half_g8-requires-3 c =
    allowed 2 6 10 14 16 12 _ _ tt tt tt tt tt tt tt tt c.half_g8-2.ensures.wide (c.requires.message.1 4 (lit< tt))

pub half_g8-requires-4 : goal.half_g8-requires-4
half_g8-requires-4 c =
    allowed 3 7 11 15 16 12 _ _ tt tt tt tt tt tt tt tt c.half_g8-3.ensures.wide (c.requires.message.1 6 (lit< tt))

pub half_g8-requires-5 : goal.half_g8-requires-5
half_g8-requires-5 c =
    allowed 0 4 8 12 8 7 _ _ tt tt tt tt tt tt tt tt c.half_g8-4.ensures.wide (c.requires.message.1 1 (lit< tt))

pub half_g8-requires-6 : goal.half_g8-requires-6
half_g8-requires-6 c =
    allowed 1 5 9 13 8 7 _ _ tt tt tt tt tt tt tt tt c.half_g8-5.ensures.wide (c.requires.message.1 3 (lit< tt))

pub half_g8-requires-7 : goal.half_g8-requires-7
half_g8-requires-7 c =
    allowed 2 6 10 14 8 7 _ _ tt tt tt tt tt tt tt tt c.half_g8-6.ensures.wide (c.requires.message.1 5 (lit< tt))

pub half_g8-requires-8 : goal.half_g8-requires-8
half_g8-requires-8 c =
    allowed 3 7 11 15 8 7 _ _ tt tt tt tt tt tt tt tt c.half_g8-7.ensures.wide (c.requires.message.1 7 (lit< tt))

pub half_g8-requires-9 : goal.half_g8-requires-9
half_g8-requires-9 c =
    allowed 0 5 10 15 16 12 _ _ tt tt tt tt tt tt tt tt c.half_g8-8.ensures.wide (c.requires.message.1 8 (lit< tt))

pub half_g8-requires-10 : goal.half_g8-requires-10
half_g8-requires-10 c =
    allowed 1 6 11 12 16 12 _ _ tt tt tt tt tt tt tt tt c.half_g8-9.ensures.wide (c.requires.message.1 10 (lit< tt))

pub half_g8-requires-11 : goal.half_g8-requires-11
half_g8-requires-11 c =
    allowed 2 7 8 13 16 12 _ _ tt tt tt tt tt tt tt tt c.half_g8-10.ensures.wide (c.requires.message.1 12 (lit< tt))

pub half_g8-requires-12 : goal.half_g8-requires-12
half_g8-requires-12 c =
    allowed 3 4 9 14 16 12 _ _ tt tt tt tt tt tt tt tt c.half_g8-11.ensures.wide (c.requires.message.1 14 (lit< tt))

pub half_g8-requires-13 : goal.half_g8-requires-13
half_g8-requires-13 c =
    allowed 0 5 10 15 8 7 _ _ tt tt tt tt tt tt tt tt c.half_g8-12.ensures.wide (c.requires.message.1 9 (lit< tt))

pub half_g8-requires-14 : goal.half_g8-requires-14
half_g8-requires-14 c =
    allowed 1 6 11 12 8 7 _ _ tt tt tt tt tt tt tt tt c.half_g8-13.ensures.wide (c.requires.message.1 11 (lit< tt))

pub half_g8-requires-15 : goal.half_g8-requires-15
half_g8-requires-15 c =
    allowed 2 7 8 13 8 7 _ _ tt tt tt tt tt tt tt tt c.half_g8-14.ensures.wide (c.requires.message.1 13 (lit< tt))

pub half_g8-requires-16 : goal.half_g8-requires-16
half_g8-requires-16 c =
    allowed 3 4 9 14 8 7 _ _ tt tt tt tt tt tt tt tt c.half_g8-15.ensures.wide (c.requires.message.1 15 (lit< tt))
