use Rattle.std.proofs.Common.{ℕ, ◌≡◌, ◌≤◌, map, length, rules, arith, sym, subst, ap, ◌∙◌}
use Rattle.std.specs.Int.{div_ceil}
use Rattle.std.specs.List.{All, range_with_len}
use Rattle.std.proofs.lemmas.List.Elements.{All-map}
use Rattle.std.proofs.lemmas.List.FromFn.{length-map-range_with_len, map-range_with_len_more}
use Rattle.b3_core.specs.declared.spans.Span.{Span}
use Rattle.b3_board.specs.Plans.{IsCutting, grain_span}
use Rattle.b3_board.proofs.Cuttings.{below_ceil, grain_cutting, power_some}
use Rattle.b3_board.proofs.cutting.grain_spans.Goals as goal

pub loop-i-preserved : goal.loop-i-preserved
loop-i-preserved c =
    c.in_ok-push.ensures.items
    ∙ search (
      rules,
      c.min.ensures,
      c.loop-i.invariant,
      map-range_with_len_more (grain_span c.args.n c.args.grain) 0 c.loop-i.i c.loop-i.i (omega arith),
    )

pub returns-clause-spans : goal.returns-clause-spans
returns-clause-spans c =
    let count : c.loop-i.i ≡ div_ceil c.args.n c.args.grain = omega (
      arith,
      c.loop-i-test.false,
      c.loop-i.auto,
      c.div_ceil-count.ensures,
    ) in
    c.loop-i.invariant ∙ ap (λ (i : ℕ). map (grain_span c.args.n c.args.grain) (range_with_len 0 i)) count

pub returns-clause-cutting : goal.returns-clause-cutting
returns-clause-cutting c =
    subst (IsCutting c.args.n) (sym (returns-clause-spans c))
    (grain_cutting c.args.n c.args.grain c.requires.some c.requires.grain.0)

pub returns-clause-len : goal.returns-clause-len
returns-clause-len c =
    let count : c.loop-i.i ≡ div_ceil c.args.n c.args.grain = omega (
      arith,
      c.loop-i-test.false,
      c.loop-i.auto,
      c.div_ceil-count.ensures,
    ) in
    ap length c.loop-i.invariant ∙ length-map-range_with_len (grain_span c.args.n c.args.grain) 0 c.loop-i.i ∙ count

pub returns-clause-each : goal.returns-clause-each
returns-clause-each c =
    subst (All (λ (s : Span). s.count ≤ c.args.grain)) (sym c.loop-i.invariant)
    (All-map (λ (s : Span). s.count ≤ c.args.grain) (grain_span c.args.n c.args.grain) (range_with_len 0 c.loop-i.i)
    (λ k d lt. omega arith))

pub overflow_mul-first : goal.overflow_mul-first
overflow_mul-first c =
    let below = below_ceil c.args.n c.args.grain c.loop-i.i (power_some _ c.requires.grain.0)
    (rw c.div_ceil-count.ensures at c.loop-i-test.true) in
    omega (arith, below, c.requires.few)

pub overflow_sub-n : goal.overflow_sub-n
overflow_sub-n c =
    let below = below_ceil c.args.n c.args.grain c.loop-i.i (power_some _ c.requires.grain.0)
    (rw c.div_ceil-count.ensures at c.loop-i-test.true) in
    omega (arith, below)
