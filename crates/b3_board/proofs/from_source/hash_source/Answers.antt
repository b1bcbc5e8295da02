use Rattle.std.proofs.Common.{ℕ, ◌≤◌, ap, arith, inl, subst, sym, ◌∙◌, refl}
use Rattle.std.proofs.Math.Nat.{le_trans}
use Rattle.std.proofs.lemmas.Result.{IfErr-weaker}
use Rattle.std.specs.Int.{div_ceil}
use Rattle.b3_board.specs.Plans.{IsCutting}
use Rattle.b3_board.proofs.Cuttings.{power_some}
use Rattle.b3_board.proofs.from_source.hash_source.Goals as goal

pub invariant_of-plan : goal.invariant_of-plan
invariant_of-plan g c =
    record {
      few = c.if-len.false;
      low = c.requires.low;
      end = c.requires.end;
      there = c.requires.there;
      small = (c.if-not-is_grain.ensures.0 refl).1;
      cutting = subst (λ (n : ℕ). IsCutting n c.in_ok-spans.spans.items) c.chunks-size.ensures c.in_ok-spans.ensures.cutting;
      few_spans = subst (λ (n : ℕ). n ≤ 1024) (c.div_ceil.ensures ∙ sym c.in_ok-spans.ensures.len) c.if-div_ceil-gt-MAX_SPANS.false;
      few_a_span = c.in_ok-spans.ensures.each;
    }

pub returns-clause-sure : goal.returns-clause-sure
returns-clause-sure g c = λ sure long. c.hash_source_on.ensures.sure sure

pub grain_spans-requires-clause-grain : goal.grain_spans-requires-clause-grain
grain_spans-requires-clause-grain g c = c.if-not-is_grain.ensures.0 refl

pub returns-then-buffer-piece_len-clause-sure : goal.returns-then-buffer-piece_len-clause-sure
returns-then-buffer-piece_len-clause-sure g c = λ sure long.
    absurd (omega (arith, c.piece_len.ensures.whole_span, c.if-buffer-piece_len.true, long))

pub div_ceil-requires : goal.div_ceil-requires
div_ceil-requires g c = power_some _ (c.if-not-is_grain.ensures.0 refl).0

pub returns-clause-root : goal.returns-clause-root
returns-clause-root g c = c.hash_source_on.ensures.root

pub returns-clause-all : goal.returns-clause-all
returns-clause-all g c = c.hash_source_on.ensures.all

pub returns-clause-shares : goal.returns-clause-shares
returns-clause-shares g c = c.hash_source_on.ensures.shares

pub hash_source_on-requires-clause-few : goal.hash_source_on-requires-clause-few
hash_source_on-requires-clause-few g c = λ κs lives. (c.if-not-is_worker_count.ensures.0 refl).1

pub hash_source_on-requires-clause-some : goal.hash_source_on-requires-clause-some
hash_source_on-requires-clause-some g c = λ κs lives. (c.if-not-is_worker_count.ensures.0 refl).0

pub hash_source_on-requires-clause-buffer : goal.hash_source_on-requires-clause-buffer
hash_source_on-requires-clause-buffer g c = λ κs lives.
    let some = power_some _ (c.if-not-is_grain.ensures.0 refl).0 in
    le_trans (c.piece_len.ensures.chunk some) c.if-buffer-piece_len.false

pub returns-clause-claimed : goal.returns-clause-claimed
returns-clause-claimed g c =
    let count = c.in_ok-spans.ensures.len ∙ ap (λ n. div_ceil n c.args.grain) c.chunks-size.ensures in
    rw count at c.hash_source_on.ensures.claimed

pub returns-clause-only : goal.returns-clause-only
returns-clause-only g c = IfErr-weaker c.hash_source_on.result _ _ (λ fault is. inl is) c.hash_source_on.ensures.only
