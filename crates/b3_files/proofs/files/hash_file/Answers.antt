use Rattle.std.proofs.Common.{◌≡◌, ◌+◌, ◌++◌, ◌∙◌, ◌<◌, ◌≤◌, ℕ, List, ap, refl, length, take, drop, length-drop, length-take, arith}
use Rattle.std.proofs.lemmas.List.{length-take-le, take_all}
use Rattle.std.proofs.lemmas.Bool.{false≢true}
use Rattle.b3_files.proofs.Filling.{taken_more}
use Rattle.b3_files.proofs.files.hash_file.Goals as goal

-- all bytes of a content, where fewer are given than there is room for
taken_all : (content so_far given : List ℕ) (offset n : ℕ) → so_far ≡ take offset content
    → given ≡ take n (drop offset content) → length given < n → so_far ++ given ≡ content
taken_all content so_far given offset n is more short =
    let few : length content ≤ offset + n =
    omega (
      arith,
      ap (λ (bytes : List ℕ). length bytes) more,
      length-take n (drop offset content),
      length-drop offset content,
      short,
    ) in
    taken_more content so_far given offset n (offset + n) is more refl ∙ take_all (offset + n) content few

pub loop-preserved : goal.loop-preserved
loop-preserved g c =
    let so_far = c.loop.invariant in
    let count = c.in-Some.count in
    let consumed = take count c.fill_at.new.buffer in
    let next : c.in-Some-checked_add.next ≡ c.loop.offset + length c.loop.buffer =
    omega (arith, c.in-Some-checked_add.ensures.1, c.in-Some.ensures.within, c.fill_at.ensures.len, c.if-count-buffer.false) in
    record {
      content = so_far.content ++ consumed;
      stands = c.in-Ok.ensures.ok so_far.content so_far.stands;
      is = λ tells. taken_more _ so_far.content consumed c.loop.offset (length c.loop.buffer) _ (so_far.is tells)
          (c.in-Some.ensures.bytes tells) next;
      mode = c.update.ensures.mode ∙ so_far.mode;
      len = c.fill_at.ensures.len ∙ so_far.len;
    }

pub returns-in-Some-checked_add : goal.returns-in-Some-checked_add
returns-in-Some-checked_add g c = record {
  len = c.fill_at.ensures.len ∙ c.loop.invariant.len;
  mode = c.update.ensures.mode ∙ c.loop.invariant.mode;
  stands = λ no. absurd (false≢true no);
  content = λ _ no. absurd (false≢true no);
}

pub returns-in_default-checked_add : goal.returns-in_default-checked_add
returns-in_default-checked_add g c = record {
  len = c.fill_at.ensures.len ∙ c.loop.invariant.len;
  mode = c.update.ensures.mode ∙ c.loop.invariant.mode;
  stands = λ no. absurd (false≢true no);
  content = λ _ no. absurd (false≢true no);
}

pub returns-in_default-update : goal.returns-in_default-update
returns-in_default-update g c = record {
  len = c.fill_at.ensures.len ∙ c.loop.invariant.len;
  mode = c.update.ensures.mode ∙ c.loop.invariant.mode;
  stands = λ no. absurd (false≢true no);
  content = λ _ no. absurd (false≢true no);
}

pub returns-in_default : goal.returns-in_default
returns-in_default g c = record {
  len = c.fill_at.ensures.len ∙ c.loop.invariant.len;
  mode = c.loop.invariant.mode;
  stands = λ no. absurd (false≢true no);
  content = λ _ no. absurd (false≢true no);
}

pub returns-then-count-buffer : goal.returns-then-count-buffer
returns-then-count-buffer g c =
    let so_far = c.loop.invariant in
    let given = take c.in-Some.count c.fill_at.new.buffer in
    let stands = c.in-Ok.ensures.ok so_far.content so_far.stands in
    let count : length given ≡ c.in-Some.count =
    length-take-le c.in-Some.count c.fill_at.new.buffer (omega (arith, c.in-Some.ensures.within, c.fill_at.ensures.len)) in
    record {
      len = c.fill_at.ensures.len ∙ so_far.len;
      mode = c.update.ensures.mode ∙ so_far.mode;
      stands = λ _. record { content = so_far.content ++ given; has = tt; stands = stands };
      content = λ tells _.
          rw (taken_all _ so_far.content given c.loop.offset (length c.loop.buffer) (so_far.is tells)
          (c.in-Some.ensures.bytes tells) (omega (arith, count, c.if-count-buffer.true, c.fill_at.ensures.len))) at stands;
    }
