use Rattle.std.proofs.Common.{◌≡◌, false, min, ◌==◌, ℕ, ◌+◌, ◌-◌, ◌<◌, ◌≤◌, List, ◌++◌, length, take, drop, refl, sym, ◌∙◌, ap, length-append, length-take, arith}
use Rattle.std.proofs.lemmas.List.{drop-drop, length-take-le, take-append-le, take_all}
use Rattle.std.proofs.lemmas.Bool.Decides.{nat_tests}
use Rattle.std.proofs.Math.Seq.{take-append-add}
use Rattle.b3_files.proofs.Filling.{none_given, taken_more}
use Rattle.b3_files.proofs.input.InputFile.fill_at.Goals as goal

-- a front that is not filled has all that is left
front_alone : (rest front back : List ℕ) (n seam all : ℕ) → n < seam → seam ≤ all → n ≤ length front
    → take n front ≡ take seam rest → take n (front ++ back) ≡ take all rest
front_alone rest front back n seam all short within fits is =
    let count : length (take seam rest) ≡ n = ap (λ (bytes : List ℕ). length bytes) (sym is) ∙ length-take-le n front fits in
    let few : length rest ≤ seam = omega (arith, count, length-take seam rest, short) in
    take-append-le n front back fits ∙ is ∙ take_all seam rest few
    ∙ sym (take_all all rest (omega (arith, few, within)))

-- a front that is filled, and what stands behind it
front_and_back : (rest front back : List ℕ) (n seam all : ℕ) → seam ≤ all → length front ≡ seam → n ≤ length back
    → take seam front ≡ take seam rest → take n back ≡ take (all - seam) (drop seam rest)
    → take (seam + n) (front ++ back) ≡ take all rest
front_and_back rest front back n seam all within size fits is behind =
    let first : front ≡ take seam rest = sym (take_all seam front (omega (arith, size))) ∙ is in
    ap (λ k. take (k + n) (front ++ back)) (sym size) ∙ take-append-add front back n
    ∙ taken_more rest front (take n back) seam (all - seam) all first behind (omega (arith, within))

-- the same bytes of a content, by other words
said_so : (content bytes : List ℕ) (n m a b : ℕ) → bytes ≡ take n (drop a content) → n ≡ m → a ≡ b
    → bytes ≡ take m (drop b content)
said_so content bytes n m a b is count offset =
    is ∙ ap (λ k. take k (drop a content)) count ∙ ap (λ k. take m (drop k content)) offset

-- two parts of a buffer, each as long as it was
parts_len : (front back : List ℕ) (seam all : ℕ) → length front ≡ seam → length back + seam ≡ all
    → length (front ++ back) ≡ all
parts_len front back seam all size others = omega (arith, length-append front back)

-- how many bytes there are, in the front or in both parts
front_within : (n seam others all : ℕ) → n < seam → others + seam ≡ all → n ≤ all
front_within n seam others all short parts = omega arith

both_within : (n seam others all : ℕ) → n ≤ others → others + seam ≡ all → seam + n ≤ all
both_within n seam others all within parts = omega arith

some_front : (seam all size : ℕ) → false ≡ (all == 0) → seam ≡ min all 65536 → size ≡ seam → 0 < size
some_front seam all size some front is = grind (arith, nat_tests)

pub returns-then-in_front-seam : goal.returns-then-in_front-seam
returns-then-in_front-seam g c =
    let content = g.P.Stream.content c.args.self.now.file in
    let start = c.args.self.now.start + c.args.offset in
    let seam = c.min-seam.result in
    let all = length c.args.buffer.now in
    let parts = c.split_at_mut-front.ensures in
    let fits : c.in_ok-in_front.in_front ≤ length c.fill_at-2.new.buffer =
    omega (arith, c.in_ok-in_front.ensures.within, c.fill_at-2.ensures.len) in
    let within : seam ≤ all = omega (arith, parts.back_len) in
    let count = c.move_on.ensures.len ∙ parts.front_len in
    record {
      len = parts_len _ _ seam all (c.fill_at-2.ensures.len ∙ count)
          (ap (λ n. n + seam) c.fill_at.ensures.len ∙ parts.back_len);
      within = front_within _ seam _ all c.if-in_front-seam.true parts.back_len;
      bytes = λ tells.
          front_alone (drop start content) c.fill_at-2.new.buffer c.fill_at.new.buffer c.in_ok-in_front.in_front seam all
          c.if-in_front-seam.true within fits
          (said_so content _ _ seam _ start (c.in_ok-in_front.ensures.bytes tells) count c.in_ok-start.ensures.1);
    }

pub returns : goal.returns
returns g c =
    let content = g.P.Stream.content c.args.self.now.file in
    let start = c.args.self.now.start + c.args.offset in
    let seam = c.min-seam.result in
    let all = length c.args.buffer.now in
    let parts = c.split_at_mut-front.ensures in
    let within : seam ≤ all = omega (arith, parts.back_len) in
    let count = c.move_on.ensures.len ∙ parts.front_len in
    let size = c.fill_at-2.ensures.len ∙ count in
    let fits : c.in_ok-in_back.in_back ≤ length c.fill_at.new.buffer =
    omega (arith, c.in_ok-in_back.ensures.within, c.fill_at.ensures.len) in
    -- the test is not named, so that a wrong one is refused here
    let filled : seam ≡ c.in_ok-in_front.in_front = omega (arith, c.in_ok-in_front.ensures.within, count) in
    let offset = c.in_ok-start.ensures.1 in
    let behind = c.in_ok-checked_add.ensures.1 ∙ ap (λ k. k + seam) offset in
    let others : length c.split_at_mut-front.result.1.now ≡ all - seam = omega (arith, parts.back_len) in
    record {
      len = parts_len _ _ seam all size (ap (λ n. n + seam) c.fill_at.ensures.len ∙ parts.back_len);
      within = both_within _ _ _ all c.in_ok-in_back.ensures.within parts.back_len;
      bytes = λ tells.
          let in_front = said_so content _ _ seam _ start (c.in_ok-in_front.ensures.bytes tells) count offset in
          let in_back =
          said_so content _ _ (all - seam) _ (start + seam) (c.in_ok-in_back.ensures.bytes tells) others behind in
          front_and_back (drop start content) c.fill_at-2.new.buffer c.fill_at.new.buffer c.in_ok-in_back.in_back seam all
          within size fits (ap (λ k. take k c.fill_at-2.new.buffer) filled ∙ in_front)
          (in_back ∙ ap (take (all - seam)) (sym (drop-drop seam start content)));
    }

pub move_on-requires : goal.move_on-requires
move_on-requires g c =
    let front = c.split_at_mut-front.ensures.front_len in
    record { buffer = some_front _ _ _ c.if-is_empty.ensures c.min-seam.ensures front }

pub returns-in_err-checked_add : goal.returns-in_err-checked_add
returns-in_err-checked_add g c =
    let parts = c.split_at_mut-front.ensures in
    record {
      len = parts_len _ _ c.min-seam.result _ parts.front_len parts.back_len;
      within = none_given _ _ c.from_residual-in_err-checked_add.ensures;
      bytes = λ _. none_given _ _ c.from_residual-in_err-checked_add.ensures;
    }

pub returns-in_err-in_back : goal.returns-in_err-in_back
returns-in_err-in_back g c =
    let parts = c.split_at_mut-front.ensures in
    record {
      len = parts_len _ _ c.min-seam.result _ parts.front_len
          (ap (λ n. n + c.min-seam.result) c.fill_at.ensures.len ∙ parts.back_len);
      within = none_given _ _ c.from_residual-in_err-in_back.ensures;
      bytes = λ _. none_given _ _ c.from_residual-in_err-in_back.ensures;
    }

pub returns-in_err-move_on : goal.returns-in_err-move_on
returns-in_err-move_on g c =
    let parts = c.split_at_mut-front.ensures in
    record {
      len = parts_len _ _ c.min-seam.result _ (c.move_on.ensures.len ∙ parts.front_len)
          (ap (λ n. n + c.min-seam.result) c.fill_at.ensures.len ∙ parts.back_len);
      within = none_given _ _ c.from_residual-in_err-move_on.ensures;
      bytes = λ _. none_given _ _ c.from_residual-in_err-move_on.ensures;
    }

pub returns-in_err-in_front : goal.returns-in_err-in_front
returns-in_err-in_front g c =
    let parts = c.split_at_mut-front.ensures in
    record {
      len = parts_len _ _ c.min-seam.result _ (c.fill_at-2.ensures.len ∙ (c.move_on.ensures.len ∙ parts.front_len))
          (ap (λ n. n + c.min-seam.result) c.fill_at.ensures.len ∙ parts.back_len);
      within = none_given _ _ c.from_residual-in_err-in_front.ensures;
      bytes = λ _. none_given _ _ c.from_residual-in_err-in_front.ensures;
    }

pub returns-in_err-start : goal.returns-in_err-start
returns-in_err-start g c = record {
  len = refl;
  within = none_given _ _ c.from_residual.ensures;
  bytes = λ _. none_given _ _ c.from_residual.ensures;
}
