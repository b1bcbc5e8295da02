use Rattle.std.proofs.Common.{◌++◌, ◌∙◌, ap, arith}
use Rattle.std.proofs.lemmas.Bool.{false_from_ne_true}
use Rattle.b3_lines.specs.Lines.{lines_of}
use Rattle.b3_lines.specs.Names.{escaped}
use Rattle.b3_lines.specs.Writing.{tagged_text}
use Rattle.b3_lines.proofs.OneLine.{HasNoLineFeed-tagged, lines_of-one}
use Rattle.b3_lines.proofs.ReadBack.{ReadsTagged-tagged}
use Rattle.b3_lines.proofs.Written.{tagged-written}
use Rattle.b3_lines.proofs.tagging.write_tagged.Goals as goal

pub returns-clause-written : goal.returns-clause-written
returns-clause-written c =
    let named = c.in_ok-push_name.ensures
    ∙ ap (λ t. c.extend_from_slice.new.self.items ++ escaped t) c.as_bytes.ensures.value in
    tagged-written c.args.digest.now c.args.name.now c.in_ok-line.line.items c.extend_from_slice.new.self.items
    c.push_name.new.line.items c.extend_from_slice-2.new.self.items c.push_digits.new.line.items
    c.push.new.self.items c.in_ok-line.ensures.begun c.in_ok-extend_from_slice.ensures.items named
    c.in_ok-extend_from_slice-2.ensures.items c.in_ok-push_digits.ensures c.in_ok-push.ensures.items

pub returns-clause-read_back : goal.returns-clause-read_back
returns-clause-read_back c count =
    let name = c.args.name.now in
    let digest = c.args.digest.now in (
      tagged_text digest name,
      returns-clause-written c,
      ReadsTagged-tagged digest name count (λ i. omega (arith, c.type_inv.digest i))
          (λ none. cc (c.in_ok-line.ensures.no_name.1 none))
          (false_from_ne_true _ (λ bad. cc (c.in_ok-line.ensures.bad_character.1 bad))) c.utf8.name,
    )

pub returns-clause-one_line : goal.returns-clause-one_line
returns-clause-one_line c =
    let digest = c.args.digest.now in
    let name = c.args.name.now in
    ap lines_of (returns-clause-written c) ∙ lines_of-one (tagged_text digest name) (HasNoLineFeed-tagged digest name)
