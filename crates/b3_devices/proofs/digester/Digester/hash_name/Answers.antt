use Rattle.std.proofs.Common.{◌∙◌, ap, rules, subst, sym}
use Rattle.b3_core.specs.Output.{output_bytes}
use Rattle.b3_hash.specs.Readers.{Reader}
use Rattle.b3_io.specs.Contents.{HasContent}
use Rattle.b3_io.specs.Reading.{IsOutputOf}
use Rattle.b3_io.specs.Scripts.Kind.{Hashed}
use Rattle.b3_io.specs.declared.shelf.NoContent.TheVariants.{CannotRead}
use Rattle.b3_io.proofs.ReadLemmas.{agrees_failed, agrees_lacking, digest_none, digest_whole}
use Rattle.b3_devices.proofs.digester.Digester.hash_name.Goals as goal

pub returns-clause-digest : goal.returns-clause-digest
returns-clause-digest g c =
    let told = g.S.Shelf.told c.args.shelf.now in
    let left = g.S.Shelf.left c.begin.new.self in
    let range = c.args.self.now.range in
    let has : HasContent told c.args.name.now left = search rules in
    let read = rw c.in-Some.is at c.in_ok-output.ensures.whole in
    let is_output = subst (λ t. IsOutputOf t left range.mode c.in-Some.output) c.begin.ensures.told read in
    digest_whole told (g.S.Shelf.is_sure c.args.shelf.now) c.args.name.now left range c.in-Some.output
    c.take_digest.new.self.digest.items has is_output
    (λ content is. (rw c.hash_rest.ensures.range at c.take_digest.ensures.digest)
    ∙ ap (λ (r : Reader). output_bytes r.node range.seek range.length) is)

pub returns-in-Err-clause-digest : goal.returns-in-Err-clause-digest
returns-in-Err-clause-digest g c =
    let lacks = rw c.in-Err.is at c.begin.ensures.why in
    digest_none _ _ _ _ c.in-Err.why (agrees_lacking _ _ Hashed _ c.in-Err.why lacks)

pub returns-in_default-2-clause-digest : goal.returns-in_default-2-clause-digest
returns-in_default-2-clause-digest g c =
    let failed = rw c.in_default-2.is at c.in_ok-output.ensures.whole in
    digest_none _ _ _ _ CannotRead (agrees_failed _ _ Hashed _ (sym c.begin.ensures.still_sure ∙ failed))

pub returns-clause-told : goal.returns-clause-told
returns-clause-told g c = c.hash_rest.ensures.told ∙ c.begin.ensures.told

pub returns-clause-still_sure : goal.returns-clause-still_sure
returns-clause-still_sure g c = c.hash_rest.ensures.still_sure ∙ c.begin.ensures.still_sure

pub returns-clause-range : goal.returns-clause-range
returns-clause-range g c = c.take_digest.ensures.range ∙ c.hash_rest.ensures.range

pub returns-in_default-2-clause-told : goal.returns-in_default-2-clause-told
returns-in_default-2-clause-told g c = c.hash_rest.ensures.told ∙ c.begin.ensures.told

pub returns-in_default-2-clause-still_sure : goal.returns-in_default-2-clause-still_sure
returns-in_default-2-clause-still_sure g c = c.hash_rest.ensures.still_sure ∙ c.begin.ensures.still_sure
