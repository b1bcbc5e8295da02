-- What `clap` reads of a command with one more argument.
use Rattle.std.proofs.Common.{◌≡◌, ◌∙◌, Bool, true, false, ◌&&◌, ap, ap₂, not, is_some}
use Rattle.clap.proofs.SimpleLemmas.{is_false}
use Rattle.clap.specs.Built.{AddsArg}
use Rattle.clap.specs.Simple.{App, app_of, with_rule}
use Rattle.clap.specs.Walk.{Rule, is_empty, rule_of}
use Rattle.clap.specs.declared.builder.arg.Arg.{Arg}
use Rattle.clap.specs.declared.builder.command.Command.{Command}

right_of : (a b : Bool) → (a && b) ≡ true → b ≡ true
right_of true b both = both
right_of false b both = cc

local_of : (a : Arg) → (rule_of a).is_simple ≡ true → a.global ≡ false
local_of a simple =
    let no_overrides = right_of (is_empty a.overrides.items) _ simple in
    let no_ifs = right_of (is_empty a.default_vals_ifs.items) _ no_overrides in
    let no_groups = right_of (is_empty a.groups.items) _ no_ifs in
    let no_delimiter = right_of (not (is_some a.val_delim)) _ no_groups in
    let no_terminator = right_of (not (is_some a.terminator)) _ no_delimiter in
    let no_hyphens = right_of (not a.allow_hyphen_values) _ no_terminator in
    let no_negatives = right_of (not a.allow_negative_numbers) _ no_hyphens in
    let no_equals = right_of (not a.require_equals) _ no_negatives in
    is_false a.global (right_of (not a.last) _ no_equals)

pub added : {old new : Command} {arg : Arg} {app : App} {rule : Rule} → AddsArg old arg new → rule.is_simple ≡ true
    → rule_of arg ≡ rule → app_of old ≡ app → app_of new ≡ with_rule app rule
added {old} {new} {arg} {app} {rule} adds simple read before =
    adds.shape (local_of arg (ap (λ (r : Rule). r.is_simple) read ∙ simple)) ∙ ap₂ with_rule before read
