use Rattle.std.proofs.Common.{ap, codes, ◌∙◌}
use Rattle.std.proofs.lemmas.Result.{IfOk-weaker}
use Rattle.clap.specs.Simple.{new_rule}
use Rattle.clap.specs.declared.builder.arg.Arg.{Arg}
use Rattle.command_line.specs.Command.{command, empty_command, option_rule}
use Rattle.command_line.proofs.Made.{option_made, rule_added, without_flags}
use Rattle.command_line.proofs.parsing.command.Goals as goal

pub returns : goal.returns
unfolding command
returns c =
    let bare = without_flags c.new.result c.no_binary_name.result c.disable_help_flag.result c.new.ensures.app c.no_binary_name.ensures
    c.disable_help_flag.ensures in
    let one = rule_added c.disable_help_flag.result c.in_ok-arg.field-0 c.long.result empty_command (option_rule (codes "capture"))
    c.in_ok-arg.ensures (ap (λ (a : Arg). a.global) c.long.ensures ∙ c.new-2.ensures.optional.1) bare
    (option_made c.new-2.result c.long.result _ c.new-2.ensures.rule c.long.ensures) in
    let two = rule_added c.in_ok-arg.field-0 c.in_ok-arg-2.field-0 c.long-2.result _ (option_rule (codes "trace"))
    c.in_ok-arg-2.ensures (ap (λ (a : Arg). a.global) c.long-2.ensures ∙ c.new-3.ensures.optional.1) one
    (option_made c.new-3.result c.long-2.result _ c.new-3.ensures.rule c.long-2.ensures) in
    let three = rule_added c.in_ok-arg-2.field-0 c.in_ok-arg-3.field-0 c.long-3.result _ (option_rule (codes "replay"))
    c.in_ok-arg-3.ensures (ap (λ (a : Arg). a.global) c.long-3.ensures ∙ c.new-4.ensures.optional.1) two
    (option_made c.new-4.result c.long-3.result _ c.new-4.ensures.rule c.long-3.ensures) in
    IfOk-weaker c.arg-4.result _ _
    (λ made added. rule_added c.in_ok-arg-3.field-0 made c.new-5.result _ (new_rule (codes "script")) added c.new-5.ensures.optional.1 three
    c.new-5.ensures.rule) c.arg-4.ensures
