-- The command as it is made, in the words of `clap`.
use Rattle.std.proofs.Common.{◌≡◌, ℕ, false, true, List, Some, codes, ap, ap₂, ◌∙◌, Bor}
use Rattle.clap.specs.Built.{AddsArg}
use Rattle.clap.specs.Simple.{App, app_of, app_of_fields, new_app, new_rule, on_top, with_rule}
use Rattle.clap.specs.Walk.{Rule, rule_of}
use Rattle.clap.specs.declared.builder.arg.Arg.{Arg}
use Rattle.clap.specs.declared.builder.command.Command.{Command}
use Rattle.clap.specs.declared.builder.command.Command.TheOpen.{Command-F}
use Rattle.clap.specs.declared.builder.command.Command.TheViews.{out-Command}
use Rattle.command_line.specs.Command.{empty_command, option_rule}

pub without_flags : (new unnamed bare : Command) → app_of new ≡ new_app (codes "xdptool")
    → out-Command unnamed ≡ record (out-Command new) { no_binary_name = true }
    → out-Command bare ≡ record (out-Command unnamed) { disable_help_flag = true } → app_of bare ≡ empty_command
without_flags new unnamed bare made first second =
    ap app_of_fields second ∙ ap (λ (fields : Command-F Command). app_of_fields (record fields { disable_help_flag = true })) first
    ∙ ap (on_top (λ shape. record shape { no_binary_name = true; disable_help_flag = true })) made

pub rule_added : (old new : Command) (a : Arg) (app : App) (rule : Rule) → AddsArg old a new → a.global ≡ false → app_of old ≡ app
    → rule_of a ≡ rule → app_of new ≡ with_rule app rule
rule_added old new a app rule added local is rule_is = added.shape local ∙ ap₂ with_rule is rule_is

pub option_made : (new long : Arg) (name : Bor (List ℕ)) → rule_of new ≡ new_rule name.now → long ≡ record new { long = Some name }
    → rule_of long ≡ option_rule name.now
option_made new long name made is = ap rule_of is ∙ ap (λ (rule : Rule). record rule { long = Some name.now }) made
