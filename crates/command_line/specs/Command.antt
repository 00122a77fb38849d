-- The command in the words of `clap`: three options that take one value, one positional word, no help flag, and no program's
-- name before the words.
use Rattle.std.specs.Prelude.{true, Some, codes}
use Rattle.clap.specs.Simple.{App, new_app, new_rule, on_top, with_rule}
use Rattle.clap.specs.Walk.{Rule}
use Rattle.command_line.specs.Words.{Text}

abbrev pub option_rule : Text → Rule
option_rule name = record (new_rule name) { long = Some name }

abbrev pub empty_command : App
empty_command = on_top (λ shape. record shape { no_binary_name = true; disable_help_flag = true }) (new_app (codes "xdptool"))

unfoldable pub command : App
command = with_rule (with_rule (with_rule (with_rule empty_command (option_rule (codes "capture")))
    (option_rule (codes "trace"))) (option_rule (codes "replay"))) (new_rule (codes "script"))
