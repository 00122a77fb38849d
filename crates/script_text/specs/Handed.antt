-- What holds of a script that is read.
use Rattle.std.specs.Prelude.{◌≡◌, ℕ, ◌≤◌, Bool, true, nat_lt, List, length}
use Rattle.std.specs.List.{list_all}
use Rattle.xdp_state.specs.Answer.{rule_fits}
use Rattle.script_text.specs.Frames.{has_frame_size}
use Rattle.script_text.specs.Interfaces.{queue_count}
use Rattle.script_text.specs.Words.{is_printable}
use Rattle.script_text.specs.declared.script.Script.{Script}
use Rattle.script_text.specs.declared.what.Line.{Line}
use Rattle.script_text.specs.declared.what.What.{What}
use Rattle.script_text.specs.declared.what.What.TheVariants as what

abbrev pub asks_frame : What → Bool
asks_frame (what.Packet processor frame) = has_frame_size frame
asks_frame _ = true

-- a line that hands in a packet has a frame of 14 to 15,872 bytes
abbrev pub has_frame : Line → Bool
has_frame line = asks_frame line.what

abbrev pub asks_processor : ℕ → What → Bool
asks_processor processors (what.Packet processor frame) = nat_lt processor processors
asks_processor processors _ = true

-- a line that hands in a packet names one of so many processors
abbrev pub has_processor : ℕ → Line → Bool
has_processor processors line = asks_processor processors line.what

abbrev pub asks_flags : What → Bool
asks_flags (what.Command command) = rule_fits command
asks_flags _ = true

-- a line with a rule has some flags of the rule's kind
abbrev pub has_flags : Line → Bool
has_flags line = asks_flags line.what

-- each name has printable bytes alone
abbrev pub are_printable : List (List ℕ) → Bool
are_printable names = list_all (λ name. list_all is_printable name) names

pub record IsSound (script : Script) : Type 0 where
  pub frames : list_all has_frame script.lines ≡ true
  pub processors : list_all (has_processor (queue_count script.interfaces)) script.lines ≡ true
  pub flags : list_all has_flags script.lines ≡ true
  pub interfaces : length script.interfaces ≤ 8
  pub objects : are_printable script.objects ≡ true
  pub queues : queue_count script.interfaces ≤ 8
