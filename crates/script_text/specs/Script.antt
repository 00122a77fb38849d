-- What a script says. A line is read as what it adds to the script, or as the number of the least rule that it breaks:
-- 1   a byte is neither printable ASCII nor a tab
-- 2   the first word, or the second behind `xdp-loader`, `xdp-filter` or `xdpdump`, is none of those below
-- 3   words are missing or too many, or an option is unknown, has no value or stands twice
-- 4   a number isn't 1 to 20 digits, or is out of its range
-- 5   an interface name isn't 1 to 15 letters, digits, `.`, `_` and `-`
-- 6   an `interface` line stands behind a line of another kind
-- 7   an interface name is declared twice
-- 8   there are more than 8 interfaces, or more than 8 queues in all
-- 9   a hand-in names no declared interface, or no queue of it
-- 10  a frame isn't pairs of hexadecimal digits, of 14 to 15,872 bytes
-- 11  a choice or a list has a word that is none of its words, an empty word, or a word twice; a list of names has more
--     than ten, or a name of more than 128 bytes
-- 12  an address isn't in its form
-- 13  an unload of `xdp-loader` asks for one member and for all, or for neither
use Rattle.std.specs.Prelude.{◌≡◌, ℕ, ◌+◌, ◌==◌, ◌||◌, Bool, not, nat_lt, List, [], ◌∷◌, ◌++◌, length, codes, Option, Some, None, Result, Ok, Err, if◌then◌else◌, ⊤}
use Rattle.std.specs.List.{list_all}
use Rattle.std.specs.Str.{bytes_eq}
use Rattle.std.specs.Str.Lines.{lines}
use Rattle.xdp_state.specs.declared.command.Command.{Command}
use Rattle.xdp_state.specs.declared.command.Command.TheVariants as command
use Rattle.xdp_state.specs.declared.interface.Interface.{Interface}
use Rattle.script_text.specs.Dump.{setting_of, stop_of}
use Rattle.script_text.specs.Filter.{filter_line}
use Rattle.script_text.specs.Interfaces.{interface_of, packet_of}
use Rattle.script_text.specs.Loader.{loader_command}
use Rattle.script_text.specs.Objects.{objects_with}
use Rattle.script_text.specs.Options.{Arranged, arranged, dump_verb_of, loader_verb_of}
use Rattle.script_text.specs.Readings.{◌>>=◌, found}
use Rattle.script_text.specs.Words.{words_of, is_comment, is_option, is_printable}
use Rattle.script_text.specs.declared.options.Verb.{Verb}
use Rattle.script_text.specs.declared.options.Verb.TheVariants as verb
use Rattle.script_text.specs.declared.script.Script.{Script}
use Rattle.script_text.specs.declared.script.ScriptEnd.{ScriptEnd}
use Rattle.script_text.specs.declared.script.ScriptEnd.TheVariants.{BadScript, TooManyLines, OutOfMemory}
use Rattle.script_text.specs.declared.what.What.{What}
use Rattle.script_text.specs.declared.what.What.TheVariants as what

-- the script with one more interface, and with one more line
abbrev pub with_interface : Script → List ℕ → ℕ → Result Script ℕ
with_interface script name queues =
    Ok (record script { interfaces = script.interfaces ++ record { name = name; queues = queues } ∷ [] })

abbrev pub with_line : Script → ℕ → What → Result Script ℕ
with_line script number what = Ok (record script { lines = script.lines ++ record { line = number; what = what } ∷ [] })

-- `interface NAME QUEUES`, by the words behind the first
unfoldable pub interface_line : Script → List (List ℕ) → Result Script ℕ
interface_line script (name ∷ queues ∷ []) =
    if is_option name || is_option queues then Err 3
    else interface_of script.interfaces (length script.lines == 0) name queues >>= with_interface script name
interface_line script _ = Err 3

-- a line of `xdp-loader`; a load names its object for the first time, or once more
unfoldable pub loader_line : Script → ℕ → List (List ℕ) → Result Script ℕ
loader_line script number [] = Err 3
loader_line script number (verb ∷ words) =
    found 2 (loader_verb_of verb) >>= λ verb. arranged verb words >>= λ words. loader_command script.objects verb words >>= λ command.
    with_line (record script { objects = objects_with script.objects words.plain.second }) number (what.Command command)

-- the start of a dump on the interface of a name; each has a setting of its own
unfoldable pub start_line : Script → ℕ → Arranged → List ℕ → Result Script ℕ
start_line script number words name =
    setting_of words.given words.plain name >>= λ setting.
    with_line (record script { dumps = script.dumps ++ setting ∷ [] }) number
    (what.Command (command.DumpStart name (length script.dumps)))

abbrev pub dump_command : Script → ℕ → Verb → Arranged → Option (List ℕ) → Option (List ℕ) → Result Script ℕ
dump_command script number verb.DumpStart words (Some name) None = start_line script number words name
dump_command script number verb.DumpStop words (Some name) None =
    stop_of name >>= λ command. with_line script number (what.Command command)
dump_command script number _ words _ _ = Err 3

-- a line of `xdpdump`
unfoldable pub dump_line : Script → ℕ → List (List ℕ) → Result Script ℕ
dump_line script number [] = Err 3
dump_line script number (verb ∷ words) =
    found 2 (dump_verb_of verb) >>= λ verb. arranged verb words >>= λ words.
    dump_command script number verb words words.plain.first words.plain.second

-- `packet NAME QUEUE HEX`
unfoldable pub packet_line : List Interface → List (List ℕ) → Result What ℕ
packet_line interfaces (name ∷ queue ∷ digits ∷ []) =
    if is_option name || is_option queue || is_option digits then Err 3
    else packet_of interfaces name queue digits
packet_line interfaces _ = Err 3

-- `barrier`
abbrev pub barrier_line : List (List ℕ) → Result What ℕ
barrier_line [] = Ok what.Barrier
barrier_line _ = Err 3

abbrev pub as_command : Command → Result What ℕ
as_command command = Ok (what.Command command)

-- what a line asks, by its first word and those behind it
unfoldable pub what_of : List Interface → List ℕ → List (List ℕ) → Result What ℕ
what_of interfaces command words =
    if bytes_eq command (codes "xdp-filter") then filter_line words >>= as_command
    else if bytes_eq command (codes "packet") then packet_line interfaces words
    else if bytes_eq command (codes "barrier") then barrier_line words
    else Err 2

-- blank lines and comments are passed over, and no rule is tested on them
abbrev pub read_words : Script → ℕ → Bool → List (List ℕ) → Result Script ℕ
read_words script number printable [] = Ok script
read_words script number printable (command ∷ words) =
    if is_comment command then Ok script
    else if not printable then Err 1
    else if bytes_eq command (codes "interface") then interface_line script words
    else if bytes_eq command (codes "xdp-loader") then loader_line script number words
    else if bytes_eq command (codes "xdpdump") then dump_line script number words
    else what_of script.interfaces command words >>= with_line script number

-- the script with what the line of the number says
unfoldable pub read_line : Script → ℕ → List ℕ → Result Script ℕ
read_line script number line = read_words script number (list_all is_printable line) (words_of line)

-- the line's number beside the rule that it breaks
abbrev pub at_line : {A : Type 0} → ℕ → Result A ℕ → Result A ScriptEnd
at_line number (Ok x) = Ok x
at_line number (Err rule) = Err (BadScript number rule)

-- the script with the lines from the number on, or the first bad line
abbrev pub read_lines : Script → ℕ → List (List ℕ) → Result Script ScriptEnd
read_lines script number [] = Ok script
read_lines script number (line ∷ more) =
    at_line number (read_line script number line) >>= λ script. read_lines script (number + 1) more

abbrev pub no_script : Script
no_script = record { interfaces = []; objects = []; dumps = []; lines = [] }

-- The script of some bytes. It has at most 65,536 lines, which end with a line feed that the last may lack; a carriage
-- return before the line feed is dropped.
unfoldable pub script_of : List ℕ → Result Script ScriptEnd
script_of bytes =
    if nat_lt 65536 (length (lines bytes)) then Err TooManyLines
    else read_lines no_script 1 (lines bytes)

-- why a script of so many lines isn't taken, the first of whose bad lines has this number
abbrev pub bad_script : ℕ → ℕ → ℕ → ScriptEnd
bad_script line rule count = if nat_lt 65536 count then TooManyLines else BadScript line rule

-- A result is the one that is wanted; only want of memory is free.
abbrev pub Agrees : Result Script ScriptEnd → Result Script ScriptEnd → Type 0
Agrees (Err OutOfMemory) wanted = ⊤
Agrees result wanted = wanted ≡ result
