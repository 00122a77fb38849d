-- The printed texts. Numbers are decimal, and every line ends with a line feed.
use Rattle.std.specs.Prelude.{ℕ, List, ◌++◌, sum, slice_index, codes}
use Rattle.std.specs.Fmt.{decimal}
use Rattle.object_load.specs.declared.refusal.LoadRefusal.{LoadRefusal}
use Rattle.object_load.specs.declared.refusal.LoadRefusal.TheVariants as refusal
use Rattle.xdp_state.specs.declared.judgement.Reason.{Reason}
use Rattle.xdp_state.specs.declared.judgement.Reason.TheVariants.{NoInterface, BadObject, NoSuchProgram, ModeDiffers, ChainFull, NothingLoaded, NoSuchId, FilterThere, FilterNotThere, FeatureMissing, RulesFull, NoSuchRule, DumpThere, DumpNotThere}
use Rattle.xdp_state.specs.declared.tally.Tally.{Tally}
use Rattle.xio.specs.declared.action.Action.{Action}
use Rattle.xio.specs.declared.action.Action.TheVariants.{Aborted, Drop, Pass, Tx, Redirect}
use Rattle.script_text.specs.declared.outcome.Outcome.{Outcome}
use Rattle.script_text.specs.declared.outcome.Outcome.TheVariants as outcome
use Rattle.script_text.specs.Vocabulary.{action_name}

-- a place and a rule, and two places
abbrev pub rule_text : List ℕ → ℕ → List ℕ → ℕ → List ℕ
rule_text word place letter rule = word ++ (decimal place ++ (letter ++ decimal rule))

-- why an object gives no programs
unfoldable pub refusal_text : LoadRefusal → List ℕ
refusal_text (refusal.BadElf bad) = rule_text (codes "elf ") bad.offset (codes " E") bad.rule
refusal_text refusal.WritableData = codes "writable data"
refusal_text refusal.NoProgram = codes "no program"
refusal_text refusal.TooManyPrograms = codes "too many programs"
refusal_text (refusal.BadBtf bad) = rule_text (codes "btf ") bad.offset (codes " B") bad.rule
refusal_text (refusal.BadConfig member) = codes "config " ++ decimal member
refusal_text (refusal.BadMap index rule) = rule_text (codes "map ") index (codes " M") rule
refusal_text (refusal.BadInsn program index) = rule_text (codes "insn ") program (codes " ") index
refusal_text (refusal.BadReloc program index) = rule_text (codes "reloc ") program (codes " ") index

unfoldable pub reason_text : Reason → List ℕ
reason_text NoInterface = codes "no such interface"
reason_text (BadObject refusal) = codes "bad object: " ++ refusal_text refusal
reason_text NoSuchProgram = codes "no such program"
reason_text ModeDiffers = codes "mode differs"
reason_text ChainFull = codes "chain full"
reason_text NothingLoaded = codes "nothing loaded"
reason_text NoSuchId = codes "no such id"
reason_text FilterThere = codes "filter there"
reason_text FilterNotThere = codes "filter not there"
reason_text FeatureMissing = codes "feature missing"
reason_text RulesFull = codes "rules full"
reason_text NoSuchRule = codes "no such rule"
reason_text DumpThere = codes "dump there"
reason_text DumpNotThere = codes "dump not there"

-- a line that ends with a count
abbrev pub counted : ℕ → List ℕ → ℕ → List ℕ
counted line word count = decimal line ++ (word ++ (decimal count ++ codes "\n"))

abbrev pub refused_text : ℕ → Reason → List ℕ
refused_text line reason = (decimal line ++ codes " refused ") ++ (reason_text reason ++ codes "\n")

-- what came of a line, without the lines of a table or of processors
unfoldable pub outcome_text : ℕ → Outcome → List ℕ
outcome_text line (outcome.Ok number) = counted line (codes " ok ") number
outcome_text line outcome.Shown = decimal line ++ codes " ok\n"
outcome_text line (outcome.Refused reason) = refused_text line reason
outcome_text line (outcome.Handed packets) = counted line (codes " handed ") packets
outcome_text line (outcome.Barrier count) = counted line (codes " barrier ") count

-- the script's end
unfoldable pub end_text : ℕ → List ℕ
end_text count = codes "end " ++ (decimal count ++ codes "\n")

-- which processor it is, which queue of an interface it serves, and the packets and the bytes of all five actions
abbrev pub totals_text : ℕ → List ℕ → ℕ → Tally → List ℕ
totals_text processor interface queue tally =
    codes "  cpu " ++ (decimal processor ++ (codes " " ++ (interface ++ (codes "/" ++ (decimal queue
    ++ (codes " packets " ++ (decimal (sum tally.packets) ++ (codes " bytes " ++ decimal (sum tally.bytes)))))))))

-- the packets of an action, in front of more
abbrev pub action_text : Action → ℕ → List ℕ → List ℕ
action_text action packets more = codes " " ++ (action_name action ++ (codes " " ++ (decimal packets ++ more)))

-- the packets of each action
abbrev pub actions_text : List ℕ → List ℕ
actions_text packets =
    action_text Aborted (slice_index packets 0) (action_text Drop (slice_index packets 1) (action_text Pass (slice_index packets 2)
    (action_text Tx (slice_index packets 3) (action_text Redirect (slice_index packets 4) (codes "\n")))))

-- what a processor, which serves a queue of an interface, has carried
unfoldable pub processor_line : ℕ → List ℕ → ℕ → Tally → List ℕ
processor_line processor interface queue tally = totals_text processor interface queue tally ++ actions_text tally.packets
