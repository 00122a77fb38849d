-- The rules that a block keeps, and the first that is broken.
use Rattle.std.specs.Prelude.{◌≡◌, ℕ, Bool, List, [], ◌∷◌, Option, Some, None, Result, MatchResult, if◌then◌else◌}
use Rattle.pcapng_text.specs.declared.rule.Rule.{Rule}
use Rattle.pcapng_text.specs.declared.rule.Rule.TheVariants.{ShortRest, NoSection, BadMagic, BadLength, CutBlock, LengthsDiffer, BadSection, ShortInterface, LinkType, BadOption, BinaryResolution, ShortPacket, NoInterface, DataPastEnd, FrameLength, LateTimestamp}

abbrev pub number_of : Rule → ℕ
number_of ShortRest = 1
number_of NoSection = 2
number_of BadMagic = 3
number_of BadLength = 4
number_of CutBlock = 5
number_of LengthsDiffer = 6
number_of BadSection = 7
number_of ShortInterface = 8
number_of LinkType = 9
number_of BadOption = 10
number_of BinaryResolution = 11
number_of ShortPacket = 12
number_of NoInterface = 13
number_of DataPastEnd = 14
number_of FrameLength = 15
number_of LateTimestamp = 16

-- of rules, each with whether it is broken, the first that is
abbrev pub first_broken : List (Bool × Rule) → Option Rule
first_broken [] = None
first_broken (rule ∷ rules) = if rule.0 then Some rule.1 else first_broken rules

-- an error is the rule that was found, and there is none where none is broken
abbrev pub RefusesAs : {X : Type 0} → Result X Rule → Option Rule → Type 0
RefusesAs result found = MatchResult result (λ _. found ≡ None) (λ rule. found ≡ Some rule)
