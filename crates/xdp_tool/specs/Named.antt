-- Names that were taken from the words, and what was read of them, against what is wanted.
use Rattle.std.specs.Prelude.{◌≡◌, ℕ, List, Result, Ok, Err, Option, ⊤}
use Rattle.std.specs.Borrow.{Bor}
use Rattle.std.specs.Option.{option_map}
use Rattle.command_line.specs.Names.{Names, names_of}
use Rattle.command_line.specs.declared.names.FileNames.{FileNames}
use Rattle.xdp_tool.specs.declared.ending.Ending.{Ending}
use Rattle.xdp_tool.specs.declared.ending.Ending.TheVariants.{Fault, OutOfMemory}

abbrev pub name_of : Option (Bor (List ℕ)) → Option (List ℕ)
name_of name = option_map (λ n. n.now) name

-- only want of memory is free
abbrev pub AreNames : Result FileNames Ending → Result Names Ending → Type 0
AreNames (Ok named) wanted = wanted ≡ Ok (names_of named)
AreNames (Err OutOfMemory) wanted = ⊤
AreNames (Err ending) wanted = wanted ≡ Err ending

-- only a fault and want of memory are free
abbrev pub Gives : {A : Type 0} → Result A Ending → Result A Ending → Type 0
Gives (Err Fault) wanted = ⊤
Gives (Err OutOfMemory) wanted = ⊤
Gives result wanted = wanted ≡ result
