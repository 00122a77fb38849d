-- Names of printable bytes are texts.
use Rattle.std.proofs.Common.{◌≡◌, ℕ, ◌<◌, ◌≤◌, zero, suc, Bool, true, false, ◌&&◌, List, [], ◌∷◌, refl, arith}
use Rattle.std.specs.List.{list_all, slice_index}
use Rattle.std.specs.Str.{IsAscii, IsUtf8}
use Rattle.std.proofs.lemmas.Bool.Decides.{nat_tests}
use Rattle.std.proofs.lemmas.Str.{IsUtf8-from_ascii, is_utf8-from_IsUtf8}
use Rattle.script_text.specs.Words.{is_printable}

ascii : (name : List ℕ) → list_all is_printable name ≡ true → IsAscii name
ascii [] printable i = omega arith
ascii (b ∷ name) printable zero = grind (arith, nat_tests, printable)
ascii (b ∷ name) printable (suc i) = ascii name (grind (arith, nat_tests, printable)) i

pub printable-utf8 : (name : List ℕ) → list_all is_printable name ≡ true → IsUtf8 name
printable-utf8 name printable = IsUtf8-from_ascii name (ascii name printable)

pub ruleset printable = (printable-utf8)
