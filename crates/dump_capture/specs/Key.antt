-- Which interface block a captured packet stands behind.
use Rattle.std.specs.Prelude.{ℕ, Bool, true, false, ◌==◌, ◌&&◌, List, ◌++◌, codes}
use Rattle.std.specs.Bool.{beq}
use Rattle.std.specs.Str.{bytes_eq}
use Rattle.dump_capture.specs.declared.key.Key.{Key}
use Rattle.dump_capture.specs.Point.{PlainPoint}

abbrev pub key_of : PlainPoint → Key
key_of point = record { interface = point.interface; name = point.name; exit = point.exit; snap = point.snap }

-- the interface block is that of the point
unfoldable pub is_key_of : PlainPoint → Key → Bool
is_key_of point key =
    (key.snap == point.snap)
    && beq key.exit point.exit
    && bytes_eq key.interface point.interface
    && bytes_eq key.name point.name

abbrev pub side_text : Bool → List ℕ
side_text true = codes "exit"
side_text false = codes "entry"

-- the name of an interface block: the interface, the program, and on which side of it
abbrev pub name_text : List ℕ → List ℕ → List ℕ → List ℕ
name_text interface name side = interface ++ (codes ":" ++ (name ++ (codes "()@" ++ side)))

-- that of a point
unfoldable pub if_name : PlainPoint → List ℕ
if_name point = name_text point.interface point.name (side_text point.exit)
