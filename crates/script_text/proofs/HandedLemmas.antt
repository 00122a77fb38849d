-- A script stays sound with one interface more, and with one line more.
use Rattle.std.proofs.Common.{◌≡◌, ℕ, ◌+◌, ◌≤◌, ◌==◌, cond, Bool, true, false, List, [], ◌∷◌, ◌++◌, length, Option, Some, None, IfSome, Err, refl, ap, arith, length-append}
use Rattle.std.specs.List.{list_all}
use Rattle.std.proofs.lemmas.Bool.Decides.{nat_tests}
use Rattle.std.proofs.lemmas.List.Sums.{sum_by-append}
use Rattle.xdp_state.specs.Answer.{rule_fits}
use Rattle.xdp_state.specs.declared.command.Command.{Command}
use Rattle.xdp_state.specs.declared.command.Command.TheVariants as command
use Rattle.xdp_state.specs.declared.dump.DumpSetting.{DumpSetting}
use Rattle.xdp_state.specs.declared.interface.Interface.{Interface}
use Rattle.script_text.specs.Handed.{IsSound, are_printable, has_frame, has_processor, has_flags, asks_frame, asks_processor, asks_flags}
use Rattle.script_text.specs.Interfaces.{queue_count, has_room}
use Rattle.script_text.specs.Objects.{object_place, objects_with}
use Rattle.script_text.specs.Readings.{both, found}
use Rattle.script_text.specs.Words.{is_printable}
use Rattle.script_text.specs.declared.script.Script.{Script}
use Rattle.script_text.specs.declared.what.Line.{Line}
use Rattle.script_text.specs.declared.what.What.TheVariants as what

pub list_all-push : {X : Type 0} (p : X → Bool) (xs : List X) (x : X) → list_all p xs ≡ true → p x ≡ true → list_all p (xs ++ x ∷ []) ≡ true
list_all-push p [] x all this = rw this refl
list_all-push p (y ∷ xs) x all this = grind (arith, nat_tests, list_all-push p xs x)

pub one_more : {X : Type 0} (xs : List X) (x : X) → length (xs ++ x ∷ []) ≤ length xs + 1
one_more xs x = omega (arith, length-append xs (x ∷ []))

-- the rules of a hand-in's place are less than that of its frame
pub both-least : {A B : Type 0} (rule other : ℕ) (x : Option B) → rule ≤ other → both {A = A} (Err rule) (found other x) ≡ Err rule
both-least rule other None least = ap Err (omega arith)
both-least rule other (Some x) least = refl

all_of_none : {X : Type 0} (p : X → Bool) (xs : List X) → length xs ≡ 0 → list_all p xs ≡ true
all_of_none p [] none = refl
all_of_none p (x ∷ xs) none = absurd (omega arith)

-- interfaces stand before all lines
pub sound_interface : (script : Script) (interface : Interface) → IsSound script → has_room script.interfaces interface.queues ≡ true → length script.lines ≡ 0
    → IsSound (record script { interfaces = script.interfaces ++ interface ∷ [] })
sound_interface script interface sound room none =
    let more : queue_count (script.interfaces ++ interface ∷ []) ≡ queue_count script.interfaces + interface.queues =
    omega (arith, sum_by-append (λ (i : Interface). i.queues) script.interfaces (interface ∷ [])) in
    let fits : (length script.interfaces + 1 ≤ 8) × (queue_count script.interfaces + interface.queues ≤ 8) = grind (arith, nat_tests, room) in
    record {
      frames = all_of_none _ _ none;
      processors = all_of_none _ _ none;
      flags = all_of_none _ _ none;
      interfaces = omega (arith, length-append script.interfaces (interface ∷ []), fits);
      objects = sound.objects;
      queues = omega (arith, more, fits);
    }

-- the names with one that may be new
objects-printable : (objects : List (List ℕ)) (name : Option (List ℕ)) → are_printable objects ≡ true → IfSome name (λ n. list_all is_printable n ≡ true)
    → are_printable (objects_with objects name) ≡ true
objects-printable objects None all this = all
objects-printable objects (Some name) all this = chosen (object_place objects name == length objects)
  where
    chosen : (b : Bool) → are_printable (cond b (objects ++ name ∷ []) objects) ≡ true
    chosen true = list_all-push (λ n. list_all is_printable n) objects name all this
    chosen false = all

sound_added : (script : Script) (objects : List (List ℕ)) (dumps : List DumpSetting) (line : Line) → IsSound script → are_printable objects ≡ true
    → asks_frame line.what ≡ true → asks_processor (queue_count script.interfaces) line.what ≡ true
    → asks_flags line.what ≡ true
    → IsSound (record { interfaces = script.interfaces; objects = objects; dumps = dumps; lines = script.lines ++ line ∷ [] })
sound_added script objects dumps line sound printable frame processor flags = record {
  frames = list_all-push has_frame script.lines line sound.frames frame;
  processors = list_all-push (has_processor (queue_count script.interfaces)) script.lines line sound.processors processor;
  flags = list_all-push has_flags script.lines line sound.flags flags;
  interfaces = sound.interfaces;
  objects = printable;
  queues = sound.queues;
}

pub sound_line : (script : Script) (line : Line) → IsSound script → asks_frame line.what ≡ true
    → asks_processor (queue_count script.interfaces) line.what ≡ true → asks_flags line.what ≡ true
    → IsSound (record { interfaces = script.interfaces; objects = script.objects; dumps = script.dumps; lines = script.lines ++ line ∷ [] })
sound_line script line sound frame processor flags =
    sound_added script script.objects script.dumps line sound sound.objects frame processor flags

-- a line that loads the object of a name
pub sound_load : (script : Script) (name : Option (List ℕ)) (number : ℕ) (command : Command) → IsSound script → IfSome name (λ n. list_all is_printable n ≡ true)
    → rule_fits command ≡ true
    → IsSound (record {
      interfaces = script.interfaces;
      objects = objects_with script.objects name;
      dumps = script.dumps;
      lines = script.lines ++ record { line = number; what = what.Command command } ∷ [];
    })
sound_load script name number command sound printable flags =
    sound_added script (objects_with script.objects name) script.dumps (record { line = number; what = what.Command command }) sound
    (objects-printable script.objects name sound.objects printable) refl refl flags

-- a line that starts a dump
pub sound_start : (script : Script) (setting : DumpSetting) (number : ℕ) (name : List ℕ) (place : ℕ) → IsSound script
    → IsSound (record {
      interfaces = script.interfaces;
      objects = script.objects;
      dumps = script.dumps ++ setting ∷ [];
      lines = script.lines ++ record { line = number; what = what.Command (command.DumpStart name place) } ∷ [];
    })
sound_start script setting number name place sound =
    sound_added script script.objects (script.dumps ++ setting ∷ []) (record { line = number; what = what.Command (command.DumpStart name place) })
    sound sound.objects refl refl refl

pub ruleset handed = (sound_line, sound_start)

pub ruleset least = (both-least)
