-- The interfaces that a script declares, and the processors that serve their queues.
use Rattle.std.specs.Prelude.{ℕ, ◌+◌, ◌&&◌, Bool, not, nat_lt, nat_le, List, [], ◌∷◌, length, sum_by, Option, Some, None, Result, Ok, if◌then◌else◌}
use Rattle.std.specs.List.{list_any}
use Rattle.std.specs.Option.{option_map}
use Rattle.std.specs.Str.{bytes_eq}
use Rattle.xdp_state.specs.declared.interface.Interface.{Interface}
use Rattle.script_text.specs.Frames.{frame_of}
use Rattle.script_text.specs.Names.{is_name}
use Rattle.script_text.specs.Numbers.{number_of, number_within}
use Rattle.script_text.specs.Readings.{◌>>=◌, both, found, keeps}
use Rattle.script_text.specs.declared.what.What.{What}
use Rattle.script_text.specs.declared.what.What.TheVariants as what

abbrev pub is_declared : List Interface → List ℕ → Bool
is_declared interfaces name = list_any (λ interface. bytes_eq interface.name name) interfaces

abbrev pub queue_count : List Interface → ℕ
queue_count interfaces = sum_by (λ interface. interface.queues) interfaces

-- at most 8 interfaces, and at most 8 queues in all
abbrev pub has_room : List Interface → ℕ → Bool
has_room interfaces queues = nat_lt (length interfaces) 8 && nat_le (queue_count interfaces + queues) 8

-- an interface beside those that are declared, and whether no other line stands before it
unfoldable pub interface_of : List Interface → Bool → List ℕ → List ℕ → Result ℕ ℕ
interface_of interfaces first name queues =
    both (found 4 (number_within 1 8 queues)) (both (keeps 5 (is_name name)) (both (keeps 6 first) (keeps 7 (not (is_declared interfaces name)))))
    >>= λ read. keeps 8 (has_room interfaces read.0) >>= λ _. Ok read.0

-- the processor of a queue; processors are numbered over all queues in order
abbrev pub processor_of : List Interface → List ℕ → ℕ → Option ℕ
processor_of [] name queue = None
processor_of (interface ∷ more) name queue =
    if bytes_eq interface.name name then (if nat_lt queue interface.queues then Some queue else None)
    else option_map (λ processor. interface.queues + processor) (processor_of more name queue)

-- the processor of a hand-in's words
unfoldable pub hand_in_of : List Interface → List ℕ → List ℕ → Result ℕ ℕ
hand_in_of interfaces name queue =
    both (found 4 (number_of queue)) (keeps 5 (is_name name)) >>= λ read. found 9 (processor_of interfaces name read.0)

-- a packet of a frame for a processor
unfoldable pub packet_of : List Interface → List ℕ → List ℕ → List ℕ → Result What ℕ
packet_of interfaces name queue digits =
    both (hand_in_of interfaces name queue) (found 10 (frame_of digits)) >>= λ read. Ok (what.Packet read.0 read.1)
