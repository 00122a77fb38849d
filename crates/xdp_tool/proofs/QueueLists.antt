-- The queues of one interface more.
use Rattle.std.proofs.Common.{◌≡◌, ℕ, ◌+◌, ◌<◌, List, [], ◌∷◌, ◌++◌, length, take, get_or, suc, append-nil, append_assoc, add-zero, arith, refl}
use Rattle.std.proofs.lemmas.List.{take_more, length-take}
use Rattle.xdp_state.specs.declared.interface.Interface.{Interface}
use Rattle.xdp_tool.specs.Queues.{queues_from, queues_on}

queues_from-push : (first : ℕ) (interfaces : List Interface) (interface : Interface) → queues_from first (interfaces ++ interface ∷ []) ≡ queues_from first interfaces ++ queues_on (first + length interfaces) interface
queues_from-push first [] interface = rw (append-nil, add-zero) refl
queues_from-push first (x ∷ interfaces) interface =
    let place : first + 1 + length interfaces ≡ first + suc (length interfaces) = omega arith in
    rw (queues_from-push (first + 1) interfaces interface, place, append_assoc) refl

pub queues_from-more : (interfaces : List Interface) (n : ℕ) (interface : Interface) → n < length interfaces → interface ≡ get_or interfaces n interface → queues_from 0 (take (n + 1) interfaces) ≡ queues_from 0 (take n interfaces) ++ queues_on n interface
queues_from-more interfaces n interface below is =
    let len : 0 + length (take n interfaces) ≡ n = omega (arith, length-take n interfaces) in
    rw (take_more interfaces n interface below, ← is, queues_from-push 0 (take n interfaces) interface, len) refl
