-- The receive queues of the interfaces, each with a processor of its own; processors are numbered over them in this order.
use Rattle.std.specs.Prelude.{ℕ, zero, suc, ◌+◌, List, [], ◌∷◌, ◌++◌}
use Rattle.xdp_state.specs.declared.interface.Interface.{Interface}

pub record Queue : Type 0 where
  -- the interface's number and name
  pub interface : ℕ
  pub name : List ℕ
  -- the queue's number on it
  pub queue : ℕ

-- the queues below a number, of the interface of this number and name
abbrev pub queues_below : ℕ → ℕ → List ℕ → List Queue
queues_below zero interface name = []
queues_below (suc n) interface name =
    queues_below n interface name ++ record { interface = interface; name = name; queue = n } ∷ []

abbrev pub queues_on : ℕ → Interface → List Queue
queues_on number interface = queues_below interface.queues number interface.name

abbrev pub queues_from : ℕ → List Interface → List Queue
queues_from number [] = []
queues_from number (interface ∷ interfaces) = queues_on number interface ++ queues_from (number + 1) interfaces

abbrev pub queues_of : List Interface → List Queue
queues_of interfaces = queues_from 0 interfaces
