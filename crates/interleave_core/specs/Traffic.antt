-- The packets of a processor in the phase under way.
use Rattle.std.specs.Prelude.{ℕ, Bool, nat_lt, List, [], ◌∷◌, ◌++◌, length, take, drop}
use Rattle.xdp_state.specs.declared.packet.HandIn.{HandIn}

pub record Traffic : Type 0 where
  -- those that it was handed, in order
  pub handed : List HandIn
  -- those that left its queue, and with how many publications each was carried
  pub carried : List HandIn
  pub counts : List ℕ
  -- those that wait
  pub queue : List HandIn

abbrev pub idle : Traffic
idle = record { handed = []; carried = []; counts = []; queue = [] }

abbrev pub waits : Traffic → Bool
waits traffic = nat_lt 0 (length traffic.queue)

abbrev pub with_packet : HandIn → Traffic → Traffic
with_packet h traffic = record traffic { handed = traffic.handed ++ h ∷ []; queue = traffic.queue ++ h ∷ [] }

-- the first packet that waits leaves the queue
abbrev pub with_count : ℕ → Traffic → Traffic
with_count count traffic = record traffic {
  carried = traffic.carried ++ take 1 traffic.queue;
  counts = traffic.counts ++ count ∷ [];
  queue = drop 1 traffic.queue;
}
