-- How a processor's own fields stand for where it is and for its last way, and the room that it keeps.
use Rattle.std.specs.Prelude.{◌<◌}
use Rattle.std.specs.Option.{option_map}
use Rattle.bpf_machine.specs.Buffer.{bytes_in}
use Rattle.xdp_state.specs.Carrier.{Carrier}
use Rattle.xdp_state.specs.Trails.{IsEven, visits_in}
use Rattle.xdp_state.specs.declared.own.Own.TheInside.{Inside}

abbrev pub view_of : Inside → Carrier
view_of own = record {
  standing = record {
    processor = own.processor;
    interface = own.interface;
    queue = own.queue;
    stores = own.machine.stores.items;
  };
  trip = option_map (λ verdict. record {
    visits = visits_in own.trail;
    verdict = verdict;
    target = own.target;
    frame = bytes_in own.machine.frame;
  }) own.verdict;
}

-- one of eight interfaces, and room for the visits of ten members
pub record HasRoom (own : Inside) : Type 0 where
  pub interface : own.interface < 8
  pub trail : IsEven own.trail
