-- How a store stands for the maps of a member, of which there are as many as specs.
use Rattle.std.specs.Prelude.{◌≡◌, length}
use Rattle.xdp_state.specs.Stores.{MemberMaps}
use Rattle.xdp_state.specs.declared.member_store.MemberStore.TheInside.{Inside}

abbrev pub view_of : Inside → MemberMaps
view_of s = record { number = s.number; specs = s.specs; maps = s.store }

abbrev pub HasEach : Inside → Type 0
HasEach s = length s.store ≡ length s.specs
