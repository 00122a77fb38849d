use Rattle.std.proofs.Common.{◌≡◌, ◌+◌, length, refl}
use Rattle.xdp_state.specs.declared.hook.Hook.{Hook}
use Rattle.chain_order.specs.Member.{place_of}
use Rattle.xdp_state.proofs.Attaching.{Attach, has_room, hook_at, room_at, view-attach, whole-attach}
use Rattle.xdp_state.proofs.Views.{number-new}
use Rattle.xdp_state.proofs.state.State.attach.Goals as goal
use Rattle.xdp_state.proofs.state.State.attach.Goals.{After-self-2-1}

pub insert-requires : goal.insert-requires
insert-requires c =
    let hook = c.index_mut-hook.result.now in
    let number : c.args.member.number ≡ c.self.inside.count + 1 = rw (← c.self.view_is) at c.requires.number in
    number-new c.self.inside c.args.interface c.args.member.number hook c.self.invariant (hook_at c.self.inside c.args.interface hook c.self.invariant c.requires.known c.index_mut-hook.ensures.value) number

-- the hook with the member
abbrev joined : After-self-2-1 → Hook
joined c = record { chain = c.insert.new.self; mode = c.args.mode }

joining : (c : After-self-2-1) → Attach c.self.inside c.args.interface c.args.mode c.args.member (place_of c.index_mut-hook.result.now.chain c.args.member) c.index_mut-hook.result.now (joined c)
joining c =
    let hook = c.index_mut-hook.result.now in
    let here = hook_at c.self.inside c.args.interface hook c.self.invariant c.requires.known c.index_mut-hook.ensures.value in
    let room = room_at c.self.inside c.args.interface c.args.member.kind c.args.mode hook c.self.invariant here (rw (← c.self.view_is) at c.requires.place) in
    record {
      joins = record {
        whole = c.self.invariant;
        here = here;
        number = rw (← c.self.view_is) at c.requires.number;
        old = room.1;
        chain = has_room c.insert.result (length hook.chain) c.insert.ensures.full room.0 c.insert.ensures.ok;
        same = refl;
      };
      few = rw (← c.self.view_is) at c.requires.count;
      chain = λ members is. has_room c.insert.result (length hook.chain) c.insert.ensures.full room.0 (c.insert.ensures.chain members is);
    }

pub invariant_of-self : goal.invariant_of-self
invariant_of-self c = whole-attach c.self.inside _ c.args.interface c.args.mode c.args.member (place_of c.index_mut-hook.result.now.chain c.args.member) c.index_mut-hook.result.now (joined c) (joining c) refl refl

pub returns : goal.returns
returns c = rw (← c.self.view_is) (view-attach c.self.inside c.args.interface c.args.mode c.args.member (place_of c.index_mut-hook.result.now.chain c.args.member) c.index_mut-hook.result.now (joined c) _ (joining c) refl)
