use Rattle.std.proofs.Common.{◌≡◌, ◌+◌, refl, ap, ◌∙◌}
use Rattle.bpf_machine.specs.Buffer.{filled}
use Rattle.bpf_machine.specs.declared.environment.Env.{Env}
use Rattle.xdp_state.specs.Dump.{dump_on}
use Rattle.xdp_state.specs.Handed.{Handed}
use Rattle.xdp_state.specs.Members.{chain_on}
use Rattle.xdp_state.specs.Trails.{visits_in}
use Rattle.xdp_state.specs.Traversal.{Way, course_of, env_of, way_of}
use Rattle.xdp_state.proofs.Ways.{way_is}
use Rattle.xdp_state.proofs.own.way.traverse.Goals as goal

pub visit_all-last-requires-clause-ready : goal.visit_all-last-requires-clause-ready
visit_all-last-requires-clause-ready c =
    let prepared = rw (← c.own.view_is) at c.requires.prepared in
    rw c.chain.ensures prepared

-- the packet's way is that of `visit_all`
pub returns : goal.returns
returns c =
    let own = c.own.inside in
    let env : Env = record { timestamp = c.packet.inside.timestamp; processor = own.processor; ifindex = own.interface + 1; queue = own.queue } in
    let left : Way = record {
      visits = visits_in c.visit_all-last.new.trail;
      last = c.visit_all-last.result;
      course = course_of c.visit_all-last.new.machine.frame c.visit_all-last.new.machine.stores.items;
    } in
    let env_is : env ≡ env_of c.args.own.now.standing c.args.packet.now = rw (← c.own.view_is, ← c.packet.view_is) refl in
    let dump_is : c.dump.result ≡ dump_on c.args.state.now.dumps c.args.own.now.standing.interface = rw (← c.own.view_is) c.dump.ensures in
    let packet_is : c.fill.new.self ≡ filled c.args.packet.now.frame = c.fill.ensures ∙ ap filled (c.as_slice.ensures ∙ ap (λ (packet : Handed). packet.frame) c.packet.view_is) in
    let stores_is : own.machine.stores.items ≡ c.args.own.now.standing.stores = rw (← c.own.view_is) refl in
    let chain_is : c.chain.result.now ≡ chain_on c.args.state.now.members c.args.own.now.standing.interface = rw (← c.own.view_is) c.chain.ensures in
    let way : way_of c.args.library.now c.args.state.now c.args.own.now.standing c.args.packet.now ≡ left =
    way_is c.args.library.now c.args.state.now c.args.own.now.standing c.args.packet.now c.rules.result.now c.dump.result env c.fill.new.self own.machine.stores.items c.chain.result.now left
    c.rules.ensures dump_is env_is packet_is stores_is chain_is c.visit_all-last.ensures.way in
    record {
      standing = rw (way, ← c.own.view_is) refl;
      trip = rw (way, c.decided_by-verdict.ensures.verdict, c.decided_by-verdict.ensures.target) refl;
    }
