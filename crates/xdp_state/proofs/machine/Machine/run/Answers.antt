use Rattle.std.proofs.Common.{◌≡◌, List, Some, [], sym, ap, ◌∙◌}
use Rattle.std.specs.Prelude.{◌==◌, position}
use Rattle.std.specs.Option.{option_map_or}
use Rattle.xdp_state.specs.Stores.{MemberMaps, maps_of, with_maps}
use Rattle.xdp_state.proofs.Stores.{Ran, entry-ran, has_place, maps-ran, read_at, specs-at, stores-ran}
use Rattle.xdp_state.proofs.machine.Machine.run.Goals as goal

pub unreachable-requires : goal.unreachable-requires
unreachable-requires c =
    has_place c.args.self.now.stores.items c.args.number c.args.code.now.maps c.requires.maps
    (c.in-None.ensures ∙ ap (λ (stores : List MemberMaps). position (λ e. e.number == c.args.number) stores) c.deref.ensures.value)

pub run-requires-clause-maps : goal.run-requires-clause-maps
run-requires-clause-maps c =
    let stores = c.args.self.now.stores.items in
    let at : Some c.in-Some.place ≡ position (λ (e : MemberMaps). e.number == c.args.number) stores = c.in-Some.ensures ∙ ap (λ (stores : List MemberMaps). position (λ e. e.number == c.args.number) stores) c.deref.ensures.value in
    let is = read_at stores c.args.number c.in-Some.place c.index_mut.result.now at c.index_mut.ensures.value in
    specs-at stores c.args.number c.args.code.now.maps c.in-Some.place c.index_mut.result.now c.requires.maps at is

pub returns-clause-outcome : goal.returns-clause-outcome
returns-clause-outcome c =
    let stores = c.args.self.now.stores.items in
    let place = c.in-Some.place in
    let entry = c.index_mut.result.now in
    let new = c.run.new.self in
    let at : Some place ≡ position (λ (e : MemberMaps). e.number == c.args.number) stores = c.in-Some.ensures ∙ ap (λ (stores : List MemberMaps). position (λ e. e.number == c.args.number) stores) c.deref.ensures.value in
    let ran : Ran stores c.args.number place entry new = record { at = at; is = read_at stores c.args.number place entry at c.index_mut.ensures.value; same = c.run.ensures.same } in
    let old : maps_of stores c.args.number ≡ entry.maps = ap (λ o. option_map_or (λ (e : MemberMaps). e.maps) o []) (entry-ran stores c.args.number place entry new ran) in
    rw (old, maps-ran stores c.args.number place entry new ran) c.run.ensures.outcome

pub returns-clause-stores : goal.returns-clause-stores
returns-clause-stores c =
    let stores = c.args.self.now.stores.items in
    let place = c.in-Some.place in
    let entry = c.index_mut.result.now in
    let new = c.run.new.self in
    let at : Some place ≡ position (λ (e : MemberMaps). e.number == c.args.number) stores = c.in-Some.ensures ∙ ap (λ (stores : List MemberMaps). position (λ e. e.number == c.args.number) stores) c.deref.ensures.value in
    let ran : Ran stores c.args.number place entry new = record { at = at; is = read_at stores c.args.number place entry at c.index_mut.ensures.value; same = c.run.ensures.same } in
    stores-ran stores c.args.number place entry new ran
    ∙ ap (λ maps. with_maps stores c.args.number maps) (sym (maps-ran stores c.args.number place entry new ran))
