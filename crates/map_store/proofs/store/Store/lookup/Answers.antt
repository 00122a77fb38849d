use Rattle.std.proofs.Common.{◌≡◌, sym, ◌∙◌}
use Rattle.map_store.specs.Slots.{map_at}
use Rattle.map_store.proofs.Regions.{map_read, lookup-some, lookup-none}
use Rattle.map_store.proofs.store.Store.lookup.Goals as goal

pub returns-in_err-place : goal.returns-in_err-place
returns-in_err-place c =
    let is : map_at c.args.self.now c.args.map ≡ c.index-slots.result.now = map_read c.args.self.now c.args.map c.index-slots.result.now c.requires.map (rw c.self.view_is at c.index-slots.ensures) in
    c.from_residual.ensures ∙ sym (lookup-none c.args.self.now c.args.map c.index-slots.result.now c.args.key.now is (sym c.place_of.ensures.place ∙ c.in_err-place.was))

pub returns : goal.returns
returns c =
    let is : map_at c.args.self.now c.args.map ≡ c.index-slots.result.now = map_read c.args.self.now c.args.map c.index-slots.result.now c.requires.map (rw c.self.view_is at c.index-slots.ensures) in
    rw c.offset_of.ensures.offset (sym (lookup-some c.args.self.now c.args.map c.index-slots.result.now c.args.key.now c.in_ok-place.place is (sym c.place_of.ensures.place ∙ c.in_ok-place.was)))
