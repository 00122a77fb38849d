use Rattle.std.proofs.Common.{◌≡◌, ◌-◌, ◌<◌, ◌≤◌, length, sym, ◌∙◌, arith}
use Rattle.flat_memory.specs.Numbers.{size_of}
use Rattle.map_store.specs.Slots.{map_at}
use Rattle.map_store.specs.Values.{number_of}
use Rattle.map_store.proofs.Regions.{map_read, read-below, read-nowhere, load-none, load-at}
use Rattle.map_store.proofs.store.Store.load.Goals as goal

pub returns-in_err-offset : goal.returns-in_err-offset
returns-in_err-offset c =
    let low : c.args.address < 1073741824 = omega (arith, c.in_err-offset.ensures) in
    c.from_residual.ensures ∙ sym (load-none c.args.self.now c.args.address c.args.size (read-below c.args.self.now c.args.address (size_of c.args.size) low))

pub returns-then-number-len : goal.returns-then-number-len
returns-then-number-len c =
    let is : (1073741824 ≤ c.args.address) × (c.in_ok-offset.offset ≡ c.args.address - 1073741824) = c.in_ok-offset.ensures in
    let past : length c.args.self.now ≤ number_of c.args.address = rw (c.len.ensures, c.self.inside.maps.ok.0, is.1, c.self.view_is) at c.if-number-len.true in
    sym (load-none c.args.self.now c.args.address c.args.size (read-nowhere c.args.self.now c.args.address (size_of c.args.size) past))

pub returns : goal.returns
returns c =
    let is : (1073741824 ≤ c.args.address) × (c.in_ok-offset.offset ≡ c.args.address - 1073741824) = c.in_ok-offset.ensures in
    let within : number_of c.args.address < length c.args.self.now = rw (c.len.ensures, c.self.inside.maps.ok.0, is.1, c.self.view_is) at c.if-number-len.false in
    let there : map_at c.args.self.now (number_of c.args.address) ≡ c.index.result.now = map_read c.args.self.now (number_of c.args.address) c.index.result.now within (rw (is.1, c.self.view_is) at c.index.ensures) in
    (rw is.1 at c.load.ensures.number) ∙ sym (load-at c.args.self.now c.index.result.now c.args.address c.args.size is.0 there (rw is.1 at c.load.ensures.within))
