use Rattle.std.proofs.Common.{◌≡◌, ◌-◌, ◌<◌, ◌≤◌, length, sym, ◌∙◌, arith}
use Rattle.map_store.specs.Slots.{map_at}
use Rattle.map_store.specs.Values.{number_of}
use Rattle.map_store.proofs.Regions.{map_read, read-below, read-nowhere, bytes-none, bytes-at}
use Rattle.map_store.proofs.store.Store.bytes.Goals as goal

pub returns-in_err-offset-clause-bytes : goal.returns-in_err-offset-clause-bytes
returns-in_err-offset-clause-bytes c =
    let low : c.args.address < 1073741824 = omega (arith, c.in_err-offset.ensures) in
    rw c.from_residual.ensures (sym (bytes-none c.args.self.now c.args.address c.args.count (read-below c.args.self.now c.args.address c.args.count low)))

pub returns-then-number-len-clause-bytes : goal.returns-then-number-len-clause-bytes
returns-then-number-len-clause-bytes c =
    let is : (1073741824 ≤ c.args.address) × (c.in_ok-offset.offset ≡ c.args.address - 1073741824) = c.in_ok-offset.ensures in
    let past : length c.args.self.now ≤ number_of c.args.address = rw (c.len.ensures, c.self.inside.maps.ok.0, is.1, c.self.view_is) at c.if-number-len.true in
    sym (bytes-none c.args.self.now c.args.address c.args.count (read-nowhere c.args.self.now c.args.address c.args.count past))

pub returns-clause-bytes : goal.returns-clause-bytes
returns-clause-bytes c =
    let is : (1073741824 ≤ c.args.address) × (c.in_ok-offset.offset ≡ c.args.address - 1073741824) = c.in_ok-offset.ensures in
    let within : number_of c.args.address < length c.args.self.now = rw (c.len.ensures, c.self.inside.maps.ok.0, is.1, c.self.view_is) at c.if-number-len.false in
    let there : map_at c.args.self.now (number_of c.args.address) ≡ c.index.result.now = map_read c.args.self.now (number_of c.args.address) c.index.result.now within (rw (is.1, c.self.view_is) at c.index.ensures) in
    (rw is.1 at c.bytes.ensures.bytes) ∙ sym (bytes-at c.args.self.now c.index.result.now c.args.address c.args.count is.0 there (rw is.1 at c.bytes.ensures.within))
