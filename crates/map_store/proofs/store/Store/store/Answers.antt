use Rattle.std.proofs.Common.{◌≡◌, ◌-◌, ◌<◌, ◌≤◌, length, ap, sym, ◌∙◌, arith}
use Rattle.flat_memory.specs.Numbers.{size_of, stored}
use Rattle.map_store.specs.Slots.{Map, map_at}
use Rattle.map_store.specs.Values.{number_of, offset_of, can_write_in}
use Rattle.flat_memory.proofs.Bytes.{length-stored}
use Rattle.map_store.proofs.ValueMemory.{values_written}
use Rattle.map_store.proofs.Regions.{map_read, write-below, write-nowhere, write-at, written-at}
use Rattle.map_store.proofs.Shapes.{shapes-with}
use Rattle.map_store.proofs.store.Store.store.Goals as goal

pub returns-in_default-clause-answer : goal.returns-in_default-clause-answer
returns-in_default-clause-answer c =
    let low : c.args.address < 1073741824 = omega (arith, c.in_default.ensures) in
    sym (write-below c.args.self.now c.args.address (size_of c.args.size) low)

pub returns-then-number-len-clause-answer : goal.returns-then-number-len-clause-answer
returns-then-number-len-clause-answer c =
    let is : (1073741824 ≤ c.args.address) × (c.in-Some.offset ≡ c.args.address - 1073741824) = c.in-Some.ensures in
    let past : length c.args.self.now ≤ number_of c.args.address = rw (c.len.ensures, c.self.inside.maps.ok.0, is.1, c.self.view_is) at c.if-number-len.true in
    sym (write-nowhere c.args.self.now c.args.address (size_of c.args.size) past)

pub returns-clause-answer : goal.returns-clause-answer
returns-clause-answer c =
    let is : (1073741824 ≤ c.args.address) × (c.in-Some.offset ≡ c.args.address - 1073741824) = c.in-Some.ensures in
    let within : number_of c.args.address < length c.args.self.now = rw (c.len.ensures, c.self.inside.maps.ok.0, is.1, c.self.view_is) at c.if-number-len.false in
    let there : map_at c.args.self.now (number_of c.args.address) ≡ c.index_mut.result.now = map_read c.args.self.now (number_of c.args.address) c.index_mut.result.now within (rw (is.1, c.self.view_is) at c.index_mut.ensures.value) in
    (rw is.1 at c.store.ensures.answer) ∙ sym (write-at c.args.self.now c.args.address (size_of c.args.size) is.0 ∙ ap (λ (m : Map). can_write_in m (offset_of c.args.address) (size_of c.args.size)) there)

pub returns-clause-done : goal.returns-clause-done
returns-clause-done c = λ wrote.
    let is : (1073741824 ≤ c.args.address) × (c.in-Some.offset ≡ c.args.address - 1073741824) = c.in-Some.ensures in
    let within : number_of c.args.address < length c.args.self.now = rw (c.len.ensures, c.self.inside.maps.ok.0, is.1, c.self.view_is) at c.if-number-len.false in
    let there : map_at c.args.self.now (number_of c.args.address) ≡ c.index_mut.result.now = map_read c.args.self.now (number_of c.args.address) c.index_mut.result.now within (rw (is.1, c.self.view_is) at c.index_mut.ensures.value) in
    rw (is.1, c.self.view_is) (written-at c.args.self.now c.index_mut.result.now c.store.new.self c.args.address (stored c.args.size c.args.value) there (rw is.1 at (c.store.ensures.done wrote)))

pub returns-clause-memory : goal.returns-clause-memory
returns-clause-memory c = λ wrote.
    let is : (1073741824 ≤ c.args.address) × (c.in-Some.offset ≡ c.args.address - 1073741824) = c.in-Some.ensures in
    let within : number_of c.args.address < length c.args.self.now = rw (c.len.ensures, c.self.inside.maps.ok.0, is.1, c.self.view_is) at c.if-number-len.false in
    let there : map_at c.args.self.now (number_of c.args.address) ≡ c.index_mut.result.now = map_read c.args.self.now (number_of c.args.address) c.index_mut.result.now within (rw (is.1, c.self.view_is) at c.index_mut.ensures.value) in
    let size : length (stored c.args.size c.args.value) ≡ size_of c.args.size = length-stored c.args.size c.args.value in
    rw (is.1, c.self.view_is) (values_written c.args.self.now c.index_mut.result.now c.store.new.self c.args.address (stored c.args.size c.args.value) is.0 within there
    (rw size (rw is.1 at (c.store.ensures.within wrote))) (rw is.1 at (c.store.ensures.memory wrote)))

pub returns-clause-shapes : goal.returns-clause-shapes
returns-clause-shapes c =
    let is : (1073741824 ≤ c.args.address) × (c.in-Some.offset ≡ c.args.address - 1073741824) = c.in-Some.ensures in
    let within : number_of c.args.address < length c.args.self.now = rw (c.len.ensures, c.self.inside.maps.ok.0, is.1, c.self.view_is) at c.if-number-len.false in
    let there : map_at c.args.self.now (number_of c.args.address) ≡ c.index_mut.result.now = map_read c.args.self.now (number_of c.args.address) c.index_mut.result.now within (rw (is.1, c.self.view_is) at c.index_mut.ensures.value) in
    rw (is.1, c.self.view_is) (shapes-with c.args.self.now (number_of c.args.address) c.index_mut.result.now c.store.new.self there c.store.ensures.shape)
