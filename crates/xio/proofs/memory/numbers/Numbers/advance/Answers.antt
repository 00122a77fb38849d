use Rattle.std.proofs.Common.{◌≡◌, ◌≢◌, ap, refl, sym, ◌∙◌}
use Rattle.std.proofs.Math.Seq.{map-set_same}
use Rattle.xio.specs.Handles.{Closed}
use Rattle.xio.specs.Numbers.{handle_at, call_at}
use Rattle.xio.specs.declared.memory.ask.Ask.{Ask}
use Rattle.xio.proofs.NumbersLemmas.{given_below, part_at-read, place_at-moved}
use Rattle.xio.proofs.memory.numbers.Numbers.advance.Goals as goal

pub returns-clause-asked : goal.returns-clause-asked
returns-clause-asked c =
    map-set_same (λ ask. ask.name) c.args.self.now.asks.items c.index.result.now.call _ c.index_mut.result.now (ap (λ (ask : Ask). ask.name) c.index_mut.ensures.value)

pub returns-clause-places : goal.returns-clause-places
returns-clause-places c =
    let entries = c.args.self.now.entries.items in
    let held : handle_at entries c.args.file ≢ Closed = λ e. let no : _ = sym c.requires.opened ∙ e in cc in
    let call : call_at entries c.args.file ≡ c.index.result.now.call =
    part_at-read (λ entry. entry.call) 0 entries c.args.file c.index.result.now (given_below entries c.args.file held) c.index.ensures in
    place_at-moved c.args.self.now.asks.items _ _ c.args.count c.index_mut.result.now _ (sym call) (c.args.self.now.calls_asked c.args.file c.requires.opened)
    c.index_mut.ensures.value refl
