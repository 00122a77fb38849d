use Rattle.std.proofs.Common.{◌≡◌, ◌+◌, ◌++◌, List, [], drop, length, length-append, ap, sym, ◌∙◌, arith}
use Rattle.std.proofs.lemmas.List.{drop_all, take_rest}
use Rattle.xdp_state.specs.Library.{lesser, names_of, programs_in, programs_of}
use Rattle.xdp_state.specs.declared.library.ObjectRow.{ObjectRow}
use Rattle.xdp_state.proofs.Lesser.{lesser-nil, names_of-append}
use Rattle.xdp_state.proofs.Programs.{programs_of-drop}
use Rattle.xdp_state.proofs.names.lesser_in_objects.Goals as goal

pub loop-place-preserved : goal.loop-place-preserved
loop-place-preserved c =
    let objects = c.args.objects.now in
    let name = c.args.name.now in
    let object = c.index-objects-place.result in
    let here = programs_in object.loaded in
    let rest = programs_of (drop (c.loop-place.place + 1) objects) in
    let split : programs_of (drop c.loop-place.place objects) ≡ here ++ rest = programs_of-drop objects c.loop-place.place object (omega arith) c.index-objects-place.is in
    let names : lesser (names_of (programs_of (drop c.loop-place.place objects))) name ≡ lesser (names_of here ++ names_of rest) name = ap (λ ns. lesser ns name) (ap names_of split ∙ names_of-append here rest) in
    let is_here = c.programs.ensures ∙ ap (λ (o : ObjectRow). programs_in o.loaded) (sym c.index-objects-place.is) in
    let value = rw (take_rest objects (c.loop-place.place + 1), is_here) at c.lesser_in-rank.ensures.value in
    let within = rw is_here at c.lesser_in-rank.ensures.within in
    record {
      value = omega (arith, names, value, c.loop-place.invariant.value);
      within = omega (arith, ap length split, length-append here rest, within, c.loop-place.invariant.within);
    }

pub overflow_add-rank : goal.overflow_add-rank
overflow_add-rank c =
    let objects = c.args.objects.now in
    let object = c.index-objects-place.result in
    let here = programs_in object.loaded in
    let rest = programs_of (drop (c.loop-place.place + 1) objects) in
    let split : programs_of (drop c.loop-place.place objects) ≡ here ++ rest = programs_of-drop objects c.loop-place.place object (omega arith) c.index-objects-place.is in
    let is_here = c.programs.ensures ∙ ap (λ (o : ObjectRow). programs_in o.loaded) (sym c.index-objects-place.is) in
    let within = rw is_here at c.lesser_in-rank.ensures.within in
    let few = c.requires in
    omega (arith, ap length split, length-append here rest, within, few, c.loop-place.invariant.within)

pub returns-clause-value : goal.returns-clause-value
returns-clause-value c =
    let objects = c.args.objects.now in
    let name = c.args.name.now in
    let end : drop c.loop-place.place objects ≡ [] = drop_all c.loop-place.place objects (omega arith) in
    let none = ap (λ (objects : List ObjectRow). lesser (names_of (programs_of objects)) name) end ∙ lesser-nil name in
    omega (arith, none, c.loop-place.invariant.value)
