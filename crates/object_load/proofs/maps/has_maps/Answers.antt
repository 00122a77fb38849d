use Rattle.std.proofs.Common.{sym, ◌∙◌, arith}
use Rattle.elf_objects.specs.Section.{section_count}
use Rattle.object_load.specs.Maps.{has_maps, holds_maps}
use Rattle.object_load.proofs.Counts.{sections_counted}
use Rattle.object_load.proofs.Ranges.{any_absent, any_found}
use Rattle.object_load.proofs.maps.has_maps.Goals as goal

pub returns-then-holds_maps : goal.returns-then-holds_maps
unfolding has_maps
returns-then-holds_maps c =
    let file = c.args.object.now in
    let count = sections_counted file in
    sym (any_found (holds_maps file) (section_count file) c.loop-number.number (omega arith) (sym c.holds_maps.ensures ∙ c.if-holds_maps.true))

pub returns : goal.returns
unfolding has_maps
returns c =
    let file = c.args.object.now in
    let count = sections_counted file in
    sym (any_absent (holds_maps file) (section_count file) (λ k below. c.loop-number.invariant k (omega arith)))
