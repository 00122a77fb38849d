use Rattle.std.proofs.Common.{◌∙◌, sym, arith}
use Rattle.btf_types.proofs.Names.{section_vars-first, section_vars-more, section_vars-none}
use Rattle.btf_types.proofs.types.Types.section_vars.Goals as goal

pub returns-then-is_section_named : goal.returns-then-is_section_named
returns-then-is_section_named c =
    section_vars-first c.args.self.now c.args.name.now c.loop-place.place c.type_at.result.now c.type_at.ensures.row c.loop-place.invariant (sym c.is_section_named.ensures ∙ c.if-is_section_named.true)

pub loop-place-preserved : goal.loop-place-preserved
loop-place-preserved c =
    section_vars-more c.args.self.now c.args.name.now c.loop-place.place c.type_at.result.now c.type_at.ensures.row c.loop-place.invariant (sym c.is_section_named.ensures ∙ c.if-is_section_named.false)

pub returns : goal.returns
returns c = section_vars-none c.args.self.now c.args.name.now (λ k d h. c.loop-place.invariant k d (omega arith))
