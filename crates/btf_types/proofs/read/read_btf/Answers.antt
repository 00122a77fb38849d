use Rattle.std.proofs.Common.{◌≡◌, ◌<◌, ◌^◌, length, sym, ◌∙◌, subst, ap, arith}
use Rattle.btf_types.specs.Reading.{types_of}
use Rattle.btf_types.specs.TypeTable.{IsSound}
use Rattle.btf_types.specs.Sections.{strings_of}
use Rattle.btf_types.proofs.Soundness.{sound, types_of-lists}
use Rattle.btf_types.proofs.read.read_btf.Goals as goal

pub new-types-requires : goal.new-types-requires
new-types-requires c =
    let are = c.in_ok-sections.ensures in
    let strings : c.append.new.self ≡ strings_of c.args.bytes.now = rw (c.in_ok-append.ensures.ok, c.new-strings.ensures) are.strings in
    let lists = types_of-lists c.args.bytes.now c.in_ok-sections.sections.types.now c.append.new.self c.in_ok-rows.rows c.in_ok-rows.parts are.types strings c.in_ok-rows.ensures.rows c.in_ok-rows.ensures.parts in
    let few : length (types_of c.args.bytes.now).parts < 2 ^ 32 = rw lists (omega (arith, c.parts.invariant, ap length c.parts.view_is)) in
    subst (λ types. IsSound types) lists (sound c.args.bytes.now are.some few are.breaks)

pub returns-clause-types : goal.returns-clause-types
returns-clause-types c =
    let are = c.in_ok-sections.ensures in
    let strings : c.append.new.self ≡ strings_of c.args.bytes.now = rw (c.in_ok-append.ensures.ok, c.new-strings.ensures) are.strings in
    c.with_links.ensures ∙ c.new-types.ensures ∙ sym (types_of-lists c.args.bytes.now c.in_ok-sections.sections.types.now c.append.new.self c.in_ok-rows.rows c.in_ok-rows.parts are.types strings c.in_ok-rows.ensures.rows c.in_ok-rows.ensures.parts)
