use Rattle.std.proofs.Common.{◌≡◌, ℕ, Bool, List, Result, Ok, ap, refl, sym, ◌∙◌, unwrap_or}
use Rattle.map_store.specs.declared.spec.MapSpec.{MapSpec}
use Rattle.run_config.specs.declared.map_definition.Given.{Given}
use Rattle.run_config.specs.Given.{given_by, is_contrary_given}
use Rattle.run_config.specs.MapDefinition.{is_contrary, kind_of}
use Rattle.run_config.specs.Values.{Named}
use Rattle.run_config.proofs.GivenLemmas.{is_contrary-given, spec_by, spec_of-contrary, spec_of-kind, spec_of-no_kind}
use Rattle.run_config.proofs.map_definition.Given.spec.Goals as goal

-- what is given is contrary where the values are
contrary : (given : Given) (values : List Named) (result : Bool) → given ≡ given_by values → result ≡ is_contrary_given given → is_contrary values ≡ result
contrary given values result h e = is_contrary-given values ∙ ap (λ (one : Given). is_contrary_given one) (sym h) ∙ sym e

-- the kind of what is given
kind_by : (given : Given) (values : List Named) (number : ℕ) → given ≡ given_by values → number ≡ unwrap_or given.kind 0 → kind_of (unwrap_or (given_by values).kind 0) ≡ kind_of number
kind_by given values number h e = ap (λ (one : Given). kind_of (unwrap_or one.kind 0)) (sym h) ∙ ap kind_of (sym e)

pub returns-then-is_contrary-clause-spec : goal.returns-then-is_contrary-clause-spec
returns-then-is_contrary-clause-spec c values h =
    sym (spec_of-contrary values (contrary c.args.self values c.is_contrary.result h c.is_contrary.ensures ∙ c.if-is_contrary.true))

pub returns-in_default-clause-spec : goal.returns-in_default-clause-spec
returns-in_default-clause-spec c values h =
    let fine = contrary c.args.self values c.is_contrary.result h c.is_contrary.ensures ∙ c.if-is_contrary.false in
    let kind = kind_by c.args.self values c.unwrap_or.result h c.unwrap_or.ensures ∙ sym c.in_default.ensures in
    sym (spec_of-no_kind values fine kind)

pub returns-clause-spec : goal.returns-clause-spec
returns-clause-spec c values h =
    let fine = contrary c.args.self values c.is_contrary.result h c.is_contrary.ensures ∙ c.if-is_contrary.false in
    let kind = kind_by c.args.self values c.unwrap_or.result h c.unwrap_or.ensures ∙ sym c.in-Some.ensures in
    let spec : MapSpec = record { kind = c.in-Some.kind; key_size = c.unwrap_or-2.result; value_size = c.unwrap_or-3.result; max_entries = c.unwrap_or-4.result; initial = c.new.result } in
    let same : spec_by c.args.self c.in-Some.kind ≡ spec = rw (c.unwrap_or-2.ensures, c.or.ensures, c.unwrap_or-3.ensures, c.or-2.ensures, c.unwrap_or-4.ensures, c.new.ensures) refl in
    let by_given : spec_by (given_by values) c.in-Some.kind ≡ spec = ap (λ (given : Given). spec_by given c.in-Some.kind) (sym h) ∙ same in
    let made : MapSpec → Result MapSpec ℕ = λ one. Ok one in
    sym (spec_of-kind values c.in-Some.kind fine kind ∙ ap made by_given)
