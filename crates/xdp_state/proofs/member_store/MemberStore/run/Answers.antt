use Rattle.std.proofs.Common.{length, ap, sym, ◌∙◌}
use Rattle.std.proofs.lemmas.List.{length-map}
use Rattle.map_store.specs.Slots.{shape_of}
use Rattle.bpf_machine.proofs.Outcomes.{outcome_is}
use Rattle.xdp_state.proofs.member_store.MemberStore.run.Goals as goal

pub invariant_of-self : goal.invariant_of-self
invariant_of-self c =
    sym (length-map c.run.new.store shape_of) ∙ ap length c.run.ensures.shapes ∙ length-map c.self.inside.store shape_of ∙ c.self.invariant

pub returns-clause-outcome : goal.returns-clause-outcome
returns-clause-outcome c =
    rw (← c.self.view_is) (outcome_is c.args.code.now.insns c.args.env.now c.self.inside.store c.run.new.store c.args.frame.now c.run.new.frame c.run.result c.requires.code c.run.ensures.only)
