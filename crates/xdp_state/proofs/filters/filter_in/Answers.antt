use Rattle.std.proofs.Common.{◌≡◌, Bool, List, [], ◌∷◌, find, refl, sym, ap, ◌∙◌, inl, inr}
use Rattle.std.specs.List.{list_any}
use Rattle.std.specs.Option.{is_some, option_map_or}
use Rattle.std.proofs.lemmas.Bool.{cases_Bool}
use Rattle.chain_order.specs.declared.member.Member.{Member}
use Rattle.xdp_state.specs.Members.{is_filter}
use Rattle.xdp_state.proofs.filters.filter_in.Goals as goal

abbrev passes : Member → Bool
passes member = is_filter member.kind

found : (chain : List Member) → is_some (find passes chain) ≡ list_any passes chain
found [] = refl
found (m ∷ chain) =
    elim (cases_Bool (passes m)) [
      | inl h ↦ rw h refl
      | inr h ↦ rw h (found chain)
    ]

pub returns-in_err-filter-clause-there : goal.returns-in_err-filter-clause-there
returns-in_err-filter-clause-there c = rw c.from_residual.ensures (ap is_some (sym c.in_err-filter.was ∙ c.first_filter.ensures) ∙ found c.args.chain.now)

pub returns-clause-there : goal.returns-clause-there
returns-clause-there c = ap is_some (sym c.in_ok-filter.was ∙ c.first_filter.ensures) ∙ found c.args.chain.now

pub returns-clause-number : goal.returns-clause-number
returns-clause-number c = ap (λ o. option_map_or (λ (m : Member). m.number) o 0) (sym c.in_ok-filter.was ∙ c.first_filter.ensures)
