use Rattle.std.proofs.Common.{◌≡◌, false, sym, ap, ◌∙◌}
use Rattle.xdp_state.specs.Answer.{filter_answer}
use Rattle.xdp_state.specs.Members.{chain_on, has_filter}
use Rattle.xdp_state.proofs.Judging.{found_at}
use Rattle.xdp_state.proofs.Lesser.{filter-known}
use Rattle.xdp_state.proofs.answer.filter.judge_filter.Goals as goal

pub rank-requires-clause-known : goal.rank-requires-clause-known
rank-requires-clause-known c = filter-known c.args.library.now

pub returns : goal.returns
returns c =
    let book = c.args.state.now in
    let i = c.in-Some.interface in
    let none : has_filter (chain_on book.members i) ≡ false = ap has_filter (sym c.chain.ensures) ∙ sym c.has_filter.ensures ∙ c.if-has_filter.false in
    rw (found_at c.args.library.now c.args.name.now (filter_answer c.args.library.now book c.args.kind c.args.mode) i c.in-Some.ensures.place, none, ← c.rank.ensures) c.judge_attach.ensures
