use Rattle.std.proofs.Common.{◌≡◌, ◌++◌, refl, sym, ap, ◌∙◌, arith, length, append-nil, replicate, []}
use Rattle.std.proofs.lemmas.List.{length-replicate}
use Rattle.xdp_tool.specs.Queues.{queues_of}
use Rattle.xdp_tool.proofs.Walking.{or-none, steady-none}
use Rattle.xdp_tool.proofs.walk.Walk.open_next.Goals as goal

pub returns-clause-opened : goal.returns-clause-opened
returns-clause-opened c = λ begun phase at.
    let processors : c.len.result ≡ length (queues_of c.args.self.now.script.now.library.interfaces) =
    c.len.ensures ∙ (omega (arith, c.args.self.now.hand_ins.ok) ∙ (ap length at.hand_ins ∙ at.processors)) in
    record {
      items = ap (λ v. v.items) c.replace-items.ensures.after ∙ c.new.ensures.items;
      published = sym (ap (λ xs. phase.work.published ++ xs) (ap (λ v. v.items) c.replace-changes.ensures.after ∙ c.new-2.ensures.items) ∙ append-nil phase.work.published);
      hand_ins = c.in_ok-self.ensures ∙ ap (λ n. replicate n []) processors;
      packets = at.packets;
      refused = at.refused ∙ or-none _;
      taken = at.taken;
      rising = omega arith;
      steady = steady-none _ _ _;
      processors = length-replicate _ _;
      open_still = refl;
    }
