use Rattle.std.proofs.Common.{ap, Some, rules}
use Rattle.std.proofs.lemmas.Fn.{always_returns_same}
use Rattle.bpf_insn.proofs.Apart.{found_row, found_only, no_row, searchable}
use Rattle.bpf_insn.proofs.table.look_up.Goals as goal

pub returns-in-Ok-clause-found : goal.returns-in-Ok-clause-found
returns-in-Ok-clause-found c =
    let equal = c.in-Ok.ensures.position (λ row. row.opcode) (always_returns_same _ _ _ (λ a r f' k. search rules)) in
    found_row c.args.rows.now c.args.opcode c.in-Ok.place _ c.in-Ok.ensures.bound equal

pub returns-in-Ok-clause-every : goal.returns-in-Ok-clause-every
returns-in-Ok-clause-every c = λ form found same.
    let equal = c.in-Ok.ensures.position (λ row. row.opcode) (always_returns_same _ _ _ (λ a r f' k. search rules)) in
    ap Some (found_only c.args.rows.now c.requires c.args.opcode c.in-Ok.place _ form c.in-Ok.ensures.bound equal found same)

pub returns-in-Err-clause-every : goal.returns-in-Err-clause-every
returns-in-Err-clause-every c = λ form found same.
    let parts = c.in-Err.ensures.position (λ row. row.opcode) (always_returns_same _ _ _ (λ a r f' k. search rules)) in
    absurd (no_row c.args.rows.now c.args.opcode c.in-Err.field-0 (parts (searchable c.args.rows.now c.args.opcode c.requires)) form found same)
