use Rattle.std.proofs.Common.{◌∙◌, sym}
use Rattle.xdp_state.proofs.Judging.{answer-taken}
use Rattle.xdp_state.proofs.answer.judge.Goals as goal

pub returns-in-LoaderLoad-clause-answer : goal.returns-in-LoaderLoad-clause-answer
returns-in-LoaderLoad-clause-answer c = rw c.in-LoaderLoad.is c.judge_load.ensures

pub returns-in-LoaderLoad-clause-taken : goal.returns-in-LoaderLoad-clause-taken
returns-in-LoaderLoad-clause-taken c = λ change is room.
    answer-taken c.args.library.now c.args.state.now c.args.command.now change c.requires.rule c.requires.interfaces
    (sym (returns-in-LoaderLoad-clause-answer c) ∙ is) room

pub returns-in-LoaderUnload-clause-answer : goal.returns-in-LoaderUnload-clause-answer
returns-in-LoaderUnload-clause-answer c = rw c.in-LoaderUnload.is (rw c.as_slice.ensures at c.judge_off.ensures)

pub returns-in-LoaderUnload-clause-taken : goal.returns-in-LoaderUnload-clause-taken
returns-in-LoaderUnload-clause-taken c = λ change is room.
    answer-taken c.args.library.now c.args.state.now c.args.command.now change c.requires.rule c.requires.interfaces
    (sym (returns-in-LoaderUnload-clause-answer c) ∙ is) room

pub returns-in-LoaderStatus-clause-answer : goal.returns-in-LoaderStatus-clause-answer
returns-in-LoaderStatus-clause-answer c = rw c.in-LoaderStatus.is c.judge_status.ensures

pub returns-in-LoaderStatus-clause-taken : goal.returns-in-LoaderStatus-clause-taken
returns-in-LoaderStatus-clause-taken c = λ change is room.
    answer-taken c.args.library.now c.args.state.now c.args.command.now change c.requires.rule c.requires.interfaces
    (sym (returns-in-LoaderStatus-clause-answer c) ∙ is) room

pub returns-in-FilterLoad-clause-answer : goal.returns-in-FilterLoad-clause-answer
returns-in-FilterLoad-clause-answer c = rw c.in-FilterLoad.is (rw c.as_slice-in-FilterLoad.ensures at c.judge_filter.ensures)

pub returns-in-FilterLoad-clause-taken : goal.returns-in-FilterLoad-clause-taken
returns-in-FilterLoad-clause-taken c = λ change is room.
    answer-taken c.args.library.now c.args.state.now c.args.command.now change c.requires.rule c.requires.interfaces
    (sym (returns-in-FilterLoad-clause-answer c) ∙ is) room

pub returns-in-FilterUnload-clause-answer : goal.returns-in-FilterUnload-clause-answer
returns-in-FilterUnload-clause-answer c = rw c.in-FilterUnload.is (rw c.as_slice-in-FilterUnload.ensures at c.judge_filter_off.ensures)

pub returns-in-FilterUnload-clause-taken : goal.returns-in-FilterUnload-clause-taken
returns-in-FilterUnload-clause-taken c = λ change is room.
    answer-taken c.args.library.now c.args.state.now c.args.command.now change c.requires.rule c.requires.interfaces
    (sym (returns-in-FilterUnload-clause-answer c) ∙ is) room

pub returns-then-remove-clause-answer : goal.returns-then-remove-clause-answer
returns-then-remove-clause-answer c = rw (c.in-FilterRule.is, c.if-remove.true) c.judge_clear.ensures

pub returns-then-remove-clause-taken : goal.returns-then-remove-clause-taken
returns-then-remove-clause-taken c = λ change is room.
    answer-taken c.args.library.now c.args.state.now c.args.command.now change c.requires.rule c.requires.interfaces
    (sym (returns-then-remove-clause-answer c) ∙ is) room

pub returns-else-remove-clause-answer : goal.returns-else-remove-clause-answer
returns-else-remove-clause-answer c = rw (c.in-FilterRule.is, c.if-remove.false) c.judge_set.ensures

pub returns-else-remove-clause-taken : goal.returns-else-remove-clause-taken
returns-else-remove-clause-taken c = λ change is room.
    answer-taken c.args.library.now c.args.state.now c.args.command.now change c.requires.rule c.requires.interfaces
    (sym (returns-else-remove-clause-answer c) ∙ is) room

pub returns-in-DumpStart-clause-answer : goal.returns-in-DumpStart-clause-answer
returns-in-DumpStart-clause-answer c = rw c.in-DumpStart.is (rw c.as_slice-in-DumpStart.ensures at c.judge_dump.ensures)

pub returns-in-DumpStart-clause-taken : goal.returns-in-DumpStart-clause-taken
returns-in-DumpStart-clause-taken c = λ change is room.
    answer-taken c.args.library.now c.args.state.now c.args.command.now change c.requires.rule c.requires.interfaces
    (sym (returns-in-DumpStart-clause-answer c) ∙ is) room

pub returns-in-DumpStop-clause-answer : goal.returns-in-DumpStop-clause-answer
returns-in-DumpStop-clause-answer c = rw c.in-DumpStop.is (rw c.as_slice-in-DumpStop.ensures at c.judge_dump_off.ensures)

pub returns-in-DumpStop-clause-taken : goal.returns-in-DumpStop-clause-taken
returns-in-DumpStop-clause-taken c = λ change is room.
    answer-taken c.args.library.now c.args.state.now c.args.command.now change c.requires.rule c.requires.interfaces
    (sym (returns-in-DumpStop-clause-answer c) ∙ is) room
