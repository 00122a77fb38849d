use Rattle.std.proofs.Common.{◌∙◌, arith, rules, sym}
use Rattle.command_line.proofs.Replays.{asked, passed}
use Rattle.command_line.proofs.replay.wants_replay.Goals as goal

pub loop-word-preserved : goal.loop-word-preserved
loop-word-preserved c =
    passed c.args.words.now c.loop-word.word-index c.word-item.result (omega arith) c.word-item.is (search rules) (search rules)
    ∙ c.loop-word.invariant

pub returns-then-asks_replay : goal.returns-then-asks_replay
returns-then-asks_replay c =
    sym (asked c.args.words.now c.loop-word.word-index c.word-item.result (omega arith) c.word-item.is (search rules) (search rules))
    ∙ c.loop-word.invariant
