use Rattle.run_config.proofs.Bits.{mask_from-clear, mask_from-set}
use Rattle.run_config.proofs.settings.with_bit.Goals as goal

pub returns-then-is_set : goal.returns-then-is_set
returns-then-is_set c has h =
    rw c.if-is_set.true (mask_from-set c.args.action c.number-bit.result c.args.mask has c.number-bit.ensures.value h)

pub returns-else-is_set : goal.returns-else-is_set
returns-else-is_set c has h =
    rw c.if-is_set.false (mask_from-clear c.args.action c.number-bit.result c.args.mask has c.number-bit.ensures.value h)
