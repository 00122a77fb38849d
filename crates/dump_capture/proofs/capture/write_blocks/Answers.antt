use Rattle.dump_capture.proofs.Putting.{first_fault, second_stops, second_writes, stops_first}
use Rattle.dump_capture.proofs.capture.write_blocks.Goals as goal

pub returns-in-Ok-clause-held : goal.returns-in-Ok-clause-held
returns-in-Ok-clause-held g c told =
    second_writes _ _ _ c.args.first.now c.args.second.now _ (c.in-Ok.ensures.held told) (c.write_block-in-Ok.ensures.held told) c.write_block-in-Ok.ensures.within

pub returns-in-Ok-clause-within : goal.returns-in-Ok-clause-within
returns-in-Ok-clause-within g c = second_stops c.args.first.now c.args.second.now _ c.write_block-in-Ok.ensures.within

pub returns-in-Err-clause-held : goal.returns-in-Err-clause-held
returns-in-Err-clause-held g c told =
    first_fault _ _ c.args.first.now c.args.second.now c.in-Err.end (c.in-Err.ensures.held told) c.in-Err.ensures.within

pub returns-in-Err-clause-within : goal.returns-in-Err-clause-within
returns-in-Err-clause-within g c = stops_first c.args.first.now c.args.second.now c.in-Err.end c.in-Err.ensures.within
