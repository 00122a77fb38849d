use Rattle.script_text.proofs.ReadBack.{numbers_back, frames_back, octets_back, groups_back, lists_back, directions_back, protocols_back}
use Rattle.script_text.proofs.TraceBack.{traces_back}
use Rattle.script_text.proofs.laws.reads_back.Goals as goal

pub returns-clause-numbers : goal.returns-clause-numbers
returns-clause-numbers c = numbers_back

pub returns-clause-frames : goal.returns-clause-frames
returns-clause-frames c = frames_back

pub returns-clause-octets : goal.returns-clause-octets
returns-clause-octets c = octets_back

pub returns-clause-groups : goal.returns-clause-groups
returns-clause-groups c = groups_back

pub returns-clause-lists : goal.returns-clause-lists
returns-clause-lists c = lists_back

pub returns-clause-directions : goal.returns-clause-directions
returns-clause-directions c = directions_back

pub returns-clause-protocols : goal.returns-clause-protocols
returns-clause-protocols c = protocols_back

pub returns-clause-traces : goal.returns-clause-traces
returns-clause-traces c = traces_back
