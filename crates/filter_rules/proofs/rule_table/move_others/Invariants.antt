use Rattle.std.proofs.Common.{◌≤◌, ◌+◌, length}
use Rattle.indexmap.specs.Drain.{drain_rest, DrainKeeps}
use Rattle.indexmap.specs.IndexMap.{spare}
use Rattle.filter_rules.proofs.Moving.{Moves}
use Rattle.filter_rules.proofs.rule_table.move_others.Given as goal

abbrev pub invariant-loop-index : goal.invariant-loop-index
invariant-loop-index g l = record {
  moves : Moves l.place l.fn.from.entries (drain_rest l.moving) l.index l.to.entries;
  room : spare l.fn.to ≤ length l.to.entries + spare l.to;
  keeps : DrainKeeps l.initial.moving l.moving;
}
