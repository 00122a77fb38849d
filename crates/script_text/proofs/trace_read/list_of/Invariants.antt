use Rattle.std.proofs.Common.{◌≡◌, ◌++◌, drop, vec_len}
use Rattle.script_text.proofs.trace_read.list_of.Given as goal

-- the lists so far, and those that are left
abbrev pub invariant-loop-place : goal.invariant-loop-place
invariant-loop-place l = record {
  lists : l.list ++ drop l.place l.counts.items ≡ l.initial.counts.items;
  processors : vec_len l.counts ≡ vec_len l.initial.counts;
}
