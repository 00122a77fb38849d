use Rattle.std.proofs.Common.{◌≡◌, ◌*◌, ◌≤◌, ◌++◌, length, map, ◌-◌}
use Rattle.btf_types.specs.TypeBytes as bytes_of
use Rattle.btf_types.proofs.type_bytes.push_entries.Given as goal

-- the parts so far and those of the entries that are left are all
abbrev pub invariant-loop : goal.invariant-loop
invariant-loop l =
    let part = bytes_of.part_of (bytes_of.kind_of l.head) in
    let left = bytes_of.entry_count l.head - l.counter in
    record {
      there : 12 * left ≤ length l.rest;
      parts : l.parts ++ map part (bytes_of.entries_from left 12 l.rest) ≡ l.initial.parts ++ map part (bytes_of.entries_of l.head);
    }
