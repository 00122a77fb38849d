use Rattle.std.proofs.Common.{◌≡◌, ℕ, List, ◌*◌, ◌≤◌, length, nat_lt, ◌-◌}
use Rattle.std.specs.List.{list_all}
use Rattle.btf_types.specs.TypeBytes as bytes_of
use Rattle.btf_types.proofs.type_bytes.entries_below.Given as goal

-- the entries so far pass, so those that are left decide
abbrev pub invariant-loop : goal.invariant-loop
invariant-loop l =
    let count = bytes_of.entry_count l.head in
    let passes = λ (entries : List (List ℕ)). list_all (λ entry. nat_lt (bytes_of.word_at entry l.place) l.limit) entries in
    record {
      there : l.width * (count - l.counter) ≤ length l.rest;
      passes : passes (bytes_of.entries_from (count - l.counter) l.width l.rest) ≡ passes (bytes_of.entries_of l.head);
    }
