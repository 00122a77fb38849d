use Rattle.std.proofs.Common.{◌≡◌, ◌++◌, length}
use Rattle.std.specs.List.{flat_map, AllByRecursion}
use Rattle.btf_types.specs.Reading.{rows_from}
use Rattle.btf_types.specs.Sections.{types_in}
use Rattle.btf_types.specs.TypeBytes.{parts_of, IsWhole}
use Rattle.btf_types.proofs.read.read_rows.Given as goal

-- the rows and parts so far, and those of the types that are left, are all
abbrev pub invariant-loop-rest : goal.invariant-loop-rest
invariant-loop-rest l = record {
  whole : AllByRecursion IsWhole (types_in l.rest);
  rows : l.rows ++ rows_from (length l.parts) (types_in l.rest) ≡ rows_from 0 (types_in l.section);
  parts : l.parts ++ flat_map parts_of (types_in l.rest) ≡ flat_map parts_of (types_in l.section);
}

abbrev pub decreases-loop-rest : goal.decreases-loop-rest
decreases-loop-rest l = length l.rest
