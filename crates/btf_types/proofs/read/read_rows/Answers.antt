use Rattle.std.proofs.Common.{◌<◌, length, length-append, arith, ◌∙◌}
use Rattle.btf_types.specs.TypeBytes.{parts_of}
use Rattle.btf_types.proofs.Rows.{parts_more, rows_more}
use Rattle.btf_types.proofs.TypesIn.{whole_more}
use Rattle.btf_types.proofs.read.read_rows.Goals as goal

pub loop-rest-preserved : goal.loop-rest-preserved
loop-rest-preserved c =
    let rest = c.loop-rest.rest.now in
    let some : 0 < length rest = omega (arith, c.bytes_behind-rest.ensures.shorter) in
    record {
      whole = rw c.bytes_behind-rest.ensures.value ((whole_more rest some c.loop-rest.invariant.whole).1);
      rows =
          rw (c.in_ok-push.ensures.ok, c.row_of.ensures, c.in_ok-push_parts.ensures, c.bytes_behind-rest.ensures.value, c.len-first.ensures, length-append c.loop-rest.parts (parts_of rest))
          (rows_more c.loop-rest.rows (length c.loop-rest.parts) rest some ∙ c.loop-rest.invariant.rows);
      parts =
          rw (c.in_ok-push_parts.ensures, c.bytes_behind-rest.ensures.value) (parts_more c.loop-rest.parts rest some ∙ c.loop-rest.invariant.parts);
    }
