use Rattle.std.proofs.Common.{◌∙◌, sym}
use Rattle.std.specs.Prelude.{is_ok}
use Rattle.pcapng_text.proofs.Framing.{printed_same}
use Rattle.dump_capture.proofs.Putting.{blocks-known, blocks-new, chosen-same, shown-known}
use Rattle.dump_capture.specs.Point.{plain_of}
use Rattle.dump_capture.proofs.capture.print_point.Goals as goal

pub returns-in-Some-clause-prints : goal.returns-in-Some-clause-prints
returns-in-Some-clause-prints g c =
    printed_same c.packet_block_print.ensures
    (sym (blocks-known c.args.keys.now.written (plain_of c.args.point.now) c.in-Some.number (sym c.number_of.ensures ∙ c.in-Some.is)))

pub returns-in-Some-clause-keys : goal.returns-in-Some-clause-keys
returns-in-Some-clause-keys g c =
    chosen-same (is_ok c.packet_block_print.result) c.args.keys.now _
    (shown-known c.args.keys.now (plain_of c.args.point.now) c.in-Some.number (sym c.number_of.ensures ∙ c.in-Some.is))

pub returns-in-None-clause-prints : goal.returns-in-None-clause-prints
returns-in-None-clause-prints g c =
    printed_same c.print_first.ensures.prints (sym (blocks-new c.args.keys.now.written (plain_of c.args.point.now) (sym c.number_of.ensures ∙ c.in-None.is)))
