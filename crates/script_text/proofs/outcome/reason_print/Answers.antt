use Rattle.xio.proofs.PrintLemmas.{prints_stop, prints_then}
use Rattle.script_text.specs.Texts.{reason_text}
use Rattle.script_text.proofs.outcome.reason_print.Goals as goal

pub returns-in_err-print-in-BadObject : goal.returns-in_err-print-in-BadObject
unfolding reason_text
returns-in_err-print-in-BadObject g c =
    rw c.in-BadObject.is (prints_stop _ c.from_residual.result c.from_residual.ensures.0 c.in_err-print-in-BadObject.ensures)

pub returns-in_ok-print-in-BadObject : goal.returns-in_ok-print-in-BadObject
unfolding reason_text
returns-in_ok-print-in-BadObject g c =
    rw c.in-BadObject.is (prints_then _ c.in_ok-print-in-BadObject.ensures c.refusal_print.ensures)

pub returns-in-NoInterface : goal.returns-in-NoInterface
unfolding reason_text
returns-in-NoInterface g c = rw c.in-NoInterface.is c.print.ensures

pub returns-in-ModeDiffers : goal.returns-in-ModeDiffers
unfolding reason_text
returns-in-ModeDiffers g c = rw c.in-ModeDiffers.is c.print-in-ModeDiffers.ensures

pub returns-in-NothingLoaded : goal.returns-in-NothingLoaded
unfolding reason_text
returns-in-NothingLoaded g c = rw c.in-NothingLoaded.is c.print-in-NothingLoaded.ensures

pub returns-in-FilterThere : goal.returns-in-FilterThere
unfolding reason_text
returns-in-FilterThere g c = rw c.in-FilterThere.is c.print-in-FilterThere.ensures

pub returns-in-FilterNotThere : goal.returns-in-FilterNotThere
unfolding reason_text
returns-in-FilterNotThere g c = rw c.in-FilterNotThere.is c.print-in-FilterNotThere.ensures

pub returns-in-FeatureMissing : goal.returns-in-FeatureMissing
unfolding reason_text
returns-in-FeatureMissing g c = rw c.in-FeatureMissing.is c.print-in-FeatureMissing.ensures

pub returns-in-NoSuchRule : goal.returns-in-NoSuchRule
unfolding reason_text
returns-in-NoSuchRule g c = rw c.in-NoSuchRule.is c.print-in-NoSuchRule.ensures

pub returns-in-DumpThere : goal.returns-in-DumpThere
unfolding reason_text
returns-in-DumpThere g c = rw c.in-DumpThere.is c.print-in-DumpThere.ensures

pub returns-in-DumpNotThere : goal.returns-in-DumpNotThere
unfolding reason_text
returns-in-DumpNotThere g c = rw c.in-DumpNotThere.is c.print-in-DumpNotThere.ensures
