use Rattle.std.proofs.Common.{◌≡◌, Some, sym, inl, inr, arith}
use Rattle.std.specs.Result.{result_ok}
use Rattle.hex.specs.Hex.{decode_of}
use Rattle.script_text.proofs.FrameLemmas.{frame_of-other, frame_of-found, decoded_size}
use Rattle.script_text.proofs.frame.Frame.of_digits.Goals as goal
use Rattle.script_text.proofs.frame.Frame.of_digits.Goals.{then-word-via-then-word, then-word-via-else-word+then-word-2}

pub returns-then-word-clause-value : goal.returns-then-word-clause-value
returns-then-word-clause-value c =
    elim c.then-word.branch [
      | then-word-via-then-word w ↦ sym (frame_of-other _ (inl (omega arith)))
      | then-word-via-else-word+then-word-2 w ↦ sym (frame_of-other _ (inr (omega arith)))
    ]

pub returns-in-Some-clause-value : goal.returns-in-Some-clause-value
returns-in-Some-clause-value c =
    let read : Some c.in-Some.bytes.items ≡ result_ok (decode_of c.args.word.now) = rw c.in-Some.is at c.in_ok-bytes.ensures in
    frame_of-found _ _ read (omega arith) (omega arith)

pub returns-in-Some-clause-size : goal.returns-in-Some-clause-size
returns-in-Some-clause-size c =
    let read : Some c.in-Some.bytes.items ≡ result_ok (decode_of c.args.word.now) = rw c.in-Some.is at c.in_ok-bytes.ensures in
    decoded_size _ _ read (omega arith) (omega arith)
