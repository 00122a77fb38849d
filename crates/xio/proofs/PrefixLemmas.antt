-- How prefixes join, and what a written text leaves.
use Rattle.std.proofs.Common.{◌≡◌, ℕ, ◌+◌, inl, inr, List, ◌++◌, length, take, sym, ◌∙◌, ap, append_assoc, min, Result, Ok, Err, arith}
use Rattle.std.proofs.Math.Seq.{take-append_seam, take-append-add}
use Rattle.std.proofs.lemmas.Grind.{common_steps}
use Rattle.std.proofs.lemmas.List.{take-take, take_min, take-append-le}
use Rattle.xio.specs.Prefixes.{AppendsPrefix, AppendsUnless}
use Rattle.xio.specs.Streams.{WritesAll}
use Rattle.xio.specs.Causes.{Rose, HasCause}
use Rattle.xio.specs.declared.write_fault.WriteFault.{WriteFault}

-- a front of a front
take-min : (n m : ℕ) (text : List ℕ) → take n (take m text) ≡ take (min n m) text
take-min n m text = grind (arith, common_steps, take-take n m text, take_min n text)

-- a front of the front is one of the whole
pub take-front : (n : ℕ) (front rest : List ℕ) → take n front ≡ take (min n (length front)) (front ++ rest)
take-front n front rest = sym (take_min n front) ∙ sym (take-append-le (min n (length front)) front rest (omega arith))

-- nothing appended is a prefix
pub prefix_none : (old text : List ℕ) → AppendsPrefix old old text
prefix_none old text = (0, grind (arith, common_steps))

-- the whole text is a prefix
pub prefix_whole : (old text : List ℕ) → AppendsPrefix old (old ++ text) text
prefix_whole old text = (length text, grind (arith, common_steps))

-- its front is a prefix
pub prefix_front : (old front rest : List ℕ) → AppendsPrefix old (old ++ front) (front ++ rest)
prefix_front old front rest = (length front, ap (λ xs. old ++ xs) (sym (take-append_seam front rest)))

-- a prefix of its front is one too
pub prefix_of_front : (old new front rest : List ℕ) → AppendsPrefix old new front → AppendsPrefix old new (front ++ rest)
prefix_of_front old new front rest (n, grown) = (min n (length front), grown ∙ ap (λ xs. old ++ xs) (take-front n front rest))

-- a prefix of a prefix is one too
pub prefix_of_prefix : (old new text : List ℕ) (most : ℕ) → AppendsPrefix old new (take most text) → AppendsPrefix old new text
prefix_of_prefix old new text most (n, grown) = (min n most, grown ∙ ap (λ xs. old ++ xs) (take-min n most text))

-- the front, and then a prefix of the rest
pub prefix_more : (old new front rest : List ℕ) → AppendsPrefix (old ++ front) new rest → AppendsPrefix old new (front ++ rest)
prefix_more old new front rest (n, grown) =
    (length front + n, grown ∙ append_assoc old front (take n rest) ∙ ap (λ xs. old ++ xs) (sym (take-append-add front rest n)))

-- in either case a prefix was appended
pub unless_prefix : (fault : Type 0) (old new text : List ℕ) → AppendsUnless fault old new text → AppendsPrefix old new text
unless_prefix fault old new text (inl whole) = (length text, grind (arith, common_steps, whole))
unless_prefix fault old new text (inr (_, prefix)) = prefix

-- a fault may be taken for a weaker one
pub unless_weaker : (fault weaker : Type 0) (old new text : List ℕ) → (fault → weaker) → AppendsUnless fault old new text → AppendsUnless weaker old new text
unless_weaker fault weaker old new text weaken (inl whole) = inl whole
unless_weaker fault weaker old new text weaken (inr (h, prefix)) = inr (weaken h, prefix)

-- the front, and then the rest unless there was a fault
pub unless_more : (fault : Type 0) (old new front rest : List ℕ) → AppendsUnless fault (old ++ front) new rest → AppendsUnless fault old new (front ++ rest)
unless_more fault old new front rest (inl whole) = inl (whole ∙ append_assoc old front rest)
unless_more fault old new front rest (inr (h, prefix)) = inr (h, prefix_more old new front rest prefix)

-- what was written is whole, unless the sink's count rose
pub unless_written : (old new bytes : List ℕ) (before now : ℕ) (result : Result Unit WriteFault) → WritesAll old new result bytes → HasCause before now result → AppendsUnless (Rose before now) old new bytes
unless_written old new bytes before now (Ok _) whole cause = inl whole
unless_written old new bytes before now (Err fault) part cause = inr (cause.failed, (fault.written, part))
