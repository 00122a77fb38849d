use Rattle.std.proofs.Common.{◌≡◌, ◌++◌, length, sym, ap, ◌∙◌}
use Rattle.std.proofs.lemmas.List.{length-map}
use Rattle.xio.proofs.PrintLemmas.{prints_stop, prints_then}
use Rattle.xdp_state.proofs.Joined.{length-joined}
use Rattle.xdp_state.specs.Book.{AllTaken}
use Rattle.xdp_state.specs.Sums.{joined, tally_of}
use Rattle.xdp_tool.proofs.Walking.{count-is}
use Rattle.xdp_tool.specs.QueueView.{queue_of}
use Rattle.xdp_tool.specs.Walked.{AreRising}
use Rattle.xdp_tool.proofs.texts.phase_print.Goals as goal

pub returns-in_err-items_print-clause-prints : goal.returns-in_err-items_print-clause-prints
returns-in_err-items_print-clause-prints g c = λ begun phase past carried shows is.
    let sums : c.before-2.result.now ≡ tally_of past.all = c.before-2.ensures ∙ ap (λ s. s.before) shows.sums in
    let changes : begun ++ c.deref.result.now ≡ phase.work.published = ap (λ xs. begun ++ xs) c.deref.ensures.value ∙ is.published in
    let items : c.deref-2.result.now ≡ phase.items = c.deref-2.ensures.value ∙ is.items in
    let taken : AllTaken (begun ++ c.deref.result.now) = rw changes is.taken in
    let rising : AreRising (length begun) c.deref-2.result.now (length (begun ++ c.deref.result.now)) = rw (changes, items) is.rising in
    prints_stop _ c.from_residual.result c.from_residual.ensures.0
    (rw (changes, items) at (c.in_err-items_print.ensures.prints begun past shows.rules sums taken rising))

pub returns-in_err-closing_print-clause-prints : goal.returns-in_err-closing_print-clause-prints
returns-in_err-closing_print-clause-prints g c = λ begun phase past carried shows is.
    let sums : c.before-2.result.now ≡ tally_of past.all = c.before-2.ensures ∙ ap (λ s. s.before) shows.sums in
    let changes : begun ++ c.deref.result.now ≡ phase.work.published = ap (λ xs. begun ++ xs) c.deref.ensures.value ∙ is.published in
    let items : c.deref-2.result.now ≡ phase.items = c.deref-2.ensures.value ∙ is.items in
    let taken : AllTaken (begun ++ c.deref.result.now) = rw changes is.taken in
    let rising : AreRising (length begun) c.deref-2.result.now (length (begun ++ c.deref.result.now)) = rw (changes, items) is.rising in
    let book = rw changes at (c.in_ok-items_print.ensures.state begun shows.rules taken rising) in
    let number : c.count.result ≡ length phase.work.published = count-is phase.work.published c.count.result is.taken (c.count.ensures ∙ ap (λ b. b.count) book) in
    prints_then _ (rw (changes, items) at (c.in_ok-items_print.ensures.prints begun past shows.rules sums taken rising))
    (prints_stop _ c.from_residual-in_err-closing_print.result c.from_residual-in_err-closing_print.ensures.0
    (rw (is.barrier, number) at c.in_err-closing_print.ensures))

pub returns-clause-prints : goal.returns-clause-prints
returns-clause-prints g c = λ begun phase past carried shows is.
    let sums : c.before-2.result.now ≡ tally_of past.all = c.before-2.ensures ∙ ap (λ s. s.before) shows.sums in
    let changes : begun ++ c.deref.result.now ≡ phase.work.published = ap (λ xs. begun ++ xs) c.deref.ensures.value ∙ is.published in
    let items : c.deref-2.result.now ≡ phase.items = c.deref-2.ensures.value ∙ is.items in
    let taken : AllTaken (begun ++ c.deref.result.now) = rw changes is.taken in
    let rising : AreRising (length begun) c.deref-2.result.now (length (begun ++ c.deref.result.now)) = rw (changes, items) is.rising in
    let book = rw changes at (c.in_ok-items_print.ensures.state begun shows.rules taken rising) in
    let number : c.count.result ≡ length phase.work.published = count-is phase.work.published c.count.result is.taken (c.count.ensures ∙ ap (λ b. b.count) book) in
    let queues = c.args.shown.now.queues in
    let lists : length (joined past.by_processor carried) ≡ length queues =
    length-joined past.by_processor carried ∙ (shows.processors ∙ (sym (ap length shows.queues) ∙ length-map queues queue_of)) in
    prints_then _ (rw (changes, items) at (c.in_ok-items_print.ensures.prints begun past shows.rules sums taken rising))
    (prints_then _ (rw (is.barrier, number) at c.in_ok-closing_print.ensures)
    (rw shows.queues at (c.processors_print.ensures (joined past.by_processor carried) (ap (λ s. s.by_processor) shows.sums) lists)))
