-- Frames that stand one behind another in a buffer.
use Rattle.std.proofs.Common.{◌≡◌, ℕ, ◌+◌, ◌≤◌, List, [], ◌∷◌, ◌++◌, drop, length, take, refl, ap, ◌∙◌, subst, Option, Some, None, arith}
use Rattle.std.specs.Prelude.{option_map}
use Rattle.std.specs.List.{AllByRecursion}
use Rattle.std.proofs.Math.Seq.{drop-append_seam}
use Rattle.std.proofs.lemmas.List.{drop-append-le, length-drop, map-append, take-append-le, take_all}
use Rattle.xdp_state.specs.Dump.{captured}
use Rattle.xdp_state.specs.Frames.{IsInside, frames_in, marked}
use Rattle.xdp_state.specs.declared.dump.Captured.{Captured}
use Rattle.xdp_state.specs.declared.frames.Mark.{Mark}

-- more bytes behind them
marked-grown : (bytes more : List ℕ) (mark : Mark) → mark.start + mark.kept ≤ length bytes → marked (bytes ++ more) mark ≡ marked bytes mark
marked-grown bytes more mark inside =
    let long = length-drop mark.start bytes in
    ap (λ kept. let c : Captured = record { length = mark.length; snap = mark.snap; kept = kept } in c)
    (ap (take mark.kept) (drop-append-le mark.start bytes more (omega arith)) ∙ take-append-le mark.kept (drop mark.start bytes) more (omega (arith, long)))

grown-one : (bytes more : List ℕ) (mark : Option Mark) → IsInside (length bytes) mark → option_map (marked (bytes ++ more)) mark ≡ option_map (marked bytes) mark
grown-one bytes more None inside = refl
grown-one bytes more (Some mark) inside = ap (λ (c : Captured). Some c) (marked-grown bytes more mark inside)

frames-grown : (bytes more : List ℕ) (marks : List (Option Mark)) → AllByRecursion (IsInside (length bytes)) marks → frames_in (bytes ++ more) marks ≡ frames_in bytes marks
frames-grown bytes more [] inside = refl
frames-grown bytes more (mark ∷ marks) inside =
    ap (λ c. c ∷ frames_in (bytes ++ more) marks) (grown-one bytes more mark inside.0)
    ∙ ap (λ cs. option_map (marked bytes) mark ∷ cs) (frames-grown bytes more marks inside.1)

-- one frame more, where so many bytes stood before
pub frames-more : (bytes more : List ℕ) (size : ℕ) (marks : List (Option Mark)) (mark : Option Mark) (new : Option Captured) → size ≡ length bytes → AllByRecursion (IsInside size) marks
    → option_map (marked (bytes ++ more)) mark ≡ new → frames_in (bytes ++ more) (marks ++ mark ∷ []) ≡ frames_in bytes marks ++ new ∷ []
frames-more bytes more size marks mark new long inside is =
    map-append (λ m. option_map (marked (bytes ++ more)) m) marks (mark ∷ [])
    ∙ ap (λ cs. cs ++ option_map (marked (bytes ++ more)) mark ∷ []) (frames-grown bytes more marks (subst (λ n. AllByRecursion (IsInside n) marks) long inside))
    ∙ ap (λ c. frames_in bytes marks ++ c ∷ []) is

-- the frame whose bytes are the last
pub marked-last : (bytes frame : List ℕ) (snap start : ℕ) (mark : Mark) → start ≡ length bytes → mark ≡ (let m : Mark = record { length = length frame; snap = snap; start = start; kept = length (take snap frame) } in m)
    → marked (bytes ++ take snap frame) mark ≡ captured snap frame
marked-last bytes frame snap start mark long is =
    let kept = take snap frame in
    ap (marked (bytes ++ kept)) is
    ∙ ap (λ bytes. let c : Captured = record { length = length frame; snap = snap; kept = bytes } in c)
    (ap (λ start. take (length kept) (drop start (bytes ++ kept))) long ∙ ap (take (length kept)) (drop-append_seam bytes kept) ∙ take_all (length kept) kept (omega arith))
