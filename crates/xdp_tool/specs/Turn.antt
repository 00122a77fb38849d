-- What a walk's next line asks of who calls the walk.
use Rattle.std.specs.Prelude.{ℕ, List, [], ◌∷◌, Some, None}
use Rattle.script_text.specs.declared.what.Line.{Line}
use Rattle.script_text.specs.declared.what.What.{What}
use Rattle.script_text.specs.declared.what.What.TheVariants as what
use Rattle.xdp_state.specs.Answer.{answer}
use Rattle.xdp_state.specs.Book.{after}
use Rattle.xdp_state.specs.declared.library.Library.{Library}
use Rattle.xdp_state.specs.declared.judgement.Judgement.{Judgement}
use Rattle.xdp_state.specs.declared.judgement.Judgement.TheVariants.{Accepted, Shown, Refused}
use Rattle.xdp_tool.specs.Plan.{Phase, with_what}
use Rattle.xdp_tool.specs.declared.turn.Turn.{Turn}
use Rattle.xdp_tool.specs.declared.turn.Turn.TheVariants.{Publish, HandIn, Again, End}

-- only an accepted change is to be published
abbrev pub answered : Judgement → Turn
answered (Accepted change) = Publish change
answered Shown = Again
answered (Refused reason) = Again

abbrev pub asked : Library → Phase → ℕ → What → Turn
asked library phase line (what.Command command) = answered (answer library (after phase.work.published) command)
asked library phase line (what.Packet processor frame) = HandIn processor
asked library phase line what.Barrier = End (Some line)

-- by the lines that are left: the turn, and the phase after it
abbrev pub turn_of : Library → Phase → List Line → Turn
turn_of library phase [] = End None
turn_of library phase (line ∷ lines) = asked library phase line.line line.what

abbrev pub phase_after : Library → Phase → List Line → Phase
phase_after library phase [] = phase
phase_after library phase (line ∷ lines) = with_what library line.line line.what phase
