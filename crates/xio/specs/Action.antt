-- The kernel's numbers of the actions (`enum xdp_action`), and masks of them.
use Rattle.std.specs.Prelude.{ℕ, ◌==◌, ◌/◌, ◌%◌, ◌^◌, Bool}
use Rattle.xio.specs.declared.action.Action.{Action}
use Rattle.xio.specs.declared.action.Action.TheVariants.{Aborted, Drop, Pass, Tx, Redirect}

abbrev pub number : Action → ℕ
number Aborted = 0
number Drop = 1
number Pass = 2
number Tx = 3
number Redirect = 4

-- the mask has the action's bit
abbrev pub has_action : ℕ → Action → Bool
has_action mask action = (mask / 2 ^ number action) % 2 == 1
