-- What a call of a helper leads to.
use Rattle.std.proofs.Common.{◌≡◌, Option, Some, None, sym, ap}
use Rattle.bpf_machine.specs.declared.environment.Env.{Env}
use Rattle.bpf_machine.specs.declared.helpers.Helper.{Helper}
use Rattle.bpf_machine.specs.Helpers.{help, helper_act, after_help}
use Rattle.bpf_machine.specs.Next.{Faults}
use Rattle.bpf_machine.specs.State.{State}

pub help_fault : (env : Env) (s t : State) (helper : Helper) (found : Option Helper) → found ≡ Some helper → help env s helper ≡ None → t ≡ s → helper_act env s found ≡ Faults t
unfolding helper_act after_help
help_fault env s t helper found is none same = rw (is, none) (ap Faults (sym same))
