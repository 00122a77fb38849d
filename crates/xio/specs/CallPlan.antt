-- Which calls of a form in memory are to fail.
use Rattle.std.specs.Prelude.{◌==◌, ℕ, ◌+◌, ◌-◌, ◌^◌, Bool, List, min}
use Rattle.std.specs.List.{list_any}

pub record CallPlan : Type 0 where
  -- the numbers of the calls that are to fail, from 1
  pub failing : List ℕ
  -- how many calls were made
  pub made : ℕ

-- one more call; all calls from number 2^32 - 1 on count as that one
abbrev pub next_call : CallPlan → CallPlan
next_call plan = record plan { made = min (plan.made + 1) (2 ^ 32 - 1) }

-- whether the last call is one that is to fail
abbrev pub is_failing : CallPlan → Bool
is_failing plan = list_any (λ n. n == plan.made) plan.failing
