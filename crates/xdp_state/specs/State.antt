-- How a state stands for a book, and what it keeps.
use Rattle.std.specs.Prelude.{◌≡◌, ◌≤◌, ℕ, ◌+◌, nat_lt, List, [], ◌∷◌, ◌++◌, filter, length, map, slice_get, Some}
use Rattle.chain_order.specs.Chain.{IsChain}
use Rattle.chain_order.specs.Sorted.{by_key}
use Rattle.xdp_state.specs.Book.{Book}
use Rattle.xdp_state.specs.Members.{Attached, members_of}
use Rattle.xdp_state.specs.declared.hook.Hook.{Hook}
use Rattle.xdp_state.specs.declared.state.State.TheInside.{Inside}

-- the members of a hook, and of all hooks from this interface on
abbrev pub attached_at : ℕ → Hook → List Attached
attached_at interface hook = map (λ member. record { interface = interface; mode = hook.mode; member = member }) hook.chain

abbrev pub attached_from : ℕ → List Hook → List Attached
attached_from interface [] = []
attached_from interface (hook ∷ hooks) = attached_at interface hook ++ attached_from (interface + 1) hooks

-- Members are numbered in order of attaching.
abbrev pub in_order : List Attached → ℕ → List Attached
in_order attached count = by_key (λ a. a.member.number) 1 count attached

abbrev pub view_of : Inside → Book
view_of s = record {
  members = in_order (attached_from 0 s.hooks.items) s.count;
  rows = s.rules;
  dumps = s.dumps;
  count = s.count;
}

-- eight interfaces, each with the chain of its members, and so many changes
pub record IsWhole (s : Inside) : Type 0 where
  pub hooks : length s.hooks.items ≡ 8
  -- none has a number above the count
  pub numbers : filter (λ a. nat_lt s.count a.member.number) (attached_from 0 s.hooks.items) ≡ []
  pub chains : (interface : ℕ) (hook : Hook) → slice_get s.hooks.items interface ≡ Some hook
      → IsChain (map (λ a. a.member) (members_of (view_of s).members interface)) hook.chain
  pub count : s.count ≤ 65536
