-- What a list of changes makes, from nothing.
use Rattle.std.specs.Prelude.{◌≡◌, ℕ, ◌+◌, ◌==◌, ◌&&◌, ◌||◌, Bool, true, not, nat_lt, nat_le, List, [], ◌∷◌, ◌++◌, length, fold, replicate, slice_set, Option, Some, None, is_some, if◌then◌else◌}
use Rattle.chain_order.specs.declared.member.Kind.{Kind}
use Rattle.filter_rules.specs.Rule.{all_flags}
use Rattle.filter_rules.specs.Rules.{has_row, set_rule, clear_rule}
use Rattle.filter_rules.specs.declared.rule.RuleKey.{RuleKey}
use Rattle.filter_rules.specs.declared.rule.RuleRow.{RuleRow}
use Rattle.xdp_state.specs.Dump.{dump_on}
use Rattle.xdp_state.specs.Members.{Attached, chain_on, differs, has_filter, is_filter, members_off, members_without, mode_on}
use Rattle.xdp_state.specs.declared.change.Change.{Change}
use Rattle.xdp_state.specs.declared.change.Change.TheVariants.{Attach, Detach, DetachAll, SetRule, ClearRule, DumpOn, DumpOff}
use Rattle.xdp_state.specs.declared.mode.Mode.{Mode}

pub record Book : Type 0 where
  -- in order of attaching
  pub members : List Attached
  -- in order of making
  pub rows : List RuleRow
  -- by interface, the setting of the dump that is on
  pub dumps : List (Option ℕ)
  -- of the publications so far
  pub count : ℕ

abbrev pub empty : Book
empty = record { members = []; rows = []; dumps = replicate 8 None; count = 0 }

-- an interface has fewer than ten members, in no other mode, and where a filter comes no filter
abbrev pub has_place : List Attached → ℕ → Kind → Mode → Bool
has_place members interface kind mode =
    nat_lt (length (chain_on members interface)) 10 && not (differs (mode_on members interface) mode)
    && not (is_filter kind && has_filter (chain_on members interface))

-- some flags of the key's kind
abbrev pub has_own_flags : RuleKey → ℕ → Bool
has_own_flags key flags = not (flags == 0) && nat_le flags (all_flags key.kind)

-- the book takes the change
abbrev pub fits : Book → Change → Bool
fits book (Attach interface kind priority rank mask mode) =
    nat_lt interface 8 && has_place book.members interface kind mode
fits book (Detach interface number clear_rules) = nat_lt interface 8
fits book (DetachAll interface) = nat_lt interface 8
fits book (SetRule key flags) = has_own_flags key flags && (has_row book.rows key || nat_lt (length book.rows) 4096)
fits book (ClearRule key flags) = has_own_flags key flags
fits book (DumpOn interface setting) = nat_lt interface 8 && not (is_some (dump_on book.dumps interface))
fits book (DumpOff interface) = nat_lt interface 8

abbrev pub takes : Book → Change → Bool
takes book change = nat_lt book.count 65536 && fits book change

-- the change made, as the publication of the next number
abbrev pub made : Book → Change → Book
made book (Attach interface kind priority rank mask mode) = record book {
  members = book.members ++ record {
    interface = interface;
    mode = mode;
    member = record { priority = priority; rank = rank; number = book.count + 1; mask = mask; kind = kind };
  } ∷ [];
  count = book.count + 1;
}
made book (Detach interface number clear_rules) = record book {
  members = members_without book.members interface number;
  rows = if clear_rules then [] else book.rows;
  count = book.count + 1;
}
made book (DetachAll interface) = record book {
  members = members_off book.members interface;
  count = book.count + 1;
}
made book (SetRule key flags) = record book {
  rows = set_rule book.rows key flags (book.count + 1);
  count = book.count + 1;
}
made book (ClearRule key flags) = record book {
  rows = clear_rule book.rows key flags;
  count = book.count + 1;
}
made book (DumpOn interface setting) = record book {
  dumps = slice_set book.dumps interface (Some setting);
  count = book.count + 1;
}
made book (DumpOff interface) = record book {
  dumps = slice_set book.dumps interface None;
  count = book.count + 1;
}

-- a change that the book does not take changes nothing
abbrev pub applied : Book → Change → Book
applied book change = if takes book change then made book change else book

abbrev pub after : List Change → Book
after changes = fold applied empty changes

-- each change is taken after those before it
abbrev pub all_taken_from : Book → List Change → Bool
all_taken_from book [] = true
all_taken_from book (change ∷ changes) = takes book change && all_taken_from (made book change) changes

abbrev pub AllTaken : List Change → Type 0
AllTaken changes = all_taken_from empty changes ≡ true
