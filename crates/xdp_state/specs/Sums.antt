-- The sums over the packets that were carried.
use Rattle.std.specs.Prelude.{ℕ, ◌+◌, ◌==◌, List, [], ◌∷◌, ◌++◌, zero, suc, max, map, replicate, count_by, sum_by, if◌then◌else◌}
use Rattle.std.specs.List.{filter_map, flat_map}
use Rattle.xio.specs.declared.action.Action.{Action}
use Rattle.xio.specs.Action.{number}
use Rattle.xdp_state.specs.Capped.{capped}
use Rattle.xdp_state.specs.RunSums.{RunSums}
use Rattle.xdp_state.specs.declared.carried.Carried.{Carried}
use Rattle.xdp_state.specs.declared.hits.HitRow.{HitRow}
use Rattle.xdp_state.specs.declared.tally.Tally.{Tally}
use Rattle.xdp_state.specs.declared.traversal.Visit.{Visit}

-- a packet's verdict, its length when it was handed in, and the numbers of the rows that its visits name, in order
pub record Counted : Type 0 where
  pub verdict : Action
  pub handed : ℕ
  pub rules : List ℕ

-- the numbers that the visits name
abbrev pub rules_of : List Visit → List ℕ
rules_of visits = filter_map (λ v. v.rule) visits

-- how many packets have the verdict of this number, and their bytes
abbrev pub packets_with : ℕ → List Counted → ℕ
packets_with action carried = count_by (λ c. number c.verdict == action) carried

abbrev pub bytes_with : ℕ → List Counted → ℕ
bytes_with action carried = sum_by (λ c. if number c.verdict == action then c.handed else 0) carried

-- one number for each action, in the order of the kernel's numbers
abbrev pub by_action : (ℕ → ℕ) → List ℕ
by_action f = f 0 ∷ f 1 ∷ f 2 ∷ f 3 ∷ f 4 ∷ []

-- the numbers of all visits of the packets that name a row
abbrev pub named : List Counted → List ℕ
named carried = flat_map (λ c. c.rules) carried

-- how often a number is named
abbrev pub times : List ℕ → ℕ → ℕ
times rules rule = count_by (λ r. r == rule) rules

abbrev pub greatest : List ℕ → ℕ
greatest [] = 0
greatest (r ∷ rs) = max r (greatest rs)

-- of so many numbers from the first on, a row for each that has hits, ascending
unfoldable pub rows_from : (ℕ → ℕ) → ℕ → ℕ → List HitRow
rows_from hits first zero = []
rows_from hits first (suc n) =
    if hits first == 0 then rows_from hits (first + 1) n
    else record { rule = first; hits = capped (hits first) } ∷ rows_from hits (first + 1) n

-- a row for each number that is named
abbrev pub hit_rows : List ℕ → List HitRow
hit_rows rules = rows_from (times rules) 0 (greatest rules + 1)

-- the tally of these packets
unfoldable pub tally_of : List Counted → Tally
tally_of carried = record {
  hits = hit_rows (named carried);
  packets = by_action (λ action. capped (packets_with action carried));
  bytes = by_action (λ action. capped (bytes_with action carried));
}

-- what sums count of a packet that was carried, and of all packets of some processors
abbrev pub counted : Carried → Counted
counted packet = record {
  verdict = packet.traversal.verdict;
  handed = packet.handed;
  rules = rules_of packet.traversal.visits;
}

abbrev pub packets_of : List (List Carried) → List Counted
packets_of carried = flat_map (map counted) carried

-- What was carried in the phases that have ended: by processor, and all packets, by phase and then by processor.
pub record Past : Type 0 where
  pub by_processor : List (List Counted)
  pub all : List Counted

abbrev pub no_past : ℕ → Past
no_past processors = record { by_processor = replicate processors []; all = [] }

-- each processor's packets behind those that it had carried before
abbrev pub joined : List (List Counted) → List (List Carried) → List (List Counted)
joined befores [] = befores
joined [] (packets ∷ carried) = []
joined (before ∷ more) (packets ∷ carried) = (before ++ map counted packets) ∷ joined more carried

abbrev pub past_with : Past → List (List Carried) → Past
past_with past carried = record {
  by_processor = joined past.by_processor carried;
  all = past.all ++ packets_of carried;
}

-- once this phase was added: each processor's sums with it, and those over all processors before it and of it
abbrev pub sums_of : Past → List (List Carried) → RunSums
sums_of past phase = record {
  by_processor = map tally_of (joined past.by_processor phase);
  before = tally_of past.all;
  latest = tally_of (packets_of phase);
}
