use Rattle.std.proofs.Common.{◌≡◌, ℕ, ◌+◌, ◌*◌, ◌<◌, ◌≤◌, Option, None, replicate, length, ap, ◌∙◌, arith}
use Rattle.std.proofs.lemmas.List.{length-replicate}
use Rattle.std.proofs.Math.Nat.{mul-add}
use Rattle.map_store.specs.Spec.{rounded}
use Rattle.map_store.specs.Slots.{is_array}
use Rattle.map_store.specs.Initial.{first_map, first_value}
use Rattle.map_store.specs.SlotsView.{part}
use Rattle.map_store.proofs.Start.{AreInRange, in_range, key_most, four_bytes, rounded_above, first_slots-are, first_indices}
use Rattle.map_store.proofs.Filing.{none_filed}
use Rattle.map_store.proofs.Writes.{with_slots}
use Rattle.map_store.proofs.slots.Slots.new.Goals as goal

pub new-requires-clause-some : goal.new-requires-clause-some
new-requires-clause-some c = let some : 1 ≤ c.args.spec.now.max_entries = (in_range c.args.spec.now c.requires.spec.rules).entries_least in omega arith

pub new-requires-clause-few : goal.new-requires-clause-few
new-requires-clause-few c = (in_range c.args.spec.now c.requires.spec.rules).entries_most

pub invariant_of-result : goal.invariant_of-result
invariant_of-result c =
    let ranges : AreInRange c.args.spec.now = in_range c.args.spec.now c.requires.spec.rules in
    let least : 1 ≤ c.args.spec.now.value_size = ranges.value_least in
    let step : c.args.spec.now.value_size ≤ rounded c.args.spec.now.value_size = rounded_above c.args.spec.now.value_size in
    let stride : c.rounded-stride.result ≡ rounded c.args.spec.now.value_size = c.rounded-stride.ensures in
    let taken : c.in_ok-taken.taken ≡ replicate c.args.spec.now.max_entries (is_array c.args.spec.now.kind) = c.in_ok-taken.ensures ∙ ap (replicate c.args.spec.now.max_entries) c.is_array.ensures in
    let count : length c.in_ok-taken.taken ≡ c.args.spec.now.max_entries = ap length taken ∙ length-replicate c.args.spec.now.max_entries (is_array c.args.spec.now.kind) in
    let some : 1 ≤ c.args.spec.now.max_entries = ranges.entries_least in
    let keys : length c.in_ok-first_keys.field-0.items ≡ c.args.spec.now.max_entries * c.args.spec.now.key_size = c.in_ok-first_keys.ensures.size in
    let values : length c.in_ok-first_values.field-0.items ≡ c.args.spec.now.max_entries * c.rounded-stride.result = c.in_ok-first_values.ensures.size in
    let values' : length c.in_ok-first_values.field-0.items ≡ c.args.spec.now.max_entries * rounded c.args.spec.now.value_size = values ∙ ap (λ (n : ℕ). c.args.spec.now.max_entries * n) stride in
    let sum : c.args.spec.now.max_entries * (c.args.spec.now.key_size + rounded c.args.spec.now.value_size) ≡ c.args.spec.now.max_entries * c.args.spec.now.key_size + c.args.spec.now.max_entries * rounded c.args.spec.now.value_size =
    mul-add c.args.spec.now.max_entries c.args.spec.now.key_size (rounded c.args.spec.now.value_size) in
    let room : c.args.spec.now.max_entries * (c.args.spec.now.key_size + rounded c.args.spec.now.value_size) ≤ 4194304 = c.requires.room in
    record {
      stride = stride;
      keys = rw count keys;
      values = rw count values;
      step = omega arith;
      some = omega arith;
      room = omega arith;
      keys_room = omega arith;
      key_small = key_most c.args.spec.now.kind c.args.spec.now.key_size ranges.key;
      value_small = ranges.value_most;
      slots = omega arith;
      few = rw count ranges.entries_most;
      array = four_bytes c.args.spec.now.kind c.args.spec.now.key_size ranges.key;
      indices = first_indices c.args.spec.now c.in_ok-first_keys.field-0.items c.in_ok-taken.taken taken c.in_ok-first_keys.ensures.indices;
      buckets = λ hash. none_filed c.args.spec.now.key_size c.in_ok-first_keys.field-0.items c.args.spec.now.max_entries c.in_ok-taken.taken c.in_ok-chains.chains
          (taken ∙ ap (replicate c.args.spec.now.max_entries) hash) (c.in_ok-chains.ensures ∙ ap (λ (n : ℕ). replicate {A = Option ℕ} n None) (rw hash at c.chained_slots.ensures));
    }

pub returns : goal.returns
unfolding first_map
returns c =
    let ranges : AreInRange c.args.spec.now = in_range c.args.spec.now c.requires.spec.rules in
    let taken : c.in_ok-taken.taken ≡ replicate c.args.spec.now.max_entries (is_array c.args.spec.now.kind) = c.in_ok-taken.ensures ∙ ap (replicate c.args.spec.now.max_entries) c.is_array.ensures in
    let values : (place : ℕ) → place < c.args.spec.now.max_entries → part c.args.spec.now.value_size (rounded c.args.spec.now.value_size) c.in_ok-first_values.field-0.items place ≡ first_value c.args.spec.now =
    rw c.rounded-stride.ensures at c.in_ok-first_values.ensures.values in
    with_slots c.args.spec.now.kind c.args.spec.now.key_size c.args.spec.now.value_size _ _
    (first_slots-are c.args.spec.now c.in_ok-first_keys.field-0.items c.in_ok-first_values.field-0.items c.in_ok-taken.taken taken (four_bytes c.args.spec.now.kind c.args.spec.now.key_size ranges.key) c.in_ok-first_keys.ensures.indices values)
