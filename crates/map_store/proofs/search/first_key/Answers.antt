use Rattle.std.proofs.Common.{◌≡◌, ◌+◌, ◌-◌, ◌*◌, ◌<◌, ◌≤◌, false, length, ◌∙◌, arith}
use Rattle.std.proofs.lemmas.Nat.{row_fits}
use Rattle.map_store.specs.Buckets.{after, bucket_of}
use Rattle.map_store.specs.SlotsView.{has_key_at}
use Rattle.map_store.proofs.Linking.{in_range}
use Rattle.map_store.proofs.Searching.{has_key-slot, search_none, search_found, search_more}
use Rattle.map_store.proofs.search.first_key.Goals as goal

pub overflow_mul-place : goal.overflow_mul-place
overflow_mul-place c =
    let within : c.in-Some.slot < length c.args.chains.now = in_range c.args.chains.now c.in-Some.slot c.bucket_of-bucket.result (c.next.ensures.found c.in-Some.slot c.in-Some.is).1 in
    let fits : c.in-Some.slot * length c.args.key.now + length c.args.key.now ≤ length c.args.chains.now * length c.args.key.now = row_fits c.in-Some.slot (length c.args.key.now) (length c.args.chains.now) (length c.args.key.now) within (omega arith) in
    omega arith

pub is_at-requires : goal.is_at-requires
is_at-requires c =
    let within : c.in-Some.slot < length c.args.chains.now = in_range c.args.chains.now c.in-Some.slot c.bucket_of-bucket.result (c.next.ensures.found c.in-Some.slot c.in-Some.is).1 in
    let fits : c.in-Some.slot * length c.args.key.now + length c.args.key.now ≤ length c.args.chains.now * length c.args.key.now = row_fits c.in-Some.slot (length c.args.key.now) (length c.args.chains.now) (length c.args.key.now) within (omega arith) in
    omega arith

pub returns-then-is_at : goal.returns-then-is_at
returns-then-is_at c =
    let its : c.bucket_of-bucket.result ≡ bucket_of (length c.args.chains.now) c.args.key.now = rw c.len.ensures at c.bucket_of-bucket.ensures.bucket in
    search_found c.args.keys.now c.args.chains.now c.args.key.now c.bucket_of-bucket.result c.loop-slot.before c.next.result c.requires.buckets its c.next.ensures c.loop-slot.invariant.none c.in-Some.slot c.in-Some.is
    (has_key-slot c.args.keys.now c.args.chains.now c.args.key.now c.in-Some.slot c.bucket_of-bucket.result c.is_at.result (c.next.ensures.found c.in-Some.slot c.in-Some.is).1 c.is_at.ensures ∙ c.if-is_at.true)

pub loop-slot-smaller : goal.loop-slot-smaller
loop-slot-smaller c =
    let from : after c.loop-slot.before ≤ c.in-Some.slot = (c.next.ensures.found c.in-Some.slot c.in-Some.is).0 in
    let within : c.in-Some.slot < length c.args.chains.now = in_range c.args.chains.now c.in-Some.slot c.bucket_of-bucket.result (c.next.ensures.found c.in-Some.slot c.in-Some.is).1 in
    let less : length c.args.chains.now - (c.in-Some.slot + 1) < length c.args.chains.now - after c.loop-slot.before = omega arith in
    less

pub loop-slot-preserved : goal.loop-slot-preserved
loop-slot-preserved c =
    let its : c.bucket_of-bucket.result ≡ bucket_of (length c.args.chains.now) c.args.key.now = rw c.len.ensures at c.bucket_of-bucket.ensures.bucket in
    let unlike : has_key_at c.args.keys.now c.args.chains.now c.args.key.now c.in-Some.slot ≡ false =
    has_key-slot c.args.keys.now c.args.chains.now c.args.key.now c.in-Some.slot c.bucket_of-bucket.result c.is_at.result (c.next.ensures.found c.in-Some.slot c.in-Some.is).1 c.is_at.ensures ∙ c.if-is_at.false in
    record {
      found = (c.next.ensures.found c.in-Some.slot c.in-Some.is).1;
      none = search_more c.args.keys.now c.args.chains.now c.args.key.now c.bucket_of-bucket.result c.loop-slot.before c.next.result c.requires.buckets its c.next.ensures c.loop-slot.invariant.none c.in-Some.slot c.in-Some.is unlike;
    }

pub returns : goal.returns
returns c =
    let its : c.bucket_of-bucket.result ≡ bucket_of (length c.args.chains.now) c.args.key.now = rw c.len.ensures at c.bucket_of-bucket.ensures.bucket in
    search_none c.args.keys.now c.args.chains.now c.args.key.now c.bucket_of-bucket.result c.loop-slot.before c.next.result c.requires.buckets its c.next.ensures c.loop-slot.invariant.none c.in_default.is
