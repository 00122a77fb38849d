-- Maps that keep the rules behind one another.
use Rattle.std.proofs.Common.{◌≡◌, ℕ, zero, suc, ◌+◌, ◌*◌, ◌<◌, ◌≤◌, true, false, List, [], ◌∷◌, ◌++◌, length, length-append, take, drop, get_or, Option, Some, None, cond, refl, ap, sym, ◌∙◌, subst, arith}
use Rattle.std.specs.Prelude.{nat_lt, nat_le, sum_by}
use Rattle.std.specs.Option.{option_or}
use Rattle.std.proofs.lemmas.Bool.Decides.{nat_tests}
use Rattle.std.proofs.lemmas.List.{map-append, length-map, take-append-drop}
use Rattle.std.proofs.lemmas.List.Elements.{All-push}
use Rattle.std.proofs.lemmas.List.Sums.{sum_by_push, sum_by-append}
use Rattle.map_store.specs.declared.spec.MapSpec.{MapSpec}
use Rattle.map_store.specs.Initial.{AreMakeable, HasInitial, IsMakeable}
use Rattle.map_store.specs.Spec.{spec_rule, slot_size}
use Rattle.run_config.specs.declared.named_map.NamedMap.{NamedMap}
use Rattle.run_config.specs.MapRules.{most_maps, most_room, room_of, rule_behind, total_room}
use Rattle.run_config.specs.Maps.{specs_of}

-- the room of maps, as a store asks for it
pub room_is : (specs : List MapSpec) → sum_by (λ spec. spec.max_entries * slot_size spec) specs ≡ total_room specs
unfolding total_room room_of
room_is specs = refl

pub no_room : total_room [] ≡ 0
unfolding total_room
no_room = refl

pub total_room-append : (specs others : List MapSpec) → total_room (specs ++ others) ≡ total_room specs + total_room others
unfolding total_room
total_room-append specs others = sum_by-append room_of specs others

pub total_room-push : (specs : List MapSpec) (spec : MapSpec) → total_room (specs ++ spec ∷ []) ≡ total_room specs + room_of spec
unfolding total_room
total_room-push specs spec = sum_by_push room_of specs spec

-- the rule of each case
pub rule_own : (specs : List MapSpec) (spec : MapSpec) (rule : ℕ) → spec_rule spec ≡ Some rule → rule_behind specs spec ≡ Some rule
unfolding rule_behind
rule_own specs spec rule own = rw own refl

pub rule_room : (specs : List MapSpec) (spec : MapSpec) → spec_rule spec ≡ None → most_room < total_room specs + room_of spec → rule_behind specs spec ≡ Some 9
unfolding rule_behind
rule_room specs spec own over =
    let much : nat_lt most_room (total_room (specs ++ spec ∷ [])) ≡ true = rw (total_room-push specs spec) (grind (arith, nat_tests)) in
    rw (own, much) refl

fits_room : (specs : List MapSpec) (spec : MapSpec) → total_room specs + room_of spec ≤ most_room → nat_lt most_room (total_room (specs ++ spec ∷ [])) ≡ false
fits_room specs spec fits = rw (total_room-push specs spec) (grind (arith, nat_tests))

pub rule_count : (specs : List MapSpec) (spec : MapSpec) → spec_rule spec ≡ None → total_room specs + room_of spec ≤ most_room → most_maps ≤ length specs → rule_behind specs spec ≡ Some 10
unfolding rule_behind
rule_count specs spec own fits many =
    let full : nat_le most_maps (length specs) ≡ true = grind (arith, nat_tests) in
    rw (own, fits_room specs spec fits, full) refl

pub rule_none : (specs : List MapSpec) (spec : MapSpec) → spec_rule spec ≡ None → total_room specs + room_of spec ≤ most_room → length specs < most_maps → rule_behind specs spec ≡ None
unfolding rule_behind
rule_none specs spec own fits few =
    let free : nat_le most_maps (length specs) ≡ false = grind (arith, nat_tests) in
    rw (own, fits_room specs spec fits, free) refl

-- what holds where no rule is broken
pub record Keeps (specs : List MapSpec) (spec : MapSpec) : Type 0 where
  pub own : spec_rule spec ≡ None
  pub fits : total_room specs + room_of spec ≤ most_room
  pub few : length specs < most_maps

keeps_by : (specs : List MapSpec) (spec : MapSpec) (own : Option ℕ) → spec_rule spec ≡ own → option_or own (cond (nat_lt most_room (total_room (specs ++ spec ∷ []))) (Some 9) (cond (nat_le most_maps (length specs)) (Some 10) None)) ≡ None → Keeps specs spec
keeps_by specs spec (Some rule) own none = absurd (cc)
keeps_by specs spec None own none =
    let total = total_room-push specs spec in
    record { own = own; fits = grind (arith, nat_tests); few = grind (arith, nat_tests) }

pub keeps : (specs : List MapSpec) (spec : MapSpec) → rule_behind specs spec ≡ None → Keeps specs spec
unfolding rule_behind
keeps specs spec none = keeps_by specs spec (spec_rule spec) refl none

-- one map more
pub makeable-push : (specs : List MapSpec) (spec : MapSpec) → AreMakeable specs → HasInitial spec → rule_behind specs spec ≡ None → AreMakeable (specs ++ spec ∷ [])
makeable-push specs spec makeable initial none =
    let kept = keeps specs spec none in
    let total = total_room-push specs spec in
    record {
      each = All-push IsMakeable specs spec makeable.each (record { rules = kept.own; initial = initial });
      count = omega (arith, length-append specs (spec ∷ []), kept.few);
      room = rw (room_is (specs ++ spec ∷ [])) (omega (arith, total, kept.fits));
    }

pub makeable-none : AreMakeable []
makeable-none = record { each = λ k d within. absurd (omega arith); count = omega arith; room = omega arith }

get-front : {A : Type 0} (xs ys : List A) (k : ℕ) (d : A) → k < length xs → get_or (xs ++ ys) k d ≡ get_or xs k d
get-front [] ys k d within = absurd (omega arith)
get-front (x ∷ xs) ys zero d within = refl
get-front (x ∷ xs) ys (suc k) d within = get-front xs ys k d (omega arith)

get-last : {A : Type 0} (xs : List A) (x : A) → get_or (xs ++ x ∷ []) (length xs) x ≡ x
get-last [] x = refl
get-last (y ∷ xs) x = get-last xs x

-- the first of them
pub makeable-front : (specs others : List MapSpec) → AreMakeable (specs ++ others) → AreMakeable specs
makeable-front specs others makeable =
    let count = makeable.count in
    let room : total_room (specs ++ others) ≤ most_room = rw (← room_is (specs ++ others)) makeable.room in
    record {
      each = λ k d within. subst IsMakeable (get-front specs others k d within) (makeable.each k d (omega (arith, length-append specs others)));
      count = omega (arith, length-append specs others, count);
      room = rw (room_is specs) (omega (arith, room, total_room-append specs others));
    }

pub no_rule : (specs : List MapSpec) (spec : MapSpec) → AreMakeable (specs ++ spec ∷ []) → rule_behind specs spec ≡ None
no_rule specs spec makeable =
    let room : total_room (specs ++ spec ∷ []) ≤ most_room = rw (← room_is (specs ++ spec ∷ [])) makeable.room in
    let count = makeable.count in
    let last : get_or (specs ++ spec ∷ []) (length specs) spec ≡ spec = get-last specs spec in
    let own : IsMakeable spec = subst IsMakeable last (makeable.each (length specs) spec (omega (arith, length-append specs (spec ∷ [])))) in
    rule_none specs spec own.rules (omega (arith, room, total_room-push specs spec)) (omega (arith, count, length-append specs (spec ∷ [])))

-- by named maps
pub specs_of-push : (maps : List NamedMap) (one : NamedMap) → specs_of (maps ++ one ∷ []) ≡ specs_of maps ++ one.spec ∷ []
specs_of-push maps one = map-append (λ (x : NamedMap). x.spec) maps (one ∷ [])

pub length-specs_of : (maps : List NamedMap) → length (specs_of maps) ≡ length maps
length-specs_of maps = length-map maps (λ (x : NamedMap). x.spec)

pub makeable-take : (maps : List NamedMap) (count : ℕ) → AreMakeable (specs_of maps) → AreMakeable (specs_of (take count maps))
makeable-take maps count makeable =
    let joined : specs_of (take count maps) ++ specs_of (drop count maps) ≡ specs_of maps = sym (map-append (λ (x : NamedMap). x.spec) (take count maps) (drop count maps)) ∙ ap specs_of (take-append-drop count maps) in
    makeable-front (specs_of (take count maps)) (specs_of (drop count maps)) (subst AreMakeable (sym joined) makeable)

pub ruleset rule_cases = (rule_own, rule_room, rule_count, rule_none, length-specs_of)

-- the map at a place
get-specs : (maps : List NamedMap) (k : ℕ) (d : NamedMap) → get_or (specs_of maps) k d.spec ≡ (get_or maps k d).spec
get-specs [] k d = refl
get-specs (one ∷ maps) zero d = refl
get-specs (one ∷ maps) (suc k) d = get-specs maps k d

pub spec_kept : (maps : List NamedMap) (k : ℕ) (one : NamedMap) → one ≡ get_or maps k one → k < length maps → AreMakeable (specs_of maps) → spec_rule one.spec ≡ None
spec_kept maps k one here within makeable =
    let there : get_or (specs_of maps) k one.spec ≡ one.spec = get-specs maps k one ∙ ap (λ (x : NamedMap). x.spec) (sym here) in
    let is : IsMakeable one.spec = subst IsMakeable there (makeable.each k one.spec (omega (arith, length-specs_of maps))) in
    is.rules

take-one : (maps : List NamedMap) (k : ℕ) (d : NamedMap) → k < length maps → take (k + 1) maps ≡ take k maps ++ get_or maps k d ∷ []
take-one [] k d within = absurd (omega arith)
take-one (one ∷ maps) zero d within = refl
take-one (one ∷ maps) (suc k) d within = let next : suc k + 1 ≡ suc (k + 1) = omega arith in rw next (ap (λ xs. one ∷ xs) (take-one maps k d (omega arith)))

-- the room of the maps up to a place, and of the one there
pub room-step : (maps : List NamedMap) (k room here : ℕ) (one : NamedMap) → one ≡ get_or maps k one → k < length maps → room ≡ total_room (specs_of (take k maps)) → here ≡ room_of one.spec → room + here ≡ total_room (specs_of (take (k + 1) maps))
room-step maps k room here one is within so_far of_one =
    let parts : take (k + 1) maps ≡ take k maps ++ one ∷ [] = take-one maps k one within ∙ ap (λ (x : NamedMap). take k maps ++ x ∷ []) (sym is) in
    let specs : specs_of (take (k + 1) maps) ≡ specs_of (take k maps) ++ one.spec ∷ [] = ap specs_of parts ∙ specs_of-push (take k maps) one in
    let total = total_room-push (specs_of (take k maps)) one.spec in
    rw specs (omega (arith, total, so_far, of_one))

pub room-small : (maps : List NamedMap) (k : ℕ) → AreMakeable (specs_of maps) → total_room (specs_of (take k maps)) ≤ most_room
room-small maps k makeable = rw (← room_is (specs_of (take k maps))) (makeable-take maps k makeable).room

pub makeable-add : (maps added : List NamedMap) (one : NamedMap) → added ≡ maps ++ one ∷ [] → AreMakeable (specs_of maps) → HasInitial one.spec → rule_behind (specs_of maps) one.spec ≡ None → AreMakeable (specs_of added)
makeable-add maps added one is makeable initial none =
    subst AreMakeable (sym (ap specs_of is ∙ specs_of-push maps one)) (makeable-push (specs_of maps) one.spec makeable initial none)
