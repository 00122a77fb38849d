use Rattle.std.proofs.Common.{rules, ◌≡◌, ◌+◌, ◌≤◌, ◌∙◌, [], ◌∷◌, length, ap, sym, arith, refl}
use Rattle.std.proofs.lemmas.List.{length_push}
use Rattle.indexmap.specs.Drain.{drain_rest, drain_kept, drain_room, DrainKeeps}
use Rattle.indexmap.specs.IndexMap.{index_map_len, spare}
use Rattle.indexmap.proofs.CallerLemmas.{insert_entry-new}
use Rattle.filter_rules.proofs.Moving.{Moves, some_from, whole_range, whole_removed, moves-start, moves-on, moves-past, moves-left, moves-short, moves-end, moves-absent}
use Rattle.filter_rules.proofs.rule_table.move_others.Goals as goal
use Rattle.filter_rules.proofs.rule_table.move_others.Goals.{then-index-place, else-index-place}

pub loop-index-init : goal.loop-index-init
loop-index-init g c =
    let all = c.args.from.now.entries in
    record {
      moves = moves-start c.args.place all _ _ (c.drain-moving.ensures.rest ∙ whole_range all) c.requires.empty;
      room = omega arith;
      keeps = (refl, refl, (omega arith, refl), omega arith);
    }

pub unwrap-key-requires : goal.unwrap-key-requires
unwrap-key-requires g c =
    let inv = c.loop-index.invariant in
    some_from _ c.next.result c.next.ensures.steps (λ none. moves-left c.args.place c.args.from.now.entries _ _ _ inv.moves (omega (arith, c.loop-index-test.true, c.len-rows.ensures.len)) none.0)

pub unwrap-requires : goal.unwrap-requires
unwrap-requires g c =
    let inv = c.loop-index.invariant in
    let short = moves-short c.args.place c.args.from.now.entries _ _ _ inv.moves in
    c.insert.ensures.succeeds (omega (arith, inv.room, short, c.loop-index-test.true, c.len-rows.ensures.len, c.requires.room))

pub loop-index-preserved : goal.loop-index-preserved
loop-index-preserved g c =
    let inv = c.loop-index.invariant in
    let all = c.args.from.now.entries in
    let e = c.unwrap-key.result in
    let kept : DrainKeeps c.drain-moving.result c.loop-index.moving = inv.keeps in
    let step : (drain_rest c.loop-index.moving ≡ e ∷ drain_rest c.next.new.self) × DrainKeeps c.loop-index.moving c.next.new.self =
    rw c.unwrap-key.ensures at c.next.ensures.steps in
    let next : DrainKeeps c.loop-index.moving c.next.new.self = step.1 in
    let keeps : DrainKeeps c.drain-moving.result c.next.new.self =
    (next.0 ∙ kept.0, next.1 ∙ kept.1, (omega (arith, kept.2.0, next.2.0), next.2.1 ∙ kept.2.1), omega (arith, kept.3, next.3)) in
    elim c.if-index-place.branch [
      | then-index-place w ↦
          let none = moves-absent g.met.K.Eq.laws c.args.place all _ _ e _ _ inv.moves step.0 c.len-rows.ensures.unique in
          let made = (rw w.unwrap.ensures at w.insert.ensures.entries) ∙ insert_entry-new g.K.PartialEq.eq c.loop-index.to e.0 e.1 none in
          rw w.to-is (record {
            moves = moves-on c.args.place all _ _ e _ _ _ inv.moves step.0 w.if-index-place.true made;
            room = omega (arith, inv.room, w.insert.ensures.spare, ap length made, length_push c.loop-index.to.entries e);
            keeps = keeps;
          })
      | else-index-place w ↦ rw w.to-is (record {
        moves = moves-past c.args.place all _ _ e _ _ _ inv.moves step.0 (omega (arith, w.if-index-place.false)) refl;
        room = inv.room;
        keeps = keeps;
      })
    ]

pub returns-clause-moved : goal.returns-clause-moved
returns-clause-moved g c =
    moves-end c.args.place c.args.from.now.entries _ _ _ c.loop-index.invariant.moves (omega (arith, c.loop-index-test.false, c.loop-index.auto.index-end, c.len-rows.ensures.len))

pub returns-clause-to_room : goal.returns-clause-to_room
returns-clause-to_room g c = c.loop-index.invariant.room

pub returns-clause-emptied : goal.returns-clause-emptied
returns-clause-emptied g c =
    let keeps : DrainKeeps c.drain-moving.result c.loop-index.moving = c.loop-index.invariant.keeps in
    let kept : drain_kept c.loop-index.moving ≡ [] = keeps.1 ∙ c.drain-moving.ensures.kept ∙ whole_removed c.args.from.now.entries in
    search (rules, kept)

pub returns-clause-from_room : goal.returns-clause-from_room
returns-clause-from_room g c =
    let all = c.args.from.now.entries in
    let none : length (drain_kept c.drain-moving.result) ≡ 0 = ap length (c.drain-moving.ensures.kept ∙ whole_removed all) in
    let whole : length (drain_rest c.drain-moving.result) ≡ length all = ap length (c.drain-moving.ensures.rest ∙ whole_range all) in
    let keeps : DrainKeeps c.drain-moving.result c.loop-index.moving = c.loop-index.invariant.keeps in
    let start = c.drain-moving.ensures.capacity (omega (arith, none)) in
    let room : index_map_len c.args.from.now + spare c.args.from.now ≤ drain_room c.loop-index.moving = omega (arith, start, whole, keeps.3) in
    search (rules, room)
