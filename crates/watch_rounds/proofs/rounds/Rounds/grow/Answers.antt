use Rattle.std.proofs.Common.{◌++◌, ◌∙◌, List, replicate, ap, arith}
use Rattle.std.proofs.lemmas.List.{length-append, length-replicate}
use Rattle.watch_rounds.specs.declared.tally.Tally.{Tally}
use Rattle.watch_rounds.specs.Round.{blank}
use Rattle.watch_rounds.proofs.Stays.{room_of, round_grown}
use Rattle.watch_rounds.proofs.Tallies.{tracked_grown}
use Rattle.watch_rounds.proofs.rounds.Rounds.grow.Goals as goal

pub overflow_sub-nodes : goal.overflow_sub-nodes
overflow_sub-nodes c =
    let stands = c.self.invariant.0 in
    let most = room_of c.self.inside.due.items c.self.inside.tallies.items c.self.inside.nodes stands.round in
    let long = c.self.inside.due.ok.0 in let is = c.len-2.ensures in let greater = c.greater-nodes.ensures in
    omega arith

pub invariant_of-self-2 : goal.invariant_of-self-2
invariant_of-self-2 c =
    let stands = c.self.invariant.0 in
    let more = c.saturating_sub-more.result in
    let is = c.extend.ensures.items ∙ ap (λ (l : List Tally). l ++ replicate more blank) c.find_room.ensures.tallies in
    let greater = c.greater-nodes.ensures in let roomy = c.greater-names.ensures in
    let fewer = c.saturating_sub-more.ensures in
    let long = length-append c.self.inside.tallies.items (replicate more blank) in
    let n = length-replicate more blank in
    let most = room_of c.self.inside.due.items c.self.inside.tallies.items c.self.inside.nodes stands.round in
    let room = c.in_ok-reserve.ensures.ok in let found = c.in_ok-find_room.ensures.room in
    let len = c.len.ensures in let len2 = c.len-2.ensures in let kept = c.reserve.ensures.len in
    let due = c.self.inside.due.ok.0 in let tallies = c.self.inside.tallies.ok.0 in
    let counted = c.self.invariant.2 in
    rw (is, c.find_room.ensures.ran, c.reserve.ensures.items, c.extend.ensures.room) (
      record {
        round = round_grown c.self.inside.due.items c.self.inside.tallies.items c.self.inside.nodes
            c.greater-nodes.result more (omega arith) stands.round;
        tracked = tracked_grown c.self.inside.tallies.items c.self.inside.ran.items more stands.tracked;
        limit = let was = stands.limit in let fits = c.ranges.nodes.fits in omega arith;
      },
      omega arith,
      omega arith,
      omega (arith, found.0),
      omega (arith, found.1),
    )
