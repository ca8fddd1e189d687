use Rattle.std.proofs.Common.{◌∙◌, refl, arith}
use Rattle.watch_rounds.proofs.Tallies.{refilled, filled_room}
use Rattle.watch_rounds.proofs.rounds.extend.Goals as goal

pub push_reserved-requires : goal.push_reserved-requires
push_reserved-requires c = let low = filled_room c.loop.tallies.items c.args.tallies.now.items c.loop.counter
    c.args.more c.loop-test.true c.loop.invariant.items in
    let long = c.loop.tallies.ok in let room = c.requires.room in let same = c.loop.invariant.room in omega arith

pub loop-preserved : goal.loop-preserved
loop-preserved c = record {
  items = refilled c.loop.tallies.items c.push_reserved.new.self.items c.args.tallies.now.items c.default.result
      c.loop.counter c.args.more
      c.loop-test.true c.push_reserved.ensures.items (rw (c.default.ensures.0, c.default.ensures.1) refl)
      c.loop.invariant.items;
  room = c.push_reserved.ensures.capacity ∙ c.loop.invariant.room;
}
