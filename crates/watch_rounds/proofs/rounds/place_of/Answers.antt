use Rattle.std.proofs.Common.{◌<◌, ◌+◌, ◌-◌, ◌/◌, ℕ, ap, arith}
use Rattle.watch_rounds.specs.declared.rounds.DueWatcher.{DueWatcher}
use Rattle.watch_rounds.proofs.Places.{rising_at}
use Rattle.watch_rounds.proofs.rounds.place_of.Goals as goal

middle : (low high : ℕ) → low < high → low + (high - low) / 2 < high
middle low high less = omega arith

pub loop-low-preserved-then-place : goal.loop-low-preserved-then-place
loop-low-preserved-then-place c =
    let m = c.loop-low.low + (c.loop-low.high - c.loop-low.low) / 2 in
    let within = middle c.loop-low.low c.loop-low.high c.loop-low-test.true in
    let most = c.loop-low.invariant.high in record {
      low = omega arith;
      high = most;
      before = λ i d low.
          let le = rising_at c.args.due.now.items i m d c.index.result.now c.requires (omega arith) (omega arith) in
          let at = ap (λ (one : DueWatcher). one.watcher) c.index.ensures in let here = c.place.ensures in let there = c.place-in-loop-low.ensures in let less = c.if-place.true in
          omega arith;
      from = c.loop-low.invariant.from;
    }

pub loop-low-preserved : goal.loop-low-preserved
loop-low-preserved c =
    let m = c.loop-low.low + (c.loop-low.high - c.loop-low.low) / 2 in
    let within = middle c.loop-low.low c.loop-low.high c.loop-low-test.true in
    let most = c.loop-low.invariant.high in record {
      low = omega arith;
      high = omega arith;
      before = c.loop-low.invariant.before;
      from = λ i d high low.
          let le = rising_at c.args.due.now.items m i c.index.result.now d c.requires high low in
          let at = ap (λ (one : DueWatcher). one.watcher) c.index.ensures in let here = c.place.ensures in let there = c.place-in-loop-low.ensures in let less = c.if-place.false in
          omega arith;
    }
