use Rattle.std.proofs.Common.{◌≡◌, ◌<◌, ◌+◌, ◌-◌, length, arith}
use Rattle.wave_queue.specs.Thread.{marks_by}
use Rattle.wave_queue.proofs.Threads.{marks_long, stands_wider, wider_long, wider_view}
use Rattle.wave_queue.proofs.wave.Wave.grow.Goals as goal
use Rattle.wave_queue.proofs.wave.Wave.grow.Goals.{After-widen_nexts}

long : (c : After-widen_nexts) → 0 < length c.self.inside.stamps.items + c.saturating_sub-more.result
    → length c.self.inside.stamps.items + c.saturating_sub-more.result
    < length c.self.inside.nexts.items + c.saturating_sub-places.result
long c = wider_long (length c.self.inside.stamps.items) c.saturating_sub-more.result
    (length c.self.inside.nexts.items) c.saturating_sub-places.result c.args.nodes
    (let s = c.saturating_sub-more.ensures in let l = c.len.ensures in let o = c.self.inside.stamps.ok.0 in omega arith)
    (let s = c.saturating_sub-places.ensures in let l = c.len-2.ensures in let o = c.self.inside.nexts.ok.0 in
    omega arith) c.self.invariant.long

pub invariant_of-self-2 : goal.invariant_of-self-2
invariant_of-self-2 c = rw (
  c.widen_stamps.ensures,
  c.widen_nexts.ensures,
  c.in_ok-reserve.ensures.items,
  c.in_ok-reserve-2.ensures.items,
)
    (stands_wider c.self.inside.stamp c.self.inside.stamps.items c.self.inside.nexts.items c.self.inside.done
    c.self.inside.last c.self.invariant c.saturating_sub-more.result c.saturating_sub-places.result (long c)).0

pub returns-clause-ok : goal.returns-clause-ok
returns-clause-ok c =
    let more : c.saturating_sub-more.result
    ≡ c.args.nodes - length (marks_by c.self.inside.stamp c.self.inside.stamps.items) =
    let s = c.saturating_sub-more.ensures in let l = c.len.ensures in let o = c.self.inside.stamps.ok.0 in
    let m = marks_long c.self.inside.stamp c.self.inside.stamps.items in omega arith in
    rw (
      ← c.self.view_is,
      c.widen_stamps.ensures,
      c.widen_nexts.ensures,
      c.in_ok-reserve.ensures.items,
      c.in_ok-reserve-2.ensures.items,
    )
    (wider_view c.self.inside.stamp c.self.inside.stamps.items c.self.inside.nexts.items c.self.inside.done
    c.self.inside.last c.self.invariant c.saturating_sub-more.result c.saturating_sub-places.result
    (c.args.nodes - length (marks_by c.self.inside.stamp c.self.inside.stamps.items)) (long c) more)
