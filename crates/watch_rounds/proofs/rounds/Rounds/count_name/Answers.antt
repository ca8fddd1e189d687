use Rattle.std.proofs.Common.{◌≡◌, ◌<◌, ◌∷◌, ◌++◌, ◌∙◌, [], length, refl, sym, ap, subst, arith}
use Rattle.std.proofs.lemmas.List.{length-append}
use Rattle.watch_rounds.specs.declared.tally.Tally.{Tally}
use Rattle.watch_rounds.specs.Round.{RoundsView, blank}
use Rattle.watch_rounds.proofs.Stays.{round_grown}
use Rattle.watch_rounds.proofs.Tallies.{tracked_grown}
use Rattle.watch_rounds.proofs.rounds.Rounds.count_name.Goals as goal

pub invariant_of-self : goal.invariant_of-self
invariant_of-self c =
    let stands = c.self.invariant.0 in
    let room = subst (λ (v : RoundsView). length v.round.tallies < v.names) (sym c.self.view_is) c.requires.room in
    let clear : c.default.result ≡ blank = rw (c.default.ensures.0, c.default.ensures.1) refl in
    let is = c.push_reserved.ensures.items
    ∙ ap (λ (t : Tally). c.self.inside.tallies.items ++ t ∷ []) clear in
    rw (is, c.push_reserved.ensures.capacity) (
      record {
        round = round_grown c.self.inside.due.items c.self.inside.tallies.items c.self.inside.nodes c.self.inside.nodes 1
            (omega arith) stands.round;
        tracked = tracked_grown c.self.inside.tallies.items c.self.inside.ran.items 1 stands.tracked;
        limit = stands.limit;
      },
      c.self.invariant.1,
      (let long = length-append c.self.inside.tallies.items (blank ∷ []) in omega (arith, room, long)),
      c.self.invariant.3,
      c.self.invariant.4,
    )
