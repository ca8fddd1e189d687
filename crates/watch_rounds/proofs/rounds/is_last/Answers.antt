use Rattle.std.proofs.Common.{◌≡◌, ◌∙◌, ◌-◌, ℕ, length, get_or, ap, arith}
use Rattle.std.proofs.lemmas.Bool.{ltb-true}
use Rattle.watch_rounds.specs.declared.rounds.DueWatcher.{DueWatcher}
use Rattle.watch_rounds.proofs.Places.{place_last}
use Rattle.watch_rounds.proofs.rounds.is_last.Goals as goal

pub returns-in-Some : goal.returns-in-Some
returns-in-Some c = λ less.
    let before = ltb-true c.place.result c.place-in-Some.result less in
    let here = c.place.ensures in let there = c.place-in-Some.ensures in
    let last : c.in-Some.last.now ≡ get_or c.args.due.now.items (length c.args.due.now.items - 1) c.in-Some.last.now =
    c.in-Some.ensures.lookup
    ∙ ap (λ (n : ℕ). get_or c.args.due.now.items (n - 1) c.in-Some.last.now) c.args.due.now.ok.0 in
    let is = ap (λ (one : DueWatcher). one.watcher) last in
    place_last c.args.due.now.items c.args.watcher c.in-Some.last.now c.requires (omega arith)
