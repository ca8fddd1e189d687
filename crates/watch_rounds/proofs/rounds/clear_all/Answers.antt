use Rattle.std.proofs.Common.{◌≡◌, ◌∙◌, ℕ, replicate, refl, ap, arith}
use Rattle.std.proofs.lemmas.List.{length-set}
use Rattle.watch_rounds.specs.Round.{blank}
use Rattle.watch_rounds.proofs.Tallies.{among_item, cleared_more, cleared_all}
use Rattle.watch_rounds.proofs.rounds.clear_all.Goals as goal

pub index_mut-requires : goal.index_mut-requires
index_mut-requires c =
    let low = c.requires.within c.name-item.result
    (among_item c.args.names.now c.loop-name.name-index c.name-item.result c.loop-name-test.true c.name-item.is) in
    let long = c.loop-name.invariant.long in let len = c.loop-name.tallies.ok.0 in let is = c.place.ensures in
    omega arith

pub loop-name-preserved : goal.loop-name-preserved
loop-name-preserved c =
    let low = c.requires.within c.name-item.result
    (among_item c.args.names.now c.loop-name.name-index c.name-item.result c.loop-name-test.true c.name-item.is) in
    let long = c.loop-name.invariant.long in
    let clear : c.default.result ≡ blank = rw (c.default.ensures.0, c.default.ensures.1) refl in
    rw (c.place.ensures, clear) (record {
      long = length-set c.loop-name.tallies.items c.name-item.result blank ∙ long;
      left = cleared_more c.loop-name.tallies.items c.args.names.now c.loop-name.name-index c.name-item.result
          c.loop-name-test.true
          c.name-item.is (omega arith) c.loop-name.invariant.left;
      room = c.loop-name.invariant.room;
    })

pub returns-clause-items : goal.returns-clause-items
returns-clause-items c = cleared_all c.loop-name.tallies.items c.args.names.now c.loop-name.name-index c.loop-name-test.false
    c.loop-name.invariant.left
    ∙ ap (λ (n : ℕ). replicate n blank) c.loop-name.invariant.long

pub returns-clause-room : goal.returns-clause-room
returns-clause-room c = c.loop-name.invariant.room
