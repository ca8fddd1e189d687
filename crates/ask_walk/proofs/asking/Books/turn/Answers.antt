use Rattle.std.proofs.Common.{refl, ◌∙◌, to_z-of_z}
use Rattle.object_store.specs.Market.{market_in}
use Rattle.ask_walk.proofs.Totals.{items_ranged, items_read, sum_fits, totalled}
use Rattle.ask_walk.proofs.asking.Books.turn.Goals as goal

pub next_member-requires-clause-range : goal.next_member-requires-clause-range
next_member-requires-clause-range g c = items_ranged (market_in c.args.market.now) c.args.self.now.store.kept c.args.begun.now.object c.own_terms.result.now c.in-Composite.parts c.items.result.now c.own_terms.ensures c.in-Composite.is c.items.ensures c.requires.ranged

pub next_member-requires-clause-read : goal.next_member-requires-clause-read
next_member-requires-clause-read g c = items_read (market_in c.args.market.now) c.args.self.now.store.kept c.args.begun.now.object c.own_terms.result.now c.in-Composite.parts c.items.result.now c.own_terms.ensures c.in-Composite.is c.items.ensures c.args.begun.now refl c.requires.begun

pub returns-in_ok-cause-in-Ready-clause-turns : goal.returns-in_ok-cause-in-Ready-clause-turns
returns-in_ok-cause-in-Ready-clause-turns g c =
    let range = items_ranged (market_in c.args.market.now) c.args.self.now.store.kept c.args.begun.now.object c.own_terms.result.now c.in-Composite.parts c.items.result.now c.own_terms.ensures c.in-Composite.is c.items.ensures c.requires.ranged in
    let fits = sum_fits c.args.self.now.store.kept c.items.result.now c.next_member.new.begun.read c.next_member.new.begun.sum range c.next_member.ensures.read in record {
      did = totalled (market_in c.args.market.now) c.args.self.now.store.kept c.args.begun.now.object c.own_terms.result.now c.in-Composite.parts c.items.result.now c.own_terms.ensures c.in-Composite.is c.items.ensures
          c.next_member.new.begun.sum c.next_member.result c.next_member.ensures.next c.in-Ready.is
          (g.B.Bench.calc c.args.bench.now) c.total.new.store.kept c.in_ok-cause-in-Ready.cause (g.B.Bench.count c.args.bench.now) (g.B.Bench.count c.total.new.bench) (g.B.Bench.log c.args.bench.now) (g.B.Bench.log c.total.new.bench)
          c.requires.run (λ parts inputs formed same. c.in_ok-cause-in-Ready.ensures.computes parts inputs formed (to_z-of_z fits ∙ same)) c.in_ok-cause-in-Ready.ensures.count c.in_ok-cause-in-Ready.ensures.log;
    }
