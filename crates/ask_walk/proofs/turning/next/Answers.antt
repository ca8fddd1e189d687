use Rattle.std.proofs.Common.{ℕ, ◌<◌, List, length, sym, subst}
use Rattle.walks.specs.Walk.{Among}
use Rattle.curve_terms.specs.declared.terms.Helper.{Helper}
use Rattle.desk_terms.specs.Terms.{helper_references}
use Rattle.desk_model.specs.Market.{named}
use Rattle.ask_walk.proofs.Inputs.{stock_within, helpers_within}
use Rattle.object_store.specs.Market.{market_in}
use Rattle.ask_walk.proofs.turning.next.Goals as goal

pub read-requires-clause-within : goal.read-requires-clause-within
read-requires-clause-within c = stock_within (market_in c.args.market.now) c.args.object c.in-Stock.quote c.own_terms.result.now c.requires.linked (sym c.own_terms.ensures) c.in-Stock.is

pub helper_entries-requires-clause-within : goal.helper_entries-requires-clause-within
helper_entries-requires-clause-within c =
    subst (λ (l : List Helper). (x : ℕ) → Among x (named (helper_references l)) → x < length c.args.market.now.objects) (sym c.items-helpers.ensures)
    (helpers_within (market_in c.args.market.now) c.args.object c.in-Curve.curve c.own_terms.result.now c.requires.linked (sym c.own_terms.ensures) c.in-Curve.is)
