use Rattle.std.proofs.Common.{◌∙◌, ◌<◌, ℕ, List, length, sym, ap, subst}
use Rattle.std.specs.List.{All}
use Rattle.desk_model.specs.Market.{Market, terms_at}
use Rattle.curve_run.specs.Quoted.{quotes_named}
use Rattle.curve_run.proofs.Quoting.{quotes_within}
use Rattle.curve_run.proofs.quoted.line_at.Goals as goal

pub rates_of-requires : goal.rates_of-requires
rates_of-requires c =
    let m : Market = c.args.desk.now.market in
    let o = c.args.curve.now.owner in
    let are = c.as_slice.ensures.value ∙ c.in_ok-quotes.ensures ∙ ap (λ (x : ℕ). quotes_named (terms_at m x)) c.owner.ensures in
    record {
      within = subst (λ (l : List ℕ). All (λ quote. quote < length m.objects) l) (sym are) (quotes_within m o c.shape.ensures.whole.links);
    }
