use Rattle.std.proofs.Common.{◌≡◌, ◌≤◌, ◌^◌, ℤ, unsigned_abs, true, Result, sym, ◌∙◌, subst}
use Rattle.std.specs.Prelude.{IfOk}
use Rattle.std.proofs.lemmas.Result.{err_from_is_err_and}
use Rattle.desk_terms.specs.declared.cause.Cause.{Cause}
use Rattle.desk_terms.specs.Reading.{Calc}
use Rattle.desk_model.specs.Market.{Market}
use Rattle.desk_model.specs.Links.{is_lazy_at}
use Rattle.desk_model.specs.Sound.{IsSound}
use Rattle.bump_model.specs.Moves.{AreBumps}
use Rattle.bump_ladder.proofs.Laddering.{instrument_lazy, refused_ends, refused_runs, base_front, climbed_ends, climbed_runs, climbed_front, rungs_did, rungs_front, rungs_runs, rungs_are}
use Rattle.bump_ladder.proofs.asking.ladder.Goals as goal

pub price-requires-clause-lazy : goal.price-requires-clause-lazy
price-requires-clause-lazy g c = instrument_lazy c.args.desk.now.market c.args.object c.requires.instrument

pub bump_rungs-requires : goal.bump_rungs-requires
bump_rungs-requires g c = record {
  lazy = subst (λ (m : Market). is_lazy_at m c.args.object ≡ true) (sym c.price.ensures.market) (instrument_lazy c.args.desk.now.market c.args.object c.requires.instrument);
  base = subst (λ (r : Result ℤ Cause). IfOk r (λ amount. unsigned_abs amount ≤ 10 ^ 24)) c.in-Ok.is c.in_ok-priced.ensures.money;
  bumps = subst (λ (m : Market). AreBumps m c.args.bumps.now) (sym c.price.ensures.market) c.requires.bumps;
  few = c.requires.few;
  sound = subst (λ (k : Calc). IsSound k c.price.new.desk) (sym c.price.ensures.same) c.price.ensures.sound;
  unheld = c.price.ensures.unheld;
}

pub returns-in-Err-clause-answer : goal.returns-in-Err-clause-answer
returns-in-Err-clause-answer g c = record {
  base = (sym c.in_ok-priced.ensures.amount ∙ c.in-Err.is);
  runs = refused_runs (g.B.Bench.calc c.args.bench.now) c.args.size c.args.object c.args.bumps.now c.args.desk.now c.price.new.desk (g.B.Bench.count c.args.bench.now) (g.B.Bench.count c.price.new.bench) (g.B.Bench.log c.args.bench.now) (g.B.Bench.log c.price.new.bench) c.in-Err.cause c.in_ok-priced.priced.runs (sym c.in_ok-priced.ensures.amount ∙ c.in-Err.is) c.in_ok-priced.ensures.runs;
}

pub returns-in-Err-clause-ends : goal.returns-in-Err-clause-ends
returns-in-Err-clause-ends g c =
    refused_ends (g.B.Bench.calc c.args.bench.now) c.args.size c.args.object c.args.bumps.now c.args.desk.now c.price.new.desk (g.B.Bench.count c.args.bench.now) (g.B.Bench.count c.price.new.bench) (g.B.Bench.log c.args.bench.now) (g.B.Bench.log c.price.new.bench) c.in-Err.cause (sym c.in_ok-priced.ensures.amount ∙ c.in-Err.is) c.in_ok-priced.ensures.asks

pub returns-in_ok-climbed-in-Ok-clause-answer : goal.returns-in_ok-climbed-in-Ok-clause-answer
returns-in_ok-climbed-in-Ok-clause-answer g c = record {
  base = (sym c.in_ok-priced.ensures.amount ∙ c.in-Ok.is);
  rungs = rungs_are (g.B.Bench.calc c.args.bench.now) c.args.size (g.B.Bench.calc c.price.new.bench) c.args.desk.now.market c.price.new.desk.market c.args.object c.args.bumps.now c.price.new.desk c.price.ensures.same c.price.ensures.market c.in-Ok.base c.in_ok-climbed-in-Ok.climbed.rungs c.in_ok-climbed-in-Ok.ensures.rungs;
  runs = climbed_runs (g.B.Bench.calc c.args.bench.now) c.args.size c.args.object c.args.bumps.now c.args.desk.now c.price.new.desk (g.B.Bench.count c.args.bench.now) (g.B.Bench.count c.price.new.bench) (g.B.Bench.log c.args.bench.now) (g.B.Bench.log c.price.new.bench) c.in-Ok.base (sym c.in_ok-priced.ensures.amount ∙ c.in-Ok.is) c.bump_rungs.new.desk (g.B.Bench.count c.bump_rungs.new.bench) (g.B.Bench.log c.bump_rungs.new.bench) c.in_ok-priced.ensures.asks
      c.in_ok-priced.priced.runs c.in_ok-climbed-in-Ok.climbed.runs c.in_ok-priced.ensures.runs
      (rungs_runs (g.B.Bench.calc c.args.bench.now) c.args.size (g.B.Bench.calc c.price.new.bench) c.args.desk.now.market c.price.new.desk.market c.args.object c.args.bumps.now c.price.new.desk c.price.ensures.same c.price.ensures.market c.in_ok-climbed-in-Ok.climbed.runs c.in_ok-climbed-in-Ok.ensures.runs);
}

pub returns-in_ok-climbed-in-Ok-clause-ends : goal.returns-in_ok-climbed-in-Ok-clause-ends
returns-in_ok-climbed-in-Ok-clause-ends g c =
    climbed_ends (g.B.Bench.calc c.args.bench.now) c.args.size c.args.object c.args.bumps.now c.args.desk.now c.price.new.desk (g.B.Bench.count c.args.bench.now) (g.B.Bench.count c.price.new.bench) (g.B.Bench.log c.args.bench.now) (g.B.Bench.log c.price.new.bench) c.in-Ok.base (sym c.in_ok-priced.ensures.amount ∙ c.in-Ok.is) c.bump_rungs.new.desk (g.B.Bench.count c.bump_rungs.new.bench) (g.B.Bench.log c.bump_rungs.new.bench)
    c.in_ok-priced.ensures.asks
    (rungs_did (g.B.Bench.calc c.args.bench.now) c.args.size (g.B.Bench.calc c.price.new.bench) c.args.desk.now.market c.price.new.desk.market c.args.object c.args.bumps.now c.price.new.desk c.price.ensures.same c.price.ensures.market c.bump_rungs.new.desk (g.B.Bench.count c.price.new.bench) (g.B.Bench.count c.bump_rungs.new.bench) (g.B.Bench.log c.price.new.bench) (g.B.Bench.log c.bump_rungs.new.bench) c.in_ok-climbed-in-Ok.ensures.asks)

pub returns-in_ok-climbed-in-Ok-clause-same : goal.returns-in_ok-climbed-in-Ok-clause-same
returns-in_ok-climbed-in-Ok-clause-same g c = c.bump_rungs.ensures.same ∙ c.price.ensures.same

pub returns-in_ok-climbed-in-Ok-clause-market : goal.returns-in_ok-climbed-in-Ok-clause-market
returns-in_ok-climbed-in-Ok-clause-market g c = c.bump_rungs.ensures.market ∙ c.price.ensures.market

pub returns-in_ok-climbed-in-Ok-clause-sound : goal.returns-in_ok-climbed-in-Ok-clause-sound
returns-in_ok-climbed-in-Ok-clause-sound g c = subst (λ (k : Calc). IsSound k c.bump_rungs.new.desk) c.price.ensures.same c.bump_rungs.ensures.sound

pub returns-in_err-climbed-in-Ok-clause-same : goal.returns-in_err-climbed-in-Ok-clause-same
returns-in_err-climbed-in-Ok-clause-same g c = c.bump_rungs.ensures.same ∙ c.price.ensures.same

pub returns-in_err-climbed-in-Ok-clause-market : goal.returns-in_err-climbed-in-Ok-clause-market
returns-in_err-climbed-in-Ok-clause-market g c = c.bump_rungs.ensures.market ∙ c.price.ensures.market

pub returns-in_err-climbed-in-Ok-clause-sound : goal.returns-in_err-climbed-in-Ok-clause-sound
returns-in_err-climbed-in-Ok-clause-sound g c = subst (λ (k : Calc). IsSound k c.bump_rungs.new.desk) c.price.ensures.same c.bump_rungs.ensures.sound

pub returns-in_err-priced-clause-ends : goal.returns-in_err-priced-clause-ends
returns-in_err-priced-clause-ends g c =
    let p = err_from_is_err_and c.from_residual.result c.from_residual.ensures.1 in
    rw (p.1, p.2) (base_front (g.B.Bench.calc c.args.bench.now) c.args.size c.args.object c.args.bumps.now c.args.desk.now c.price.new.desk (g.B.Bench.count c.args.bench.now) (g.B.Bench.count c.price.new.bench) (g.B.Bench.log c.args.bench.now) (g.B.Bench.log c.price.new.bench) c.in_err-priced.ensures.asks)

pub returns-in_err-climbed-in-Ok-clause-ends : goal.returns-in_err-climbed-in-Ok-clause-ends
returns-in_err-climbed-in-Ok-clause-ends g c =
    let p = err_from_is_err_and c.from_residual-in_err-climbed-in-Ok.result c.from_residual-in_err-climbed-in-Ok.ensures.1 in
    rw (p.1, p.2) (climbed_front (g.B.Bench.calc c.args.bench.now) c.args.size c.args.object c.args.bumps.now c.args.desk.now c.price.new.desk (g.B.Bench.count c.args.bench.now) (g.B.Bench.count c.price.new.bench) (g.B.Bench.log c.args.bench.now) (g.B.Bench.log c.price.new.bench) c.in-Ok.base (sym c.in_ok-priced.ensures.amount ∙ c.in-Ok.is) c.bump_rungs.new.desk (g.B.Bench.count c.bump_rungs.new.bench) (g.B.Bench.log c.bump_rungs.new.bench)
    c.in_ok-priced.ensures.asks
    (rungs_front (g.B.Bench.calc c.args.bench.now) c.args.size (g.B.Bench.calc c.price.new.bench) c.args.desk.now.market c.price.new.desk.market c.args.object c.args.bumps.now c.price.new.desk c.price.ensures.same c.price.ensures.market (g.B.Bench.count c.price.new.bench) (g.B.Bench.count c.bump_rungs.new.bench) (g.B.Bench.log c.price.new.bench) (g.B.Bench.log c.bump_rungs.new.bench) c.in_err-climbed-in-Ok.ensures.asks))
