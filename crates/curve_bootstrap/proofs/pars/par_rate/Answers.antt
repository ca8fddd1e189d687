use Rattle.std.proofs.Common.{◌≡◌, ◌∙◌, sym, ap, Some, None, Result, Ok, Err}
use Rattle.curve_bootstrap.specs.declared.faults.HelperFault.{HelperFault}
use Rattle.curve_bootstrap.specs.declared.faults.HelperFault.TheVariants.{DateRange, Pillar, RateRange, Negative, Discount, NoMemory}
use Rattle.curve_bootstrap.specs.declared.pars.ParRate.{ParRate}
use Rattle.curve_bootstrap.specs.Built.{GivesHelper}
use Rattle.curve_bootstrap.specs.Par.{par_over}
use Rattle.curve_bootstrap.proofs.CouponLemmas.{coupons_are}
use Rattle.curve_bootstrap.proofs.GivenLemmas.{gives_by}
use Rattle.curve_bootstrap.proofs.pars.par_rate.Goals as goal

-- what is answered exactly is given
gives_exact : (due r : Result ParRate HelperFault) → r ≡ due → GivesHelper {X = ParRate} {Y = ParRate} (λ found. found) due r
gives_exact due (Ok found) is = sym is
gives_exact due (Err DateRange) is = sym is
gives_exact due (Err Pillar) is = sym is
gives_exact due (Err RateRange) is = sym is
gives_exact due (Err Negative) is = sym is
gives_exact due (Err Discount) is = sym is
gives_exact due (Err NoMemory) is = tt

pub returns-in-None-clause-given : goal.returns-in-None-clause-given
returns-in-None-clause-given c =
    gives_exact _ _
    (c.deposit_par.ensures.value
    ∙ ap (par_over c.args.curve.now) (coupons_are c.args.calendar.now c.args.curve.now.reference c.args.helper.now None c.in-None.is))

pub returns-in-Some-clause-given : goal.returns-in-Some-clause-given
returns-in-Some-clause-given c =
    gives_by {X = ParRate} {Y = ParRate} (λ found. found) _ _ _
    (ap (par_over c.args.curve.now)
    (coupons_are c.args.calendar.now c.args.curve.now.reference c.args.helper.now (Some c.in-Some.every) c.in-Some.is))
    c.swap_par.ensures.given
