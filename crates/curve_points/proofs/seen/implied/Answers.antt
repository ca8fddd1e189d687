use Rattle.std.proofs.Common.{sym, subst, refl, ◌≡◌, Result, Err, IfErr}
use Rattle.curve_points.specs.Curve.{Curve}
use Rattle.curve_points.specs.Implied.{Gives}
use Rattle.curve_points.specs.declared.seen.ImpliedFault.{ImpliedFault}
use Rattle.curve_points.specs.declared.points.PointFault.TheVariants.{Before, Past}
use Rattle.curve_points.proofs.SeenLemmas.{implied_by, implied_outside}
use Rattle.curve_points.proofs.seen.implied.Goals as goal

pub returns-in-Ok-clause-curve : goal.returns-in-Ok-clause-curve
returns-in-Ok-clause-curve c =
    let due = implied_by c.args.curve.now c.args.owner c.args.reference c.in-Ok.factor c.in-Ok.ensures in
    subst (λ (d : Result Curve ImpliedFault). Gives d c.seen_by.result) (sym due) c.seen_by.ensures.given

pub returns-in-Err-Before-clause-curve : goal.returns-in-Err-Before-clause-curve
returns-in-Err-Before-clause-curve c =
    implied_outside c.args.curve.now c.args.owner c.args.reference Before (rw c.in-Err-Before.field-0-is at c.in-Err-Before.ensures)

pub returns-in-Err-Past-clause-curve : goal.returns-in-Err-Past-clause-curve
returns-in-Err-Past-clause-curve c =
    implied_outside c.args.curve.now c.args.owner c.args.reference Past (rw c.in-Err-Past.field-0-is at c.in-Err-Past.ensures)

pub returns-in-Ok-clause-fault : goal.returns-in-Ok-clause-fault
returns-in-Ok-clause-fault c =
    let due = implied_by c.args.curve.now c.args.owner c.args.reference c.in-Ok.factor c.in-Ok.ensures in
    subst (λ (d : Result Curve ImpliedFault). IfErr d (λ fault. c.seen_by.result ≡ Err fault)) (sym due) c.seen_by.ensures.fault

pub returns-in-Err-Before-clause-fault : goal.returns-in-Err-Before-clause-fault
returns-in-Err-Before-clause-fault c = rw (returns-in-Err-Before-clause-curve c) refl

pub returns-in-Err-Past-clause-fault : goal.returns-in-Err-Past-clause-fault
returns-in-Err-Past-clause-fault c = rw (returns-in-Err-Past-clause-curve c) refl
