use Rattle.std.proofs.Common.{◌≡◌, ◌≤◌, ◌^◌, ◌*ℤ◌, ◌∙◌, ℤ, unsigned_abs, to_z-of_z, FitsSigned, w64, arith}
use Rattle.std.specs.Prelude.{codes, []}
use Rattle.std.specs.Int.{w128}
use Rattle.std.proofs.lemmas.Int.{fits_signed_from_abs}
use Rattle.why_model.specs.Answer.{named}
use Rattle.why_model.specs.Workings.{part_product}
use Rattle.session_why.proofs.Lined.{ends, units_as, part_line}
use Rattle.session_why.proofs.workings.push_part.Goals as goal

fits : (weight : ℤ) → unsigned_abs weight ≤ 1000000 → FitsSigned w64 weight
fits weight small = fits_signed_from_abs w64 weight (omega (arith, small))

pub times-requires : goal.times-requires
times-requires c = rw (to_z-of_z (fits c.args.part.now.weight c.requires.1)) c.requires.1

pub returns : goal.returns
returns c =
    let own = to_z-of_z (fits c.args.part.now.weight c.requires.1) in
    let value : c.times.result ≡ c.args.part.now.weight *ℤ c.args.worth = rw own at c.times.ensures.value in
    let small : unsigned_abs c.times.result ≤ 10 ^ 32 = c.times.ensures.bound in
    let whole : FitsSigned w128 c.times.result = fits_signed_from_abs w128 c.times.result (omega (arith, small)) in
    ends c.extend_from_slice.result _ c.push_money.new.out.items (codes "\n") _ c.extend_from_slice.ensures.items
    (part_line (named c.args.session.now c.args.object) c.args.out.now.items _ _ _ _ _ [] c.args.session.now
    (part_product c.args.part.now c.args.worth) c.in_ok-push_head.ensures
    (units_as _ _ 0 _ _ c.in_ok-push_weight.ensures own)
    c.in_ok-push_name.ensures c.in_ok-push_amount.ensures
    (units_as _ _ 6 _ _ c.in_ok-push_money.ensures (to_z-of_z whole ∙ value)))
