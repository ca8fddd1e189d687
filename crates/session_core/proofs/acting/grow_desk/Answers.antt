use Rattle.std.proofs.Common.{◌≡◌, ◌≤◌, ℤ, None, Some, length, sym, ◌∙◌, ap, subst, arith, FitsSigned, w64}
use Rattle.std.specs.Prelude.{Err, unsigned_abs}
use Rattle.std.proofs.lemmas.Int.{to_z-of_z, fits_signed_from_abs}
use Rattle.desk_model.specs.Changeable.{with_member}
use Rattle.desk_model.specs.Effect.{member_set}
use Rattle.session_model.specs.Change.{grown}
use Rattle.session_core.specs.Allowed.{MayWeigh, MayFix, MayGrow}
use Rattle.session_core.proofs.Counting.{parts_fit}
use Rattle.session_core.proofs.Naming.{none_some}
use Rattle.session_core.proofs.Turns.{on_ok}
use Rattle.session_core.proofs.acting.grow_desk.Goals as goal

pub set_member-requires-clause-limit : goal.set_member-requires-clause-limit
set_member-requires-clause-limit c =
    let may : MayWeigh c.args.desk.now c.in-Member.composite c.in-Member.member c.in-Member.weight =
    subst (MayGrow c.args.desk.now) c.in-Member.is c.requires.may in
    let fits : FitsSigned w64 c.in-Member.weight =
    fits_signed_from_abs w64 c.in-Member.weight (let limit = may.limit in omega (arith, limit)) in
    subst (λ (w : ℤ). unsigned_abs w ≤ 1_000_000) (sym (to_z-of_z w64 c.in-Member.weight fits)) may.limit

pub set_member-requires-clause-count : goal.set_member-requires-clause-count
set_member-requires-clause-count c = λ parts is.
    let may : MayWeigh c.args.desk.now c.in-Member.composite c.in-Member.member c.in-Member.weight =
    subst (MayGrow c.args.desk.now) c.in-Member.is c.requires.may in
    let fits : FitsSigned w64 c.in-Member.weight =
    fits_signed_from_abs w64 c.in-Member.weight (let limit = may.limit in omega (arith, limit)) in
    subst (λ (w : ℤ). length (with_member parts c.in-Member.member w) ≤ 4096) (sym (to_z-of_z w64 c.in-Member.weight fits))
    (parts_fit c.args.desk.now.market c.in-Member.composite c.in-Member.member c.in-Member.weight parts c.shape.ensures.kinds
    c.shape.ensures.ranged c.requires.few may.limit may.member is)

pub returns-in-Member-clause-set : goal.returns-in-Member-clause-set
unfolding grown
returns-in-Member-clause-set c =
    let may : MayWeigh c.args.desk.now c.in-Member.composite c.in-Member.member c.in-Member.weight =
    subst (MayGrow c.args.desk.now) c.in-Member.is c.requires.may in
    let fits : FitsSigned w64 c.in-Member.weight =
    fits_signed_from_abs w64 c.in-Member.weight (let limit = may.limit in omega (arith, limit)) in
    on_ok c.set_member.result (λ is. rw c.in-Member.is
    (is ∙ ap (λ (w : ℤ). member_set c.in-Member.composite c.in-Member.member w c.args.desk.now)
    (to_z-of_z w64 c.in-Member.weight fits))) c.set_member.ensures.set

pub unreachable-requires : goal.unreachable-requires
unreachable-requires c =
    let may : MayFix c.args.desk.now c.in-Fixing.index c.in-Fixing.day c.in-Fixing.rate =
    subst (MayGrow c.args.desk.now) c.in-Fixing.is c.requires.may in
    let is : None ≡ Some c.in-Err-Exists.field-0-0 =
    sym may.free ∙ (c.add_fixing.ensures.exists c.in-Err-Exists.field-0-0).0
    (c.in-Err-Exists.is ∙ ap Err c.in-Err-Exists.field-0-is) in
    none_some is
