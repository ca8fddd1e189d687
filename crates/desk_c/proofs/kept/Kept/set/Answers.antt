use Rattle.std.proofs.Common.{◌≡◌, ◌≤◌, ◌^◌, ℕ, None, Some, Err, ◌∙◌, ap, subst}
use Rattle.pricing_session.specs.declared.fault.ChangeFault.{ChangeFault}
use Rattle.desk_c.specs.Calls.{standing_of}
use Rattle.desk_c.proofs.Setting.{set_known, there_is}
use Rattle.desk_c.proofs.kept.Kept.set.Goals as goal

pub unreachable-requires : goal.unreachable-requires
unreachable-requires c =
    let p = standing_of c.args.self.now in
    (c.change.ensures.unknown.0 (c.in-Err-Unknown.is ∙ ap (λ (f : ChangeFault). Err f) c.in-Err-Unknown.field-0-is)).1
    (set_known p c.in-Some.name _
    (there_is p.names c.args.name.now c.in-Some.name c.in-Some.ensures.place
    (λ no. let bad : Some c.in-Some.name ≡ None = c.in-Some.ensures.none.1 no in cc))
    (subst (λ (n : ℕ). n ≤ 10 ^ 18) c.unsigned_abs.ensures.value c.if-unsigned_abs-gt-MOST_UNITS.false))
