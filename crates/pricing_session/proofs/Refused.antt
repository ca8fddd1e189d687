-- A refused change leaves the session as it was.
use Rattle.std.proofs.Common.{◌≡◌, ◌∙◌, Option, Some, None, Result, Ok, Err, refl, ap}
use Rattle.std.specs.Prelude.{IfSome}
use Rattle.std.specs.Result.{result_err}
use Rattle.desk_terms.specs.Reading.{Calc}
use Rattle.session_commands.specs.declared.command.Command.{Command}
use Rattle.session_commands.specs.declared.refusal.Refusal.{Refusal}
use Rattle.session_model.specs.declared.act.Act.{Act}
use Rattle.session_model.specs.Standing.{Standing}
use Rattle.session_model.specs.Resolve.{resolve}
use Rattle.session_model.specs.Turn.{done_as, turn}
use Rattle.session_model.specs.Course.{Running, taken}

done_refused : (calc : Calc) (p : Standing) (c : Command) (why : Refusal) (r : Result Act Refusal) → Some why ≡ result_err r
    → (done_as calc p c r).next ≡ p
done_refused calc p c why (Err e) is = refl
done_refused calc p c why (Ok a) is = absurd (cc)

turn_refused : (calc : Calc) (p : Standing) (c : Command) (why : Refusal) → Some why ≡ result_err (resolve p c) → (turn calc p c).next ≡ p
unfolding turn
turn_refused calc p c why is = done_refused calc p c why (resolve p c) is

pub refused_stays : {P : Type 0} (calc : Calc) (r new : Running P) (c : Command) (refusal : Option Refusal)
    → refusal ≡ result_err (resolve r.standing c) → new ≡ (taken (turn calc r.standing c) r).next
    → IfSome refusal (λ _. new.standing ≡ r.standing)
refused_stays {P} calc r new c None is goes = tt
refused_stays {P} calc r new c (Some why) is goes = ap (λ (z : Running P). z.standing) goes ∙ turn_refused calc r.standing c why is
