use Rattle.std.proofs.Common.{◌≡◌, ◌<◌, ◌^◌, ◌++◌, ℕ, true, List, length, refl, sym, ◌∙◌, ap, subst}
use Rattle.std.specs.Prelude.{OnOk}
use Rattle.std.proofs.lemmas.Result.{err_from_is_err_and}
use Rattle.desk_terms.specs.declared.kind.Wanted.TheVariants.{Member}
use Rattle.desk_terms.specs.Reading.{Calc}
use Rattle.desk_model.specs.Links.{serves_as}
use Rattle.desk_model.specs.Market.{Market, kind_at}
use Rattle.desk_model.specs.State.{State}
use Rattle.desk_model.specs.Sound.{IsSound}
use Rattle.desk_model.specs.Unheld.{HoldsNothing}
use Rattle.bump_model.specs.declared.ladder.Bump.{Bump}
use Rattle.bump_model.specs.Asking.{Asking, Asks, MadeFront, none, ladder_asking}
use Rattle.std.proofs.lemmas.List.{length-map}
use Rattle.bump_model.specs.Moves.{AreBumps}
use Rattle.bump_model.specs.Sides.{bump_rung}
use Rattle.bump_model.proofs.Calls.{Did, front_first, front_none, front_whole, made_none}
use Rattle.bump_ladder.proofs.Answered.{asks_any, front_asks}
use Rattle.bump_model.specs.Sides.{worth}
use Rattle.bump_ladder.proofs.Siding.{then_ok}
use Rattle.tool_risk.specs.Asking.{bumps_in, theta_behind, instrument_asking, AreFew}
use Rattle.tool_risk.specs.Lines.{ladder_rows as ladder_rows_in}
use Rattle.tool_risk.specs.Theta.{theta_asking}
use Rattle.tool_risk.proofs.Chaining.{asks_behind, on_ok}
use Rattle.tool_risk.proofs.Rungs.{asking_over, asking_worth, asking_refused, ladder_text, refused_text}
use Rattle.tool_risk.proofs.names.object_rows.Goals as goal

pub ladder-requires : goal.ladder-requires
ladder-requires g c = record {
  instrument = subst (λ (s : State). serves_as (kind_at s.market c.args.object) Member ≡ true) (sym c.bumps_of.ensures.same) c.requires.instrument;
  bumps = subst (λ (s : State). AreBumps s.market c.as_slice.result.now) (sym c.bumps_of.ensures.same)
      (subst (λ (l : List Bump). AreBumps c.args.desk.now.market l) (sym c.as_slice.ensures.value) c.in_ok-bumps.ensures.are);
  few = subst (λ (l : List Bump). length l < 2 ^ 32) (sym c.as_slice.ensures.value) c.in_ok-bumps.ensures.many;
  sound = subst (λ (s : State). IsSound (g.B.Bench.calc c.args.bench.now) s) (sym c.bumps_of.ensures.same) c.requires.sound;
  unheld = subst (λ (s : State). HoldsNothing s) (sym c.bumps_of.ensures.same) c.requires.unheld;
}

pub ladder_rows-requires : goal.ladder_rows-requires
ladder_rows-requires g c = record {
  paired = ap length c.in-Ok.ensures.answer.rungs ∙ length-map c.as_slice.result.now (bump_rung (g.B.Bench.calc c.args.bench.now) c.args.size c.bumps_of.new.desk.market c.args.object c.in-Ok.ladder.base)
      ∙ ap length (c.as_slice.ensures.value ∙ sym c.as_slice-in-Ok.ensures.value);
  few = subst AreFew (sym c.as_slice-in-Ok.ensures.value) c.in_ok-bumps.ensures.few;
}

pub push_theta-requires : goal.push_theta-requires
push_theta-requires g c = record {
  instrument = subst (λ (m : Market). serves_as (kind_at m c.args.object) Member ≡ true)
      (sym (c.ladder.ensures.market ∙ ap (λ (s : State). s.market) c.bumps_of.ensures.same)) c.requires.instrument;
  sound = subst (λ (k : Calc). IsSound k c.ladder.new.desk) (sym c.ladder.ensures.same) c.ladder.ensures.sound;
  unheld = c.ladder.ensures.unheld;
}

pub returns-in_err-bumps-clause-asks : goal.returns-in_err-bumps-clause-asks
returns-in_err-bumps-clause-asks g c =
    let p = err_from_is_err_and c.from_residual.result c.from_residual.ensures.1 in
    front_asks (instrument_asking (g.B.Bench.calc c.args.bench.now) c.args.size c.args.object c.args.desk.now) c.from_residual.result c.bumps_of.new.desk (g.B.Bench.count c.args.bench.now) (g.B.Bench.count c.args.bench.now) (g.B.Bench.log c.args.bench.now) (g.B.Bench.log c.args.bench.now) p.0 p.1 (front_none _ (g.B.Bench.count c.args.bench.now) (g.B.Bench.log c.args.bench.now))

pub returns-in_err-ladder_rows-in-Ok-clause-asks : goal.returns-in_err-ladder_rows-in-Ok-clause-asks
returns-in_err-ladder_rows-in-Ok-clause-asks g c =
    let calc : Calc = g.B.Bench.calc c.args.bench.now in
    let names = c.args.namer.now.names.now in
    let of_object = c.args.namer.now.of_object.now in
    let are = c.as_slice.ensures.value ∙ c.in_ok-bumps.ensures.bumps in
    let first : Asking = ladder_asking calc c.args.size c.args.object (bumps_in c.args.desk.now.market c.args.object) c.args.desk.now in
    let did = subst (λ (a : Asking). Did a c.ladder.new.desk (g.B.Bench.count c.args.bench.now) (g.B.Bench.count c.ladder.new.bench) (g.B.Bench.log c.args.bench.now) (g.B.Bench.log c.ladder.new.bench))
    (asking_over calc c.args.size names of_object c.args.object c.args.desk.now c.bumps_of.new.desk _ c.bumps_of.ensures.same are) c.in-Ok.ensures.ends in
    let p = err_from_is_err_and c.from_residual-in_err-ladder_rows-in-Ok.result c.from_residual-in_err-ladder_rows-in-Ok.ensures.1 in
    front_asks (instrument_asking calc c.args.size c.args.object c.args.desk.now) c.from_residual-in_err-ladder_rows-in-Ok.result c.ladder.new.desk
    (g.B.Bench.count c.args.bench.now) (g.B.Bench.count c.ladder.new.bench) (g.B.Bench.log c.args.bench.now) (g.B.Bench.log c.ladder.new.bench) p.0 p.1
    (subst (λ (a : Asking). MadeFront a.calls (g.B.Bench.count c.args.bench.now) (g.B.Bench.count c.ladder.new.bench) (g.B.Bench.log c.args.bench.now) (g.B.Bench.log c.ladder.new.bench))
    (sym (asking_worth calc c.args.size names of_object c.args.object c.args.desk.now c.bumps_of.new.desk _ c.bumps_of.ensures.same are c.in-Ok.ladder c.in-Ok.ensures.answer))
    (front_whole first.calls (theta_asking calc c.args.size c.args.object first.next).calls
    (g.B.Bench.count c.args.bench.now) (g.B.Bench.count c.ladder.new.bench) (g.B.Bench.log c.args.bench.now) (g.B.Bench.log c.ladder.new.bench) did.1))

pub returns-in-Ok-clause-lines : goal.returns-in-Ok-clause-lines
returns-in-Ok-clause-lines g c =
    let calc : Calc = g.B.Bench.calc c.args.bench.now in
    let names = c.args.namer.now.names.now in
    let of_object = c.args.namer.now.of_object.now in
    let are = c.as_slice.ensures.value ∙ c.in_ok-bumps.ensures.bumps in
    let first : Asking = ladder_asking calc c.args.size c.args.object (bumps_in c.args.desk.now.market c.args.object) c.args.desk.now in
    on_ok c.push_theta.result _ _
    (ladder_text calc c.args.size names of_object c.args.object c.args.desk.now c.bumps_of.new.desk _ c.bumps_of.ensures.same are c.in-Ok.ladder c.in-Ok.ensures.answer
    (g.B.Bench.calc c.ladder.new.bench) c.ladder.ensures.same c.ladder.new.desk.market (c.ladder.ensures.market ∙ ap (λ (s : State). s.market) c.bumps_of.ensures.same)
    c.args.lines.now.items c.ladder_rows.new.lines.items c.push_theta.new.lines.items
    (c.in_ok-ladder_rows-in-Ok.ensures
    ∙ ap (λ (l : List Bump). c.args.lines.now.items ++ ladder_rows_in names of_object c.args.object c.in-Ok.ladder.base l c.in-Ok.ladder.rungs) (c.as_slice-in-Ok.ensures.value ∙ sym c.as_slice.ensures.value)))
    c.push_theta.ensures.lines

pub returns-in-Ok-clause-asks : goal.returns-in-Ok-clause-asks
returns-in-Ok-clause-asks g c =
    let calc : Calc = g.B.Bench.calc c.args.bench.now in
    let names = c.args.namer.now.names.now in
    let of_object = c.args.namer.now.of_object.now in
    let are = c.as_slice.ensures.value ∙ c.in_ok-bumps.ensures.bumps in
    let first : Asking = ladder_asking calc c.args.size c.args.object (bumps_in c.args.desk.now.market c.args.object) c.args.desk.now in
    let did = subst (λ (a : Asking). Did a c.ladder.new.desk (g.B.Bench.count c.args.bench.now) (g.B.Bench.count c.ladder.new.bench) (g.B.Bench.log c.args.bench.now) (g.B.Bench.log c.ladder.new.bench))
    (asking_over calc c.args.size names of_object c.args.object c.args.desk.now c.bumps_of.new.desk _ c.bumps_of.ensures.same are) c.in-Ok.ensures.ends in
    subst (λ (a : Asking). Asks a c.push_theta.result c.push_theta.new.desk (g.B.Bench.count c.args.bench.now) (g.B.Bench.count c.push_theta.new.bench) (g.B.Bench.log c.args.bench.now) (g.B.Bench.log c.push_theta.new.bench))
    (sym (asking_worth calc c.args.size names of_object c.args.object c.args.desk.now c.bumps_of.new.desk _ c.bumps_of.ensures.same are c.in-Ok.ladder c.in-Ok.ensures.answer))
    (asks_behind first (theta_asking calc c.args.size c.args.object) c.ladder.new.desk
    (g.B.Bench.count c.args.bench.now) (g.B.Bench.count c.ladder.new.bench) (g.B.Bench.log c.args.bench.now) (g.B.Bench.log c.ladder.new.bench) did
    c.push_theta.result c.push_theta.new.desk (g.B.Bench.count c.push_theta.new.bench) (g.B.Bench.log c.push_theta.new.bench)
    (subst (λ (k : Calc). Asks (theta_asking k c.args.size c.args.object c.ladder.new.desk) c.push_theta.result c.push_theta.new.desk (g.B.Bench.count c.ladder.new.bench) (g.B.Bench.count c.push_theta.new.bench) (g.B.Bench.log c.ladder.new.bench) (g.B.Bench.log c.push_theta.new.bench))
    c.ladder.ensures.same c.push_theta.ensures.asks))

pub returns-in-Err-Base-clause-lines : goal.returns-in-Err-Base-clause-lines
returns-in-Err-Base-clause-lines g c =
    let answer = rw c.in-Err-Base.field-0-is at c.in-Err-Base.ensures.answer in
    subst (λ (text : List ℕ). OnOk c.refused_row.result (c.refused_row.new.lines.items ≡ c.args.lines.now.items ++ text))
    (refused_text (g.B.Bench.calc c.args.bench.now) c.args.size c.args.namer.now.names.now c.args.namer.now.of_object.now c.args.object c.args.desk.now c.bumps_of.new.desk _
    c.bumps_of.ensures.same (c.as_slice.ensures.value ∙ c.in_ok-bumps.ensures.bumps) c.in-Err-Base.cause _ answer)
    (rw c.in-Err-Base.field-0-is at c.refused_row.ensures)

pub returns-in-Err-Base-clause-asks : goal.returns-in-Err-Base-clause-asks
returns-in-Err-Base-clause-asks g c =
    let calc : Calc = g.B.Bench.calc c.args.bench.now in
    let names = c.args.namer.now.names.now in
    let of_object = c.args.namer.now.of_object.now in
    let are = c.as_slice.ensures.value ∙ c.in_ok-bumps.ensures.bumps in
    let first : Asking = ladder_asking calc c.args.size c.args.object (bumps_in c.args.desk.now.market c.args.object) c.args.desk.now in
    let did = subst (λ (a : Asking). Did a c.ladder.new.desk (g.B.Bench.count c.args.bench.now) (g.B.Bench.count c.ladder.new.bench) (g.B.Bench.log c.args.bench.now) (g.B.Bench.log c.ladder.new.bench))
    (asking_over calc c.args.size names of_object c.args.object c.args.desk.now c.bumps_of.new.desk _ c.bumps_of.ensures.same are) (rw c.in-Err-Base.field-0-is at c.in-Err-Base.ensures.ends) in
    let answer = rw c.in-Err-Base.field-0-is at c.in-Err-Base.ensures.answer in
    asks_any (instrument_asking calc c.args.size c.args.object c.args.desk.now) c.refused_row.result c.ladder.new.desk (g.B.Bench.count c.args.bench.now) (g.B.Bench.count c.ladder.new.bench) (g.B.Bench.log c.args.bench.now) (g.B.Bench.log c.ladder.new.bench)
    (subst (λ (a : Asking). Did a c.ladder.new.desk (g.B.Bench.count c.args.bench.now) (g.B.Bench.count c.ladder.new.bench) (g.B.Bench.log c.args.bench.now) (g.B.Bench.log c.ladder.new.bench))
    (sym (asking_refused calc c.args.size names of_object c.args.object c.args.desk.now c.bumps_of.new.desk _ c.bumps_of.ensures.same are _ _ answer))
    (then_ok first none c.ladder.new.desk c.ladder.new.desk (g.B.Bench.count c.args.bench.now) (g.B.Bench.count
    c.ladder.new.bench) (g.B.Bench.count c.ladder.new.bench) (g.B.Bench.log c.args.bench.now) (g.B.Bench.log
    c.ladder.new.bench) (g.B.Bench.log c.ladder.new.bench) did
    (refl, made_none (g.B.Bench.count c.ladder.new.bench) (g.B.Bench.log c.ladder.new.bench))))

pub returns-clause-asks : goal.returns-clause-asks
unfolding instrument_asking
returns-clause-asks g c =
    let calc : Calc = g.B.Bench.calc c.args.bench.now in
    let first : Asking = ladder_asking calc c.args.size c.args.object (bumps_in c.args.desk.now.market c.args.object) c.args.desk.now in
    front_first first.calls (theta_behind calc c.args.size c.args.object (worth calc c.args.desk.now.market c.args.object) first.next).calls
    (g.B.Bench.count c.args.bench.now) (g.B.Bench.count c.ladder.new.bench) (g.B.Bench.log c.args.bench.now) (g.B.Bench.log c.ladder.new.bench)
    (subst (λ (a : Asking). MadeFront a.calls (g.B.Bench.count c.args.bench.now) (g.B.Bench.count c.ladder.new.bench) (g.B.Bench.log c.args.bench.now) (g.B.Bench.log c.ladder.new.bench))
    (asking_over calc c.args.size c.args.namer.now.names.now c.args.namer.now.of_object.now c.args.object c.args.desk.now c.bumps_of.new.desk _ c.bumps_of.ensures.same (c.as_slice.ensures.value ∙ c.in_ok-bumps.ensures.bumps))
    (rw c.in-Err-NoMemory.field-0-is at c.in-Err-NoMemory.ensures.ends))
