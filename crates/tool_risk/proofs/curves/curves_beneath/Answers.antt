use Rattle.std.proofs.Common.{◌++◌, ℕ, Bool, List, refl, sym, ◌∙◌, ap, arith}
use Rattle.desk_model.specs.State.{State}
use Rattle.tool_risk.specs.Curves.{is_beneath, where_so}
use Rattle.tool_risk.proofs.Curving.{curves_next, curves_none, few_found}
use Rattle.tool_risk.proofs.curves.curves_beneath.Goals as goal

pub loop-number-init : goal.loop-number-init
loop-number-init c = record { found = c.new-found.ensures ∙ sym (curves_none c.args.desk.now.market c.args.object); same = refl }

pub loop-number-preserved : goal.loop-number-preserved
loop-number-preserved c =
    let m = c.args.desk.now.market in
    let o = c.args.object in
    let n = c.loop-number.number in
    record {
      found = c.in_ok-push_where.ensures
          ∙ ap (λ (b : Bool). c.loop-number.found ++ where_so b n)
          (c.is_beneath.ensures.answer ∙ ap (λ (s : State). is_beneath s.market o n) c.loop-number.invariant.same)
          ∙ ap (λ (l : List ℕ). l ++ where_so (is_beneath m o n) n) c.loop-number.invariant.found ∙ sym (curves_next m o n);
      same = c.is_beneath.ensures.same ∙ c.loop-number.invariant.same;
    }

pub returns-clause-few : goal.returns-clause-few
returns-clause-few c =
    let end = c.loop-number.auto.number-end in let limit = c.numbers-number-end.ensures.limit in
    few_found c.args.desk.now.market c.args.object _ _ c.loop-number.invariant.found (omega (arith, end, limit))
