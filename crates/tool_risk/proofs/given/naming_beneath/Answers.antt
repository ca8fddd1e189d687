use Rattle.std.proofs.Common.{◌++◌, Bool, List, ℕ, refl, sym, ◌∙◌, ap}
use Rattle.desk_model.specs.State.{State}
use Rattle.tool_risk.specs.Curves.{where_so}
use Rattle.tool_risk.specs.Given.{is_naming}
use Rattle.tool_risk.proofs.Giving.{naming_next, naming_none}
use Rattle.tool_risk.proofs.given.naming_beneath.Goals as goal

pub loop-number-init : goal.loop-number-init
loop-number-init c = record { found = c.new-found.ensures ∙ sym (naming_none c.args.desk.now.market c.args.object); same = refl }

pub loop-number-preserved : goal.loop-number-preserved
loop-number-preserved c =
    let m = c.args.desk.now.market in
    let o = c.args.object in
    let n = c.loop-number.number in
    record {
      found = c.in_ok-push_where.ensures
          ∙ ap (λ (b : Bool). c.loop-number.found ++ where_so b n)
          (c.is_naming.ensures.answer ∙ ap (λ (s : State). is_naming s.market o n) c.loop-number.invariant.same)
          ∙ ap (λ (l : List ℕ). l ++ where_so (is_naming m o n) n) c.loop-number.invariant.found ∙ sym (naming_next m o n);
      same = c.is_naming.ensures.same ∙ c.loop-number.invariant.same;
    }
