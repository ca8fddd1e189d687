use Rattle.std.proofs.Common.{sym, subst, ◌∙◌}
use Rattle.desk_names.specs.Names.{IsNames}
use Rattle.desk_names.proofs.Copies.{same_lists}
use Rattle.desk_names.proofs.names.Names.copy.Goals as goal

pub returns : goal.returns
returns c = same_lists _ (λ _ _ e. e) (λ text. text.items) _ _ _ c.in_ok-texts.ensures.cases ∙ c.self.view_is

pub invariant_of-result : goal.invariant_of-result
invariant_of-result c = subst IsNames (sym (same_lists _ (λ _ _ e. e) (λ text. text.items) _ _ _ c.in_ok-texts.ensures.cases)) c.self.invariant
