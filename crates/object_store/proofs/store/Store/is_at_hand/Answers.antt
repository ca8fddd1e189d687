use Rattle.std.proofs.Common.{Bool, sym, ◌∙◌, ap}
use Rattle.std.specs.Prelude.{◌||◌}
use Rattle.desk_model.specs.declared.kept.Kept.{Kept}
use Rattle.object_store.specs.Slots.{is_at_hand}
use Rattle.object_store.specs.Store.{stored_at}
use Rattle.object_store.proofs.store.Store.is_at_hand.Goals as goal

pub returns-then-is_current : goal.returns-then-is_current
unfolding is_at_hand
returns-then-is_current c = c.if-is_current.true ∙ sym (ap (λ (b : Bool). b || (stored_at c.args.self.now c.args.object).frozen)
    (ap (λ (k : Kept). k.current) (c.deref.ensures.kept c.args.object) ∙ sym c.is_current.ensures ∙ c.if-is_current.true))

pub returns-else-is_current : goal.returns-else-is_current
unfolding is_at_hand
returns-else-is_current c = c.is_frozen.ensures ∙ sym (ap (λ (b : Bool). b || (stored_at c.args.self.now c.args.object).frozen)
    (ap (λ (k : Kept). k.current) (c.deref.ensures.kept c.args.object) ∙ sym c.is_current.ensures ∙ c.if-is_current.false))
