use Rattle.desk_model.proofs.Shown.{holds_fit}
use Rattle.desk_model.proofs.Watchers.{thawed_forwarder}
use Rattle.desk_model.proofs.Asked.{sound_asked}
use Rattle.desk_model.proofs.Wants.{needs_lazy}
use Rattle.desk_model.proofs.Valued.{seen_values, now_valued}
use Rattle.desk_model.proofs.Lazy.{whole_asked}
use Rattle.desk_model.proofs.Recalc.{sound_recalced, whole_recalced}
use Rattle.desk_model.proofs.Starts.{whole_start, sound_start}
use Rattle.desk_model.proofs.laws.benches_leave_a_state_sound.Goals as goal

pub returns-clause-start : goal.returns-clause-start
returns-clause-start c = λ today calc. record { whole = whole_start today; sound = sound_start calc today }

pub returns-clause-asks : goal.returns-clause-asks
returns-clause-asks c = λ calc fits s o whole kinds ranged lazy sound.
    let fit = holds_fit s whole.links (thawed_forwarder s whole) in
    record { whole = whole_asked calc s (needs_lazy s.market kinds) o lazy whole fit sound.current (seen_values calc fits s whole kinds ranged); sound = sound_asked calc s o whole fit sound }

pub returns-clause-recalcs : goal.returns-clause-recalcs
returns-clause-recalcs c = λ calc fits s o whole kinds ranged lazy early sound.
    let fit = holds_fit s whole.links (thawed_forwarder s whole) in
    let values = seen_values calc fits s whole kinds ranged in
    let own = now_valued calc fits s whole kinds ranged o lazy in
    record { whole = whole_recalced calc s o whole kinds lazy fit sound early values own; sound = sound_recalced calc s o whole kinds lazy fit sound early values own }
