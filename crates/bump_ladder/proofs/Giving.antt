-- What an object gives where another names it.
use Rattle.std.proofs.Common.{◌≡◌, ℕ, suc, ◌≤◌, true, length, sym, ap, ◌∙◌}
use Rattle.std.proofs.lemmas.List.{get_or_past}
use Rattle.desk_terms.specs.declared.cause.Cause.TheVariants.{Unset}
use Rattle.desk_model.specs.declared.entry.Entry.{Entry}
use Rattle.desk_model.specs.declared.entry.Entry.TheVariants.{Needs, Refuses}
use Rattle.desk_model.specs.declared.slot.Slot.{Slot}
use Rattle.desk_model.specs.declared.slot.Slot.TheVariants.{Free}
use Rattle.desk_model.specs.Market.{Market, terms_in}
use Rattle.desk_model.specs.Links.{is_lazy_at}
use Rattle.desk_model.specs.Uses.{given, input_by, input_at}
use Rattle.desk_model.proofs.Wants.{input_lazy}

-- a number beyond all objects gives nothing
pub unset_past : (m : Market) (o : ℕ) → length m.objects ≤ o → input_at m o ≡ Refuses (Unset o)
unfolding input_by input_at
unset_past m o past = ap (λ (slot : Slot). given (input_by m (length m.objects)) o (terms_in slot)) (get_or_past
    m.objects o Free past)

-- what is needed is lazy
pub needs_lazy : (m : Market) (o x : ℕ) (entry : Entry) → entry ≡ input_at m o → entry ≡ Needs x → is_lazy_at m x ≡ true
unfolding input_at
needs_lazy m o x entry is needs = input_lazy m (suc (length m.objects)) o x (sym is ∙ needs)
