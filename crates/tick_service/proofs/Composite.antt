-- A bench prices a composite.
use Rattle.std.proofs.Common.{◌≡◌, true, ℕ, Some, refl, sym, subst}
use Rattle.desk_terms.specs.declared.kind.Kind.{Kind}
use Rattle.desk_terms.specs.declared.kind.Kind.TheVariants as kind
use Rattle.desk_terms.specs.Kind.{role}
use Rattle.desk_terms.specs.Terms.{kind_of}
use Rattle.desk_model.specs.declared.slot.Slot.{Slot}
use Rattle.desk_model.specs.declared.slot.Slot.TheVariants.{Free, Today, Watcher, Live}
use Rattle.desk_model.specs.Market.{Market, slot_at, kind_in, kind_at, terms_in, is_lazy, role_of}
use Rattle.desk_model.specs.Links.{is_lazy_at}

slot_lazy : (slot : Slot) → kind_in slot ≡ Some kind.Composite → is_lazy (role_of (terms_in slot)) ≡ true
slot_lazy Free e = absurd (cc)
slot_lazy Today e = absurd (cc)
slot_lazy Watcher e = absurd (cc)
slot_lazy (Live terms) e = let k : kind_of terms ≡ kind.Composite = cc in subst (λ (x : Kind). is_lazy (role x) ≡ true) (sym k) refl

pub composite_lazy : (m : Market) (o : ℕ) → kind_at m o ≡ Some kind.Composite → is_lazy_at m o ≡ true
composite_lazy m o is = slot_lazy (slot_at m o) is
