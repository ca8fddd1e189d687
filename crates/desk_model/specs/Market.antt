-- The market: what stands at each number at one moment, and what prices read of it.
use Rattle.std.specs.Prelude.{◌≡◌, ℕ, zero, suc, ◌==◌, Bool, true, false, List, [], ◌∷◌, length, Option, Some, None, slice_index_or, ℤ, if◌then◌else◌}
use Rattle.std.specs.List.{list_any}
use Rattle.desk_terms.specs.declared.terms.Terms.{Terms}
use Rattle.desk_terms.specs.declared.kind.Kind as kind
use Rattle.desk_terms.specs.declared.reference.Reference.{Reference}
use Rattle.desk_terms.specs.Kind.{Role, role}
use Rattle.desk_terms.specs.Kind.Role.{Source, Forwarder, Lazy, Watching}
use Rattle.desk_terms.specs.Terms.{kind_of, inputs_of, observes_today}
use Rattle.desk_model.specs.declared.slot.Slot.{Slot}
use Rattle.desk_model.specs.declared.slot.Slot.TheVariants.{Free, Today, Watcher, Live}

-- an object's number is its place, from `today` at 0 on (this project's profile)
pub record Market : Type 0 where
  pub today : ℤ
  pub objects : List Slot

abbrev pub slot_at : Market → ℕ → Slot
slot_at market o = slice_index_or market.objects o Free

abbrev pub terms_in : Slot → Option Terms
terms_in Free = None
terms_in Today = None
terms_in Watcher = None
terms_in (Live terms) = Some terms

-- the terms of an object; none at `today`, at a watcher and at a dropped object
abbrev pub terms_at : Market → ℕ → Option Terms
terms_at market o = terms_in (slot_at market o)

abbrev pub kind_in : Slot → Option kind.Kind
kind_in Free = None
kind_in Today = Some kind.TheVariants.Today
kind_in Watcher = Some kind.TheVariants.Watcher
kind_in (Live terms) = Some (kind_of terms)

-- what the object with a number is; none where no live object has it
abbrev pub kind_at : Market → ℕ → Option kind.Kind
kind_at market o = kind_in (slot_at market o)

abbrev pub is_given : Slot → Bool
is_given Free = false
is_given Today = true
is_given Watcher = true
is_given (Live terms) = true

-- whether other objects may observe it: nobody observes a watcher
abbrev pub is_observable : Slot → Bool
is_observable Free = false
is_observable Today = true
is_observable Watcher = false
is_observable (Live terms) = true

abbrev pub is_watcher : Slot → Bool
is_watcher Free = false
is_watcher Today = false
is_watcher Watcher = true
is_watcher (Live terms) = false

abbrev pub count_live : List Slot → ℕ
count_live [] = 0
count_live (slot ∷ slots) = if is_given slot then suc (count_live slots) else count_live slots

-- how many objects are live, `today` and the watchers among them
abbrev pub live_count : Market → ℕ
live_count market = count_live market.objects

-- two markets hold the same at o: its terms, and the day at `today`
pub record IsSame (m n : Market) (o : ℕ) : Type 0 where
  pub terms : terms_at n o ≡ terms_at m o
  pub day : o ≡ 0 → n.today ≡ m.today

-- how an object with these terms takes a notice
abbrev pub role_of : Option Terms → Role
role_of None = Source
role_of (Some terms) = role (kind_of terms)

abbrev pub is_lazy : Role → Bool
is_lazy Source = false
is_lazy Forwarder = false
is_lazy Lazy = true
is_lazy Watching = false

abbrev pub is_forwarding : Role → Bool
is_forwarding Source = false
is_forwarding Forwarder = true
is_forwarding Lazy = false
is_forwarding Watching = false

abbrev pub is_forwarder : Market → ℕ → Bool
is_forwarder market o = is_forwarding (role_of (terms_at market o))

-- a list without a number, and a list with each number at its first place alone
abbrev pub without : ℕ → List ℕ → List ℕ
without x [] = []
without x (y ∷ ys) = if x == y then without x ys else y ∷ without x ys

abbrev pub each_once : List ℕ → List ℕ
each_once [] = []
each_once (x ∷ xs) = x ∷ without x (each_once xs)

abbrev pub named : List Reference → List ℕ
named [] = []
named (reference ∷ references) = reference.object ∷ named references

-- the objects that an object with these terms observes, each once: `today` first, then its inputs in order (QuantLib's
-- `registerWith`)
abbrev pub edges_of : Option Terms → List ℕ
edges_of None = []
edges_of (Some terms) =
    each_once (if observes_today terms then 0 ∷ named (inputs_of terms) else named (inputs_of terms))

abbrev pub edges : Market → ℕ → List ℕ
edges market o = edges_of (terms_at market o)

-- the least number below n that passes
abbrev pub or_number : Option ℕ → Option ℕ → Option ℕ
or_number (Some x) later = Some x
or_number None later = later

abbrev pub least_where : (ℕ → Bool) → ℕ → Option ℕ
least_where passes zero = None
least_where passes (suc n) = or_number (least_where passes n) (if passes n then Some n else None)

-- the least object that has x among its edges
abbrev pub least_user : Market → ℕ → Option ℕ
least_user market x = least_where (λ o. list_any (λ y. x == y) (edges market o)) (length market.objects)
