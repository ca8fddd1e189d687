-- The live object that has a name, looked for one number after the other.
use Rattle.std.proofs.Common.{◌≡◌, ◌∙◌, ◌<◌, ◌≤◌, ◌+◌, ℕ, suc, arith, true, false, ◌&&◌, ◌==◌, if◌then◌else◌, List, length, drop, drop_of_length-le, Some, None, refl, sym, ap}
use Rattle.std.proofs.Math.Seq.{drop-cons}
use Rattle.std.specs.Prelude.{is_some, slice_index_or}
use Rattle.desk_model.specs.declared.slot.Slot.{Slot}
use Rattle.desk_model.specs.declared.slot.Slot.TheVariants.{Free, Today, Watcher, Live}
use Rattle.desk_model.specs.Market.{Market, slot_at, kind_in, is_given}
use Rattle.session_model.specs.Standing.{named_from}

pub given_kind : (slot : Slot) → is_some (kind_in slot) ≡ is_given slot
given_kind Free = refl
given_kind Today = refl
given_kind Watcher = refl
given_kind (Live terms) = refl

-- the object with a number has the name, or one of a greater number
named_step : (m : Market) (name at : ℕ) (names : List ℕ) → at < length names
    → named_from m name at (drop at names)
    ≡ (if (slice_index_or names at 0 == name) && is_given (slot_at m at) then Some at else named_from m name (at + 1) (drop (at + 1) names))
unfolding named_from
named_step m name at names h =
    let next : suc at ≡ at + 1 = omega arith in
    ap (named_from m name at) (drop-cons names at 0 h)
    ∙ ap (λ (n : ℕ). if (slice_index_or names at 0 == name) && is_given (slot_at m at) then Some at else named_from m name (at + 1) (drop n names)) next

pub named_here : (m : Market) (name at : ℕ) (names : List ℕ) → at < length names → (slice_index_or names at 0 == name) ≡ true
    → is_some (kind_in (slot_at m at)) ≡ true → named_from m name at (drop at names) ≡ Some at
named_here m name at names h same live =
    let given : is_given (slot_at m at) ≡ true = sym (given_kind (slot_at m at)) ∙ live in
    named_step m name at names h ∙ rw (same, given) refl

pub named_later : (m : Market) (name at : ℕ) (names : List ℕ) → at < length names → (slice_index_or names at 0 == name) ≡ false
    → named_from m name at (drop at names) ≡ named_from m name (at + 1) (drop (at + 1) names)
named_later m name at names h other = named_step m name at names h ∙ rw other refl

pub dead_later : (m : Market) (name at : ℕ) (names : List ℕ) → at < length names → (slice_index_or names at 0 == name) ≡ true
    → is_some (kind_in (slot_at m at)) ≡ false → named_from m name at (drop at names) ≡ named_from m name (at + 1) (drop (at + 1) names)
dead_later m name at names h same dead =
    let given : is_given (slot_at m at) ≡ false = sym (given_kind (slot_at m at)) ∙ dead in
    named_step m name at names h ∙ rw (same, given) refl

pub named_done : (m : Market) (name at : ℕ) (names : List ℕ) → length names ≤ at → named_from m name at (drop at names) ≡ None
unfolding named_from
named_done m name at names h = rw (drop_of_length-le names h) refl
