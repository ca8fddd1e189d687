-- The objects of a desk: slots without the values of quotes, and the board that has them.
use Rattle.std.specs.Prelude.{◌≡◌, ℕ, ◌+◌, ℤ, Bool, false, List, [], ◌∷◌, Option, Some, None, is_some, not, slice_index_or}
use Rattle.quote_board.specs.Board.{Board, entry}
use Rattle.desk_terms.specs.declared.terms.Terms.{Terms}
use Rattle.desk_terms.specs.declared.terms.Terms.TheVariants.{Quote, Derived, Handle, Curve, Implied, Index, Engine, Stock, Composite, Flows}
use Rattle.desk_model.specs.declared.slot.Slot.{Slot}
use Rattle.desk_model.specs.declared.slot.Slot.TheVariants as slot

-- the value that terms have for themselves: that of a quote, or none
abbrev pub quoted : Terms → Option (Option ℤ)
quoted (Quote value) = Some value
quoted (Derived minus first second) = None
quoted (Handle kind target) = None
quoted (Curve terms) = None
quoted (Implied curve reference) = None
quoted (Index terms fixings) = None
quoted (Engine curve) = None
quoted (Stock quote) = None
quoted (Composite parts) = None
quoted (Flows flows engine) = None

-- terms, where a quote has this value
abbrev pub with_quote : Option ℤ → Terms → Terms
with_quote value (Quote held) = Quote value
with_quote value (Derived minus first second) = Derived minus first second
with_quote value (Handle kind target) = Handle kind target
with_quote value (Curve terms) = Curve terms
with_quote value (Implied curve reference) = Implied curve reference
with_quote value (Index terms fixings) = Index terms fixings
with_quote value (Engine curve) = Engine curve
with_quote value (Stock quote) = Stock quote
with_quote value (Composite parts) = Composite parts
with_quote value (Flows flows engine) = Flows flows engine

-- terms without the value of a quote
abbrev pub bare : Option Terms → Option Terms
bare None = None
bare (Some terms) = Some (with_quote None terms)

-- whether a quote stands in a slot
abbrev pub has_quote : Slot → Bool
has_quote slot.Free = false
has_quote slot.Today = false
has_quote slot.Watcher = false
has_quote (slot.Live terms) = is_some (quoted terms)

-- whether terms stand in a slot that are no quote's
abbrev pub has_own_terms : Slot → Bool
has_own_terms slot.Free = false
has_own_terms slot.Today = false
has_own_terms slot.Watcher = false
has_own_terms (slot.Live terms) = not (is_some (quoted terms))

abbrev pub valued : Option ℤ → Slot → Slot
valued value slot.Free = slot.Free
valued value slot.Today = slot.Today
valued value slot.Watcher = slot.Watcher
valued value (slot.Live terms) = slot.Live (with_quote value terms)

-- a slot with what the board has at its number
abbrev pub joined : Option (Option ℤ) → Slot → Slot
joined None slot = slot
joined (Some value) slot = valued value slot

abbrev pub joined_from : Board → ℕ → List Slot → List Slot
joined_from board at [] = []
joined_from board at (slot ∷ slots) = joined (entry board at) slot ∷ joined_from board (at + 1) slots

-- THE OBJECTS by number: the slots, with the values of quotes that the board has
abbrev pub objects_of : Board → List Slot → List Slot
objects_of board slots = joined_from board 0 slots

-- the board has the quotes and nothing else, and no slot has the value of a quote
pub record IsBoarded (board : Board) (slots : List Slot) : Type 0 where
  pub quotes : (x : ℕ) → is_some (entry board x) ≡ has_quote (slice_index_or slots x slot.Free)
  pub bare : (x : ℕ) → valued None (slice_index_or slots x slot.Free) ≡ slice_index_or slots x slot.Free
