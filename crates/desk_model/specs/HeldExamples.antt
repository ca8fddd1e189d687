-- Small sessions with deferral, frozen objects and watchers, worked through by hand.
use Rattle.std.specs.Prelude.{◌≡◌, true, false, [], ◌∷◌, pos, Some, None, Ok, Err}
use Rattle.desk_terms.specs.declared.terms.Terms.TheVariants.{Handle, Stock, Composite}
use Rattle.desk_terms.specs.declared.terms.HandleKind as handle
use Rattle.desk_terms.specs.declared.asked.Mark.TheVariants.{Fresh, Frozen, Late, Held}
use Rattle.desk_terms.specs.declared.value.Value.TheVariants.{Money}
use Rattle.desk_terms.specs.declared.cause.Cause.TheVariants.{Unpriced}
use Rattle.desk_model.specs.State.{State, is_late, now, least_source}
use Rattle.desk_model.specs.Visit.{log_of}
use Rattle.desk_model.specs.Effect.{made, watching, quote_set, relinked, member_set, dropped, registered_with, frozen_set, forward_set, thawed, deferred, resumed}
use Rattle.desk_model.specs.Recalc.{reruns, recalced}
use Rattle.desk_model.specs.Examples.{plain, line, shown, ask, quote, day_0}

-- A quote, 1, and two stocks on it, 2 and 3, of which the first is asked for before the quote moves under deferral.
abbrev pub two_stocks : State
two_stocks = made (Stock 1) (made (Stock 1) (quote (pos 1) day_0))

abbrev pub moved_late : State
moved_late = quote_set 1 (Some (pos 2)) (deferred (ask 2 two_stocks))

pub record AreDeferred : Type 0 where
  pub late : line plain 2 moved_late ≡ shown (pos 1) Late 0
  pub never_priced : line plain 3 moved_late ≡ record { answer = Err (Unpriced 3); mark = Late; number = 0 }
  pub after_resuming : line plain 2 (resumed moved_late) ≡ shown (pos 2) Fresh 1

-- A quote, 1, a stock on it, 2, and a composite of it, 3. The stock is asked for and frozen, and the quote moves.
abbrev pub stock_and_composite : State
stock_and_composite = member_set 3 2 (pos 1) (made (Composite []) (made (Stock 1) (quote (pos 2) day_0)))

abbrev pub frozen_stock : State
frozen_stock = quote_set 1 (Some (pos 3)) (frozen_set 2 (ask 2 stock_and_composite))

pub record AreFrozen : Type 0 where
  pub frozen : line plain 2 frozen_stock ≡ shown (pos 2) Frozen 0
  pub held : line plain 3 frozen_stock ≡ shown (pos 2) Held 1
  pub after_thawing : line plain 3 (thawed 2 (ask 3 frozen_stock)) ≡ shown (pos 3) Fresh 2

-- The composite is asked for, the quote moves under deferral, and the stock in the middle is frozen: the composite is
-- late no more, and current over the last value of the stock.
abbrev pub late_composite : State
late_composite = quote_set 1 (Some (pos 3)) (deferred (ask 3 stock_and_composite))

abbrev pub frozen_between : State
frozen_between = frozen_set 2 late_composite

pub record AreFrozenBetween : Type 0 where
  pub late : line plain 3 late_composite ≡ shown (pos 2) Late 0
  pub held : line plain 3 frozen_between ≡ shown (pos 2) Held 0
  pub after_resuming : line plain 3 (resumed frozen_between) ≡ shown (pos 2) Held 0
  pub after_thawing : line plain 3 (thawed 2 (resumed frozen_between)) ≡ shown (pos 3) Fresh 2

-- A frozen stock is priced on demand, and stays frozen.
abbrev pub recalced_stock : State
recalced_stock = recalced plain 2 (quote_set 1 (Some (pos 4)) (frozen_set 2 (ask 2 two_stocks)))

abbrev pub late_again : State
late_again = quote_set 1 (Some (pos 5)) (deferred recalced_stock)

pub record AreRecalculated : Type 0 where
  pub calls : log_of (reruns plain (quote_set 1 (Some (pos 4)) (frozen_set 2 (ask 2 two_stocks))) 2) ≡ (2, true) ∷ []
  pub price : now plain (quote_set 1 (Some (pos 4)) (frozen_set 2 (ask 2 two_stocks))) 2 ≡ Ok (Money (pos 4))
  pub frozen : line plain 2 recalced_stock ≡ shown (pos 4) Frozen 0
  pub late_source : least_source late_again 2 ≡ Some 1
  pub frozen_and_late : (is_late late_again 2 ≡ true) × (line plain 2 late_again ≡ shown (pos 4) Frozen 0)
  pub no_late_source : least_source recalced_stock 2 ≡ None

-- Quotes 1, 2 and 3, a handle on the first, 4, a stock on the handle, 5, and on the first quote, 6. Under deferral
-- the first quote moves, then the third, and the handle is linked to the second: the first is a source still.
abbrev pub handle_on_first : State
handle_on_first = made (Stock 1) (made (Stock 4) (relinked 4 (Some 1) (made (Handle handle.TheVariants.Quote None) (quote (pos 0) (quote (pos 5) (quote (pos 1) day_0))))))

abbrev pub linked_away : State
linked_away = relinked 4 (Some 2) (quote_set 3 (Some (pos 1)) (quote_set 1 (Some (pos 2)) (deferred (ask 6 (ask 5 handle_on_first)))))

abbrev pub told_at_last : State
told_at_last = resumed (dropped 3 linked_away)

pub record AreLinkedAway : Type 0 where
  pub late : line plain 5 linked_away ≡ shown (pos 1) Late 0
  pub linked : line plain 5 told_at_last ≡ shown (pos 5) Fresh 1
  pub told : line plain 6 (ask 5 told_at_last) ≡ shown (pos 2) Fresh 1

-- A watcher, 4, registered with the first stock. The quote moves before the stock is computed; then the stock passes
-- each notice on, and the quote moves twice.
abbrev pub watched : State
watched = registered_with 4 2 (watching two_stocks)

abbrev pub passing : State
passing = forward_set 2 true (quote_set 1 (Some (pos 2)) watched)

pub record AreWatched : Type 0 where
  pub not_told : (quote_set 1 (Some (pos 2)) watched).noticed ≡ []
  pub told : (quote_set 1 (Some (pos 3)) passing).noticed ≡ 4 ∷ []
  pub told_once : (quote_set 1 (Some (pos 4)) (quote_set 1 (Some (pos 3)) passing)).noticed ≡ 4 ∷ []
  pub told_of_a_current_one : (quote_set 1 (Some (pos 2)) (ask 2 watched)).noticed ≡ 4 ∷ []
  pub off_again : (quote_set 1 (Some (pos 3)) (forward_set 2 false passing)).noticed ≡ []
  pub after_dropping : (dropped 4 (quote_set 1 (Some (pos 3)) passing)).noticed ≡ []
  pub unwatched : (dropped 2 watched).registrations ≡ []
