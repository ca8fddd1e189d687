-- Small sessions with several watchers, worked through by hand.
use Rattle.std.specs.Prelude.{◌≡◌, true, false, [], ◌∷◌, pos, Some, None}
use Rattle.desk_terms.specs.declared.terms.Terms.TheVariants.{Handle, Stock, Composite}
use Rattle.desk_terms.specs.declared.terms.HandleKind as handle
use Rattle.desk_model.specs.State.{State, kept_at, least_source}
use Rattle.desk_model.specs.Links.{reaches}
use Rattle.desk_model.specs.Market.{least_user}
use Rattle.desk_model.specs.Told.{is_registered, is_watching, registered}
use Rattle.desk_model.specs.Effect.{made, watching, quote_set, relinked, member_set, today_set, dropped, registered_with, unregistered, handed_out, frozen_set, forward_set, thawed, deferred, resumed}
use Rattle.desk_model.specs.Examples.{ask, quote, day_0}

-- Quotes 1 and 2, a stock on the first, 3, and two watchers, 4 and 5: 5 is registered with both quotes, 4 with the first
-- quote and the stock. The second registration of 4 comes before its first, and 5 is registered twice with quote 1.
abbrev pub under_several : State
under_several = registered_with 5 1 (registered_with 4 1 (registered_with 5 2 (registered_with 4 3 (registered_with 5 1 (watching (watching (made (Stock 1) (quote (pos 7) (quote (pos 1) day_0)))))))))

-- Several watchers under one object, one watcher under several.
pub record AreUnderSeveral : Type 0 where
  pub order : under_several.registrations ≡ (4, 1) ∷ (4, 3) ∷ (5, 1) ∷ (5, 2) ∷ []
  pub registered_there : is_registered under_several 5 2 ≡ true
  pub not_there : is_registered under_several 5 3 ≡ false
  pub both_told : (quote_set 1 (Some (pos 2)) under_several).noticed ≡ 4 ∷ 5 ∷ []
  pub one_told : (quote_set 2 (Some (pos 2)) under_several).noticed ≡ 5 ∷ []
  pub told_by_both : (quote_set 2 (Some (pos 2)) (quote_set 1 (Some (pos 2)) under_several)).noticed ≡ 4 ∷ 5 ∷ []
  pub same_value : (quote_set 1 (Some (pos 1)) under_several).noticed ≡ []

-- Unregister of one of several pairs; the watchers of a dropped object; a dropped watcher.
abbrev pub fewer : State
fewer = unregistered 5 1 under_several

pub record AreUnregistered : Type 0 where
  pub left : fewer.registrations ≡ (4, 1) ∷ (4, 3) ∷ (5, 2) ∷ []
  pub told : (quote_set 1 (Some (pos 2)) fewer).noticed ≡ 4 ∷ []
  pub still_watching : is_watching fewer 5 ≡ true
  pub watching_no_more : is_watching (unregistered 5 2 fewer) 5 ≡ false
  pub not_registered : unregistered 5 3 under_several ≡ under_several
  pub without_the_stock : (dropped 3 under_several).registrations ≡ (4, 1) ∷ (5, 1) ∷ (5, 2) ∷ []
  pub without_the_watcher : (dropped 5 under_several).registrations ≡ (4, 1) ∷ (4, 3) ∷ []
  pub dropped_is_not_told : (dropped 4 (quote_set 1 (Some (pos 2)) under_several)).noticed ≡ 5 ∷ []

-- One of several is handed out; it is told again by the next change.
abbrev pub one_handed_out : State
one_handed_out = handed_out 4 (quote_set 1 (Some (pos 2)) under_several)

pub record AreHandedOut : Type 0 where
  pub other_left : one_handed_out.noticed ≡ 5 ∷ []
  pub none_left : (handed_out 5 one_handed_out).noticed ≡ []
  pub told_again : (quote_set 1 (Some (pos 3)) one_handed_out).noticed ≡ 4 ∷ 5 ∷ []

-- A quote, 1, a stock on it, 2, and a watcher registered with the stock, 3. The stock was asked for. While it is frozen
-- its watcher is not told; a thaw tells it; a stock that is not current tells nobody.
abbrev pub under_stock : State
under_stock = registered_with 3 2 (watching (made (Stock 1) (quote (pos 1) day_0)))

abbrev pub under_frozen : State
under_frozen = quote_set 1 (Some (pos 2)) (frozen_set 2 (ask 2 under_stock))

pub record AreUnderFrozen : Type 0 where
  pub not_told : under_frozen.noticed ≡ []
  pub thawed : (thawed 2 under_frozen).noticed ≡ 3 ∷ []
  pub told_once : (quote_set 1 (Some (pos 3)) (quote_set 1 (Some (pos 2)) (ask 2 under_stock))).noticed ≡ 3 ∷ []
  pub not_current : (quote_set 1 (Some (pos 2)) under_stock).noticed ≡ []
  pub forwarding : (quote_set 1 (Some (pos 2)) (forward_set 2 true under_stock)).noticed ≡ 3 ∷ []
  pub forwarding_no_more : (quote_set 1 (Some (pos 3)) (forward_set 2 false (forward_set 2 true under_stock))).noticed ≡ []

-- Under deferral nobody is told; one `resume` tells all, each once, and a watcher that was unregistered meanwhile is not
-- told, though its source stays one.
abbrev pub held_back : State
held_back = quote_set 2 (Some (pos 8)) (quote_set 1 (Some (pos 2)) (deferred under_several))

pub record AreHeldBack : Type 0 where
  pub not_told : held_back.noticed ≡ []
  pub told : (resumed held_back).noticed ≡ 4 ∷ 5 ∷ []
  pub source : least_source (unregistered 4 1 held_back) 3 ≡ Some 1
  pub unregistered_is_not_told : (resumed (unregistered 4 1 held_back)).noticed ≡ 5 ∷ []

-- A watcher registered with a handle, 2, that stands on quote 1, and with `today`. It uses nothing, and nothing reaches
-- through it.
abbrev pub under_handle : State
under_handle = registered_with 3 0 (registered_with 3 2 (watching (made (Handle handle.TheVariants.Quote (Some 1)) (quote (pos 1) day_0))))

pub record AreUnderHandle : Type 0 where
  pub linked_away : (relinked 2 None under_handle).noticed ≡ 3 ∷ []
  pub passed_on : (quote_set 1 (Some (pos 2)) under_handle).noticed ≡ 3 ∷ []
  pub of_today : (today_set (pos 5) under_handle).noticed ≡ 3 ∷ []
  pub no_user : least_user under_handle.market 2 ≡ None
  pub no_path : reaches under_handle.market 3 2 ≡ false
