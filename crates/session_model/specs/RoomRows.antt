-- Rows on what sessions count: the computations of a discount factor, forwarding, room for objects, and the actions with
-- which a session begins. Worked by hand.
use Rattle.std.specs.Prelude.{◌≡◌, ℕ, Bool, true, false, List, [], ◌∷◌, codes, pos, Some, replicate}
use Rattle.desk_terms.specs.declared.terms.Terms.TheVariants as terms
use Rattle.desk_model.specs.declared.slot.Slot.{Slot}
use Rattle.desk_model.specs.declared.slot.Slot.TheVariants.{Free, Today, Live}
use Rattle.desk_model.specs.Market.{Market}
use Rattle.desk_model.specs.State.{kept_at}
use Rattle.desk_model.specs.Effect.{start, dropped}
use Rattle.session_commands.specs.declared.command.Command.{Command}
use Rattle.session_commands.specs.declared.command.Command.TheVariants.{Set, Unset, Link, Forward, Ask, Df}
use Rattle.watch_rounds.specs.declared.picker.Order.{Order}
use Rattle.watch_rounds.specs.declared.picker.Order.TheVariants.{First}
use Rattle.session_model.specs.Standing.{Standing, start_with, is_full}
use Rattle.session_model.specs.Course.{Running, running, round_of}
use Rattle.session_model.specs.Rows.{orders_by_hand, some_session, some_market, with_stock, called, written, units}

-- A discount factor computes its curve where that is not current, and then the one above it; a day beyond the curve and a
-- quote without a value compute nothing.
pub record AreComputed : Type 0 where
  pub factors : called some_market
      (Df 2 (pos 50) ∷ Df 2 (pos 50) ∷ Df 2 (pos 101) ∷ Set 1 (pos 40_000_000) ∷ Df 2 (pos 100) ∷ Unset 1
      ∷ Df 2 (pos 50) ∷ []) ≡ (2, true) ∷ (2, true) ∷ []
  pub implied : called some_market (Link 6 2 ∷ Df 7 (pos 50) ∷ Df 7 (pos 60) ∷ Df 2 (pos 50) ∷ [])
      ≡ (2, true) ∷ (7, true) ∷ []

-- the session that commands leave
unfoldable pub left_by : Running Order → List Command → Running Order
left_by r [] = r
left_by r (c ∷ commands) = left_by (round_of orders_by_hand r c).next commands

-- whether the stock of `with_stock` always passes notices on
abbrev pub passes_on : List Command → Bool
passes_on commands = (kept_at (left_by (running First some_session) (with_stock (units 1) commands)).standing.state 2).forward

pub record AreForwarded : Type 0 where
  pub begun : passes_on [] ≡ false
  pub on : passes_on (Forward 2 true ∷ []) ≡ true
  pub off : passes_on (Forward 2 true ∷ Forward 2 false ∷ []) ≡ false
  pub off_at_once : passes_on (Forward 2 false ∷ []) ≡ false
  pub silent : written (with_stock (units 1) (Forward 2 true ∷ Forward 2 false ∷ Ask 2 ∷ [])) ≡ codes "s 1.000000 fresh 1\n"

-- `today`, then so many of one slot
abbrev pub market_of : Slot → ℕ → Market
market_of slot count = record { today = pos 0; objects = Today ∷ replicate count slot }

abbrev pub empty_composite : Slot
empty_composite = Live (terms.Composite [])

-- the same after the drop of object 1
abbrev pub after_a_drop : ℕ → Market
after_a_drop count = (dropped 1 (record (start (pos 0)) { market = market_of empty_composite count })).market

-- 4,096 live objects fill a session, `today` among them, and a drop makes room again; 65,536 numbers fill it for good.
pub record AreFull : Type 0 where
  pub live : is_full (market_of empty_composite 4095) ≡ true
  pub one_less : is_full (market_of empty_composite 4094) ≡ false
  pub dropped : is_full (after_a_drop 4095) ≡ false
  pub one_more : is_full (after_a_drop 4096) ≡ true
  pub numbers : is_full (market_of Free 65_535) ≡ true
  pub one_number_less : is_full (market_of Free 65_534) ≡ false

-- a session of the names `today`, `q` and `a` and the quote `q`, with the blocks of its script
abbrev pub with_actions : Standing
with_actions = start_with (pos 0) (codes "today" ∷ codes "q" ∷ codes "a" ∷ []) ((1, terms.Quote (Some (pos 7))) ∷ [])
    ((Ask 1 ∷ Unset 1 ∷ []) ∷ [] ∷ [])

pub record AreBegun : Type 0 where
  pub actions : with_actions.actions ≡ (Ask 1 ∷ Unset 1 ∷ []) ∷ [] ∷ []
  pub names : with_actions.names ≡ codes "today" ∷ codes "q" ∷ codes "a" ∷ []
  pub objects : with_actions.of_object ≡ 0 ∷ 1 ∷ []
  pub stopped : with_actions.stopped ≡ false
