-- Sessions with watchers worked through by hand.
use Rattle.std.specs.Prelude.{◌≡◌, ℕ, true, List, [], ◌∷◌, ◌++◌, codes, pos, Some}
use Rattle.watch_rounds.specs.declared.picker.Order.{Order}
use Rattle.watch_rounds.specs.declared.picker.Order.TheVariants.{First, Last, Seed}
use Rattle.watch_rounds.specs.Round.{tally_at}
use Rattle.session_commands.specs.declared.command.Command.{Command}
use Rattle.session_commands.specs.declared.command.Command.TheVariants.{Quote, Stock, Set, Unset, Today, Freeze, Thaw, Recalc, Forward, Defer, Resume, Watch, Register, Unregister, Drop, Ask}
use Rattle.session_model.specs.Standing.{start_of}
use Rattle.session_model.specs.Course.{Running, running, most_runs, round_of}
use Rattle.session_model.specs.Rounds.{transcript}
use Rattle.session_model.specs.Ends.{names_of_watchers, names_run_in}
use Rattle.session_model.specs.Rows.{orders_by_hand, units, with_stock}
use Rattle.session_model.specs.RoomRows.{left_by}

-- a session of the names `today`, `q`, `s`, `t`, `v`, `w`, `u` and `k`, by the numbers 0 to 7, with these actions
abbrev pub some_watchers : List (List Command) → Order → Running Order
some_watchers actions order = running order (start_of (pos 0)
    (codes "today" ∷ codes "q" ∷ codes "s" ∷ codes "t" ∷ codes "v" ∷ codes "w" ∷ codes "u" ∷ codes "k" ∷ []) actions)

abbrev pub played : List (List Command) → Order → List Command → List ℕ
played actions order commands = transcript orders_by_hand (some_watchers actions order) commands

-- how often a name has run in the last of these rounds
abbrev pub runs_in : List (List Command) → List Command → ℕ → ℕ
runs_in actions commands name = (tally_at (left_by (some_watchers actions First) commands).round name).runs

-- an action that asks the stock `s`
abbrev pub asks_s : List (List Command)
asks_s = (Ask 2 ∷ []) ∷ []

-- the stock on the quote, the watcher `w` registered with object o, and these commands
abbrev pub with_watcher : ℕ → List Command → List Command
with_watcher o commands = with_stock (units 1) (Watch 5 0 ∷ Register 5 o ∷ commands)

-- Each refusal comes in its order.
pub record AreWatchersRefused : Type 0 where
  pub names : played asks_s First (with_stock (units 1) (Watch 2 0 ∷ Register 2 1 ∷ Register 3 1 ∷ Watch 7 0 ∷ Register 7 7
      ∷ Register 7 6 ∷ Register 1 6 ∷ Unregister 7 3 ∷ []))
      ≡ codes "refused watch taken s\nrefused register kind s\nrefused register unknown t\nrefused register kind k\n"
      ++ codes "refused register unknown u\nrefused register kind q\nrefused unregister unknown t\n"
  pub pairs : played asks_s First (with_stock (units 1) (Watch 7 0 ∷ Unregister 7 0 ∷ Register 7 0 ∷ Register 7 0
      ∷ Unregister 7 1 ∷ Unregister 7 0 ∷ Unregister 7 0 ∷ []))
      ≡ codes "refused unregister notregistered\nrefused register registered\nrefused unregister notregistered\n"
      ++ codes "refused unregister notregistered\n"
  pub uses : played asks_s First (with_watcher 2 (Ask 5 ∷ Stock 3 5 ∷ Freeze 5 ∷ Drop 5 ∷ Drop 5 ∷ Drop 2 ∷ []))
      ≡ codes "refused ask kind w\nrefused stock kind w\nrefused freeze kind w\nrefused drop unknown w\n"

-- Who is told: a watcher of what changed, or of what passed the notice on, whether or not deferral held it back.
pub record AreTold : Type 0 where
  pub told : played asks_s First (with_watcher 2 (Set 1 (units 2) ∷ Forward 2 true ∷ Set 1 (units 3) ∷ Set 1 (units 4) ∷ []))
      ≡ codes "s 3.000000 fresh 1\ns 4.000000 fresh 1\n"
  pub after_an_ask : played asks_s First (with_watcher 2 (Ask 2 ∷ Set 1 (units 2) ∷ Set 1 (units 2) ∷ []))
      ≡ codes "s 1.000000 fresh 1\ns 2.000000 fresh 1\n"
  pub same_value : played asks_s First (with_watcher 1 (Set 1 (units 1) ∷ [])) ≡ []
  pub resumed : played asks_s First (with_watcher 1 (Ask 2 ∷ Defer ∷ Set 1 (units 2) ∷ Ask 2 ∷ Resume ∷ []))
      ≡ codes "s 1.000000 fresh 1\ns 1.000000 late 0\ns 2.000000 fresh 1\n"
  pub frozen : played asks_s First (with_watcher 2 (Ask 2 ∷ Freeze 2 ∷ Set 1 (units 2) ∷ Thaw 2 ∷ []))
      ≡ codes "s 1.000000 fresh 1\ns 2.000000 fresh 1\n"
  pub frozen_stays : played asks_s First (with_watcher 2 (Ask 2 ∷ Freeze 2 ∷ Set 1 (units 2) ∷ [])) ≡ codes "s 1.000000 fresh 1\n"
  pub recalc : played asks_s First (with_watcher 2 (Ask 2 ∷ Set 1 (units 2) ∷ Recalc 2 ∷ []))
      ≡ codes "s 1.000000 fresh 1\ns 2.000000 fresh 1\ns 2.000000 recalc 1\ns 2.000000 fresh 0\n"
  pub refused_recalc : played asks_s First (with_watcher 2 (Unset 1 ∷ Recalc 2 ∷ []))
      ≡ codes "s refused unset q 0\ns refused unset q 0\n"
  pub several : played asks_s First (with_watcher 1 (Register 5 2 ∷ Set 1 (units 2) ∷ Unregister 5 1 ∷ Set 1 (units 3) ∷ Ask 2 ∷ Set 1 (units 4) ∷ []))
      ≡ codes "s 2.000000 fresh 1\ns 3.000000 fresh 1\ns 3.000000 fresh 0\ns 4.000000 fresh 1\n"
  pub refused_command : played asks_s First (with_watcher 1 (Set 3 (units 2) ∷ [])) ≡ codes "refused set unknown t\n"
  pub unregistered : played asks_s First (with_watcher 1 (Unregister 5 1 ∷ Set 1 (units 2) ∷ [])) ≡ []
  pub today : played asks_s First (with_watcher 0 (Set 1 (units 2) ∷ [])) ≡ []

-- two watchers that set the quote to and fro
abbrev pub sets : List (List Command)
sets = (Set 1 (units 2) ∷ []) ∷ (Set 1 (units 1) ∷ []) ∷ []

abbrev pub set_to_and_fro : List Command → List Command
set_to_and_fro commands =
    Quote 1 (Some (pos 0)) ∷ Stock 2 1 ∷ Watch 4 0 ∷ Watch 5 1 ∷ Register 4 1 ∷ Register 5 1 ∷ Set 1 (units 5) ∷ commands

-- a watcher that makes itself anew
abbrev pub again : List (List Command)
again = (Drop 5 ∷ Watch 5 0 ∷ Register 5 1 ∷ Set 1 (units 1) ∷ Set 1 (units 2) ∷ []) ∷ []

abbrev pub made_again : List Command
made_again = Quote 1 (Some (pos 0)) ∷ Watch 5 0 ∷ Register 5 1 ∷ Set 1 (units 5) ∷ []

-- A name runs eight times in a round, whoever has it, and the next round counts anew.
pub record AreRunEightTimes : Type 0 where
  pub over : played sets First (set_to_and_fro (Ask 2 ∷ [])) ≡ codes "over v\ns 1.000000 fresh 1\n"
  pub anew_each_round : played sets First (set_to_and_fro (Set 1 (units 5) ∷ [])) ≡ codes "over v\nover v\n"
  pub runs : (runs_in sets (set_to_and_fro []) 4 ≡ 8) × (runs_in sets (set_to_and_fro []) 5 ≡ 5)
  pub namesakes : played again First made_again ≡ codes "over w\n"
  pub eight : runs_in again made_again 5 ≡ 8

-- a session of the names `today` and `w` alone, whose watcher moves the evaluation date to and fro, and is registered with it
abbrev pub two_names : Running Order
two_names = left_by (running First (start_of (pos 0) (codes "today" ∷ codes "w" ∷ []) ((Today (pos 1) ∷ Today (pos 2) ∷ []) ∷ [])))
    (Watch 1 0 ∷ Register 1 0 ∷ [])

-- A round has room for 8 runs of each name, and not for one run more: all are run, also where nearly each name is a watcher's.
pub record AreEnded : Type 0 where
  pub eight : names_run_in orders_by_hand two_names (Today (pos 5)) ≡ 1 ∷ 1 ∷ 1 ∷ 1 ∷ 1 ∷ 1 ∷ 1 ∷ 1 ∷ []
  pub over : (round_of orders_by_hand two_names (Today (pos 5))).lines ≡ codes "over w\n"
  pub ends : (round_of orders_by_hand two_names (Today (pos 5))).next.round.due ≡ []
  pub most : most_runs two_names ≡ 16
  pub in_turn : names_run_in orders_by_hand (left_by (some_watchers sets First) (Quote 1 (Some (pos 0)) ∷ Stock 2 1 ∷ Watch 4 0
      ∷ Watch 5 1 ∷ Register 4 1 ∷ Register 5 1 ∷ [])) (Set 1 (units 5))
      ≡ 4 ∷ 4 ∷ 5 ∷ 4 ∷ 4 ∷ 5 ∷ 4 ∷ 4 ∷ 5 ∷ 4 ∷ 4 ∷ 5 ∷ 5 ∷ []
  pub given : names_of_watchers ((Watch 6 0 ∷ Ask 2 ∷ Watch 5 0 ∷ []) ∷ []) (Watch 4 0 ∷ Watch 5 1 ∷ Register 4 1 ∷ []) ≡ 6 ∷ 4 ∷ 5 ∷ []

-- two watchers, of which the first drops both
abbrev pub drops : List (List Command)
drops = (Drop 4 ∷ Drop 5 ∷ Ask 2 ∷ []) ∷ (Ask 3 ∷ []) ∷ []

abbrev pub two_due : List Command
two_due = Quote 1 (Some (units 1)) ∷ Stock 2 1 ∷ Stock 3 1 ∷ Watch 4 0 ∷ Watch 5 1 ∷ Register 4 1 ∷ Register 5 1 ∷ Set 1 (units 2) ∷ []

-- three watchers that each ask
abbrev pub asks : List (List Command)
asks = (Ask 2 ∷ []) ∷ (Ask 3 ∷ []) ∷ (Ask 7 ∷ []) ∷ []

abbrev pub three_due : List Command
three_due = Quote 1 (Some (units 1)) ∷ Stock 2 1 ∷ Stock 3 1 ∷ Stock 7 1 ∷ Watch 4 0 ∷ Watch 5 1 ∷ Watch 6 2 ∷ Register 4 1
    ∷ Register 5 1 ∷ Register 6 1 ∷ Set 1 (units 2) ∷ []

-- Who of the due runs next; a watcher that is dropped, or left without a registration, does not run, and an action goes
-- on to its last command though its watcher is gone.
pub record ArePicked : Type 0 where
  pub first : played drops First two_due ≡ codes "s 2.000000 fresh 1\n"
  pub last : played drops Last two_due ≡ codes "t 2.000000 fresh 1\ns 2.000000 fresh 1\n"
  pub seeded : played drops (Seed 0) two_due ≡ codes "t 2.000000 fresh 1\ns 2.000000 fresh 1\n"
  pub three : played asks (Seed 0) three_due ≡ codes "k 2.000000 fresh 1\ns 2.000000 fresh 1\nt 2.000000 fresh 1\n"
  pub unregistered : played ((Unregister 5 1 ∷ Ask 2 ∷ []) ∷ (Ask 3 ∷ []) ∷ []) First two_due ≡ codes "s 2.000000 fresh 1\n"
  pub last_object : played ((Drop 7 ∷ Ask 2 ∷ []) ∷ (Ask 3 ∷ []) ∷ []) First
      (Quote 1 (Some (units 1)) ∷ Quote 7 (Some (units 1)) ∷ Stock 2 1 ∷ Stock 3 1 ∷ Watch 4 0 ∷ Watch 5 1 ∷ Register 4 1 ∷ Register 5 7
      ∷ Defer ∷ Set 1 (units 2) ∷ Set 7 (units 2) ∷ Resume ∷ []) ≡ codes "s 2.000000 fresh 1\n"
  pub told_in_its_run : played ((Ask 2 ∷ Set 1 (units 3) ∷ []) ∷ []) First (with_watcher 2 (Ask 2 ∷ Set 1 (units 2) ∷ []))
      ≡ codes "s 1.000000 fresh 1\ns 2.000000 fresh 1\ns 3.000000 fresh 1\n"
