-- An ask, and the money that is stored behind its round.
use Rattle.std.proofs.Common.{◌≡◌, true}
use Rattle.desk_terms.specs.Reading.{Calc}
use Rattle.desk_model.specs.Links.{IsWhole}
use Rattle.watch_rounds.specs.declared.picker.Order.{Order}
use Rattle.session_commands.specs.declared.command.Command.{Command}
use Rattle.session_commands.specs.declared.command.Command.TheVariants as command
use Rattle.session_model.specs.Course.{Running, round_of}
use Rattle.tool_script.specs.Kinds.{is_ask, asked_name}
use Rattle.tool_script.specs.Scenario.{ordered, money_shown}
use Rattle.tool_script.specs.Going.{IsGoing}
use Rattle.tool_script.specs.Kept.{money_asked}
use Rattle.tool_script.proofs.Money.{round_money}

pub ask_money : (calc : Calc) (r : Running Order) (c : Command) → is_ask c ≡ true → IsWhole r.standing.state → IsGoing calc r
    → money_shown calc r.standing (asked_name c) ≡ money_asked (round_of (ordered calc) r c).next.standing (asked_name c)
ask_money calc r (command.Quote name value) is whole going = absurd (cc)
ask_money calc r (command.Sum name a b) is whole going = absurd (cc)
ask_money calc r (command.Difference name a b) is whole going = absurd (cc)
ask_money calc r (command.Handle name is_curve) is whole going = absurd (cc)
ask_money calc r (command.Stock name q) is whole going = absurd (cc)
ask_money calc r (command.Composite name) is whole going = absurd (cc)
ask_money calc r (command.Member k i weight) is whole going = absurd (cc)
ask_money calc r (command.Set q value) is whole going = absurd (cc)
ask_money calc r (command.Unset q) is whole going = absurd (cc)
ask_money calc r (command.Link h t) is whole going = absurd (cc)
ask_money calc r (command.Unlink h) is whole going = absurd (cc)
ask_money calc r (command.Engine i e) is whole going = absurd (cc)
ask_money calc r (command.Today day) is whole going = absurd (cc)
ask_money calc r (command.Fixing x day rate) is whole going = absurd (cc)
ask_money calc r (command.Freeze o) is whole going = absurd (cc)
ask_money calc r (command.Thaw o) is whole going = absurd (cc)
ask_money calc r (command.Recalc o) is whole going = absurd (cc)
ask_money calc r (command.Forward o is_on) is whole going = absurd (cc)
ask_money calc r command.Defer is whole going = absurd (cc)
ask_money calc r command.Resume is whole going = absurd (cc)
ask_money calc r (command.Watch w action) is whole going = absurd (cc)
ask_money calc r (command.Register w o) is whole going = absurd (cc)
ask_money calc r (command.Unregister w o) is whole going = absurd (cc)
ask_money calc r (command.Drop o) is whole going = absurd (cc)
ask_money calc r (command.Ask o) is whole going =
    round_money calc r o whole going.sound going.unheld
ask_money calc r (command.Df c day) is whole going = absurd (cc)
