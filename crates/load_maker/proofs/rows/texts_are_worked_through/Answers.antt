use Rattle.std.proofs.Common.{refl}
use Rattle.std.specs.Fmt.{digits}
use Rattle.watch_rounds.specs.Order.{churned}
use Rattle.load_maker.specs.Texts.{for_each, generator}
use Rattle.load_maker.proofs.rows.texts_are_worked_through.Goals as goal

pub returns : goal.returns
unfolding digits churned for_each generator
returns c = record {
  market = refl;
  quotes = refl;
  one = refl;
  two = refl;
  five = refl;
}
