use Rattle.fixed_amount.proofs.DecimalLaws.{value_law, empty_law, char_law, places_law, range_law}
use Rattle.fixed_amount.proofs.read.reading_law.Goals as goal

pub returns : goal.returns
returns c = record {
  value = value_law;
  empty = empty_law;
  character = λ text places at. char_law text places at;
  many_places = places_law;
  out_of_range = range_law;
}
