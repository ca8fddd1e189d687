use Rattle.std.proofs.Common.{refl, arith}
use Rattle.desk_terms.proofs.examples.parts_are_worked_through.Goals as goal

pub returns : goal.returns
returns c = record {
  no_part = record { count = omega arith; each = tt };
  within = record {
    count = omega arith;
    each = (
      ((λ e. cc), omega arith),
      (refl, (((λ e. cc), omega arith), (refl, (((λ e. cc), omega arith), (refl, tt))))),
    );
  };
  weight_of_0 = λ range. range.each.1.1.0.0 refl;
  weight_above = λ range. let is = range.each.0.1 in omega (arith, is);
  weight_below = λ range. let is = range.each.1.1.0.1 in omega (arith, is);
  twice = λ range. let is = range.each.1.0 in absurd (cc);
  too_many = λ parts long range. let is = range.count in omega (arith, long, is);
}
