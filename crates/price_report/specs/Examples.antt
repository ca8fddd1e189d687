-- Lines written out by hand: each cause, each mark and each refusal once. The names are numbered in the order of their
-- list; the objects are, in order of their numbers, `o`, `c`, `x`, `i`, `h`, `q` and `t`.
use Rattle.std.specs.Prelude.{◌≡◌, ℕ, List, [], ◌∷◌, map, pos, negsuc, codes, Ok, Err}
use Rattle.curve_points.specs.Curve.{Curve as CurveView}
use Rattle.desk_terms.specs.declared.value.Value.TheVariants.{Money, Curve}
use Rattle.desk_terms.specs.declared.cause.Cause.{Cause}
use Rattle.desk_terms.specs.declared.cause.Cause.TheVariants.{Unset, Empty, NoEngine, NoFixing, Before, Past, Pillar, Discount, Negative, RateRange, DateRange, TooLarge, Unpriced}
use Rattle.desk_terms.specs.declared.asked.Mark.TheVariants.{Fresh, Frozen, Late, Held, Recalc}
use Rattle.session_commands.specs.declared.refusal.Refusal.{Refusal}
use Rattle.session_commands.specs.declared.refusal.Refusal.TheVariants.{Unknown, Taken, Kind, Cycle, InUse, FixingExists, TooMany, AlreadyRegistered, NotRegistered, Deferred}
use Rattle.price_report.specs.Line.{asked_line, df_line, refusal_line, over_line}

abbrev pub ten_names : List (List ℕ)
ten_names =
    codes "q" ∷ codes "h" ∷ codes "i" ∷ codes "x" ∷ codes "c" ∷ codes "o" ∷ codes "z" ∷ codes "s" ∷ codes "t" ∷ codes "v" ∷ []

abbrev pub seven_objects : List ℕ
seven_objects = 5 ∷ 4 ∷ 3 ∷ 2 ∷ 1 ∷ 0 ∷ 8 ∷ []

-- causes of objects and of what they hold
abbrev pub plain_causes : List Cause
plain_causes =
    Unset 5 ∷ Empty 4 ∷ NoEngine 3 ∷ RateRange 0 ∷ DateRange 0 ∷ TooLarge 0 ∷ Unpriced 0 ∷ Pillar 1 2 ∷ Discount 1 3
    ∷ Negative 1 1 ∷ []

-- causes with the days 2024-02-21, 2024-01-01 and 2024-04-12
abbrev pub dated_causes : List Cause
dated_causes = NoFixing 2 (pos 19_774) ∷ Before 1 (pos 19_723) ∷ Past 1 (pos 19_825) ∷ []

abbrev pub refusals : List Refusal
refusals =
    Unknown 6 ∷ Taken 0 ∷ Kind 7 ∷ Cycle ∷ InUse 4 ∷ FixingExists (pos 50_000_000) ∷ TooMany ∷ AlreadyRegistered
    ∷ NotRegistered ∷ Deferred 5 ∷ []

-- the line of a refused ask of `s`
abbrev pub cause_line : Cause → List ℕ
cause_line cause = asked_line ten_names seven_objects 7 (Err cause) Fresh 0

-- the curve of `c` from 2024-01-02 with the factor 0.990099009901 on 2024-04-11, and one with the least and the greatest
-- factor, on 1901-01-02 and 2199-12-31
abbrev pub one_node : CurveView
one_node = record { owner = 1; reference = pos 19_724; nodes = record { day = pos 19_824; factor = pos 990_099_009_901 } ∷ [] }

abbrev pub extremes : CurveView
extremes = record {
  owner = 1;
  reference = negsuc 25_201;
  nodes = record { day = negsuc 25_200; factor = pos 1 } ∷ record { day = pos 84_005; factor = pos 4_000_000_000_000 } ∷ [];
}

-- what the definitions give there
pub record AreWorked : Type 0 where
  pub plain : map cause_line plain_causes ≡
      codes "s refused unset q 0\n" ∷ codes "s refused empty h 0\n" ∷ codes "s refused noengine i 0\n"
      ∷ codes "s refused raterange o 0\n" ∷ codes "s refused daterange o 0\n" ∷ codes "s refused toolarge o 0\n"
      ∷ codes "s refused unpriced o 0\n" ∷ codes "s refused pillar c 2 0\n" ∷ codes "s refused discount c 3 0\n"
      ∷ codes "s refused negative c 1 0\n" ∷ []
  pub dated : map cause_line dated_causes ≡
      codes "s refused nofixing x 2024-02-21 0\n" ∷ codes "s refused before c 2024-01-01 0\n"
      ∷ codes "s refused past c 2024-04-12 0\n" ∷ []
  pub fresh : asked_line ten_names seven_objects 7 (Ok (Money (pos 1_500_000))) Fresh 1 ≡ codes "s 1.500000 fresh 1\n"
  pub frozen : asked_line ten_names seven_objects 7 (Ok (Money (negsuc 0))) Frozen 0 ≡ codes "s -0.000001 frozen 0\n"
  pub late : asked_line ten_names seven_objects 7 (Ok (Money (pos 0))) Late 0 ≡ codes "s 0.000000 late 0\n"
  pub held : asked_line ten_names seven_objects 7 (Ok (Money (negsuc 12_345_677))) Held 18_446_744_073_709_551_615
      ≡ codes "s -12.345678 held 18446744073709551615\n"
  pub recalc : asked_line ten_names seven_objects 7 (Ok (Money (pos 100_000_000_000_000_000_000_000_000))) Recalc 12
      ≡ codes "s 100000000000000000000.000000 recalc 12\n"
  pub curve : asked_line ten_names seven_objects 4 (Ok (Curve one_node)) Fresh 1
      ≡ codes "c curve 2024-01-02 1.000000000000 2024-04-11 0.990099009901 fresh 1\n"
  pub bare_curve : asked_line ten_names seven_objects 4 (Ok (Curve (record one_node { nodes = [] }))) Late 0
      ≡ codes "c curve 2024-01-02 1.000000000000 late 0\n"
  pub greatest : asked_line ten_names seven_objects 4 (Ok (Curve extremes)) Held 2
      ≡ codes "c curve 1901-01-01 1.000000000000 1901-01-02 0.000000000001 2199-12-31 4.000000000000 held 2\n"
  pub factor : df_line ten_names seven_objects 4 (pos 19_774) (Ok (pos 995_049_504_951)) Fresh 0
      ≡ codes "c 2024-02-21 0.995049504951 fresh 0\n"
  pub past : df_line ten_names seven_objects 4 (pos 19_825) (Err (Past 1 (pos 19_825))) Fresh 0
      ≡ codes "c refused past c 2024-04-12 0\n"
  pub before : df_line ten_names seven_objects 4 (pos 19_723) (Err (Before 1 (pos 19_723))) Fresh 0
      ≡ codes "c refused before c 2024-01-01 0\n"
  pub no_curve : df_line ten_names seven_objects 4 (pos 19_774) (Err (Unset 5)) Frozen 3
      ≡ codes "c refused unset q 3\n"
  pub refused : map (refusal_line ten_names seven_objects (codes "set")) refusals ≡
      codes "refused set unknown z\n" ∷ codes "refused set taken q\n" ∷ codes "refused set kind s\n"
      ∷ codes "refused set cycle\n" ∷ codes "refused set inuse h\n" ∷ codes "refused set exists 0.050000000\n"
      ∷ codes "refused set toomany\n" ∷ codes "refused set registered\n" ∷ codes "refused set notregistered\n"
      ∷ codes "refused set deferred q\n" ∷ []
  pub over : over_line ten_names 9 ≡ codes "over v\n"
  pub nobody : over_line ten_names 10 ≡ codes "over \n"
