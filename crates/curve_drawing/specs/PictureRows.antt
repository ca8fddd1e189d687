-- Curves worked through by hand: from 2024-01-02 with the factor 0.990099009901 on 2024-04-11, of two weeks, above 1, and of
-- sixty years.
use Rattle.std.specs.Prelude.{◌≡◌, ◌*◌, ◌^◌, ℕ, ℤ, List, [], ◌∷◌, pos, negsuc, codes}
use Rattle.curve_drawing.specs.declared.lines.Plot.TheVariants.{Factors, Zeros, Forwards, Pars}
use Rattle.curve_drawing.specs.declared.lines.PlotPoint.{PlotPoint}
use Rattle.curve_drawing.specs.Lines.{Line}
use Rattle.curve_drawing.specs.declared.places.TheConstants.{LEFT, WIDTH, FOOT, HEIGHT}
use Rattle.curve_drawing.specs.declared.scale.Scale.{Scale}
use Rattle.curve_drawing.specs.declared.scale.TheConstants.{STEPS, MOST_STEP, DAY, YEAR, MOST_DAYS, STRIDES, MOST_STRIDE}
use Rattle.curve_drawing.specs.declared.texts.TheConstants.{FRAME, FOOTER}
use Rattle.curve_drawing.specs.Places.{day_place, height_place}
use Rattle.curve_drawing.specs.Points.{all_corners}
use Rattle.curve_drawing.specs.Scale.{scale_of, unit_for, stride_for, step_for, multiple_from}
use Rattle.curve_drawing.specs.Svg.{stride_count, stride_mark, step_count, step_mark, places_for, line_text, disk_text, entry_text, curve_text, title_text, heading_text}
use Rattle.curve_drawing.specs.Table.{table_text}

abbrev pub four_names : List (List ℕ)
four_names = codes "today" ∷ codes "r" ∷ codes "c" ∷ codes "z" ∷ []

abbrev pub four_objects : List ℕ
four_objects = 0 ∷ 1 ∷ 2 ∷ 3 ∷ []

abbrev pub point : ℤ → ℤ → ℤ → PlotPoint
point from until units = record { from = from; until = until; units = units; quoted = units }

abbrev pub at_day : ℤ → ℤ → PlotPoint
at_day day units = point day day units

-- the factors of a curve from 2024-01-02 with one node
abbrev pub from_to : ℤ → ℤ → Line
from_to day factor = record { owner = 2; points = at_day (pos 19_724) (pos 1_000_000_000_000) ∷ at_day day factor ∷ [] }

abbrev pub one_node : Line
one_node = from_to (pos 19_824) (pos 990_099_009_901)

-- those of a curve that has no node, two days later
abbrev pub bare : Line
bare = record { owner = 3; points = at_day (pos 19_726) (pos 1_000_000_000_000) ∷ [] }

-- two rates, of 100 and of 200 days: the second is negative
abbrev pub two_rates : Line
two_rates = record {
  owner = 2;
  points = point (pos 19_724) (pos 19_824) (pos 36_500_000) ∷ point (pos 19_824) (pos 20_024) (negsuc 5_249_999) ∷ [];
}

-- a par rate of 3.6 % beside a quote that is a unit above it
abbrev pub par_point : PlotPoint
par_point = record { from = pos 19_824; until = pos 19_824; units = pos 36_000_000; quoted = pos 36_000_001 }

abbrev pub one_par : Line
one_par = record { owner = 2; points = par_point ∷ [] }

abbrev pub scale_for : Line → Scale
scale_for line = scale_of Factors (pos 19_724) (all_corners Factors (line ∷ []))

abbrev pub hundred_days : Scale
hundred_days = record {
  plot = Factors;
  first = pos 19_724;
  span = 100;
  unit = 100;
  stride = 10;
  low = 990_000_000_000;
  step = 1_000_000_000;
  rise = 10_000_000_000;
}

-- two weeks at a rate of 0.036: a mark every two days, and every 0.0002 from 0.9986 to 1
abbrev pub two_weeks : Scale
two_weeks = record {
  plot = Factors;
  first = pos 19_724;
  span = 14;
  unit = 100;
  stride = 2;
  low = 998_600_000_000;
  step = 200_000_000;
  rise = 1_400_000_000;
}

-- a year above 1: the axis ends at 1.014, the least multiple of 0.002 that is not below 1.0123
abbrev pub above_one : Scale
above_one = record {
  plot = Factors;
  first = pos 19_724;
  span = 366;
  unit = 100;
  stride = 50;
  low = 1_000_000_000_000;
  step = 2_000_000_000;
  rise = 14_000_000_000;
}

-- sixty years of 365.25 days: a mark every ten, and every 0.1 from 0.1 to 1
abbrev pub sixty_years : Scale
sixty_years = record {
  plot = Factors;
  first = pos 19_724;
  span = 21_915;
  unit = 36_525;
  stride = 10;
  low = 100_000_000_000;
  step = 100_000_000_000;
  rise = 900_000_000_000;
}

-- rates from -0.00525 to 0.0365: from -0.01 to 0.04 in steps of 0.005, the height of 0 being 10^10
abbrev pub three_hundred_days : Scale
three_hundred_days = record {
  plot = Forwards;
  first = pos 19_724;
  span = 300;
  unit = 100;
  stride = 50;
  low = 9_990_000_000;
  step = 5_000_000;
  rise = 50_000_000;
}

pub record AreWorked : Type 0 where
  pub scale : scale_of Factors (pos 19_724) (all_corners Factors (one_node ∷ bare ∷ [])) ≡ hundred_days
  pub rates : scale_of Forwards (pos 19_724) (all_corners Forwards (two_rates ∷ [])) ≡ three_hundred_days
  pub weeks : scale_for (from_to (pos 19_738) (pos 998_601_957_260)) ≡ two_weeks
  pub above : scale_for (from_to (pos 20_090) (pos 1_012_300_000_000)) ≡ above_one
  pub sixty : scale_for (from_to (pos 41_639) (pos 165_298_888_222)) ≡ sixty_years
  pub earlier : (scale_for bare).first ≡ pos 19_724
  pub bare_span : (scale_of Factors (pos 19_726) (all_corners Factors (bare ∷ []))).span ≡ 1
  pub no_rate : (scale_of Zeros (pos 19_726) []).low ≡ 10_000_000_000
  pub bare_rise : (scale_for bare).rise ≡ 100_000
  pub least_step : step_for 0 ≡ 100_000
  pub within_step : step_for 1_000_000 ≡ 100_000
  pub beyond_step : step_for 1_000_001 ≡ 200_000
  pub greatest_step : step_for 3_999_999_999_999 ≡ 500_000_000_000
  pub no_reach : multiple_from 0 5 ≡ 5
  pub just_reached : multiple_from 10 5 ≡ 10
  pub reached : multiple_from 11 5 ≡ 15
  pub days : unit_for 1_000 ≡ 100
  pub years : unit_for 1_001 ≡ 36_525
  pub one_day : stride_for 1 100 ≡ 1
  pub ten_days : stride_for 10 100 ≡ 1
  pub beyond_ten : stride_for 11 100 ≡ 2
  pub thousand_days : stride_for 1_000 100 ≡ 100
  pub three_years : stride_for 1_001 36_525 ≡ 1
  pub ten_years : stride_for 3_652 36_525 ≡ 1
  pub beyond_ten_years : stride_for 3_653 36_525 ≡ 2
  pub greatest_stride : stride_for 109_207 36_525 ≡ 50
  pub right : day_place hundred_days (pos 19_824) ≡ 77_000
  pub left : day_place hundred_days (pos 19_724) ≡ 7_000
  pub third : day_place hundred_days (pos 19_757) ≡ 30_100
  pub one : height_place hundred_days 1_000_000_000_000 ≡ 5_000
  pub node : height_place hundred_days 990_099_009_901 ≡ 39_654
  pub foot : height_place hundred_days 990_000_000_000 ≡ 40_000
  pub eleven_marks : stride_count hundred_days ≡ 11
  pub eight_marks : stride_count two_weeks ≡ 8
  pub seven_marks : stride_count sixty_years ≡ 7
  pub eleven_steps : step_count hundred_days ≡ 11
  pub eight_steps : step_count above_one ≡ 8
  pub tenths : places_for 100_000_000_000 ≡ 1
  pub hundredths : places_for 99_999_999_999 ≡ 2
  pub most_places : places_for 100_000 ≡ 7
  pub table : table_text four_names four_objects Factors (bare ∷ one_node ∷ []) ≡
      codes "curve,day,discount\nz,2024-01-04,1.000000000000\nc,2024-01-02,1.000000000000\nc,2024-04-11,0.990099009901\n"
  pub zeros : table_text four_names four_objects Zeros (two_rates ∷ []) ≡
      codes "curve,day,zero\nc,2024-04-11,0.036500000\nc,2024-10-28,-0.005250000\n"
  pub forwards : table_text four_names four_objects Forwards (two_rates ∷ []) ≡
      codes "curve,from,until,forward\nc,2024-01-02,2024-04-11,0.036500000\nc,2024-04-11,2024-10-28,-0.005250000\n"
  pub pars : table_text four_names four_objects Pars (one_par ∷ []) ≡
      codes "curve,day,quoted,par,residual\nc,2024-04-11,0.036000001,0.036000000,-0.000000001\n"

pub record AreDrawn : Type 0 where
  pub day : stride_mark hundred_days 5 ≡
      codes "<path d='M420.00 50V400' stroke='#dddddd'/>\n<text x='420.00' y='418' text-anchor='middle'>50</text>\n"
  pub start : stride_mark hundred_days 0 ≡
      codes "<path d='M70.00 50V400' stroke='#dddddd'/>\n<text x='70.00' y='418' text-anchor='middle'>0</text>\n"
  pub twelfth : stride_mark two_weeks 6 ≡
      codes "<path d='M670.00 50V400' stroke='#dddddd'/>\n<text x='670.00' y='418' text-anchor='middle'>12</text>\n"
  pub sixtieth : stride_mark sixty_years 6 ≡
      codes "<path d='M770.00 50V400' stroke='#dddddd'/>\n<text x='770.00' y='418' text-anchor='middle'>60</text>\n"
  pub step : step_mark hundred_days 1 ≡
      codes "<path d='M70 365.00H770' stroke='#dddddd'/>\n<text x='64' y='365.00' dy='4' text-anchor='end'>0.991</text>\n"
  pub least : step_mark two_weeks 0 ≡
      codes "<path d='M70 400.00H770' stroke='#dddddd'/>\n<text x='64' y='400.00' dy='4' text-anchor='end'>0.9986</text>\n"
  pub greatest : step_mark sixty_years 9 ≡
      codes "<path d='M70 50.00H770' stroke='#dddddd'/>\n<text x='64' y='50.00' dy='4' text-anchor='end'>1.0</text>\n"
  pub below : step_mark three_hundred_days 0 ≡
      codes "<path d='M70 400.00H770' stroke='#dddddd'/>\n<text x='64' y='400.00' dy='4' text-anchor='end'>-0.010</text>\n"
  pub zero : step_mark three_hundred_days 2 ≡
      codes "<path d='M70 330.00H770' stroke='#dddddd'/>\n<text x='64' y='330.00' dy='4' text-anchor='end'>0.000</text>\n"
  pub steps : line_text three_hundred_days (all_corners Forwards (two_rates ∷ [])) ≡
      codes "<polyline fill='none' stroke-width='2' points=' 70.00,74.50 303.33,74.50 303.33,366.75 770.00,366.75'/>\n"
  pub marked : disk_text three_hundred_days (point (pos 19_824) (pos 20_024) (negsuc 5_249_999)) ≡
      codes "<circle cx='303.33' cy='366.75' r='1.5'><title>2024-04-11 2024-10-28 -0.005250000</title></circle>\n"
  pub par : line_text three_hundred_days (all_corners Pars (one_par ∷ [])) ≡
      codes "<polyline fill='none' stroke-width='2' points=' 303.33,78.00'/>\n"
  pub marked_par : disk_text (record three_hundred_days { plot = Pars }) par_point ≡
      codes "<circle cx='303.33' cy='78.00' r='3'><title>2024-04-11 0.036000001 0.036000000 -0.000000001</title></circle>\n"
  pub curve : curve_text four_names four_objects hundred_days 1 one_node ≡
      codes "<g stroke='#d62728' fill='#d62728'>\n<polyline fill='none' stroke-width='2' points=' 70.00,50.00 770.00,396.54'/>\n<circle cx='70.00' cy='50.00' r='3'><title>2024-01-02 1.000000000000</title></circle>\n<circle cx='770.00' cy='396.54' r='3'><title>2024-04-11 0.990099009901</title></circle>\n<path stroke-width='2' d='M420.00 456.00h24'/>\n<text stroke='none' fill='black' dy='4' x='452.00' y='456.00'>c</text>\n</g>\n"
  -- the entry of the last of eight curves, sixteen pixels above the lower edge
  pub eighth : entry_text 7 (codes "h") ≡
      codes "<path stroke-width='2' d='M420.00 504.00h24'/>\n<text stroke='none' fill='black' dy='4' x='452.00' y='504.00'>h</text>\n"

-- What definitions cite of the code and no piece above shows: texts, lengths in hundredths of a pixel and of a day, and the
-- steps of both axes, each 1, 2 or 5 times a power of ten.
pub record AreTheConstants : Type 0 where
  pub heading : heading_text (pos 19_726) sixty_years ≡
      codes "<svg xmlns='http://www.w3.org/2000/svg' width='800' height='520' viewBox='0 0 800 520' font-family='sans-serif' font-size='12'>\n<rect width='800' height='520' fill='white'/>\n<text x='70' y='32' font-size='18'>Discount factors on 2024-01-04</text>\n<text x='420' y='436' text-anchor='middle'>years of 365.25 days from 2024-01-02</text>\n"
  pub in_days : heading_text (pos 19_726) hundred_days ≡
      codes "<svg xmlns='http://www.w3.org/2000/svg' width='800' height='520' viewBox='0 0 800 520' font-family='sans-serif' font-size='12'>\n<rect width='800' height='520' fill='white'/>\n<text x='70' y='32' font-size='18'>Discount factors on 2024-01-04</text>\n<text x='420' y='436' text-anchor='middle'>days from 2024-01-02</text>\n"
  pub zeros : title_text Zeros ≡ codes "Simple zero rates on "
  pub forwards : title_text Forwards ≡ codes "Simple forward rates over three months on "
  pub pars : title_text Pars ≡ codes "Par rates of the helpers on "
  pub frame : FRAME.now ≡ codes "<rect x='70' y='50' width='700' height='350' fill='none' stroke='#666666'/>\n"
  pub footer : FOOTER.now ≡ codes "</svg>\n"
  pub left : LEFT ≡ 70 * 100
  pub width : WIDTH ≡ 700 * 100
  pub foot : FOOT ≡ 400 * 100
  pub height : HEIGHT ≡ 350 * 100
  pub steps : STEPS ≡ 10 ^ 5 ∷ 2 * 10 ^ 5 ∷ 5 * 10 ^ 5 ∷ 10 ^ 6 ∷ 2 * 10 ^ 6 ∷ 5 * 10 ^ 6 ∷ 10 ^ 7 ∷ 2 * 10 ^ 7 ∷ 5 * 10 ^ 7
      ∷ 10 ^ 8 ∷ 2 * 10 ^ 8 ∷ 5 * 10 ^ 8 ∷ 10 ^ 9 ∷ 2 * 10 ^ 9 ∷ 5 * 10 ^ 9 ∷ 10 ^ 10 ∷ 2 * 10 ^ 10 ∷ 5 * 10 ^ 10
      ∷ 10 ^ 11 ∷ 2 * 10 ^ 11 ∷ []
  pub most_step : MOST_STEP ≡ 5 * 10 ^ 11
  pub day : DAY ≡ 100
  pub year : YEAR ≡ 36_525
  pub most_days : MOST_DAYS ≡ 1_000
  pub strides : STRIDES ≡ 1 ∷ 2 ∷ 5 ∷ 10 ∷ 20 ∷ 50 ∷ []
  pub most_stride : MOST_STRIDE ≡ 100
