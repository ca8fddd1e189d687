-- Places in the picture, in hundredths of a pixel from its left and upper edge: whole numbers, quotients without what is
-- left (this project's profile).
use Rattle.std.specs.Prelude.{ℕ, ℤ, pos, ◌+◌, ◌-◌, ◌*◌, ◌/◌, List, ◌++◌}
use Rattle.fixed_amount.specs.Decimal.{decimal_text}
use Rattle.curve_drawing.specs.declared.scale.Scale.{Scale}
use Rattle.curve_drawing.specs.declared.places.TheConstants.{LEFT, WIDTH, FOOT, HEIGHT}
use Rattle.curve_drawing.specs.Points.{days_from}

-- where a day lies from the left
unfoldable pub day_place : Scale → ℤ → ℕ
day_place scale day = LEFT + days_from scale.first day * WIDTH / scale.span

-- where a height lies from above
unfoldable pub height_place : Scale → ℕ → ℕ
height_place scale height = FOOT - (height - scale.low) * HEIGHT / scale.rise

-- where a mark of the axis of days lies from the left: the first is 0
unfoldable pub stride_place : Scale → ℕ → ℕ
stride_place scale mark = LEFT + mark * (scale.stride * scale.unit) * WIDTH / (scale.span * 100)

-- where a mark of the axis of values lies from above: the first is 0
unfoldable pub step_place : Scale → ℕ → ℕ
step_place scale mark = FOOT - mark * scale.step * HEIGHT / scale.rise

-- a place in pixels, with two digits behind the point
abbrev pub px : ℕ → List ℕ
px place = decimal_text (pos place) 2

-- a text, and a place in pixels behind it
unfoldable pub placed : List ℕ → ℕ → List ℕ
placed text place = text ++ px place
