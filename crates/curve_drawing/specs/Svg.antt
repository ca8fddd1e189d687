-- THE PICTURE as text: an SVG of 800 by 520 pixels, whose plot is 700 by 350 (this project's profile, after the World Wide
-- Web Consortium's Scalable Vector Graphics 1.1). `names` are the texts of the names by their numbers, `of_object` the names
-- of the objects by theirs. The pieces of text stand in `src/texts.rt`. A name is made of letters, digits and `_`, so nothing in it has
-- to be escaped.
use Rattle.std.specs.Prelude.{ℕ, zero, suc, ℤ, pos, ◌-ℤ◌, ◌+◌, ◌-◌, ◌*◌, ◌/◌, ◌%◌, ◌^◌, ◌==◌, nat_le, if◌then◌else◌, List, [], ◌∷◌, ◌++◌, codes}
use Rattle.day_number.specs.Day.{day_text}
use Rattle.fixed_amount.specs.Decimal.{decimal_text}
use Rattle.price_report.specs.Namer.{object_text}
use Rattle.curve_drawing.specs.declared.lines.Plot.{Plot}
use Rattle.curve_drawing.specs.declared.lines.Plot.TheVariants.{Factors, Zeros, Forwards, Pars}
use Rattle.curve_drawing.specs.declared.lines.PlotPoint.{PlotPoint}
use Rattle.curve_drawing.specs.Lines.{Line}
use Rattle.curve_drawing.specs.declared.points.Corner.{Corner}
use Rattle.curve_drawing.specs.declared.texts.TheConstants.{BELOW, BESIDE, CENTRED, CONTENT, DAYS_FROM, DISK, DISK_DOWN, DISK_END, ENTRY, ENTRY_DOWN, ENTRY_NAME, FILLED, FACTORS_ON, FLUSH, FOOTER, FORWARDS_ON, FRAME, GROUP, GROUP_END, HEAD, LINE, LINE_END, OPENED, PARS_ON, RIGHTWARDS, SMALL_TITLE, TEXT_END, TITLE, UPWARDS, YEARS_FROM, ZEROS_ON}
use Rattle.curve_drawing.specs.declared.scale.Scale.{Scale}
use Rattle.curve_drawing.specs.declared.scale.TheConstants.{DAY}
use Rattle.curve_drawing.specs.Places.{placed, day_place, height_place, stride_place, step_place}
use Rattle.curve_drawing.specs.Points.{digits_of, base_of, height_of, line_corners, all_corners, point_text}
use Rattle.curve_drawing.specs.Scale.{scale_of}

-- ---- the axes

-- how many marks the axis of days has: as many as lie within the span
abbrev pub stride_count : Scale → ℕ
stride_count scale = scale.span * 100 / (scale.stride * scale.unit) + 1

-- a mark of the axis of days: a line upwards, and how many days or years lie there
unfoldable pub stride_mark : Scale → ℕ → List ℕ
stride_mark scale mark =
    placed UPWARDS.now (stride_place scale mark)
    ++ placed BELOW.now (stride_place scale mark)
    ++ CENTRED.now ++ decimal_text (pos (mark * scale.stride)) 0 ++ TEXT_END.now

-- the first marks, as many as are given
unfoldable pub strides_below : Scale → ℕ → List ℕ
strides_below scale zero = []
strides_below scale (suc mark) = strides_below scale mark ++ stride_mark scale mark

-- how many marks the axis of values has
abbrev pub step_count : Scale → ℕ
step_count scale = scale.rise / scale.step + 1

-- how many places factors at the marks have: as many as the step, which is 1, 2 or 5 times a power of ten
abbrev pub places_for : ℕ → ℕ
places_for step =
    if nat_le 100_000_000_000 step then 1 else if nat_le 10_000_000_000 step then 2
    else if nat_le 1_000_000_000 step then 3 else if nat_le 100_000_000 step then 4
    else if nat_le 10_000_000 step then 5 else if nat_le 1_000_000 step then 6 else 7

-- and rates, whose units are a thousand times as large: at least none
abbrev pub places_of : Plot → ℕ → ℕ
places_of plot step = places_for step - (12 - digits_of plot)

-- a height as a value of so many places, where the last has this unit
abbrev pub value_text : ℕ → ℕ → ℕ → ℕ → List ℕ
value_text base height unit places = decimal_text (pos (height / unit) -ℤ pos (base / unit)) places

-- the value at a mark
unfoldable pub mark_text : Scale → ℕ → List ℕ
mark_text scale mark =
    value_text (base_of scale.plot) (scale.low + mark * scale.step)
    (10 ^ (digits_of scale.plot - places_of scale.plot scale.step)) (places_of scale.plot scale.step)

-- a mark of the axis of values: a line to the right, and the value there
unfoldable pub step_mark : Scale → ℕ → List ℕ
step_mark scale mark =
    placed RIGHTWARDS.now (step_place scale mark)
    ++ placed BESIDE.now (step_place scale mark)
    ++ FLUSH.now
    ++ mark_text scale mark ++ TEXT_END.now

unfoldable pub steps_below : Scale → ℕ → List ℕ
steps_below scale zero = []
steps_below scale (suc mark) = steps_below scale mark ++ step_mark scale mark

-- the marks of both axes
unfoldable pub axes_text : Scale → List ℕ
axes_text scale = strides_below scale (stride_count scale) ++ steps_below scale (step_count scale)

-- ---- the curves

-- the colours, eight of them, in turn
abbrev pub colour_at : ℕ → List ℕ
colour_at place =
    if place == 0 then codes "#1f77b4" else if place == 1 then codes "#d62728" else if place == 2 then codes "#2ca02c"
    else if place == 3 then codes "#ff7f0e" else if place == 4 then codes "#9467bd" else if place == 5 then codes "#8c564b"
    else if place == 6 then codes "#e377c2" else codes "#17becf"

unfoldable pub colour_of : ℕ → List ℕ
colour_of k = colour_at (k % 8)

-- a corner of the line of a curve
unfoldable pub corner_text : Scale → Corner → List ℕ
corner_text scale corner =
    placed (codes " ") (day_place scale corner.day) ++ placed (codes ",") (height_place scale corner.height)

unfoldable pub corners_text : Scale → List Corner → List ℕ
corners_text scale [] = []
corners_text scale (corner ∷ corners) = corner_text scale corner ++ corners_text scale corners

-- the day at which a point is marked: a forward rate at its first
unfoldable pub marked_day : Plot → PlotPoint → ℤ
marked_day Factors point = point.until
marked_day Zeros point = point.until
marked_day Forwards point = point.from
marked_day Pars point = point.until

-- a disk, which is smaller where there are many, and what begins its title
unfoldable pub disk_title : Plot → List ℕ
disk_title Factors = TITLE.now
disk_title Zeros = SMALL_TITLE.now
disk_title Forwards = SMALL_TITLE.now
disk_title Pars = TITLE.now

-- a point marked by a disk, whose title says it
unfoldable pub disk_text : Scale → PlotPoint → List ℕ
disk_text scale point =
    placed DISK.now (day_place scale (marked_day scale.plot point))
    ++ placed DISK_DOWN.now (height_place scale (height_of scale.plot point.units))
    ++ disk_title scale.plot ++ point_text scale.plot (codes " ") point ++ DISK_END.now

unfoldable pub disks_text : Scale → List PlotPoint → List ℕ
disks_text scale [] = []
disks_text scale (point ∷ points) = disk_text scale point ++ disks_text scale points

-- where the entry of a curve in the legend lies: two beside one another, the first pair at 456 pixels, a pair 16 below
-- another
unfoldable pub entry_left : ℕ → ℕ
entry_left k = 7_000 + k % 2 * 35_000

unfoldable pub entry_foot : ℕ → ℕ
entry_foot k = 45_600 + k / 2 * 1_600

-- a name as the content of an element
unfoldable pub name_content : List ℕ → List ℕ
name_content name = CONTENT.now ++ name ++ TEXT_END.now

-- the entry: a line in the colour of the curve, and its name
unfoldable pub entry_text : ℕ → List ℕ → List ℕ
entry_text k name =
    placed ENTRY.now (entry_left k) ++ placed (codes " ") (entry_foot k)
    ++ placed ENTRY_NAME.now (entry_left k + 3_200)
    ++ placed ENTRY_DOWN.now (entry_foot k) ++ name_content name

-- a group in the colour of a curve begins
unfoldable pub group_text : ℕ → List ℕ
group_text k = GROUP.now ++ colour_of k ++ FILLED.now ++ colour_of k ++ OPENED.now

-- the line of a curve
unfoldable pub line_text : Scale → List Corner → List ℕ
line_text scale corners =
    LINE.now ++ corners_text scale corners ++ LINE_END.now

-- a curve, the first being number 0: its line, its points, and its entry
unfoldable pub curve_text : List (List ℕ) → List ℕ → Scale → ℕ → Line → List ℕ
curve_text names of_object scale k line =
    group_text k ++ line_text scale (line_corners scale.plot line.points) ++ disks_text scale line.points
    ++ entry_text k (object_text names of_object line.owner) ++ GROUP_END.now

unfoldable pub curves_text : List (List ℕ) → List ℕ → Scale → ℕ → List Line → List ℕ
curves_text names of_object scale k [] = []
curves_text names of_object scale k (line ∷ lines) =
    curve_text names of_object scale k line ++ curves_text names of_object scale (k + 1) lines

-- ---- the whole

-- what is counted below the plot
unfoldable pub counted : ℕ → List ℕ
counted unit = if nat_le unit DAY then DAYS_FROM.now else YEARS_FROM.now

-- and from which day
unfoldable pub counted_text : ℤ → ℕ → List ℕ
counted_text first unit = counted unit ++ day_text first ++ TEXT_END.now

-- what is drawn, in words
unfoldable pub title_text : Plot → List ℕ
title_text Factors = FACTORS_ON.now
title_text Zeros = ZEROS_ON.now
title_text Forwards = FORWARDS_ON.now
title_text Pars = PARS_ON.now

-- the heading: what is drawn, and the day of the market
unfoldable pub top_text : Plot → ℤ → List ℕ
top_text plot today = HEAD.now ++ title_text plot ++ day_text today

-- and below the plot what is counted
unfoldable pub heading_text : ℤ → Scale → List ℕ
heading_text today scale = top_text scale.plot today ++ counted_text scale.first scale.unit

unfoldable pub picture_on : List (List ℕ) → List ℕ → ℤ → Scale → List Line → List ℕ
picture_on names of_object today scale lines =
    heading_text today scale ++ axes_text scale ++ FRAME.now ++ curves_text names of_object scale 0 lines
    ++ FOOTER.now

-- THE PICTURE of lines on the day of their market
abbrev pub picture_text : List (List ℕ) → List ℕ → Plot → ℤ → List Line → List ℕ
picture_text names of_object plot today lines =
    picture_on names of_object today (scale_of plot today (all_corners plot lines)) lines
