-- The lines of a transcript, byte by byte (this project's profile). `names` are the texts of the names by their numbers,
-- `of_object` the names of the objects by theirs.
use Rattle.std.specs.Prelude.{ℕ, ℤ, List, [], ◌∷◌, ◌++◌, codes, decimal, Result, Ok, Err}
use Rattle.curve_points.specs.declared.curves.CurveNode.{CurveNode}
use Rattle.curve_points.specs.Curve.{Curve, points}
use Rattle.desk_terms.specs.declared.value.Value.{Value}
use Rattle.desk_terms.specs.declared.value.Value.TheVariants as value
use Rattle.desk_terms.specs.declared.cause.Cause.{Cause}
use Rattle.desk_terms.specs.declared.cause.Cause.TheVariants.{Unset, Empty, NoEngine, NoFixing, Before, Past, Pillar, Discount, Negative, RateRange, DateRange, TooLarge, Unpriced}
use Rattle.desk_terms.specs.declared.asked.Mark.{Mark}
use Rattle.desk_terms.specs.Asked.{mark_word}
use Rattle.desk_terms.specs.Cause.{object_of, cause_word}
use Rattle.desk_terms.specs.Reading.{Outcome}
use Rattle.day_number.specs.Day.{day_text}
use Rattle.fixed_amount.specs.Decimal.{decimal_text}
use Rattle.session_commands.specs.declared.refusal.Refusal.{Refusal}
use Rattle.session_commands.specs.declared.refusal.Refusal.TheVariants.{Unknown, Taken, Kind, Cycle, InUse, FixingExists, TooMany, AlreadyRegistered, NotRegistered, Deferred}
use Rattle.session_commands.specs.Refusal.{refusal_word}
use Rattle.price_report.specs.Namer.{name_text, object_text}

-- what a cause says behind the name of its object: a day, or the number of a helper or node
abbrev pub cause_detail : Cause → List ℕ
cause_detail (NoFixing o day) = codes " " ++ day_text day
cause_detail (Before o day) = codes " " ++ day_text day
cause_detail (Past o day) = codes " " ++ day_text day
cause_detail (Pillar o k) = codes " " ++ decimal k
cause_detail (Discount o k) = codes " " ++ decimal k
cause_detail (Negative o k) = codes " " ++ decimal k
cause_detail (Unset o) = []
cause_detail (Empty o) = []
cause_detail (NoEngine o) = []
cause_detail (RateRange o) = []
cause_detail (DateRange o) = []
cause_detail (TooLarge o) = []
cause_detail (Unpriced o) = []

-- a cause: its word, the name of its object, and the rest
abbrev pub cause_text : List (List ℕ) → List ℕ → Cause → List ℕ
cause_text names of_object cause = cause_word cause ++ codes " " ++ object_text names of_object (object_of cause) ++ cause_detail cause

-- a day, and the discount factor there with twelve places
unfoldable pub point_text : ℤ → ℤ → List ℕ
point_text day factor = day_text day ++ codes " " ++ decimal_text factor 12

-- each node in order
unfoldable pub node_texts : List CurveNode → List ℕ
node_texts [] = []
node_texts (node ∷ nodes) = codes " " ++ point_text node.day node.factor ++ node_texts nodes

-- a curve: the factor 1 at its reference day, then its nodes in order
abbrev pub curve_text : Curve → List ℕ
curve_text curve = codes "curve" ++ node_texts (points curve)

-- an amount with six places, or a curve
abbrev pub value_text : Value → List ℕ
value_text (value.Money amount) = decimal_text amount 6
value_text (value.Curve curve) = curve_text curve

-- a value and the mark, or the cause
abbrev pub answer_text : List (List ℕ) → List ℕ → Outcome → Mark → List ℕ
answer_text names of_object (Ok value) mark = value_text value ++ codes " " ++ mark_word mark
answer_text names of_object (Err cause) mark = codes "refused " ++ cause_text names of_object cause

-- `NAME AMOUNT MARK N`, `NAME curve DAY FACTOR .. MARK N` or `NAME refused CAUSE N`, and a newline; N counts the
-- computations that the ask made
unfoldable pub asked_line : List (List ℕ) → List ℕ → ℕ → Outcome → Mark → ℕ → List ℕ
asked_line names of_object name outcome mark n = name_text names name ++ codes " " ++ answer_text names of_object outcome mark ++ codes " " ++ decimal n ++ codes "\n"

-- the day with the discount factor there, to twelve places, and the mark; or the cause
abbrev pub found_text : List (List ℕ) → List ℕ → ℤ → Result ℤ Cause → Mark → List ℕ
found_text names of_object day (Ok factor) mark = point_text day factor ++ codes " " ++ mark_word mark
found_text names of_object day (Err cause) mark = codes "refused " ++ cause_text names of_object cause

-- `NAME DAY FACTOR MARK N` or `NAME refused CAUSE N`, and a newline: the discount factor at a day of the curve that an
-- ask gives, with the mark of the ask and the number of its computations
unfoldable pub df_line : List (List ℕ) → List ℕ → ℕ → ℤ → Result ℤ Cause → Mark → ℕ → List ℕ
df_line names of_object name day found mark n = name_text names name ++ codes " " ++ found_text names of_object day found mark ++ codes " " ++ decimal n ++ codes "\n"

-- what a refusal says behind its word: a name, the name of an object, or the rate that is kept
abbrev pub refusal_detail : List (List ℕ) → List ℕ → Refusal → List ℕ
refusal_detail names of_object (Unknown name) = codes " " ++ name_text names name
refusal_detail names of_object (Taken name) = codes " " ++ name_text names name
refusal_detail names of_object (Kind name) = codes " " ++ name_text names name
refusal_detail names of_object (InUse user) = codes " " ++ object_text names of_object user
refusal_detail names of_object (Deferred source) = codes " " ++ object_text names of_object source
refusal_detail names of_object (FixingExists rate) = codes " " ++ decimal_text rate 9
refusal_detail names of_object Cycle = []
refusal_detail names of_object TooMany = []
refusal_detail names of_object AlreadyRegistered = []
refusal_detail names of_object NotRegistered = []

-- `refused WORD REFUSAL` and a newline, WORD being the first word of the command
unfoldable pub refusal_line : List (List ℕ) → List ℕ → List ℕ → Refusal → List ℕ
refusal_line names of_object word refusal = codes "refused " ++ word ++ codes " " ++ refusal_word refusal ++ refusal_detail names of_object refusal ++ codes "\n"

-- `over NAME` and a newline: the watcher of this name was stopped
unfoldable pub over_line : List (List ℕ) → ℕ → List ℕ
over_line names name = codes "over " ++ name_text names name ++ codes "\n"
