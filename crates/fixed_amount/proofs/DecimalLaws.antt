-- What `decimal_value` answers, by the grammar: each answer exactly where the text is of its kind.
use Rattle.std.proofs.Common.{◌≡◌, ℕ, ◌+◌, ◌^◌, ◌<◌, ◌≤◌, ℤ, pos, neg_ℤ, ◌≤ℤ◌, ◌<ℤ◌, List, [], ◌++◌, length, take, drop, sym, ap, subst, ◌∙◌, arith, Ok, Err, inl, inr, ◌↔◌, append_assoc}
use Rattle.std.proofs.lemmas.Bool.{cases_order}
use Rattle.std.proofs.lemmas.List.{take-take, take-append-drop}
use Rattle.fixed_amount.specs.declared.decimal.DecimalFault.TheVariants.{Empty, Char, Places, Range}
use Rattle.fixed_amount.specs.Decimal.{IsDecimalText, IsDecimalStart, IsFirstFault, WritesUnits, HasManyPlaces, IsOutOfRange, units_of, in_range, decimal_value}
use Rattle.fixed_amount.proofs.Ranges.{in_range_fits, in_range_out}
use Rattle.fixed_amount.proofs.Reading.{empty, decimal, fault, reading, many, fits, far, answer, decimal_read, in_units_few, in_units_many, no_text}

-- a number is read exactly where the text writes it
value_to : (text : List ℕ) (places : ℕ) (units : ℤ) → decimal_value text places ≡ Ok units → WritesUnits text places units
value_to text places units is = elim (reading text places) [
  | empty none e ↦ absurd cc
  | fault at h e ↦ absurd cc
  | decimal negative whole fraction shape e ↦ elim (answer negative whole fraction places) [
    | many h a ↦ absurd cc
    | far few h a ↦ absurd cc
    | fits few low high a ↦ (let same : units_of negative whole fraction places ≡ units = cc in
        record {
          negative = negative;
          whole = whole;
          fraction = fraction;
          shape = shape;
          few = few;
          value = sym same;
          low = subst (λ (z : ℤ). neg_ℤ (pos (2 ^ 63)) ≤ℤ z) same low;
          high = subst (λ (z : ℤ). z <ℤ pos (2 ^ 63)) same high;
        })
  ]
]

pub value_from : (text : List ℕ) (places : ℕ) (units : ℤ) → WritesUnits text places units → decimal_value text places ≡ Ok units
value_from text places units w =
    decimal_read text w.negative w.whole w.fraction places w.shape ∙ in_units_few w.negative w.whole w.fraction places w.few
    ∙ ap in_range (sym w.value) ∙ in_range_fits units w.low w.high

pub value_law : (text : List ℕ) (places : ℕ) (units : ℤ) → (decimal_value text places ≡ Ok units) ↔ WritesUnits text places units
value_law text places units = (value_to text places units, value_from text places units)

-- many places are refused exactly where they are there
places_to : (text : List ℕ) (places : ℕ) → decimal_value text places ≡ Err Places → HasManyPlaces text places
places_to text places is = elim (reading text places) [
  | empty none e ↦ absurd cc
  | fault at h e ↦ absurd cc
  | decimal negative whole fraction shape e ↦ elim (answer negative whole fraction places) [
    | many h a ↦ record { negative = negative; whole = whole; fraction = fraction; shape = shape; many = h }
    | far few h a ↦ absurd cc
    | fits few low high a ↦ absurd cc
  ]
]

pub places_law : (text : List ℕ) (places : ℕ) → (decimal_value text places ≡ Err Places) ↔ HasManyPlaces text places
places_law text places = (
  places_to text places,
  λ w. decimal_read text w.negative w.whole w.fraction places w.shape ∙ in_units_many w.negative w.whole w.fraction places w.many,
)

-- a number out of range is refused exactly where it is one
range_to : (text : List ℕ) (places : ℕ) → decimal_value text places ≡ Err Range → IsOutOfRange text places
range_to text places is = elim (reading text places) [
  | empty none e ↦ absurd cc
  | fault at h e ↦ absurd cc
  | decimal negative whole fraction shape e ↦ elim (answer negative whole fraction places) [
    | many h a ↦ absurd cc
    | far few h a ↦ record { negative = negative; whole = whole; fraction = fraction; shape = shape; few = few; far = h }
    | fits few low high a ↦ absurd cc
  ]
]

pub range_law : (text : List ℕ) (places : ℕ) → (decimal_value text places ≡ Err Range) ↔ IsOutOfRange text places
range_law text places = (
  range_to text places,
  λ w. decimal_read text w.negative w.whole w.fraction places w.shape ∙ in_units_few w.negative w.whole w.fraction places w.few
      ∙ in_range_out (units_of w.negative w.whole w.fraction places) w.far,
)

-- the empty text is refused as such, and no other
empty_to : (text : List ℕ) (places : ℕ) → decimal_value text places ≡ Err Empty → text ≡ []
empty_to text places is = elim (reading text places) [
  | empty none e ↦ none
  | fault at h e ↦ absurd cc
  | decimal negative whole fraction shape e ↦ elim (answer negative whole fraction places) [
    | many h a ↦ absurd cc
    | far few h a ↦ absurd cc
    | fits few low high a ↦ absurd cc
  ]
]

pub empty_law : (text : List ℕ) (places : ℕ) → (decimal_value text places ≡ Err Empty) ↔ (text ≡ [])
empty_law text places = (empty_to text places, λ e. rw e (no_text places))

-- a shorter beginning of a text begins a decimal where a longer one does
start_shorter : (text : List ℕ) (m n : ℕ) → n ≤ m → IsDecimalStart (take m text) → IsDecimalStart (take n text)
start_shorter text m n h start =
    let more = start.more in
    record {
      more = drop n (take m text) ++ more;
      whole_text = subst (λ (t : List ℕ). IsDecimalText t)
          (ap (λ (t : List ℕ). t ++ more) (sym (take-append-drop n (take m text))) ∙ append_assoc (take n (take m text)) (drop n (take m text)) more
          ∙ ap (λ (t : List ℕ). t ++ (drop n (take m text) ++ more)) (take-take n m text h))
          start.whole_text;
    }

-- no first fault stands before another
first_not_before : (text : List ℕ) (at other : ℕ) → IsFirstFault text at → IsFirstFault text other → at < other → ⊥
first_not_before text at other f g before =
    let within : other ≤ length text = elim g.after [ inl e ↦ omega arith | inr l ↦ omega (arith, l.0) ] in
    elim f.after [
      | inl e ↦ omega arith
      | inr l ↦ l.1 (start_shorter text other (at + 1) (omega arith) g.before)
    ]

first_unique : (text : List ℕ) (at other : ℕ) → IsFirstFault text at → IsFirstFault text other → at ≡ other
first_unique text at other f g = elim (cases_order at other) [
  | inl same ↦ same
  | inr apart ↦ elim apart [
    | inl before ↦ absurd (first_not_before text at other f g before)
    | inr behind ↦ absurd (first_not_before text other at g f behind)
  ]
]

-- a byte is refused exactly where it is the first fault
char_to : (text : List ℕ) (places at : ℕ) → decimal_value text places ≡ Err (Char at) → IsFirstFault text at
char_to text places at is = elim (reading text places) [
  | empty none e ↦ absurd cc
  | fault other h e ↦ (let same : other ≡ at = cc in subst (λ (n : ℕ). IsFirstFault text n) same h)
  | decimal negative whole fraction shape e ↦ elim (answer negative whole fraction places) [
    | many h a ↦ absurd cc
    | far few h a ↦ absurd cc
    | fits few low high a ↦ absurd cc
  ]
]

char_from : (text : List ℕ) (places at : ℕ) → IsFirstFault text at → decimal_value text places ≡ Err (Char at)
char_from text places at f = elim (reading text places) [
  | empty none e ↦ absurd (omega (arith, f.nonempty, ap length none))
  | fault other g e ↦ e ∙ ap (λ (n : ℕ). Err (Char n)) (first_unique text other at g f)
  | decimal negative whole fraction shape e ↦ absurd (f.no_decimal (record { negative = negative; whole = whole; fraction = fraction; shape = shape }))
]

pub char_law : (text : List ℕ) (places at : ℕ) → (decimal_value text places ≡ Err (Char at)) ↔ IsFirstFault text at
char_law text places at = (char_to text places at, char_from text places at)
