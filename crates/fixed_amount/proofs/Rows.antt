-- Worked rows, computed from outside the program, that the definitions give.
use Rattle.std.proofs.Common.{◌≡◌, pos, negsuc, neg_ℤ, ◌^◌, ◌-◌, Ok, Err, codes, refl}
use Rattle.std.specs.Fmt.{digits}
use Rattle.fixed_amount.specs.declared.decimal.DecimalFault.TheVariants.{Empty, Char, Places, Range}
use Rattle.fixed_amount.specs.declared.units.Rounding.TheVariants.{Down, Up, Closest}
use Rattle.fixed_amount.specs.Rounding.{rounded}
use Rattle.fixed_amount.specs.Decimal.{decimal_value, decimal_text}

-- halves, and just below and above them
closest_half : rounded Closest (pos 500) 1000 ≡ pos 1
closest_half = refl

closest_minus_half : rounded Closest (neg_ℤ (pos 500)) 1000 ≡ neg_ℤ (pos 1)
closest_minus_half = refl

closest_below_half : rounded Closest (pos 499) 1000 ≡ pos 0
closest_below_half = refl

closest_odd : rounded Closest (neg_ℤ (pos 8)) 5 ≡ neg_ℤ (pos 2)
closest_odd = refl

down_minus : rounded Down (neg_ℤ (pos 7)) 2 ≡ neg_ℤ (pos 3)
down_minus = refl

up_minus : rounded Up (neg_ℤ (pos 7)) 2 ≡ neg_ℤ (pos 4)
up_minus = refl

up_exact : rounded Up (pos 6) 3 ≡ pos 2
up_exact = refl

closest_least : rounded Closest (neg_ℤ (pos (2 ^ 127))) 3 ≡ neg_ℤ (pos 56713727820156410577229101238628035243)
closest_least = refl

closest_greatest : rounded Closest (pos (2 ^ 127 - 1)) 2 ≡ pos 85070591730234615865843651857942052864
closest_greatest = refl

-- decimals read
value_nine : decimal_value (codes "1.50") 9 ≡ Ok (pos 1500000000)
unfolding decimal_value
value_nine = refl

value_minus : decimal_value (codes "-0.000001") 6 ≡ Ok (negsuc 0)
unfolding decimal_value
value_minus = refl

value_minus_zero : decimal_value (codes "-0") 9 ≡ Ok (pos 0)
unfolding decimal_value
value_minus_zero = refl

value_least : decimal_value (codes "-9223372036854775808") 0 ≡ Ok (neg_ℤ (pos (2 ^ 63)))
unfolding decimal_value
value_least = refl

-- texts that are refused
fault_empty : decimal_value (codes "") 9 ≡ Err Empty
unfolding decimal_value
fault_empty = refl

fault_sign : decimal_value (codes "-") 9 ≡ Err (Char 1)
unfolding decimal_value
fault_sign = refl

fault_point_first : decimal_value (codes ".5") 9 ≡ Err (Char 0)
unfolding decimal_value
fault_point_first = refl

fault_point_last : decimal_value (codes "5.") 9 ≡ Err (Char 2)
unfolding decimal_value
fault_point_last = refl

fault_letter : decimal_value (codes "1x") 9 ≡ Err (Char 1)
unfolding decimal_value
fault_letter = refl

fault_second_point : decimal_value (codes "1.2.3") 9 ≡ Err (Char 3)
unfolding decimal_value
fault_second_point = refl

fault_places : decimal_value (codes "99999999999999999999.12") 1 ≡ Err Places
unfolding decimal_value
fault_places = refl

fault_range : decimal_value (codes "9223372036854775808") 0 ≡ Err Range
unfolding decimal_value
fault_range = refl

-- numbers printed
text_amount : decimal_text (pos 1500000) 6 ≡ codes "1.500000"
unfolding decimal_text digits
text_amount = refl

text_minus : decimal_text (negsuc 0) 6 ≡ codes "-0.000001"
unfolding decimal_text digits
text_minus = refl

text_whole : decimal_text (pos 7) 0 ≡ codes "7"
unfolding decimal_text digits
text_whole = refl

text_zero : decimal_text (pos 0) 2 ≡ codes "0.00"
unfolding decimal_text digits
text_zero = refl

text_least : decimal_text (neg_ℤ (pos (2 ^ 127))) 18 ≡ codes "-170141183460469231731.687303715884105728"
unfolding decimal_text digits
text_least = refl
