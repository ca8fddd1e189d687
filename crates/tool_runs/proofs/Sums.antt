-- The gains of an ask add up.
use Rattle.std.proofs.Common.{◌≡◌, ℕ, ℤ, pos, ◌+ℤ◌, ◌-ℤ◌, List, [], ◌∷◌, ◌++◌, Option, Some, None, refl, sym, ◌∙◌, ap, arith, All}
use Rattle.std.proofs.lemmas.Int.{ints}
use Rattle.std.proofs.lemmas.List.Elements.{All-nil, All-cons}
use Rattle.tool_runs.specs.declared.told.Told.{Told}
use Rattle.tool_runs.specs.declared.told.Told.TheVariants.{Nothing}
use Rattle.tool_runs.specs.Gains.{latter, first_shown, last_shown, told, told_by, amounts, difference, total_of, gain_in, gains_in}
use Rattle.tool_runs.specs.ExplainLaws.{AddUp}

abbrev Entries : Type 0
Entries = List (Option ℕ × Option ℤ)

latter_none : (x : Option ℤ) → latter None x ≡ x
latter_none None = refl
latter_none (Some amount) = refl

latter_by : (a b c : Option ℤ) → latter a (latter b c) ≡ latter (latter a b) c
latter_by a b None = refl
latter_by a b (Some amount) = refl

-- what one more step shows is the last, where it is money
pub last_push : (before : List (Option ℤ)) (shown : Option ℤ) → last_shown (before ++ shown ∷ []) ≡ latter (last_shown before) shown
unfolding last_shown
last_push [] None = refl
last_push [] (Some amount) = refl
last_push (first ∷ before) shown =
    ap (latter first) (last_push before shown) ∙ latter_by first (last_shown before) shown

-- and the first, where none was shown before
pub first_push : (before : List (Option ℤ)) (shown : Option ℤ) → first_shown (before ++ shown ∷ []) ≡ latter shown (first_shown before)
unfolding first_shown
first_push [] None = refl
first_push [] (Some amount) = refl
first_push (first ∷ before) shown =
    ap (λ (last : Option ℤ). latter last first) (first_push before shown) ∙ sym (latter_by shown (first_shown before) first)

-- the amount, or another where there is none
abbrev or_amount : ℤ → Option ℤ → ℤ
or_amount other None = other
or_amount other (Some amount) = amount

some_amount : (amount : ℤ) (last : Option ℤ) → latter (Some amount) last ≡ Some (or_amount amount last)
some_amount amount None = refl
some_amount amount (Some other) = refl

zero_sum : (x : ℤ) → pos 0 +ℤ x ≡ x
zero_sum x = omega (arith, ints)

same_sum : (x : ℤ) → pos 0 ≡ x -ℤ x
same_sum x = omega (arith, ints)

two_sums : (x y z : ℤ) → (y -ℤ x) +ℤ (z -ℤ y) ≡ z -ℤ x
two_sums x y z = omega (arith, ints)

-- behind some money, the gains of the steps are the last money less that
gains_from : (before : List (Option ℤ)) (entries : Entries) (base : ℤ) → last_shown before ≡ Some base
    → gains_in (told_by before entries) ≡ or_amount base (last_shown (amounts entries)) -ℤ base
unfolding told_by last_shown
gains_from before [] base is = same_sum base
gains_from before ((name, None) ∷ entries) base is =
    zero_sum (gains_in (told_by (before ++ None ∷ []) entries))
    ∙ gains_from (before ++ None ∷ []) entries base (last_push before None ∙ is)
    ∙ ap (λ (last : Option ℤ). or_amount base last -ℤ base) (sym (latter_none (last_shown (amounts entries))))
gains_from before ((name, Some amount) ∷ entries) base is =
    ap (λ (last : Option ℤ). gain_in (told last (Some amount)) +ℤ gains_in (told_by (before ++ Some amount ∷ []) entries)) is
    ∙ ap (λ (gains : ℤ). (amount -ℤ base) +ℤ gains)
    (gains_from (before ++ Some amount ∷ []) entries amount (last_push before (Some amount)))
    ∙ two_sums base amount (or_amount amount (last_shown (amounts entries)))
    ∙ ap (λ (last : Option ℤ). or_amount base last -ℤ base) (sym (some_amount amount (last_shown (amounts entries))))

some_same : (x y : ℤ) → Some x ≡ Some y → x ≡ y
some_same x y e = cc

-- behind none, they are the total
gains_total : (before : List (Option ℤ)) (entries : Entries) (total : ℤ) → last_shown before ≡ None
    → total_of (amounts entries) ≡ Some total → gains_in (told_by before entries) ≡ total
unfolding told_by first_shown last_shown
gains_total before [] total none e = absurd (cc)
gains_total before ((name, None) ∷ entries) total none e =
    zero_sum (gains_in (told_by (before ++ None ∷ []) entries))
    ∙ gains_total (before ++ None ∷ []) entries total (last_push before None ∙ none)
    (ap (λ (last : Option ℤ). difference (first_shown (amounts entries)) last) (sym (latter_none (last_shown (amounts entries)))) ∙ e)
gains_total before ((name, Some amount) ∷ entries) total none e =
    ap (λ (last : Option ℤ). gain_in (told last (Some amount)) +ℤ gains_in (told_by (before ++ Some amount ∷ []) entries)) none
    ∙ zero_sum (gains_in (told_by (before ++ Some amount ∷ []) entries))
    ∙ gains_from (before ++ Some amount ∷ []) entries amount (last_push before (Some amount))
    ∙ some_same (or_amount amount (last_shown (amounts entries)) -ℤ amount) total
    (ap (λ (last : Option ℤ). difference (Some amount) last) (sym (some_amount amount (last_shown (amounts entries)))) ∙ e)

-- and where there is no total, none of them shows money
none_told : (before : List (Option ℤ)) (entries : Entries) → total_of (amounts entries) ≡ None
    → All (λ entry. entry.1 ≡ Nothing) (told_by before entries)
unfolding told_by first_shown last_shown
none_told before [] e = All-nil (λ (entry : Option ℕ × Told). entry.1 ≡ Nothing)
none_told before ((name, None) ∷ entries) e =
    All-cons (λ (entry : Option ℕ × Told). entry.1 ≡ Nothing) (name, Nothing) (told_by (before ++ None ∷ []) entries) refl
    (none_told (before ++ None ∷ []) entries
    (ap (λ (last : Option ℤ). difference (first_shown (amounts entries)) last) (sym (latter_none (last_shown (amounts entries)))) ∙ e))
none_told before ((name, Some amount) ∷ entries) e =
    let some : Some (or_amount amount (last_shown (amounts entries)) -ℤ amount) ≡ None =
    ap (λ (last : Option ℤ). difference (Some amount) last) (sym (some_amount amount (last_shown (amounts entries)))) ∙ e in
    absurd (cc)

pub add_up : (entries : Entries) → AddUp entries
unfolding last_shown
add_up entries = record {
  sum = λ total is. gains_total [] entries total refl is;
  none = λ is. none_told [] entries is;
}
