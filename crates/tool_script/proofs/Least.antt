-- The worst value is the least, and the first of that value.
use Rattle.std.proofs.Common.{◌≡◌, ℕ, zero, suc, ◌<◌, ℤ, Bool, true, false, if◌then◌else◌, List, [], ◌∷◌, Option, Some, None, refl, sym, ap, subst, arith, slice_get, int_le, ◌≤ℤ◌}
use Rattle.std.specs.Prelude.{◌<ℤ◌}
use Rattle.std.proofs.lemmas.Int.{ints}
use Rattle.tool_script.specs.GridLaws.{ShowsNone, TellsWorst}
use Rattle.tool_script.specs.Worst.{Worst, lower, worst_of, IsWorst}

abbrev Entries : Type 0
Entries = List (Option ℕ × Option ℤ)

abbrev worst : Option ℕ → ℤ → Worst
worst label amount = record { name = label; amount = amount }

-- what an entry shows
abbrev amount_in : Option (Option ℕ × Option ℤ) → Option ℤ
amount_in None = None
amount_in (Some entry) = entry.1

abbrev shown : Option ℕ → Option ℤ → Option (Option ℕ × Option ℤ)
shown label amount = Some (label, amount)

same_amount : (l label : Option ℕ) (a amount : ℤ) → shown l (Some a) ≡ shown label (Some amount) → a ≡ amount
same_amount l label a amount e = let same : Some a ≡ Some amount = ap amount_in e in cc

no_amount : (l label : Option ℕ) (amount : ℤ) → shown l None ≡ shown label (Some amount) → ⊥
no_amount l label amount e = let same : None ≡ Some amount = ap amount_in e in cc

-- ---- an entry that shows nothing

behind_none : (label : Option ℕ) (entries : Entries) (w : Worst) → IsWorst entries w → IsWorst ((label, None) ∷ entries) w
behind_none label entries w is = record { at = suc is.at; there = is.there; least = least; first = first }
  where
    least : (i : ℕ) (l : Option ℕ) (a : ℤ) → slice_get ((label, None) ∷ entries) i ≡ Some (l, Some a) → w.amount ≤ℤ a
    least zero l a e = absurd (no_amount label l a e)
    least (suc i) l a e = is.least i l a e

    first : (i : ℕ) (l : Option ℕ) (a : ℤ) → i < suc is.at → slice_get ((label, None) ∷ entries) i ≡ Some (l, Some a) → w.amount <ℤ a
    first zero l a within e = absurd (no_amount label l a e)
    first (suc i) l a within e = is.first i l a (omega (arith, within)) e

-- ---- an entry that shows more than the worst behind it

behind_more : (label : Option ℕ) (amount : ℤ) (entries : Entries) (w : Worst) → w.amount <ℤ amount → IsWorst entries w
    → IsWorst ((label, Some amount) ∷ entries) w
behind_more label amount entries w less is = record { at = suc is.at; there = is.there; least = least; first = first }
  where
    least : (i : ℕ) (l : Option ℕ) (a : ℤ) → slice_get ((label, Some amount) ∷ entries) i ≡ Some (l, Some a) → w.amount ≤ℤ a
    least zero l a e = let same = same_amount label l amount a e in omega (arith, ints, same, less)
    least (suc i) l a e = is.least i l a e

    first : (i : ℕ) (l : Option ℕ) (a : ℤ) → i < suc is.at → slice_get ((label, Some amount) ∷ entries) i ≡ Some (l, Some a)
        → w.amount <ℤ a
    first zero l a within e = let same = same_amount label l amount a e in subst (λ (b : ℤ). w.amount <ℤ b) same less
    first (suc i) l a within e = is.first i l a (omega (arith, within)) e

-- ---- an entry that shows no more than those behind it

in_front : (label : Option ℕ) (amount : ℤ) (entries : Entries)
    → ((i : ℕ) (l : Option ℕ) (a : ℤ) → slice_get entries i ≡ Some (l, Some a) → amount ≤ℤ a)
    → IsWorst ((label, Some amount) ∷ entries) (worst label amount)
in_front label amount entries bound = record { at = zero; there = refl; least = least; first = first }
  where
    least : (i : ℕ) (l : Option ℕ) (a : ℤ) → slice_get ((label, Some amount) ∷ entries) i ≡ Some (l, Some a) → amount ≤ℤ a
    least zero l a e = let same = same_amount label l amount a e in omega (arith, ints, same)
    least (suc i) l a e = bound i l a e

    first : (i : ℕ) (l : Option ℕ) (a : ℤ) → i < zero → slice_get ((label, Some amount) ∷ entries) i ≡ Some (l, Some a)
        → amount <ℤ a
    first i l a within e = absurd (omega (arith, within))

-- ---- where nothing is shown

lower_some : (w : Worst) (o : Option Worst) → lower w o ≡ None → ⊥
lower_some w None e = cc
lower_some w (Some other) e = by (int_le w.amount other.amount) e
  where
    by : (b : Bool) → (if b then Some w else Some other) ≡ None → ⊥
    by true e = cc
    by false e = cc

shows_none : (entries : Entries) → worst_of entries ≡ None → ShowsNone entries
shows_none [] e i label amount there = cc
shows_none ((l, None) ∷ entries) e zero label amount there = no_amount l label amount there
shows_none ((l, None) ∷ entries) e (suc i) label amount there = shows_none entries e i label amount there
shows_none ((l, Some a) ∷ entries) e i label amount there = lower_some (worst l a) (worst_of entries) e

-- ---- the worst

module _ (label : Option ℕ) (amount : ℤ) (entries : Entries) (rest : TellsWorst entries) where
  no_more : (other : Worst) → worst_of entries ≡ Some other → amount ≤ℤ other.amount
      → (i : ℕ) (l : Option ℕ) (a : ℤ) → slice_get entries i ≡ Some (l, Some a) → amount ≤ℤ a
  no_more other is within i l a there = let least = (rest other is).least i l a there in omega (arith, ints, within, least)

  chosen : (w other : Worst) → worst_of entries ≡ Some other → (b : Bool) → int_le amount other.amount ≡ b
      → (if b then Some (worst label amount) else Some other) ≡ Some w → IsWorst ((label, Some amount) ∷ entries) w
  chosen w other is true less e =
      let same : worst label amount ≡ w = cc in
      subst (λ (v : Worst). IsWorst ((label, Some amount) ∷ entries) v) same
      (in_front label amount entries (no_more other is (grind (arith, ints))))
  chosen w other is false less e =
      let same : other ≡ w = cc in
      subst (λ (v : Worst). IsWorst ((label, Some amount) ∷ entries) v) same
      (behind_more label amount entries other (grind (arith, ints)) (rest other is))

  by : (w : Worst) (o : Option Worst) → worst_of entries ≡ o → lower (worst label amount) o ≡ Some w
      → IsWorst ((label, Some amount) ∷ entries) w
  by w None none e =
      let same : worst label amount ≡ w = cc in
      subst (λ (v : Worst). IsWorst ((label, Some amount) ∷ entries) v) same
      (in_front label amount entries (λ i l a there. absurd (shows_none entries none i l a there)))
  by w (Some other) is e = chosen w other is (int_le amount other.amount) refl e

pub tells_worst : (entries : Entries) → TellsWorst entries
tells_worst [] w e = absurd (cc)
tells_worst ((label, None) ∷ entries) w e = behind_none label entries w (tells_worst entries w e)
tells_worst ((label, Some amount) ∷ entries) w e =
    by label amount entries (tells_worst entries) w (worst_of entries) refl e
