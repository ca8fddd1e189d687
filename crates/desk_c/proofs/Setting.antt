-- The command that sets a quote is known where its name is, within its limit.
use Rattle.std.proofs.Common.{◌≡◌, ℕ, ℤ, ◌^◌, ◌<◌, ◌≤◌, Bool, true, false, List, length, unsigned_abs, refl}
use Rattle.desk_names.specs.Names.{has_text, place_of}
use Rattle.desk_names.proofs.NameLaws.{place_of-lt}
use Rattle.session_commands.specs.declared.command.Command.TheVariants.{Set}
use Rattle.session_commands.specs.Parts.{parts_of}
use Rattle.session_commands.specs.Table.{row_of}
use Rattle.session_commands.specs.Whole.{IsCommand}
use Rattle.session_model.specs.Standing.{Standing, IsKnown}

pub set_known : (p : Standing) (name : ℕ) (units : ℤ) → name < length p.names → unsigned_abs units ≤ 10 ^ 18 → IsKnown p (Set name units)
unfolding IsCommand parts_of row_of
set_known p name units there within = record { first = there; second = within; third = tt }

-- a name that is found stands before the end
pub there_is : (names : List (List ℕ)) (text : List ℕ) (name : ℕ) → name ≡ place_of names text → (has_text names text ≡ false → ⊥)
    → name < length names
there_is names text name place has = rw place (place_of-lt names text (by (has_text names text) refl))
  where
    by : (b : Bool) → has_text names text ≡ b → has_text names text ≡ true
    by true is = is
    by false is = absurd (has is)
