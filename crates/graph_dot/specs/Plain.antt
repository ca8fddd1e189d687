-- Why nothing in a name has to be escaped: within quotes DOT reads `"` as their end and `\` as the beginning of an escape,
-- and a name, which is made of letters, digits and `_`, has neither.
use Rattle.std.specs.Prelude.{◌≡◌, ◌≢◌, ℕ, true, List, All}
use Rattle.desk_names.specs.Name.{has_form}

-- neither `"` nor `\`
pub record IsPlain (byte : ℕ) : Type 0 where
  pub quote : byte ≢ 34
  pub escape : byte ≢ 92

abbrev pub NamesArePlain : Type 0
NamesArePlain = (name : List ℕ) → has_form name ≡ true → All IsPlain name
