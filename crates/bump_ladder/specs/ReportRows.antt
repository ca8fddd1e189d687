-- Lines written out by hand. The objects are, in order of their numbers, `today`, `r`, `b` and `z`.
use Rattle.std.specs.Prelude.{◌≡◌, ℕ, List, [], ◌∷◌, pos, negsuc, codes, Option, None, Some}
use Rattle.desk_terms.specs.declared.cause.Cause.TheVariants.{NoEngine, TooLarge}
use Rattle.bump_model.specs.declared.ladder.Side.{Side}
use Rattle.bump_model.specs.declared.ladder.Missing.TheVariants.{Refused, Limit}
use Rattle.bump_model.specs.declared.ladder.Side.TheVariants.{Moved, NoPrice, Unset}
use Rattle.bump_model.specs.declared.ladder.Rung.{Rung}
use Rattle.bump_ladder.specs.Report.{ladder_lines, refused_lines}

abbrev pub four_names : List (List ℕ)
four_names = codes "today" ∷ codes "r" ∷ codes "b" ∷ codes "z" ∷ []

abbrev pub four_objects : List ℕ
four_objects = 0 ∷ 1 ∷ 2 ∷ 3 ∷ []

abbrev pub rung : Option ℕ → Side → Side → Rung
rung label up down = record { label = label; up = up; down = down }

-- a bond that loses 0.002723 where the rate rises, and gains it where it falls
abbrev pub rungs : List Rung
rungs =
    rung (Some 1) (Moved (negsuc 2_722)) (Moved (pos 2_723)) ∷ rung (Some 3) Unset Unset
    ∷ rung (Some 3) (NoPrice Limit) (NoPrice (Refused (TooLarge 2)))
    ∷ rung None (Moved (negsuc 2_722)) (Moved (pos 2_723)) ∷ []

pub record AreWorked : Type 0 where
  pub ladder : ladder_lines four_names four_objects 2 (pos 99_009_901) rungs 10 ≡
      codes "b base 99.009901\nr up -0.002723 down 0.002723\nz unset\nz up limit down refused toolarge b\nall up -0.002723 down 0.002723\nruns 10\n"
  pub refused : refused_lines four_names four_objects 2 (NoEngine 2) 0 ≡ codes "b refused noengine b\nruns 0\n"
