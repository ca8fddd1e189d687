-- What a run leaves, by the status with which it ends.
use Rattle.std.proofs.Common.{◌≡◌, ◌⊎◌, ℕ, List, Option, Ok, sym, subst}
use Rattle.std.specs.Prelude.{IfSome}
use Rattle.desk_terms.specs.Reading.{Calc}
use Rattle.market_loader.specs.Files.{Files}
use Rattle.market_loader.proofs.Steps.{told_map}
use Rattle.tool_script.specs.declared.status.Status.{Status}
use Rattle.tool_script.specs.declared.status.Status.TheVariants as status
use Rattle.tool_script.specs.Verdict.{Plan, verdict_of}
use Rattle.desk_top.specs.Early.{Outside}
use Rattle.desk_top.specs.Output.{output_in, output_of, IsToldIn, IsToldOf}
use Rattle.desk_top.specs.Written.{Writes}

-- what was written of a plan was written of the verdict
pub told_written : (told : Option Files) (words : List (List ℕ)) (calc : Calc) (plan : Plan) (old new : Option (List ℕ)) (s : Status)
    → IfSome told (λ files. verdict_of files words ≡ Ok plan) → Writes old new (output_in calc plan) s
    → IfSome told (λ files. Writes old new (output_of calc (verdict_of files words)) s)
told_written told words calc plan old new s is writes =
    told_map told (λ files e. subst (λ v. Writes old new (output_of calc v) s) (sym e) writes) is

-- and what was told of it before memory ran out
pub told_so_far : (told : Option Files) (words : List (List ℕ)) (calc : Calc) (plan : Plan) (old new : Outside) (s : Status) (Failed : Type 0)
    → IfSome told (λ files. verdict_of files words ≡ Ok plan) → (s ≡ status.NoMemory → IsToldIn calc plan old new ⊎ Failed)
    → IfSome told (λ files. s ≡ status.NoMemory → IsToldOf calc (verdict_of files words) old new ⊎ Failed)
told_so_far told words calc plan old new s Failed is so_far =
    told_map told (λ files e. λ halts. subst (λ v. IsToldOf calc v old new ⊎ Failed) (sym e) (so_far halts)) is
