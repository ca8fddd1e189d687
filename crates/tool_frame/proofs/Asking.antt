-- What is wanted, by words.
use Rattle.std.proofs.Common.{◌≡◌, inr, ℕ, ◌+◌, ◌≤◌, List, Option, Some, None, Result, Ok, Err, refl, arith}
use Rattle.std.specs.Prelude.{IfSome, IsSome}
use Rattle.desk_edge.specs.Shelf.{file_at}
use Rattle.market_loader.specs.Files.{Files}
use Rattle.tool_frame.specs.Run.{asked, calls_for, IsThere, Tells}
use Rattle.tool_frame.specs.Stage.{Stage}

module _ {Request Found Wanted Status : Type 0} (stage : Status → Stage) (view : Found → Wanted) (usage : Status) (wanted_of : Request → Files → Result Wanted Status) where
  -- the words are this request
  pub told_request : (told : Option Files) (words : Option Request) (request : Request) (result : Result Found Status)
      → words ≡ Some request → IfSome told (λ files. Tells stage view result (wanted_of request files))
      → IfSome told (λ files. Tells stage view result (asked usage wanted_of words files))
  told_request told words request result is t = rw is t

  -- or none
  pub told_usage : (told : Option Files) (words : Option Request) → words ≡ None
      → IfSome told (λ files. Tells stage view (Err usage) (asked usage wanted_of words files))
  told_usage None words none = tt
  told_usage (Some files) words none = rw none (inr refl)

module _ {Request : Type 0} (most : Request → Files → ℕ) where
  pub told_calls : (told : Option Files) (words : Option Request) (request : Request) (old new : ℕ) → words ≡ Some request
      → IfSome told (λ files. new ≤ old + most request files) → IfSome told (λ files. new ≤ old + calls_for most words files)
  told_calls told words request old new is few = rw is few

  -- where nothing was called
  pub told_uncalled : (told : Option Files) (words : Option Request) (calls : ℕ)
      → IfSome told (λ files. calls ≤ calls + calls_for most words files)
  told_uncalled None words calls = tt
  told_uncalled (Some files) words calls = omega arith

-- what is accepted begins with a file that is there
module _ {Request Wanted Status : Type 0} (path : Request → List ℕ) (usage : Status) (wanted_of : Request → Files → Result Wanted Status)
    (has : (request : Request) (files : Files) (wanted : Wanted) → wanted_of request files ≡ Ok wanted → IsSome (file_at files (path request))) where
  pub told_there : (P : Type 0) (told : Option Files) (words : Option Request) (wanted : Wanted)
      → IfSome told (λ files. asked usage wanted_of words files ≡ Ok wanted) → IfSome told (λ files. P → IsThere words path files)
  told_there P None words wanted accepts = tt
  told_there P (Some files) None wanted accepts = absurd (let none : Err usage ≡ Ok wanted = accepts in cc)
  told_there P (Some files) (Some request) wanted accepts = λ p. has request files wanted accepts
