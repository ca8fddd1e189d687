-- Memory is wanted only for a market whose file is there.
use Rattle.std.proofs.Common.{◌≡◌, List, ℕ, Option, Some, None, Result, Ok, Err, refl, ap}
use Rattle.std.specs.Prelude.{IfSome, IsSome, IsErrOf}
use Rattle.desk_edge.specs.Shelf.{file_at}
use Rattle.market_file.specs.Market.{Market}
use Rattle.market_loader.specs.Ends.{with_fault}
use Rattle.market_loader.specs.Files.{Files}
use Rattle.market_loader.proofs.There.{err_is}
use Rattle.market_tables.specs.Given.{◌>>=◌}
use Rattle.tool_frame.specs.Market as tool
use Rattle.tool_frame.specs.declared.market.OpenMarket.{OpenMarket}
use Rattle.tool_frame.specs.declared.status.MarketStatus.{MarketStatus}
use Rattle.tool_frame.specs.declared.status.MarketStatus.TheVariants as ended
use Rattle.tool_frame.proofs.There.{read_there}
use Rattle.tool_script.specs.declared.plan.ScriptRun as run
use Rattle.tool_script.specs.declared.status.Status.{Status}
use Rattle.tool_script.specs.declared.status.Status.TheVariants.{NoMemory}
use Rattle.tool_script.specs.Reading.{market_at}
use Rattle.tool_script.specs.Refusals.{as_status}
use Rattle.tool_script.specs.Verdict.{ScriptRun, run_over, run_at}

halted : (s : MarketStatus) → as_status s ≡ NoMemory → s ≡ ended.NoMemory
halted ended.Done is = absurd (cc)
halted ended.Usage is = absurd (cc)
halted (ended.Market section entry why) is = absurd (cc)
halted ended.ReadFault is = absurd (cc)
halted ended.WriteFault is = absurd (cc)
halted ended.NoMemory is = refl
halted (ended.Absent which) is = absurd (cc)

pub market_halts : (told : Option Files) (path : List ℕ) (s : MarketStatus)
    → IfSome told (λ files. IsErrOf {T = OpenMarket} (Err s) ended.NoMemory → IsSome (file_at files path))
    → IfSome told (λ files. IsErrOf {T = OpenMarket} (Err (as_status s)) NoMemory → IsSome (file_at files path))
market_halts None path s there = tt
market_halts (Some files) path s there =
    λ is. there (ap (λ (f : MarketStatus). Err f) (halted s (err_is (as_status s) NoMemory is)))

-- a market that was read is there
market_there : (path : List ℕ) (files : Files) (m : Market) → market_at path files ≡ Ok m → IsSome (file_at files path)
market_there path files m is = by (tool.market_at path files) refl is
  where
    by : (read : Result Market MarketStatus) → tool.market_at path files ≡ read → with_fault as_status read ≡ Ok m → IsSome (file_at files path)
    by (Ok market) same found = read_there path files market same
    by (Err s) same found = absurd (let none : Err (as_status s) ≡ Ok m = found in cc)

-- whatever comes of the script
pub found_there : (P : Type 0) (told : Option Files) (path : List ℕ) (m : Market) → IfSome told (λ files. market_at path files ≡ Ok m)
    → IfSome told (λ files. P → IsSome (file_at files path))
found_there P None path m reads = tt
found_there P (Some files) path m reads = λ p. market_there path files m reads

-- the same failure of the whole
pub lost_there : (told : Option Files) (path : List ℕ) (s : Status)
    → IfSome told (λ files. IsErrOf {T = OpenMarket} (Err s) NoMemory → IsSome (file_at files path))
    → IfSome told (λ files. IsErrOf {T = run.ScriptRun} (Err s) NoMemory → IsSome (file_at files path))
lost_there None path s there = tt
lost_there (Some files) path s there = λ is. there (ap (λ (f : Status). Err f) (err_is s NoMemory is))

-- the market of a script that was read is there
pub run_there : (market script : List ℕ) (files : Files) (found : ScriptRun) → run_at market script files ≡ Ok found
    → IsSome (file_at files market)
run_there market script files found is = by (market_at market files) refl is
  where
    by : (read : Result Market Status) → market_at market files ≡ read → (read >>= (λ m. run_over m script files)) ≡ Ok found
        → IsSome (file_at files market)
    by (Ok m) same has = market_there market files m same
    by (Err s) same has = absurd (let none : Err s ≡ Ok found = has in cc)

-- a run that finds no memory is of a market that is there
pub halted_there : (told : Option Files) (path : List ℕ) (s : Status)
    → IfSome told (λ files. IsErrOf {T = run.ScriptRun} (Err s) NoMemory → IsSome (file_at files path))
    → IfSome told (λ files. s ≡ NoMemory → IsSome (file_at files path))
halted_there None path s there = tt
halted_there (Some files) path s there = λ is. there (ap (λ (f : Status). Err f) is)
