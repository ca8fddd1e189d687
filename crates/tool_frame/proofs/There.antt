-- Memory is wanted only for a market whose file is there.
use Rattle.std.proofs.Common.{◌≡◌, List, ℕ, Option, Some, None, Result, Ok, Err, refl, ap}
use Rattle.std.specs.Prelude.{IfSome, IsSome, IsErrOf}
use Rattle.desk_edge.specs.Shelf.{file_at}
use Rattle.market_file.specs.Market.{Market}
use Rattle.market_tables.specs.Given.{◌>>=◌}
use Rattle.market_loader.specs.Ends.{with_fault}
use Rattle.market_loader.specs.Files.{Files}
use Rattle.market_loader.specs.Market.{Texts, texts_of, market_said}
use Rattle.market_loader.specs.declared.faults.LoadFault.{LoadFault}
use Rattle.market_loader.specs.declared.faults.LoadFault.TheVariants as loaded
use Rattle.market_loader.proofs.There.{err_is, texts_there}
use Rattle.tool_frame.specs.declared.market.OpenMarket.{OpenMarket}
use Rattle.tool_frame.specs.declared.status.MarketStatus.{MarketStatus}
use Rattle.tool_frame.specs.declared.status.MarketStatus.TheVariants as status
use Rattle.tool_frame.specs.Market.{market_at}
use Rattle.tool_frame.specs.Status.{load_status}

halted : (e : LoadFault) → load_status e ≡ status.NoMemory → e ≡ loaded.NoMemory
halted (loaded.Fault section entry why) is = absurd (cc)
halted loaded.Read is = absurd (cc)
halted (loaded.Absent which) is = absurd (cc)
halted loaded.NoMemory is = refl

pub market_there : (X Y : Type 0) (told : Option Files) (path : List ℕ) (e : LoadFault)
    → IfSome told (λ files. IsErrOf {T = X} (Err e) loaded.NoMemory → IsSome (file_at files path))
    → IfSome told (λ files. IsErrOf {T = Y} (Err (load_status e)) status.NoMemory → IsSome (file_at files path))
market_there X Y None path e there = tt
market_there X Y (Some files) path e there =
    λ is. there (ap (λ (f : LoadFault). Err f) (halted e (err_is (load_status e) status.NoMemory is)))

-- a market that was read is there
pub read_there : (path : List ℕ) (files : Files) (market : Market) → market_at path files ≡ Ok market → IsSome (file_at files path)
read_there path files market is = by (texts_of path files) refl is
  where
    by : (texts : Result Texts LoadFault) → texts_of path files ≡ texts → with_fault load_status (texts >>= market_said) ≡ Ok market
        → IsSome (file_at files path)
    by (Ok all) same read = texts_there path files all same
    by (Err e) same read = absurd (let none : Err (load_status e) ≡ Ok market = read in cc)

-- a market that finds no memory is there
pub halted_there : (told : Option Files) (path : List ℕ) (e : MarketStatus)
    → IfSome told (λ files. IsErrOf {T = OpenMarket} (Err e) status.NoMemory → IsSome (file_at files path))
    → IfSome told (λ files. e ≡ status.NoMemory → IsSome (file_at files path))
halted_there None path e there = tt
halted_there (Some files) path e there = λ is. there (ap (λ (s : MarketStatus). Err s) is)
