-- The reading of a market, and what a reading says of a run.
use Rattle.std.proofs.Common.{◌≡◌, inl, inr, ℕ, List, Option, Result, Ok, Err, refl, ◌∙◌, ap}
use Rattle.std.specs.Prelude.{IfSome}
use Rattle.market_file.specs.declared.read.Market as read
use Rattle.market_loader.specs.Ends.{End, load_end}
use Rattle.market_loader.specs.Files.{Files}
use Rattle.market_loader.specs.Market.{market_in as loaded_in, market_of, market_calls}
use Rattle.market_loader.specs.Reads.{Seen, Reads, IsOutside as IsOutsideOf, Tells as TellsOf}
use Rattle.market_loader.specs.declared.faults.LoadFault.{LoadFault}
use Rattle.market_loader.specs.declared.faults.LoadFault.TheVariants as loaded
use Rattle.market_loader.proofs.Steps.{told_map, reads_as}
use Rattle.tool_frame.specs.declared.market.OpenMarket.{OpenMarket}
use Rattle.tool_frame.specs.Market.{market_in, market_at, status_end}
use Rattle.tool_frame.specs.Run.{Tells}
use Rattle.tool_frame.specs.Stage.{Stage, Done, Refused, Missing, Failed, Cut, Halted, IsOutside, stage_end}
use Rattle.tool_frame.specs.Status.{load_status}

-- a failure ends a reading as its status does
load_ends : (e : LoadFault) → status_end (load_status e) ≡ load_end e
load_ends (loaded.Fault section entry why) = refl
load_ends loaded.Read = refl
load_ends (loaded.Absent which) = refl
load_ends loaded.NoMemory = refl

-- the same reading, kept in another form
module _ {E X Y Z : Type 0} (end : E → End) (view : X → Y) (other : Z → Y) (meaning : Files → Result Y E) (most : Files → ℕ)
    (old new : Seen) where
  pub kept_as : (x : X) (z : Z) → view x ≡ other z → Reads end view meaning most old new (Ok x)
      → Reads end other meaning most old new (Ok z)
  kept_as x z same r = record {
    tells = told_map old.files (λ files t. t ∙ ap (λ (y : Y). Ok y) same) r.tells;
    calls = r.calls;
    files = r.files;
    read = tt;
    absent = tt;
    counted = r.counted;
    faults = r.faults;
    misses = r.misses;
  }

  pub lost_as : (e : E) → Reads {X = X} end view meaning most old new (Err e) → Reads {X = Z} end other meaning most old new (Err e)
  lost_as e r = record {
    tells = r.tells;
    calls = r.calls;
    files = r.files;
    read = r.read;
    absent = r.absent;
    counted = r.counted;
    faults = r.faults;
    misses = r.misses;
  }

module _ (names : List (List ℕ)) (path : List ℕ) (old new : Seen) where
  pub market_found : (market : read.Market) (kept : OpenMarket) → loaded_in names market ≡ market_in kept
      → Reads load_end (loaded_in names) (market_of path) (market_calls path) old new (Ok market)
      → Reads status_end market_in (market_at path) (market_calls path) old new (Ok kept)
  market_found market kept same r =
      kept_as status_end (loaded_in names) market_in (market_at path) (market_calls path) old new market kept same
      (reads_as load_end status_end load_status (loaded_in names) (market_of path) (market_calls path) old new (Ok market)
      load_ends r)

  pub market_lost : (e : LoadFault)
      → Reads {X = read.Market} load_end (loaded_in names) (market_of path) (market_calls path) old new (Err e)
      → Reads {X = OpenMarket} status_end market_in (market_at path) (market_calls path) old new (Err (load_status e))
  market_lost e r =
      lost_as status_end (loaded_in names) market_in (market_at path) (market_calls path) old new (load_status e)
      (reads_as load_end status_end load_status (loaded_in names) (market_of path) (market_calls path) old new (Err e)
      load_ends r)

-- ---- what a reading says of a run

outside_of : (n : Stage) → IsOutsideOf (stage_end n) → IsOutside n
outside_of Failed outside = tt
outside_of Halted outside = tt
outside_of Done outside = absurd outside
outside_of Refused outside = absurd outside
outside_of Missing outside = absurd outside
outside_of Cut outside = absurd outside

module _ {Found Wanted Status : Type 0} (stage : Status → Stage) (view : Found → Wanted) where
  tells_of : (result : Result Found Status) (told : Result Wanted Status) → TellsOf (λ s. stage_end (stage s)) view result told
      → Tells stage view result told
  tells_of (Ok x) told is = is
  tells_of (Err s) told (inl outside) = inl (outside_of (stage s) outside)
  tells_of (Err s) told (inr is) = inr is

  -- the answer of a reading is the verdict of its files
  pub told_of : (told : Option Files) (meaning : Files → Result Wanted Status) (result : Result Found Status)
      → IfSome told (λ files. TellsOf (λ s. stage_end (stage s)) view result (meaning files))
      → IfSome told (λ files. Tells stage view result (meaning files))
  told_of told meaning result t = told_map told (λ files h. tells_of result (meaning files) h) t
