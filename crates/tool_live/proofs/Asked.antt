-- What words ask for of files.
use Rattle.std.proofs.Common.{◌≡◌, ◌∙◌, inl, inr, ℕ, List, Option, Some, None, Result, Ok, Err, ap, sym, refl}
use Rattle.std.specs.Prelude.{IfSome, IsSome, IsErrOf}
use Rattle.desk_edge.specs.Shelf.{file_at}
use Rattle.market_file.specs.Market.{Market}
use Rattle.market_tables.specs.Given.{◌>>=◌}
use Rattle.market_loader.specs.Files.{Files}
use Rattle.market_loader.specs.Reads.{Tells as TellsOf}
use Rattle.market_loader.proofs.Steps.{told_map}
use Rattle.market_loader.proofs.There.{err_is}
use Rattle.tool_frame.specs.Run.{asked, IsThere, Tells}
use Rattle.tool_frame.proofs.Asking.{told_request}
use Rattle.tool_frame.proofs.Opening.{told_of}
use Rattle.tool_script.specs.declared.plan.ScriptRun as given
use Rattle.tool_script.specs.declared.status.Status.{Status}
use Rattle.tool_script.specs.declared.status.Status.TheVariants.{Usage, NoMemory}
use Rattle.tool_script.specs.Found.{run_in}
use Rattle.tool_script.specs.Reading.{market_at}
use Rattle.tool_script.specs.Refusals.{status_end}
use Rattle.tool_script.specs.Status.{stage_of}
use Rattle.tool_script.specs.Verdict.{ScriptRun}
use Rattle.tool_script.proofs.There.{found_there, run_there}
use Rattle.tool_live.specs.declared.wanted.Wanted.{Wanted}
use Rattle.tool_live.specs.Verdict.{LiveRun, live_in, bare, run_for, wanted_of}
use Rattle.tool_live.specs.Words.{Request}

-- what a request asks for of a script over a market that was read, or of one that was not
abbrev pub with_request : Request → ScriptRun → LiveRun
with_request request run = record { run = run; order = request.order; ready = request.ready }

abbrev as_ok : LiveRun → Result LiveRun Status
as_ok wanted = Ok wanted

abbrev with_read : Request → Result ScriptRun Status → Result LiveRun Status
with_read request read = read >>= (λ run. Ok (with_request request run))

module _ (told : Option Files) (words : Option Request) (request : Request) (is : words ≡ Some request) where
  pub asked_found : (run : given.ScriptRun) (wanted : Wanted) → live_in wanted ≡ with_request request (run_in run)
      → IfSome told (λ files. TellsOf status_end run_in (Ok run) (run_for request.market request.script files))
      → IfSome told (λ files. Tells stage_of live_in (Ok wanted) (asked Usage wanted_of words files))
  asked_found run wanted same reads =
      told_request stage_of live_in Usage wanted_of told words request (Ok wanted) is
      (told_map told (λ files e. ap (with_read request) e ∙ ap as_ok (sym same)) reads)

  pub asked_lost : (status : Status)
      → IfSome told (λ files. TellsOf {X = given.ScriptRun} status_end run_in (Err status) (run_for request.market request.script files))
      → IfSome told (λ files. Tells {Found = Wanted} stage_of live_in (Err status) (asked Usage wanted_of words files))
  asked_lost status reads =
      told_request stage_of live_in Usage wanted_of told words request (Err status) is
      (told_map told (λ files t. failed files t) (told_of stage_of run_in told (run_for request.market request.script) (Err status) reads))
    where
      failed : (files : Files) → Tells {Found = given.ScriptRun} stage_of run_in (Err status) (run_for request.market request.script files)
          → Tells {Found = Wanted} stage_of live_in (Err status) (wanted_of request files)
      failed files (inl outside) = inl outside
      failed files (inr e) = inr (ap (with_read request) e)

-- ---- a market that is there

bare_there : (market : List ℕ) (files : Files) (run : ScriptRun) → run_for market None files ≡ Ok run → IsSome (file_at files market)
bare_there market files run is = by (market_at market files) refl is
  where
    by : (read : Result Market Status) → market_at market files ≡ read → (read >>= (λ m. Ok (bare m))) ≡ Ok run → IsSome (file_at files market)
    by (Ok m) same found = found_there (Unit {0}) (Some files) market m same tt
    by (Err s) same found = absurd (let none : Err s ≡ Ok run = found in cc)

run_for_there : (market : List ℕ) (script : Option (List ℕ)) (files : Files) (run : ScriptRun) → run_for market script files ≡ Ok run
    → IsSome (file_at files market)
run_for_there market None files run is = bare_there market files run is
run_for_there market (Some script) files run is = run_there market script files run is

-- that of what is accepted
pub asked_there : (request : Request) (files : Files) (wanted : LiveRun) → wanted_of request files ≡ Ok wanted → IsSome (file_at files request.market)
asked_there request files wanted is = by (run_for request.market request.script files) refl is
  where
    by : (read : Result ScriptRun Status) → run_for request.market request.script files ≡ read → with_read request read ≡ Ok wanted
        → IsSome (file_at files request.market)
    by (Ok run) same found = run_for_there request.market request.script files run same
    by (Err s) same found = absurd (let none : Err s ≡ Ok wanted = found in cc)

-- and that of what finds no memory
pub halted_there : (X Y : Type 0) (told : Option Files) (words : Option Request) (request : Request) (s : Status) → words ≡ Some request
    → IfSome told (λ files. IsErrOf {T = X} (Err s) NoMemory → IsSome (file_at files request.market))
    → IfSome told (λ files. IsErrOf {T = Y} (Err s) NoMemory → IsThere words (λ r. r.market) files)
halted_there X Y None words request s is there = tt
halted_there X Y (Some files) words request s is there =
    λ halts. rw is (there (ap (λ (f : Status). Err f) (err_is s NoMemory halts)))
