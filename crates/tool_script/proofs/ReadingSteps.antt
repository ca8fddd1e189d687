-- Steps of reading, as statuses tell them.
use Rattle.std.proofs.Common.{◌≡◌, ℕ, ◌≤◌, List, Result, Ok, Err, Vec, refl, sym, ◌∙◌, ap, subst, arith}
use Rattle.std.specs.declared.alloc.Global.{Global}
use Rattle.market_file.specs.Fault.{Fault, FailsWith}
use Rattle.market_file.specs.Market.{Market}
use Rattle.market_file.specs.declared.fault.MarketFault.{MarketFault}
use Rattle.market_file.specs.declared.fault.MarketFault.TheVariants as untaken
use Rattle.market_loader.specs.Ends.{End, Refused, Missing, Failed, Halted, file_end, with_fault}
use Rattle.market_loader.specs.Files.{Files, file_of, file_calls}
use Rattle.market_loader.specs.Market.{market_calls, and_then}
use Rattle.market_loader.specs.Reads.{Seen, Reads, Says, IsRefusedAs}
use Rattle.market_loader.specs.declared.faults.FileFault.{FileFault}
use Rattle.market_loader.specs.declared.faults.FileFault.TheVariants as file
use Rattle.market_loader.proofs.Steps.{reads_on, reads_off, reads_text, reads_within, reads_as}
use Rattle.market_tables.specs.Given.{◌>>=◌}
use Rattle.session_commands.specs.declared.script_kind.ScriptKind.{ScriptKind}
use Rattle.session_lang.specs.Given.{FailsAt}
use Rattle.session_lang.specs.declared.fault.ScriptFault.{ScriptFault}
use Rattle.session_lang.specs.declared.fault.ScriptFault.TheVariants as unread
use Rattle.tool_frame.specs.declared.market.OpenMarket.{OpenMarket}
use Rattle.tool_frame.specs.declared.status.MarketStatus.{MarketStatus}
use Rattle.tool_frame.specs.declared.status.MarketStatus.TheVariants as ended
use Rattle.tool_frame.specs.Market.{market_in}
use Rattle.tool_frame.specs.Market as tool
use Rattle.tool_script.specs.declared.plan.ScriptRun as run
use Rattle.tool_script.specs.declared.status.Status.{Status}
use Rattle.tool_script.specs.Found.{run_in}
use Rattle.tool_script.specs.Reading.{market_at, script_at, or_market, or_script}
use Rattle.tool_script.specs.Refusals.{as_status, file_status, market_status, script_status, status_end}
use Rattle.tool_script.specs.Verdict.{scripted, run_over, run_at, run_calls}

-- a failure ends a reading as its status does
pub market_ends : (s : MarketStatus) → status_end (as_status s) ≡ tool.status_end s
market_ends ended.Done = refl
market_ends ended.Usage = refl
market_ends (ended.Market section entry why) = refl
market_ends ended.ReadFault = refl
market_ends ended.WriteFault = refl
market_ends ended.NoMemory = refl
market_ends (ended.Absent which) = refl

file_ends : (e : FileFault) → status_end (file_status e) ≡ file_end e
file_ends file.Absent = refl
file_ends file.TooLong = refl
file_ends file.Read = refl
file_ends file.NoMemory = refl

-- texts that are no market or no script
pub market_err : {Y : Type 0} (e : MarketFault) (told : Result Y Fault) → FailsWith e told
    → IsRefusedAs (status_end (market_status e)) (market_status e) (or_market told)
market_err {Y} (untaken.At section entry why) told is = ap (λ (r : Result Y Fault). or_market r) is
market_err untaken.NoMemory told is = tt

pub script_err : {Y W : Type 0} (e : ScriptFault) (told : Result Y (ℕ × ScriptKind)) (go : Y → Result W Status) → FailsAt e told
    → IsRefusedAs (status_end (script_status e)) (script_status e) (or_script told >>= go)
script_err {Y} (unread.At line why) told go is = ap (λ (r : Result Y (ℕ × ScriptKind)). or_script r >>= go) is
script_err unread.NoMemory told go is = tt

-- a text that is read goes on with what it gives, and ends with its fault
pub says_on : {X Y Z W : Type 0} (view : X → Y) (other : Z → W) (first : Result Y Status) (go : Y → Result W Status) (x : X)
    (result : Result Z Status) → Says status_end view (Ok x) first → Says status_end other result (go (view x))
    → Says status_end other result (first >>= go)
says_on {X} {Y} view other first go x result is says =
    subst (λ q. Says status_end other result q) (sym (ap (λ (q : Result Y Status). q >>= go) is)) says

refused_on : {Y W : Type 0} (n : End) (s : Status) (first : Result Y Status) (go : Y → Result W Status)
    → IsRefusedAs n s first → IsRefusedAs n s (first >>= go)
refused_on {Y} Refused s first go says = ap (λ (q : Result Y Status). q >>= go) says
refused_on Missing s first go says = says
refused_on Failed s first go says = says
refused_on Halted s first go says = says

pub says_fails : {X Y Z W : Type 0} (view : X → Y) (other : Z → W) (first : Result Y Status) (go : Y → Result W Status)
    (s : Status) → Says {X = X} status_end view (Err s) first → Says {X = Z} status_end other (Err s) (first >>= go)
says_fails view other first go s says = refused_on (status_end s) s first go says

-- a last step costs nothing more
no_more : {Y : Type 0} (calls : ℕ) (r : Result Y Status) → and_then calls r (λ y. 0) ≤ calls
no_more calls (Ok y) = omega arith
no_more calls (Err s) = omega arith

module _ {X Y Z W : Type 0} (view : X → Y) (other : Z → W) (meaning : Files → Result Y Status) (most : Files → ℕ)
    (go : Y → Result W Status) (old new : Seen) where
  -- what was read says by itself what comes of it
  pub said_on : (x : X) (result : Result Z Status) → Reads status_end view meaning most old new (Ok x)
      → Says status_end other result (go (view x))
      → Reads status_end other (λ files. meaning files >>= go) most old new result
  said_on x result r says =
      reads_within status_end other (λ files. meaning files >>= go) _ most old new result
      (λ files. no_more (most files) (meaning files))
      (reads_on status_end view other meaning (λ files. go) most (λ files y. 0) old new new x result r
      (reads_text status_end other (go (view x)) new result says))

  -- nothing comes of what was not read
  pub lost_on : (s : Status) → Reads {X = X} status_end view meaning most old new (Err s)
      → Reads {X = Z} status_end other (λ files. meaning files >>= go) most old new (Err s)
  lost_on s r =
      reads_within status_end other (λ files. meaning files >>= go) _ most old new (Err s)
      (λ files. no_more (most files) (meaning files))
      (reads_off status_end view other meaning (λ files. go) most (λ files y. 0) old new s r)

-- a market that the frame of tools read
module _ (path : List ℕ) (old new : Seen) where
  pub market_read : (result : Result OpenMarket MarketStatus)
      → Reads tool.status_end market_in (tool.market_at path) (market_calls path) old new result
      → Reads status_end market_in (market_at path) (market_calls path) old new (with_fault as_status result)
  market_read result r =
      reads_as tool.status_end status_end as_status market_in (tool.market_at path) (market_calls path) old new result market_ends r

-- ---- a script over a market

abbrev Text : Type 0
Text = Vec ℕ Global

abbrev bytes_of : Text → List ℕ
bytes_of text = text.items

module _ (market : Market) (path : List ℕ) (old new : Seen) where
  pub script_found : (text : Text) (result : Result run.ScriptRun Status)
      → Reads file_end bytes_of (file_of path) (file_calls path) old new (Ok text)
      → Says status_end run_in result (scripted market text.items)
      → Reads status_end run_in (run_over market path) (file_calls path) old new result
  script_found text result r says =
      said_on bytes_of run_in (script_at path) (file_calls path) (scripted market) old new text result
      (reads_as file_end status_end file_status bytes_of (file_of path) (file_calls path) old new (Ok text) file_ends r) says

  pub script_lost : (e : FileFault) → Reads {X = Text} file_end bytes_of (file_of path) (file_calls path) old new (Err e)
      → Reads {X = run.ScriptRun} status_end run_in (run_over market path) (file_calls path) old new (Err (file_status e))
  script_lost e r =
      lost_on bytes_of run_in (script_at path) (file_calls path) (scripted market) old new (file_status e)
      (reads_as file_end status_end file_status bytes_of (file_of path) (file_calls path) old new (Err e) file_ends r)

-- both
module _ (market script : List ℕ) where
  pub run_found : (old mid new : Seen) (kept : OpenMarket) (result : Result run.ScriptRun Status)
      → Reads status_end market_in (market_at market) (market_calls market) old mid (Ok kept)
      → Reads status_end run_in (run_over (market_in kept) script) (file_calls script) mid new result
      → Reads status_end run_in (run_at market script) (run_calls market script) old new result
  run_found old mid new kept result r rest =
      reads_on status_end market_in run_in (market_at market) (λ files m. run_over m script files) (market_calls market)
      (λ files m. file_calls script files) old mid new kept result r rest

  pub run_lost : (old new : Seen) (s : Status)
      → Reads {X = OpenMarket} status_end market_in (market_at market) (market_calls market) old new (Err s)
      → Reads {X = run.ScriptRun} status_end run_in (run_at market script) (run_calls market script) old new (Err s)
  run_lost old new s r =
      reads_off status_end market_in run_in (market_at market) (λ files m. run_over m script files) (market_calls market)
      (λ files m. file_calls script files) old new s r
