-- WHAT A TOOL IS, and what a run of it does (this project's profile).
use Rattle.std.specs.Prelude.{◌≡◌, ◌⊎◌, ◌↔◌, ◌≤◌, ◌+◌, ℕ, Bool, List, Option, None, Result, Ok, Err, IfSome, IfErr, IsErrOf}
use Rattle.desk_edge.specs.Count.{Rose}
use Rattle.desk_edge.specs.Shelf.{Contents}
use Rattle.desk_terms.specs.Reading.{Calc}
use Rattle.market_tables.specs.Given.{◌>>=◌}
use Rattle.market_loader.specs.Ends.{with_fault}
use Rattle.market_loader.specs.Files.{Files}
use Rattle.market_loader.specs.Reads.{Seen, seen}
use Rattle.tool_frame.specs.Calls.{Makes, Begins}
use Rattle.tool_frame.specs.Endings.{Endings}
use Rattle.tool_frame.specs.Run.{asked, calls_for, IsThere, status_of, given_for, IsAccepted, IsAcceptedAs, Tells, faults_after}
use Rattle.tool_frame.specs.Stage.{Stage, Missing, Failed, Cut, IsOutside, IsEarly, IsBefore, IsQuiet, Writes, Computes, Log, faults_then, puts_then}

-- what is asked of files: what words ask for, if they are some that are taken; the path of the market with which that begins; what is
-- wanted by it once the files are read, or why not; and the most calls of a shelf for it
pub record Asking (Request Wanted Status : Type 0) : Type 0 where
  pub request_of : List (List ℕ) → Option Request
  pub path_of : Request → List ℕ
  pub wanted_of : Request → Files → Result Wanted Status
  pub calls_of : Request → Files → ℕ

-- what is to be done for words, or the status with which it is refused
abbrev pub verdict_of : {Request Wanted Status : Type 0} → Endings Status → Asking Request Wanted Status → Files → List (List ℕ) → Result Wanted Status
verdict_of ends asking files words = asked ends.usage asking.wanted_of (asking.request_of words) files

-- the most calls of a shelf for them
abbrev pub reading_calls : {Request Wanted Status : Type 0} → Asking Request Wanted Status → Files → List (List ℕ) → ℕ
reading_calls asking files words = calls_for asking.calls_of (asking.request_of words) files

-- the same, with more said of what is wanted, or another status
abbrev pub asks_then : {Request Wanted Status Wanted' Status' : Type 0} → Asking Request Wanted Status → (Status → Status')
    → (Wanted → Result Wanted' Status') → Asking Request Wanted' Status'
asks_then asking change go = record {
  request_of = asking.request_of;
  path_of = asking.path_of;
  wanted_of = λ request files. with_fault change (asking.wanted_of request files) >>= go;
  calls_of = asking.calls_of;
}

-- a tool: what it asks of files, the text of what is wanted, what is computed for that, and whether that needs a bench at all
pub record Tool (Request Wanted Status : Type 0) : Type 1 where
  pub asks : Asking Request Wanted Status
  pub output : Calc → Wanted → List ℕ
  pub computed : Calc → Wanted → List (ℕ × Bool)
  pub NeedsBench : Wanted → Type 0

-- ---- the files

-- a shelf before and after its files are read
pub record ShelfTurn : Type 0 where
  pub old : Seen
  pub new : Seen

abbrev pub shelf_turn : {H : Type 0} → (H → Option Contents) → (H → ℕ) → (H → ℕ) → (H → ℕ) → H → H → ShelfTurn
shelf_turn contents faults misses calls old new = record {
  old = seen (contents old) (faults old) (misses old) (calls old);
  new = seen (contents new) (faults new) (misses new) (calls new);
}

-- the files were read to their end, or memory was wanted for them
abbrev pub IsReached : {Found Status : Type 0} → Status → Result Found Status → Type 0
IsReached halted (Ok found) = Unit {0}
IsReached halted (Err status) = status ≡ halted

-- WORDS AND FILES WERE READ: the answer, seen by view, is the verdict, but for a fault outside or want of memory
pub record Finds {Found Request Wanted Status : Type 0} (ends : Endings Status) (asking : Asking Request Wanted Status) (view : Found → Wanted) (words : List (List ℕ)) (result : Result Found Status) (shelf : ShelfTurn) : Type 0 where
  pub tells : IfSome shelf.old.files (λ files. Tells ends.stage_of view result (verdict_of ends asking files words))
  pub usage : IsErrOf result ends.usage ↔ (asking.request_of words ≡ None)
  -- memory is wanted only where the market's file is there
  pub there : IfSome shelf.old.files (λ files. IsReached ends.halted result → IsThere (asking.request_of words) asking.path_of files)
  pub before : IfErr result (λ status. IsBefore (ends.stage_of status))
  pub files : shelf.new.files ≡ shelf.old.files
  pub calls : IfSome shelf.old.files (λ files. shelf.new.calls ≤ shelf.old.calls + reading_calls asking files words)
  -- each fault was counted; a call that failed is the answer, and was the last
  pub read : IfErr result (λ status. ends.stage_of status ≡ Failed → Rose shelf.old.faults shelf.new.faults)
  pub absent : IfErr result (λ status. ends.stage_of status ≡ Missing → Rose shelf.old.misses shelf.new.misses)
  pub counted : shelf.new.faults ≡ faults_after ends.stage_of result shelf.old.faults

-- ---- a run

-- a sink before and after a run: its bytes, where they are told, and its count of faults
pub record SinkTurn (K : Type 0) : Type 0 where
  pub bytes : K → Option (List ℕ)
  pub faults : K → ℕ
  pub old : K
  pub new : K

-- a bench before and after a run: its answers, its count of calls, and its log, where that is told
pub record BenchTurn (B : Type 0) : Type 0 where
  pub calc : B → Calc
  pub count : B → ℕ
  pub log : B → Log
  pub old : B
  pub new : B

abbrev pub sink_turn : {K : Type 0} → (K → Option (List ℕ)) → (K → ℕ) → K → K → SinkTurn K
sink_turn bytes faults old new = record { bytes = bytes; faults = faults; old = old; new = new }

abbrev pub bench_turn : {B : Type 0} → (B → Calc) → (B → ℕ) → (B → Log) → B → B → BenchTurn B
bench_turn calc count log old new = record { calc = calc; count = count; log = log; old = old; new = new }

-- a run that ended before anything was wanted
pub record IsUntouched {K B : Type 0} (stage : Stage) (sink : SinkTurn K) (bench : BenchTurn B) : Type 0 where
  pub before : IsBefore stage
  pub unwritten : sink.new ≡ sink.old
  pub uncalled : bench.new ≡ bench.old

-- A RUN OF A TOOL ON WORDS: how it ended, and what it left of a shelf, a sink and a bench
pub record IsRun {Request Wanted Status K B : Type 0} (ends : Endings Status) (tool : Tool Request Wanted Status) (words : List (List ℕ)) (result : Status)
    (shelf : ShelfTurn) (sink : SinkTurn K) (bench : BenchTurn B) : Type 0 where
  -- the status is that of the words and the files, but for a fault outside or want of memory
  pub status : IfSome shelf.old.files (λ files.
      IsOutside (ends.stage_of result) ⊎ (result ≡ status_of ends.done (verdict_of ends tool.asks files words)))
  pub usage : (result ≡ ends.usage) ↔ (tool.asks.request_of words ≡ None)
  -- memory is wanted only where the market's file is there
  pub there : IfSome shelf.old.files (λ files.
      result ≡ ends.halted → IsThere (tool.asks.request_of words) tool.asks.path_of files)
  -- what is accepted is done, where no fault is counted and memory is found
  pub complete : IfSome shelf.old.files (λ files. IsAccepted (verdict_of ends tool.asks files words)
      → IsQuiet shelf.old.faults shelf.new.faults → IsQuiet (sink.faults sink.old) (sink.faults sink.new)
      → (result ≡ ends.done) ⊎ (result ≡ ends.halted))
  -- at Done the bytes written are the text; after a fault of writing they are a front of it, and else there are none
  pub written : IfSome shelf.old.files (λ files. Writes (sink.bytes sink.old) (sink.bytes sink.new)
      (given_for (tool.output (bench.calc bench.old)) (verdict_of ends tool.asks files words)) (ends.stage_of result))
  -- no put is made before the text is whole: also where memory runs out the sink is as it was
  pub nothing : IsBefore (ends.stage_of result) → sink.new ≡ sink.old
  -- the bench was called for the computations of the text, in their order, and for no other; where memory ran out, for a front of them
  pub computed : IfSome shelf.old.files (λ files. Computes Makes Begins
      (given_for (tool.computed (bench.calc bench.old)) (verdict_of ends tool.asks files words)) (ends.stage_of result)
      (bench.count bench.old) (bench.count bench.new) (bench.log bench.old) (bench.log bench.new))
  -- the same of files told or not: neither the sink nor the bench was touched, or both were used for something that is wanted
  pub carried : IsUntouched (ends.stage_of result) sink bench ⊎ ((wanted : Wanted)
      × Writes (sink.bytes sink.old) (sink.bytes sink.new) (tool.output (bench.calc bench.old) wanted) (ends.stage_of result)
      × Computes Makes Begins (tool.computed (bench.calc bench.old) wanted) (ends.stage_of result)
      (bench.count bench.old) (bench.count bench.new) (bench.log bench.old) (bench.log bench.new))
  -- what needs no bench leaves it alone
  pub unneeded : IfSome shelf.old.files (λ files.
      IsAcceptedAs tool.NeedsBench (verdict_of ends tool.asks files words) ⊎ (bench.new ≡ bench.old))
  pub alone : IsEarly (ends.stage_of result) → bench.new ≡ bench.old
  pub same : bench.calc bench.new ≡ bench.calc bench.old
  -- each fault was counted; a call of the shelf that failed is the answer, and was the last: any call may fail, and one more would be counted too
  pub read : ends.stage_of result ≡ Failed → Rose shelf.old.faults shelf.new.faults
  pub counted : shelf.new.faults ≡ faults_then (ends.stage_of result) shelf.old.faults
  pub absent : ends.stage_of result ≡ Missing → Rose shelf.old.misses shelf.new.misses
  pub files : shelf.new.files ≡ shelf.old.files
  -- so was a put that failed; where none failed, none is counted
  pub write : ends.stage_of result ≡ Cut → Rose (sink.faults sink.old) (sink.faults sink.new)
  pub put : sink.faults sink.new ≡ puts_then (ends.stage_of result) (sink.faults sink.old)
  -- each file is read once, in order, and none behind the first failure
  pub calls : IfSome shelf.old.files (λ files. shelf.new.calls ≤ shelf.old.calls + reading_calls tool.asks files words)
