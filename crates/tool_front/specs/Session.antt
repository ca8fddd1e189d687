-- WHAT A RUN OF `desk`, A LIVE SESSION AND A PICTURE OF CURVES ARE, each as one record (this project's profile).
use Rattle.std.specs.Prelude.{◌≡◌, ◌⊎◌, ◌↔◌, ◌≤◌, ◌+◌, ℕ, List, length, Option, None, IfSome}
use Rattle.desk_edge.specs.Count.{raised}
use Rattle.desk_terms.specs.Bench.{counted, logged}
use Rattle.desk_words.specs.Words as desk
use Rattle.tool_script.specs.declared.status.Status.{Status}
use Rattle.tool_script.specs.declared.status.Status.TheVariants as ended
use Rattle.tool_script.specs.Found.{faults_then}
use Rattle.tool_script.specs.Verdict as plan
use Rattle.desk_top.specs.Headline.{IsHeadline}
use Rattle.desk_top.specs.Run.{IsOutside, IsEarly, IsQuiet}
use Rattle.desk_top.specs.Output.{computed_by, output_of}
use Rattle.desk_top.specs.Written as desk_written
use Rattle.tool_frame.specs.Run.{status_of, given_for}
use Rattle.tool_frame.specs.Tool.{ShelfTurn, SinkTurn, BenchTurn}
use Rattle.tool_frame.specs.Stage as stage
use Rattle.tool_frame.specs.declared.status.MarketStatus.TheVariants as refused
use Rattle.bump_model.specs.Asking.{Made, MadeFront}
use Rattle.curve_run.specs.declared.status.CurveStatus.{CurveStatus}
use Rattle.curve_run.specs.declared.status.CurveStatus.TheVariants as shown
use Rattle.curve_run.specs.Status as curve
use Rattle.curve_run.specs.Verdict as curves
use Rattle.curve_run.specs.Words as curve_words
use Rattle.tool_live.specs.Ends as live_ends
use Rattle.tool_live.specs.Replies as live
use Rattle.tool_live.specs.Verdict as lines
use Rattle.tool_live.specs.Words as live_words

-- A RUN, A CHECK OR A LOAD of these words: its headline, its status, its bytes and its computations, as `run` of desk_top has them
pub record IsDesk {K B : Type 0} (words : List (List ℕ)) (result : Status) (shelf : ShelfTurn) (sink : SinkTurn K) (bench : BenchTurn B) : Type 0 where
  pub headline : IfSome shelf.old.files (λ files. result ≡ ended.Done
      → IsHeadline (bench.calc bench.old) (plan.verdict_of files words) (sink.bytes sink.old) (sink.bytes sink.new))
  pub status : IfSome shelf.old.files (λ files. IsOutside result ⊎ (result ≡ plan.status_of (plan.verdict_of files words)))
  pub usage : (result ≡ ended.Usage) ↔ (desk.request_of words ≡ None)
  pub complete : IfSome shelf.old.files (λ files. plan.IsAccepted (plan.verdict_of files words)
      → IsQuiet shelf.old.faults shelf.new.faults → IsQuiet (sink.faults sink.old) (sink.faults sink.new)
      → (result ≡ ended.Done) ⊎ (result ≡ ended.NoMemory))
  pub written : IfSome shelf.old.files (λ files. desk_written.Writes (sink.bytes sink.old) (sink.bytes sink.new)
      (output_of (bench.calc bench.old) (plan.verdict_of files words)) result)
  pub nothing : IsEarly result → sink.new ≡ sink.old
  pub count : IfSome shelf.old.files (λ files. result ≡ ended.Done
      → bench.count bench.new ≡ counted (bench.count bench.old) (length (computed_by (bench.calc bench.old) (plan.verdict_of files words))))
  pub log : IfSome shelf.old.files (λ files. result ≡ ended.Done
      → bench.log bench.new ≡ logged (bench.log bench.old) (computed_by (bench.calc bench.old) (plan.verdict_of files words)))
  pub alone : IsEarly result → bench.new ≡ bench.old
  pub same : bench.calc bench.new ≡ bench.calc bench.old
  pub counted_once : shelf.new.faults ≡ faults_then result shelf.old.faults
  pub once : result ≡ ended.WriteFault → sink.faults sink.new ≡ raised (sink.faults sink.old)
  pub clean : result ≡ ended.Done → sink.faults sink.new ≡ sink.faults sink.old
  pub files : shelf.new.files ≡ shelf.old.files
  pub calls : IfSome shelf.old.files (λ files. shelf.new.calls ≤ shelf.old.calls + plan.reading_calls files words)

-- A LIVE SESSION of these words over this input: its status, its bytes and its computations, as `run_live` has them
pub record IsLive {K B : Type 0} (words : List (List ℕ)) (input : Option (List ℕ)) (result : Status) (shelf : ShelfTurn) (sink : SinkTurn K) (bench : BenchTurn B) : Type 0 where
  pub status : IfSome shelf.old.files (λ files.
      IsOutside result ⊎ (result ≡ status_of ended.Done (lines.verdict_of files words)))
  pub usage : (result ≡ ended.Usage) ↔ (live_words.request_of words ≡ None)
  pub written : IfSome shelf.old.files (λ files. IfSome input (λ content. live_ends.Writes (sink.bytes sink.old) (sink.bytes sink.new)
      (given_for (live.output_in (bench.calc bench.old) content) (lines.verdict_of files words)) result))
  pub count : IfSome shelf.old.files (λ files. IfSome input (λ content. result ≡ ended.Done → bench.count bench.new
      ≡ counted (bench.count bench.old) (length (given_for (live.computed_in (bench.calc bench.old) content) (lines.verdict_of files words)))))
  pub log : IfSome shelf.old.files (λ files. IfSome input (λ content. result ≡ ended.Done → bench.log bench.new
      ≡ logged (bench.log bench.old) (given_for (live.computed_in (bench.calc bench.old) content) (lines.verdict_of files words))))
  pub nothing : live_ends.IsRefused result → (sink.new ≡ sink.old) × (bench.new ≡ bench.old)
  pub same : bench.calc bench.new ≡ bench.calc bench.old
  pub write : result ≡ ended.WriteFault → sink.faults sink.new ≡ raised (sink.faults sink.old)
  pub clean : result ≡ ended.Done → sink.faults sink.new ≡ sink.faults sink.old
  pub files : shelf.new.files ≡ shelf.old.files
  pub calls : IfSome shelf.old.files (λ files. shelf.new.calls ≤ shelf.old.calls + lines.reading_calls files words)

-- PICTURES OF CURVES for these words: as `run_curve` has them. What stands against it is noted
pub record IsCurve {K N B : Type 0} (words : List (List ℕ)) (result : CurveStatus) (shelf : ShelfTurn) (sink : SinkTurn K) (notes : SinkTurn N) (bench : BenchTurn B) : Type 0 where
  pub status : IfSome shelf.old.files (λ files. stage.IsOutside (curve.stage_of result)
      ⊎ (result ≡ curves.ending_of (bench.calc bench.old) (curves.verdict_of files words)))
  pub usage : (result ≡ shown.Of refused.Usage) ↔ (curve_words.request_of words ≡ None)
  pub written : IfSome shelf.old.files (λ files. stage.Writes (sink.bytes sink.old) (sink.bytes sink.new)
      (given_for (curves.output_in (bench.calc bench.old)) (curves.verdict_of files words)) (curve.stage_of result))
  pub nothing : stage.IsBefore (curve.stage_of result) → sink.new ≡ sink.old
  pub unwritten : result ≡ shown.Refused → sink.new ≡ sink.old
  pub put : sink.faults sink.new ≡ stage.puts_then (curve.stage_of result) (sink.faults sink.old)
  pub noted : IfSome shelf.old.files (λ files. curve.Notes (notes.bytes notes.old) (notes.bytes notes.new) (notes.faults notes.old) (notes.faults notes.new)
      (given_for (curves.notes_in (bench.calc bench.old)) (curves.verdict_of files words)) result)
  pub silent : curve.IsOf result → notes.new ≡ notes.old
  pub computed : IfSome shelf.old.files (λ files. stage.Computes Made MadeFront
      (given_for (curves.computed_in (bench.calc bench.old)) (curves.verdict_of files words)) (curve.stage_of result)
      (bench.count bench.old) (bench.count bench.new) (bench.log bench.old) (bench.log bench.new))
  pub same : bench.calc bench.new ≡ bench.calc bench.old
  pub counted_once : shelf.new.faults ≡ stage.faults_then (curve.stage_of result) shelf.old.faults
  pub files : shelf.new.files ≡ shelf.old.files
  pub calls : IfSome shelf.old.files (λ files. shelf.new.calls ≤ shelf.old.calls + curves.reading_calls files words)
