-- What a report and a load leave outside, each as the round that it counts as.
use Rattle.std.proofs.Common.{◌≡◌, ℕ, ◌<◌, Bool, List, [], ◌∷◌, length, take, Option, None, Result, Ok, Err, arith, refl, sym, ◌∙◌, ap, subst}
use Rattle.std.specs.Prelude.{IfErr, OnOk, IsErrOf}
use Rattle.std.proofs.Math.Seq.{take-length}
use Rattle.desk_edge.specs.Sink.{appended}
use Rattle.desk_edge.proofs.SinkLemmas.{appended-nil}
use Rattle.desk_terms.specs.Bench.{counted, logged}
use Rattle.session_model.specs.Course.{Course}
use Rattle.tool_script.specs.declared.status.Status.{Status}
use Rattle.tool_script.specs.declared.status.Status.TheVariants as status
use Rattle.desk_top.specs.Early.{outside, IsCut, IsHalted}
use Rattle.desk_top.specs.Round.{StopsWithin}
use Rattle.desk_top.specs.Written.{IsLate, Writes, ended}
use Rattle.desk_top.proofs.Progress.{halted_before, one_cut, one_halted}

abbrev Bytes : Type 0
Bytes = Option (List ℕ)

pub report_writes : (old new : Bytes) (line : List ℕ) (result : Result (Unit {0}) Status)
    → OnOk result (new ≡ appended line old)
    → (IsErrOf result status.WriteFault → (n : ℕ) × (n < length line) × (new ≡ appended (take n line) old))
    → (IsErrOf result status.NoMemory → new ≡ old) → IfErr result IsLate → Writes old new line (ended result)
report_writes old new line (Ok x) written front nothing late = written
report_writes old new line (Err status.WriteFault) written front nothing late = let f = front refl in (f.0, f.2)
report_writes old new line (Err status.NoMemory) written front nothing late = (0, nothing refl ∙ sym (appended-nil old))
report_writes old new line (Err status.Done) written front nothing late = absurd late
report_writes old new line (Err status.Usage) written front nothing late = absurd late
report_writes old new line (Err status.ReadFault) written front nothing late = absurd late
report_writes old new line (Err (status.Market section entry why)) written front nothing late = absurd late
report_writes old new line (Err (status.Script at why)) written front nothing late = absurd late
report_writes old new line (Err (status.Absent role)) written front nothing late = absurd late

-- the write of its lines failed
pub report_cut : {P : Type 0} (t : Course P) (old new : Bytes) (count count2 : ℕ) (log log2 : Option (List (ℕ × Bool))) (n : ℕ)
    → count2 ≡ counted count (length t.calls) → log2 ≡ logged log t.calls
    → n < length t.lines → new ≡ appended (take n t.lines) old
    → IsCut (t ∷ []) (outside old count log) (outside new count2 log2)
report_cut {P} t old new count count2 log log2 n counts logs short bytes =
    one_cut t (outside old count log) (outside new count2 log2)
    (record { part = n; short = short; bytes = bytes; count = counts; log = logs })

-- memory ran out before
pub report_halted : {P : Type 0} (turns : List (Course P)) (old new : Bytes) (count : ℕ) (log : Option (List (ℕ × Bool))) → new ≡ old
    → IsHalted turns (outside old count log) (outside new count log)
report_halted turns old new count log same =
    subst (λ (b : Bytes). IsHalted turns (outside old count log) (outside b count log)) (sym same)
    (halted_before turns (outside old count log))

-- memory ran out while the computations of a load were made
pub load_halted : {P : Type 0} (t : Course P) (bytes : Bytes) (count count2 : ℕ) (log log2 : Option (List (ℕ × Bool)))
    → StopsWithin t.calls (outside None count log) (outside None count2 log2)
    → IsHalted (t ∷ []) (outside bytes count log) (outside bytes count2 log2)
load_halted t bytes count count2 log log2 s =
    one_halted t (outside bytes count log) (outside bytes count2 log2)
    (record {
      part = 0;
      within = omega arith;
      begun = s.begun;
      ended = s.ended;
      most = s.most;
      last = s.last;
      bytes = sym (appended-nil bytes);
      count = s.count;
      log = s.log;
    })

-- all computations of a load were made
pub all_made : (calls : List (ℕ × Bool)) (count count2 : ℕ) (log log2 : Option (List (ℕ × Bool)))
    → count2 ≡ counted count (length calls) → log2 ≡ logged log calls
    → StopsWithin calls (outside None count log) (outside None count2 log2)
all_made calls count count2 log log2 counts logs = record {
  begun = length calls;
  ended = length calls;
  most = omega arith;
  last = (omega arith, omega arith);
  bytes = refl;
  count = counts;
  log = logs ∙ ap (logged log) (sym (take-length calls));
}
