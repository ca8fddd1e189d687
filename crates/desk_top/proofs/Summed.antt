-- How far a load has come: the rounds that are done, and what is kept of their lines.
use Rattle.std.proofs.Common.{◌≡◌, ◌∙◌, ℕ, ◌+◌, ◌<◌, ◌≤◌, false, List, [], ◌∷◌, ◌++◌, length, get_or, take, drop, Option, Some, None, unwrap_or, refl, sym, ap, arith}
use Rattle.desk_edge.proofs.SinkLemmas.{appended-nil}
use Rattle.desk_terms.specs.Bench.{counted, logged}
use Rattle.desk_model.specs.Sound.{IsSound}
use Rattle.session_commands.specs.declared.command.Command.{Command}
use Rattle.session_model.specs.Course.{Running, Meaning, Course, round_of}
use Rattle.session_rounds.specs.Goes.{Output, Does, Halts, Stays}
use Rattle.session_model.specs.Rounds.{rounds, calls_in, calls_of, transcript}
use Rattle.desk_top.specs.Early.{Outside, outside, next_of, IsHalted}
use Rattle.desk_top.specs.Round.{IsCounted, StopsWithin}
use Rattle.desk_top.specs.Summary.{Tally, tally_of, with_bytes}
use Rattle.desk_top.proofs.Played.{begun_with}
use Rattle.desk_top.proofs.Progress.{Log, Progress, progress_none, progress_more, progress_next, progress_last, progress_bytes, progress_count, progress_log, progress_halted, calls_front, calls_long}
use Rattle.desk_top.proofs.Reported.{all_made}
use Rattle.desk_top.proofs.Tallies.{tally_more}

-- where a load stands that began at `first`: `rest` is left of its commands
pub record Summed (P : Type 0) (m : Meaning P) (first : Running P) (commands rest : List Command) (state : Running P) (tally : Tally) (count0 : ℕ) (log0 : Log) (count : ℕ) (log : Log) : Type 0 where
  pub text : List ℕ
  pub kept : tally ≡ tally_of text
  pub progress : Progress P m first commands rest state (outside (Some []) count0 log0) (outside (Some text) count log)

some_same : (a b : List ℕ) → Some a ≡ Some b → a ≡ b
some_same a b is = ap (λ (o : Option (List ℕ)). unwrap_or o a) is

-- computations that stop in the next round
halted_stops : {P : Type 0} (turns : List (Course P)) (count0 : ℕ) (log0 : Log) (bytes : Option (List ℕ)) (new : Outside)
    → IsHalted turns (outside bytes count0 log0) new
    → StopsWithin (calls_in turns) (outside None count0 log0) (outside None new.count new.log)
halted_stops turns count0 log0 bytes new h =
    let some : h.ended ≤ length (calls_in (next_of h.whole turns)) = omega (arith, h.most, h.last.0) in
    record {
      begun = length (calls_in (take h.whole turns)) + h.begun;
      ended = length (calls_in (take h.whole turns)) + h.ended;
      most = omega (arith, h.most, calls_long turns h.whole h.ended some);
      last = (omega (arith, h.last.0), omega (arith, h.last.1));
      bytes = refl;
      count = h.count;
      log = h.log ∙ ap (logged log0) (sym (calls_front turns h.whole h.ended some));
    }

-- one round that was done, or in which memory ran out, and one behind which it did
module _ {P : Type 0} (t : Course P) (count : ℕ) (log : Log) (out : Output) where
  pub counted_done : (next : Running P) (kept tally : Tally) → Does P t next (begun_with count log) out
      → tally ≡ with_bytes kept out.lines
      → IsCounted t next kept tally (outside None count log) (outside None out.count out.log)
  counted_done next kept tally does adds = record {
    next = does.next;
    lines = adds ∙ ap (λ (o : Output). with_bytes kept o.lines) does.out;
    count = ap (λ (o : Output). o.count) does.out;
    log = ap (λ (o : Output). o.log) does.out;
  }

  pub counted_halts : Halts P t (begun_with count log) out
      → StopsWithin t.calls (outside None count log) (outside None out.count out.log)
  counted_halts halts = record {
    begun = halts.begun;
    ended = halts.ended;
    most = halts.most;
    last = halts.last;
    bytes = refl;
    count = ap (λ (o : Output). o.count) halts.out;
    log = ap (λ (o : Output). o.log) halts.out;
  }

  pub counted_all : (next : Running P) → Does P t next (begun_with count log) out
      → StopsWithin t.calls (outside None count log) (outside None out.count out.log)
  counted_all next does =
      all_made t.calls count out.count log out.log (ap (λ (o : Output). o.count) does.out) (ap (λ (o : Output). o.log) does.out)

module _ {P : Type 0} (m : Meaning P) (first : Running P) (commands : List Command) (count0 : ℕ) (log0 : Log) where
  pub summed_none : (tally : Tally) → tally ≡ tally_of [] → first.standing.stopped ≡ false → IsSound m.calc first.standing.state
      → Summed P m first commands commands first tally count0 log0 count0 log0
  summed_none tally none running sound = record {
    text = [];
    kept = none;
    progress = progress_none m first commands (outside (Some []) count0 log0) running sound;
  }

  -- at the place of a loop over the commands
  pub summed_next : (i : ℕ) (command : Command) (state : Running P) (tally : Tally) (count : ℕ) (log : Log) → i < length commands
      → command ≡ get_or commands i command
      → Summed P m first commands (drop i commands) state tally count0 log0 count log
      → Summed P m first commands (command ∷ drop (i + 1) commands) state tally count0 log0 count log
  summed_next i command state tally count log within is s = record {
    text = s.text;
    kept = s.kept;
    progress = progress_next m first commands (outside (Some []) count0 log0) i command state (outside (Some s.text) count log) within is s.progress;
  }

  module _ (command : Command) (rest : List Command) (state : Running P) (tally : Tally) (count : ℕ) (log : Log) (s : Summed P m first commands (command ∷ rest) state tally count0 log0 count log) (count2 : ℕ) (log2 : Log) where
    -- one round more
    pub summed_more : (next : Running P) (tally2 : Tally)
        → IsCounted (round_of m state command) next tally tally2 (outside None count log) (outside None count2 log2)
        → Stays m.calc state.standing next.standing → next.standing.stopped ≡ false
        → Summed P m first commands rest next tally2 count0 log0 count2 log2
    summed_more next tally2 counts stays running =
        let t : Course P = round_of m state command in
        record {
          text = s.text ++ t.lines;
          kept = counts.lines ∙ (ap (λ (k : Tally). with_bytes k t.lines) s.kept ∙ tally_more s.text t.lines);
          progress = progress_more m first commands (outside (Some []) count0 log0) command rest state next
              (outside (Some s.text) count log) (outside (Some (s.text ++ t.lines)) count2 log2) s.progress
              (record { bytes = refl; count = counts.count; log = counts.log })
              counts.next stays.names stays.actions running stays.sound;
        }

    -- memory runs out in it, or behind it
    pub summed_halted : StopsWithin (round_of m state command).calls (outside None count log) (outside None count2 log2)
        → StopsWithin (calls_of m first commands) (outside None count0 log0) (outside None count2 log2)
    summed_halted stops =
        halted_stops (rounds m first commands) count0 log0 (Some []) (outside (Some s.text) count2 log2)
        (progress_halted m first commands (outside (Some []) count0 log0) command rest state (outside (Some s.text) count log)
        (outside (Some s.text) count2 log2) s.progress
        (record {
          part = 0;
          within = omega arith;
          begun = stops.begun;
          ended = stops.ended;
          most = stops.most;
          last = stops.last;
          bytes = sym (appended-nil (Some s.text));
          count = stops.count;
          log = stops.log;
        }))

  -- all is done
  pub summed_tally : (i : ℕ) (state : Running P) (tally : Tally) (count : ℕ) (log : Log) → length commands ≤ i
      → Summed P m first commands (drop i commands) state tally count0 log0 count log
      → tally ≡ tally_of (transcript m first commands)
  summed_tally i state tally count log past s =
      let last = progress_last m first commands (outside (Some []) count0 log0) i state (outside (Some s.text) count log) past s.progress in
      s.kept ∙ ap tally_of (some_same s.text (transcript m first commands) (progress_bytes m first commands (outside (Some []) count0 log0) state (outside (Some s.text) count log) last))

  pub summed_count : (i : ℕ) (state : Running P) (tally : Tally) (count : ℕ) (log : Log) → length commands ≤ i
      → Summed P m first commands (drop i commands) state tally count0 log0 count log
      → count ≡ counted count0 (length (calls_of m first commands))
  summed_count i state tally count log past s =
      progress_count m first commands (outside (Some []) count0 log0) state (outside (Some s.text) count log)
      (progress_last m first commands (outside (Some []) count0 log0) i state (outside (Some s.text) count log) past s.progress)

  pub summed_log : (i : ℕ) (state : Running P) (tally : Tally) (count : ℕ) (log : Log) → length commands ≤ i
      → Summed P m first commands (drop i commands) state tally count0 log0 count log
      → log ≡ logged log0 (calls_of m first commands)
  summed_log i state tally count log past s =
      progress_log m first commands (outside (Some []) count0 log0) state (outside (Some s.text) count log)
      (progress_last m first commands (outside (Some []) count0 log0) i state (outside (Some s.text) count log) past s.progress)
