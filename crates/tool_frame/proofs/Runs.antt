-- A run of a tool: from what was found, what was made of that, and what was written.
use Rattle.std.proofs.Common.{◌≡◌, ◌⊎◌, inl, inr, ⊎_elim, ℕ, ◌+◌, ◌<◌, Bool, List, length, take, Option, Result, Ok, Err, refl, sym, ◌∙◌, ap, subst, arith}
use Rattle.desk_edge.specs.Count.{Rose, raised, last_count}
use Rattle.desk_edge.specs.Sink.{appended}
use Rattle.desk_terms.specs.Reading.{Calc}
use Rattle.market_loader.proofs.Steps.{told_map, told_any}
use Rattle.market_loader.proofs.There.{err_is}
use Rattle.tool_frame.specs.Calls.{Makes, Begins}
use Rattle.tool_frame.specs.Endings.{Endings, AreEndings}
use Rattle.tool_frame.specs.Run.{status_of, given_for, IsAccepted, IsAcceptedAs, Tells}
use Rattle.tool_frame.specs.Stage.{Stage, Done, Refused, Missing, Failed, Cut, Halted, IsOutside, IsEarly, IsBefore, IsHalted, IsQuiet, Writes, Computes, Log, faults_then, puts_then}
use Rattle.tool_frame.specs.Tool.{Tool, Finds, IsRun, ShelfTurn, sink_turn, bench_turn, verdict_of}
use Rattle.tool_frame.proofs.Calling.{begins_none}

-- ---- a stage before anything is made

wrote_none : (n : Stage) → IsBefore n → (bytes : Option (List ℕ)) (whole : List ℕ) → Writes bytes bytes whole n
wrote_none Refused before bytes whole = refl
wrote_none Missing before bytes whole = refl
wrote_none Failed before bytes whole = refl
wrote_none Halted before bytes whole = refl
wrote_none Done before bytes whole = absurd before
wrote_none Cut before bytes whole = absurd before

called_none : (n : Stage) → IsBefore n → (calls : List (ℕ × Bool)) (count : ℕ) (log : Log) → Computes Makes Begins calls n count count log log
called_none Refused before calls count log = (refl, refl)
called_none Missing before calls count log = (refl, refl)
called_none Failed before calls count log = (refl, refl)
called_none Halted before calls count log = begins_none calls count log
called_none Done before calls count log = absurd before
called_none Cut before calls count log = absurd before

put_none : (n : Stage) → IsBefore n → (faults : ℕ) → faults ≡ puts_then n faults
put_none Refused before faults = refl
put_none Missing before faults = refl
put_none Failed before faults = refl
put_none Halted before faults = refl
put_none Done before faults = absurd before
put_none Cut before faults = absurd before

-- a fault that is counted is not quiet
put_counts : (old new : ℕ) → new ≡ raised old → IsQuiet old new → ⊥
put_counts old new counted quiet = let rises : old + 1 ≡ old = raises old quiet.1 ∙ sym counted ∙ quiet.0 in omega (arith, rises)
  where
    raises : (count : ℕ) → count < last_count → count + 1 ≡ raised count
    raises count below = omega (arith, below)

-- where no fault is counted, one that the files do not decide is want of memory
quiet_halts : (n : Stage) → IsBefore n → IsOutside n → (old new : ℕ) → new ≡ faults_then n old → IsQuiet old new → IsHalted n
quiet_halts Halted before outside old new counted quiet = tt
quiet_halts Failed before outside old new counted quiet = absurd (put_counts old new counted quiet)
quiet_halts Refused before outside old new counted quiet = absurd outside
quiet_halts Missing before outside old new counted quiet = absurd outside
quiet_halts Done before outside old new counted quiet = absurd outside
quiet_halts Cut before outside old new counted quiet = absurd before

-- ---- a stage behind the reading of files

-- the text was made, or memory ran out for it
abbrev IsAfter : Stage → Type 0
IsAfter Done = Unit {0}
IsAfter Cut = Unit {0}
IsAfter Halted = Unit {0}
IsAfter Refused = ⊥
IsAfter Missing = ⊥
IsAfter Failed = ⊥

not_early : (n : Stage) → IsAfter n → IsEarly n → ⊥
not_early Done after early = early
not_early Cut after early = early
not_early Halted after early = early
not_early Refused after early = after
not_early Missing after early = after
not_early Failed after early = after

faults_kept : (n : Stage) → IsAfter n → (faults : ℕ) → faults ≡ faults_then n faults
faults_kept Done after faults = refl
faults_kept Cut after faults = refl
faults_kept Halted after faults = refl
faults_kept Refused after faults = absurd after
faults_kept Missing after faults = absurd after
faults_kept Failed after faults = absurd after

module _ {Found Request Wanted Status K B : Type 0} (ends : Endings Status) (sound : AreEndings ends) (tool : Tool Request Wanted Status) (view : Found → Wanted) (words : List (List ℕ))
    (shelf : ShelfTurn) (bytes : K → Option (List ℕ)) (faults : K → ℕ) (k : K) (calc : B → Calc) (count : B → ℕ) (log : B → Log) (b : B) where
  abbrev stage : Status → Stage
  stage status = ends.stage_of status

  -- the words or the files gave nothing
  module _ (s : Status) (finds : Finds ends tool.asks view words (Err s) shelf) where
    lost_status : (told : Result Wanted Status) → Tells stage view (Err s) told → IsOutside (stage s) ⊎ (s ≡ status_of ends.done told)
    lost_status told (inl outside) = inl outside
    lost_status told (inr is) = inr (sym (ap (status_of ends.done) is))

    lost_complete : (told : Result Wanted Status) → Tells stage view (Err s) told → IsAccepted told → IsQuiet shelf.old.faults shelf.new.faults
        → (s ≡ ends.done) ⊎ (s ≡ ends.halted)
    lost_complete told (inl outside) accepted quiet =
        inr (sound.memory s (quiet_halts (stage s) finds.before outside shelf.old.faults shelf.new.faults finds.counted quiet))
    lost_complete told (inr is) accepted quiet = absurd (subst (λ (v : Result Wanted Status). IsAccepted v) is accepted)

    pub run_lost : IsRun ends tool words s shelf (sink_turn bytes faults k k) (bench_turn calc count log b b)
    run_lost = record {
      status = told_map shelf.old.files (λ files t. lost_status (verdict_of ends tool.asks files words) t) finds.tells;
      usage = (λ is. finds.usage.0 (ap (λ (f : Status). Err f) is), λ none. err_is s ends.usage (finds.usage.1 none));
      there = finds.there;
      complete = told_map shelf.old.files (λ files t accepted quiet put. lost_complete (verdict_of ends tool.asks files words) t accepted quiet) finds.tells;
      written = told_any shelf.old.files (λ files. wrote_none (stage s) finds.before (bytes k)
          (given_for (tool.output (calc b)) (verdict_of ends tool.asks files words)));
      nothing = λ before. refl;
      computed = told_any shelf.old.files (λ files. called_none (stage s) finds.before
          (given_for (tool.computed (calc b)) (verdict_of ends tool.asks files words)) (count b) (log b));
      carried = inl (record { before = finds.before; unwritten = refl; uncalled = refl });
      unneeded = told_any shelf.old.files (λ files. inr refl);
      alone = λ early. refl;
      same = refl;
      read = finds.read;
      counted = finds.counted;
      absent = finds.absent;
      files = finds.files;
      write = λ is. absurd (subst (λ (n : Stage). IsBefore n) is finds.before);
      put = put_none (stage s) finds.before (faults k);
      calls = finds.calls;
    }

  -- they gave what is wanted, and the run ended at this stage
  module _ (x : Found) (finds : Finds ends tool.asks view words (Ok x) shelf) (k' : K) (b' : B) (s : Status) (n : Stage) (comes : stage s ≡ n) (after : IsAfter n)
      (late : IsOutside n ⊎ (s ≡ ends.done))
      (decides : IsQuiet (faults k) (faults k') → (s ≡ ends.done) ⊎ (s ≡ ends.halted))
      (writes : Writes (bytes k) (bytes k') (tool.output (calc b) (view x)) n)
      (nothing : IsBefore n → k' ≡ k)
      (write : n ≡ Cut → Rose (faults k) (faults k'))
      (put : faults k' ≡ puts_then n (faults k))
      (computes : Computes Makes Begins (tool.computed (calc b) (view x)) n (count b) (count b') (log b) (log b'))
      (unneeded : tool.NeedsBench (view x) ⊎ (b' ≡ b))
      (same : calc b' ≡ calc b) where
    -- it did not end at one of these
    not_at : (m : Stage) → (IsAfter m → ⊥) → stage s ≡ m → ⊥
    not_at m none is = none (subst (λ (m : Stage). IsAfter m) (sym comes ∙ is) after)

    found_status : (told : Result Wanted Status) → told ≡ Ok (view x) → IsOutside (stage s) ⊎ (s ≡ status_of ends.done told)
    found_status told is = ⊎_elim
        (λ outside. inl (subst (λ (m : Stage). IsOutside m) (sym comes) outside))
        (λ done. inr (done ∙ sym (ap (status_of ends.done) is)))
        late

    pub run_found : IsRun ends tool words s shelf (sink_turn bytes faults k k') (bench_turn calc count log b b')
    run_found = record {
      status = told_map shelf.old.files (λ files is. found_status (verdict_of ends tool.asks files words) is) finds.tells;
      usage = (
        λ is. absurd (not_at Refused (λ none. none) (ap stage is ∙ sound.usage)),
        λ none. absurd (let no : Ok x ≡ Err ends.usage = finds.usage.1 none in cc),
      );
      there = told_map shelf.old.files (λ files h halted. h tt) finds.there;
      complete = told_any shelf.old.files (λ files accepted quiet puts. decides puts);
      written = told_map shelf.old.files (λ files is. subst (λ (v : Result Wanted Status). Writes (bytes k) (bytes k')
          (given_for (tool.output (calc b)) v) (stage s)) (sym is) (rw comes writes)) finds.tells;
      nothing = λ before. nothing (subst (λ (m : Stage). IsBefore m) comes before);
      computed = told_map shelf.old.files (λ files is. subst (λ (v : Result Wanted Status). Computes Makes Begins
          (given_for (tool.computed (calc b)) v) (stage s) (count b) (count b') (log b) (log b')) (sym is) (rw comes computes)) finds.tells;
      carried = inr (view x, rw comes writes, rw comes computes);
      unneeded = told_map shelf.old.files (λ files is. subst (λ (v : Result Wanted Status). IsAcceptedAs tool.NeedsBench v ⊎ (b' ≡ b))
          (sym is) unneeded) finds.tells;
      alone = λ early. absurd (not_early n after (subst (λ (m : Stage). IsEarly m) comes early));
      same = same;
      read = λ is. absurd (not_at Failed (λ none. none) is);
      counted = rw comes (finds.counted ∙ faults_kept n after shelf.old.faults);
      absent = λ is. absurd (not_at Missing (λ none. none) is);
      files = finds.files;
      write = λ is. write (sym comes ∙ is);
      put = rw comes put;
      calls = finds.calls;
    }

  -- the three ends of a run whose files gave what is wanted
  module _ (x : Found) (finds : Finds ends tool.asks view words (Ok x) shelf) (b' : B) (s : Status)
      (unneeded : tool.NeedsBench (view x) ⊎ (b' ≡ b)) (same : calc b' ≡ calc b) where
    pub run_done : (k' : K) → s ≡ ends.done → bytes k' ≡ appended (tool.output (calc b) (view x)) (bytes k) → faults k' ≡ faults k
        → Makes (tool.computed (calc b) (view x)) (count b) (count b') (log b) (log b')
        → IsRun ends tool words s shelf (sink_turn bytes faults k k') (bench_turn calc count log b b')
    run_done k' is writes quiet makes = run_found x finds k' b' s Done (ap stage is ∙ sound.done) tt (inr is) (λ puts. inl is) writes
        (λ before. absurd before) (λ at. absurd (cc)) quiet makes unneeded same

    pub run_cut : (k' : K) → s ≡ ends.cut
        → (n : ℕ) × (n < length (tool.output (calc b) (view x))) × (bytes k' ≡ appended (take n (tool.output (calc b) (view x))) (bytes k))
        → Rose (faults k) (faults k') → faults k' ≡ raised (faults k)
        → Makes (tool.computed (calc b) (view x)) (count b) (count b') (log b) (log b')
        → IsRun ends tool words s shelf (sink_turn bytes faults k k') (bench_turn calc count log b b')
    run_cut k' is front rose once makes = run_found x finds k' b' s Cut (ap stage is ∙ sound.cut) tt (inl tt) (λ puts. absurd (counts puts)) front
        (λ before. absurd before) (λ at. rose) once makes unneeded same
      where
        counts : IsQuiet (faults k) (faults k') → ⊥
        counts quiet = put_counts (faults k) (faults k') once quiet

    pub run_halted : s ≡ ends.halted → Begins (tool.computed (calc b) (view x)) (count b) (count b') (log b) (log b')
        → IsRun ends tool words s shelf (sink_turn bytes faults k k) (bench_turn calc count log b b')
    run_halted is begins = run_found x finds k b' s Halted (ap stage is ∙ sound.halted) tt (inl tt) (λ puts. inr is) refl
        (λ before. refl) (λ at. absurd (cc)) refl begins unneeded same
