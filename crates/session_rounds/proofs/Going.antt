-- How far a course has gone: begin, go on, end, halt.
use Rattle.std.proofs.Common.{◌≡◌, ℕ, zero, suc, Bool, ◌+◌, ◌≤◌, List, [], ◌∷◌, ◌++◌, length, take, Option, Some, None, refl, sym, ap, ◌∙◌, arith}
use Rattle.std.proofs.Math.Seq.{take-length}
use Rattle.std.proofs.lemmas.List.{append_assoc, append-nil, length-append, take-append-le}
use Rattle.desk_terms.specs.Bench.{counted, logged}
use Rattle.desk_terms.specs.Reading.{Calc}
use Rattle.session_model.specs.Standing.{Standing}
use Rattle.session_model.specs.Course.{Running, Course, quiet, before, and_then}
use Rattle.session_rounds.specs.Goes.{Output, with_more, lines_alone, Does, Halts, Goes, Stays}

-- counts and logs go on
pub counted_more : (count n m : ℕ) → counted (counted count n) m ≡ counted count (n + m)
counted_more count n zero = let e : n + zero ≡ n = omega arith in ap (counted count) (sym e)
counted_more count n (suc m) = let e : n + suc m ≡ suc (n + m) = omega arith in rw e (rw (counted_more count n m) refl)

pub logged_more : (log : Option (List (ℕ × Bool))) (calls more : List (ℕ × Bool)) → logged (logged log calls) more ≡ logged log (calls ++ more)
logged_more None calls more = refl
logged_more (Some log) calls more = ap Some (append_assoc log calls more)

pub logged_none : (log : Option (List (ℕ × Bool))) → log ≡ logged log []
logged_none None = refl
logged_none (Some log) = ap Some (sym (append-nil log))

counted_both : (count : ℕ) (calls more : List (ℕ × Bool))
    → counted (counted count (length calls)) (length more) ≡ counted count (length (calls ++ more))
counted_both count calls more =
    counted_more count (length calls) (length more) ∙ ap (counted count) (sym (length-append calls more))

pub more_none : (out : Output) → out ≡ with_more [] [] out
more_none out = λ i. record { lines = sym (append-nil out.lines) i; count = out.count; log = logged_none out.log i }

pub more_more : (lines late : List ℕ) (calls more : List (ℕ × Bool)) (out : Output)
    → with_more late more (with_more lines calls out) ≡ with_more (lines ++ late) (calls ++ more) out
more_more lines late calls more out = λ i. record {
  lines = append_assoc out.lines lines late i;
  count = counted_both out.count calls more i;
  log = logged_more out.log calls more i;
}

pub goes_start : {P : Type 0} → (t : Course P) (out : Output) → Goes P t t out out
goes_start t out = record { lines = []; calls = []; out = more_none out; whole = refl }

pub joined : {P : Type 0} → (lines late : List ℕ) (calls more : List (ℕ × Bool)) (t : Course P)
    → before lines calls (before late more t) ≡ before (lines ++ late) (calls ++ more) t
joined lines late calls more t = λ i. record {
  lines = sym (append_assoc lines late t.lines) i;
  calls = sym (append_assoc calls more t.calls) i;
  next = t.next;
}

-- this much more is put out
pub out_more : {P : Type 0} → (t : Course P) (new : Running P) (lines : List ℕ) (calls : List (ℕ × Bool)) (out_old out_now out_new : Output)
    → out_now ≡ with_more lines calls out_old → Does P t new out_now out_new
    → out_new ≡ with_more (lines ++ t.lines) (calls ++ t.calls) out_old
out_more t new lines calls out_old out_now out_new out does =
    does.out ∙ ap (with_more t.lines t.calls) out ∙ more_more lines t.lines calls t.calls out_old

-- the first part of what is left is done
pub goes_on : {P : Type 0} → (total t : Course P) (rest : Running P → Course P) (new : Running P) (out_old out_now out_new : Output)
    → Goes P total (and_then t rest) out_old out_now → Does P t new out_now out_new → Goes P total (rest new) out_old out_new
unfolding and_then
goes_on {P} total t rest new out_old out_now out_new goes does = record {
  lines = goes.lines ++ t.lines;
  calls = goes.calls ++ t.calls;
  out = out_more t new goes.lines goes.calls out_old out_now out_new goes.out does;
  whole = goes.whole ∙ joined goes.lines t.lines goes.calls t.calls (rest t.next)
      ∙ ap (λ (r : Running P). before (goes.lines ++ t.lines) (goes.calls ++ t.calls) (rest r)) (sym does.next);
}

-- nothing is left
pub goes_end : {P : Type 0} → (total : Course P) (new : Running P) (out_old out_new : Output)
    → Goes P total (quiet new) out_old out_new → Does P total new out_old out_new
goes_end {P} total new out_old out_new goes = record {
  next = sym (ap (λ (t : Course P). t.next) goes.whole);
  out = goes.out ∙ (λ i. with_more (sym (ap (λ (t : Course P). t.lines) goes.whole ∙ append-nil goes.lines) i)
      (sym (ap (λ (t : Course P). t.calls) goes.whole ∙ append-nil goes.calls) i) out_old);
}

-- what is left is done
pub goes_done : {P : Type 0} → (total t : Course P) (new : Running P) (out_old out_now out_new : Output)
    → Goes P total t out_old out_now → Does P t new out_now out_new → Does P total new out_old out_new
goes_done {P} total t new out_old out_now out_new goes does = record {
  next = does.next ∙ sym (ap (λ (t : Course P). t.next) goes.whole);
  out = out_more t new goes.lines goes.calls out_old out_now out_new goes.out does
      ∙ (λ i. with_more (sym (ap (λ (t : Course P). t.lines) goes.whole) i) (sym (ap (λ (t : Course P). t.calls) goes.whole) i) out_old);
}

take_within : (n e : ℕ) (first second rest : List (ℕ × Bool)) → n ≡ length first + e → e ≤ length second
    → take n (first ++ (second ++ rest)) ≡ first ++ take e second
take_within n e [] second rest is low =
    ap (λ (k : ℕ). take k (second ++ rest)) (let same : n ≡ e = omega arith in same) ∙ take-append-le e second rest low
take_within zero e (call ∷ first) second rest is low = absurd (omega arith)
take_within (suc n) e (call ∷ first) second rest is low =
    ap (λ (l : List (ℕ × Bool)). call ∷ l) (take_within n e first second rest (omega arith) low)

-- a part halts, after these lines and computations
halts_within : {P : Type 0} → (total t : Course P) (lines late : List ℕ) (calls more : List (ℕ × Bool)) (out_old out_now out_new : Output)
    → total.lines ≡ lines ++ (t.lines ++ late) → total.calls ≡ calls ++ (t.calls ++ more) → out_now ≡ with_more lines calls out_old
    → Halts P t out_now out_new → Halts P total out_old out_new
halts_within {P} total t lines late calls more out_old out_now out_new line_is call_is out halts = record {
  front = lines ++ halts.front;
  rest = halts.rest ++ late;
  whole = line_is
      ∙ ap (λ (l : List ℕ). lines ++ (l ++ late)) halts.whole
      ∙ ap (λ (l : List ℕ). lines ++ l) (append_assoc halts.front halts.rest late)
      ∙ sym (append_assoc lines halts.front (halts.rest ++ late));
  begun = length calls + halts.begun;
  ended = length calls + halts.ended;
  most = let most = halts.most in let long = ap (λ (l : List (ℕ × Bool)). length l) call_is in
      let first = length-append calls (t.calls ++ more) in let second = length-append t.calls more in omega arith;
  last = let most = halts.last.0 in let near = halts.last.1 in (omega arith, omega arith);
  out = halts.out
      ∙ ap (λ (o : Output). let after : Output = record {
        lines = o.lines ++ halts.front;
        count = counted o.count halts.begun;
        log = logged o.log (take halts.ended t.calls);
      } in after) out
      ∙ (λ i. record {
        lines = append_assoc out_old.lines lines halts.front i;
        count = counted_more out_old.count (length calls) halts.begun i;
        log = (logged_more out_old.log calls (take halts.ended t.calls) ∙ ap (logged out_old.log) (sym taken)) i;
      });
}
  where
    taken : take (length calls + halts.ended) total.calls ≡ calls ++ take halts.ended t.calls
    taken = ap (λ (l : List (ℕ × Bool)). take (length calls + halts.ended) l) call_is
        ∙ take_within (length calls + halts.ended) halts.ended calls t.calls more refl
        (let most = halts.most in let near = halts.last.0 in omega arith)

-- the first part of what is left halts
pub goes_halt : {P : Type 0} → (total t : Course P) (rest : Running P → Course P) (out_old out_now out_new : Output)
    → Goes P total (and_then t rest) out_old out_now → Halts P t out_now out_new → Halts P total out_old out_new
unfolding and_then
goes_halt {P} total t rest out_old out_now out_new goes halts =
    halts_within total t goes.lines (rest t.next).lines goes.calls (rest t.next).calls out_old out_now out_new
    (ap (λ (w : Course P). w.lines) goes.whole) (ap (λ (w : Course P). w.calls) goes.whole) goes.out halts

-- what is left halts
pub goes_last : {P : Type 0} → (total t : Course P) (out_old out_now out_new : Output)
    → Goes P total t out_old out_now → Halts P t out_now out_new → Halts P total out_old out_new
goes_last {P} total t out_old out_now out_new goes halts =
    halts_within total t goes.lines [] goes.calls [] out_old out_now out_new
    (ap (λ (w : Course P). w.lines) goes.whole ∙ ap (λ (l : List ℕ). goes.lines ++ l) (sym (append-nil t.lines)))
    (ap (λ (w : Course P). w.calls) goes.whole ∙ ap (λ (l : List (ℕ × Bool)). goes.calls ++ l) (sym (append-nil t.calls)))
    goes.out halts

-- one course after another
pub does_both : {P : Type 0} → (t : Course P) (rest : Running P → Course P) (middle new : Running P) (out_old out_now out_new : Output)
    → Does P t middle out_old out_now → Does P (rest middle) new out_now out_new → Does P (and_then t rest) new out_old out_new
does_both t rest middle new out_old out_now out_new first second =
    goes_done (and_then t rest) (rest middle) new out_old out_now out_new
    (goes_on (and_then t rest) t rest middle out_old out_old out_now (goes_start (and_then t rest) out_old) first) second

pub halts_first : {P : Type 0} → (t : Course P) (rest : Running P → Course P) (out_old out_new : Output)
    → Halts P t out_old out_new → Halts P (and_then t rest) out_old out_new
halts_first t rest out_old out_new halts =
    goes_halt (and_then t rest) t rest out_old out_old out_new (goes_start (and_then t rest) out_old) halts

pub halts_second : {P : Type 0} → (t : Course P) (rest : Running P → Course P) (middle : Running P) (out_old out_now out_new : Output)
    → Does P t middle out_old out_now → Halts P (rest middle) out_now out_new → Halts P (and_then t rest) out_old out_new
halts_second t rest middle out_old out_now out_new first halts =
    goes_last (and_then t rest) (rest middle) out_old out_now out_new
    (goes_on (and_then t rest) t rest middle out_old out_old out_now (goes_start (and_then t rest) out_old) first) halts

-- nothing was done yet
pub halts_at_once : {P : Type 0} → (t : Course P) (out : Output) → Halts P t out out
halts_at_once t out = record {
  front = [];
  rest = t.lines;
  whole = refl;
  begun = 0;
  ended = 0;
  most = omega arith;
  last = (omega arith, omega arith);
  out = λ i. record { lines = sym (append-nil out.lines) i; count = out.count; log = logged_none out.log i };
}

-- all of it was done, and then memory ran out
pub does_halts : {P : Type 0} → (t : Course P) (new : Running P) (out_old out_new : Output) → Does P t new out_old out_new
    → Halts P t out_old out_new
does_halts t new out_old out_new does = record {
  front = t.lines;
  rest = [];
  whole = sym (append-nil t.lines);
  begun = length t.calls;
  ended = length t.calls;
  most = omega arith;
  last = (omega arith, omega arith);
  out = does.out ∙ λ i. record {
    lines = out_old.lines ++ t.lines;
    count = counted out_old.count (length t.calls);
    log = logged out_old.log (sym (take-length t.calls) i);
  };
}

-- nothing was written
pub halts_unwritten : {P : Type 0} → (t : Course P) (old new : List ℕ) → new ≡ old → Halts P t (lines_alone old) (lines_alone new)
halts_unwritten t old new same = record {
  front = [];
  rest = t.lines;
  whole = refl;
  begun = 0;
  ended = 0;
  most = omega arith;
  last = (omega arith, omega arith);
  out = λ i. record { lines = (same ∙ sym (append-nil old)) i; count = 0; log = None };
}

-- a course without computations, beside a bench
module _ {P : Type 0} (t : Course P) (none : t.calls ≡ []) (old new : List ℕ) (count : ℕ) (log : Option (List (ℕ × Bool))) where
  pub does_priced : (next : Running P) → Does P t next (lines_alone old) (lines_alone new)
      → Does P t next (record { lines = old; count = count; log = log }) (record { lines = new; count = count; log = log })
  does_priced next does = record {
    next = does.next;
    out = λ i. record {
      lines = ap (λ (o : Output). o.lines) does.out i;
      count = ap (λ (l : List (ℕ × Bool)). counted count (length l)) (sym none) i;
      log = (logged_none log ∙ ap (logged log) (sym none)) i;
    };
  }

  pub halts_priced : Halts P t (lines_alone old) (lines_alone new)
      → Halts P t (record { lines = old; count = count; log = log }) (record { lines = new; count = count; log = log })
  halts_priced halts = record {
    front = halts.front;
    rest = halts.rest;
    whole = halts.whole;
    begun = 0;
    ended = 0;
    most = omega arith;
    last = (omega arith, omega arith);
    out = λ i. record {
      lines = ap (λ (o : Output). o.lines) halts.out i;
      count = count;
      log = logged_none log i;
    };
  }

pub stays_on : (calc : Calc) (old now new : Standing) → Stays calc old now → Stays calc now new → Stays calc old new
stays_on calc old now new first second = record {
  names = second.names ∙ first.names;
  actions = second.actions ∙ first.actions;
  sound = second.sound;
}
