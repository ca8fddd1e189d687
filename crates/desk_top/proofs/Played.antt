-- What a round that was done, or in which memory ran out, leaves outside when its lines are written.
use Rattle.std.proofs.Common.{◌≡◌, ◌∙◌, ◌≤◌, ℕ, Bool, List, [], length, take, Option, sym, ap, subst, arith, length-append}
use Rattle.std.proofs.lemmas.List.{take-append-le}
use Rattle.desk_edge.specs.Sink.{appended}
use Rattle.session_model.specs.Course.{Running, Course}
use Rattle.session_rounds.specs.Goes.{Output, Does, Halts}
use Rattle.desk_top.specs.Early.{outside}
use Rattle.desk_top.specs.Round.{IsPlayed, IsStopped}

-- what a session has put out that begins with no lines
abbrev pub begun_with : ℕ → Option (List (ℕ × Bool)) → Output
begun_with count log = record { lines = []; count = count; log = log }

module _ {P : Type 0} (t : Course P) (old new : Option (List ℕ)) (count : ℕ) (log : Option (List (ℕ × Bool))) (out : Output) where
  pub played : (next : Running P) → Does P t next (begun_with count log) out → new ≡ appended out.lines old
      → IsPlayed t (outside old count log) (outside new out.count out.log)
  played next does wrote = record {
    bytes = wrote ∙ ap (λ (o : Output). appended o.lines old) does.out;
    count = ap (λ (o : Output). o.count) does.out;
    log = ap (λ (o : Output). o.log) does.out;
  }

  pub stopped : Halts P t (begun_with count log) out
      → (n : ℕ) × (n ≤ length out.lines) × (new ≡ appended (take n out.lines) old)
      → IsStopped t (outside old count log) (outside new out.count out.log)
  stopped halts front =
      let short : front.0 ≤ length halts.front = subst (λ (o : Output). front.0 ≤ length o.lines) halts.out front.1 in
      record {
        part = front.0;
        within = omega (arith, short, ap (λ (l : List ℕ). length l) halts.whole, length-append halts.front halts.rest);
        begun = halts.begun;
        ended = halts.ended;
        most = halts.most;
        last = halts.last;
        bytes = front.2 ∙ ap (λ (o : Output). appended (take front.0 o.lines) old) halts.out
            ∙ ap (λ (l : List ℕ). appended l old)
            (sym (ap (λ (l : List ℕ). take front.0 l) halts.whole ∙ take-append-le front.0 halts.front halts.rest short));
        count = ap (λ (o : Output). o.count) halts.out;
        log = ap (λ (o : Output). o.log) halts.out;
      }
