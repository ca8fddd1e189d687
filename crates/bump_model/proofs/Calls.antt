-- Calls of the bench that follow one another.
use Rattle.std.proofs.Common.{◌≡◌, ◌≢◌, inl, inr, ℕ, zero, suc, ◌+◌, ◌-◌, ◌^◌, min, Bool, List, [], ◌∷◌, ◌++◌, length, Option, Some, None, Result, Ok, Err, refl, sym, ◌∙◌, ap, subst, append_assoc, arith}
use Rattle.std.specs.Prelude.{is_ok}
use Rattle.std.proofs.lemmas.List.{append-nil, length-append}
use Rattle.desk_terms.specs.Bench.{counted, logged}
use Rattle.desk_terms.specs.Reading.{Outcome}
use Rattle.desk_model.specs.Visit.{log_of}
use Rattle.desk_model.specs.State.{State}
use Rattle.bump_model.specs.Asking.{Asking, none, then_ask, Made, MadeFront, Calls}

abbrev pub Log : Type 0
Log = Option (List (ℕ × Bool))

-- asks that were answered: the state is theirs, and these calls were made
abbrev pub Did : Asking → State → ℕ → ℕ → Log → Log → Type 0
Did asking t count now log log_now = (t ≡ asking.next) × Made asking.calls count now log log_now

pub counted_more : (count0 n m : ℕ) → counted (counted count0 n) m ≡ counted count0 (n + m)
counted_more count0 n zero = let e : n + 0 ≡ n = omega arith in ap (counted count0) (sym e)
counted_more count0 n (suc m) =
    let e : n + suc m ≡ suc (n + m) = omega arith in
    ap (λ (k : ℕ). min (k + 1) (2 ^ 64 - 1)) (counted_more count0 n m) ∙ sym (ap (counted count0) e)

pub log_more : (xs ys : List (ℕ × Outcome)) → log_of (xs ++ ys) ≡ log_of xs ++ log_of ys
log_more [] ys = refl
log_more (x ∷ xs) ys = ap (λ (l : List (ℕ × Bool)). (x.0, is_ok x.1) ∷ l) (log_more xs ys)

logged_more : (log : Log) (xs ys : List (ℕ × Bool)) → logged (logged log xs) ys ≡ logged log (xs ++ ys)
logged_more None xs ys = refl
logged_more (Some log) xs ys = ap Some (append_assoc log xs ys)

log_then : (log : Log) (xs ys : List (ℕ × Outcome)) → logged (logged log (log_of xs)) (log_of ys) ≡ logged log (log_of (xs ++ ys))
log_then log xs ys = logged_more log (log_of xs) (log_of ys) ∙ ap (logged log) (sym (log_more xs ys))

count_then : (count : ℕ) (xs ys : List (ℕ × Outcome)) → counted (counted count (length xs)) (length ys) ≡ counted count (length (xs ++ ys))
count_then count xs ys = counted_more count (length xs) (length ys) ∙ ap (counted count) (sym (length-append xs ys))

-- none
logged_nothing : (log : Log) → log ≡ logged log []
logged_nothing None = refl
logged_nothing (Some log) = ap Some (sym (append-nil log))

pub made_none : (count : ℕ) (log : Log) → Made [] count count log log
made_none count log = record { count = refl; log = logged_nothing log }

-- some, and others behind them
pub made_more : (xs ys : List (ℕ × Outcome)) (count now then : ℕ) (log log_now log_then : Log) → Made xs count now log log_now
    → Made ys now then log_now log_then → Made (xs ++ ys) count then log log_then
made_more xs ys count now then log log_now log_end first second = record {
  count = second.count ∙ ap (λ (n : ℕ). counted n (length ys)) first.count ∙ count_then count xs ys;
  log = second.log ∙ ap (λ (l : Log). logged l (log_of ys)) first.log ∙ log_then log xs ys;
}

nothing_behind : (xs ys : List (ℕ × Outcome)) → xs ≢ [] → xs ++ ys ≢ []
nothing_behind [] ys some e = some refl
nothing_behind (x ∷ xs) ys some e = absurd (cc)

-- a front of some is one of more
pub front_first : (xs ys : List (ℕ × Outcome)) (count now : ℕ) (log log_now : Log) → MadeFront xs count now log log_now
    → MadeFront (xs ++ ys) count now log log_now
front_first xs ys count now log log_now first = record {
  front = first.front;
  rest = first.rest ++ ys;
  whole = ap (λ (l : List (ℕ × Outcome)). l ++ ys) first.whole ∙ append_assoc first.front first.rest ys;
  count = elim first.count [
    | inl ended ↦ inl ended
    | inr begun ↦ inr (nothing_behind first.rest ys begun.0, begun.1)
  ];
  log = first.log;
}

-- some, and a front of others behind them
pub front_more : (xs ys : List (ℕ × Outcome)) (count now then : ℕ) (log log_now log_then : Log) → Made xs count now log log_now
    → MadeFront ys now then log_now log_then → MadeFront (xs ++ ys) count then log log_then
front_more xs ys count now then log log_now log_end first second = record {
  front = xs ++ second.front;
  rest = second.rest;
  whole = ap (λ (l : List (ℕ × Outcome)). xs ++ l) second.whole ∙ sym (append_assoc xs second.front second.rest);
  count = elim second.count [
    | inl ended ↦ inl (ended ∙ ap (λ (n : ℕ). counted n (length second.front)) first.count ∙ count_then count xs second.front)
    | inr begun ↦ inr (
      begun.0,
      begun.1 ∙ ap (λ (n : ℕ). counted n (length second.front + 1)) first.count
          ∙ counted_more count (length xs) (length second.front + 1)
          ∙ ap (counted count) (let e = length-append xs second.front in omega arith),
    )
  ];
  log = second.log ∙ ap (λ (l : Log). logged l (log_of second.front)) first.log ∙ log_then log xs second.front;
}

-- all of some, none of the others
pub front_whole : (xs ys : List (ℕ × Outcome)) (count now : ℕ) (log log_now : Log) → Made xs count now log log_now
    → MadeFront (xs ++ ys) count now log log_now
front_whole xs ys count now log log_now made =
    record { front = xs; rest = ys; whole = refl; count = inl made.count; log = made.log }

-- no call is a front of any
pub front_none : (calls : List (ℕ × Outcome)) (count : ℕ) (log : Log) → MadeFront calls count count log log
front_none calls count log = front_whole [] calls count count log log (made_none count log)

-- all calls are a front of themselves
pub front_all : (calls : List (ℕ × Outcome)) (count now : ℕ) (log log_now : Log) → Made calls count now log log_now
    → MadeFront calls count now log log_now
front_all calls count now log log_now made =
    record { front = calls; rest = []; whole = sym (append-nil calls); count = inl made.count; log = made.log }

-- all were made, whatever comes behind them
pub calls_any : {A E : Type 0} (calls : List (ℕ × Outcome)) (result : Result A E) (count now : ℕ) (log log_now : Log)
    → Made calls count now log log_now → Calls calls result count now log log_now
calls_any calls (Ok x) count now log log_now made = made
calls_any calls (Err e) count now log log_now made = front_all calls count now log log_now made

-- memory ran out
pub calls_front : {A E : Type 0} (calls : List (ℕ × Outcome)) (result : Result A E) (count now : ℕ) (log log_now : Log)
    (e : E) → result ≡ Err e → MadeFront calls count now log log_now → Calls calls result count now log log_now
calls_front {A} {E} calls result count now log log_now e is front =
    subst (λ (r : Result A E). Calls calls r count now log log_now) (sym is) front

-- there are none
pub calls_none : {A E : Type 0} (calls : List (ℕ × Outcome)) (result : Result A E) (count : ℕ) (log : Log) → calls ≡ []
    → Calls calls result count count log log
calls_none {A} {E} calls result count log none =
    subst (λ (l : List (ℕ × Outcome)). Calls l result count count log log) (sym none)
    (calls_any [] result count count log log (made_none count log))

-- HOW FAR asks have come: these were made, and the rest is left
pub record Progress (whole rest : Asking) (number count now : ℕ) (log log_now : Option (List (ℕ × Bool))) : Type 0 where
  pub done : List (ℕ × Outcome)
  pub calls : whole.calls ≡ done ++ rest.calls
  pub next : whole.next ≡ rest.next
  pub made : Made done count now log log_now
  pub runs : number ≡ length done

pub progress_none : (whole : Asking) (count : ℕ) (log : Log) → Progress whole whole 0 count count log log
progress_none whole count log =
    record { done = []; calls = refl; next = refl; made = made_none count log; runs = refl }

module _ (whole rest a : Asking) (others : State → Asking) (steps : rest ≡ then_ask a others)
    (runs count now then : ℕ) (log log_now log_end : Log) (so_far : Progress whole rest runs count now log log_now) where
  whole_calls : whole.calls ≡ so_far.done ++ (a.calls ++ (others a.next).calls)
  whole_calls = so_far.calls ∙ ap (λ (r : Asking). so_far.done ++ r.calls) steps

  -- the next ones were made
  pub progress_more : (new : State) → new ≡ a.next → Made a.calls now then log_now log_end → (more : ℕ) → more ≡ length a.calls
      → Progress whole (others new) (runs + more) count then log log_end
  progress_more new is made more number = record {
    done = so_far.done ++ a.calls;
    calls = whole_calls ∙ sym (append_assoc so_far.done a.calls (others a.next).calls)
        ∙ ap (λ (t : State). (so_far.done ++ a.calls) ++ (others t).calls) (sym is);
    next = so_far.next ∙ ap (λ (r : Asking). r.next) steps ∙ ap (λ (t : State). (others t).next) (sym is);
    made = made_more so_far.done a.calls count now then log log_now log_end so_far.made made;
    runs = let e = length-append so_far.done a.calls in let d = so_far.runs in omega (arith, number);
  }

  -- a front of the next ones was made
  pub progress_front : MadeFront a.calls now then log_now log_end → MadeFront whole.calls count then log log_end
  progress_front made =
      subst (λ (l : List (ℕ × Outcome)). MadeFront l count then log log_end) (sym whole_calls)
      (front_more so_far.done (a.calls ++ (others a.next).calls) count now then log log_now log_end so_far.made
      (front_first a.calls (others a.next).calls now then log_now log_end made))

-- no more was made
pub progress_stops : (whole rest : Asking) (runs count now : ℕ) (log log_now : Log) → Progress whole rest runs count now log log_now
    → MadeFront whole.calls count now log log_now
progress_stops whole rest runs count now log log_now so_far =
    subst (λ (l : List (ℕ × Outcome)). MadeFront l count now log log_now) (sym so_far.calls)
    (front_whole so_far.done rest.calls count now log log_now so_far.made)

-- nothing is left
module _ (whole rest : Asking) (s : State) (ended : rest ≡ none s) (runs count now : ℕ) (log log_now : Log)
    (so_far : Progress whole rest runs count now log log_now) where
  all_calls : whole.calls ≡ so_far.done
  all_calls = so_far.calls ∙ ap (λ (r : Asking). so_far.done ++ r.calls) ended ∙ append-nil so_far.done

  pub last_next : whole.next ≡ s
  last_next = so_far.next ∙ ap (λ (r : Asking). r.next) ended

  pub last_made : Made whole.calls count now log log_now
  last_made = subst (λ (l : List (ℕ × Outcome)). Made l count now log log_now) (sym all_calls) so_far.made

  pub last_runs : runs ≡ length whole.calls
  last_runs = so_far.runs ∙ ap (λ (l : List (ℕ × Outcome)). length l) (sym all_calls)
