-- Asks that are answered at once, and what makes a walk an ask: its mark.
use Rattle.std.proofs.Common.{◌≡◌, ◌⊎◌, inl, inr, ℕ, suc, Bool, true, false, List, [], length, Option, Some, None, refl, sym, ◌∙◌, ap, subst}
use Rattle.std.specs.Prelude.{◌||◌, is_some, IfSome, if◌then◌else◌}
use Rattle.std.proofs.lemmas.List.{append-nil}
use Rattle.std.proofs.lemmas.Bool.{or_left, or_right, or_parts, false≢true}
use Rattle.desk_terms.specs.declared.value.Value.{Value}
use Rattle.desk_terms.specs.declared.asked.Asked.{Asked}
use Rattle.desk_terms.specs.declared.cause.Cause.{Cause}
use Rattle.desk_terms.specs.declared.asked.Mark.{Mark}
use Rattle.desk_terms.specs.declared.asked.Mark.TheVariants.{Fresh, Frozen, Late, Held, Recalc}
use Rattle.desk_terms.specs.Asked.{Shows}
use Rattle.desk_terms.specs.Reading.{Outcome, Calc}
use Rattle.desk_terms.specs.Bench.{counted, logged}
use Rattle.desk_model.specs.declared.kept.Kept.{Kept}
use Rattle.desk_model.specs.State.{State, kept_at, last_of, last_answer, held_outcome, seen_outcome, is_frozen, is_late, is_clear, mark_of}
use Rattle.desk_model.specs.Links.{IsLinked, IsWhole}
use Rattle.desk_model.specs.Visit.{Visit, log_of, is_idle, stored, runs, asked}
use Rattle.desk_model.proofs.Shown.{free_held, seen_held, shows_last}
use Rattle.desk_model.proofs.Steps.{idle_visit}
use Rattle.desk_model.proofs.Clear.{shows_seen}
use Rattle.object_store.specs.declared.market.Market as parts
use Rattle.object_store.specs.Market.{market_in, state_in, state_after}
use Rattle.object_store.specs.Shape.{IsJoined}
use Rattle.object_store.specs.Late.{IsLateOf, IsMarkOf}
use Rattle.object_store.proofs.Lateness.{late_there, clear_is}
use Rattle.observer_graph.specs.Notice.{IsLeast}
use Rattle.object_store.specs.Slots.{Registry, state_of}
use Rattle.object_store.specs.Store.{StoreView, registry_of}
use Rattle.ask_walk.specs.Asks.{Asks, Walks, MayAsk, lacking, held_answer, AnswersIdly}
use Rattle.ask_walk.proofs.Loop.{each_id, fit_of, current_last}

-- the marks
module _ (s : State) (o : ℕ) where
  pub frozen_mark : (kept_at s o).frozen ≡ true → mark_of s o ≡ Frozen
  unfolding mark_of is_frozen
  frozen_mark frozen = ap (λ (b : Bool). if b then Frozen else if is_late s o then Late else if is_clear s o then Fresh else Held) frozen

  pub late_mark : (kept_at s o).frozen ≡ false → is_late s o ≡ true → mark_of s o ≡ Late
  unfolding mark_of is_frozen
  late_mark thawed late =
      ap (λ (b : Bool). if b then Frozen else if is_late s o then Late else if is_clear s o then Fresh else Held) thawed
      ∙ ap (λ (b : Bool). if b then Late else if is_clear s o then Fresh else Held) late

  free_mark : (kept_at s o).frozen ≡ false → is_late s o ≡ false → mark_of s o ≡ (if is_clear s o then Fresh else Held)
  unfolding mark_of is_frozen
  free_mark thawed early =
      ap (λ (b : Bool). if b then Frozen else if is_late s o then Late else if is_clear s o then Fresh else Held) thawed
      ∙ ap (λ (b : Bool). if b then Late else if is_clear s o then Fresh else Held) early

  pub not_held : (kept_at s o).frozen ≡ false → is_late s o ≡ false → held_outcome s o ≡ None
  unfolding is_frozen
  not_held thawed early = free_held s o thawed early

  held_last : (is_frozen s o || is_late s o) ≡ true → held_outcome s o ≡ Some (last_answer s o)
  unfolding held_outcome
  held_last is = ap (λ (b : Bool). if b then Some (last_answer s o) else None) is

-- what the store tells of a mark is what the state says
pub mark_is : (market : parts.Market) (store : StoreView) (o : ℕ) (mark : Mark) → IsWhole (state_in market store)
    → IsJoined (market_in market) store.shape → IsMarkOf store o mark → mark ≡ mark_of (state_in market store) o
mark_is market store o mark whole joined is = by mark is
  where
    s : State
    s = state_in market store

    early : IsLeast (IsLateOf store o) None → is_late s o ≡ false
    early none = late_there s whole store refl joined o None none

    by : (mark : Mark) → IsMarkOf store o mark → mark ≡ mark_of s o
    by Frozen is = sym (frozen_mark s o is)
    by Late is = sym (late_mark s o is.0 (late_there s whole store refl joined o (Some is.1.0) is.1.1))
    by Held is = ap (λ (b : Bool). if b then Fresh else Held) (clear_is s whole store refl joined o false
        (λ e. absurd (false≢true e), λ clear. absurd (is.1.1 clear))) ∙ sym (free_mark s o is.0 (early is.1.0))
    by Fresh is = ap (λ (b : Bool). if b then Fresh else Held) (clear_is s whole store refl joined o true
        (λ e. is.1.1, λ clear. refl)) ∙ sym (free_mark s o is.0 (early is.1.0))
    by Recalc is = absurd is

module _ (calc : Calc) (s : State) (o : ℕ) (count0 : ℕ) (log0 : Option (List (ℕ × Bool))) where
  log_none : (log : Option (List (ℕ × Bool))) → log ≡ logged log []
  log_none None = refl
  log_none (Some entries) = ap Some (sym (append-nil entries))

  -- an idle object ends it at once
  idle_asks : MayAsk calc s o → is_idle s [] o ≡ true → (answer : Asked) → Shows answer.cause (kept_at s o).last (seen_outcome calc s o) → answer.mark ≡ mark_of s o → answer.runs ≡ 0
      → Asks calc o s s answer count0 count0 log0 log0
  unfolding runs asked stored
  idle_asks may idle answer shown mark number =
      let run : runs calc s o ≡ [] = ap (λ (v : Visit). v.calls) (idle_visit calc s (suc (length s.market.objects)) [] o idle) in
      record {
        state = ap (λ (k : List Kept). record s { kept = k }) (sym (each_id 0 s.kept)) ∙ ap (stored s) (sym run);
        shown = subst (λ (r : Outcome). Shows answer.cause (kept_at s o).last r) (sym (shows_seen s may.whole.links calc o)) shown;
        mark = mark;
        number = number ∙ ap length (sym run);
        count = ap (λ (c : List (ℕ × Outcome)). counted count0 (length c)) (sym run);
        log = log_none log0 ∙ ap (λ (c : List (ℕ × Outcome)). logged log0 (log_of c)) (sym run);
      }

  lacks : (last : Option Value) → Shows (lacking o last) last (last_of o last)
  lacks None = refl
  lacks (Some value) = refl

  -- a frozen or late object answers its last value
  held_asks : MayAsk calc s o → (is_frozen s o || is_late s o) ≡ true → (mark : Mark) → mark_of s o ≡ mark → (answer : Asked)
      → answer ≡ record { cause = lacking o (kept_at s o).last; mark = mark; runs = 0 } → Asks calc o s s answer count0 count0 log0 log0
  held_asks may is mark marks answer said =
      let last = held_last s o is in
      idle_asks may (or_left (is_some (held_outcome s o)) _ (ap is_some last)) answer
      (subst (λ (a : Asked). Shows a.cause (kept_at s o).last (seen_outcome calc s o)) (sym said)
      (subst (Shows (lacking o (kept_at s o).last) (kept_at s o).last) (sym (seen_held calc s may.whole.links o (last_answer s o) last)) (lacks (kept_at s o).last)))
      (ap (λ (a : Asked). a.mark) said ∙ sym marks) (ap (λ (a : Asked). a.runs) said)

  -- so does a current one that is neither
  pub current_asks : MayAsk calc s o → held_outcome s o ≡ None → (kept_at s o).current ≡ true → (mark : Mark) → mark ≡ mark_of s o → (answer : Asked)
      → answer ≡ record { cause = None; mark = mark; runs = 0 } → Asks calc o s s answer count0 count0 log0 log0
  current_asks may free current mark marks answer said =
      let last = current_last calc s o may free current in
      idle_asks may (or_right (is_some (held_outcome s o)) _ (or_left (kept_at s o).current false current)) answer
      (subst (λ (a : Asked). Shows a.cause (kept_at s o).last (seen_outcome calc s o)) (sym said)
      (subst (λ (l : Option Value). Shows None l (seen_outcome calc s o)) (sym last.1)
      (shows_last calc s may.whole.links (fit_of calc s o may) may.sound.current o current free ∙ ap (last_of o) last.1)))
      (ap (λ (a : Asked). a.mark) said ∙ marks) (ap (λ (a : Asked). a.runs) said)

-- what is answered without a computation
module _ (s : State) (o : ℕ) where
  abbrev answered_by : Bool → Bool → Bool → Option Asked
  answered_by frozen late current =
      if frozen || late
      then Some (record { cause = lacking o (kept_at s o).last; mark = mark_of s o; runs = 0 })
      else if current
      then Some (record { cause = None; mark = mark_of s o; runs = 0 })
      else None

  held_as : (frozen late current : Bool) → (kept_at s o).frozen ≡ frozen → is_late s o ≡ late → (kept_at s o).current ≡ current
      → held_answer s o ≡ answered_by frozen late current
  unfolding held_answer is_frozen
  held_as frozen late current f l c = λ i. answered_by (f i) (l i) (c i)

  -- the same by the mark
  abbrev pub answer_as : Mark → Option Asked
  answer_as Frozen = Some (record { cause = lacking o (kept_at s o).last; mark = Frozen; runs = 0 })
  answer_as Late = Some (record { cause = lacking o (kept_at s o).last; mark = Late; runs = 0 })
  answer_as Held = if (kept_at s o).current then Some (record { cause = None; mark = Held; runs = 0 }) else None
  answer_as Fresh = if (kept_at s o).current then Some (record { cause = None; mark = Fresh; runs = 0 }) else None
  answer_as Recalc = None

  pub held_by_mark : (mark : Mark) → mark ≡ mark_of s o → held_answer s o ≡ answer_as mark
  unfolding held_answer mark_of
  held_by_mark mark is = by (is_frozen s o) (is_late s o) (is_clear s o) ∙ ap answer_as (sym is)
    where
      marked : Bool → Bool → Bool → Mark
      marked frozen late clear = if frozen then Frozen else if late then Late else if clear then Fresh else Held

      by : (frozen late clear : Bool) → (if frozen || late
          then Some (record { cause = lacking o (kept_at s o).last; mark = marked frozen late clear; runs = 0 })
          else if (kept_at s o).current then Some (record { cause = None; mark = marked frozen late clear; runs = 0 }) else None)
          ≡ answer_as (marked frozen late clear)
      by true late clear = refl
      by false true clear = refl
      by false false true = refl
      by false false false = refl

  abbrev said_with : Option Cause → Mark → Asked
  said_with cause mark = record { cause = cause; mark = mark; runs = 0 }

  pub answers_held : (mark : Mark) → mark ≡ mark_of s o → (mark ≡ Frozen) ⊎ (mark ≡ Late) → (answer : Asked)
      → answer ≡ record { cause = lacking o (kept_at s o).last; mark = mark; runs = 0 } → held_answer s o ≡ Some answer
  answers_held mark is (inl e) answer said = held_by_mark mark is ∙ ap answer_as e
      ∙ sym (ap Some (said ∙ ap (said_with (lacking o (kept_at s o).last)) e))
  answers_held mark is (inr e) answer said = held_by_mark mark is ∙ ap answer_as e
      ∙ sym (ap Some (said ∙ ap (said_with (lacking o (kept_at s o).last)) e))

  by_current : (mark : Mark) → mark ≡ mark_of s o → (mark ≡ Fresh) ⊎ (mark ≡ Held) → (current : Bool) → (kept_at s o).current ≡ current
      → held_answer s o ≡ (if current then Some (said_with None mark) else None)
  by_current mark is free current c = held_by_mark mark is ∙ elim free [
    | inl e ↦ ap answer_as e ∙ ap (λ (b : Bool). if b then Some (said_with None Fresh) else None) c
        ∙ ap (λ (m : Mark). if current then Some (said_with None m) else None) (sym e)
    | inr e ↦ ap answer_as e ∙ ap (λ (b : Bool). if b then Some (said_with None Held) else None) c
        ∙ ap (λ (m : Mark). if current then Some (said_with None m) else None) (sym e)
  ]

  pub answers_current : (mark : Mark) → mark ≡ mark_of s o → (mark ≡ Fresh) ⊎ (mark ≡ Held) → (kept_at s o).current ≡ true
      → (answer : Asked) → answer ≡ record { cause = None; mark = mark; runs = 0 } → held_answer s o ≡ Some answer
  answers_current mark is free current answer said = by_current mark is free true current ∙ sym (ap Some said)

  pub answers_none : (mark : Mark) → mark ≡ mark_of s o → (mark ≡ Fresh) ⊎ (mark ≡ Held) → (kept_at s o).current ≡ false
      → held_answer s o ≡ None
  answers_none mark is free stale = by_current mark is free false stale

  -- nothing is answered exactly of an object that is neither frozen nor late nor current
  pub answers_where : is_some (held_answer s o) ≡ (is_frozen s o || (is_late s o || (kept_at s o).current))
  unfolding held_answer
  answers_where = by (is_frozen s o) (is_late s o) (kept_at s o).current
    where
      by : (frozen late current : Bool) → is_some (answered_by frozen late current) ≡ (frozen || (late || current))
      by true late current = refl
      by false true current = refl
      by false false true = refl
      by false false false = refl

-- it is what an ask answers
module _ (calc : Calc) (s : State) (o : ℕ) (may : MayAsk calc s o) (answer : Asked) (count : ℕ) (log : Option (List (ℕ × Bool))) where
  some_same : {a b : Asked} → Some a ≡ Some b → b ≡ a
  some_same e = cc

  none_some : {a : Asked} → None ≡ Some a → ⊥
  none_some e = cc

  pub held_is_asked : held_answer s o ≡ Some answer → Asks calc o s s answer count count log log
  unfolding is_frozen
  held_is_asked is = by (is_frozen s o) (is_late s o) (kept_at s o).current refl refl refl
    where
      by : (frozen late current : Bool) → is_frozen s o ≡ frozen → is_late s o ≡ late → (kept_at s o).current ≡ current
          → Asks calc o s s answer count count log log
      by true late current f l c = held_asks calc s o count log may (or_left (is_frozen s o) (is_late s o) f) (mark_of s o) refl answer
          (some_same (sym (held_as s o true late current f l c) ∙ is))
      by false true current f l c = held_asks calc s o count log may (or_right (is_frozen s o) (is_late s o) l) (mark_of s o) refl answer
          (some_same (sym (held_as s o false true current f l c) ∙ is))
      by false false true f l c = current_asks calc s o count log may (not_held s o f l) c (mark_of s o) refl answer
          (some_same (sym (held_as s o false false true f l c) ∙ is))
      by false false false f l c = absurd (none_some (sym (held_as s o false false false f l c) ∙ is))

pub answers_idly : (calc : Calc) (s : State) (o : ℕ) → MayAsk calc s o → (result : Option Asked) → result ≡ held_answer s o
    → IfSome result (AnswersIdly calc o s)
answers_idly calc s o may None is = tt
answers_idly calc s o may (Some answer) is = λ count log. held_is_asked calc s o may answer count log (sym is)

-- where it is not answered, the object is to be computed
module _ (s : State) (o : ℕ) (none : held_answer s o ≡ None) where
  rest : (is_frozen s o || (is_late s o || (kept_at s o).current)) ≡ false
  rest = sym (answers_where s o) ∙ ap is_some none

  pub asked_thawed : (kept_at s o).frozen ≡ false
  unfolding is_frozen
  asked_thawed = (or_parts (is_frozen s o) _ rest).0

  pub asked_early : is_late s o ≡ false
  asked_early = (or_parts (is_late s o) _ (or_parts (is_frozen s o) _ rest).1).0

  pub asked_stale : (kept_at s o).current ≡ false
  asked_stale = (or_parts (is_late s o) _ (or_parts (is_frozen s o) _ rest).1).1

-- a walk with the mark of the object is an ask of it
pub walks_ask : (calc : Calc) (s : State) (o : ℕ) (new : State) (mark : Mark) (count0 : ℕ) (log0 : Option (List (ℕ × Bool))) (count : ℕ) (log : Option (List (ℕ × Bool))) → IsLinked s.market → mark ≡ mark_of s o
    → (answer : Asked) → Walks calc o s new mark answer count0 count log0 log → Asks calc o s new answer count0 count log0 log
walks_ask calc s o new mark count0 log0 count log links marks answer w = record {
  state = w.state;
  shown = subst (λ (r : Outcome). Shows answer.cause (kept_at new o).last r) (sym (shows_seen s links calc o)) w.shown;
  mark = w.mark ∙ marks;
  number = w.number;
  count = w.count;
  log = w.log;
}

-- what an ask changes of a state is what is kept
pub state_left : (market : parts.Market) (old new : StoreView) → registry_of new ≡ registry_of old → state_after market old new ≡ state_in market new
state_left market old new same = ap (λ (r : Registry). state_of market.today market.objects new.kept r) (sym same)

-- what is answered without a computation counts none
pub held_idle : (s : State) (o : ℕ) (answer : Asked) → held_answer s o ≡ Some answer → answer.runs ≡ 0
unfolding held_answer
held_idle s o answer is = by (is_frozen s o || is_late s o) (kept_at s o).current is
  where
    said : Option Cause → Asked
    said cause = record { cause = cause; mark = mark_of s o; runs = 0 }

    by : (held current : Bool)
        → (if held then Some (said (lacking o (kept_at s o).last)) else if current then Some (said None) else None) ≡ Some answer
        → answer.runs ≡ 0
    by true current e = let same : said (lacking o (kept_at s o).last) ≡ answer = cc in ap (λ (a : Asked). a.runs) (sym same)
    by false true e = let same : said None ≡ answer = cc in ap (λ (a : Asked). a.runs) (sym same)
    by false false e = absurd (cc)
