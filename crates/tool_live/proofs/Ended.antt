-- How lines that are answered end.
use Rattle.std.proofs.Common.{◌≡◌, ◌∙◌, ap, sym, subst, ℕ, Bool, false, List, [], ◌++◌, length, append_assoc, Option, None, Some, Result, Ok, Err, OnOk, OnErr}
use Rattle.std.specs.Prelude.{IfSome, is_err}
use Rattle.std.specs.Str.Lines.{lines}
use Rattle.std.proofs.lemmas.List.{length-append}
use Rattle.desk_edge.specs.Sink.{appended}
use Rattle.desk_edge.proofs.SinkLemmas.{appended-appended}
use Rattle.desk_terms.specs.Bench.{counted, logged}
use Rattle.session_model.specs.Course.{Meaning}
use Rattle.session_rounds.proofs.Going.{counted_more, logged_more, logged_none}
use Rattle.tool_live.specs.Answers.{IsPrompt, PutsFront}
use Rattle.desk_terms.specs.Reading.{Calc}
use Rattle.tool_live.proofs.Fronts.{put_none, put_both}
use Rattle.live_model.specs.Live.{Live, spoken, conversation}
use Rattle.tool_script.specs.declared.status.Status.{Status}
use Rattle.tool_script.specs.declared.status.Status.TheVariants.{Done, Usage, Market, Script, ReadFault, WriteFault, NoMemory, Absent}
use Rattle.tool_live.specs.Replies.{Replies, replies_of, behind}
use Rattle.tool_live.specs.Ends.{Outside, called_from, IsAnswered, IsWaiting, IsCut, Ends, IsLate}

pub ok_of : {A E P : Type 0} (r : Result A E) → is_err r ≡ false → OnOk r P → P
ok_of (Ok x) is p = p
ok_of (Err e) is p = absurd (cc)

pub ok_then : {A E P Q : Type 0} (r : Result A E) → OnOk r P → (P → Q) → OnOk r Q
ok_then (Ok x) p f = f p
ok_then (Err e) p f = tt

pub err_then : {A E P Q : Type 0} (r : Result A E) → OnErr r P → (P → Q) → OnErr r Q
err_then (Ok x) p f = tt
err_then (Err e) p f = f p

-- a fact of what is told leads to another
pub told_so : (o : Option (List ℕ)) (P Q : List ℕ → Type 0) → ((x : List ℕ) → P x → Q x) → IfSome o P → IfSome o Q
told_so None P Q f p = tt
told_so (Some x) P Q f p = f x p

pub told_both : (o : Option (List ℕ)) (P R Q : List ℕ → Type 0) → ((x : List ℕ) → P x → R x → Q x) → IfSome o P → IfSome o R → IfSome o Q
told_both None P R Q f p r = tt
told_both (Some x) P R Q f p r = f x p r

pub told_any : (o : Option (List ℕ)) (Q : List ℕ → Type 0) → ((x : List ℕ) → Q x) → IfSome o Q
told_any None Q f = tt
told_any (Some x) Q f = f x

pub err_is : {A E : Type 0} (r : Result A E) (e f : E) → r ≡ Err e → e ≡ f → r ≡ Err f
err_is r e f is same = subst (λ x. r ≡ Err x) same is

-- nothing was put
pub cut_none : (r : Replies) (content : Option (List ℕ)) (old new : Outside) → new.bytes ≡ old.bytes → IsCut r content old new
cut_none r content old new is =
    told_any content (λ input. PutsFront (r.lines (lines input)) old.bytes new.bytes)
    (λ input. subst (λ (b : Option (List ℕ)). PutsFront (r.lines (lines input)) old.bytes b) (sym is) (put_none _ old.bytes))

-- a front of what comes first was put
pub cut_first : (first : List ℕ) (calls : List (ℕ × Bool)) (r : Replies) (content : Option (List ℕ)) (old new : Outside)
    → PutsFront first old.bytes new.bytes → IsCut (behind first calls r) content old new
cut_first first calls r content old new front =
    told_any content (λ input. PutsFront (first ++ r.lines (lines input)) old.bytes new.bytes)
    (λ input. (
      front.0,
      (front.1.0 ++ r.lines (lines input), ap (λ (l : List ℕ). l ++ r.lines (lines input)) front.1.1 ∙ append_assoc front.0 front.1.0 (r.lines (lines input))),
      front.2,
    ))

module _ (first : List ℕ) (calls : List (ℕ × Bool)) (r : Replies) (content left : Option (List ℕ)) (old mid new : Outside)
    (bytes : mid.bytes ≡ appended first old.bytes) (count : mid.count ≡ counted old.count (length calls)) (log : mid.log ≡ logged old.log calls) where
  front_behind : (all : List ℕ) → PutsFront all mid.bytes new.bytes → PutsFront (first ++ all) old.bytes new.bytes
  front_behind all front = (
    first ++ front.0,
    (front.1.0, ap (λ (l : List ℕ). first ++ l) front.1.1 ∙ sym (append_assoc first front.0 front.1.0)),
    put_both first front.0 old.bytes mid.bytes new.bytes bytes front.2,
  )

  cut_behind : IsCut r content mid new → IsCut (behind first calls r) content old new
  cut_behind =
      told_so content (λ input. PutsFront (r.lines (lines input)) mid.bytes new.bytes)
      (λ input. PutsFront (first ++ r.lines (lines input)) old.bytes new.bytes) (λ input. front_behind (r.lines (lines input)))

  called_behind : (more : List (ℕ × Bool)) → called_from mid more ≡ called_from old (calls ++ more)
  called_behind more = λ i. (
    (ap (λ (n : ℕ). counted n (length more)) count ∙ counted_more old.count (length calls) (length more)
        ∙ ap (counted old.count) (sym (length-append calls more))) i,
    (ap (λ (l : Option (List (ℕ × Bool))). logged l more) log ∙ logged_more old.log calls more) i,
  )

  answered_behind : (input : List (List ℕ)) → IsAnswered r input mid new → IsAnswered (behind first calls r) input old new
  answered_behind input a = record {
    bytes = put_both first (r.lines input) old.bytes mid.bytes new.bytes bytes a.bytes;
    sent = a.sent;
    count = a.count ∙ ap (λ (c : ℕ × Option (List (ℕ × Bool))). c.0) (called_behind (r.calls input));
    log = a.log ∙ ap (λ (c : ℕ × Option (List (ℕ × Bool))). c.1) (called_behind (r.calls input));
  }

  waiting_behind : {P : Type 0} (m : Meaning P) (ready : Bool) → IsWaiting m ready r content left mid new
      → IsWaiting m ready (behind first calls r) content left old new
  waiting_behind m ready w = record {
    now = w.now;
    prompt = record {
      heard = w.prompt.heard;
      part = w.prompt.part;
      consumed = w.prompt.consumed;
      unended = w.prompt.unended;
      hears = record {
        bytes = λ rest. w.prompt.hears.bytes rest ∙ ap (appended (r.lines (lines (w.prompt.heard ++ rest)))) bytes
            ∙ appended-appended first (r.lines (lines (w.prompt.heard ++ rest))) old.bytes;
        calls = λ rest. w.prompt.hears.calls rest ∙ called_behind (r.calls (lines (w.prompt.heard ++ rest)));
      };
      sent = w.prompt.sent;
    };
  }

  -- what comes first was done, and then it ended so
  pub ends_behind : {P : Type 0} (m : Meaning P) (ready : Bool) (status : Status) → Ends m ready r content left mid new status
      → Ends m ready (behind first calls r) content left old new status
  ends_behind m ready Done e =
      told_so content (λ input. IsAnswered r (lines input) mid new) (λ input. IsAnswered (behind first calls r) (lines input) old new)
      (λ input. answered_behind (lines input)) e
  ends_behind m ready ReadFault e = (waiting_behind m ready e.0, cut_behind e.1)
  ends_behind m ready WriteFault e = cut_behind e
  ends_behind m ready NoMemory e = cut_behind e
  ends_behind m ready Usage e = absurd e
  ends_behind m ready (Market section entry why) e = absurd e
  ends_behind m ready (Script line why) e = absurd e
  ends_behind m ready (Absent role) e = absurd e

-- the commands ended early
pub ends_early : {P : Type 0} (m : Meaning P) (ready : Bool) (first : List ℕ) (calls : List (ℕ × Bool)) (r : Replies) (content : Option (List ℕ))
    (old new : Outside) (status : Status) → IsLate status → PutsFront first old.bytes new.bytes
    → Ends m ready (behind first calls r) content content old new status
ends_early m ready first calls r content old new WriteFault late front = cut_first first calls r content old new front
ends_early m ready first calls r content old new NoMemory late front = cut_first first calls r content old new front
ends_early m ready first calls r content old new Done late front = absurd late
ends_early m ready first calls r content old new Usage late front = absurd late
ends_early m ready first calls r content old new ReadFault late front = absurd late
ends_early m ready first calls r content old new (Market section entry why) late front = absurd late
ends_early m ready first calls r content old new (Script line why) late front = absurd late
ends_early m ready first calls r content old new (Absent role) late front = absurd late

-- ---- the lines of a feed

module _ {P : Type 0} (m : Meaning P) (ready : Bool) (s : Live P) (old mid new : Outside) (kept : mid.bytes ≡ old.bytes) where
  pub answered_all : (calc : Calc) (still : Bool) (now : Live P) (input : List (List ℕ))
      → new.bytes ≡ appended (conversation m ready s input) mid.bytes → new.sent ≡ new.bytes
      → called_from new (spoken (record m { calc = calc }) still now []).calls ≡ called_from old (spoken m ready s input).calls
      → IsAnswered (replies_of m ready s) input old new
  unfolding spoken
  answered_all calc still now input put sent called = record {
    bytes = put ∙ ap (appended (conversation m ready s input)) kept;
    sent = sent;
    count = ap (λ (c : ℕ × Option (List (ℕ × Bool))). c.0) called;
    log = logged_none new.log ∙ ap (λ (c : ℕ × Option (List (ℕ × Bool))). c.1) called;
  }

  pub cut_all : (content : Option (List ℕ)) → IfSome content (λ input. PutsFront (conversation m ready s (lines input)) mid.bytes new.bytes)
      → IsCut (replies_of m ready s) content old new
  cut_all content front =
      subst (λ (o : Option (List ℕ)). IfSome content (λ input. PutsFront (conversation m ready s (lines input)) o new.bytes)) kept front

  -- it waits, and is prompt: what it computes and whether it tells each line are as they were
  abbrev PromptBy : Option (List ℕ) → Option (List ℕ) → Live P → Calc → Bool → Option (List ℕ) → Type 0
  PromptBy content left now calc still before =
      IsPrompt content left (conversation m ready s) (conversation (record m { calc = calc }) still now)
      (λ input. called_from old (spoken m ready s input).calls) (λ input. called_from new (spoken (record m { calc = calc }) still now input).calls)
      before new.bytes new.sent

  pub waiting_all : (content left : Option (List ℕ)) (now : Live P) (calc : Calc) (still : Bool) → calc ≡ m.calc → still ≡ ready
      → PromptBy content left now calc still mid.bytes → IsWaiting m ready (replies_of m ready s) content left old new
  waiting_all content left now calc still same is prompt = record {
    now = now;
    prompt = subst (λ (k : Calc). PromptBy content left now k ready old.bytes) same
        (subst (λ (b : Bool). PromptBy content left now calc b old.bytes) is
        (subst (λ (o : Option (List ℕ)). PromptBy content left now calc still o) kept prompt));
  }
