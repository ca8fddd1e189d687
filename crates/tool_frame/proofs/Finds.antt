-- What was found for words, from what a reading of files says.
use Rattle.std.proofs.Common.{◌≡◌, inl, inr, ℕ, List, Option, Some, None, Result, Ok, Err, refl, sym, ◌∙◌, ap, subst}
use Rattle.std.specs.Prelude.{IfSome, IsSome}
use Rattle.desk_edge.specs.Shelf.{file_at}
use Rattle.market_tables.specs.Given.{◌>>=◌}
use Rattle.market_loader.specs.Ends.{with_fault}
use Rattle.market_loader.specs.Files.{Files}
use Rattle.market_loader.specs.Reads.{Seen, Reads, faults_at}
use Rattle.market_loader.proofs.Steps.{told_map, told_any}
use Rattle.market_loader.proofs.There.{err_is}
use Rattle.tool_frame.specs.Endings.{Endings, AreEndings}
use Rattle.tool_frame.specs.Run.{Tells, asked}
use Rattle.tool_frame.specs.Stage.{Stage, Done, Refused, Missing, Failed, Cut, Halted, IsOutside, IsBefore, faults_then, stage_end}
use Rattle.tool_frame.specs.Tool.{Asking, Finds, ShelfTurn, asks_then, verdict_of}
use Rattle.tool_frame.proofs.Asking.{told_request, told_usage, told_calls, told_uncalled}
use Rattle.tool_frame.proofs.Opening.{told_of}

-- a call that failed is counted so by its reading
counted_as : (n : Stage) (faults : ℕ) → faults_at (stage_end n) faults ≡ faults_then n faults
counted_as Done faults = refl
counted_as Refused faults = refl
counted_as Missing faults = refl
counted_as Failed faults = refl
counted_as Cut faults = refl
counted_as Halted faults = refl

module _ {Found Request Wanted Status : Type 0} (ends : Endings Status) (asking : Asking Request Wanted Status) (view : Found → Wanted) (words : List (List ℕ)) where
  -- the words are none that are taken
  pub finds_none : (old : Seen) → AreEndings ends → asking.request_of words ≡ None
      → Finds ends asking view words (Err ends.usage) (record { old = old; new = old })
  finds_none old sound none = record {
    tells = told_usage ends.stage_of view ends.usage asking.wanted_of old.files (asking.request_of words) none;
    usage = (λ is. none, λ is. refl);
    there = told_any old.files (λ files is. absurd (let no : Refused ≡ Halted = sym sound.usage ∙ ap ends.stage_of is ∙ sound.halted in cc));
    before = rw sound.usage tt;
    files = refl;
    calls = told_uncalled asking.calls_of old.files (asking.request_of words) old.calls;
    read = λ is. absurd (let no : Refused ≡ Failed = sym sound.usage ∙ is in cc);
    absent = λ is. absurd (let no : Refused ≡ Missing = sym sound.usage ∙ is in cc);
    counted = rw sound.usage refl;
  }

  -- they are this request, which asks for what a reading gives
  module _ {X Y : Type 0} (old new : Seen) (request : Request) (is : asking.request_of words ≡ Some request) (shown : X → Y) (meaning : Files → Result Y Status)
      (keep : Y → Wanted) (kept : (files : Files) → asking.wanted_of request files ≡ (meaning files >>= (λ y. Ok (keep y)))) where
    keep_in : Result Y Status → Result Wanted Status
    keep_in read = read >>= (λ y. Ok (keep y))

    pub finds_found : (x : X) (found : Found) → view found ≡ keep (shown x)
        → ((files : Files) (y : Y) → meaning files ≡ Ok y → IsSome (file_at files (asking.path_of request)))
        → Reads (λ s. stage_end (ends.stage_of s)) shown meaning (asking.calls_of request) old new (Ok x)
        → Finds ends asking view words (Ok found) (record { old = old; new = new })
    unfolding keep_in
    finds_found x found same has r = record {
      tells = told_request ends.stage_of view ends.usage asking.wanted_of old.files (asking.request_of words) request (Ok found) is
          (told_map old.files (λ files t. kept files ∙ ap keep_in t ∙ ap (λ (w : Wanted). Ok w) (sym same)) r.tells);
      usage = (
        λ e. absurd (let no : Ok found ≡ Err ends.usage = e in cc),
        λ e. absurd (let no : Some request ≡ None = sym is ∙ e in cc),
      );
      there = told_map old.files (λ files t reached. rw is (has files (shown x) t)) r.tells;
      before = tt;
      files = r.files;
      calls = told_calls asking.calls_of old.files (asking.request_of words) request old.calls new.calls is r.calls;
      read = tt;
      absent = tt;
      counted = r.counted;
    }

    lost_as : (s : Status) (files : Files) → Tells ends.stage_of shown (Err s) (meaning files)
        → Tells ends.stage_of view (Err s) (asking.wanted_of request files)
    unfolding keep_in
    lost_as s files (inl outside) = inl outside
    lost_as s files (inr e) = inr (kept files ∙ ap keep_in e)

    pub finds_lost : (s : Status) → IsBefore (ends.stage_of s) → (s ≡ ends.usage → ⊥)
        → IfSome old.files (λ files. s ≡ ends.halted → IsSome (file_at files (asking.path_of request)))
        → Reads (λ s. stage_end (ends.stage_of s)) shown meaning (asking.calls_of request) old new (Err s)
        → Finds ends asking view words (Err s) (record { old = old; new = new })
    finds_lost s before other there r = record {
      tells = told_request ends.stage_of view ends.usage asking.wanted_of old.files (asking.request_of words) request (Err s) is
          (told_map old.files (λ files t. lost_as s files t) (told_of ends.stage_of shown old.files meaning (Err s) r.tells));
      usage = (
        λ e. absurd (other (err_is s ends.usage e)),
        λ e. absurd (let no : Some request ≡ None = sym is ∙ e in cc),
      );
      there = told_map old.files (λ files h e. rw is (h e)) there;
      before = before;
      files = r.files;
      calls = told_calls asking.calls_of old.files (asking.request_of words) request old.calls new.calls is r.calls;
      read = λ e. r.read (ap stage_end e);
      absent = λ e. r.absent (ap stage_end e);
      counted = r.counted ∙ counted_as (ends.stage_of s) old.faults;
    }

-- ---- more said of what was found

verdict_then : {Request Wanted Status Wanted' Status' : Type 0} (asking : Asking Request Wanted Status) (usage : Status) (change : Status → Status')
    (go : Wanted → Result Wanted' Status') (words : Option Request) (files : Files)
    → asked (change usage) (asks_then asking change go).wanted_of words files ≡ (with_fault change (asked usage asking.wanted_of words files) >>= go)
verdict_then asking usage change go None files = refl
verdict_then asking usage change go (Some request) files = refl

module _ {Found Found' Request Wanted Wanted' Status Status' : Type 0} (ends : Endings Status) (ends' : Endings Status') (asking : Asking Request Wanted Status)
    (view : Found → Wanted) (view' : Found' → Wanted') (change : Status → Status') (go : Wanted → Result Wanted' Status') (words : List (List ℕ)) (shelf : ShelfTurn)
    (stages : (s : Status) → ends'.stage_of (change s) ≡ ends.stage_of s) (usage : change ends.usage ≡ ends'.usage) where
  same_verdict : (files : Files) (told : Result Wanted Status) → verdict_of ends asking files words ≡ told
      → verdict_of ends' (asks_then asking change go) files words ≡ (with_fault change told >>= go)
  same_verdict files told is =
      subst (λ (status : Status'). asked status (asks_then asking change go).wanted_of (asking.request_of words) files ≡ (with_fault change told >>= go)) usage
      (verdict_then asking ends.usage change go (asking.request_of words) files ∙ ap (λ (r : Result Wanted Status). with_fault change r >>= go) is)

  lost_told : (s : Status) (files : Files) → Tells ends.stage_of view (Err s) (verdict_of ends asking files words)
      → Tells ends'.stage_of view' (Err (change s)) (verdict_of ends' (asks_then asking change go) files words)
  lost_told s files (inl outside) = inl (subst (λ (n : Stage). IsOutside n) (sym (stages s)) outside)
  lost_told s files (inr is) = inr (same_verdict files (Err s) is)

  -- nothing was found
  pub then_lost : (s : Status) → (change s ≡ ends'.usage → s ≡ ends.usage) → (change s ≡ ends'.halted → s ≡ ends.halted)
      → Finds ends asking view words (Err s) shelf → Finds ends' (asks_then asking change go) view' words (Err (change s)) shelf
  then_lost s usages halts f = record {
    tells = told_map shelf.old.files (λ files t. lost_told s files t) f.tells;
    usage = (
      λ e. f.usage.0 (ap (λ (r : Status). Err r) (usages (err_is (change s) ends'.usage e))),
      λ none. ap (λ (r : Status'). Err r) (ap change (err_is s ends.usage (f.usage.1 none)) ∙ usage),
    );
    there = told_map shelf.old.files (λ files h halted. h (halts halted)) f.there;
    before = rw (stages s) f.before;
    files = f.files;
    calls = f.calls;
    read = λ is. f.read (sym (stages s) ∙ is);
    absent = λ is. f.absent (sym (stages s) ∙ is);
    counted = rw (stages s) f.counted;
  }

  -- what was found is wanted
  pub then_found : (x : Found) (y : Found') → go (view x) ≡ Ok (view' y)
      → Finds ends asking view words (Ok x) shelf → Finds ends' (asks_then asking change go) view' words (Ok y) shelf
  then_found x y goes f = record {
    tells = told_map shelf.old.files (λ files is. same_verdict files (Ok (view x)) is ∙ goes) f.tells;
    usage = (
      λ e. absurd (let no : Ok y ≡ Err ends'.usage = e in cc),
      λ none. absurd (let no : Ok x ≡ Err ends.usage = f.usage.1 none in cc),
    );
    there = f.there;
    before = tt;
    files = f.files;
    calls = f.calls;
    read = tt;
    absent = tt;
    counted = f.counted;
  }

  -- or refused
  pub then_refused : (x : Found) (s : Status') → go (view x) ≡ Err s → ends'.stage_of s ≡ Refused → (s ≡ ends'.usage → ⊥)
      → Finds ends asking view words (Ok x) shelf → Finds ends' (asks_then asking change go) view' words (Err s) shelf
  then_refused x s goes stage other f = record {
    tells = told_map shelf.old.files (λ files is. inr (same_verdict files (Ok (view x)) is ∙ goes)) f.tells;
    usage = (
      λ e. absurd (other (err_is s ends'.usage e)),
      λ none. absurd (let no : Ok x ≡ Err ends.usage = f.usage.1 none in cc),
    );
    there = told_map shelf.old.files (λ files h halted. h tt) f.there;
    before = rw stage tt;
    files = f.files;
    calls = f.calls;
    read = λ is. absurd (let no : Refused ≡ Failed = sym stage ∙ is in cc);
    absent = λ is. absurd (let no : Refused ≡ Missing = sym stage ∙ is in cc);
    counted = rw stage f.counted;
  }
