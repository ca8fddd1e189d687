-- The first fault of a script, said without the reader, is the one that the reader tells.
use Rattle.std.proofs.Common.{◌≡◌, ℕ, ◌+◌, ◌<◌, ◌≤◌, ◌↔◌, Bool, true, false, ◌||◌, cond, List, [], length, nat_lt, slice_index_or, Option, Some, None, is_some, Result, Ok, Err, refl, sym, ap, subst, ◌∙◌, arith, ⊎_elim}
use Rattle.std.specs.List.{find}
use Rattle.std.specs.Str.Lines.{lines}
use Rattle.std.proofs.lemmas.Bool.{cases_lt, ltb-true, ltb-false}
use Rattle.std.proofs.lemmas.List.Elements.{All-nil}
use Rattle.desk_names.specs.Name.{IsName}
use Rattle.desk_names.specs.Names.{IsNames}
use Rattle.session_commands.specs.declared.script.Script.{Script}
use Rattle.session_commands.specs.declared.script_kind.ScriptKind.{ScriptKind}
use Rattle.session_commands.specs.declared.script_kind.ScriptKind.TheVariants as kind
use Rattle.session_lang.specs.declared.fault.ScriptFault.{ScriptFault}
use Rattle.session_lang.specs.declared.fault.ScriptFault.TheVariants as fault
use Rattle.session_lang.specs.Given.{GivesAt}
use Rattle.std.specs.Prelude.{IfOk}
use Rattle.script_words.specs.Given.{◌>>=◌}
use Rattle.session_lang.specs.declared.steps.Step.{Step}
use Rattle.session_lang.specs.Statement.{Known}
use Rattle.session_lang.specs.Reading.{Said, lacks, line_of, script_of, unless_lacking, together_of, lines_meaning, most_bytes, script_meaning}
use Rattle.session_lang.specs.FirstFault.{is_begin, is_end, is_mark, is_inside, names_after, fault_at, line_at, is_lacking, AreFaultless, IsFirstFaulty, IsLastBegun, IsFirstLacking, IsFirstFault, ToldFirst, too_long, in_line, unclosed, no_action}
use Rattle.session_lang.proofs.FaultLines.{known_after, OpenIs, FoundFrom, LinesAre, lines_from}

-- a script that is read
record Faultless (names : List (List ℕ)) (text : List ℕ) (after : List (List ℕ)) : Type 0 where
  short : length text ≤ most_bytes
  fine : AreFaultless names (lines text)
  closed : is_inside (lines text) ≡ false
  none : (at : ℕ) → at < length (lines text) → is_lacking (lines text) (slice_index_or (lines text) at []) ≡ false
  names_are : after ≡ names_after names (lines text)

-- what a text says, or its first fault
abbrev ScriptIs : List (List ℕ) → List ℕ → Result (Script × List (List ℕ)) (ℕ × ScriptKind) → Type 0
ScriptIs names text (Ok x) = Faultless names text x.1
ScriptIs names text (Err e) = IsFirstFault names text e.0 e.1

pub no_names : IsNames []
no_names = record { distinct = λ i j d lt within. absurd (omega arith); named = All-nil IsName; room = omega arith }

module _ (names : List (List ℕ)) (text : List ℕ) (short : length text ≤ most_bytes) where
  lacked : (s : Script) (K : Known) (o : Option ℕ) → K ≡ known_after names (lines text) → AreFaultless names (lines text) → is_inside (lines text) ≡ false → FoundFrom 0 (lines text) o → ScriptIs names text (unless_lacking o (s, K.names))
  lacked s K None e fine closed found = record { short = short; fine = fine; closed = closed; none = λ at lt. found at (omega arith) lt; names_are = ap (λ k. k.names) e }
  lacked s K (Some n) e fine closed found = no_action short fine closed (record { at = found.at; number = found.number; there = found.there; has = found.has; first = λ i lt. found.first i (omega arith) lt }) refl

  closing : (K : Known) (steps : List Step) (o : Option ℕ) → K ≡ known_after names (lines text) → AreFaultless names (lines text) → is_some o ≡ is_inside (lines text) → OpenIs (lines text) o
      → FoundFrom 0 (lines text) (line_of (find (λ step. lacks (known_after names (lines text)) step.what) steps)) → ScriptIs names text (together_of K steps o)
  closing K steps (Some n) e fine inside open_is found = unclosed short fine (sym inside) open_is refl
  closing K steps None e fine inside open_is found =
      lacked (script_of K steps) K (line_of (find (λ step. lacks K step.what) steps)) e fine (sym inside)
      (subst (λ k. FoundFrom 0 (lines text) (line_of (find (λ step. lacks k step.what) steps))) (sym e) found)

  together_is : (r : Result Said (ℕ × ScriptKind)) → LinesAre names 0 (lines text) r → ScriptIs names text (r >>= (λ said. together_of said.known said.steps said.open_at))
  together_is (Err e) h = in_line short (record { at = h.at; number = h.number; there = h.there; has = h.has; first = λ i lt. h.first i (omega arith) lt })
  together_is (Ok said) h = closing said.known said.steps said.open_at h.known_is (λ i lt. h.fine i (omega arith) lt) h.inside_is h.open_is h.found

script_is : (names : List (List ℕ)) (text : List ℕ) → IsNames names → ScriptIs names text (script_meaning names text)
unfolding script_meaning
script_is names text sound = by (nat_lt most_bytes (length text)) refl
  where
    by : (long : Bool) → nat_lt most_bytes (length text) ≡ long → ScriptIs names text
        (cond long (Err (0, kind.TooLong)) (lines_meaning (record { names = names; begun = [] }) None 1 (lines text) >>= (λ said. together_of said.known said.steps said.open_at)))
    by true h = too_long (ltb-true most_bytes (length text) h) refl refl
    by false h = together_is names text (ltb-false most_bytes (length text) h) (lines_meaning (record { names = names; begun = [] }) None 1 (lines text)) (lines_from names (lines text) [] (lines text) None refl sound no_names refl tt)

pub apart : {X : Type 0} (o : Option X) (x : X) → o ≡ None → o ≡ Some x → ⊥
apart o x h k = let e : None ≡ Some x = sym h ∙ k in cc

unlike : (b : Bool) → b ≡ true → b ≡ false → ⊥
unlike b h k = let e : true ≡ false = sym h ∙ k in cc

begin_mark : (begins ends : Bool) → begins ≡ true → (begins || ends) ≡ true
begin_mark true ends h = refl
begin_mark false ends h = absurd (cc)

-- two places of which neither is before the other
pub one_place : (a b : ℕ) → (a < b → ⊥) → (b < a → ⊥) → a ≡ b
one_place a b h k = ⊎_elim (λ lt. absurd (h lt)) (λ ge. ⊎_elim (λ lt. absurd (k lt)) (λ le. omega (arith, ge, le)) (cases_lt b a)) (cases_lt a b)

numbered_alike : (n m a b : ℕ) → n ≡ a + 1 → m ≡ b + 1 → a ≡ b → n ≡ m
numbered_alike n m a b h k e = omega (arith, h, k, e)

module _ (names : List (List ℕ)) (ls : List (List ℕ)) where
  first_faulty_is : (n m : ℕ) (k j : ScriptKind) → IsFirstFaulty names ls n k → IsFirstFaulty names ls m j → (n ≡ m) × (k ≡ j)
  first_faulty_is n m k j f g =
      let same : f.at ≡ g.at = one_place f.at g.at (λ lt. apart (fault_at names ls f.at) k (g.first f.at lt) f.has) (λ lt. apart (fault_at names ls g.at) j (f.first g.at lt) g.has) in
      let kinds : Some k ≡ Some j = sym f.has ∙ ap (fault_at names ls) same ∙ g.has in
      (numbered_alike n m f.at g.at f.number g.number same, cc (kinds))

  last_begun_is : (n m : ℕ) → IsLastBegun ls n → IsLastBegun ls m → n ≡ m
  last_begun_is n m f g =
      numbered_alike n m f.at g.at f.number g.number
      (one_place f.at g.at
      (λ lt. unlike (is_mark (line_at ls g.at)) (begin_mark (is_begin (line_at ls g.at)) (is_end (line_at ls g.at)) g.begins) (f.last g.at lt g.there))
      (λ lt. unlike (is_mark (line_at ls f.at)) (begin_mark (is_begin (line_at ls f.at)) (is_end (line_at ls f.at)) f.begins) (g.last f.at lt f.there)))

  first_lacking_is : (n m : ℕ) → IsFirstLacking ls n → IsFirstLacking ls m → n ≡ m
  first_lacking_is n m f g =
      numbered_alike n m f.at g.at f.number g.number
      (one_place f.at g.at
      (λ lt. unlike (is_lacking ls (slice_index_or ls f.at [])) f.has (g.first f.at lt))
      (λ lt. unlike (is_lacking ls (slice_index_or ls g.at [])) g.has (f.first g.at lt)))

-- a text has one first fault
pub one_fault : (names : List (List ℕ)) (text : List ℕ) (n m : ℕ) (k j : ScriptKind) → IsFirstFault names text n k → IsFirstFault names text m j → (n ≡ m) × (k ≡ j)
one_fault names text n m k j (too_long a hn hk) (too_long b hm hj) = (hn ∙ sym hm, hk ∙ sym hj)
one_fault names text n m k j (too_long a hn hk) (in_line b g) = absurd (omega (arith, a, b))
one_fault names text n m k j (too_long a hn hk) (unclosed b fine inside g hj) = absurd (omega (arith, a, b))
one_fault names text n m k j (too_long a hn hk) (no_action b fine inside g hj) = absurd (omega (arith, a, b))
one_fault names text n m k j (in_line a f) (too_long b hm hj) = absurd (omega (arith, a, b))
one_fault names text n m k j (in_line a f) (in_line b g) = first_faulty_is names (lines text) n m k j f g
one_fault names text n m k j (in_line a f) (unclosed b fine inside g hj) = absurd (apart (fault_at names (lines text) f.at) k (fine f.at f.there) f.has)
one_fault names text n m k j (in_line a f) (no_action b fine inside g hj) = absurd (apart (fault_at names (lines text) f.at) k (fine f.at f.there) f.has)
one_fault names text n m k j (unclosed a fine inside f hk) (too_long b hm hj) = absurd (omega (arith, a, b))
one_fault names text n m k j (unclosed a fine inside f hk) (in_line b g) = absurd (apart (fault_at names (lines text) g.at) j (fine g.at g.there) g.has)
one_fault names text n m k j (unclosed a fine inside f hk) (unclosed b fine' inside' g hj) = (last_begun_is names (lines text) n m f g, hk ∙ sym hj)
one_fault names text n m k j (unclosed a fine inside f hk) (no_action b fine' inside' g hj) = absurd (unlike (is_inside (lines text)) inside inside')
one_fault names text n m k j (no_action a fine inside f hk) (too_long b hm hj) = absurd (omega (arith, a, b))
one_fault names text n m k j (no_action a fine inside f hk) (in_line b g) = absurd (apart (fault_at names (lines text) g.at) j (fine g.at g.there) g.has)
one_fault names text n m k j (no_action a fine inside f hk) (unclosed b fine' inside' g hj) = absurd (unlike (is_inside (lines text)) inside' inside)
one_fault names text n m k j (no_action a fine inside f hk) (no_action b fine' inside' g hj) = (first_lacking_is names (lines text) n m f g, hk ∙ sym hj)

-- a text that is read has no fault
never : (names : List (List ℕ)) (text : List ℕ) (after : List (List ℕ)) (n : ℕ) (k : ScriptKind) → Faultless names text after → IsFirstFault names text n k → ⊥
never names text after n k h (too_long a hn hk) = omega (arith, a, h.short)
never names text after n k h (in_line a f) = apart (fault_at names (lines text) f.at) k (h.fine f.at f.there) f.has
never names text after n k h (unclosed a fine inside f hk) = unlike (is_inside (lines text)) inside h.closed
never names text after n k h (no_action a fine inside f hk) = unlike (is_lacking (lines text) (slice_index_or (lines text) f.at [])) f.has (h.none f.at f.there)

abbrev told : ℕ × ScriptKind → Result (Script × List (List ℕ)) (ℕ × ScriptKind)
told e = Err e

faulted : (names : List (List ℕ)) (text : List ℕ) (n : ℕ) (k : ScriptKind) (r : Result (Script × List (List ℕ)) (ℕ × ScriptKind)) → ScriptIs names text r → IsFirstFault names text n k → r ≡ told (n, k)
faulted names text n k (Ok x) h f = absurd (never names text x.1 n k h f)
faulted names text n k (Err e) h f =
    let same = one_fault names text e.0 n e.1 k h f in
    ap (λ m. told (m, e.1)) same.0 ∙ ap (λ j. told (n, j)) same.1

-- a text gives exactly its first fault
pub first_fault_told : (names : List (List ℕ)) (text : List ℕ) (n : ℕ) (k : ScriptKind) → IsNames names → (script_meaning names text ≡ Err (n, k)) ↔ IsFirstFault names text n k
first_fault_told names text n k sound =
    (λ h. subst (ScriptIs names text) h (script_is names text sound), λ f. faulted names text n k (script_meaning names text) (script_is names text sound) f)

-- and a text that is read leaves the names of its lines
pub names_told : (names : List (List ℕ)) (text : List ℕ) (s : Script) (after : List (List ℕ)) → IsNames names → script_meaning names text ≡ Ok (s, after) → after ≡ names_after names (lines text)
names_told names text s after sound h = (subst (ScriptIs names text) h (script_is names text sound)).names_are

-- the same of an answer of the reader
pub fault_answer : (names after : List (List ℕ)) (text : List ℕ) (r : Result Script ScriptFault) → IsNames names → GivesAt (λ s. (s, after)) r (script_meaning names text) → ToldFirst names text r
fault_answer names after text (Ok s) sound h = tt
fault_answer names after text (Err fault.NoMemory) sound h = tt
fault_answer names after text (Err (fault.At line k)) sound h = (first_fault_told names text line k sound).0 h

pub names_answer : (names after : List (List ℕ)) (text : List ℕ) (r : Result Script ScriptFault) → IsNames names → GivesAt (λ s. (s, after)) r (script_meaning names text) → IfOk r (λ s. after ≡ names_after names (lines text))
names_answer names after text (Ok s) sound h = names_told names text s after sound h
names_answer names after text (Err e) sound h = tt
