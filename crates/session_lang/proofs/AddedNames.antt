-- The names of a line that are there when memory runs out, and the room for the name of an action.
use Rattle.std.proofs.Common.{◌≡◌, ℕ, ◌<◌, ◌≤◌, Bool, true, false, cond, List, ◌∷◌, [], length, nat_lt, Result, Ok, Err, OnErr, refl, sym, ap, subst, ◌∙◌, length-append, arith}
use Rattle.std.proofs.lemmas.Bool.{lt-ltb}
use Rattle.std.proofs.lemmas.List.{append-nil}
use Rattle.desk_names.specs.Name.{is_name}
use Rattle.desk_names.specs.Names.{has_text, with_text, place_of, most_names}
use Rattle.session_commands.specs.declared.script_kind.ScriptKind.{ScriptKind}
use Rattle.session_commands.specs.declared.script_kind.ScriptKind.TheVariants as fault
use Rattle.script_words.specs.declared.line_fault.LineFault.{LineFault}
use Rattle.script_words.specs.declared.line_fault.LineFault.TheVariants as line
use Rattle.script_words.specs.Given.{◌>>=◌, Fails, Gives}
use Rattle.session_commands.specs.declared.table.Verb.{Verb}
use Rattle.session_commands.specs.Table.{row_of}
use Rattle.script_words.specs.Word.{names_one, numbered, with_name}
use Rattle.session_lang.specs.declared.statement.Statement.{Statement}
use Rattle.session_lang.specs.declared.statement.Statement.TheVariants.{Begin}
use Rattle.session_lang.specs.Statement.{Known, word, begin_meaning}
use Rattle.session_lang.specs.FirstFault.{command, places, names_at, with_texts, AddsFront}

-- no name was added
pub adds_none : (names texts : List (List ℕ)) → AddsFront names texts names
adds_none names texts = record { front = []; rest = texts; whole = refl; is = refl }

-- all of them were added
pub adds_all : (names texts new : List (List ℕ)) → new ≡ with_texts names texts → AddsFront names texts new
adds_all names texts new is = record { front = texts; rest = []; whole = sym (append-nil texts); is = is }

one_in : (b : Bool) (w : List ℕ) (rest N : List (List ℕ)) → AddsFront N (cond b (w ∷ rest) rest) (cond b (with_text N w) N)
one_in true w rest N = record { front = w ∷ []; rest = rest; whole = refl; is = refl }
one_in false w rest N = record { front = []; rest = rest; whole = refl; is = refl }

two_in : (b c : Bool) (w x : List ℕ) (rest N : List (List ℕ))
    → AddsFront N (cond b (w ∷ cond c (x ∷ rest) rest) (cond c (x ∷ rest) rest))
    (cond c (with_text (cond b (with_text N w) N) x) (cond b (with_text N w) N))
two_in true true w x rest N = record { front = w ∷ x ∷ []; rest = rest; whole = refl; is = refl }
two_in true false w x rest N = record { front = w ∷ []; rest = rest; whole = refl; is = refl }
two_in false c w x rest N = one_in c x rest N

module _ (names words : List (List ℕ)) (v : Verb) where
  -- the name in the first word was added
  pub adds_one : AddsFront names (names_at (places (command v)) 0 words) (with_name (row_of v).first (word words 0) names)
  adds_one =
      one_in (names_one (row_of v).first (word words 0)) (word words 0)
      (names_at ((row_of v).second ∷ (row_of v).third ∷ []) 1 words) names

  -- the names in the first two words were added
  pub adds_two : AddsFront names (names_at (places (command v)) 0 words)
      (with_name (row_of v).second (word words 1) (with_name (row_of v).first (word words 0) names))
  adds_two =
      two_in (names_one (row_of v).first (word words 0)) (names_one (row_of v).second (word words 1)) (word words 0)
      (word words 1) (names_at ((row_of v).third ∷ []) 2 words) names

-- a new name is numbered where there is room for it
numbered_new : (names : List (List ℕ)) (text : List ℕ) → is_name text ≡ true → has_text names text ≡ false
    → length names < most_names → numbered names text ≡ Ok (place_of names text, with_text names text)
unfolding numbered
numbered_new names text named new room =
    let some : nat_lt (length names) most_names ≡ true = lt-ltb (length names) most_names room in rw (named, new, some) refl

-- and is one too many where there is none
numbered_full : (names : List (List ℕ)) (text : List ℕ) → is_name text ≡ true → has_text names text ≡ false
    → length names ≡ most_names → numbered names text ≡ Err fault.Names
unfolding numbered
numbered_full names text named new full = rw (named, new, full) refl

-- with a new name there are as many as there may be, or fewer, where there is room for it
pub new_fits : (names : List (List ℕ)) (text : List ℕ) → has_text names text ≡ false → length names < most_names
    → length (with_text names text) ≤ most_names
unfolding with_text
new_fits names text new room = rw new (omega (arith, room, length-append names (text ∷ [])))

abbrev Read : Type 0
Read = Result (Statement × Known) ScriptKind

abbrev reads : ℕ → List (List ℕ) → List (List ℕ) → Read
reads n names begun = Ok (Begin n, record { names = names; begun = begun })

abbrev named_too : Known → List ℕ → Result (ℕ × List (List ℕ)) ScriptKind → Read
named_too known text begun = begun >>= (λ a. numbered known.names text >>= (λ n. reads n.0 n.1 a.1))

-- A LINE THAT BEGINS AN ACTION of a new name
module _ (known : Known) (inside : Bool) (words : List (List ℕ)) (text : List ℕ) (one : length words ≡ 1) (out : inside ≡ false)
    (is : word words 0 ≡ text) (named : is_name text ≡ true) (new : has_text known.begun text ≡ false) where
  begins : begin_meaning known inside words ≡ named_too known text (numbered known.begun text)
  unfolding begin_meaning
  begins = rw (one, out, is, named, new) refl

  -- there is no room among the actions
  pub begin_full : length known.begun ≡ most_names → begin_meaning known inside words ≡ Err fault.Names
  begin_full full = begins ∙ ap (named_too known text) (numbered_full known.begun text named new full)

  -- there is room among the actions, and the name gets no number
  pub begin_fails : (e : LineFault) → length known.begun < most_names → Fails e (numbered known.names text)
      → Fails e (begin_meaning known inside words)
  begin_fails line.NoMemory room h = tt
  begin_fails (line.Kind k) room h =
      begins ∙ ap (named_too known text) (numbered_new known.begun text named new room)
      ∙ ap (λ (r : Result (ℕ × List (List ℕ)) ScriptKind). r >>= (λ n. reads n.0 n.1 (with_text known.begun text))) h

-- an answer that is a fault
pub gives_fault : {X Y : Type 0} (view : X → Y) (r : Result X LineFault) (e : LineFault) (told : Result Y ScriptKind)
    → r ≡ Err e → Fails e told → Gives view r told
gives_fault view r e told is h = subst (λ (x : Result _ LineFault). Gives view x told) (sym is) h

-- what holds anyhow holds of a fault
pub any_err : {T E Q : Type 0} (r : Result T E) → Q → OnErr r Q
any_err (Ok x) q = tt
any_err (Err e) q = q
