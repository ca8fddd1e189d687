-- How an answer of the code stands to what a definition gives.
use Rattle.std.specs.Prelude.{◌≡◌, ℕ, List, ◌++◌, Result, Ok, Err}
use Rattle.script_words.specs.declared.line_fault.LineFault.{LineFault}
use Rattle.script_words.specs.declared.line_fault.LineFault.TheVariants as fault
use Rattle.session_commands.specs.declared.script_kind.ScriptKind.{ScriptKind}

infixl 10 ◌>>=◌
-- go on with the value, or keep the fault
abbrev pub ◌>>=◌ : {A B C : Type 0} → Result A C → (A → Result B C) → Result B C
(Ok x) >>= f = f x
(Err e) >>= f = Err e

-- the fault is the definition's; want of memory says nothing
abbrev pub Fails : {Y : Type 0} → LineFault → Result Y ScriptKind → Type 0
Fails fault.NoMemory told = Unit {0}
Fails (fault.Kind k) told = told ≡ Err k

-- what was returned, seen by view, is what the definition gives, unless memory ran out
abbrev pub Gives : {X Y : Type 0} → (X → Y) → Result X LineFault → Result Y ScriptKind → Type 0
Gives view (Ok x) told = told ≡ Ok (view x)
Gives view (Err e) told = Fails e told

-- the old names keep their numbers
pub record Grows (old new : List (List ℕ)) : Type 0 where
  pub more : List (List ℕ)
  pub whole : new ≡ old ++ more

-- a line with a fault leaves the names as they were
abbrev pub Keeps : {X : Type 0} → Result X LineFault → List (List ℕ) → List (List ℕ) → Type 0
Keeps (Ok x) old new = Unit {0}
Keeps (Err fault.NoMemory) old new = Unit {0}
Keeps (Err (fault.Kind k)) old new = new ≡ old
