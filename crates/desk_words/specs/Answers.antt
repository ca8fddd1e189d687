-- What the code answers to words, by what they ask for.
use Rattle.std.specs.Prelude.{◌≡◌, ◌≤◌, Option, None, Some, Result, Ok, Err}
use Rattle.desk_words.specs.declared.words.Request as code
use Rattle.desk_words.specs.declared.words.WordsFault.{WordsFault}
use Rattle.desk_words.specs.declared.words.WordsFault.TheVariants.{Usage, NoMemory}
use Rattle.desk_words.specs.Words.{Request, Run, Load, Check}

-- a request of the code, as the definition sees it
abbrev pub request_in : code.Request → Request
request_in (code.TheVariants.Run market script order) = Run market script order
request_in (code.TheVariants.Load size) = Load size
request_in (code.TheVariants.Check market) = Check market

-- the request that the words ask for, or want of memory; Usage exactly where they ask for none
abbrev pub Answers : Result code.Request WordsFault → Option Request → Type 0
Answers (Ok request) (Some asked) = request_in request ≡ asked
Answers (Ok request) None = ⊥
Answers (Err Usage) (Some asked) = ⊥
Answers (Err Usage) None = Unit {0}
Answers (Err NoMemory) (Some asked) = Unit {0}
Answers (Err NoMemory) None = ⊥

-- the size of a load is from 1 to 1,000
abbrev pub IsSized : code.Request → Type 0
IsSized (code.TheVariants.Run market script order) = Unit {0}
IsSized (code.TheVariants.Load size) = (1 ≤ size) × (size ≤ 1_000)
IsSized (code.TheVariants.Check market) = Unit {0}
