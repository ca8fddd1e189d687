-- The words of the refusals of a command (this project's profile).
use Rattle.std.specs.Prelude.{ℕ, List, codes}
use Rattle.session_commands.specs.declared.refusal.Refusal.{Refusal}
use Rattle.session_commands.specs.declared.refusal.Refusal.TheVariants.{Unknown, Taken, Kind, Cycle, InUse, FixingExists, TooMany, AlreadyRegistered, NotRegistered, Deferred}

-- the word of a refusal, without what it names
abbrev pub refusal_word : Refusal → List ℕ
refusal_word (Unknown name) = codes "unknown"
refusal_word (Taken name) = codes "taken"
refusal_word (Kind name) = codes "kind"
refusal_word Cycle = codes "cycle"
refusal_word (InUse user) = codes "inuse"
refusal_word (FixingExists rate) = codes "exists"
refusal_word TooMany = codes "toomany"
refusal_word AlreadyRegistered = codes "registered"
refusal_word NotRegistered = codes "notregistered"
refusal_word (Deferred source) = codes "deferred"
