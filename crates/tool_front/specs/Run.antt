-- What a run of the program writes that is no command (this project's profile).
use Rattle.std.specs.Prelude.{◌≡◌, ◌⊎◌, ◌<◌, ℕ, List, length, take, Option, None, Some}
use Rattle.desk_edge.specs.Count.{raised}
use Rattle.desk_edge.specs.Sink.{appended}
use Rattle.tool_front.specs.declared.status.FrontStatus.{FrontStatus}
use Rattle.tool_front.specs.declared.status.FrontStatus.TheVariants.{Ended, Usage, WriteFault, NoMemory}
use Rattle.tool_front.specs.Front.{Front, Listing, Version, Help, Nothing, Unknown, Run}
use Rattle.tool_front.specs.Help.{help_text, list_text, unknown_text, version_text}
use Rattle.tool_front.specs.Note.{Notes}

-- the text that is asked for, where the words ask for one
abbrev pub shown_text : Front → Option (List ℕ)
shown_text Listing = Some list_text
shown_text Version = Some version_text
shown_text (Help c) = Some (help_text c)
shown_text Nothing = None
shown_text (Unknown word) = None
shown_text (Run c words) = None

-- what words are told that name no command
abbrev pub refused_text : Front → Option (List ℕ)
refused_text Nothing = Some list_text
refused_text (Unknown word) = Some (unknown_text word)
refused_text Listing = None
refused_text Version = None
refused_text (Help c) = None
refused_text (Run c words) = None

-- A TEXT THAT IS ASKED FOR is written: exit status 0, and all of it; after a fault of writing a front, and not all; nothing where memory ran out
abbrev pub Shown : List ℕ → Option (List ℕ) → Option (List ℕ) → ℕ → ℕ → FrontStatus → Type 0
Shown text old new before now (Ended code) = (code ≡ 0) × (new ≡ appended text old) × (now ≡ before)
Shown text old new before now WriteFault =
    ((n : ℕ) × (n < length text) × (new ≡ appended (take n text) old)) × (now ≡ raised before)
Shown text old new before now NoMemory = (new ≡ old) × (now ≡ before)
Shown text old new before now Usage = ⊥

-- A TEXT THAT TELLS WHY nothing is done is noted: exit status 2; nothing where memory ran out
abbrev pub Refused : List ℕ → Option (List ℕ) → Option (List ℕ) → ℕ → ℕ → FrontStatus → Type 0
Refused text old new before now (Ended code) = (code ≡ 2) × Notes text old new before now
Refused text old new before now NoMemory = (new ≡ old) × (now ≡ before)
Refused text old new before now WriteFault = ⊥
Refused text old new before now Usage = ⊥
