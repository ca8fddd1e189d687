-- What is seen from outside of lines that are answered, by the status with which that ends (this project's profile).
use Rattle.std.specs.Prelude.{◌≡◌, ℕ, Bool, List, length, Option, Result, Ok, Err, IfSome}
use Rattle.std.specs.Str.Lines.{lines}
use Rattle.desk_edge.specs.Sink.{appended}
use Rattle.desk_terms.specs.Bench.{counted, logged}
use Rattle.session_model.specs.Course.{Meaning}
use Rattle.tool_live.specs.Answers.{IsPrompt, PutsFront}
use Rattle.live_model.specs.Live.{Live}
use Rattle.tool_script.specs.declared.status.Status.{Status}
use Rattle.tool_script.specs.declared.status.Status.TheVariants.{Done, Usage, Market, Script, ReadFault, WriteFault, NoMemory, Absent}
use Rattle.tool_live.specs.Replies.{Replies, replies_of}

-- the bytes that the sink took, those of them that were sent on, and the count and the log of the bench
pub record Outside : Type 0 where
  pub bytes : Option (List ℕ)
  pub sent : Option (List ℕ)
  pub count : ℕ
  pub log : Option (List (ℕ × Bool))

abbrev pub outside : Option (List ℕ) → Option (List ℕ) → ℕ → Option (List (ℕ × Bool)) → Outside
outside bytes sent count log = record { bytes = bytes; sent = sent; count = count; log = log }

-- the count and the log behind these computations
abbrev pub called_from : Outside → List (ℕ × Bool) → ℕ × Option (List (ℕ × Bool))
called_from o calls = (counted o.count (length calls), logged o.log calls)

-- THE LINES WERE ANSWERED to their end: all that is written for them was put and sent on, and the bench was called for
-- their computations, in their order, and for no other
pub record IsAnswered (r : Replies) (input : List (List ℕ)) (old new : Outside) : Type 0 where
  pub bytes : new.bytes ≡ appended (r.lines input) old.bytes
  pub sent : new.sent ≡ new.bytes
  pub count : new.count ≡ counted old.count (length (r.calls input))
  pub log : new.log ≡ logged old.log (r.calls input)

-- IT WAITED FOR MORE: what the feed gave so far is answered, sent on and computed, and this is the session behind it
pub record IsWaiting {P : Type 0} (m : Meaning P) (ready : Bool) (r : Replies) (content left : Option (List ℕ)) (old new : Outside) : Type 0 where
  pub now : Live P
  pub prompt : IsPrompt content left r.lines (replies_of m ready now).lines
      (λ input. called_from old (r.calls input)) (λ input. called_from new ((replies_of m ready now).calls input))
      old.bytes new.bytes new.sent

-- a front of what is written for all that a feed holds was put
abbrev pub IsCut : Replies → Option (List ℕ) → Outside → Outside → Type 0
IsCut r content old new = IfSome content (λ input. PutsFront (r.lines (lines input)) old.bytes new.bytes)

-- HOW IT ENDED, over a feed of this content, of which this is left
abbrev pub Ends : {P : Type 0} → Meaning P → Bool → Replies → Option (List ℕ) → Option (List ℕ) → Outside → Outside → Status → Type 0
Ends m ready r content left old new Done = IfSome content (λ input. IsAnswered r (lines input) old new)
Ends m ready r content left old new ReadFault = IsWaiting m ready r content left old new × IsCut r content old new
Ends m ready r content left old new WriteFault = IsCut r content old new
Ends m ready r content left old new NoMemory = IsCut r content old new
Ends m ready r content left old new Usage = ⊥
Ends m ready r content left old new (Market section entry why) = ⊥
Ends m ready r content left old new (Script line why) = ⊥
Ends m ready r content left old new (Absent role) = ⊥

-- the status of a call that may end early
abbrev pub ended : {A : Type 0} → Result A Status → Status
ended (Ok x) = Done
ended (Err status) = status

-- WHAT WAS WRITTEN, where it is told: all at Done; a front of it where the feed or the sink failed or memory ran out; else
-- nothing
abbrev pub Writes : Option (List ℕ) → Option (List ℕ) → List ℕ → Status → Type 0
Writes old new whole Done = new ≡ appended whole old
Writes old new whole ReadFault = PutsFront whole old new
Writes old new whole WriteFault = PutsFront whole old new
Writes old new whole NoMemory = PutsFront whole old new
Writes old new whole Usage = new ≡ old
Writes old new whole (Market section entry why) = new ≡ old
Writes old new whole (Script line why) = new ≡ old
Writes old new whole (Absent role) = new ≡ old

-- a status that may come while the commands are done
abbrev pub IsLate : Status → Type 0
IsLate WriteFault = Unit {0}
IsLate NoMemory = Unit {0}
IsLate Done = ⊥
IsLate Usage = ⊥
IsLate ReadFault = ⊥
IsLate (Market section entry why) = ⊥
IsLate (Script line why) = ⊥
IsLate (Absent role) = ⊥

-- a status that may come behind the reading of words and files
abbrev pub IsLater : Status → Type 0
IsLater ReadFault = Unit {0}
IsLater WriteFault = Unit {0}
IsLater NoMemory = Unit {0}
IsLater Done = ⊥
IsLater Usage = ⊥
IsLater (Market section entry why) = ⊥
IsLater (Script line why) = ⊥
IsLater (Absent role) = ⊥

-- a status that words and files decide
abbrev pub IsRefused : Status → Type 0
IsRefused Usage = Unit {0}
IsRefused (Market section entry why) = Unit {0}
IsRefused (Script line why) = Unit {0}
IsRefused (Absent role) = Unit {0}
IsRefused Done = ⊥
IsRefused ReadFault = ⊥
IsRefused WriteFault = ⊥
IsRefused NoMemory = ⊥
