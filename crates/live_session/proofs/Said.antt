-- How the parts of what a line does come together.
use Rattle.std.proofs.Common.{◌≡◌, ℕ, ◌+◌, Bool, List, [], ◌++◌, length, drop, Option, is_some, Ok, Err, refl, sym, ap, subst, ◌∙◌}
use Rattle.session_commands.specs.declared.script_kind.ScriptKind.{ScriptKind}
use Rattle.session_lang.specs.declared.statement.Statement.{Statement}
use Rattle.session_lang.specs.Statement.{Known}
use Rattle.session_model.specs.Course.{Running, Meaning}
use Rattle.session_rounds.specs.Goes.{Output, with_more, Halts}
use Rattle.session_rounds.proofs.Going.{logged_none, halts_at_once}
use Rattle.live_model.specs.Live.{Live, known_of, meaning, fault_line, learnt, Saying, faulty, stated, answered, counted, said}
use Rattle.live_model.proofs.Meanings.{said_is}
use Rattle.live_session.specs.Saying.{IsSaid, as_course}

-- lines alone were put out
pub lines_out : (old new more : List ℕ) (count : ℕ) (log : Option (List (ℕ × Bool))) → new ≡ old ++ more
    → (let after : Output = record { lines = new; count = count; log = log } in after) ≡ with_more more [] (record { lines = old; count = count; log = log })
lines_out old new more count log is = λ i. record { lines = is i; count = count; log = logged_none log i }

module _ {P : Type 0} (m : Meaning P) (s : Live P) (line : List ℕ) where
  said_fault : (kind : ScriptKind) → meaning (known_of s) (is_some s.block) line ≡ Err kind → said m s line ≡ faulty (counted s) (s.line + 1) kind
  unfolding said
  said_fault kind is = ap (answered m (counted s)) is

  -- a line that has a fault was told
  pub fault_said : (kind : ScriptKind) (old new : List ℕ) (count : ℕ) (log : Option (List (ℕ × Bool)))
      → meaning (known_of s) (is_some s.block) line ≡ Err kind → new ≡ old ++ fault_line (s.line + 1) kind
      → IsSaid P (said m s line) (counted s) (record { lines = old; count = count; log = log }) (record { lines = new; count = count; log = log })
  fault_said kind old new count log is lines =
      subst (λ (t : Saying P). IsSaid P t (counted s) (record { lines = old; count = count; log = log }) (record { lines = new; count = count; log = log }))
      (sym (said_fault kind is)) (record { next = refl; out = lines_out old new (fault_line (s.line + 1) kind) count log lines })

  -- a line that has none was done in the session that knows its names
  module _ (st : Statement) (next : Known) (is : meaning (known_of s) (is_some s.block) line ≡ Ok (st, next)) (now : Running P)
      (knows : now ≡ learnt (drop (length s.running.standing.names) next.names) s.running) where
    told_is : stated m next st (record { running = now; begun = next.begun; block = s.block; line = s.line + 1 }) ≡ said m s line
    told_is = ap (λ (r : Running P). stated m next st (record { running = r; begun = next.begun; block = s.block; line = s.line + 1 })) knows
        ∙ sym (said_is m s line st next is)

    pub statement_said : (new : Live P) (out_old out_new : Output)
        → IsSaid P (stated m next st (record { running = now; begun = next.begun; block = s.block; line = s.line + 1 })) new out_old out_new
        → IsSaid P (said m s line) new out_old out_new
    statement_said new out_old out_new does = subst (λ (t : Saying P). IsSaid P t new out_old out_new) told_is does

    pub statement_halts : (out_old out_new : Output)
        → Halts P (as_course (stated m next st (record { running = now; begun = next.begun; block = s.block; line = s.line + 1 }))) out_old out_new
        → Halts P (as_course (said m s line)) out_old out_new
    statement_halts out_old out_new halts = subst (λ (t : Saying P). Halts P (as_course t) out_old out_new) told_is halts

-- nothing was written
pub unwritten_halts : {P : Type 0} → (told : Saying P) (old new : List ℕ) (count : ℕ) (log : Option (List (ℕ × Bool))) → new ≡ old
    → Halts P (as_course told) (record { lines = old; count = count; log = log }) (record { lines = new; count = count; log = log })
unwritten_halts {P} told old new count log same =
    subst (λ (l : List ℕ). Halts P (as_course told) (record { lines = old; count = count; log = log }) (record { lines = l; count = count; log = log })) (sym same)
    (halts_at_once (as_course told) (record { lines = old; count = count; log = log }))
