-- What a line that was read leaves.
use Rattle.std.proofs.Common.{◌≡◌, ℕ, Bool, false, List, [], ◌∷◌, length, Ok, ap, ◌∙◌}
use Rattle.std.proofs.lemmas.List.{length-append}
use Rattle.desk_names.specs.Names.{IsNames}
use Rattle.session_lang.specs.declared.statement.Statement.{Statement}
use Rattle.session_lang.specs.declared.statement.Statement.TheVariants.{Blank, Begin, End, Run}
use Rattle.session_lang.specs.Statement.{Known, line_meaning}
use Rattle.session_lang.specs.Reading.{lacks}
use Rattle.session_lang.proofs.ReadLines.{Says, line_is_read}
use Rattle.session_lang.proofs.RowLinks.{linked_fits}
use Rattle.live_model.proofs.Meanings.{line_begins}
use Rattle.live_session.specs.Standing.{Leaves, IsRead}

leaves : (inside : Bool) (known next : Known) (line : List ℕ) (st : Statement) → line_meaning known inside line ≡ Ok (st, next) → lacks next st ≡ false
    → Says known next st → Leaves inside known.begun next st
leaves inside known next line Blank read has says = says
leaves inside known next line End read has says = says
leaves inside known next line (Begin name) read has says = (
  line_begins known next inside line name read,
  record { more = says.0 ∷ []; whole = says.2 },
  ap length says.2 ∙ length-append known.begun (says.0 ∷ []),
)
leaves inside known next line (Run c) read has says = (says.0, linked_fits next (length next.names) c says.1 has)

pub is_read : (inside : Bool) (known next : Known) (line : List ℕ) (st : Statement) → IsNames known.names → IsNames known.begun
    → line_meaning known inside line ≡ Ok (st, next) → lacks next st ≡ false → IsRead inside known next st
is_read inside known next line st names begun read has =
    let one = line_is_read known next inside line st names begun read in
    record { grows = one.grows; leaves = leaves inside known next line st read has one.says }
