use Rattle.std.proofs.Common.{inl, inr}
use Rattle.std.proofs.lemmas.Bool.{cases_Bool}
use Rattle.std.proofs.lemmas.Str.{IsUtf8-from_is_utf8, is_utf8-from_IsUtf8}
use Rattle.std.specs.Str.{is_utf8}
use Rattle.market_file.proofs.document.read_document.Goals as goal

pub returns-in-Ok : goal.returns-in-Ok
returns-in-Ok c =
    let (same, utf8) = c.in-Ok.ensures.cases in
    rw (is_utf8-from_IsUtf8 _ utf8, ← same) c.document.ensures

pub returns-in-Err : goal.returns-in-Err
returns-in-Err c = elim (cases_Bool (is_utf8 c.args.text.now)) [
  | inl good ↦ absurd (c.in-Err.ensures.cases.0 (IsUtf8-from_is_utf8 _ good))
  | inr bad ↦ rw bad
]
