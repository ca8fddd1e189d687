use Rattle.std.proofs.Common.{◌≡◌, ◌∙◌, ℕ, ◌≤◌, List, map, Bor, length, Some, sym, ap, unsigned_abs, w64, FitsSigned, to_z-of_z, arith}
use Rattle.std.proofs.lemmas.Int.{fits_signed_from_abs}
use Rattle.std.proofs.Math.ListN.{get_or-map}
use Rattle.std.proofs.lemmas.List.{length-map}
use Rattle.script_words.proofs.ReadFields.{weight_fits}
use Rattle.session_lang.proofs.KnownLines.{name_found, weight_found, member_said}
use Rattle.session_lang.proofs.statement.known_member.Goals as goal

pub returns-in_ok-weight_of_word-in-len3 : goal.returns-in_ok-weight_of_word-in-len3
returns-in_ok-weight_of_word-in-len3 c = λ begun.
    let names = c.args.names.now in
    let now : Bor (List ℕ) → List ℕ = λ w. w.now in
    let one = c.in_ok-find-in-len3.ensures in
    let two = c.in_ok-find-in-len3-2.ensures in
    let weight = c.in_ok-weight_of_word-in-len3.field-0 in
    let read = c.in_ok-weight_of_word-in-len3.ensures in
    let small : unsigned_abs weight ≤ 1_000_000 = weight_fits _ weight (sym read) in
    let fits : FitsSigned w64 weight = fits_signed_from_abs w64 weight (omega (arith, small)) in
    let counted : length c.args.words.now ≡ 3 = omega (arith, c.in-len3.len_at_least, c.in-len3.len_below) in
    member_said names begun (map now c.args.words.now) _ _ _ (length-map _ _ ∙ counted)
    (name_found names one.names _ _ _ (get_or-map now c.args.words.now 0 _) one.found one.place)
    (name_found names two.names _ _ _ (get_or-map now c.args.words.now 1 _) two.found two.place)
    (weight_found names _ _ _ (get_or-map now c.args.words.now 2 _) (ap Some (to_z-of_z fits) ∙ read))
