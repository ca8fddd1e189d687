use Rattle.std.proofs.Common.{◌≡◌, ℕ, Bool, true, false, List, [], ◌∷◌, refl, subst}
use Rattle.std.specs.Prelude.{◌&&◌, All}
use Rattle.std.specs.Char.{is_ascii_alphabetic}
use Rattle.std.specs.List.{list_all}
use Rattle.std.proofs.lemmas.List.Elements.{All-nil, All-cons}
use Rattle.desk_names.specs.Name.{is_name_byte, has_form}
use Rattle.graph_dot.specs.Plain.{IsPlain}
use Rattle.graph_dot.proofs.rows.names_are_plain.Goals as goal

both : (a b : Bool) → (a && b) ≡ true → (a ≡ true) × (b ≡ true)
both true b e = (refl, e)
both false b e = absurd (let none : false ≡ true = e in cc)

letter : (byte : ℕ) → is_ascii_alphabetic byte ≡ true → IsPlain byte
letter byte is = record {
  quote = λ e. let none : false ≡ true = subst (λ (b : ℕ). is_ascii_alphabetic b ≡ true) e is in cc;
  escape = λ e. let none : false ≡ true = subst (λ (b : ℕ). is_ascii_alphabetic b ≡ true) e is in cc;
}

name_byte : (byte : ℕ) → is_name_byte byte ≡ true → IsPlain byte
unfolding is_name_byte
name_byte byte is = record {
  quote = λ e. let none : false ≡ true = subst (λ (b : ℕ). is_name_byte b ≡ true) e is in cc;
  escape = λ e. let none : false ≡ true = subst (λ (b : ℕ). is_name_byte b ≡ true) e is in cc;
}

name_bytes : (bytes : List ℕ) → list_all is_name_byte bytes ≡ true → All IsPlain bytes
name_bytes [] all = All-nil IsPlain
name_bytes (byte ∷ bytes) all =
    let parts = both (is_name_byte byte) (list_all is_name_byte bytes) all in
    All-cons IsPlain byte bytes (name_byte byte parts.0) (name_bytes bytes parts.1)

plain : (name : List ℕ) → has_form name ≡ true → All IsPlain name
unfolding has_form
plain [] form = All-nil IsPlain
plain (first ∷ rest) form =
    let parts = both (is_ascii_alphabetic first) (list_all is_name_byte rest) form in
    All-cons IsPlain first rest (letter first parts.0) (name_bytes rest parts.1)

pub returns : goal.returns
returns c = plain
