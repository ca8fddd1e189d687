-- The definitions at texts and lists whose answers are known.
use Rattle.std.proofs.Common.{◌≡◌, true, false, [], ◌∷◌, refl}
use Rattle.std.specs.Prelude.{codes}
use Rattle.desk_names.specs.Name.{is_name, has_form, is_name_byte, is_reserved}
use Rattle.desk_names.specs.Names.{has_text, with_text, place_of}

-- letters, digits and `_` after a letter; 32 bytes; a reserved word in other letters
names_rows : (is_name (codes "q") ≡ true) × (is_name (codes "EUR_6m") ≡ true) × (is_name (codes "abcdefghijklmnopqrstuvwxyz012345") ≡ true) × (is_name (codes "Unset") ≡ true) × (is_name (codes "nones") ≡ true)
unfolding is_name has_form is_name_byte is_reserved
names_rows = (refl, refl, refl, refl, refl)

-- no text; a first byte that is no letter; a byte that is none of these, in one byte or two; 33 bytes; the reserved words
no_names_rows : (is_name [] ≡ false) × (is_name (codes "_a") ≡ false) × (is_name (codes "1a") ≡ false) × (is_name (codes "a-b") ≡ false) × (is_name (0xC3 ∷ 0xA9 ∷ []) ≡ false) × (is_name (codes "abcdefghijklmnopqrstuvwxyz0123456") ≡ false) × (is_name (codes "none") ≡ false) × (is_name (codes "unset") ≡ false)
unfolding is_name has_form is_name_byte is_reserved
no_names_rows = (refl, refl, refl, refl, refl, refl, refl, refl)

-- a known text keeps the names and has its place, and a new one goes last
kept_rows : (with_text (codes "a" ∷ codes "b" ∷ []) (codes "b") ≡ codes "a" ∷ codes "b" ∷ []) × (place_of (codes "a" ∷ codes "b" ∷ []) (codes "b") ≡ 1) × (with_text (codes "a" ∷ codes "b" ∷ []) (codes "c") ≡ codes "a" ∷ codes "b" ∷ codes "c" ∷ []) × (place_of (codes "a" ∷ codes "b" ∷ []) (codes "c") ≡ 2)
unfolding has_text with_text place_of
kept_rows = (refl, refl, refl, refl)
