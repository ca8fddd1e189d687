-- What interning leaves.
use Rattle.std.proofs.Common.{◌≡◌, ℕ, ◌+◌, ◌≤◌, Bool, true, false, ◌||◌, cond, List, [], ◌∷◌, ◌++◌, length, nat_lt, refl, sym, ap, ◌∙◌, arith, length-append, append_assoc, Ok, subst, not, suc}
use Rattle.std.specs.List.{list_any, position_or_len}
use Rattle.std.specs.Str.{bytes_eq}
use Rattle.std.proofs.lemmas.Bool.{lt-ltb}
use Rattle.std.proofs.lemmas.List.{append-nil}
use Rattle.desk_names.specs.Name.{IsName, is_name}
use Rattle.desk_names.specs.Names.{place_of}
use Rattle.script_words.specs.Word.{numbered}
use Rattle.desk_names.specs.Names.{has_text, with_text, most_names, IsNames}
use Rattle.script_words.specs.Given.{Grows}

room_by : (known : Bool) (names : List (List ℕ)) (word : List ℕ) → length (cond known names (names ++ word ∷ [])) ≤ 65536 → (known || nat_lt (length names) 65536) ≡ true
room_by true names word h = refl
room_by false names word h = lt-ltb (length names) 65536 (omega (arith, simp length-append at h))

-- where the names with a text are as many as there may be, there was room for it
pub room_left : (names : List (List ℕ)) (word : List ℕ) → IsNames (with_text names word) → (has_text names word || nat_lt (length names) most_names) ≡ true
unfolding with_text
room_left names word h = room_by (has_text names word) names word h.room

grows_by : (known : Bool) (names : List (List ℕ)) (word : List ℕ) → Grows names (cond known names (names ++ word ∷ []))
grows_by true names word = record { more = []; whole = sym (append-nil names) }
grows_by false names word = record { more = word ∷ []; whole = refl }

-- a text goes behind the names
pub grows_with : (names : List (List ℕ)) (word : List ℕ) → Grows names (with_text names word)
unfolding with_text
grows_with names word = grows_by (has_text names word) names word

pub grows_same : (names : List (List ℕ)) → Grows names names
grows_same names = record { more = []; whole = sym (append-nil names) }

pub grows_on : (a b c : List (List ℕ)) → Grows a b → Grows b c → Grows a c
grows_on a b c g h = record { more = g.more ++ h.more; whole = h.whole ∙ ap (λ x. x ++ h.more) g.whole ∙ append_assoc a g.more h.more }

-- a name that was interned is numbered so
pub numbered_ok : (names new : List (List ℕ)) (word : List ℕ) (n : ℕ) → n ≡ place_of names word → new ≡ with_text names word → IsName word → IsNames new → numbered names word ≡ Ok (n, new)
unfolding numbered
numbered_ok names new word n place kept named fine =
    let good : is_name word ≡ true = named in
    let room : (has_text names word || nat_lt (length names) most_names) ≡ true = room_left names word (subst IsNames kept fine) in
    rw (good, room) (cc)

absent_at : {X : Type 0} (p : X → Bool) (xs : List X) → list_any p xs ≡ false → position_or_len p xs ≡ length xs
absent_at p [] h = refl
absent_at p (x ∷ xs) h = step (p x) h (absent_at p xs)
  where
    step : (b : Bool) → (b || list_any p xs) ≡ false → (list_any p xs ≡ false → position_or_len p xs ≡ length xs) → cond (not b) (1 + position_or_len p xs) 0 ≡ suc (length xs)
    step true h more = cc
    step false h more = let e : position_or_len p xs ≡ length xs = more h in omega (arith, e)

-- a text that is no name has the number of names as its place
pub place_absent : (names : List (List ℕ)) (text : List ℕ) → has_text names text ≡ false → place_of names text ≡ length names
unfolding has_text place_of
place_absent names text h = absent_at (bytes_eq text) names h
