-- Laws of the names as a list of texts, for the calls of this crate and for the crates above.
use Rattle.std.proofs.Common.{◌≡◌, ◌≢◌, ℕ, ◌+◌, ◌<◌, Bool, true, false, cond, not, suc, ◌||◌, nat_lt, List, [], ◌∷◌, ◌++◌, None, Some, length, map, AllPairs, slice_get, get_or, refl, sym, ap, subst, ◌∙◌, ⊎_elim, length-append, arith}
use Rattle.std.proofs.lemmas.Bool.{true≢false, cases_Bool}
use Rattle.std.proofs.lemmas.Bool.Decides.{nat_tests}
use Rattle.std.proofs.lemmas.List.{map-append}
use Rattle.std.proofs.lemmas.List.Elements.{All-push, All-get_or}
use Rattle.std.proofs.lemmas.List.Folds.{list_any_at, list_any-append}
use Rattle.std.proofs.lemmas.List.Quantifiers.{all_pairs_push}
use Rattle.std.proofs.lemmas.List.Sums.{passes_at_first, position_or_len_is}
use Rattle.std.proofs.lemmas.Option.{slice_get-map, slice_get-get_or, slice_get_within, get_or_from_slice_get}
use Rattle.std.proofs.lemmas.Slice.Eq.{bytes_eq-Decides}
use Rattle.std.proofs.Math.Seq.{get_or-append_seam}
use Rattle.std.specs.Prelude.{if◌then◌else◌}
use Rattle.std.specs.List.{list_any, position, position_or_len}
use Rattle.std.specs.Option.{option_map}
use Rattle.std.specs.Str.{bytes_eq}
use Rattle.desk_names.specs.Name.{IsName}
use Rattle.desk_names.specs.Names.{has_text, with_text, place_of, most_names, IsNames}

module _ {X Y : Type 0} (p : Y → Bool) (f : X → Y) where
  -- a test meets a mapped list as the test after the map meets the list
  pub list_any-map : (xs : List X) → list_any p (map f xs) ≡ list_any (λ x. p (f x)) xs
  list_any-map [] = refl
  list_any-map (x ∷ xs) = ap (λ b. p (f x) || b) (list_any-map xs)

  pub position_or_len-map : (xs : List X) → position_or_len p (map f xs) ≡ position_or_len (λ x. p (f x)) xs
  position_or_len-map [] = refl
  position_or_len-map (x ∷ xs) = ap (λ n. cond (not (p (f x))) (1 + n) 0) (position_or_len-map xs)

module _ {X : Type 0} (p : X → Bool) where
  -- an element passes where the first that does stands before the end
  pub list_any-first : (xs : List X) → list_any p xs ≡ nat_lt (position_or_len p xs) (length xs)
  list_any-first [] = refl
  list_any-first (x ∷ xs) = step (p x) (list_any p xs) (position_or_len p xs) (length xs) (list_any-first xs)
    where
      step : (b c : Bool) (m n : ℕ) → c ≡ nat_lt m n → (b || c) ≡ nat_lt (cond (not b) (1 + m) 0) (suc n)
      step true c m n e = grind (arith, nat_tests)
      step false c m n e = grind (arith, nat_tests)

  -- a longer list has the same first, where there is one
  pub position_or_len-longer : (xs ys : List X) → list_any p xs ≡ true → position_or_len p (xs ++ ys) ≡ position_or_len p xs
  position_or_len-longer [] ys h = absurd (true≢false (sym h))
  position_or_len-longer (x ∷ xs) ys h = step (p x) (position_or_len-longer xs ys) h
    where
      step : (b : Bool) → (list_any p xs ≡ true → position_or_len p (xs ++ ys) ≡ position_or_len p xs) → (b || list_any p xs) ≡ true → cond (not b) (1 + position_or_len p (xs ++ ys)) 0 ≡ cond (not b) (1 + position_or_len p xs) 0
      step true rest e = refl
      step false rest e = ap (λ n. 1 + n) (rest e)

  -- where the first stands, in the form of an option
  pub position-Some_first : (xs : List X) (i : ℕ) → position p xs ≡ Some i → position_or_len p xs ≡ i
  position-Some_first xs i e = by (list_any p xs) (rw (← list_any-first xs) at e)
    where
      by : (b : Bool) → cond b (Some (position_or_len p xs)) None ≡ Some i → position_or_len p xs ≡ i
      by true h = cc
      by false h = cc

module _ {X : Type 0} (f : X → List ℕ) (xs : List X) (text : List ℕ) where
  -- a look-up by a text of items of which each has one
  pub has_text-map : list_any (λ x. bytes_eq text (f x)) xs ≡ has_text (map f xs) text
  unfolding has_text
  has_text-map = sym (list_any-map (bytes_eq text) f xs)

  pub place_of-map : position_or_len (λ x. bytes_eq text (f x)) xs ≡ place_of (map f xs) text
  unfolding place_of
  place_of-map = sym (position_or_len-map (bytes_eq text) f xs)

  -- what is read at a place is the text there
  pub slice_get-map_read : (i : ℕ) (x : X) → i < length xs → x ≡ get_or xs i x → f x ≡ text → slice_get (map f xs) i ≡ Some text
  slice_get-map_read i x lt read same =
      slice_get-map f xs i ∙ ap (option_map f) (slice_get-get_or xs i x lt ∙ ap Some (sym read)) ∙ ap Some same

  -- an item whose text is new goes last
  pub inserted-map : (x : X) → f x ≡ text → has_text (map f xs) text ≡ false → map f (if list_any (λ y. bytes_eq (f x) (f y)) xs then xs else xs ++ x ∷ []) ≡ map f xs ++ text ∷ []
  inserted-map x same new =
      let absent : list_any (λ y. bytes_eq (f x) (f y)) xs ≡ false = ap (λ t. list_any (λ y. bytes_eq t (f y)) xs) same ∙ has_text-map ∙ new in
      rw absent (map-append f xs (x ∷ []) ∙ ap (λ t. map f xs ++ t ∷ []) same)

module _ (names : List (List ℕ)) (text : List ℕ) where
  -- a text that is known stands before the end
  pub place_of-lt : has_text names text ≡ true → place_of names text < length names
  unfolding place_of has_text
  place_of-lt h = let e = sym (list_any-first (bytes_eq text) names) ∙ h in grind (arith, nat_tests)

  -- at its place
  pub slice_get-place_of : has_text names text ≡ true → slice_get names (place_of names text) ≡ Some text
  unfolding place_of
  slice_get-place_of h =
      let lt = place_of-lt h in
      let same : text ≡ get_or names (place_of names text) text = (bytes_eq-Decides text _).0 (passes_at_first (bytes_eq text) names text lt) in
      slice_get-get_or names (place_of names text) text lt ∙ ap Some (sym same)

  -- a text that stands somewhere is known
  pub has_text-at : (i : ℕ) → slice_get names i ≡ Some text → has_text names text ≡ true
  unfolding has_text
  has_text-at i e =
      let same = get_or_from_slice_get names i text text e in
      list_any_at (bytes_eq text) names i text (slice_get_within names i text e) ((bytes_eq-Decides text _).1 (sym same))

  -- with no text twice, a text's place is the only one at which it stands
  pub place_of-at : AllPairs (λ one other. one ≢ other) names → (i : ℕ) → slice_get names i ≡ Some text → place_of names text ≡ i
  unfolding place_of
  place_of-at distinct i e =
      let lt = slice_get_within names i text e in
      let here = get_or_from_slice_get names i text text e in
      position_or_len_is (bytes_eq text) names i text (omega arith)
      (λ k below. differs (get_or names k text) (λ same. distinct k i text below lt (sym same ∙ sym here)))
      (λ _. (bytes_eq-Decides text _).1 (sym here))
    where
      differs : (other : List ℕ) → text ≢ other → bytes_eq text other ≡ false
      differs other h = ⊎_elim (λ same. absurd (h ((bytes_eq-Decides text other).0 same))) (λ no. no) (cases_Bool (bytes_eq text other))

  -- a text that is known changes nothing, and one that is new goes last
  pub known_stays : has_text names text ≡ true → with_text names text ≡ names
  unfolding with_text
  known_stays h = rw h refl

  pub new_goes_last : has_text names text ≡ false → with_text names text ≡ names ++ text ∷ []
  unfolding with_text
  new_goes_last h = rw h refl

  -- each of the names is a name
  pub IsName-at : IsNames names → (i : ℕ) → slice_get names i ≡ Some text → IsName text
  IsName-at sound i e =
      subst IsName (get_or_from_slice_get names i text text e) (All-get_or IsName names i text (slice_get_within names i text e) sound.named)

  pub IsName-known : IsNames names → has_text names text ≡ true → IsName text
  IsName-known sound h = IsName-at sound (place_of names text) (slice_get-place_of h)

  -- a name that is new keeps the names sound, where there is room
  pub IsNames-new : IsNames names → IsName text → has_text names text ≡ false → length names < most_names → IsNames (names ++ text ∷ [])
  unfolding has_text
  IsNames-new sound name new room = record {
    distinct = all_pairs_push (λ one other. one ≢ other) names text sound.distinct (λ k d lt same. true≢false (sym (list_any_at (bytes_eq text) names k d lt ((bytes_eq-Decides text _).1 (sym same))) ∙ new));
    named = All-push IsName names text sound.named name;
    room = simp length-append (omega (arith, room));
  }

  -- with a text that is a name, and room if it is new, the names stay sound
  pub IsNames-with_text : IsNames names → IsName text → (has_text names text ≡ false → length names < most_names) → IsNames (with_text names text)
  IsNames-with_text sound name room =
      ⊎_elim (λ known. subst IsNames (sym (known_stays known)) sound) (λ new. subst IsNames (sym (new_goes_last new)) (IsNames-new sound name new (room new)))
      (cases_Bool (has_text names text))

  -- the text is then among the names
  pub has_text-with_text : has_text (with_text names text) text ≡ true
  unfolding has_text
  has_text-with_text =
      ⊎_elim (λ known. ap (λ all. has_text all text) (known_stays known) ∙ known) (λ new. ap (λ all. has_text all text) (new_goes_last new) ∙ last) (cases_Bool (has_text names text))
    where
      last : has_text (names ++ text ∷ []) text ≡ true
      last = list_any_at (bytes_eq text) (names ++ text ∷ []) (length names) text (simp length-append (omega arith)) ((bytes_eq-Decides text _).1 (sym (get_or-append_seam names text [] text)))

  -- and what was among them keeps its number
  pub has_text-kept : (other : List ℕ) → has_text names other ≡ true → has_text (with_text names text) other ≡ true
  unfolding has_text
  has_text-kept other h =
      ⊎_elim (λ known. ap (λ all. has_text all other) (known_stays known) ∙ h)
      (λ new. ap (λ all. has_text all other) (new_goes_last new) ∙ list_any-append (bytes_eq other) names (text ∷ []) ∙ ap (λ b. b || list_any (bytes_eq other) (text ∷ [])) h)
      (cases_Bool (has_text names text))

  pub place_of-kept : (other : List ℕ) → has_text names other ≡ true → place_of (with_text names text) other ≡ place_of names other
  unfolding has_text place_of
  place_of-kept other h =
      ⊎_elim (λ known. ap (λ all. place_of all other) (known_stays known))
      (λ new. ap (λ all. place_of all other) (new_goes_last new) ∙ position_or_len-longer (bytes_eq other) names (text ∷ []) h)
      (cases_Bool (has_text names text))

-- two numbers of names that differ have texts that differ
pub texts_differ : (names : List (List ℕ)) → IsNames names → (i j : ℕ) (one other : List ℕ) → slice_get names i ≡ Some one → slice_get names j ≡ Some other → i ≢ j → one ≢ other
texts_differ names sound i j one other at_i at_j apart same =
    apart (sym (place_of-at names one sound.distinct i at_i) ∙ ap (place_of names) same ∙ place_of-at names other sound.distinct j at_j)
