-- How many new names the words of a row name.
use Rattle.std.proofs.Common.{◌≡◌, ℕ, ◌+◌, ◌≤◌, Bool, true, false, not, ◌&&◌, ◌||◌, cond, List, [], ◌∷◌, ◌++◌, length, Result, Err, refl, sym, ap, subst, ◌∙◌, ⊎_elim, length-append, arith}
use Rattle.std.specs.List.{list_any}
use Rattle.std.specs.Str.{bytes_eq}
use Rattle.std.proofs.lemmas.Bool.{cases_Bool}
use Rattle.std.proofs.lemmas.List.Folds.{list_any-append}
use Rattle.desk_names.specs.Names.{has_text, with_text, most_names}
use Rattle.desk_names.proofs.NameLaws.{known_stays, new_goes_last}
use Rattle.session_commands.specs.declared.table.Kind.{Kind}
use Rattle.session_commands.specs.Table.{Row}
use Rattle.script_words.specs.declared.line_fault.LineFault.{LineFault}
use Rattle.script_words.specs.declared.line_fault.LineFault.TheVariants as fault
use Rattle.script_words.specs.Given.{Keeps}
use Rattle.script_words.specs.Word.{names_one, names_new, with_name}
use Rattle.script_words.proofs.NamedWords.{longer}
use Rattle.session_lang.specs.Statement.{word, names_with}

or_false : (b : Bool) → (b || false) ≡ b
or_false true = refl
or_false false = refl

pushed : (N : List (List ℕ)) (w t : List ℕ) → has_text (N ++ w ∷ []) t ≡ (has_text N t || bytes_eq t w)
unfolding has_text
pushed N w t = list_any-append (bytes_eq t) N (w ∷ []) ∙ ap (λ b. list_any (bytes_eq t) N || b) (or_false (bytes_eq t w))

-- a text is among the names with another where it was before, or is that other and new
has_with : (N : List (List ℕ)) (w t : List ℕ) → has_text (with_text N w) t ≡ (has_text N t || (not (has_text N w) && bytes_eq t w))
has_with N w t = ⊎_elim
    (λ h. ap (λ l. has_text l t) (known_stays N w h) ∙ sym (ap (λ b. has_text N t || (not b && bytes_eq t w)) h ∙ or_false (has_text N t)))
    (λ h. ap (λ l. has_text l t) (new_goes_last N w h) ∙ pushed N w t ∙ sym (ap (λ b. has_text N t || (not b && bytes_eq t w)) h))
    (cases_Bool (has_text N w))

plus_none : (n : ℕ) → n ≡ n + 0
plus_none n = omega arith

length_with : (N : List (List ℕ)) (w : List ℕ) → length (with_text N w) ≡ length N + cond (not (has_text N w)) 1 0
length_with N w = ⊎_elim
    (λ h. ap (λ l. length l) (known_stays N w h) ∙ plus_none (length N) ∙ sym (ap (λ b. length N + cond (not b) 1 0) h))
    (λ h. ap (λ l. length l) (new_goes_last N w h) ∙ length-append N (w ∷ []) ∙ sym (ap (λ b. length N + cond (not b) 1 0) h))
    (cases_Bool (has_text N w))

-- the same of a word where a kind is asked for
has_named : (k : Kind) (w t : List ℕ) (N : List (List ℕ)) → has_text (with_name k w N) t ≡ (has_text N t || (names_new N k w && bytes_eq t w))
has_named k w t N = by (names_one k w)
  where
    by : (one : Bool) → has_text (cond one (with_text N w) N) t ≡ (has_text N t || ((one && not (has_text N w)) && bytes_eq t w))
    by true = has_with N w t
    by false = sym (or_false (has_text N t))

pub length_named : (k : Kind) (w : List ℕ) (N : List (List ℕ)) → length (with_name k w N) ≡ length N + cond (names_new N k w) 1 0
length_named k w N = by (names_one k w)
  where
    by : (one : Bool) → length (cond one (with_text N w) N) ≡ length N + cond (one && not (has_text N w)) 1 0
    by true = length_with N w
    by false = plus_none (length N)

split : (one x y : Bool) → (one && not (x || y)) ≡ ((one && not x) && not y)
split true true y = refl
split true false y = refl
split false x y = refl

-- a word names one that is new behind another where it is new and not that other
new_behind : (k j : Kind) (w t : List ℕ) (N : List (List ℕ)) → names_new (with_name k w N) j t ≡ (names_new N j t && not (names_new N k w && bytes_eq t w))
new_behind k j w t N =
    ap (λ b. names_one j t && not b) (has_named k w t N) ∙ split (names_one j t) (has_text N t) (names_new N k w && bytes_eq t w)

sum_of : (n a b c : ℕ) → n + a + b + c ≡ n + (a + b + c)
sum_of n a b c = omega arith

-- the names with those in three words, by which of them are new
pub counted : (k1 k2 k3 : Kind) (a b c : List ℕ) (N : List (List ℕ)) (first second third : Bool) → first ≡ names_new N k1 a
    → second ≡ (names_new N k2 b && not (first && bytes_eq b a))
    → third ≡ ((names_new N k3 c && not (first && bytes_eq c a)) && not (second && bytes_eq c b))
    → length (with_name k3 c (with_name k2 b (with_name k1 a N))) ≡ length N + (cond first 1 0 + cond second 1 0 + cond third 1 0)
counted k1 k2 k3 a b c N first second third one two three =
    length_named k3 c (with_name k2 b (with_name k1 a N))
    ∙ ap (λ x. length (with_name k2 b (with_name k1 a N)) + cond x 1 0) third_is
    ∙ ap (λ n. n + cond third 1 0) (length_named k2 b (with_name k1 a N) ∙ ap (λ x. length (with_name k1 a N) + cond x 1 0) second_is)
    ∙ ap (λ n. n + cond second 1 0 + cond third 1 0) (length_named k1 a N ∙ ap (λ x. length N + cond x 1 0) (sym one))
    ∙ sum_of (length N) (cond first 1 0) (cond second 1 0) (cond third 1 0)
  where
    second_is : names_new (with_name k1 a N) k2 b ≡ second
    second_is = new_behind k1 k2 a b N ∙ ap (λ x. names_new N k2 b && not (x && bytes_eq b a)) (sym one) ∙ sym two

    third_is : names_new (with_name k2 b (with_name k1 a N)) k3 c ≡ third
    third_is =
        new_behind k2 k3 b c (with_name k1 a N)
        ∙ ap (λ x. names_new (with_name k1 a N) k3 c && not (x && bytes_eq c b)) second_is
        ∙ ap (λ x. x && not (second && bytes_eq c b)) (new_behind k1 k3 a c N ∙ ap (λ x. names_new N k3 c && not (x && bytes_eq c a)) (sym one))
        ∙ sym three

-- the same of words and kinds that are read from the row and the line
pub counted_here : (r : Row) (words N : List (List ℕ)) (j1 j2 j3 : Kind) (u v w : List ℕ) (first second third last : Bool) (count : ℕ) → j1 ≡ r.first → j2 ≡ r.second → j3 ≡ r.third
    → u ≡ word words 0 → v ≡ word words 1 → w ≡ word words 2
    → first ≡ names_new N j1 u
    → second ≡ (names_new N j2 v && not (first && bytes_eq v u))
    → third ≡ (names_new N j3 w && not (first && bytes_eq w u))
    → last ≡ (third && not (second && bytes_eq w v))
    → count ≡ cond first 1 0 + cond second 1 0 + cond last 1 0
    → length (names_with r words N) ≡ length N + count
counted_here r words N j1 j2 j3 u v w first second third last count h1 h2 h3 hu hv hw one two three four is =
    counted r.first r.second r.third (word words 0) (word words 1) (word words 2) N first second last
    (one ∙ ap (λ j. names_new N j u) h1 ∙ ap (names_new N r.first) hu)
    (two ∙ ap (λ j. names_new N j v && not (first && bytes_eq v u)) h2 ∙ ap (λ x. names_new N r.second x && not (first && bytes_eq x u)) hv ∙ ap (λ x. names_new N r.second (word words 1) && not (first && bytes_eq (word words 1) x)) hu)
    (four
    ∙ ap (λ t. t && not (second && bytes_eq w v)) (three ∙ ap (λ j. names_new N j w && not (first && bytes_eq w u)) h3)
    ∙ ap (λ x. (names_new N r.third x && not (first && bytes_eq x u)) && not (second && bytes_eq x v)) hw
    ∙ ap (λ x. (names_new N r.third (word words 2) && not (first && bytes_eq (word words 2) x)) && not (second && bytes_eq (word words 2) v)) hu
    ∙ ap (λ x. (names_new N r.third (word words 2) && not (first && bytes_eq (word words 2) (word words 0))) && not (second && bytes_eq (word words 2) x)) hv)
    ∙ ap (λ n. length N + n) (sym is)

at_most_one : (b : Bool) → cond b 1 0 ≤ 1
at_most_one true = omega arith
at_most_one false = omega arith

-- the words of a row name at most three that are new
pub at_most_three : (r : Row) (words N : List (List ℕ)) → length (names_with r words N) ≤ length N + 3
at_most_three r words N =
    let M = with_name r.first (word words 0) N in
    let L = with_name r.second (word words 1) M in
    omega (arith, length_named r.first (word words 0) N, length_named r.second (word words 1) M, length_named r.third (word words 2) L, at_most_one (names_new N r.first (word words 0)), at_most_one (names_new M r.second (word words 1)), at_most_one (names_new L r.third (word words 2)))

-- where there is room for all, there is for the first and for the second
pub rooms : (r : Row) (words N : List (List ℕ)) → length (names_with r words N) ≤ most_names
    → (length (with_name r.first (word words 0) N) ≤ most_names) × (length (with_name r.second (word words 1) (with_name r.first (word words 0) N)) ≤ most_names)
rooms r words N room =
    let one = longer r.second (word words 1) (with_name r.first (word words 0) N) in
    let two = longer r.third (word words 2) (with_name r.second (word words 1) (with_name r.first (word words 0) N)) in (
      omega (arith, room, one, two),
      omega (arith, room, two),
    )

-- want of memory says nothing of the names
pub memory_keeps : {X : Type 0} (e : LineFault) (out : Result X LineFault) (old new : List (List ℕ)) → out ≡ Err e → e ≡ fault.NoMemory → Keeps out old new
memory_keeps {X} e out old new is h = subst (λ (r : Result X LineFault). Keeps r old new) (sym (is ∙ ap (λ f. Err f) h)) tt
