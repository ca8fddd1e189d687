-- The first fault of a line's words, said without the reader, is the one that the reader tells.
use Rattle.std.proofs.Common.{◌≡◌, ℕ, ◌+◌, ◌<◌, ◌≤◌, Bool, true, false, not, ◌||◌, ◌==◌, cond, List, [], ◌∷◌, ◌++◌, length, slice_get, slice_index_or, nat_lt, nat_le, Option, Some, None, Result, Ok, Err, codes, refl, sym, ap, subst, ◌∙◌, length-append, arith}
use Rattle.std.specs.Str.{bytes_eq}
use Rattle.std.proofs.lemmas.Bool.{lt-ltb, ltb-true, ltb-false, leb-false}
use Rattle.std.proofs.lemmas.List.{append-nil, get_or_append_left}
use Rattle.std.proofs.lemmas.Option.{slice_get_within, get_or_from_slice_get}
use Rattle.desk_names.specs.Name.{is_name}
use Rattle.desk_names.specs.Names.{has_text, with_text, place_of, most_names, IsNames}
use Rattle.desk_names.proofs.NameLaws.{new_goes_last}
use Rattle.session_commands.specs.declared.script_kind.ScriptKind.{ScriptKind}
use Rattle.session_commands.specs.declared.script_kind.ScriptKind.TheVariants as fault
use Rattle.session_commands.specs.declared.table.Kind.{Kind}
use Rattle.session_commands.specs.declared.table.Kind.TheVariants as kind
use Rattle.session_commands.specs.declared.table.Verb.{Verb}
use Rattle.session_commands.specs.declared.table.Verb.TheVariants as verb
use Rattle.session_commands.specs.declared.field.Field.{Field}
use Rattle.session_commands.specs.declared.field.Field.TheVariants.{Nothing, Name, Value, Number, Day, Weight, Engine, Flag, Action}
use Rattle.session_commands.specs.Field.{action_in}
use Rattle.session_commands.specs.Table.{row_of, verb_of, words_in}
use Rattle.session_commands.specs.declared.parts.Parts.{Parts}
use Rattle.session_commands.specs.Parts.{command_of, the_command, together}
use Rattle.session_commands.specs.Sorts.{IsOf}
use Rattle.script_words.specs.Given.{◌>>=◌, Grows}
use Rattle.script_words.proofs.ReadFields.{bind_ok, ok_is, numbered_is, field_read}
use Rattle.session_lang.proofs.RowLinks.{row_parts}
use Rattle.session_lang.proofs.ReadLines.{grows_length}
use Rattle.session_lang.specs.Reading.{action_of}
use Rattle.script_words.specs.Word.{fault_of, names_one, numbered, with_name, named_field, plain_field, field_of}
use Rattle.script_words.proofs.NamedWords.{is_named, longer}
use Rattle.script_words.proofs.Sorts.{field_sorted}
use Rattle.session_lang.specs.declared.statement.Statement.{Statement}
use Rattle.session_lang.specs.declared.statement.Statement.TheVariants.{Blank, Begin, End, Run}
use Rattle.session_lang.specs.Statement.{Known, PlainOf, word, or_fault, words_fault, run, names_with, fields_meaning, unless_fault, command_meaning, begin_meaning, end_meaning, words_meaning}
use Rattle.session_lang.specs.FirstFault.{First, blank, begin, end, command, by_verb, first_of, further, places, is_begin, is_mark, names_at, actions_at, with_texts, where_so, first_some, words_faults}

-- whether there are more names than there may be
abbrev pub over : List (List ℕ) → Bool
over names = nat_lt most_names (length names)

-- the first of a line's faults, by what is so of it: its first word unknown, its words as many as they should be, a block
-- inside a block, an end outside, the leftmost word's fault, an action begun before, too many names
abbrev pub told_by : Bool → Bool → Bool → Bool → Option ScriptKind → Bool → Bool → Option ScriptKind
told_by strange counted nested outside in_words twice full =
    first_some (where_so strange fault.Word ∷ where_so (not counted) fault.Count ∷ where_so nested fault.Nested
    ∷ where_so outside fault.End ∷ in_words ∷ where_so twice fault.Twice ∷ where_so full fault.Names ∷ [])

-- what a statement says of the first word
abbrev pub Shows : Statement → First → Type 0
Shows Blank f = is_mark f ≡ false
Shows (Run c) f = is_mark f ≡ false
Shows End f = (is_begin f ≡ false) × (is_mark f ≡ true)
Shows (Begin name) f = (is_begin f ≡ true) × (is_mark f ≡ true)

-- the number of an action's name stands for the one word where an action is asked for
abbrev pub ActsIs : List (List ℕ) → Option ℕ → List (List ℕ) → Type 0
ActsIs names None words = words ≡ []
ActsIs names (Some n) words = (w : List ℕ) × (words ≡ w ∷ []) × (n < length names) × (slice_index_or names n [] ≡ w)

-- the action that a statement names, over these names
abbrev pub Acts : List (List ℕ) → Statement → First → List (List ℕ) → Type 0
Acts names (Run c) f words = ActsIs names (action_of c) (actions_at (places f) 0 words)
Acts names Blank f words = actions_at (places f) 0 words ≡ []
Acts names End f words = actions_at (places f) 0 words ≡ []
Acts names (Begin name) f words = actions_at (places f) 0 words ≡ []

-- a line's words that are read: no fault, and what they leave
pub record Goes (told : Option ScriptKind) (names begun : List (List ℕ)) (f : First) (words : List (List ℕ)) (st : Statement) (next : Known) : Type 0 where
  pub fine : told ≡ None
  pub names_are : next.names ≡ names
  pub begun_are : next.begun ≡ begun
  pub shows : Shows st f
  pub acts : Acts next.names st f words

-- what a line's words say, beside their first fault and what they leave
abbrev pub Are : Option ScriptKind → List (List ℕ) → List (List ℕ) → First → List (List ℕ) → Result (Statement × Known) ScriptKind → Type 0
Are told names begun f words (Ok x) = Goes told names begun f words x.0 x.1
Are told names begun f words (Err k) = told ≡ Some k

abbrev pub WordsAre : List (List ℕ) → List (List ℕ) → Bool → First → List (List ℕ) → Result (Statement × Known) ScriptKind → Type 0
WordsAre N B inside f words r =
    Are (first_some (words_faults N B inside f words)) (with_texts N (names_at (places f) 0 words))
    (B ++ cond (is_begin f) (word words 0 ∷ []) []) f words r

abbrev known_of : List (List ℕ) → List (List ℕ) → Known
known_of N B = record { names = N; begun = B }

room_by : (has : Bool) (names : List (List ℕ)) (text : List ℕ) → length names ≤ 65536 → nat_lt 65536 (length (cond has names (names ++ text ∷ []))) ≡ not (has || nat_lt (length names) 65536)
room_by true names text few = ⊥_is (nat_lt 65536 (length names)) (λ h. omega (arith, few, ltb-true 65536 (length names) h))
  where
    ⊥_is : (b : Bool) → (b ≡ true → ⊥) → b ≡ false
    ⊥_is true h = absurd (h refl)
    ⊥_is false h = refl
room_by false names text few = rw (length-append names (text ∷ [])) (by (nat_lt (length names) 65536) refl)
  where
    by : (b : Bool) → nat_lt (length names) 65536 ≡ b → nat_lt 65536 (length names + 1) ≡ not b
    by true h = no (nat_lt 65536 (length names + 1)) (λ g. omega (arith, ltb-true (length names) 65536 h, ltb-true 65536 (length names + 1) g))
      where
        no : (b : Bool) → (b ≡ true → ⊥) → b ≡ false
        no true h = absurd (h refl)
        no false h = refl
    by false h = lt-ltb 65536 (length names + 1) (omega (arith, ltb-false (length names) 65536 h))

-- there is no room for a text exactly where the names with it are too many
room_is : (names : List (List ℕ)) (text : List ℕ) → length names ≤ most_names → over (with_text names text) ≡ not (has_text names text || nat_lt (length names) most_names)
unfolding with_text
room_is names text few = room_by (has_text names text) names text few

few_over : (names : List (List ℕ)) → length names ≤ most_names → over names ≡ false
few_over names few = no (over names) (λ h. omega (arith, few, ltb-true most_names (length names) h))
  where
    no : (b : Bool) → (b ≡ true → ⊥) → b ≡ false
    no true h = absurd (h refl)
    no false h = refl

end_is : (N B : List (List ℕ)) (inside : Bool) (words : List (List ℕ)) → length N ≤ most_names → WordsAre N B inside end words (end_meaning (known_of N B) inside words)
end_is N B inside words few = by (length words == 0) inside (over N) (few_over N few)
  where
    by : (c i o : Bool) → o ≡ false → Are (told_by false c false (not i) None false (o || false)) N (B ++ []) end words (cond (not c) (Err fault.Count) (cond i (Ok (End, known_of N B)) (Err fault.End)))
    by false i o h = refl
    by true false o h = refl
    by true true false h = record { fine = refl; names_are = refl; begun_are = sym (append-nil B); shows = (refl, refl); acts = refl }
    by true true true h = absurd (cc)

blank_is : (N B : List (List ℕ)) (inside : Bool) → length N ≤ most_names → WordsAre N B inside blank [] (Ok (Blank, known_of N B))
blank_is N B inside few = by inside (over N) (few_over N few)
  where
    by : (i o : Bool) → o ≡ false → Are (told_by false true false false None false (o || false)) N (B ++ []) blank [] (Ok (Blank, known_of N B))
    by i false h = record { fine = refl; names_are = refl; begun_are = sym (append-nil B); shows = refl; acts = refl }
    by i true h = absurd (cc)

small_is : (n : ℕ) → nat_lt 65536 (n + 1) ≡ not (nat_lt n 65536)
small_is n = by (nat_lt n 65536) refl
  where
    no : (b : Bool) → (b ≡ true → ⊥) → b ≡ false
    no true h = absurd (h refl)
    no false h = refl

    by : (b : Bool) → nat_lt n 65536 ≡ b → nat_lt 65536 (n + 1) ≡ not b
    by true h = no (nat_lt 65536 (n + 1)) (λ g. omega (arith, ltb-true n 65536 h, ltb-true 65536 (n + 1) g))
    by false h = lt-ltb 65536 (n + 1) (omega (arith, ltb-false n 65536 h))

abbrev numbering : Bool → Bool → List (List ℕ) → List ℕ → Result (ℕ × List (List ℕ)) ScriptKind
numbering n room names w = cond (not n) (Err fault.Name) (cond room (Ok (place_of names w, with_text names w)) (Err fault.Names))

begin_is : (N B : List (List ℕ)) (inside : Bool) (words : List (List ℕ)) → length N ≤ most_names → WordsAre N B inside begin words (begin_meaning (known_of N B) inside words)
unfolding begin_meaning numbered fault_of
begin_is N B inside words few =
    subst (λ o. Are (told_by false (length words == 1) inside false (or_fault (cond (is_name w) None (Some fault.Name)) None) (has_text B w) (o || nat_lt most_names (length B + 1))) (with_text N w) (B ++ w ∷ []) begin words (begin_meaning (known_of N B) inside words)) (sym (room_is N w few))
    (subst (λ s. Are (told_by false (length words == 1) inside false (or_fault (cond (is_name w) None (Some fault.Name)) None) (has_text B w) (not (has_text N w || nat_lt (length N) most_names) || s)) (with_text N w) (B ++ w ∷ []) begin words (begin_meaning (known_of N B) inside words)) (sym (small_is (length B)))
    (by (length words == 1) inside (is_name w) (has_text B w) (has_text N w || nat_lt (length N) most_names) (nat_lt (length B) most_names) (new_goes_last B w)))
  where
    w : List ℕ
    w = word words 0

    by : (c i n t room small : Bool) → (t ≡ false → with_text B w ≡ B ++ w ∷ []) → Are (told_by false c i false (or_fault (cond n None (Some fault.Name)) None) t (not room || not small)) (with_text N w) (B ++ w ∷ []) begin words
        (cond (not c) (Err fault.Count) (cond i (Err fault.Nested) (cond (not n) (Err fault.Name) (cond t (Err fault.Twice)
        (numbering n (t || small) B w >>= (λ a. numbering n room N w >>= (λ m.
        Ok (Begin m.0, record { names = m.1; begun = a.1 }))))))))
    by false i n t room small h = refl
    by true true n t room small h = refl
    by true false false t room small h = refl
    by true false true true room small h = refl
    by true false true false false false h = refl
    by true false true false false true h = refl
    by true false true false true false h = refl
    by true false true false true true h = record { fine = refl; names_are = refl; begun_are = h refl; shows = (refl, refl); acts = refl }

-- the field of a word, where the names with it are not too many
abbrev FieldIs : Bool → List (List ℕ) → Result (Field × List (List ℕ)) ScriptKind → Type 0
FieldIs full names (Ok x) = (full ≡ false) × (x.1 ≡ names)
FieldIs full names (Err e) = (full ≡ true) × (e ≡ fault.Names)

field_is : (N : List (List ℕ)) (k : Kind) (w : List ℕ) → length N ≤ most_names → fault_of k w ≡ None → FieldIs (over (with_name k w N)) (with_name k w N) (field_of N k w)
unfolding field_of numbered
field_is N k w few good =
    by (names_one k w) (is_name w) (has_text N w || nat_lt (length N) most_names) (is_named k w good) (room_is N w few) (few_over N few)
  where
    by : (one n room : Bool) → (one ≡ true → n ≡ true) → over (with_text N w) ≡ not room → over N ≡ false
        → FieldIs (over (cond one (with_text N w) N)) (cond one (with_text N w) N) (cond one (numbering n room N w >>= (λ m. Ok (named_field k m.0, m.1))) (Ok (plain_field k w, N)))
    by false n room sure h few = (few, refl)
    by true true true sure h few = (h, refl)
    by true true false sure h few = (h, refl)
    by true false room sure h few = absurd (let e : false ≡ true = sure refl in cc)

abbrev fielded : Field → List (List ℕ) → Result (Field × List (List ℕ)) ScriptKind
fielded f names = Ok (f, names)

fits_is : (full : Bool) (names : List (List ℕ)) (r : Result (Field × List (List ℕ)) ScriptKind) → FieldIs full names r → full ≡ false → (f : Field) × (r ≡ fielded f names)
fits_is full names (Ok x) h apart = (x.0, ap (λ n. Ok (x.0, n)) h.1)
fits_is full names (Err e) h apart = absurd (let e : true ≡ false = sym h.0 ∙ apart in cc)

lacks_is : (full : Bool) (names : List (List ℕ)) (r : Result (Field × List (List ℕ)) ScriptKind) → FieldIs full names r → full ≡ true → r ≡ Err fault.Names
lacks_is full names (Ok x) h many = absurd (let e : true ≡ false = sym many ∙ h.0 in cc)
lacks_is full names (Err e) h many = ap (λ k. Err k) h.1

more_over : (k : Kind) (w : List ℕ) (N : List (List ℕ)) → over N ≡ true → over (with_name k w N) ≡ true
more_over k w N h = lt-ltb most_names (length (with_name k w N)) (omega (arith, ltb-true most_names (length N) h, longer k w N))

first_none : (a b : Option ScriptKind) → or_fault a b ≡ None → (a ≡ None) × (b ≡ None)
first_none None b h = (refl, h)
first_none (Some f) b h = absurd (cc)

texts_step : (b : Bool) (w : List ℕ) (rest N : List (List ℕ)) → with_texts N (cond b (w ∷ rest) rest) ≡ with_texts (cond b (with_text N w) N) rest
texts_step true w rest N = refl
texts_step false w rest N = refl

none_last : (a b c : Option ScriptKind) → or_fault a (or_fault b (or_fault c None)) ≡ or_fault a (or_fault b c)
none_last (Some f) b c = refl
none_last None (Some f) c = refl
none_last None None (Some f) = refl
none_last None None None = refl

-- an action is asked for at the second place alone
second_acts : (v : Verb) (words : List (List ℕ)) → actions_at ((row_of v).first ∷ (row_of v).second ∷ (row_of v).third ∷ []) 0 words ≡ actions_at ((row_of v).second ∷ []) 1 words
unfolding row_of
second_acts verb.Quote words = refl
second_acts verb.Sum words = refl
second_acts verb.Difference words = refl
second_acts verb.Handle words = refl
second_acts verb.Stock words = refl
second_acts verb.Composite words = refl
second_acts verb.Member words = refl
second_acts verb.Set words = refl
second_acts verb.Unset words = refl
second_acts verb.Link words = refl
second_acts verb.Unlink words = refl
second_acts verb.Engine words = refl
second_acts verb.Today words = refl
second_acts verb.Fixing words = refl
second_acts verb.Freeze words = refl
second_acts verb.Thaw words = refl
second_acts verb.Recalc words = refl
second_acts verb.Forward words = refl
second_acts verb.Defer words = refl
second_acts verb.Resume words = refl
second_acts verb.Watch words = refl
second_acts verb.Register words = refl
second_acts verb.Unregister words = refl
second_acts verb.Drop words = refl
second_acts verb.Ask words = refl
second_acts verb.Df words = refl

no_act : (names : List (List ℕ)) (f g : Field) → f ≡ g → action_in g ≡ None → ActsIs names (action_in f) []
no_act names f g e h = subst (λ o. ActsIs names o []) (sym (ap action_in e ∙ h)) refl

lt_le : (a b c : ℕ) → a < b → b ≤ c → a < c
lt_le a b c h k = omega (arith, h, k)

-- what the field of a second word says of an action
field_acts : (N1 N2 N3 : List (List ℕ)) (k : Kind) (words : List (List ℕ)) (f : Field) → IsOf k f → IsNames N1 → field_of N1 k (word words 1) ≡ fielded f N2 → Grows N2 N3 → ActsIs N3 (action_in f) (actions_at (k ∷ []) 1 words)
unfolding field_of
field_acts N1 N2 N3 kind.Nothing words f h sound read g = no_act N3 f Nothing h refl
field_acts N1 N2 N3 kind.Name words f h sound read g = no_act N3 f (Name h.0) h.1 refl
field_acts N1 N2 N3 kind.Value words f h sound read g = no_act N3 f (Value h.0) h.1 refl
field_acts N1 N2 N3 kind.Number words f h sound read g = no_act N3 f (Number h.0) h.1 refl
field_acts N1 N2 N3 kind.Rate words f h sound read g = no_act N3 f (Number h.0) h.1 refl
field_acts N1 N2 N3 kind.Day words f h sound read g = no_act N3 f (Day h.0) h.1 refl
field_acts N1 N2 N3 kind.Weight words f h sound read g = no_act N3 f (Weight h.0) h.1 refl
field_acts N1 N2 N3 kind.Engine words f h sound read g = no_act N3 f (Engine h.0) h.1 refl
field_acts N1 N2 N3 kind.Target words f h sound read g = no_act N3 f (Flag h.0) h.1 refl
field_acts N1 N2 N3 kind.Switch words f h sound read g = no_act N3 f (Flag h.0) h.1 refl
field_acts N1 N2 N3 kind.Action words f h sound read g =
    let m = bind_ok (numbered N1 (word words 1)) (λ m. fielded (Action m.0) m.1) (f, N2) read in
    let same : (Action m.0.0, m.0.1) ≡ (f, N2) = ok_is (Action m.0.0, m.0.1) (f, N2) m.2 in
    let is : Action m.0.0 ≡ f = ap (λ z. z.0) same in
    let there : m.0.1 ≡ N2 = ap (λ z. z.1) same in
    let at : slice_get N2 m.0.0 ≡ Some (word words 1) = ap (λ l. slice_get l m.0.0) (sym there) ∙ (numbered_is N1 (word words 1) m.0.0 m.0.1 sound m.1).at in
    let low : m.0.0 < length N2 = slice_get_within N2 m.0.0 (word words 1) at in
    let more : length N2 ≤ length N3 = grows_length N2 N3 g in
    subst (λ o. ActsIs N3 o (word words 1 ∷ [])) (ap action_in is) (
      word words 1,
      refl,
      lt_le (m.0.0) (length N2) (length N3) low more,
      ap (λ l. slice_index_or l m.0.0 []) g.whole ∙ get_or_append_left N2 g.more [] m.0.0 low ∙ get_or_from_slice_get N2 m.0.0 (word words 1) [] at,
    )

module _ (N B : List (List ℕ)) (v : Verb) (words : List (List ℕ)) where
  abbrev k1 : Kind
  k1 = (row_of v).first

  abbrev k2 : Kind
  k2 = (row_of v).second

  abbrev k3 : Kind
  k3 = (row_of v).third

  abbrev N1 : List (List ℕ)
  N1 = with_name k1 (word words 0) N

  abbrev N2 : List (List ℕ)
  N2 = with_name k2 (word words 1) N1

  abbrev N3 : List (List ℕ)
  N3 = with_name k3 (word words 2) N2

  names_are : with_texts N (names_at (k1 ∷ k2 ∷ k3 ∷ []) 0 words) ≡ N3
  names_are =
      texts_step (names_one k1 (word words 0)) (word words 0) (names_at (k2 ∷ k3 ∷ []) 1 words) N
      ∙ texts_step (names_one k2 (word words 1)) (word words 1) (names_at (k3 ∷ []) 2 words) N1
      ∙ texts_step (names_one k3 (word words 2)) (word words 2) [] N2

  abbrev Said : Type 0
  Said = Result (Statement × Known) ScriptKind

  abbrev third : Field → Field → Field × List (List ℕ) → Said
  third a b c = run (known_of N B) c.1 (the_command (command_of (together v a b c.0)))

  abbrev second : Field → Field × List (List ℕ) → Said
  second a b = field_of b.1 k3 (word words 2) >>= third a b.0

  abbrev first : Field × List (List ℕ) → Said
  first a = field_of a.1 k2 (word words 1) >>= second a.0

  abbrev Fits : Said → Type 0
  Fits r = Are (told_by false true false false None false (over N3 || false)) N3 (B ++ []) (command v) words r

  fields_are : IsNames N → words_fault (row_of v) words ≡ None → (inside : Bool) → Are (told_by false true false false None false (over N3 || false)) N3 (B ++ []) (command v) words (fields_meaning (known_of N B) v words)
  unfolding fields_meaning
  fields_are sound good inside = one (over N1) refl
    where
      good1 : (fault_of k1 (word words 0) ≡ None) × (or_fault (fault_of k2 (word words 1)) (fault_of k3 (word words 2)) ≡ None)
      good1 = first_none (fault_of k1 (word words 0)) (or_fault (fault_of k2 (word words 1)) (fault_of k3 (word words 2))) good

      good2 : (fault_of k2 (word words 1) ≡ None) × (fault_of k3 (word words 2) ≡ None)
      good2 = first_none (fault_of k2 (word words 1)) (fault_of k3 (word words 2)) good1.1

      lost : over N3 ≡ true → Fits (Err fault.Names)
      lost h = ap (λ o. told_by false true false false None false (o || false)) h

      three : (a b : Field) → IsOf k1 a → IsOf k2 b → IsNames N1 → IsNames N2 → field_of N1 k2 (word words 1) ≡ fielded b N2 → (o : Bool) → over N3 ≡ o → Fits (field_of N2 k3 (word words 2) >>= third a b)
      three a b ha hb sound1 sound2 read true h = subst (λ r. Fits (r >>= third a b)) (sym (lacks_is (over N3) N3 (field_of N2 k3 (word words 2)) (field_is N2 k3 (word words 2) sound2.room good2.1) h)) (lost h)
      three a b ha hb sound1 sound2 read false h =
          let c = fits_is (over N3) N3 (field_of N2 k3 (word words 2)) (field_is N2 k3 (word words 2) sound2.room good2.1) h in
          let hc = field_sorted N2 k3 (word words 2) c.0 N3 good2.1 c.1 in
          let made = row_parts v a b c.0 ha hb hc in
          let acts : ActsIs N3 (action_of made.0) (actions_at (k1 ∷ k2 ∷ k3 ∷ []) 0 words) =
          subst (λ o. ActsIs N3 o (actions_at (k1 ∷ k2 ∷ k3 ∷ []) 0 words)) (sym (ap (λ p. action_in p.second) made.2))
          (subst (λ ws. ActsIs N3 (action_in b) ws) (sym (second_acts v words))
          (field_acts N1 N2 N3 k2 words b hb sound1 read (field_read N2 k3 (word words 2) c.0 N3 sound2 good2.1 c.1).grows)) in
          subst (λ r. Fits (r >>= third a b)) (sym c.1)
          (subst (λ o. Fits (run (known_of N B) N3 (the_command o))) (sym made.1)
          (record { fine = ap (λ o. told_by false true false false None false (o || false)) h; names_are = refl; begun_are = sym (append-nil B); shows = refl; acts = acts }))

      two : (a : Field) → IsOf k1 a → IsNames N1 → (o : Bool) → over N2 ≡ o → Fits (field_of N1 k2 (word words 1) >>= second a)
      two a ha sound1 true h = subst (λ r. Fits (r >>= second a)) (sym (lacks_is (over N2) N2 (field_of N1 k2 (word words 1)) (field_is N1 k2 (word words 1) sound1.room good2.0) h)) (lost (more_over k3 (word words 2) N2 h))
      two a ha sound1 false h =
          let b = fits_is (over N2) N2 (field_of N1 k2 (word words 1)) (field_is N1 k2 (word words 1) sound1.room good2.0) h in
          subst (λ r. Fits (r >>= second a)) (sym b.1) (three a b.0 ha (field_sorted N1 k2 (word words 1) b.0 N2 good2.0 b.1) sound1 (field_read N1 k2 (word words 1) b.0 N2 sound1 good2.0 b.1).kept b.1 (over N3) refl)

      one : (o : Bool) → over N1 ≡ o → Fits (field_of N k1 (word words 0) >>= first)
      one true h = subst (λ r. Fits (r >>= first)) (sym (lacks_is (over N1) N1 (field_of N k1 (word words 0)) (field_is N k1 (word words 0) sound.room good1.0) h)) (lost (more_over k3 (word words 2) N2 (more_over k2 (word words 1) N1 h)))
      one false h =
          let a = fits_is (over N1) N1 (field_of N k1 (word words 0)) (field_is N k1 (word words 0) sound.room good1.0) h in
          subst (λ r. Fits (r >>= first)) (sym a.1) (two a.0 (field_sorted N k1 (word words 0) a.0 N1 good1.0 a.1) (field_read N k1 (word words 0) a.0 N1 sound good1.0 a.1).kept (over N2) refl)

  run_is : IsNames N → (inside : Bool) → WordsAre N B inside (command v) words (command_meaning (known_of N B) (Some v) words)
  unfolding command_meaning
  run_is sound inside =
      subst (λ w. Are (told_by false (length words == words_in (row_of v)) false false w false (over (with_texts N (names_at (k1 ∷ k2 ∷ k3 ∷ []) 0 words)) || false)) (with_texts N (names_at (k1 ∷ k2 ∷ k3 ∷ []) 0 words)) (B ++ []) (command v) words (command_meaning (known_of N B) (Some v) words))
      (sym (none_last (fault_of k1 (word words 0)) (fault_of k2 (word words 1)) (fault_of k3 (word words 2))))
      (subst (λ n. Are (told_by false (length words == words_in (row_of v)) false false (words_fault (row_of v) words) false (over n || false)) n (B ++ []) (command v) words (command_meaning (known_of N B) (Some v) words))
      (sym names_are) (by (length words == words_in (row_of v)) (words_fault (row_of v) words) refl))
    where
      by : (c : Bool) (w : Option ScriptKind) → words_fault (row_of v) words ≡ w → Are (told_by false c false false w false (over N3 || false)) N3 (B ++ []) (command v) words (cond c (unless_fault w (fields_meaning (known_of N B) v words)) (Err fault.Count))
      by false w h = refl
      by true (Some k) h = refl
      by true None h = fields_are sound h inside

command_is : (N B : List (List ℕ)) (inside : Bool) (o : Option Verb) (words : List (List ℕ)) → IsNames N → WordsAre N B inside (by_verb o) words (command_meaning (known_of N B) o words)
unfolding command_meaning
command_is N B inside (Some v) words sound = run_is N B v words sound inside
command_is N B inside None words sound = refl

-- what the words of a line say, and their first fault
pub words_are : (N B : List (List ℕ)) (inside : Bool) (words : List (List ℕ)) → IsNames N → WordsAre N B inside (first_of words) (further words) (words_meaning (record { names = N; begun = B }) inside words)
unfolding words_meaning
words_are N B inside [] sound = blank_is N B inside sound.room
words_are N B inside (first ∷ words) sound = by (bytes_eq first (codes "action")) (bytes_eq first (codes "end"))
  where
    by : (a e : Bool) → WordsAre N B inside (cond a begin (cond e end (by_verb (verb_of first)))) words
        (cond a (begin_meaning (known_of N B) inside words) (cond e (end_meaning (known_of N B) inside words) (command_meaning (known_of N B) (verb_of first) words)))
    by true e = begin_is N B inside words sound.room
    by false true = end_is N B inside words sound.room
    by false false = command_is N B inside (verb_of first) words sound

unlike_fault : (k : ScriptKind) → told_by false true false false None false true ≡ Some k → k ≡ fault.Names
unlike_fault k h = cc

many : (o : Bool) (names begun : List (List ℕ)) (f : First) (words : List (List ℕ)) (r : Result (Statement × Known) ScriptKind) → o ≡ true → Are (told_by false true false false None false (o || false)) names begun f words r → r ≡ Err fault.Names
many o names begun f words (Ok x) h are = absurd (let e : told_by false true false false None false true ≡ None = ap (λ b. told_by false true false false None false (b || false)) (sym h) ∙ are.fine in cc)
many o names begun f words (Err k) h are = ap (λ j. Err j) (unlike_fault k (ap (λ b. told_by false true false false None false (b || false)) (sym h) ∙ are))

-- the words have no fault, and there is no room for the names that they name
pub no_room : (N B : List (List ℕ)) (v : Verb) (words : List (List ℕ)) → IsNames N → words_fault (row_of v) words ≡ None → over (names_with (row_of v) words N) ≡ true → fields_meaning (known_of N B) v words ≡ Err fault.Names
no_room N B v words sound good full =
    many (over (names_with (row_of v) words N)) (names_with (row_of v) words N) (B ++ []) (command v) words (fields_meaning (known_of N B) v words) full (fields_are N B v words sound good false)

-- a line of a row whose words have no fault, where there is no room for the names that they name
pub no_room_line : (N B : List (List ℕ)) (o : Option Verb) (v : Verb) (words : List (List ℕ)) (p : Parts) → IsNames N → o ≡ Some v → (length words == words_in (row_of v)) ≡ true → PlainOf v words p
    → nat_le (length (names_with (row_of v) words N)) most_names ≡ false → command_meaning (known_of N B) o words ≡ Err fault.Names
unfolding command_meaning
no_room_line N B o v words p sound verb counted plain full =
    let good : words_fault (row_of v) words ≡ None = rw (plain.first_good, plain.second_good, plain.third_good) refl in
    let many : over (names_with (row_of v) words N) ≡ true = lt-ltb most_names (length (names_with (row_of v) words N)) (leb-false (length (names_with (row_of v) words N)) most_names full) in
    ap (λ x. command_meaning (known_of N B) x words) verb
    ∙ ap (λ b. cond b (unless_fault (words_fault (row_of v) words) (fields_meaning (known_of N B) v words)) (Err fault.Count)) counted
    ∙ ap (λ f. unless_fault f (fields_meaning (known_of N B) v words)) good
    ∙ no_room N B v words sound good many
