-- What a session holds while the objects of a market are made in it: each next one finds its name free, room, and
-- inputs of the kinds that it wants.
use Rattle.std.proofs.Common.{◌≡◌, ℕ, suc, ◌+◌, ◌<◌, ◌≤◌, Bool, true, false, ◌&&◌, ◌||◌, ◌==◌, nat_le, if◌then◌else◌, List, [], ◌∷◌, ◌++◌, length, Option, Some, None, Result, Ok, Err, ℤ, slice_get, refl, sym, ◌∙◌, ap, subst, arith, All}
use Rattle.std.specs.Prelude.{codes, is_some}
use Rattle.std.proofs.lemmas.Bool.Decides.{nat_tests}
use Rattle.std.proofs.lemmas.List.{length-append}
use Rattle.std.proofs.lemmas.List.Elements.{All-nil, All-cons, All-head, All-tail, All-push, All-weaker}
use Rattle.std.proofs.lemmas.Slice.Eq.{bytes_eq-Decides}
use Rattle.desk_names.specs.Names.{place_of}
use Rattle.desk_terms.specs.declared.kind.Kind.{Kind}
use Rattle.desk_terms.specs.declared.kind.Kind.TheVariants as kind
use Rattle.desk_terms.specs.declared.terms.Terms.{Terms}
use Rattle.desk_terms.specs.Terms.{kind_of, inputs_of}
use Rattle.desk_terms.specs.Reading.{AreInRange}
use Rattle.desk_model.specs.declared.slot.Slot.{Slot}
use Rattle.desk_model.specs.Market.{Market, slot_at, is_given, count_live, live_count}
use Rattle.desk_model.specs.Links.{AreOfKind}
use Rattle.desk_model.specs.Effect.{made}
use Rattle.session_commands.specs.declared.command.Command.{Command}
use Rattle.session_model.specs.Standing.{Standing, with_objects, start_of, named_from, object_named, is_full}
use Rattle.session_commands.specs.declared.refusal.Refusal.{Refusal}
use Rattle.session_commands.specs.declared.refusal.Refusal.TheVariants.{Taken, TooMany}
use Rattle.session_model.specs.declared.act.Act.TheVariants as act
use Rattle.session_model.specs.Resolve.{unless, making as wanted, unless_taken}
use Rattle.session_core.specs.declared.fault.MakeFault.{MakeFault}
use Rattle.session_core.specs.declared.fault.MakeFault.TheVariants.{Refused}
use Rattle.session_core.specs.Steps.{with_object, AnswersMake}
use Rattle.market_file.specs.Standing.{AreInOrder, IsReady}
use Rattle.market_desk.proofs.Taking.{AreStanding, serve, standing_length, more_standing}

-- THE OBJECTS THAT A SESSION MAY TAKE NEXT
pub record MayTake (p : Standing) (rest : List (ℕ × Terms)) : Type 0 where
  pub kinds : List Kind
  pub standing : AreStanding kinds p.state.market.objects
  pub order : AreInOrder kinds rest
  pub room : length kinds + length rest ≤ 4096
  pub named : length kinds + length rest ≤ length p.names
  pub numbered : All (λ name. name < length kinds) p.of_object
  pub running : p.stopped ≡ false

-- ---- what was made, and what is left

-- after one object more, those that are left leave the same session
pub left_more : (items rest : List (ℕ × Terms)) (name : ℕ) (terms : Terms) (old new : Standing)
    → items ≡ (name, terms) ∷ rest → new ≡ with_object name terms old → with_objects rest new ≡ with_objects items old
unfolding with_objects
left_more items rest name terms old new steps makes = rw (steps, makes) refl

pub left_none : (items : List (ℕ × Terms)) (p : Standing) → length items ≡ 0 → with_objects items p ≡ p
unfolding with_objects
left_none [] p e = refl
left_none (entry ∷ items) p e = absurd (omega (arith, e))

-- all that is left at first leaves the session with all objects
pub left_all : (items entries : List (ℕ × Terms)) (p first : Standing) → items ≡ entries → p ≡ first
    → with_objects items p ≡ with_objects entries first
left_all items entries p first gives start = rw (gives, start) refl

-- ---- room

count_within : (slots : List Slot) → count_live slots ≤ length slots
count_within [] = omega arith
count_within (slot ∷ slots) = by (is_given slot) (count_within slots)
  where
    by : (b : Bool) → count_live slots ≤ length slots
        → (if b then suc (count_live slots) else count_live slots) ≤ suc (length slots)
    by true h = omega (arith, h)
    by false h = omega (arith, h)

below : (a b n : ℕ) → a ≤ n → b ≤ n → n < 4096 → (nat_le 4096 a || nat_le 65536 b) ≡ false
below a b n ha hb h = grind (arith, nat_tests)

-- ---- names

apart : (a b : ℕ) → a < b → (a == b) ≡ false
apart a b h = grind (arith, nat_tests)

none_named : (market : Market) (name o : ℕ) (others : List ℕ) → All (λ other. other < name) others
    → named_from market name o others ≡ None
unfolding named_from
none_named market name o [] h = refl
none_named market name o (other ∷ others) h =
    ap (λ (b : Bool). if b && is_given (slot_at market o) then Some o else named_from market name (o + 1) others)
    (apart other name (All-head (λ other. other < name) other others h))
    ∙ none_named market name (o + 1) others (All-tail (λ other. other < name) other others h)

-- ---- the next object

module _ (p : Standing) (items rest : List (ℕ × Terms)) (name : ℕ) (terms : Terms)
    (steps : items ≡ (name, terms) ∷ rest) (may : MayTake p items) where
  h : MayTake p ((name, terms) ∷ rest)
  h = subst (λ (all : List (ℕ × Terms)). MayTake p all) steps may

  number : name ≡ length h.kinds
  number = h.order.0.number

  pub may_name : name < length p.names
  may_name = let is = number in let within = h.named in omega arith

  pub is_free : object_named p name ≡ None
  is_free = none_named p.state.market name 0 p.of_object
      (subst (λ (n : ℕ). All (λ other. other < n) p.of_object) (sym number) h.numbered)

  pub has_room : is_full p.state.market ≡ false
  unfolding is_full
  has_room =
      let same = standing_length h.kinds p.state.market.objects h.standing in
      let few = h.room in
      let within = count_within p.state.market.objects in
      below (live_count p.state.market) (length p.state.market.objects) (length h.kinds) (omega arith) (omega arith)
      (omega arith)

  pub in_range : AreInRange terms
  in_range = h.order.0.ranged

  pub are_of_kind : AreOfKind p.state.market (Some terms)
  are_of_kind = serve h.kinds p.state.market h.standing (inputs_of terms) h.order.0.inputs

-- after it the session may take the others
may_rest : (p : Standing) (name : ℕ) (terms : Terms) (rest : List (ℕ × Terms)) → MayTake p ((name, terms) ∷ rest)
    → MayTake (with_object name terms p) rest
unfolding made
may_rest p name terms rest h = record {
  kinds = h.kinds ++ kind_of terms ∷ [];
  standing = more_standing h.kinds p.state.market.objects terms h.standing;
  order = h.order.1;
  room = let few = h.room in omega (arith, longer);
  named = let few = h.named in omega (arith, longer);
  numbered = All-push (λ n. n < length (h.kinds ++ kind_of terms ∷ [])) p.of_object name
      (All-weaker (λ n. n < length h.kinds) (λ n. n < length (h.kinds ++ kind_of terms ∷ []))
      (λ n less. omega (arith, less, longer)) p.of_object h.numbered)
      (let is = h.order.0.number in omega (arith, longer));
  running = h.running;
}
  where
    longer : length (h.kinds ++ kind_of terms ∷ []) ≡ length h.kinds + 1
    longer = length-append h.kinds (kind_of terms ∷ [])

pub may_more : (old new : Standing) (items rest : List (ℕ × Terms)) (name : ℕ) (terms : Terms)
    → items ≡ (name, terms) ∷ rest → new ≡ with_object name terms old → MayTake old items → MayTake new rest
may_more old new items rest name terms steps makes may =
    subst (λ (p : Standing). MayTake p rest) (sym makes)
    (may_rest old name terms rest (subst (λ (all : List (ℕ × Terms)). MayTake old all) steps may))

-- ---- no refusal

-- where its name is free and there is room, nothing refuses an object
never_refused : (p : Standing) (name : ℕ) (terms : Terms) (r : Refusal) → object_named p name ≡ None
    → is_full p.state.market ≡ false → unless_taken p name (wanted p name terms) ≡ Err r → ⊥
unfolding unless_taken unless
never_refused p name terms r free room e = by (object_named p name) (is_full p.state.market) free room e
  where
    by : (found : Option ℕ) (full : Bool) → found ≡ None → full ≡ false
        → (if is_some found then Err (Taken name) else (if full then Err TooMany else Ok (act.Make name terms))) ≡ Err r
        → ⊥
    by (Some x) full free room e = absurd (cc)
    by None true free room e = absurd (cc)
    by None false free room e = absurd (cc)

pub not_refused : (p : Standing) (name : ℕ) (terms : Terms) (result : Result ℕ MakeFault) (fault : MakeFault)
    (r : Refusal) → object_named p name ≡ None → is_full p.state.market ≡ false
    → AnswersMake (unless_taken p name (wanted p name terms)) result → result ≡ Err fault → fault ≡ Refused r → ⊥
not_refused p name terms result fault r free room answer is refused =
    never_refused p name terms r free room
    (subst (λ (f : MakeFault). AnswersMake (unless_taken p name (wanted p name terms)) (Err f)) refused
    (subst (λ (given : Result ℕ MakeFault). AnswersMake (unless_taken p name (wanted p name terms)) given) is answer))

-- ---- the first object

first_place : (names : List (List ℕ)) (text : List ℕ) → slice_get names 0 ≡ Some text → place_of names text ≡ 0
unfolding place_of
first_place [] text e = absurd (let none : None ≡ Some text = e in cc)
first_place (name ∷ names) text e =
    let same : text ≡ name = cc in rw ((bytes_eq-Decides text name).1 same) refl

begins : (names : List (List ℕ)) (today : ℤ) (entries : List (ℕ × Terms)) (actions : List (List Command))
    → IsReady names entries → MayTake (start_of today names actions) entries
begins names today entries actions ready = record {
  kinds = kind.Today ∷ [];
  standing = (refl, tt);
  order = ready.order;
  room = let few = ready.room in omega arith;
  named = let few = ready.named in omega arith;
  numbered = All-cons (λ n. n < 1) (place_of names (codes "today")) []
      (let first = first_place names (codes "today") ready.first in omega arith) (All-nil (λ n. n < 1));
  running = refl;
}

pub may_begin : (names : List (List ℕ)) (today : ℤ) (entries items : List (ℕ × Terms)) (actions : List (List Command))
    (p : Standing) → IsReady names entries → p ≡ start_of today names actions → items ≡ entries → MayTake p items
may_begin names today entries items actions p ready start gives =
    rw (start, gives) (begins names today entries actions ready)
