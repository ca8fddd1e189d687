-- Reading by an explicit stack.
use Rattle.std.proofs.Common.{◌≡◌, ◌≢◌, ◌⊎◌, inl, inr, ℕ, zero, suc, ◌+◌, ◌<◌, ◌≤◌, Bool, List, [], ◌∷◌, ◌++◌, length, reverse, Option, Some, None, refl, sym, ◌∙◌, ap, subst, arith}
use Rattle.std.specs.Prelude.{slice_set}
use Rattle.std.proofs.lemmas.List.{length-reverse, length-set, get_or-set_same, get_or-set_other}
use Rattle.std.proofs.lemmas.Bool.{cases_eq}
use Rattle.walks.specs.Walk.{Among}
use Rattle.desk_terms.specs.declared.terms.Terms.{Terms}
use Rattle.desk_terms.specs.declared.terms.Terms.TheVariants.{Quote, Derived, Handle, Curve, Implied, Index, Engine, Stock, Composite, Flows}
use Rattle.desk_model.specs.declared.entry.Entry.{Entry}
use Rattle.desk_model.specs.Market.{Market, terms_at, edges_of}
use Rattle.desk_model.specs.Uses.{given, derived_entry, input_by, input_at}
use Rattle.desk_model.proofs.Edges.{input_edge}
use Rattle.desk_terms.specs.declared.terms.HandleKind as handle
use Rattle.desk_model.specs.Links.{IsLinked}
use Rattle.desk_model.proofs.Bounds.{Ranks, ranks_of}
use Rattle.desk_model.proofs.Locality.{input_same}
use Rattle.ask_walk.specs.declared.reader.Look.TheVariants.{Is, First}
use Rattle.ask_walk.specs.Reads.{recalled, Remembers, and_is, and_sum, given_by, passed_to}
use Rattle.ask_walk.proofs.Stacks.{Rising, rising_length, turned}

-- what an object gives is given over what its inputs give
pub input_is : (m : Market) → IsLinked m → (o : ℕ) → input_at m o ≡ given (input_at m) o (terms_at m o)
unfolding input_at input_by
input_is m links o =
    let ranks = ranks_of m links in
    let low = ranks.2 o in
    input_same m m ranks.0 ranks.1 (suc (length m.objects)) (suc (suc (length m.objects))) o low (omega arith) (record { terms = refl; day = λ is. refl }) (λ forwards x near. record { terms = refl; day = λ is. refl })

-- what is passed on is the entry of what is named
passed_same : (read : ℕ → Entry) (o : ℕ) (terms : Option Terms) → read o ≡ given read o terms → read (passed_to o terms) ≡ read o
passed_same read o None is = refl
passed_same read o (Some (Quote value)) is = refl
passed_same read o (Some (Derived minus first second)) is = refl
passed_same read o (Some (Handle kind None)) is = refl
passed_same read o (Some (Handle kind (Some target))) is = sym is
passed_same read o (Some (Index terms fixings)) is = sym is
passed_same read o (Some (Engine curve)) is = sym is
passed_same read o (Some (Curve terms)) is = refl
passed_same read o (Some (Implied curve reference)) is = refl
passed_same read o (Some (Stock quote)) is = refl
passed_same read o (Some (Composite parts)) is = refl
passed_same read o (Some (Flows flows engine)) is = refl

pub input_passed : (m : Market) → IsLinked m → (o : ℕ) → input_at m (passed_to o (terms_at m o)) ≡ input_at m o
input_passed m links o = passed_same (input_at m) o (terms_at m o) (input_is m links o)

passed_edge : (o : ℕ) (terms : Option Terms) → (passed_to o terms ≡ o) ⊎ Among (passed_to o terms) (edges_of terms)
passed_edge o None = inl refl
passed_edge o (Some (Quote value)) = inl refl
passed_edge o (Some (Derived minus first second)) = inl refl
passed_edge o (Some (Handle kind None)) = inl refl
passed_edge o (Some (Handle handle.TheVariants.Quote (Some target))) = inr (inl refl)
passed_edge o (Some (Handle handle.TheVariants.Curve (Some target))) = inr (inl refl)
passed_edge o (Some (Index terms fixings)) = inr (input_edge (Index terms fixings) terms.curve (inl refl))
passed_edge o (Some (Engine curve)) = inr (inl refl)
passed_edge o (Some (Curve terms)) = inl refl
passed_edge o (Some (Implied curve reference)) = inl refl
passed_edge o (Some (Stock quote)) = inl refl
passed_edge o (Some (Composite parts)) = inl refl
passed_edge o (Some (Flows flows engine)) = inl refl

pub passed_within : (m : Market) → IsLinked m → (o : ℕ) → o < length m.objects → passed_to o (terms_at m o) < length m.objects
passed_within m links o low = elim (passed_edge o (terms_at m o)) [
  | inl same ↦ subst (λ (x : ℕ). x < length m.objects) (sym same) low
  | inr among ↦ links.within o (passed_to o (terms_at m o)) among
]

passed_is : (e : Option Entry) (x : ℕ) (entry wanted : Entry) → ((entry : Entry) → e ≡ Some entry → entry ≡ wanted) → and_is e x ≡ Is entry → entry ≡ wanted
passed_is None x entry wanted knows is = absurd (cc)
passed_is (Some a) x entry wanted knows is = let same : a ≡ entry = cc in sym same ∙ knows a refl

summed_is : (o : ℕ) (minus : Bool) (d : Option Entry) (first : ℕ) (e : Option Entry) (second : ℕ) (entry a b : Entry) → ((entry : Entry) → d ≡ Some entry → entry ≡ a) → ((entry : Entry) → e ≡ Some entry → entry ≡ b)
    → and_sum o minus d first e second ≡ Is entry → entry ≡ derived_entry o minus a b
summed_is o minus None first e second entry a b p q is = absurd (cc)
summed_is o minus (Some x) first None second entry a b p q is = absurd (cc)
summed_is o minus (Some x) first (Some y) second entry a b p q is =
    let same : derived_entry o minus x y ≡ entry = cc in
    sym same ∙ ap (λ (z : Entry). derived_entry o minus z y) (p x refl) ∙ ap (derived_entry o minus a) (q y refl)

known : (a entry : Entry) → Is a ≡ Is entry → entry ≡ a
known a entry is = cc

pub given_is : (memo : ℕ → Option Entry) (read : ℕ → Entry) → ((x : ℕ) (entry : Entry) → memo x ≡ Some entry → entry ≡ read x) → (o : ℕ) (terms : Option Terms) (entry : Entry) → given_by memo o terms ≡ Is entry → entry ≡ given read o terms
given_is memo read knows o None entry is = known _ entry is
given_is memo read knows o (Some (Quote None)) entry is = known _ entry is
given_is memo read knows o (Some (Quote (Some rate))) entry is = known _ entry is
given_is memo read knows o (Some (Derived minus first second)) entry is = summed_is o minus (memo first) first (memo second) second entry (read first) (read second) (knows first) (knows second) is
given_is memo read knows o (Some (Handle kind None)) entry is = known _ entry is
given_is memo read knows o (Some (Handle kind (Some target))) entry is = passed_is (memo target) target entry (read target) (knows target) is
given_is memo read knows o (Some (Index terms fixings)) entry is = passed_is (memo terms.curve) terms.curve entry (read terms.curve) (knows terms.curve) is
given_is memo read knows o (Some (Engine curve)) entry is = passed_is (memo curve) curve entry (read curve) (knows curve) is
given_is memo read knows o (Some (Curve terms)) entry is = known _ entry is
given_is memo read knows o (Some (Implied curve reference)) entry is = known _ entry is
given_is memo read knows o (Some (Stock quote)) entry is = known _ entry is
given_is memo read knows o (Some (Composite parts)) entry is = known _ entry is
given_is memo read knows o (Some (Flows flows engine)) entry is = known _ entry is

-- or the first input that is not remembered
passed_first : (memo : ℕ → Option Entry) (e : Option Entry) (x y : ℕ) → memo x ≡ e → and_is e x ≡ First y → (y ≡ x) × (memo y ≡ None)
passed_first memo None x y here is = let same : x ≡ y = cc in (sym same, ap memo (sym same) ∙ here)
passed_first memo (Some a) x y here is = absurd (cc)

summed_first : (memo : ℕ → Option Entry) (o : ℕ) (minus : Bool) (d : Option Entry) (first : ℕ) (e : Option Entry) (second y : ℕ) → memo first ≡ d → memo second ≡ e → and_sum o minus d first e second ≡ First y
    → ((y ≡ first) ⊎ (y ≡ second)) × (memo y ≡ None)
summed_first memo o minus None first e second y p q is = let same : first ≡ y = cc in (inl (sym same), ap memo (sym same) ∙ p)
summed_first memo o minus (Some a) first None second y p q is = let same : second ≡ y = cc in (inr (sym same), ap memo (sym same) ∙ q)
summed_first memo o minus (Some a) first (Some b) second y p q is = absurd (cc)

not_first : (a : Entry) (y : ℕ) → Is a ≡ First y → ⊥
not_first a y is = absurd (cc)

pub given_first : (memo : ℕ → Option Entry) (o : ℕ) (terms : Option Terms) (y : ℕ) → given_by memo o terms ≡ First y → Among y (edges_of terms) × (memo y ≡ None)
given_first memo o None y is = absurd (not_first _ y is)
given_first memo o (Some (Quote None)) y is = absurd (not_first _ y is)
given_first memo o (Some (Quote (Some rate))) y is = absurd (not_first _ y is)
given_first memo o (Some (Derived minus first second)) y is =
    let f = summed_first memo o minus (memo first) first (memo second) second y refl refl is in
    (input_edge (Derived minus first second) y (elim f.0 [ inl a ↦ inl a | inr b ↦ inr (inl b) ]), f.1)
given_first memo o (Some (Handle kind None)) y is = absurd (not_first _ y is)
given_first memo o (Some (Handle handle.TheVariants.Quote (Some target))) y is = let f = passed_first memo (memo target) target y refl is in (inl f.0, f.1)
given_first memo o (Some (Handle handle.TheVariants.Curve (Some target))) y is = let f = passed_first memo (memo target) target y refl is in (inl f.0, f.1)
given_first memo o (Some (Index terms fixings)) y is = let f = passed_first memo (memo terms.curve) terms.curve y refl is in (input_edge (Index terms fixings) y (inl f.0), f.1)
given_first memo o (Some (Engine curve)) y is = let f = passed_first memo (memo curve) curve y refl is in (inl f.0, f.1)
given_first memo o (Some (Curve terms)) y is = absurd (not_first _ y is)
given_first memo o (Some (Implied curve reference)) y is = absurd (not_first _ y is)
given_first memo o (Some (Stock quote)) y is = absurd (not_first _ y is)
given_first memo o (Some (Composite parts)) y is = absurd (not_first _ y is)
given_first memo o (Some (Flows flows engine)) y is = absurd (not_first _ y is)

-- how many entries are not remembered
abbrev pub unread_of : List (Option Entry) → ℕ
unread_of [] = 0
unread_of (None ∷ es) = 1 + unread_of es
unread_of (Some e ∷ es) = unread_of es

pub unread_set : (es : List (Option Entry)) (i : ℕ) (e : Entry) → i < length es → recalled es i ≡ None → unread_of (slice_set es i (Some e)) + 1 ≡ unread_of es
unread_set [] i e within none = absurd (omega arith)
unread_set (None ∷ es) zero e within none = omega arith
unread_set (Some a ∷ es) zero e within none = absurd (cc)
unread_set (None ∷ es) (suc i) e within none = let r = unread_set es i e (omega arith) none in omega arith
unread_set (Some a ∷ es) (suc i) e within none = let r = unread_set es i e (omega arith) none in omega arith

-- what stands at each turn of the loop
pub record Works (m : Market) (object : ℕ) (stack : List ℕ) (memo : List (Option Entry)) : Type 0 where
  pub links : IsLinked m
  pub ranks : Ranks m
  pub remembers : Remembers m memo
  pub unread : (x : ℕ) → Among x (reverse stack) → recalled memo x ≡ None
  pub within : (x : ℕ) → Among x (reverse stack) → x < length m.objects
  pub rising : Rising ranks.0 (reverse stack)
  pub root : Among object (reverse stack) ⊎ ((entry : Entry) × (recalled memo object ≡ Some entry))

pub works_begin : (m : Market) (object : ℕ) (memo : List (Option Entry)) → IsLinked m → Remembers m memo → object < length m.objects → recalled memo object ≡ None → Works m object (object ∷ []) memo
works_begin m object memo links remembers within none = record {
  links = links;
  ranks = ranks_of m links;
  remembers = remembers;
  unread = λ x among. first_unread x among;
  within = λ x among. first_within x among;
  rising = ((λ y among. absurd among), tt);
  root = inl (inl refl);
}
  where
    first_unread : (x : ℕ) → Among x (object ∷ []) → recalled memo x ≡ None
    first_unread x (inl same) = ap (recalled memo) same ∙ none
    first_unread x (inr none) = absurd none

    first_within : (x : ℕ) → Among x (object ∷ []) → x < length m.objects
    first_within x (inl same) = subst (λ (z : ℕ). z < length m.objects) (sym same) within
    first_within x (inr none) = absurd none

module _ (m : Market) (object : ℕ) (stack : List ℕ) (top : ℕ) (memo : List (Option Entry)) (w : Works m object (stack ++ top ∷ []) memo) where
  on_stack : (x : ℕ) → Among x (top ∷ reverse stack) → Among x (reverse (stack ++ top ∷ []))
  on_stack x among = subst (Among x) (sym (turned stack top)) among

  rising_of : Rising w.ranks.0 (top ∷ reverse stack)
  rising_of = subst (Rising w.ranks.0) (turned stack top) w.rising

  pub top_within : top < length m.objects
  top_within = w.within top (on_stack top (inl refl))

  pub works_push : (y : ℕ) → given_by (recalled memo) top (terms_at m top) ≡ First y → Works m object ((stack ++ top ∷ []) ++ y ∷ []) memo
  works_push y first =
      let f = given_first (recalled memo) top (terms_at m top) y first in
      let turn : reverse ((stack ++ top ∷ []) ++ y ∷ []) ≡ y ∷ top ∷ reverse stack = turned (stack ++ top ∷ []) y ∙ ap (λ (l : List ℕ). y ∷ l) (turned stack top) in
      record {
        links = w.links;
        ranks = w.ranks;
        remembers = w.remembers;
        unread = λ x among. unread_more y f.1 x (subst (Among x) turn among);
        within = λ x among. within_more y f.0 x (subst (Among x) turn among);
        rising = subst (Rising w.ranks.0) (sym turn) ((λ z among. lower y f.0 z among), rising_of);
        root = root_more y turn w.root;
      }
    where
      unread_more : (y : ℕ) → recalled memo y ≡ None → (x : ℕ) → Among x (y ∷ top ∷ reverse stack) → recalled memo x ≡ None
      unread_more y none x (inl same) = ap (recalled memo) same ∙ none
      unread_more y none x (inr among) = w.unread x (on_stack x among)

      within_more : (y : ℕ) → Among y (edges_of (terms_at m top)) → (x : ℕ) → Among x (y ∷ top ∷ reverse stack) → x < length m.objects
      within_more y edge x (inl same) = subst (λ (z : ℕ). z < length m.objects) (sym same) (w.links.within top y edge)
      within_more y edge x (inr among) = w.within x (on_stack x among)

      lower : (y : ℕ) → Among y (edges_of (terms_at m top)) → (z : ℕ) → Among z (top ∷ reverse stack) → w.ranks.0 y < w.ranks.0 z
      lower y edge z (inl same) = let fall = w.ranks.1 top y edge in subst (λ (v : ℕ). w.ranks.0 y < w.ranks.0 v) (sym same) fall
      lower y edge z (inr among) = let fall = w.ranks.1 top y edge in let up = rising_of.0 z among in omega arith

      root_more : (y : ℕ) → reverse ((stack ++ top ∷ []) ++ y ∷ []) ≡ y ∷ top ∷ reverse stack → (Among object (reverse (stack ++ top ∷ [])) ⊎ ((entry : Entry) × (recalled memo object ≡ Some entry))) → Among object (reverse ((stack ++ top ∷ []) ++ y ∷ [])) ⊎ ((entry : Entry) × (recalled memo object ≡ Some entry))
      root_more y turn (inl among) = inl (subst (Among object) (sym turn) (inr (subst (Among object) (turned stack top) among)))
      root_more y turn (inr done) = inr done

  -- the stack is no longer than there are objects
  pub works_bound : length (stack ++ top ∷ []) ≤ suc (length m.objects)
  works_bound = let l = rising_length w.ranks.0 (suc (length m.objects)) (reverse (stack ++ top ∷ [])) w.rising (λ y among. w.ranks.2 y) in let r = length-reverse (stack ++ top ∷ []) in omega arith

  pub works_less : (entry : Entry) → unread_of (slice_set memo top (Some entry)) + 1 ≡ unread_of memo
  works_less entry = unread_set memo top entry (let e = w.remembers.same in let l = top_within in omega arith) (w.unread top (on_stack top (inl refl)))

  pub works_known : (entry : Entry) → given_by (recalled memo) top (terms_at m top) ≡ Is entry → Works m object stack (slice_set memo top (Some entry))
  works_known entry is = record {
    links = w.links;
    ranks = w.ranks;
    remembers = record {
      same = length-set memo top (Some entry) ∙ w.remembers.same;
      entries = λ x e there. elim (cases_eq x top) [
        | inl same ↦ right x e same there
        | inr other ↦ w.remembers.entries x e (sym (get_or-set_other memo top x (Some entry) None other) ∙ there)
      ];
    };
    unread = λ x among. get_or-set_other memo top x (Some entry) None (apart x among) ∙ w.unread x (on_stack x (inr among));
    within = λ x among. w.within x (on_stack x (inr among));
    rising = rising_of.1;
    root = root_less w.root;
  }
    where
      here : recalled (slice_set memo top (Some entry)) top ≡ Some entry
      here = get_or-set_same memo top (Some entry) None (let e = w.remembers.same in let l = top_within in omega arith)

      right : (x : ℕ) (e : Entry) → x ≡ top → recalled (slice_set memo top (Some entry)) x ≡ Some e → e ≡ input_at m x
      right x e same there =
          let agree : Some entry ≡ Some e = sym here ∙ (ap (recalled (slice_set memo top (Some entry))) (sym same) ∙ there) in
          let equal : entry ≡ e = cc in
          sym equal ∙ (given_is (recalled memo) (input_at m) w.remembers.entries top (terms_at m top) entry is ∙ (sym (input_is m w.links top) ∙ ap (input_at m) (sym same)))

      apart : (x : ℕ) → Among x (reverse stack) → x ≢ top
      apart x among same = let up = rising_of.0 x among in let e = ap w.ranks.0 same in absurd (omega arith)

      root_less : (Among object (reverse (stack ++ top ∷ [])) ⊎ ((entry : Entry) × (recalled memo object ≡ Some entry))) → Among object (reverse stack) ⊎ ((e : Entry) × (recalled (slice_set memo top (Some entry)) object ≡ Some e))
      root_less (inr done) = inr (elim (cases_eq object top) [
        | inl same ↦ (entry, ap (recalled (slice_set memo top (Some entry))) same ∙ here)
        | inr other ↦ (done.0, get_or-set_other memo top object (Some entry) None other ∙ done.1)
      ])
      root_less (inl among) = split (subst (Among object) (turned stack top) among)
        where
          split : Among object (top ∷ reverse stack) → Among object (reverse stack) ⊎ ((e : Entry) × (recalled (slice_set memo top (Some entry)) object ≡ Some e))
          split (inl same) = inr (entry, ap (recalled (slice_set memo top (Some entry))) same ∙ here)
          split (inr more) = inl more
