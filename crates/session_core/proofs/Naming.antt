-- Which names stand for which objects, before and after a change.
use Rattle.std.proofs.Common.{◌≡◌, ◌≢◌, inl, inr, ℕ, zero, suc, ◌+◌, ◌<◌, ◌≤◌, Bool, true, false, ◌&&◌, ◌==◌, if◌then◌else◌, List, [], ◌∷◌, ◌++◌, length, Option, Some, None, ℤ, refl, sym, ◌∙◌, ap, subst, arith, replicate}
use Rattle.std.specs.Prelude.{slice_index_or, slice_set}
use Rattle.std.proofs.lemmas.List.{get_or-set_same, get_or-set_other, get_or_append_left, get_or_past, get_or_push, length-append, length-set, get_or-replicate, length-replicate}
use Rattle.std.proofs.lemmas.Bool.{cases_eq, cases_lt, eq-eqb, eqb-true, false≢true}
use Rattle.desk_terms.specs.declared.terms.Terms.{Terms}
use Rattle.desk_model.specs.declared.slot.Slot.{Slot}
use Rattle.desk_model.specs.declared.slot.Slot.TheVariants.{Free, Today, Watcher, Live}
use Rattle.desk_model.specs.Market.{Market, slot_at, is_given, count_live, live_count}
use Rattle.desk_model.specs.State.{State}
use Rattle.desk_model.specs.Effect.{start, added, made, watching, dropped}
use Rattle.session_model.specs.Standing.{Standing, named_from, object_named}
use Rattle.session_core.specs.HasNames.{IsNamed, HasNames}

pub given_within : (m : Market) (o : ℕ) → is_given (slot_at m o) ≡ true → o < length m.objects
given_within m o given = elim (cases_lt o (length m.objects)) [
  | inl within ↦ within
  | inr past ↦ absurd (false≢true (sym (ap is_given (get_or_past m.objects o Free past)) ∙ given))
]

-- what is found under a name, among the objects from o on
pub record IsFound (m : Market) (name o : ℕ) (others : List ℕ) (x : ℕ) : Type 0 where
  pub place : ℕ
  pub is : x ≡ o + place
  pub named : slice_index_or others place 0 ≡ name
  pub given : is_given (slot_at m x) ≡ true

and_both : (a b : Bool) → (a && b) ≡ true → (a ≡ true) × (b ≡ true)
and_both true true e = (refl, refl)
and_both true false e = absurd (cc)
and_both false b e = absurd (cc)

pub found_there : (m : Market) (name o : ℕ) (others : List ℕ) (x : ℕ) → named_from m name o others ≡ Some x
    → IsFound m name o others x
unfolding named_from
found_there m name o [] x e = absurd (cc)
found_there m name o (other ∷ others) x e =
    by ((other == name) && is_given (slot_at m o)) refl (λ later. found_there m name (o + 1) others x later) e
  where
    after : IsFound m name (o + 1) others x → IsFound m name o (other ∷ others) x
    after f = record { place = suc f.place; is = f.is ∙ omega arith; named = f.named; given = f.given }

    here : o ≡ x → ((other == name) && is_given (slot_at m o)) ≡ true → IsFound m name o (other ∷ others) x
    here same both = record {
      place = 0;
      is = sym same ∙ omega arith;
      named = eqb-true other name (and_both (other == name) (is_given (slot_at m o)) both).0;
      given = subst (λ (y : ℕ). is_given (slot_at m y) ≡ true) same
          (and_both (other == name) (is_given (slot_at m o)) both).1;
    }

    by : (b : Bool) → ((other == name) && is_given (slot_at m o)) ≡ b
        → (named_from m name (o + 1) others ≡ Some x → IsFound m name (o + 1) others x)
        → (if b then Some o else named_from m name (o + 1) others) ≡ Some x → IsFound m name o (other ∷ others) x
    by true both later e = let same : o ≡ x = cc in here same both
    by false both later e = after (later e)

right_false : (a b : Bool) → (a && b) ≡ false → a ≡ true → b ≡ false
right_false true b e is = e
right_false false b e is = absurd (false≢true is)

-- where none is found under a name, no live object has it
pub found_none : (m : Market) (name o : ℕ) (others : List ℕ) → named_from m name o others ≡ None → (k : ℕ)
    → k < length others → slice_index_or others k 0 ≡ name → is_given (slot_at m (o + k)) ≡ false
unfolding named_from
found_none m name o [] e k within named = absurd (omega arith)
found_none m name o (other ∷ others) e k within named =
    by ((other == name) && is_given (slot_at m o)) refl
    (λ later. found_none m name (o + 1) others later) e k within named
  where
    at : (x y : ℕ) → y ≡ x → is_given (slot_at m x) ≡ false → is_given (slot_at m y) ≡ false
    at x y same not_given = subst (λ (z : ℕ). is_given (slot_at m z) ≡ false) (sym same) not_given

    by : (b : Bool) → ((other == name) && is_given (slot_at m o)) ≡ b
        → (named_from m name (o + 1) others ≡ None → (k : ℕ) → k < length others → slice_index_or others k 0 ≡ name
        → is_given (slot_at m ((o + 1) + k)) ≡ false)
        → (if b then Some o else named_from m name (o + 1) others) ≡ None
        → (k : ℕ) → k < length (other ∷ others) → slice_index_or (other ∷ others) k 0 ≡ name
        → is_given (slot_at m (o + k)) ≡ false
    by true both later e k within named = absurd (cc)
    by false both later e zero within named =
        at o (o + 0) (omega arith) (right_false (other == name) (is_given (slot_at m o)) both (eq-eqb other name named))
    by false both later e (suc k) within named =
        at ((o + 1) + k) (o + suc k) (omega arith) (later e k (omega (arith, within)) named)

-- so the table by names answers what a name stands for
pub found_is : (p : Standing) (of_name : List (Option ℕ)) (live : ℕ) → HasNames p of_name live → (name : ℕ)
    → slice_index_or of_name name None ≡ object_named p name
found_is p of_name live h name = by (object_named p name) refl (slice_index_or of_name name None) refl
  where
    some : (x : ℕ) → object_named p name ≡ Some x → slice_index_or of_name name None ≡ Some x
    some x e =
        let f = found_there p.state.market name 0 p.of_object x e in
        h.all name x (
          f.given,
          subst (λ (y : ℕ). slice_index_or p.of_object y 0 ≡ name)
              (sym (f.is ∙ omega arith)) f.named,
        )

    none : (o : ℕ) → object_named p name ≡ None → slice_index_or of_name name None ≡ Some o → ⊥
    none o e is =
        let there = h.there name o is in
        let within : o < length p.of_object =
        subst (λ (n : ℕ). o < n) (sym h.objects) (given_within p.state.market o there.0) in
        false≢true (sym (found_none p.state.market name 0 p.of_object e o within there.1)
        ∙ subst (λ (y : ℕ). is_given (slot_at p.state.market y) ≡ true) (let same : o ≡ 0 + o = omega arith in
        same) there.0)

    by : (r : Option ℕ) → object_named p name ≡ r → (t : Option ℕ) → slice_index_or of_name name None ≡ t
        → slice_index_or of_name name None ≡ object_named p name
    by (Some x) e t is = some x e ∙ sym e
    by None e None is = is ∙ sym e
    by None e (Some o) is = absurd (none o e is)

-- two markets have the same live objects
pub record AreAlike (m n : Market) : Type 0 where
  pub length : length n.objects ≡ length m.objects
  pub given : (x : ℕ) → is_given (slot_at n x) ≡ is_given (slot_at m x)
  pub today : slot_at m 0 ≡ Today → slot_at n 0 ≡ Today

count_alike : (xs ys : List Slot) → length ys ≡ length xs
    → ((k : ℕ) → is_given (slice_index_or ys k Free) ≡ is_given (slice_index_or xs k Free))
    → count_live ys ≡ count_live xs
count_alike [] [] e same = refl
count_alike [] (y ∷ ys) e same = absurd (omega (arith, e))
count_alike (x ∷ xs) [] e same = absurd (omega (arith, e))
count_alike (x ∷ xs) (y ∷ ys) e same =
    ap (λ (b : Bool). if b then suc (count_live ys) else count_live ys) (same 0)
    ∙ ap (λ (n : ℕ). if is_given x then suc n else n) (count_alike xs ys (omega (arith, e)) (λ k. same (suc k)))

-- so the table stays
pub names_alike : (p : Standing) (of_name : List (Option ℕ)) (live : ℕ) (state : State) (stopped : Bool)
    → AreAlike p.state.market state.market → HasNames p of_name live
    → HasNames (record p { state = state; stopped = stopped }) of_name live
names_alike p of_name live state stopped alike h = record {
  watching = h.watching;
  table = h.table;
  objects = h.objects ∙ sym alike.length;
  today = alike.today h.today;
  living = h.living ∙ sym (count_alike p.state.market.objects state.market.objects alike.length alike.given);
  few = h.few;
  there = λ name o is. (alike.given o ∙ (h.there name o is).0, (h.there name o is).1);
  all = λ name o is. h.all name o (sym (alike.given o) ∙ is.0, is.1);
}

one_more : (b : Bool) (n k : ℕ) → n ≡ k + 1 → (if b then suc n else n) ≡ (if b then suc k else k) + 1
one_more true n k e = omega (arith, e)
one_more false n k e = e

count_more : (xs : List Slot) (slot : Slot) → is_given slot ≡ true → count_live (xs ++ slot ∷ []) ≡ count_live xs + 1
count_more [] slot given = ap (λ (b : Bool). if b then 1 else 0) given
count_more (x ∷ xs) slot given =
    one_more (is_given x) (count_live (xs ++ slot ∷ [])) (count_live xs) (count_more xs slot given)

pub count_less : (xs : List Slot) (o : ℕ) → is_given (slice_index_or xs o Free) ≡ true
    → count_live xs ≡ count_live (slice_set xs o Free) + 1
count_less [] o given = absurd (false≢true given)
count_less (x ∷ xs) zero given = ap (λ (b : Bool). if b then suc (count_live xs) else count_live xs) given ∙ omega arith
count_less (x ∷ xs) (suc o) given =
    one_more (is_given x) (count_live xs) (count_live (slice_set xs o Free)) (count_less xs o given)

pub none_some : {A : Type 0} {a : A} → None ≡ Some a → ⊥
none_some e = cc

-- an object is made under a name that no live object has
pub names_added : (p : Standing) (of_name : List (Option ℕ)) (live name number : ℕ) (slot : Slot) (state : State)
    (of_object : List ℕ) (watching : List (Option ℕ)) → is_given slot ≡ true
    → HasNames p of_name live → live < 4096 → object_named p name ≡ None → name < length p.names → state ≡ added slot p.state
    → of_object ≡ p.of_object ++ name ∷ [] → number ≡ length p.state.market.objects → length watching ≡ length p.watching
    → HasNames (record p { state = state; of_object = of_object; watching = watching }) (slice_set of_name name (Some number))
    (live + 1)
names_added p of_name live name number slot state of_object watching taken h few free within is more given long = rw (is, more) (record {
  watching = long ∙ h.watching;
  table = length-set of_name name (Some number) ∙ h.table;
  objects = omega (
    arith,
    length-append p.of_object (name ∷ []),
    length-append p.state.market.objects
        (slot ∷ []),
    h.objects,
  );
  today = old_slot 0 (given_within p.state.market 0 (ap is_given h.today)) ∙ h.today;
  living = ap (λ (n : ℕ). n + 1) h.living ∙ sym (count_more p.state.market.objects slot taken);
  few = omega (arith, few);
  there = there;
  all = all;
})
  where
    objects : List Slot
    objects = p.state.market.objects ++ slot ∷ []

    market : Market
    market = record p.state.market { objects = p.state.market.objects ++ slot ∷ [] }

    names : List ℕ
    names = p.of_object ++ name ∷ []

    unnamed : slice_index_or of_name name None ≡ None
    unnamed = found_is p of_name live h name ∙ free

    old_slot : (o : ℕ) → o < length p.state.market.objects
        → slice_index_or (p.state.market.objects ++ slot ∷ []) o Free ≡ slice_index_or p.state.market.objects o
        Free
    old_slot o below = get_or_append_left p.state.market.objects (slot ∷ []) Free o below

    old_name : (o : ℕ) → o < length p.state.market.objects
        → slice_index_or (p.of_object ++ name ∷ []) o 0 ≡ slice_index_or p.of_object o 0
    old_name o below = get_or_append_left p.of_object (name ∷ []) 0 o (omega (arith, below, h.objects))

    new_slot : slice_index_or (p.state.market.objects ++ slot ∷ []) number Free ≡ slot
    new_slot = get_or_push p.state.market.objects (slot) Free number (sym given)

    new_name : slice_index_or (p.of_object ++ name ∷ []) number 0 ≡ name
    new_name = get_or_push p.of_object name 0 number (omega (arith, given, h.objects))

    here : slice_index_or (slice_set of_name name (Some number)) name None ≡ Some number
    here = get_or-set_same of_name name (Some number) None (omega (arith, h.table, within))

    there : (n o : ℕ) → slice_index_or (slice_set of_name name (Some number)) n None ≡ Some o
        → IsNamed market (p.of_object ++ name ∷ []) n o
    there n o e = elim (cases_eq n name) [
      | inl same ↦
          let e2 : slice_index_or (slice_set of_name name (Some number)) name None ≡ Some o =
          subst (λ (x : ℕ). slice_index_or (slice_set of_name name (Some number)) x None ≡ Some o) same e in
          let here2 : Some number ≡ Some o = sym here ∙ e2 in
          let is : number ≡ o = cc in
          subst (λ (x : ℕ). IsNamed market (p.of_object ++ name ∷ []) n x) is
          (ap is_given new_slot ∙ taken, new_name ∙ sym same)
      | inr other ↦
          let old = h.there n o (sym (get_or-set_other of_name name n (Some number) None other) ∙ e) in
          let below = given_within p.state.market o old.0 in
          (ap is_given (old_slot o below) ∙ old.0, old_name o below ∙ old.1)
    ]

    all : (n o : ℕ) → IsNamed market (p.of_object ++ name ∷ []) n o
        → slice_index_or (slice_set of_name name (Some number)) n None ≡ Some o
    all n o named = elim (cases_lt o (length p.state.market.objects)) [
      | inl below ↦
          let old = h.all n o (sym (ap is_given (old_slot o below)) ∙ named.0, sym (old_name o below) ∙ named.1) in
          let other : n ≢ name =
          λ e. none_some (sym unnamed ∙ subst (λ (x : ℕ). slice_index_or of_name x None ≡ Some o) e old) in
          get_or-set_other of_name name n (Some number) None other ∙ old
      | inr past ↦
          let last : o < length (p.state.market.objects ++ slot ∷ []) = given_within market o named.0 in
          let is : number ≡ o =
          omega (arith, last, past, given, length-append p.state.market.objects (slot ∷ [])) in
          let same : name ≡ n = sym new_name ∙ ap (λ (x : ℕ). slice_index_or (p.of_object ++ name ∷ []) x 0) is
          ∙ named.1 in
          subst (λ (x : ℕ). slice_index_or (slice_set of_name name (Some number)) x None ≡ Some o) same
          (here ∙ ap Some is)
    ]

pub names_made : (p : Standing) (of_name : List (Option ℕ)) (live name number : ℕ) (terms : Terms) (state : State)
    (of_object : List ℕ)
    → HasNames p of_name live → live < 4096 → object_named p name ≡ None → name < length p.names → state ≡ made terms p.state
    → of_object ≡ p.of_object ++ name ∷ [] → number ≡ length p.state.market.objects
    → HasNames (record p { state = state; of_object = of_object }) (slice_set of_name name (Some number)) (live + 1)
unfolding made
names_made p of_name live name number terms state of_object h few free within is more given =
    names_added p of_name live name number (Live terms) state of_object p.watching refl h few free within is more given refl

-- a watcher is made
pub names_watched : (p : Standing) (of_name : List (Option ℕ)) (live name number : ℕ) (state : State)
    (of_object : List ℕ) (actions : List (Option ℕ))
    → HasNames p of_name live → live < 4096 → object_named p name ≡ None → name < length p.names → state ≡ watching p.state
    → of_object ≡ p.of_object ++ name ∷ [] → number ≡ length p.state.market.objects → length actions ≡ length p.watching
    → HasNames (record p { state = state; of_object = of_object; watching = actions }) (slice_set of_name name (Some number))
    (live + 1)
unfolding watching
names_watched p of_name live name number state of_object actions h few free within is more given long =
    names_added p of_name live name number Watcher state of_object actions refl h few free within is more given long

-- a live object is dropped
pub names_dropped : (p : Standing) (of_name : List (Option ℕ)) (live name o : ℕ) (state : State)
    → HasNames p of_name (live + 1) → IsNamed p.state.market p.of_object name o → 0 ≢ o → state ≡ dropped o p.state
    → HasNames (record p { state = state }) (slice_set of_name name None) live
unfolding dropped
names_dropped p of_name live name o state h named apart is = rw is (record {
  watching = h.watching;
  table = length-set of_name name None ∙ h.table;
  objects = h.objects ∙ sym (length-set p.state.market.objects o Free);
  today = get_or-set_other p.state.market.objects o 0 Free Free apart ∙ h.today;
  living = omega (arith, h.living, count_less p.state.market.objects o named.0);
  few = let most = h.few in omega (arith, most);
  there = there;
  all = all;
})
  where
    market : Market
    market = record p.state.market { objects = slice_set p.state.market.objects o Free }

    entry : slice_index_or of_name name None ≡ Some o
    entry = h.all name o named

    within : (n x : ℕ) → slice_index_or of_name n None ≡ Some x → n < length of_name
    within n x e = elim (cases_lt n (length of_name)) [
      | inl below ↦ below
      | inr past ↦ absurd (none_some (sym (get_or_past of_name n None past) ∙ e))
    ]

    here : slice_index_or (slice_set of_name name None) name None ≡ None
    here = get_or-set_same of_name name None None (within name o entry)

    stays : (x : ℕ) → x ≢ o → is_given (slot_at market x) ≡ is_given (slot_at p.state.market x)
    stays x other = ap is_given (get_or-set_other p.state.market.objects o x Free Free other)

    gone : is_given (slot_at market o) ≡ false
    gone = ap is_given (get_or-set_same p.state.market.objects o Free Free (given_within p.state.market o named.0))

    there : (n x : ℕ) → slice_index_or (slice_set of_name name None) n None ≡ Some x → IsNamed market p.of_object n x
    there n x e = elim (cases_eq n name) [
      | inl same ↦ absurd (none_some
          (sym here ∙ subst (λ (y : ℕ). slice_index_or (slice_set of_name name None) y None ≡ Some x) same e))
      | inr other ↦
          let old = h.there n x (sym (get_or-set_other of_name name n None None other) ∙ e) in
          let different : x ≢ o =
          λ same. other (sym old.1 ∙ ap (λ (y : ℕ). slice_index_or p.of_object y 0) same ∙ named.1) in
          (stays x different ∙ old.0, old.1)
    ]

    all : (n x : ℕ) → IsNamed market p.of_object n x → slice_index_or (slice_set of_name name None) n None ≡ Some x
    all n x is = elim (cases_eq x o) [
      | inl same ↦ absurd (false≢true (sym gone ∙ subst (λ (y : ℕ). is_given (slot_at market y) ≡ true) same is.0))
      | inr different ↦
          let old = h.all n x (sym (stays x different) ∙ is.0, is.1) in
          let other : n ≢ name =
          λ same. different (some_same
          (sym (subst (λ (y : ℕ). slice_index_or of_name y None ≡ Some x) same old) ∙ entry)) in
          get_or-set_other of_name name n None None other ∙ old
    ]
      where
        some_same : {a b : ℕ} → Some a ≡ Some b → a ≡ b
        some_same e = cc

-- `today` alone has a name
pub names_start : (p : Standing) (table : List (Option ℕ)) (today count : ℕ) (day : ℤ) → p.state ≡ start day
    → p.of_object ≡ today ∷ [] → table ≡ replicate count None → today < count → count ≡ length p.names
    → length p.watching ≡ length p.names
    → HasNames p (slice_set table today (Some 0)) 1
names_start p table today count day begins named empty within is long = record {
  watching = long;
  table = length-set table today (Some 0) ∙ length_is ∙ is;
  objects = ap (λ (names : List ℕ). length names) named
      ∙ sym (ap (λ (state : State). length state.market.objects) begins);
  today = ap (λ (state : State). slot_at state.market 0) begins;
  living = sym (ap (λ (state : State). live_count state.market) begins);
  few = omega arith;
  there = there;
  all = all;
}
  where
    nobody : Option ℕ
    nobody = None

    length_is : length table ≡ count
    length_is = ap (λ (t : List (Option ℕ)). length t) empty ∙ length-replicate count nobody

    nothing : (n : ℕ) → slice_index_or table n nobody ≡ nobody
    nothing n = elim (cases_lt n count) [
      | inl below ↦ ap (λ (t : List (Option ℕ)). slice_index_or t n nobody) empty
          ∙ get_or-replicate count n nobody nobody below
      | inr past ↦ get_or_past table n nobody (omega (arith, length_is, past))
    ]

    here : slice_index_or (slice_set table today (Some 0)) today nobody ≡ Some 0
    here = get_or-set_same table today (Some 0) nobody (omega (arith, length_is, within))

    today_named : IsNamed p.state.market p.of_object today 0
    today_named = (
      ap (λ (state : State). is_given (slot_at state.market 0)) begins,
      ap
          (λ (names : List ℕ). slice_index_or names 0 0) named,
    )

    there : (n o : ℕ) → slice_index_or (slice_set table today (Some 0)) n None ≡ Some o
        → IsNamed p.state.market p.of_object n o
    there n o e = elim (cases_eq n today) [
      | inl same ↦
          let e2 : slice_index_or (slice_set table today (Some 0)) today nobody ≡ Some o =
          subst (λ (x : ℕ). slice_index_or (slice_set table today (Some 0)) x nobody ≡ Some o) same e in
          let here2 : Some 0 ≡ Some o = sym here ∙ e2 in
          let first : 0 ≡ o = cc in
          subst (λ (x : ℕ). IsNamed p.state.market p.of_object n x) first (today_named.0, today_named.1 ∙ sym same)
      | inr other ↦ absurd (none_some (sym (nothing n) ∙ sym (get_or-set_other table today n (Some 0) None other) ∙ e))
    ]

    all : (n o : ℕ) → IsNamed p.state.market p.of_object n o
        → slice_index_or (slice_set table today (Some 0)) n None ≡ Some o
    all n o is =
        let within : o < length p.state.market.objects = given_within p.state.market o is.0 in
        let one : length p.state.market.objects ≡ 1 = ap (λ (state : State). length state.market.objects) begins in
        let first : 0 ≡ o = omega (arith, within, one) in
        let same : today ≡ n = sym today_named.1 ∙ ap (λ (x : ℕ). slice_index_or p.of_object x 0) first ∙ is.1 in
        subst (λ (x : ℕ). slice_index_or (slice_set table today (Some 0)) x None ≡ Some o) same (here ∙ ap Some first)

-- an object that is no `today` is not object 0
pub apart_from : (m : Market) (o : ℕ) → slot_at m 0 ≡ Today → slot_at m o ≢ Today → 0 ≢ o
apart_from m o today other same = other (ap (slot_at m) (sym same) ∙ today)

-- a market with a live object has at least one
pub living_within : (m : Market) (o : ℕ) → is_given (slot_at m o) ≡ true → 1 ≤ live_count m
living_within m o given = let less = count_less m.objects o given in omega (arith, less)

-- the name of a live object is among the names of the table
pub name_within : (p : Standing) (of_name : List (Option ℕ)) (live name o : ℕ) → HasNames p of_name live
    → IsNamed p.state.market p.of_object name o → name < length of_name
name_within p of_name live name o h named = elim (cases_lt name (length of_name)) [
  | inl below ↦ below
  | inr past ↦ absurd (none_some (sym (get_or_past of_name name None past) ∙ h.all name o named))
]
