-- Quotes that are set leave a market in which they have their values, and set back they leave the one that was.
use Rattle.std.proofs.Common.{◌≡◌, ◌≢◌, inl, inr, ℕ, ◌<◌, Bool, true, false, ◌==◌, List, [], ◌∷◌, length, ℤ, Option, Some, None, refl, sym, ◌∙◌, ap, subst, arith}
use Rattle.std.specs.Prelude.{slice_set, ◌||◌}
use Rattle.std.specs.Option.{option_eq}
use Rattle.std.specs.Ordering.{int_eq}
use Rattle.std.proofs.lemmas.List.{get_or-set_same, get_or-set_other, get_or_past, length-set, ext_get_or, set-get_or}
use Rattle.std.proofs.lemmas.List.Elements.{All-nil, All-cons, All-head, All-tail, All-weaker}
use Rattle.std.proofs.lemmas.Bool.{cases_eq, cases_lt, or_parts}
use Rattle.std.proofs.lemmas.Bool.Decides.{Decides-int_eq, nat_tests}
use Rattle.desk_terms.specs.declared.terms.Terms.{Terms}
use Rattle.desk_terms.specs.declared.terms.Terms.TheVariants.{Quote, Derived, Handle, Curve, Implied, Index, Engine, Stock, Composite, Flows}
use Rattle.desk_terms.specs.declared.terms.HandleKind.TheVariants as handle
use Rattle.desk_terms.specs.declared.kind.Kind as kind
use Rattle.desk_terms.specs.Kind.{role}
use Rattle.desk_model.specs.declared.slot.Slot.{Slot}
use Rattle.desk_model.specs.declared.slot.Slot.TheVariants.{Free, Today, Watcher, Live}
use Rattle.desk_model.specs.Market.{Market, slot_at, terms_in, terms_at, kind_in, kind_at, is_lazy, role_of}
use Rattle.desk_model.specs.Changeable.{changeable}
use Rattle.desk_model.specs.Changeable.Changeable.{HasValue}
use Rattle.desk_model.specs.State.{State}
use Rattle.desk_model.specs.Links.{is_lazy_at}
use Rattle.desk_model.specs.Effect.{notified, notified_as, with_terms, revised, revised_unless, value_set, quote_set}
use Rattle.desk_model.specs.Unheld.{HoldsNothing}
use Rattle.desk_model.proofs.Unheld.{others_hold_nothing}
use Rattle.desk_model.proofs.Stores.{told_market}
use Rattle.bump_model.specs.declared.moves.Quoted.{Quoted}
use Rattle.bump_model.specs.Moves.{value_of, value_at, quoted, and_quoted, quoted_in, with_value, with_values, all_set, AreQuoted, is_among, DifferAt, AreLive}

-- ---- tests

or_second : (a b : Bool) → (a || b) ≡ true → b ≡ false → a ≡ true
or_second true b either gone = refl
or_second false true either gone = absurd (let none : true ≡ false = gone in cc)
or_second false false either gone = either

-- ---- one slot

-- a quote's slot
quote_slot : (slot : Slot) → kind_in slot ≡ Some kind.TheVariants.Quote → (value : Option ℤ) × (slot ≡ Live (Quote value))
quote_slot Free e = absurd (let none : None ≡ Some kind.TheVariants.Quote = e in cc)
quote_slot Today e = absurd (cc)
quote_slot Watcher e = absurd (cc)
quote_slot (Live (Quote value)) e = (value, refl)
quote_slot (Live (Derived minus first second)) e = absurd (cc)
quote_slot (Live (Handle handle.Quote target)) e = absurd (cc)
quote_slot (Live (Handle handle.Curve target)) e = absurd (cc)
quote_slot (Live (Curve terms)) e = absurd (cc)
quote_slot (Live (Implied curve reference)) e = absurd (cc)
quote_slot (Live (Index terms fixings)) e = absurd (cc)
quote_slot (Live (Engine curve)) e = absurd (cc)
quote_slot (Live (Stock quote)) e = absurd (cc)
quote_slot (Live (Composite parts)) e = absurd (cc)
quote_slot (Live (Flows flows engine)) e = absurd (cc)

abbrev IsQuote : Market → ℕ → Type 0
IsQuote m q = kind_at m q ≡ Some kind.TheVariants.Quote

quote_within : (m : Market) (q : ℕ) → IsQuote m q → q < length m.objects
quote_within m q is = elim (cases_lt q (length m.objects)) [
  | inl within ↦ within
  | inr past ↦ absurd (let none : None ≡ Some kind.TheVariants.Quote = ap kind_in (sym (get_or_past m.objects q Free past)) ∙ is in cc)
]

live_slot : (slot : Slot) (terms : Terms) → terms_in slot ≡ Some terms → slot ≡ Live terms
live_slot Free terms e = absurd (let none : None ≡ Some terms = e in cc)
live_slot Today terms e = absurd (let none : None ≡ Some terms = e in cc)
live_slot Watcher terms e = absurd (let none : None ≡ Some terms = e in cc)
live_slot (Live old) terms e = let same : old ≡ terms = cc in ap Live same

market_is : (m n : Market) → m.today ≡ n.today → m.objects ≡ n.objects → m ≡ n
market_is m n days objects =
    ap (λ (d : ℤ). record { today = d; objects = m.objects }) days
    ∙ ap (λ (l : List Slot). record { today = n.today; objects = l }) objects

-- ---- one quote that has another value

module _ (m : Market) (q : ℕ) (v : ℤ) (is : IsQuote m q) where
  here : slot_at (with_value q v m) q ≡ Live (Quote (Some v))
  here = get_or-set_same m.objects q (Live (Quote (Some v))) Free (quote_within m q is)

  there : (x : ℕ) → x ≢ q → slot_at (with_value q v m) x ≡ slot_at m x
  there x other = get_or-set_other m.objects q x (Live (Quote (Some v))) Free other

  kinds_same : (x : ℕ) → kind_at (with_value q v m) x ≡ kind_at m x
  kinds_same x = elim (cases_eq x q) [
    | inl same ↦ ap (kind_at (with_value q v m)) same ∙ (ap kind_in here ∙ sym is) ∙ ap (kind_at m) (sym same)
    | inr other ↦ ap kind_in (there x other)
  ]

live_kinds : (m n : Market) (group : List Quoted) → ((x : ℕ) → kind_at n x ≡ kind_at m x) → AreLive m group → AreLive n group
live_kinds m n group kinds live =
    All-weaker (λ h. IsQuote m h.quote) (λ h. IsQuote n h.quote) (λ h is. kinds h.quote ∙ is) group live

abbrev first_live : (m : Market) (h : Quoted) (group : List Quoted) → AreLive m (h ∷ group) → IsQuote m h.quote
first_live m h group live = All-head (λ h. IsQuote m h.quote) h group live

abbrev others_live : (m : Market) (h : Quoted) (group : List Quoted) (v : ℤ) → AreLive m (h ∷ group)
    → AreLive (with_value h.quote v m) group
others_live m h group v live =
    live_kinds m (with_value h.quote v m) group (kinds_same m h.quote v (first_live m h group live))
    (All-tail (λ h. IsQuote m h.quote) h group live)

-- ---- several

pub differ_none : (group : List Quoted) (m : Market) → DifferAt group m m
differ_none group m = record { today = refl; long = refl; kinds = λ x. refl; others = λ x apart. refl }

pub differ_more : (group : List Quoted) (l m n : Market) → DifferAt group l m → DifferAt group m n → DifferAt group l n
differ_more group l m n first second = record {
  today = second.today ∙ first.today;
  long = second.long ∙ first.long;
  kinds = λ x. second.kinds x ∙ first.kinds x;
  others = λ x apart. second.others x apart ∙ first.others x apart;
}

apart_from : (x y : ℕ) → (y == x) ≡ false → x ≢ y
apart_from x y e same = grind (arith, nat_tests)

equal_to : (x y : ℕ) → (y == x) ≡ true → x ≡ y
equal_to x y e = grind (arith, nat_tests)

pub moved_differ : (change : ℤ → ℤ) (group : List Quoted) (m : Market) → AreLive m group → DifferAt group m (with_values change group m)
unfolding with_values
moved_differ change [] m live = differ_none [] m
moved_differ change (h ∷ group) m live =
    let is = first_live m h group live in
    let v = change h.value in
    let rest = moved_differ change group (with_value h.quote v m) (others_live m h group v live) in record {
      today = rest.today;
      long = rest.long ∙ length-set m.objects h.quote (Live (Quote (Some v)));
      kinds = λ x. rest.kinds x ∙ kinds_same m h.quote v is x;
      others = λ x apart. let parts = or_parts (h.quote == x) (is_among group x) apart in
          rest.others x parts.1 ∙ there m h.quote v is x (apart_from x h.quote parts.0);
    }

-- where a quote is among these, its value before is no matter
module _ (change : ℤ → ℤ) where
  moved_at_first : (h : Quoted) (group : List Quoted) (m n : Market) → AreLive m (h ∷ group) → AreLive n (h ∷ group) → (x : ℕ)
      → is_among (h ∷ group) x ≡ true → is_among group x ≡ false
      → slot_at (with_values change group (with_value h.quote (change h.value) n)) x
      ≡ slot_at (with_values change group (with_value h.quote (change h.value) m)) x
  moved_at_first h group m n live_m live_n x among gone =
      let v = change h.value in
      let e = equal_to x h.quote (or_second (h.quote == x) (is_among group x) among gone) in
      (moved_differ change group (with_value h.quote v n) (others_live n h group v live_n)).others x gone
      ∙ (ap (slot_at (with_value h.quote v n)) e ∙ here n h.quote v (first_live n h group live_n)
      ∙ sym (here m h.quote v (first_live m h group live_m)) ∙ ap (slot_at (with_value h.quote v m)) (sym e))
      ∙ sym ((moved_differ change group (with_value h.quote v m) (others_live m h group v live_m)).others x gone)

  moved_at_by : (h : Quoted) (group : List Quoted) (m n : Market) (x : ℕ) (b : Bool) → is_among group x ≡ b
      → (is_among group x ≡ true → slot_at (with_values change group n) x ≡ slot_at (with_values change group m) x)
      → (is_among group x ≡ false → slot_at (with_values change group n) x ≡ slot_at (with_values change group m) x)
      → slot_at (with_values change group n) x ≡ slot_at (with_values change group m) x
  moved_at_by h group m n x true is later first = later is
  moved_at_by h group m n x false is later first = first is

  moved_at : (group : List Quoted) (m n : Market) → AreLive m group → AreLive n group → (x : ℕ) → is_among group x ≡ true
      → slot_at (with_values change group n) x ≡ slot_at (with_values change group m) x
  unfolding with_values
  moved_at [] m n live_m live_n x among = absurd (let none : false ≡ true = among in cc)
  moved_at (h ∷ group) m n live_m live_n x among =
      let v = change h.value in
      moved_at_by h group (with_value h.quote v m) (with_value h.quote v n) x (is_among group x) refl
      (moved_at group (with_value h.quote v m) (with_value h.quote v n) (others_live m h group v live_m)
      (others_live n h group v live_n) x)
      (moved_at_first h group m n live_m live_n x among)

-- THE VALUES BEFORE ARE NO MATTER
pub moved_same : (change : ℤ → ℤ) (group : List Quoted) (m n : Market) → AreLive m group → DifferAt group m n
    → with_values change group n ≡ with_values change group m
moved_same change group m n live differ =
    market_is (with_values change group n) (with_values change group m)
    (to_n.today ∙ differ.today ∙ sym to_m.today)
    (ext_get_or Free (with_values change group n).objects (with_values change group m).objects
    (to_n.long ∙ differ.long ∙ sym to_m.long) (λ x within. at x (is_among group x) refl))
  where
    live_n : AreLive n group
    live_n = live_kinds m n group differ.kinds live

    to_m : DifferAt group m (with_values change group m)
    to_m = moved_differ change group m live

    to_n : DifferAt group n (with_values change group n)
    to_n = moved_differ change group n live_n

    at : (x : ℕ) (b : Bool) → is_among group x ≡ b
        → slot_at (with_values change group n) x ≡ slot_at (with_values change group m) x
    at x true among = moved_at change group m n live live_n x among
    at x false apart = to_n.others x apart ∙ differ.others x apart ∙ sym (to_m.others x apart)

-- ---- values as they are

same_value : (m : Market) (q : ℕ) (v : ℤ) → terms_at m q ≡ Some (Quote (Some v)) → with_value q v m ≡ m
same_value m q v is =
    market_is (with_value q v m) m refl
    (ap (λ (slot : Slot). slice_set m.objects q slot) (sym (live_slot (slot_at m q) (Quote (Some v)) is))
    ∙ set-get_or m.objects q Free)

abbrev IsQuoted : Market → Quoted → Type 0
IsQuoted m h = terms_at m h.quote ≡ Some (Quote (Some h.value))

quoted_values : (group : List Quoted) (m : Market) → AreQuoted m group → with_values (λ value. value) group m ≡ m
unfolding with_values
quoted_values [] m are = refl
quoted_values (h ∷ group) m are =
    ap (with_values (λ value. value) group) (same_value m h.quote h.value (All-head (IsQuoted m) h group are))
    ∙ quoted_values group m (All-tail (IsQuoted m) h group are)

pub quoted_live : (m : Market) (group : List Quoted) → AreQuoted m group → AreLive m group
quoted_live m group are =
    All-weaker (IsQuoted m) (λ h. IsQuote m h.quote)
    (λ h is. ap kind_in (live_slot (slot_at m h.quote) (Quote (Some h.value)) is)) group are

value_terms : (t : Option Terms) (v : ℤ) → value_of (changeable t) ≡ Some v → t ≡ Some (Quote (Some v))
value_terms None v e = absurd (let none : None ≡ Some v = e in cc)
value_terms (Some (Quote value)) v e = ap (λ (x : Option ℤ). Some (Quote x)) e
value_terms (Some (Derived minus first second)) v e = absurd (let none : None ≡ Some v = e in cc)
value_terms (Some (Handle kind target)) v e = absurd (let none : None ≡ Some v = e in cc)
value_terms (Some (Curve terms)) v e = absurd (let none : None ≡ Some v = e in cc)
value_terms (Some (Implied curve reference)) v e = absurd (let none : None ≡ Some v = e in cc)
value_terms (Some (Index terms fixings)) v e = absurd (let none : None ≡ Some v = e in cc)
value_terms (Some (Engine curve)) v e = absurd (let none : None ≡ Some v = e in cc)
value_terms (Some (Stock quote)) v e = absurd (let none : None ≡ Some v = e in cc)
value_terms (Some (Composite parts)) v e = absurd (let none : None ≡ Some v = e in cc)
value_terms (Some (Flows flows engine)) v e = absurd (let none : None ≡ Some v = e in cc)

pub one_quoted : (m : Market) (q : ℕ) (v : ℤ) → value_at m q ≡ Some v → AreQuoted m (quoted q v ∷ [])
one_quoted m q v is = All-cons (IsQuoted m) (quoted q v) [] (value_terms (terms_at m q) v is) (All-nil (IsQuoted m))

one_more : (m : Market) (q : ℕ) (others : List Quoted) (found : Option ℤ) → value_at m q ≡ found → AreQuoted m others
    → AreQuoted m (and_quoted q found others)
one_more m q others None e are = are
one_more m q others (Some v) e are = All-cons (IsQuoted m) (quoted q v) others (value_terms (terms_at m q) v e) are

pub all_quoted : (m : Market) (quotes : List ℕ) → AreQuoted m (quoted_in m quotes)
all_quoted m [] = All-nil (IsQuoted m)
all_quoted m (q ∷ quotes) = one_more m q (quoted_in m quotes) (value_at m q) refl (all_quoted m quotes)

-- ---- the state in which quotes are set

notified_market : (x : ℕ) (s : State) → (notified x s).market ≡ s.market
unfolding notified
notified_market x s = by s.deferring
  where
    by : (b : Bool) → (notified_as b x s).market ≡ s.market
    by true = refl
    by false = told_market (λ y. y == x) s

revised_value : (q : ℕ) (v : ℤ) (s : State) → (revised q (Quote (Some v)) s).market ≡ with_value q v s.market
unfolding revised
revised_value q v s = notified_market q (with_terms q (Quote (Some v)) s)

set_market : (s : State) (q : ℕ) (v : ℤ) → IsQuote s.market q → (quote_set q (Some v) s).market ≡ with_value q v s.market
unfolding quote_set
set_market s q v is =
    let slot = quote_slot (slot_at s.market q) is in
    let quoted = ap terms_in slot.1 in
    ap (λ (t : Option Terms). (value_set (changeable t) q (Some v) s).market) quoted ∙ by slot.0 quoted
  where
    unless : (quoted : Option ℤ) → terms_at s.market q ≡ Some (Quote quoted) → (same : Bool) → option_eq int_eq quoted (Some v) ≡ same
        → (revised_unless same q (Quote (Some v)) s).market ≡ with_value q v s.market
    unless quoted is false other = revised_value q v s
    unless None is true same = absurd (let none : false ≡ true = same in cc)
    unless (Some old) is true same =
        let e : old ≡ v = (Decides-int_eq old v).0 same in
        sym (same_value s.market q v (is ∙ ap (λ (z : ℤ). Some (Quote (Some z))) e))

    by : (quoted : Option ℤ) → terms_at s.market q ≡ Some (Quote quoted)
        → (value_set (HasValue quoted) q (Some v) s).market ≡ with_value q v s.market
    by quoted is = unless quoted is (option_eq int_eq quoted (Some v)) refl

-- SETTING IS MOVING
pub set_moves : (change : ℤ → ℤ) (group : List Quoted) (s : State) → AreLive s.market group
    → (all_set change group s).market ≡ with_values change group s.market
unfolding all_set with_values
set_moves change [] s live = refl
set_moves change (h ∷ group) s live =
    let v = change h.value in
    let step = set_market s h.quote v (first_live s.market h group live) in
    let later = subst (λ (m : Market). AreLive m group) (sym step) (others_live s.market h group v live) in
    set_moves change group (quote_set h.quote (Some v) s) later ∙ ap (with_values change group) step

-- one quote that is set leaves the kinds
pub set_live : (s : State) (h : Quoted) (v : ℤ) (group : List Quoted) → AreLive s.market (h ∷ group)
    → AreLive (quote_set h.quote (Some v) s).market group
set_live s h v group live =
    subst (λ (m : Market). AreLive m group) (sym (set_market s h.quote v (first_live s.market h group live)))
    (others_live s.market h group v live)

pub set_differ : (change : ℤ → ℤ) (group : List Quoted) (m : Market) (s : State) → AreLive m group → DifferAt group m s.market
    → DifferAt group m (all_set change group s).market
set_differ change group m s live differ =
    let live_s = live_kinds m s.market group differ.kinds live in
    subst (λ (n : Market). DifferAt group m n) (sym (set_moves change group s live_s))
    (differ_more group m s.market (with_values change group s.market) differ (moved_differ change group s.market live_s))

-- THE MARKET AS BEFORE
pub set_back : (group : List Quoted) (m : Market) (s : State) → AreQuoted m group → DifferAt group m s.market
    → (all_set (λ value. value) group s).market ≡ m
set_back group m s are differ =
    let live = quoted_live m group are in
    set_moves (λ value. value) group s (live_kinds m s.market group differ.kinds live)
    ∙ moved_same (λ value. value) group m s.market live differ ∙ quoted_values group m are

pub live_differ : (group : List Quoted) (m n : Market) → DifferAt group m n → AreLive m group → AreLive n group
live_differ group m n differ live = live_kinds m n group differ.kinds live

-- ---- what is priced is so still, and nothing is held back

lazy_kind : Option kind.Kind → Bool
lazy_kind None = false
lazy_kind (Some k) = is_lazy (role k)

lazy_slot : (slot : Slot) → is_lazy (role_of (terms_in slot)) ≡ lazy_kind (kind_in slot)
unfolding lazy_kind
lazy_slot Free = refl
lazy_slot Today = refl
lazy_slot Watcher = refl
lazy_slot (Live terms) = refl

pub lazy_still : (group : List Quoted) (m n : Market) (o : ℕ) → DifferAt group m n → is_lazy_at m o ≡ true → is_lazy_at n o ≡ true
lazy_still group m n o differ lazy =
    lazy_slot (slot_at n o) ∙ ap lazy_kind (differ.kinds o) ∙ sym (lazy_slot (slot_at m o)) ∙ lazy

pub set_unheld : (change : ℤ → ℤ) (group : List Quoted) (s : State) → HoldsNothing s → HoldsNothing (all_set change group s)
unfolding all_set
set_unheld change [] s free = free
set_unheld change (h ∷ group) s free =
    set_unheld change group (quote_set h.quote (Some (change h.value)) s)
    ((others_hold_nothing s free).quote h.quote (Some (change h.value)))
