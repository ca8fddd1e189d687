-- What is listed and what waits, as the walk that makes a listing is taken over a session.
use Rattle.std.proofs.Common.{◌≡◌, ℕ, suc, ◌+◌, ◌<◌, Bool, true, false, List, [], ◌∷◌, ◌++◌, length, Some}
use Rattle.std.proofs.Common.{refl, sym, ◌∙◌, ap, subst, arith}
use Rattle.std.specs.Prelude.{◌==◌, ◌||◌, nat_eq, if◌then◌else◌, reverse, not}
use Rattle.std.specs.List.{All, list_any}
use Rattle.std.proofs.lemmas.List.{length-append, length-reverse}
use Rattle.std.proofs.lemmas.List.Elements.{All-nil, All-cons, All-append, All-pop}
use Rattle.std.proofs.lemmas.Bool.Decides.{Decides-eqb, same_from_decides}
use Rattle.desk_model.specs.State.{State}
use Rattle.desk_model.specs.Links.{IsLinked}
use Rattle.indexmap.specs.IndexSet.{insert_key}
use Rattle.why_model.specs.Listing.{rests_on, is_listed, each_put, with_object, listing}
use Rattle.session_why.proofs.Walked.{open_cost, cost_less, walk_begins, walk_listed, walk_new, rests_within}

-- ---- what an object observes

-- ---- a set of numbers, and the list of them

either_way : (a b : ℕ) → (a == b) ≡ (b == a)
either_way a b =
    same_from_decides (a == b) (b == a) (Decides-eqb a b)
    (λ e. sym ((Decides-eqb b a).0 e), λ e. (Decides-eqb b a).1 (sym e))

same_listed : (list : List ℕ) (k : ℕ) → list_any (nat_eq k) list ≡ is_listed list k
same_listed [] k = refl
same_listed (x ∷ xs) k =
    ap (λ (b : Bool). b || list_any (nat_eq k) xs) (either_way k x)
    ∙ ap (λ (b : Bool). (x == k) || b) (same_listed xs k)

-- one that is known
pub known_listed : (list new : List ℕ) (k : ℕ) (is_new : Bool) → is_new ≡ not (list_any (nat_eq k) list)
    → new ≡ insert_key nat_eq list k → is_new ≡ false → (is_listed list k ≡ true) × (new ≡ list)
known_listed list new k is_new was are known =
    let there = not_false (list_any (nat_eq k) list) (sym was ∙ known) in
    (sym (same_listed list k) ∙ there, are ∙ ap (λ (b : Bool). if b then list else list ++ k ∷ []) there)
  where
    not_false : (b : Bool) → not b ≡ false → b ≡ true
    not_false true e = refl
    not_false false e = absurd (cc)

-- one that is new
pub new_listed : (list new : List ℕ) (k : ℕ) (is_new : Bool) → is_new ≡ not (list_any (nat_eq k) list)
    → new ≡ insert_key nat_eq list k → is_new ≡ true → (is_listed list k ≡ false) × (new ≡ list ++ k ∷ [])
new_listed list new k is_new was are is =
    let absent = not_true (list_any (nat_eq k) list) (sym was ∙ is) in
    (sym (same_listed list k) ∙ absent, are ∙ ap (λ (b : Bool). if b then list else list ++ k ∷ []) absent)
  where
    not_true : (b : Bool) → not b ≡ true → b ≡ false
    not_true false e = refl
    not_true true e = absurd (cc)

-- ---- a turn of the walk

-- these are listed, and behind them come those that wait, as they are put there
pub record Walks (s : State) (o : ℕ) (listed waiting : List ℕ) : Type 0 where
  pub list : each_put (with_object (rests_on s) (suc (length s.market.objects))) listed (reverse waiting) ≡ listing s o
  pub within : All (λ x. x < length s.market.objects) waiting

module _ (s : State) (links : IsLinked s.market) (o : ℕ) where
  abbrev n : ℕ
  n = length s.market.objects

  -- nothing is listed yet, and the object itself waits
  pub walks_begin : (list waiting : List ℕ) → list ≡ [] → waiting ≡ o ∷ [] → o < n → Walks s o list waiting
  walks_begin list waiting none one low = record {
    list = ap (λ (l : List ℕ). each_put (with_object (rests_on s) (suc n)) l (reverse waiting)) none
        ∙ ap (λ (l : List ℕ). each_put (with_object (rests_on s) (suc n)) [] (reverse l)) one
        ∙ walk_begins s links o;
    within =
        subst (λ (l : List ℕ). All (λ x. x < n) l) (sym one) (All-cons (λ x. x < n) o [] low (All-nil (λ x. x < n)));
  }

  module _ (list waiting rest : List ℕ) (next : ℕ) (last : waiting ≡ rest ++ next ∷ []) (walks : Walks s o list waiting)
    where
      top : All (λ x. x < n) rest × (next < n)
      top = All-pop (λ x. x < n) waiting rest (Some next) last walks.within

      -- the next one is listed already
      pub turn_known : (new : List ℕ) → (is_listed list next ≡ true) × (new ≡ list) → Walks s o new rest
      turn_known new is = record {
        list = ap (λ (l : List ℕ). each_put (with_object (rests_on s) (suc n)) l (reverse rest)) is.1
            ∙ sym (walk_listed s links list rest next is.0)
            ∙ sym (ap (λ (l : List ℕ). each_put (with_object (rests_on s) (suc n)) list (reverse l)) last)
            ∙ walks.list;
        within = top.0;
      }

      pub known_less : (new : List ℕ) → (is_listed list next ≡ true) × (new ≡ list)
          → open_cost (rests_on s) new n + length rest < open_cost (rests_on s) list n + length waiting
      known_less new is =
          let same : open_cost (rests_on s) new n ≡ open_cost (rests_on s) list n =
          ap (λ (l : List ℕ). open_cost (rests_on s) l n) is.1 in
          let one = ap length last in
          let e = length-append rest (next ∷ []) in
          omega (arith, same, one, e)

      -- it is not: what it rests on waits then
      module _ (new behind : List ℕ) (is : (is_listed list next ≡ false) × (new ≡ list ++ next ∷ []))
          (put : behind ≡ rest ++ reverse (rests_on s next)) where
        pub turn_new : Walks s o new behind
        turn_new = record {
          list = ap (λ (l : List ℕ). each_put (with_object (rests_on s) (suc n)) l (reverse behind)) is.1
              ∙ ap (λ (l : List ℕ). each_put (with_object (rests_on s) (suc n)) (list ++ next ∷ []) (reverse l)) put
              ∙ sym (walk_new s links list rest next is.0)
              ∙ sym (ap (λ (l : List ℕ). each_put (with_object (rests_on s) (suc n)) list (reverse l)) last)
              ∙ walks.list;
          within = subst (λ (l : List ℕ). All (λ x. x < n) l) (sym put)
              (All-append (λ x. x < n) rest (reverse (rests_on s next)) top.0 (rests_within s links next));
        }

        pub new_less : open_cost (rests_on s) new n + length behind < open_cost (rests_on s) list n + length waiting
        new_less =
            let same : open_cost (rests_on s) new n ≡ open_cost (rests_on s) (list ++ next ∷ []) n =
            ap (λ (l : List ℕ). open_cost (rests_on s) l n) is.1 in
            let cost = cost_less (rests_on s) list next is.0 n top.1 in
            let one = ap length last in
            let e = length-append rest (next ∷ []) in
            let two = ap length put in
            let d = length-append rest (reverse (rests_on s next)) in
            let r = length-reverse (rests_on s next) in
            omega (arith, same, cost, one, e, two, d, r)

pub none_left : (waiting : List ℕ) → length waiting ≡ 0 → waiting ≡ []
none_left [] none = refl
none_left (x ∷ xs) none = absurd (omega arith)

-- nothing waits any more
pub walks_end : (s : State) (o : ℕ) (list waiting : List ℕ) → waiting ≡ []
    → Walks s o list waiting → list ≡ listing s o
walks_end s o list waiting none walks =
    ap (λ (l : List ℕ). each_put (with_object (rests_on s) (suc (length s.market.objects))) list (reverse l)) (sym none)
    ∙ walks.list
