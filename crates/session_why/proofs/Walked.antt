-- The walk that makes a listing: a stack of what is still to be listed, the first on top.
use Rattle.std.proofs.Common.{◌≡◌, inl, inr, ℕ, zero, suc, ◌+◌, ◌<◌, ◌≤◌, Bool, true, false, List, [], ◌∷◌, ◌++◌}
use Rattle.std.proofs.Common.{length, refl, sym, ◌∙◌, ap, subst, arith}
use Rattle.std.specs.Prelude.{◌==◌, ◌||◌, if◌then◌else◌, reverse}
use Rattle.std.proofs.lemmas.List.{reverse-append, reverse-reverse}
use Rattle.std.proofs.lemmas.List.Folds.{list_any-append}
use Rattle.std.proofs.lemmas.Bool.{eqb-true, eq-eqb, false≢true, false_from_ne_true, cases_Bool, cases_lt}
use Rattle.walks.specs.Walk.{Among, Falls}
use Rattle.observer_graph.proofs.Members.{among_cases}
use Rattle.std.specs.List.{All}
use Rattle.std.proofs.lemmas.List.Elements.{All-nil, All-cons}
use Rattle.desk_model.specs.Market.{edges}
use Rattle.desk_model.specs.State.{State}
use Rattle.desk_model.specs.Links.{IsLinked}
use Rattle.desk_model.proofs.Bounds.{ranks_of}
use Rattle.why_model.specs.Listing.{shows_last, rests_on, is_listed, each_put, with_object, listing}
use Rattle.why_model.proofs.Listed.{fewer, rests_fall, each_same, with_steps}

-- ---- what is listed next

each_append : (put : List ℕ → ℕ → List ℕ) (list xs ys : List ℕ)
    → each_put put list (xs ++ ys) ≡ each_put put (each_put put list xs) ys
each_append put list [] ys = refl
each_append put list (x ∷ xs) ys = each_append put (put list x) xs ys

module _ (reads : ℕ → List ℕ) (rank : ℕ → ℕ) (falls : Falls reads rank) (n : ℕ) (low : (o : ℕ) → rank o < suc n) where
  -- a stack whose top is listed already
  pub step_listed : (list rest : List ℕ) (next : ℕ) → is_listed list next ≡ true
      → each_put (with_object reads (suc n)) list (reverse (rest ++ next ∷ []))
      ≡ each_put (with_object reads (suc n)) list (reverse rest)
  unfolding with_object
  step_listed list rest next is =
      ap (each_put (with_object reads (suc n)) list) (reverse-append rest (next ∷ []))
      ∙ ap (λ (b : Bool). each_put (with_object reads (suc n))
      (if b then list else each_put (with_object reads n) (list ++ next ∷ []) (reads next)) (reverse rest)) is

  first_new : (list : List ℕ) (next : ℕ) → is_listed list next ≡ false
      → with_object reads (suc n) list next ≡ each_put (with_object reads n) (list ++ next ∷ []) (reads next)
  unfolding with_object
  first_new list next is =
      ap (λ (b : Bool). if b then list else each_put (with_object reads n) (list ++ next ∷ []) (reads next)) is

  put_new : (list : List ℕ) (next : ℕ) → is_listed list next ≡ false
      → with_object reads (suc n) list next ≡ each_put (with_object reads (suc n)) (list ++ next ∷ []) (reads next)
  put_new list next is =
      first_new list next is
      ∙ each_same (with_object reads n) (with_object reads (suc n)) (list ++ next ∷ []) (reads next)
      (λ l x among. let fall = falls next x among in let top = low next in with_steps reads rank falls n (suc n) l x
      (omega arith) (low x))

  -- and one whose top is not: it is listed, and what it reads is put on the stack
  pub step_new : (list rest : List ℕ) (next : ℕ) → is_listed list next ≡ false
      → each_put (with_object reads (suc n)) list (reverse (rest ++ next ∷ []))
      ≡ each_put (with_object reads (suc n)) (list ++ next ∷ []) (reverse (rest ++ reverse (reads next)))
  step_new list rest next is =
      ap (each_put (with_object reads (suc n)) list) (reverse-append rest (next ∷ []))
      ∙ ap (λ (l : List ℕ). each_put (with_object reads (suc n)) l (reverse rest)) (put_new list next is)
      ∙ sym (each_append (with_object reads (suc n)) (list ++ next ∷ []) (reads next) (reverse rest))
      ∙ ap (each_put (with_object reads (suc n)) (list ++ next ∷ []))
      (sym (reverse-append rest (reverse (reads next)) ∙ ap (λ (l : List ℕ). l ++ reverse rest)
      (reverse-reverse (reads next))))

-- ---- how long it takes

-- an object that is not listed yet costs itself and what it reads
abbrev pub cost_of : (ℕ → List ℕ) → List ℕ → ℕ → ℕ
cost_of reads list k = if is_listed list k then 0 else suc (length (reads k))

unfoldable pub open_cost : (ℕ → List ℕ) → List ℕ → ℕ → ℕ
open_cost reads list zero = 0
open_cost reads list (suc k) = cost_of reads list k + open_cost reads list k

or_nothing : (b : Bool) → (b || false) ≡ b
or_nothing true = refl
or_nothing false = refl

listed_other : (list : List ℕ) (next k : ℕ) → (next == k) ≡ false → is_listed (list ++ next ∷ []) k ≡ is_listed list k
listed_other list next k other =
    list_any-append (λ x. x == k) list (next ∷ [])
    ∙ ap (λ (b : Bool). is_listed list k || (b || false)) other ∙ or_nothing (is_listed list k)

or_all : (b : Bool) → (b || true) ≡ true
or_all true = refl
or_all false = refl

listed_itself : (list : List ℕ) (next k : ℕ) → (next == k) ≡ true → is_listed (list ++ next ∷ []) k ≡ true
listed_itself list next k same =
    list_any-append (λ x. x == k) list (next ∷ [])
    ∙ ap (λ (b : Bool). is_listed list k || (b || false)) same ∙ or_all (is_listed list k)

module _ (reads : ℕ → List ℕ) (list : List ℕ) (next : ℕ) where
  cost_other : (k : ℕ) → (next == k) ≡ false → cost_of reads (list ++ next ∷ []) k ≡ cost_of reads list k
  cost_other k other = ap (λ (b : Bool). if b then 0 else suc (length (reads k))) (listed_other list next k other)

  cost_itself : (k : ℕ) → (next == k) ≡ true → cost_of reads (list ++ next ∷ []) k ≡ 0
  cost_itself k same = ap (λ (b : Bool). if b then 0 else suc (length (reads k))) (listed_itself list next k same)

  differs : (k : ℕ) → k < next → (next == k) ≡ false
  differs k less = false_from_ne_true (next == k) (λ e. let same = eqb-true next k e in omega (arith, less, same))

  cost_before : (n : ℕ) → n ≤ next → open_cost reads (list ++ next ∷ []) n ≡ open_cost reads list n
  unfolding open_cost
  cost_before zero less = refl
  cost_before (suc k) less =
      ap (λ (a : ℕ). a + open_cost reads (list ++ next ∷ []) k) (cost_other k (differs k (omega (arith, less))))
      ∙ ap (λ (a : ℕ). cost_of reads list k + a) (cost_before k (omega (arith, less)))

  -- what is listed costs no more
  pub cost_less : is_listed list next ≡ false → (n : ℕ) → next < n
      → open_cost reads (list ++ next ∷ []) n + suc (length (reads next)) ≡ open_cost reads list n
  unfolding open_cost
  cost_less new zero within = absurd (omega arith)
  cost_less new (suc k) within = elim (cases_Bool (next == k)) [
    | inl same ↦
        let is = eqb-true next k same in
        let own : cost_of reads list k ≡ suc (length (reads next)) =
        subst (λ (j : ℕ). cost_of reads list j ≡ suc (length (reads next))) is
        (ap (λ (b : Bool). if b then 0 else suc (length (reads next))) new) in
        let none = cost_itself k same in
        let before = cost_before k (omega (arith, is)) in
        omega (arith, own, none, before)
    | inr other ↦
        let here = cost_other k other in
        let there = cost_less new k (past other) in
        omega (arith, here, there)
  ]
    where
      past : (next == k) ≡ false → next < k
      past other = elim (cases_lt next k) [
        | inl less ↦ less
        | inr more ↦ absurd (false≢true (sym other ∙ eq-eqb next k (omega (arith, within, more))))
      ]

-- ---- the walk over a session's objects

module _ (s : State) (links : IsLinked s.market) where
  abbrev n : ℕ
  n = length s.market.objects

  abbrev pub put : List ℕ → ℕ → List ℕ
  put = with_object (rests_on s) (suc n)

  -- nothing is listed, and the object itself waits
  pub walk_begins : (o : ℕ) → each_put put [] (reverse (o ∷ [])) ≡ listing s o
  unfolding listing
  walk_begins o = refl

  pub walk_listed : (list rest : List ℕ) (next : ℕ) → is_listed list next ≡ true
      → each_put put list (reverse (rest ++ next ∷ [])) ≡ each_put put list (reverse rest)
  walk_listed list rest next is =
      let r = ranks_of s.market links in
      step_listed (rests_on s) r.0 (rests_fall s r.0 r.1) n r.2 list rest next is

  pub walk_new : (list rest : List ℕ) (next : ℕ) → is_listed list next ≡ false
      → each_put put list (reverse (rest ++ next ∷ []))
      ≡ each_put put (list ++ next ∷ []) (reverse (rest ++ reverse (rests_on s next)))
  walk_new list rest next is =
      let r = ranks_of s.market links in
      step_new (rests_on s) r.0 (rests_fall s r.0 r.1) n r.2 list rest next is

  all_among : (P : ℕ → Type 0) (xs : List ℕ) → ((x : ℕ) → Among x xs → P x) → All P xs
  all_among P [] each = All-nil P
  all_among P (x ∷ xs) each = All-cons P x xs (each x (inl refl)) (all_among P xs (λ y among. each y (inr among)))

  among_reverse : (x : ℕ) (xs : List ℕ) → Among x (reverse xs) → Among x xs
  among_reverse x [] among = among
  among_reverse x (y ∷ ys) among =
      let either = subst (λ (l : List ℕ). Among x l) (reverse-append (y ∷ []) ys) among in
      elim (among_cases x (reverse ys) (y ∷ []) either) [
        | inl later ↦ inr (among_reverse x ys later)
        | inr here ↦ elim here [
          | inl same ↦ inl same
          | inr none ↦ absurd none
        ]
      ]

  -- what an object rests on is among the objects
  pub rests_within : (next : ℕ) → All (λ x. x < n) (reverse (rests_on s next))
  rests_within next =
      all_among (λ x. x < n) (reverse (rests_on s next))
      (λ x among. links.within next x
      (fewer (shows_last s next) x (edges s.market next) (among_reverse x (rests_on s next) among)))
