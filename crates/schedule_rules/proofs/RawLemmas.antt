-- Days put into a list in the order of time.
use Rattle.std.proofs.Common.{◌≡◌, ℕ, suc, ◌+◌, ◌<◌, ◌≤◌, nat_lt, Bool, true, false, if◌then◌else◌, List, [], ◌∷◌, ◌++◌, length, Option, Some, None, Result, Ok, Err, refl, sym, ap, ◌∙◌, arith, ℤ}
use Rattle.std.specs.BTreeSet.{insert_key}
use Rattle.std.specs.List.{cons_option}
use Rattle.std.specs.Ordering.{int_cmp, match_ordering}
use Rattle.std.specs.declared.cmp.Ordering.{Ordering}
use Rattle.std.specs.declared.cmp.Ordering.TheVariants.{Less, Equal, Greater}
use Rattle.schedule_rules.specs.declared.plans.Plan.{Plan}
use Rattle.schedule_rules.specs.declared.faults.PlanFault.{PlanFault}
use Rattle.schedule_rules.specs.declared.faults.PlanFault.TheVariants.{TooMany}
use Rattle.schedule_rules.specs.declared.schedules.TheConstants.{MOST_DAYS}
use Rattle.schedule_rules.specs.Raw.{put_into, rising, named_days, raw_days, few_or_fault}
use Rattle.schedule_rules.specs.Step.{steps_from, most_steps}

pub put_into-append : (xs ys days : List ℤ) → put_into days (xs ++ ys) ≡ put_into (put_into days xs) ys
unfolding put_into
put_into-append [] ys days = refl
put_into-append (x ∷ xs) ys days = put_into-append xs ys (insert_key int_cmp days x)

pub put_into-one : (days more : List ℤ) (day : ℤ) → put_into days (day ∷ more) ≡ put_into (insert_key int_cmp days day) more
unfolding put_into
put_into-one days more day = refl

pub put_into-none : (days : List ℤ) → put_into days [] ≡ days
unfolding put_into
put_into-none days = refl

-- nothing is lost
length-match : (o : Ordering) (n : ℕ) (a b c : List ℤ) → n ≤ length a → n ≤ length b → n ≤ length c → n ≤ length (match_ordering o a b c)
length-match Less n a b c x y z = x
length-match Equal n a b c x y z = y
length-match Greater n a b c x y z = z

length-insert : (days : List ℤ) (day : ℤ) → length days ≤ length (insert_key int_cmp days day)
length-insert [] day = omega arith
length-insert (x ∷ xs) day =
    let rest = length-insert xs day in
    length-match (int_cmp day x) (length (x ∷ xs)) (day ∷ x ∷ xs) (x ∷ xs) (x ∷ insert_key int_cmp xs day) (omega arith) (omega arith) (omega arith)

pub length-put : (more days : List ℤ) → length days ≤ length (put_into days more)
unfolding put_into
length-put [] days = omega arith
length-put (day ∷ more) days =
    omega (arith, length-insert days day, length-put more (insert_key int_cmp days day))

-- and no more than was put in comes to it
length-match_most : (o : Ordering) (n : ℕ) (a b c : List ℤ) → length a ≤ n → length b ≤ n → length c ≤ n → length (match_ordering o a b c) ≤ n
length-match_most Less n a b c x y z = x
length-match_most Equal n a b c x y z = y
length-match_most Greater n a b c x y z = z

length-insert_most : (days : List ℤ) (day : ℤ) → length (insert_key int_cmp days day) ≤ suc (length days)
length-insert_most [] day = omega arith
length-insert_most (x ∷ xs) day =
    let rest = length-insert_most xs day in
    length-match_most (int_cmp day x) (suc (length (x ∷ xs))) (day ∷ x ∷ xs) (x ∷ xs) (x ∷ insert_key int_cmp xs day) (omega arith) (omega arith) (omega arith)

pub length-put_most : (more days : List ℤ) → length (put_into days more) ≤ length days + length more
unfolding put_into
length-put_most [] days = omega arith
length-put_most (day ∷ more) days =
    omega (arith, length-insert_most days day, length-put_most more (insert_key int_cmp days day))

-- the limit
pub few : (days : List ℤ) → length days ≤ MOST_DAYS → few_or_fault days ≡ Ok days
few days h =
    let no : nat_lt MOST_DAYS (length days) ≡ false = grind arith in
    ap (λ b. if b then Err TooMany else Ok days) no

pub many : (days : List ℤ) → MOST_DAYS < length days → few_or_fault days ≡ Err TooMany
many days h =
    let yes : nat_lt MOST_DAYS (length days) ≡ true = grind arith in
    ap (λ b. if b then Err TooMany else Ok days) yes

-- what a plan names, put in one by one
named_each : (start end : ℤ) (first last : Option ℤ) → put_into (put_into (put_into (put_into [] (start ∷ [])) (end ∷ [])) (cons_option first [])) (cons_option last []) ≡ put_into [] (start ∷ end ∷ cons_option first (cons_option last []))
unfolding put_into
named_each start end None None = refl
named_each start end None (Some last) = refl
named_each start end (Some first) None = refl
named_each start end (Some first) (Some last) = refl

abbrev pub Made : List ℤ → List ℤ → Type 0
Made days made = ◌≡◌ {A = Result (List ℤ) PlanFault} (Ok days) (Ok made)

pub made : (days own : List ℤ) → Made days own → days ≡ own
made days own e = cc

pub named_put : (plan : Plan) (none one two three : List ℤ) → none ≡ [] → Made (put_into none (cons_option (Some plan.start) [])) one → Made (put_into one (cons_option (Some plan.end) [])) two → Made (put_into two (cons_option plan.first [])) three → put_into three (cons_option plan.last []) ≡ rising (named_days plan)
named_put plan none one two three n a b c =
    let last = cons_option plan.last [] in
    ap (λ days. put_into days last) (sym (made _ three c))
    ∙ ap (λ days. put_into (put_into days (cons_option plan.first [])) last) (sym (made _ two b))
    ∙ ap (λ days. put_into (put_into (put_into days (plan.end ∷ [])) (cons_option plan.first [])) last) (sym (made _ one a))
    ∙ ap (λ days. put_into (put_into (put_into (put_into days (plan.start ∷ [])) (plan.end ∷ [])) (cons_option plan.first [])) last) n
    ∙ named_each plan.start plan.end plan.first plan.last

pub raw_put : (plan : Plan) (named : List ℤ) → Made (rising (named_days plan)) named → put_into named (steps_from plan 1 (most_steps plan)) ≡ raw_days plan
unfolding raw_days
raw_put plan named e =
    ap (λ days. put_into days (steps_from plan 1 (most_steps plan))) (sym (made _ named e))
    ∙ sym (put_into-append (named_days plan) (steps_from plan 1 (most_steps plan)) [])

few-by : (b : Bool) (days found : List ℤ) → ◌≡◌ {A = Result (List ℤ) PlanFault} (if b then Err TooMany else Ok days) (Ok found) → days ≡ found
few-by true days found e = absurd (cc)
few-by false days found e = cc

pub few-is : (days found : List ℤ) → few_or_fault days ≡ Ok found → days ≡ found
few-is days found e = few-by (nat_lt MOST_DAYS (length days)) days found e

small-by : (b : Bool) (days found : List ℤ) → ◌≡◌ {A = Result (List ℤ) PlanFault} (if b then Err TooMany else Ok days) (Ok found) → b ≡ false
small-by true days found e = absurd (cc)
small-by false days found e = refl

pub few-small : (days found : List ℤ) → few_or_fault days ≡ Ok found → length found ≤ MOST_DAYS
few-small days found e =
    let small = small-by (nat_lt MOST_DAYS (length days)) days found e in
    let same = ap length (few-is days found e) in
    grind arith
