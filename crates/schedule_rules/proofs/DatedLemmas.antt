-- The adjusted days of a schedule.
use Rattle.std.proofs.Common.{◌≡◌, Bool, List, [], ◌∷◌, Option, Some, None, Result, Ok, Err, refl, sym, ap, ◌∙◌, ℤ, IfOk, IfErr, ◌⊎◌, inl, inr}
use Rattle.std.specs.BTreeSet.{insert_key}
use Rattle.std.specs.Ordering.{int_cmp}
use Rattle.schedule_rules.specs.declared.plans.Plan.{Plan}
use Rattle.schedule_rules.specs.declared.faults.PlanFault.{PlanFault}
use Rattle.schedule_rules.specs.declared.faults.PlanFault.TheVariants.{Order, Tenor as TenorFault, Stub, TooMany, DateRange, Collapsed, NoMemory}
use Rattle.schedule_rules.specs.Raw.{put_into}
use Rattle.schedule_rules.specs.Schedule.{day_and, each_of, unless, dated, schedule, Gives, IsMemory}
use Rattle.schedule_rules.specs.Terms.{fault_of_terms}
use Rattle.schedule_rules.proofs.RawLemmas.{put_into-one, put_into-none}

-- days put into others, where there is a day for each
abbrev pub put_each : List ℤ → Option (List ℤ) → Result (List ℤ) PlanFault
put_each days (Some more) = Ok (put_into days more)
put_each days None = Err DateRange

put_each-one : (days : List ℤ) (day : ℤ) (o : Option (List ℤ)) → put_each days (day_and (Some day) o) ≡ put_each (insert_key int_cmp days day) o
put_each-one days day (Some more) = ap Ok (put_into-one days more day)
put_each-one days day None = refl

pub put_each-more : (makes : ℤ → Option ℤ) (days rest : List ℤ) (raw day : ℤ) → makes raw ≡ Some day → put_each days (each_of makes (raw ∷ rest)) ≡ put_each (insert_key int_cmp days day) (each_of makes rest)
unfolding each_of
put_each-more makes days rest raw day e =
    ap (λ o. put_each days (day_and o (each_of makes rest))) e
    ∙ put_each-one days day (each_of makes rest)

pub put_each-stop : (makes : ℤ → Option ℤ) (days rest : List ℤ) (raw : ℤ) → makes raw ≡ None → put_each days (each_of makes (raw ∷ rest)) ≡ Err DateRange
unfolding each_of
put_each-stop makes days rest raw e =
    ap (λ o. put_each days (day_and o (each_of makes rest))) e

pub put_each-end : (makes : ℤ → Option ℤ) (days : List ℤ) → put_each days (each_of makes []) ≡ Ok days
unfolding each_of
put_each-end makes days = ap Ok (put_into-none days)

-- what a call gives is the definition's, or it is refused for want of memory
gives-ok : {X : Type 0} (view : X → List ℤ) (due : Result (List ℤ) PlanFault) (r : Result X PlanFault) → Gives view due r → IfOk r (λ x. due ≡ Ok (view x))
gives-ok view due (Ok x) h = h
gives-ok view due (Err e) h = tt

gives-err : {X : Type 0} (view : X → List ℤ) (due : Result (List ℤ) PlanFault) (r : Result X PlanFault) → Gives view due r → IfErr r (λ e. IsMemory e ⊎ (due ≡ Err e))
gives-err view due (Ok x) h = tt
gives-err view due (Err NoMemory) h = inl refl
gives-err view due (Err Order) h = inr h
gives-err view due (Err TenorFault) h = inr h
gives-err view due (Err Stub) h = inr h
gives-err view due (Err TooMany) h = inr h
gives-err view due (Err DateRange) h = inr h
gives-err view due (Err Collapsed) h = inr h

-- the schedule of a plan, by its terms
pub schedule-fault : (business : ℤ → Bool) (plan : Plan) (fault : PlanFault) → fault_of_terms plan ≡ Some fault → schedule business plan ≡ Err fault
unfolding schedule
schedule-fault business plan fault e = ap (λ o. unless o (dated business plan)) e

schedule-dated : (business : ℤ → Bool) (plan : Plan) → fault_of_terms plan ≡ None → dated business plan ≡ schedule business plan
unfolding schedule
schedule-dated business plan e = sym (ap (λ o. unless o (dated business plan)) e)

pub dated-ok : (business : ℤ → Bool) (plan : Plan) (r : Result (List ℤ) PlanFault) → fault_of_terms plan ≡ None → Gives (λ dates. dates) (dated business plan) r → IfOk r (λ dates. schedule business plan ≡ Ok dates)
dated-ok business plan r e h =
    gives-ok (λ dates. dates) (schedule business plan) r (rw (schedule-dated business plan e) at h)

pub dated-err : (business : ℤ → Bool) (plan : Plan) (r : Result (List ℤ) PlanFault) → fault_of_terms plan ≡ None → Gives (λ dates. dates) (dated business plan) r → IfErr r (λ fault. IsMemory fault ⊎ (schedule business plan ≡ Err fault))
dated-err business plan r e h =
    gives-err (λ dates. dates) (schedule business plan) r (rw (schedule-dated business plan e) at h)
