-- What was read of a composite's members, and one member more.
use Rattle.std.proofs.Common.{◌≡◌, ℕ, suc, zero, ◌+◌, ◌^◌, ◌<◌, ◌≤◌, ℤ, pos, ◌+ℤ◌, ◌*ℤ◌, Bool, List, [], ◌∷◌, ◌++◌, length, drop, Some, None, Ok, Err, refl, sym, ◌∙◌, ap, subst, arith}
use Rattle.std.specs.Prelude.{if◌then◌else◌}
use Rattle.std.specs.Int.RustNames.{unsigned_abs}
use Rattle.std.proofs.lemmas.List.{length-append}
use Rattle.std.proofs.Math.ListN.{get_or}
use Rattle.std.proofs.Math.IntN.{+ℤ_assoc, +ℤ_idl, +ℤ_idr}
use Rattle.desk_terms.specs.declared.terms.Part.{Part}
use Rattle.desk_terms.specs.declared.value.Value.{Value}
use Rattle.desk_terms.specs.declared.value.Input as input
use Rattle.desk_terms.specs.declared.cause.Cause.{Cause}
use Rattle.desk_terms.specs.Parts.{AreEachInRange}
use Rattle.desk_terms.specs.Reading.{Outcome}
use Rattle.desk_terms.specs.Sums.{money_in, summed}
use Rattle.desk_model.specs.declared.kept.Kept.{Kept}
use Rattle.desk_model.specs.declared.entry.Next.{Next}
use Rattle.desk_model.specs.declared.entry.Next.TheVariants.{Ready, First, Stops}
use Rattle.desk_model.specs.Uses.{member_entries}
use Rattle.desk_model.specs.Fresh.{input_of}
use Rattle.desk_model.specs.Next.{and_next, and_answer, next_of}
use Rattle.object_store.specs.Slots.{answer_of, answered_of, is_at_hand}
use Rattle.ask_walk.specs.Begun.{IsReadOf, AreRead, HasRead}
use Rattle.ask_walk.specs.Steps.{NextMember}
use Rattle.ask_walk.specs.declared.turning.Step.TheVariants as step
use Rattle.ask_walk.proofs.Members.{prepend, prepend_none, answered_some, members_none, members_err}

and_prepend : (i : input.Input) (inputs : List input.Input) (next : Next) → and_next i (prepend inputs next) ≡ prepend (i ∷ inputs) next
and_prepend i inputs (Ready more) = refl
and_prepend i inputs (First x) = refl
and_prepend i inputs (Stops cause) = refl

-- a part that was read is at hand, and its value is the next input
one_read : (kept : List Kept) (i : input.Input) (p : Part) (rest : Next) → IsReadOf kept p.member i
    → (if is_at_hand kept p.member then and_answer (answer_of kept p.member) rest else First p.member) ≡ and_next i rest
one_read kept i p rest is = ap (λ (b : Bool). if b then and_answer (answer_of kept p.member) rest else First p.member) is.1
    ∙ ap (λ (r : Outcome). and_answer r rest) is.2
    ∙ ap (λ (j : input.Input). and_next j rest) (sym is.3)

read_front : (kept : List Kept) (inputs : List input.Input) (parts : List Part) → AreRead kept inputs parts
    → next_of (is_at_hand kept) (answer_of kept) (member_entries parts) ≡ prepend inputs (next_of (is_at_hand kept) (answer_of kept) (member_entries (drop (length inputs) parts)))
read_front kept [] parts are = sym (prepend_none _)
read_front kept (i ∷ more) [] are = absurd are
read_front kept (i ∷ more) (p ∷ ps) are =
    one_read kept i p (next_of (is_at_hand kept) (answer_of kept) (member_entries ps)) are.0
    ∙ ap (and_next i) (read_front kept more ps are.1)
    ∙ and_prepend i more (next_of (is_at_hand kept) (answer_of kept) (member_entries (drop (length more) ps)))

read_at : (kept : List Kept) (parts : List Part) (at : ℕ) (sum : ℤ) (has : HasRead kept parts at sum)
    → next_of (is_at_hand kept) (answer_of kept) (member_entries parts) ≡ prepend has.inputs (next_of (is_at_hand kept) (answer_of kept) (member_entries (drop at parts)))
read_at kept parts at sum has =
    subst (λ (n : ℕ). next_of (is_at_hand kept) (answer_of kept) (member_entries parts) ≡ prepend has.inputs (next_of (is_at_hand kept) (answer_of kept) (member_entries (drop n parts)))) has.count (read_front kept has.inputs parts has.are)

-- as many inputs as parts: the price is ready
read_all : (kept : List Kept) (inputs : List input.Input) (parts : List Part) → length parts ≤ length inputs → AreRead kept inputs parts
    → next_of (is_at_hand kept) (answer_of kept) (member_entries parts) ≡ Ready inputs
read_all kept [] [] long are = refl
read_all kept [] (p ∷ ps) long are = absurd (omega (arith, long))
read_all kept (i ∷ more) [] long are = absurd are
read_all kept (i ∷ more) (p ∷ ps) long are =
    one_read kept i p (next_of (is_at_hand kept) (answer_of kept) (member_entries ps)) are.0
    ∙ ap (and_next i) (read_all kept more ps (omega (arith, long)) are.1)

-- no more inputs than parts
pub read_within : (kept : List Kept) (inputs : List input.Input) (parts : List Part) → AreRead kept inputs parts → length inputs ≤ length parts
read_within kept [] parts are = omega arith
read_within kept (i ∷ more) [] are = absurd are
read_within kept (i ∷ more) (p ∷ ps) are = let rest = read_within kept more ps are.1 in omega (arith, rest)

read_more : (kept : List Kept) (inputs : List input.Input) (parts : List Part) (part : Part) (value : Value) → length inputs < length parts → part ≡ get_or parts (length inputs) part
    → answered_of (is_at_hand kept part.member) (answer_of kept part.member) ≡ Some (Ok value) → AreRead kept inputs parts → AreRead kept (inputs ++ input_of value ∷ []) parts
read_more kept [] [] part value within get answered are = absurd (omega (arith, within))
read_more kept [] (p ∷ ps) part value within get answered are =
    let a = answered_some (is_at_hand kept part.member) (answer_of kept part.member) (Ok value) answered in
    (subst (λ (q : Part). IsReadOf kept q.member (input_of value)) get (value, a.0, a.1, refl), tt)
read_more kept (i ∷ more) [] part value within get answered are = absurd are
read_more kept (i ∷ more) (p ∷ ps) part value within get answered are = (are.0, read_more kept more ps part value (omega (arith, within)) get answered are.1)

summed_none : (parts : List Part) → summed parts [] ≡ pos 0
unfolding summed
summed_none [] = refl
summed_none (p ∷ ps) = refl

-- the sum with one input more
summed_more : (inputs : List input.Input) (parts : List Part) (part : Part) (i : input.Input) → length inputs < length parts → part ≡ get_or parts (length inputs) part
    → summed parts inputs +ℤ part.weight *ℤ money_in i ≡ summed parts (inputs ++ i ∷ [])
unfolding summed
summed_more [] [] part i within get = absurd (omega (arith, within))
summed_more [] (p ∷ ps) part i within get =
    +ℤ_idl (part.weight *ℤ money_in i) ∙ ap (λ (q : Part). q.weight *ℤ money_in i) get
    ∙ sym (+ℤ_idr (p.weight *ℤ money_in i)) ∙ ap (λ (z : ℤ). p.weight *ℤ money_in i +ℤ z) (sym (summed_none ps))
summed_more (j ∷ more) [] part i within get = absurd (omega (arith, within))
summed_more (j ∷ more) (p ∷ ps) part i within get =
    +ℤ_assoc (p.weight *ℤ money_in j) (summed ps more) (part.weight *ℤ money_in i)
    ∙ ap (λ (z : ℤ). p.weight *ℤ money_in j +ℤ z) (summed_more more ps part i (omega (arith, within)) get)

-- each weight is within its limit
pub weight_within : (parts : List Part) (at : ℕ) (part : Part) → AreEachInRange parts → at < length parts → part ≡ get_or parts at part → unsigned_abs part.weight ≤ 1000000
weight_within [] at part each within get = absurd (omega (arith, within))
weight_within (p ∷ ps) zero part each within get = subst (λ (q : Part). unsigned_abs q.weight ≤ 1000000) (sym get) each.0.1
weight_within (p ∷ ps) (suc at) part each within get = weight_within ps at part each.1.1 (omega (arith, within)) get

-- one member more
pub has_read_more : (kept : List Kept) (parts : List Part) (at : ℕ) (sum after : ℤ) (part : Part) (value : Value) → at < length parts → part ≡ get_or parts at part
    → answered_of (is_at_hand kept part.member) (answer_of kept part.member) ≡ Some (Ok value) → after ≡ sum +ℤ part.weight *ℤ money_in (input_of value) → unsigned_abs after ≤ unsigned_abs sum + 10 ^ 32
    → HasRead kept parts at sum → HasRead kept parts (at + 1) after
has_read_more kept parts at sum after part value within get answered is bound has =
    let within2 : length has.inputs < length parts = subst (λ (n : ℕ). n < length parts) (sym has.count) within in
    let get2 : part ≡ get_or parts (length has.inputs) part = subst (λ (n : ℕ). part ≡ get_or parts n part) (sym has.count) get in
    record {
      inputs = has.inputs ++ input_of value ∷ [];
      are = read_more kept has.inputs parts part value within2 get2 answered has.are;
      count = length-append has.inputs (input_of value ∷ []) ∙ ap (λ (n : ℕ). n + 1) has.count;
      sums = is ∙ ap (λ (z : ℤ). z +ℤ part.weight *ℤ money_in (input_of value)) has.sums ∙ summed_more has.inputs parts part (input_of value) within2 get2;
      bound = omega (arith, bound, has.bound);
    }

-- all were read
pub has_read_all : (kept : List Kept) (parts : List Part) (at : ℕ) (sum : ℤ) → length parts ≤ at → HasRead kept parts at sum → HasRead kept parts (length parts) sum
has_read_all kept parts at sum end has =
    let low = read_within kept has.inputs parts has.are in
    subst (λ (n : ℕ). HasRead kept parts n sum) (omega (arith, low, end, has.count)) has

pub ready : (kept : List Kept) (parts : List Part) (at : ℕ) (sum : ℤ) → length parts ≤ at → HasRead kept parts at sum → NextMember kept parts sum step.Ready
ready kept parts at sum end has = (has.inputs, read_all kept has.inputs parts (omega (arith, end, has.count)) has.are, has.sums)

-- the next member has to be computed first, or has no value
pub first : (kept : List Kept) (parts : List Part) (at : ℕ) (sum : ℤ) (part : Part) → HasRead kept parts at sum → at < length parts → part ≡ get_or parts at part
    → answered_of (is_at_hand kept part.member) (answer_of kept part.member) ≡ None → NextMember kept parts sum (step.First part.member)
first kept parts at sum part has within get answered = sym (members_none (is_at_hand kept) (answer_of kept) has.inputs parts at part (read_at kept parts at sum has) get within answered)

pub stops : (kept : List Kept) (parts : List Part) (at : ℕ) (sum : ℤ) (part : Part) (cause : Cause) → HasRead kept parts at sum → at < length parts → part ≡ get_or parts at part
    → answered_of (is_at_hand kept part.member) (answer_of kept part.member) ≡ Some (Err cause) → NextMember kept parts sum (step.Stops cause)
stops kept parts at sum part cause has within get answered = sym (members_err (is_at_hand kept) (answer_of kept) has.inputs parts at part cause (read_at kept parts at sum has) get within answered)
