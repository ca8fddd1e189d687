-- What was read of the objects that wait stays so.
use Rattle.std.proofs.Common.{◌≡◌, ◌≢◌, ℕ, suc, Bool, true, false, List, [], ◌∷◌, ◌++◌, ◌+◌, length, Option, Some, None, refl, sym, ◌∙◌, ap, subst, arith}
use Rattle.std.specs.Prelude.{ℤ, pos, slice_index_or, slice_set, ◌||◌}
use Rattle.std.proofs.lemmas.List.{get_or-set_other, length-append}
use Rattle.std.proofs.lemmas.Bool.{false≢true}
use Rattle.desk_terms.specs.declared.terms.Part.{Part}
use Rattle.desk_terms.specs.declared.value.Value.{Value}
use Rattle.desk_terms.specs.declared.value.Input as input
use Rattle.desk_terms.specs.declared.cause.Cause.{Cause}
use Rattle.desk_terms.specs.Reading.{Calc}
use Rattle.desk_terms.specs.Sums.{summed}
use Rattle.desk_model.specs.declared.kept.Kept.{Kept}
use Rattle.desk_model.specs.State.{unpriced, last_of}
use Rattle.desk_model.specs.Visit.{with_value}
use Rattle.desk_model.specs.Market.{Market, terms_at}
use Rattle.desk_model.specs.Links.{is_lazy_at}
use Rattle.object_store.specs.Slots.{is_at_hand}
use Rattle.ask_walk.specs.declared.turning.Begun.{Begun}
use Rattle.ask_walk.specs.Asks.{Computes}
use Rattle.ask_walk.specs.Begun.{AreRead, HasRead, IsBegun, AreBegun, Keeps, objects_of}
use Rattle.ask_walk.proofs.Loop.{lazy_terms}

pub keeps_same : (kept after : List Kept) → after ≡ kept → Keeps kept after
keeps_same kept after same = subst (λ (k : List Kept). Keeps kept k) (sym same) (λ x i read. read)

pub keeps_on : (kept after later : List Kept) → Keeps kept after → Keeps after later → Keeps kept later
keeps_on kept after later first second = λ x i read. second x i (first x i read)

-- a value of an object that is not at hand
keeps_set : (kept : List Kept) (top : ℕ) (value : Value) → is_at_hand kept top ≡ false → Keeps kept (slice_set kept top (with_value (slice_index_or kept top unpriced) (Some value)))
unfolding is_at_hand
keeps_set kept top value busy = λ x i read.
    let other : x ≢ top = λ (same : x ≡ top). false≢true (sym busy ∙ ap (λ (n : ℕ). is_at_hand kept n) (sym same) ∙ read.1) in
    let there = get_or-set_other kept top x (with_value (slice_index_or kept top unpriced) (Some value)) unpriced other in
    (read.0, ap (λ (k : Kept). k.current || k.frozen) there ∙ read.1, ap (λ (k : Kept). last_of x k.last) there ∙ read.2, read.3)

pub keeps_valued : (calc : Calc) (m : Market) (top : ℕ) (inputs : List input.Input) (kept after : List Kept) (cause : Option Cause) (count count2 : ℕ) (log log2 : Option (List (ℕ × Bool)))
    → is_at_hand kept top ≡ false → is_lazy_at m top ≡ true → Computes calc m top inputs kept after cause count count2 log log2 → Keeps kept after
keeps_valued calc m top inputs kept after (Some cause) count count2 log log2 busy lazy c =
    let t = lazy_terms (terms_at m top) lazy in
    let price = c.price t.0 t.1 in keeps_same kept after price.1
keeps_valued calc m top inputs kept after None count count2 log log2 busy lazy c =
    let t = lazy_terms (terms_at m top) lazy in
    let price = c.price t.0 t.1 in
    subst (λ (k : List Kept). Keeps kept k) (sym price.2) (keeps_set kept top price.0 busy)

still_read : (kept after : List Kept) → Keeps kept after → (inputs : List input.Input) (parts : List Part) → AreRead kept inputs parts → AreRead after inputs parts
still_read kept after keeps [] parts are = tt
still_read kept after keeps (i ∷ more) [] are = absurd are
still_read kept after keeps (i ∷ more) (p ∷ ps) are = (keeps p.member i are.0, still_read kept after keeps more ps are.1)

still_has : (kept after : List Kept) (parts : List Part) (read : ℕ) (sum : ℤ) → Keeps kept after → HasRead kept parts read sum → HasRead after parts read sum
still_has kept after parts read sum keeps has = record { inputs = has.inputs; are = still_read kept after keeps has.inputs parts has.are; count = has.count; sums = has.sums; bound = has.bound }

-- what was read of an object, and of all that wait, stays so
pub still_begun : (m : Market) (kept after : List Kept) (b : Begun) → Keeps kept after → IsBegun m kept b → IsBegun m after b
still_begun m kept after b keeps is = λ parts there. still_has kept after parts b.read b.sum keeps (is parts there)

pub all_still : (m : Market) (kept after : List Kept) (waiting : List Begun) → Keeps kept after → AreBegun m kept waiting → AreBegun m after waiting
all_still m kept after [] keeps are = tt
all_still m kept after (b ∷ waiting) keeps are = (still_begun m kept after b keeps are.0, all_still m kept after waiting keeps are.1)

-- nothing was read yet
no_sum : (parts : List Part) → pos 0 ≡ summed parts []
unfolding summed
no_sum [] = refl
no_sum (p ∷ ps) = refl

pub unread_begun : (m : Market) (kept : List Kept) (o : ℕ) (b : Begun) → b ≡ record { object = o; read = 0; sum = pos 0 } → IsBegun m kept b
unread_begun m kept o b is = subst (λ (c : Begun). IsBegun m kept c) (sym is) (λ parts there. record { inputs = []; are = tt; count = refl; sums = no_sum parts; bound = omega arith })

-- those that wait, and one more
objects_push : (waiting : List Begun) (b : Begun) → objects_of (waiting ++ b ∷ []) ≡ objects_of waiting ++ b.object ∷ []
objects_push [] b = refl
objects_push (w ∷ waiting) b = ap (λ (l : List ℕ). w.object ∷ l) (objects_push waiting b)

pub objects_length : (waiting : List Begun) → length (objects_of waiting) ≡ length waiting
objects_length [] = refl
objects_length (w ∷ waiting) = ap suc (objects_length waiting)

pub pushed_length : (waiting later : List Begun) (b : Begun) → later ≡ waiting ++ b ∷ [] → length later ≡ length waiting + 1
pushed_length waiting later b is = let e = ap length is in let l = length-append waiting (b ∷ []) in omega (arith, e, l)

pub popped_stack : (waiting rest : List Begun) (b : Begun) → waiting ≡ rest ++ b ∷ [] → objects_of waiting ≡ objects_of rest ++ b.object ∷ []
popped_stack waiting rest b is = ap objects_of is ∙ objects_push rest b

pub pushed_stack : (waiting later : List Begun) (b top : Begun) (x y : ℕ) → later ≡ waiting ++ b ∷ [] → b.object ≡ x → top.object ≡ y → objects_of later ++ top.object ∷ [] ≡ (objects_of waiting ++ x ∷ []) ++ y ∷ []
pushed_stack waiting later b top x y is under above =
    ap (λ (l : List ℕ). l ++ top.object ∷ []) (popped_stack later waiting b is ∙ ap (λ (n : ℕ). objects_of waiting ++ n ∷ []) under)
    ∙ ap (λ (n : ℕ). (objects_of waiting ++ x ∷ []) ++ n ∷ []) above

begun_push : (m : Market) (kept : List Kept) (waiting : List Begun) (b : Begun) → AreBegun m kept waiting → IsBegun m kept b → AreBegun m kept (waiting ++ b ∷ [])
begun_push m kept [] b are one = (one, tt)
begun_push m kept (w ∷ waiting) b are one = (are.0, begun_push m kept waiting b are.1 one)

pub begun_waits : (m : Market) (kept after : List Kept) (waiting later : List Begun) (b : Begun) → after ≡ kept → later ≡ waiting ++ b ∷ [] → AreBegun m kept waiting → IsBegun m kept b → AreBegun m after later
begun_waits m kept after waiting later b same pushed are one =
    subst (λ (k : List Kept). AreBegun m k later) (sym same) (subst (AreBegun m kept) (sym pushed) (begun_push m kept waiting b are one))

pub begun_pop : (m : Market) (kept : List Kept) (waiting : List Begun) (b : Begun) → AreBegun m kept (waiting ++ b ∷ []) → AreBegun m kept waiting × IsBegun m kept b
begun_pop m kept [] b are = (tt, are.0)
begun_pop m kept (w ∷ waiting) b are = let more = begun_pop m kept waiting b are.1 in ((are.0, more.0), more.1)
