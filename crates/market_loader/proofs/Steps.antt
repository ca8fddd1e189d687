-- Steps of reading, one after another.
use Rattle.std.proofs.Common.{◌≡◌, ◌⊎◌, inl, inr, ⊎_elim, ℕ, ◌+◌, ◌<◌, ◌≤◌, Option, Some, None, Result, Ok, Err, refl, sym, ◌∙◌, ap, subst, arith}
use Rattle.std.specs.Prelude.{IfSome, IfErr}
use Rattle.desk_edge.specs.Count.{Rose}
use Rattle.market_tables.specs.Given.{◌>>=◌}
use Rattle.market_loader.specs.Ends.{End, Refused, Missing, Failed, Halted, with_fault}
use Rattle.market_loader.specs.Files.{Files}
use Rattle.market_loader.specs.Market.{and_then}
use Rattle.market_loader.specs.Reads.{Seen, IsOutside, Tells, faults_at, faults_after, Reads, IsRefusedAs, Says}

-- what follows for each list of files
pub told_map : {P Q : Files → Type 0} (told : Option Files) → ((files : Files) → P files → Q files) → IfSome told P
    → IfSome told Q
told_map None f p = tt
told_map (Some files) f p = f files p

-- the same of a fact for all
pub told_any : {Q : Files → Type 0} (told : Option Files) → ((files : Files) → Q files) → IfSome told Q
told_any None q = tt
told_any (Some files) q = q files

-- a count that rose later rose
rose_since : (old mid new : ℕ) → old ≤ mid → Rose mid new → Rose old new
rose_since old mid new le rose =
    ⊎_elim (λ up. let less : old < new = omega (arith, le, up) in inl less) (λ last. inr last) rose

tells_on : {E Y Z W : Type 0} (end : E → End) (other : Z → W) (r : Result Y E) (y : Y) (go : Y → Result W E)
    (result : Result Z E) → r ≡ Ok y → Tells end other result (go y) → Tells end other result (r >>= go)
tells_on {E} {Y} end other r y go result is t =
    subst (λ q. Tells end other result q) (sym (ap (λ (q : Result Y E). q >>= go) is)) t

told_on : {E Y Z W : Type 0} (end : E → End) (other : Z → W) (step : Files → Result Y E) (y : Y)
    (go : Files → Y → Result W E) (result : Result Z E) (told mid : Option Files) → mid ≡ told
    → IfSome told (λ files. step files ≡ Ok y) → IfSome mid (λ files. Tells end other result (go files y))
    → IfSome told (λ files. Tells end other result (step files >>= go files))
told_on end other step y go result None mid same first second = tt
told_on end other step y go result (Some files) mid same first second =
    tells_on end other (step files) y (go files) result first
    (subst (λ (m : Option Files). IfSome m (λ files. Tells end other result (go files y))) same second)

calls_on : {E Y : Type 0} (step : Files → Result Y E) (y : Y) (first : Files → ℕ) (rest : Files → Y → ℕ)
    (told mid : Option Files) (old now new : ℕ) → mid ≡ told → IfSome told (λ files. step files ≡ Ok y)
    → IfSome told (λ files. now ≤ old + first files) → IfSome mid (λ files. new ≤ now + rest files y)
    → IfSome told (λ files. new ≤ old + and_then (first files) (step files) (rest files))
calls_on step y first rest None mid old now new same is a b = tt
calls_on {E} {Y} step y first rest (Some files) mid old now new same is a b =
    let after : new ≤ now + rest files y = subst (λ (m : Option Files). IfSome m (λ files. new ≤ now + rest files y)) same b in
    let sum : new ≤ old + (first files + rest files y) = omega (arith, a, after) in
    subst (λ (r : Result Y E). new ≤ old + and_then (first files) r (rest files)) (sym is) sum

-- a fault that says more of a later count says the same of an earlier one
fault_on : {E Z : Type 0} (what : E → Type 0) (old mid new : ℕ) (result : Result Z E) → old ≤ mid
    → IfErr result (λ e. what e → Rose mid new) → IfErr result (λ e. what e → Rose old new)
fault_on what old mid new (Ok z) le h = tt
fault_on what old mid new (Err e) le h = λ is. rose_since old mid new le (h is)

-- a step that gives a value goes on with it
pub reads_on : {E X Y Z W : Type 0} (end : E → End) (view : X → Y) (other : Z → W) (step : Files → Result Y E)
    (go : Files → Y → Result W E) (first : Files → ℕ) (rest : Files → Y → ℕ) (old mid new : Seen) (x : X)
    (result : Result Z E) → Reads end view step first old mid (Ok x)
    → Reads end other (λ files. go files (view x)) (λ files. rest files (view x)) mid new result
    → Reads end other (λ files. step files >>= go files) (λ files. and_then (first files) (step files) (rest files)) old
    new result
reads_on end view other step go first rest old mid new x result a b = record {
  tells = told_on end other step (view x) go result old.files mid.files a.files a.tells b.tells;
  calls = calls_on step (view x) first rest old.files mid.files old.calls mid.calls new.calls a.files a.tells a.calls b.calls;
  files = b.files ∙ a.files;
  read = fault_on (λ e. end e ≡ Failed) old.faults mid.faults new.faults result a.faults b.read;
  absent = fault_on (λ e. end e ≡ Missing) old.misses mid.misses new.misses result a.misses b.absent;
  counted = b.counted ∙ ap (faults_after end result) a.counted;
  faults = omega (arith, a.faults, b.faults);
  misses = omega (arith, a.misses, b.misses);
}

-- a bound that is no less is one too
pub reads_within : {E X Y : Type 0} (end : E → End) (view : X → Y) (meaning : Files → Result Y E) (most more : Files → ℕ)
    (old new : Seen) (result : Result X E) → ((files : Files) → most files ≤ more files)
    → Reads end view meaning most old new result → Reads end view meaning more old new result
reads_within end view meaning most more old new result le r = record {
  tells = r.tells;
  calls = told_map old.files (λ files h. omega (arith, h, le files)) r.calls;
  files = r.files;
  read = r.read;
  absent = r.absent;
  counted = r.counted;
  faults = r.faults;
  misses = r.misses;
}

-- a step that fails is the answer
tells_off : {E X Y Z W : Type 0} (end : E → End) (view : X → Y) (other : Z → W) (r : Result Y E) (go : Y → Result W E)
    (e : E) → Tells end view (Err e) r → Tells end other (Err e) (r >>= go)
tells_off {E} {X} {Y} end view other r go e (inl outside) = inl outside
tells_off {E} {X} {Y} end view other r go e (inr is) = inr (ap (λ (q : Result Y E). q >>= go) is)

-- no call is made behind a failure
calls_off : {E Y : Type 0} (calls : ℕ) (r : Result Y E) (rest : Y → ℕ) → calls ≤ and_then calls r rest
calls_off calls (Ok y) rest = omega arith
calls_off calls (Err e) rest = omega arith

pub reads_off : {E X Y Z W : Type 0} (end : E → End) (view : X → Y) (other : Z → W) (step : Files → Result Y E)
    (go : Files → Y → Result W E) (first : Files → ℕ) (rest : Files → Y → ℕ) (old new : Seen) (e : E)
    → Reads end view step first old new (Err e)
    → Reads end other (λ files. step files >>= go files) (λ files. and_then (first files) (step files) (rest files)) old
    new (Err e)
reads_off end view other step go first rest old new e r = record {
  tells = told_map old.files (λ files t. tells_off end view other (step files) (go files) e t) r.tells;
  calls = told_map old.files (λ files h. omega (arith, h, calls_off (first files) (step files) (rest files))) r.calls;
  files = r.files;
  read = r.read;
  absent = r.absent;
  counted = r.counted;
  faults = r.faults;
  misses = r.misses;
}

-- what a text says is told without a shelf
says_tells : {E Y : Type 0} (n : End) (e : E) (told : Result Y E) → IsRefusedAs n e told → IsOutside n ⊎ (told ≡ Err e)
says_tells Refused e told says = inr says
says_tells Missing e told says = absurd says
says_tells Failed e told says = absurd says
says_tells Halted e told says = inl tt

says_failed : {E Y R : Type 0} (n m : End) (e : E) (told : Result Y E) → IsRefusedAs n e told → n ≡ m → m ≡ Failed → R
says_failed Refused m e told says is also = absurd (cc)
says_failed Missing m e told says is also = absurd says
says_failed Failed m e told says is also = absurd says
says_failed Halted m e told says is also = absurd (cc)

says_missing : {E Y R : Type 0} (n m : End) (e : E) (told : Result Y E) → IsRefusedAs n e told → n ≡ m → m ≡ Missing → R
says_missing Refused m e told says is also = absurd (cc)
says_missing Missing m e told says is also = absurd says
says_missing Failed m e told says is also = absurd says
says_missing Halted m e told says is also = absurd (cc)

says_counted : {E Y : Type 0} (n : End) (e : E) (told : Result Y E) (faults : ℕ) → IsRefusedAs n e told
    → faults ≡ faults_at n faults
says_counted Refused e told faults says = refl
says_counted Missing e told faults says = refl
says_counted Failed e told faults says = absurd says
says_counted Halted e told faults says = refl

-- a text that is read leaves the shelf alone
pub reads_text : {E X Y : Type 0} (end : E → End) (view : X → Y) (told : Result Y E) (s : Seen) (result : Result X E)
    → Says end view result told → Reads end view (λ files. told) (λ files. 0) s s result
reads_text end view told s (Ok x) says = record {
  tells = told_any s.files (λ files. says);
  calls = told_any s.files (λ files. omega arith);
  files = refl;
  read = tt;
  absent = tt;
  counted = refl;
  faults = omega arith;
  misses = omega arith;
}
reads_text end view told s (Err e) says = record {
  tells = told_any s.files (λ files. says_tells (end e) e told says);
  calls = told_any s.files (λ files. omega arith);
  files = refl;
  read = λ is. says_failed (end e) (end e) e told says refl is;
  absent = λ is. says_missing (end e) (end e) e told says refl is;
  counted = says_counted (end e) e told s.faults says;
  faults = omega arith;
  misses = omega arith;
}

-- ---- another fault

tells_as : {E F X Y : Type 0} (end : E → End) (other : F → End) (change : E → F) (view : X → Y) (result : Result X E)
    (told : Result Y E) → ((e : E) → other (change e) ≡ end e) → Tells end view result told
    → Tells other view (with_fault change result) (with_fault change told)
tells_as {E} {F} {X} {Y} end other change view (Ok x) told same t = ap (λ (r : Result Y E). with_fault change r) t
tells_as {E} {F} {X} {Y} end other change view (Err e) told same (inl outside) =
    inl (subst (λ (n : End). IsOutside n) (sym (same e)) outside)
tells_as {E} {F} {X} {Y} end other change view (Err e) told same (inr is) =
    inr (ap (λ (r : Result Y E). with_fault change r) is)

-- the same reading, its fault changed to one that ends it so
pub reads_as : {E F X Y : Type 0} (end : E → End) (other : F → End) (change : E → F) (view : X → Y)
    (meaning : Files → Result Y E) (most : Files → ℕ) (old new : Seen) (result : Result X E)
    → ((e : E) → other (change e) ≡ end e) → Reads end view meaning most old new result
    → Reads other view (λ files. with_fault change (meaning files)) most old new (with_fault change result)
reads_as end other change view meaning most old new (Ok x) same r = record {
  tells = told_map old.files (λ files t. tells_as end other change view (Ok x) (meaning files) same t) r.tells;
  calls = r.calls;
  files = r.files;
  read = tt;
  absent = tt;
  counted = r.counted;
  faults = r.faults;
  misses = r.misses;
}
reads_as end other change view meaning most old new (Err e) same r = record {
  tells = told_map old.files (λ files t. tells_as end other change view (Err e) (meaning files) same t) r.tells;
  calls = r.calls;
  files = r.files;
  read = λ is. r.read (sym (same e) ∙ is);
  absent = λ is. r.absent (sym (same e) ∙ is);
  counted = r.counted ∙ ap (λ (n : End). faults_at n old.faults) (sym (same e));
  faults = r.faults;
  misses = r.misses;
}
