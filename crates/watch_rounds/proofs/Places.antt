-- Lists of due watchers, and edits of them.
use Rattle.std.proofs.Common.{◌≡◌, ◌≢◌, ℕ, zero, suc, ◌+◌, ◌-◌, ◌<◌, ◌≤◌, Bool, true, false, List, [], ◌∷◌, length, refl, sym, ap, arith, get_or, nat_lt}
use Rattle.std.specs.Prelude.{◌==◌, if◌then◌else◌}
use Rattle.std.specs.List.{insert, remove, filter}
use Rattle.std.proofs.lemmas.Bool.{cond_both, ltb-true, ltb-false, eqb-true, eqb-false, lt-ltb, le-ltb, ne_eqb}
use Rattle.watch_rounds.specs.declared.rounds.DueWatcher.{DueWatcher}
use Rattle.watch_rounds.specs.Due.{with_due, without, AreAll, AreInOrder, IsRising, AreUnlike, IsOnly, IsPlace, is_at}

pub all_map : (P Q : DueWatcher → Type 0) → ((one : DueWatcher) → P one → Q one) → (due : List DueWatcher)
    → AreAll P due
    → AreAll Q due
all_map P Q each [] all = tt
all_map P Q each (first ∷ rest) all = (each first all.0, all_map P Q each rest all.1)

pub all_both : (P Q R : DueWatcher → Type 0) → ((one : DueWatcher) → P one → Q one → R one) → (due : List DueWatcher)
    → AreAll P due → AreAll Q due → AreAll R due
all_both P Q R each [] all more = tt
all_both P Q R each (first ∷ rest) all more = (each first all.0 more.0, all_both P Q R each rest all.1 more.1)

pub all_at : (P : DueWatcher → Type 0) (due : List DueWatcher) (i : ℕ) (d : DueWatcher) → AreAll P due → i < length due
    → P (get_or due i d)
all_at P [] i d all low = absurd (omega arith)
all_at P (first ∷ rest) zero d all low = all.0
all_at P (first ∷ rest) (suc i) d all low = all_at P rest i d all.1 (omega arith)

pub all_with : (P : DueWatcher → Type 0) (entry : DueWatcher) (due : List DueWatcher) → AreAll P due → P entry
    → AreAll P (with_due entry due)
all_with P entry [] all one = (one, tt)
all_with P entry (first ∷ rest) all one =
    cond_both (first.watcher == entry.watcher) (first ∷ rest)
    (if nat_lt entry.watcher first.watcher then entry ∷ first ∷ rest else first ∷ with_due entry rest) (AreAll P)
    (λ e. all)
    (λ e. cond_both (nat_lt entry.watcher first.watcher) (entry ∷ first ∷ rest) (first ∷ with_due entry rest) (AreAll P)
    (λ e. (one, all)) (λ e. (all.0, all_with P entry rest all.1 one)))

pub all_without : (P : DueWatcher → Type 0) (watcher : ℕ) (due : List DueWatcher) → AreAll P due
    → AreAll P (without watcher due)
all_without P watcher [] all = tt
all_without P watcher (first ∷ rest) all =
    cond_both (first.watcher == watcher) (without watcher rest) (first ∷ without watcher rest) (AreAll P)
    (λ e. all_without P watcher rest all.1) (λ e. (all.0, all_without P watcher rest all.1))

pub all_removed : (P : DueWatcher → Type 0) (due : List DueWatcher) (at : ℕ) → at < length due → AreAll P due
    → AreAll P (remove due at)
all_removed P [] at low all = absurd (omega arith)
all_removed P (first ∷ rest) zero low all = all.1
all_removed P (first ∷ rest) (suc at) low all = (all.0, all_removed P rest at (omega arith) all.1)

-- of those that a test keeps
pub all_filtered : (P Q : DueWatcher → Type 0) (test : DueWatcher → Bool)
    → ((one : DueWatcher) → P one → test one ≡ true → Q one) → (due : List DueWatcher) → AreAll P due
    → AreAll Q (filter test due)
all_filtered P Q test each [] all = tt
all_filtered P Q test each (first ∷ rest) all =
    cond_both (test first) (first ∷ filter test rest) (filter test rest) (AreAll Q)
    (λ e. (each first all.0 e, all_filtered P Q test each rest all.1)) (λ e. all_filtered P Q test each rest all.1)

pub order_filtered : (R : DueWatcher → DueWatcher → Type 0) (test : DueWatcher → Bool) (due : List DueWatcher)
    → AreInOrder R due → AreInOrder R (filter test due)
order_filtered R test [] all = tt
order_filtered R test (first ∷ rest) all =
    cond_both (test first) (first ∷ filter test rest) (filter test rest) (AreInOrder R)
    (λ e. (all_filtered (R first) (R first) test (λ one is e. is) rest all.0, order_filtered R test rest all.1))
    (λ e. order_filtered R test rest all.1)

pub order_without : (R : DueWatcher → DueWatcher → Type 0) (watcher : ℕ) (due : List DueWatcher) → AreInOrder R due
    → AreInOrder R (without watcher due)
order_without R watcher [] all = tt
order_without R watcher (first ∷ rest) all =
    cond_both (first.watcher == watcher) (without watcher rest) (first ∷ without watcher rest) (AreInOrder R)
    (λ e. order_without R watcher rest all.1)
    (λ e. (all_without (R first) watcher rest all.0, order_without R watcher rest all.1))

pub order_removed : (R : DueWatcher → DueWatcher → Type 0) (due : List DueWatcher) (at : ℕ) → at < length due
    → AreInOrder R due → AreInOrder R (remove due at)
order_removed R [] at low all = absurd (omega arith)
order_removed R (first ∷ rest) zero low all = all.1
order_removed R (first ∷ rest) (suc at) low all =
    (all_removed (R first) rest at (omega arith) all.0, order_removed R rest at (omega arith) all.1)

later_than : (a b : ℕ) → (a == b) ≡ false → nat_lt b a ≡ false → a < b
later_than a b other ge = let ne = eqb-false a b other in let le = ltb-false b a ge in omega arith

pub rising_with : (entry : DueWatcher) (due : List DueWatcher) → IsRising due → IsRising (with_due entry due)
rising_with entry [] rising = (tt, tt)
rising_with entry (first ∷ rest) rising =
    cond_both (first.watcher == entry.watcher) (first ∷ rest)
    (if nat_lt entry.watcher first.watcher then entry ∷ first ∷ rest else first ∷ with_due entry rest) IsRising
    (λ e. rising)
    (λ other. cond_both (nat_lt entry.watcher first.watcher) (entry ∷ first ∷ rest)
    (first ∷ with_due entry rest) IsRising
    (λ e. let less = ltb-true entry.watcher first.watcher e in (
      (
        less,
        all_map (λ one. first.watcher < one.watcher)
            (λ one. entry.watcher < one.watcher) (λ one more. omega arith) rest rising.0,
      ),
      rising,
    ))
    (λ e. (
      all_with (λ one. first.watcher < one.watcher) entry rest rising.0
          (later_than first.watcher entry.watcher other e),
      rising_with entry rest rising.1,
    )))

pub unlike_with : (entry : DueWatcher) (due : List DueWatcher) → IsRising due → IsOnly entry.watcher entry.name due
    → AreUnlike due → AreUnlike (with_due entry due)
unlike_with entry [] rising only unlike = (tt, tt)
unlike_with entry (first ∷ rest) rising only unlike =
    cond_both (first.watcher == entry.watcher) (first ∷ rest)
    (if nat_lt entry.watcher first.watcher then entry ∷ first ∷ rest else first ∷ with_due entry rest) AreUnlike
    (λ e. unlike)
    (λ other. cond_both (nat_lt entry.watcher first.watcher) (entry ∷ first ∷ rest)
    (first ∷ with_due entry rest) AreUnlike
    (λ e. let less = ltb-true entry.watcher first.watcher e in (
      (
        λ same. eqb-false first.watcher entry.watcher other (only.0.1 (sym same)),
        all_both (λ one. first.watcher < one.watcher)
            (λ one. (one.watcher ≡ entry.watcher → one.name ≡ entry.name) × (one.name ≡ entry.name
            → one.watcher ≡ entry.watcher))
            (λ one. entry.name ≢ one.name)
            (λ one more is same. let w = is.1 (sym same) in absurd (omega arith)) rest rising.0 only.1,
      ),
      unlike,
    ))
    (λ e. (
      all_with (λ one. first.name ≢ one.name) entry rest unlike.0
          (λ same. eqb-false first.watcher entry.watcher other (only.0.1 same)),
      unlike_with entry rest rising.1 only.1 unlike.1,
    )))

-- who is left has another name than the one that is taken out
pub removed_unlike : (due : List DueWatcher) (at : ℕ) (d : DueWatcher) → at < length due → AreUnlike due
    → AreAll (λ one. one.name ≢ (get_or due at d).name) (remove due at)
removed_unlike [] at d low unlike = absurd (omega arith)
removed_unlike (first ∷ rest) zero d low unlike =
    all_map (λ one. first.name ≢ one.name) (λ one. one.name ≢ first.name) (λ one ne same. ne (sym same)) rest unlike.0
removed_unlike (first ∷ rest) (suc at) d low unlike = (
  all_at (λ one. first.name ≢ one.name) rest at d unlike.0 (omega arith),
  removed_unlike rest at d
      (omega arith) unlike.1,
)

pub rising_at : (due : List DueWatcher) (i j : ℕ) (d e : DueWatcher) → IsRising due → i ≤ j → j < length due
    → (get_or due i d).watcher ≤ (get_or due j e).watcher
rising_at [] i j d e rising le low = absurd (omega arith)
rising_at (first ∷ rest) zero zero d e rising le low = omega arith
rising_at (first ∷ rest) zero (suc j) d e rising le low =
    let less = all_at (λ one. first.watcher < one.watcher) rest j e rising.0 (omega arith) in omega arith
rising_at (first ∷ rest) (suc i) zero d e rising le low = absurd (omega arith)
rising_at (first ∷ rest) (suc i) (suc j) d e rising le low = rising_at rest i j d e rising.1 (omega arith) (omega arith)

rising_less : (due : List DueWatcher) (i j : ℕ) (d e : DueWatcher) → IsRising due → i < j → j < length due
    → (get_or due i d).watcher < (get_or due j e).watcher
rising_less [] i j d e rising less low = absurd (omega arith)
rising_less (first ∷ rest) i zero d e rising less low = absurd (omega arith)
rising_less (first ∷ rest) zero (suc j) d e rising less low =
    all_at (λ one. first.watcher < one.watcher) rest j e rising.0 (omega arith)
rising_less (first ∷ rest) (suc i) (suc j) d e rising less low =
    rising_less rest i j d e rising.1 (omega arith) (omega arith)

-- who stands at a place
pub is_there : (due : List DueWatcher) (at watcher : ℕ) → is_at due at watcher ≡ true
    → (at < length due) × ((d : DueWatcher) → (get_or due at d).watcher ≡ watcher)
is_there [] zero watcher there = absurd (cc)
is_there [] (suc at) watcher there = absurd (cc)
is_there (first ∷ rest) zero watcher there = (omega arith, λ d. eqb-true first.watcher watcher there)
is_there (first ∷ rest) (suc at) watcher there =
    let is = is_there rest at watcher there in (let low = is.0 in omega arith, is.1)

-- a watcher that is due stands at its place
pub place_there : (due : List DueWatcher) (at watcher : ℕ) → IsRising due → is_at due at watcher ≡ true
    → IsPlace due watcher at
place_there due at watcher rising there = let is = is_there due at watcher there in (
  let low = is.0 in omega arith,
  λ i d before. let less = rising_less due i at d d rising before is.0 in let same = is.1 d in omega arith,
  λ i d from low. let le = rising_at due at i d d rising from low in let same = is.1 d in omega arith,
)

-- a watcher that was created after the last
pub place_last : (due : List DueWatcher) (watcher : ℕ) (last : DueWatcher) → IsRising due
    → (get_or due (length due - 1) last).watcher < watcher → IsPlace due watcher (length due)
place_last due watcher last rising less = (
  omega arith,
  λ i d low. let le = rising_at due i (length due - 1) d last rising (omega arith) (omega arith) in omega arith,
  λ i d from low. absurd (omega arith),
)

-- no more are due than have room
rising_from : (low n : ℕ) (due : List DueWatcher) → AreAll (λ one. (low ≤ one.watcher) × (one.watcher < n)) due
    → IsRising due → low ≤ n → length due + low ≤ n
rising_from low n [] all rising le = omega arith
rising_from low n (first ∷ rest) all rising le =
    let more = rising_from (suc first.watcher) n rest
    (all_both (λ one. first.watcher < one.watcher) (λ one. (low ≤ one.watcher) × (one.watcher < n))
    (λ one. (suc first.watcher ≤ one.watcher) × (one.watcher < n)) (λ one later within. (omega arith, within.1))
    rest
    rising.0 all.1) rising.1 (let less = all.0.1 in omega arith) in
    let least = all.0.0 in omega arith

pub rising_room : (n : ℕ) (due : List DueWatcher) → AreAll (λ one. one.watcher < n) due → IsRising due → length due ≤ n
rising_room n due all rising =
    let room = rising_from 0 n due (all_map (λ one. one.watcher < n) (λ one. (0 ≤ one.watcher) × (one.watcher < n))
    (λ one low. (omega arith, low)) due all) rising (omega arith) in omega arith

module _ (watcher : ℕ) where
  place_rest : (first : DueWatcher) (rest : List DueWatcher) (at : ℕ) → IsPlace (first ∷ rest) watcher (suc at)
      → IsPlace rest watcher at
  place_rest first rest at place = (
    let within = place.0 in omega arith,
    λ i d low. place.1 (suc i) d (omega arith),
    λ i d high low. place.2 (suc i) d (omega arith) (omega arith),
  )

  before : (first : DueWatcher) (rest : List DueWatcher) (at : ℕ) → IsPlace (first ∷ rest) watcher (suc at)
      → first.watcher < watcher
  before first rest at place = place.1 zero first (omega arith)

  from : (first : DueWatcher) (rest : List DueWatcher) → IsPlace (first ∷ rest) watcher zero → watcher ≤ first.watcher
  from first rest place = place.2 zero first (omega arith) (omega arith)

  none_after : (first : DueWatcher) (rest : List DueWatcher) → watcher ≤ first.watcher
      → AreAll (λ one. first.watcher < one.watcher) rest → AreAll (λ one. one.watcher ≢ watcher) rest
  none_after first rest le rising =
      all_map (λ one. first.watcher < one.watcher) (λ one. one.watcher ≢ watcher)
      (λ one less same. absurd (omega arith)) rest
      rising

  without_none : (due : List DueWatcher) → AreAll (λ one. one.watcher ≢ watcher) due → without watcher due ≡ due
  without_none [] all = refl
  without_none (first ∷ rest) all = rw (ne_eqb first.watcher watcher all.0)
      (ap (λ l. first ∷ l) (without_none rest all.1))

  pub taken_out : (due : List DueWatcher) (at : ℕ) → IsRising due → IsPlace due watcher at → is_at due at watcher ≡ true
      → remove due at ≡ without watcher due
  taken_out [] zero rising place there = absurd (cc)
  taken_out [] (suc at) rising place there = let within = place.0 in absurd (omega arith)
  taken_out (first ∷ rest) zero rising place there =
      rw there (sym (without_none rest (none_after first rest (from first rest place) rising.0)))
  taken_out (first ∷ rest) (suc at) rising place there =
      let less = before first rest at place in
      rw (ne_eqb first.watcher watcher (λ same. absurd (omega arith)))
      (ap (λ l. first ∷ l) (taken_out rest at rising.1 (place_rest first rest at place) there))

  pub not_there : (due : List DueWatcher) (at : ℕ) → IsRising due → IsPlace due watcher at
      → is_at due at watcher ≡ false
      → due ≡ without watcher due
  not_there [] at rising place there = refl
  not_there (first ∷ rest) zero rising place there =
      sym (without_none (first ∷ rest)
      (eqb-false first.watcher watcher there, none_after first rest (from first rest place) rising.0))
  not_there (first ∷ rest) (suc at) rising place there =
      let less = before first rest at place in
      rw (ne_eqb first.watcher watcher (λ same. absurd (omega arith)))
      (ap (λ l. first ∷ l) (not_there rest at rising.1 (place_rest first rest at place) there))

module _ (entry : DueWatcher) where
  pub put_there : (due : List DueWatcher) (at : ℕ) → IsPlace due entry.watcher at → is_at due at entry.watcher ≡ false
      → insert due at entry ≡ with_due entry due
  put_there [] zero place there = refl
  put_there [] (suc at) place there = let within = place.0 in absurd (omega arith)
  put_there (first ∷ rest) zero place there =
      let le = from entry.watcher first rest place in let other = eqb-false first.watcher entry.watcher there in
      rw (there, lt-ltb entry.watcher first.watcher (omega arith)) refl
  put_there (first ∷ rest) (suc at) place there =
      let less = before entry.watcher first rest at place in
      rw (
        ne_eqb first.watcher entry.watcher (λ same. absurd (omega arith)),
        le-ltb entry.watcher first.watcher
            (omega arith),
      )
      (ap (λ l. first ∷ l) (put_there rest at (place_rest entry.watcher first rest at place) there))

  pub stays_there : (due : List DueWatcher) (at : ℕ) → IsPlace due entry.watcher at → is_at due at entry.watcher ≡ true
      → due ≡ with_due entry due
  stays_there [] zero place there = absurd (cc)
  stays_there [] (suc at) place there = let within = place.0 in absurd (omega arith)
  stays_there (first ∷ rest) zero place there = rw there refl
  stays_there (first ∷ rest) (suc at) place there =
      let less = before entry.watcher first rest at place in
      rw (
        ne_eqb first.watcher entry.watcher (λ same. absurd (omega arith)),
        le-ltb entry.watcher first.watcher
            (omega arith),
      )
      (ap (λ l. first ∷ l) (stays_there rest at (place_rest entry.watcher first rest at place) there))
