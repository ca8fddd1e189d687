-- The names that a script gives to watchers, and how many runs they can have.
use Rattle.std.proofs.Common.{◌≡◌, inl, inr, ℕ, zero, suc, ◌+◌, ◌*◌, ◌≤◌, Bool, true, false, ℤ, List, [], ◌∷◌, ◌++◌, length, refl, sym, subst, arith}
use Rattle.std.specs.Prelude.{◌⊎◌, ◌==◌, ◌||◌, if◌then◌else◌, All}
use Rattle.std.specs.List.{list_any}
use Rattle.std.proofs.lemmas.Bool.{eqb-true, eq-eqb, false≢true}
use Rattle.std.proofs.lemmas.List.{length-append}
use Rattle.std.proofs.lemmas.List.Elements.{All-nil, All-cons, All-head, All-tail}
use Rattle.walks.specs.Walk.{Among}
use Rattle.desk_terms.specs.declared.terms.Terms.{Terms}
use Rattle.desk_model.specs.declared.slot.Slot.TheVariants.{Live}
use Rattle.desk_model.specs.Market.{slot_at, is_watcher}
use Rattle.desk_model.specs.Effect.{start, made}
use Rattle.session_commands.specs.declared.command.Command.{Command}
use Rattle.session_commands.specs.Whole.{IsCommand}
use Rattle.session_model.specs.Standing.{Standing, start_of, start_with, with_objects}
use Rattle.session_model.specs.Ends.{watcher_names, names_in, names_in_all, each_once, times}
use Rattle.session_model.proofs.Given.{IsOf, added_was}
use Rattle.session_model.proofs.Holding.{Stands}

pub among_left : (x : ℕ) (xs ys : List ℕ) → Among x xs → Among x (xs ++ ys)
among_left x [] ys among = absurd among
among_left x (y ∷ xs) ys among = elim among [ inl same ↦ inl same | inr later ↦ inr (among_left x xs ys later) ]

pub among_right : (x : ℕ) (xs ys : List ℕ) → Among x ys → Among x (xs ++ ys)
among_right x [] ys among = among
among_right x (y ∷ xs) ys among = inr (among_right x xs ys among)

pub among_either : (x : ℕ) (xs ys : List ℕ) → Among x (xs ++ ys) → Among x xs ⊎ Among x ys
among_either x [] ys among = inr among
among_either x (y ∷ xs) ys among = elim among [
  | inl same ↦ inl (inl same)
  | inr later ↦ elim (among_either x xs ys later) [ inl first ↦ inl (inr first) | inr second ↦ inr second ]
]

any_among : (x : ℕ) (xs : List ℕ) → list_any (λ y. y == x) xs ≡ true → Among x xs
any_among x [] is = absurd (false≢true is)
any_among x (y ∷ xs) is = by (y == x) refl (λ more. any_among x xs more) is
  where
    by : (b : Bool) → (y == x) ≡ b → (list_any (λ z. z == x) xs ≡ true → Among x xs) → (b || list_any (λ z. z == x) xs) ≡ true
        → Among x (y ∷ xs)
    by true same later is = inl (sym (eqb-true y x same))
    by false same later is = inr (later is)

-- each is there once, and there
pub once_among : (x : ℕ) (xs : List ℕ) → Among x xs → Among x (each_once xs)
once_among x [] among = among
once_among x (y ∷ xs) among = by (list_any (λ z. z == y) xs) refl (λ later. once_among x xs later)
  where
    by : (b : Bool) → list_any (λ z. z == y) xs ≡ b → (Among x xs → Among x (each_once xs))
        → Among x (if b then each_once xs else y ∷ each_once xs)
    by true is rest = elim among [
      | inl same ↦ rest (subst (λ (z : ℕ). Among z xs) (sym same) (any_among y xs is))
      | inr later ↦ rest later
    ]
    by false is rest = elim among [ inl same ↦ inl same | inr later ↦ inr (rest later) ]

-- how often these names stand there together
abbrev together : List ℕ → List ℕ → ℕ
together [] ran = 0
together (x ∷ xs) ran = times x ran + together xs ran

together_more : (x : ℕ) (xs ran : List ℕ) → together xs ran ≤ together xs (x ∷ ran)
together_more x [] ran = omega arith
together_more x (y ∷ xs) ran = let rest = together_more x xs ran in omega arith

together_one : (x : ℕ) (xs ran : List ℕ) → Among x xs → together xs ran + 1 ≤ together xs (x ∷ ran)
together_one x [] ran among = absurd among
together_one x (y ∷ xs) ran among = elim among [
  | inl same ↦ let rest = together_more x xs ran in rw (eq-eqb x y same) (omega arith)
  | inr later ↦ let rest = together_one x xs ran later in omega arith
]

together_all : (xs ran : List ℕ) → ((x : ℕ) → Among x ran → Among x xs) → length ran ≤ together xs ran
together_all xs [] are = omega arith
together_all xs (x ∷ ran) are =
    let rest = together_all xs ran (λ y among. are y (inr among)) in
    let one = together_one x xs ran (are x (inl refl)) in omega arith

together_few : (xs ran : List ℕ) → ((x : ℕ) → times x ran ≤ 8) → together xs ran ≤ 8 * length xs
together_few [] ran few = omega arith
together_few (x ∷ xs) ran few = let rest = together_few xs ran few in let one = few x in omega arith

-- EIGHT RUNS of each name are so many together
pub few_together : (xs ran : List ℕ) → ((x : ℕ) → Among x ran → Among x xs) → ((x : ℕ) → times x ran ≤ 8) → length ran ≤ 8 * length xs
few_together xs ran are few = let all = together_all xs ran are in let most = together_few xs ran few in omega arith

-- a session without a watcher
record IsBare (given : List ℕ) (n a : ℕ) (p : Standing) : Type 0 where
  size : length p.of_object ≡ length p.state.market.objects
  none : (w : ℕ) → is_watcher (slot_at p.state.market w) ≡ true → ⊥
  blocks : All (λ block. All (IsOf given n a) block) p.actions
  names : length p.names ≡ n

-- commands that give these names
module _ (given : List ℕ) (n a : ℕ) where
  pub commands_of : (commands : List Command) → ((x : ℕ) → Among x (names_in commands) → Among x given)
      → All (IsCommand n a) commands → All (IsOf given n a) commands
  commands_of [] are known = All-nil (IsOf given n a)
  commands_of (c ∷ commands) are known = All-cons (IsOf given n a) c commands
      (record { known = All-head (IsCommand n a) c commands known; gives = λ x among. are x (among_left x (watcher_names c) (names_in commands) among) })
      (commands_of commands (λ x among. are x (among_right x (watcher_names c) (names_in commands) among)) (All-tail (IsCommand n a) c commands known))

  pub blocks_of : (blocks : List (List Command)) → ((x : ℕ) → Among x (names_in_all blocks) → Among x given)
      → All (λ block. All (IsCommand n a) block) blocks → All (λ block. All (IsOf given n a) block) blocks
  blocks_of [] are known = All-nil (λ block. All (IsOf given n a) block)
  blocks_of (block ∷ blocks) are known = All-cons (λ block. All (IsOf given n a) block) block blocks
      (commands_of block (λ x among. are x (among_left x (names_in block) (names_in_all blocks) among)) (All-head (λ block. All (IsCommand n a) block) block blocks known))
      (blocks_of blocks (λ x among. are x (among_right x (names_in block) (names_in_all blocks) among)) (All-tail (λ block. All (IsCommand n a) block) block blocks known))

  bare_stands : (entries : List (ℕ × Terms)) (p : Standing) → IsBare given n a p → Stands given n a (with_objects entries p)
  unfolding with_objects made
  bare_stands [] p bare = record {
    watchers = record {
      size = bare.size;
      named = λ w is. absurd (bare.none w is);
      alone = λ v w is other same. absurd (bare.none v is);
    };
    blocks = bare.blocks;
    names = bare.names;
  }
  bare_stands (entry ∷ entries) p bare =
      bare_stands entries (record p { state = made entry.1 p.state; of_object = p.of_object ++ entry.0 ∷ [] })
      (record {
        size = let first = length-append p.of_object (entry.0 ∷ []) in let second = length-append p.state.market.objects (Live entry.1 ∷ []) in
            let size = bare.size in omega arith;
        none = λ w is. elim (added_was p.state.market.objects (Live entry.1) w is) [
          | inl was ↦ bare.none w was
          | inr new ↦ false≢true new.1
        ];
        blocks = bare.blocks;
        names = bare.names;
      })

  none_first : (w : ℕ) (today : ℤ) → is_watcher (slot_at (start today).market w) ≡ true → ⊥
  none_first zero today is = false≢true is
  none_first (suc zero) today is = false≢true is
  none_first (suc (suc w)) today is = false≢true is

  pub stands_first : (today : ℤ) (names : List (List ℕ)) (entries : List (ℕ × Terms)) (actions : List (List Command))
      → length names ≡ n → All (λ block. All (IsOf given n a) block) actions → Stands given n a (start_with today names entries actions)
  stands_first today names entries actions long blocks = bare_stands entries (start_of today names actions) (record {
    size = refl;
    none = λ w is. none_first w today is;
    blocks = blocks;
    names = long;
  })
