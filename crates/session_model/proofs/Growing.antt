-- A session that grows stays one.
use Rattle.std.proofs.Common.{inl, inr, ℕ, zero, suc, ◌+◌, ◌<◌, ◌≤◌, List, [], ◌∷◌, get_or, Option, None, Some, sym, subst, arith}
use Rattle.std.specs.Prelude.{slice_get, All}
use Rattle.std.proofs.lemmas.Bool.{cases_lt}
use Rattle.std.proofs.lemmas.List.{length-append}
use Rattle.std.proofs.lemmas.List.Elements.{All-nil, All-cons, All-head, All-tail, All-push}
use Rattle.walks.specs.Walk.{Among}
use Rattle.session_commands.specs.declared.table.Kind.{Kind}
use Rattle.session_commands.specs.declared.field.Field.{Field}
use Rattle.session_commands.specs.declared.field.Field.TheVariants.{Nothing, Name, Value, Number, Day, Weight, Engine, Flag, Action}
use Rattle.session_commands.specs.declared.command.Command.{Command}
use Rattle.session_commands.specs.declared.command.Command.TheVariants as command
use Rattle.session_commands.specs.Parts.{parts_of}
use Rattle.session_commands.specs.Table.{row_of}
use Rattle.session_commands.specs.Whole.{IsEngine, Fits, IsCommand}
use Rattle.session_model.specs.Standing.{Standing}
use Rattle.session_model.specs.Growing.{learn, with_action}
use Rattle.session_model.specs.Ends.{watcher_names}
use Rattle.session_model.proofs.Given.{IsOf}
use Rattle.session_model.proofs.Holding.{Stands}
use Rattle.session_model.proofs.Wider.{IsBelow, IsNamed, past_end}

-- A COMMAND of so many names and actions is one of more
module _ (n more a actions : ℕ) (names_le : n ≤ more) (actions_le : a ≤ actions) where
  engine_grows : (engine : Option ℕ) → IsEngine n engine → IsEngine more engine
  engine_grows None is = tt
  engine_grows (Some name) is = omega arith

  fits_grow : (k : Kind) (f : Field) → Fits n a k f → Fits more actions k f
  fits_grow k Nothing is = is
  fits_grow k (Name name) is = omega arith
  fits_grow k (Value value) is = is
  fits_grow k (Number units) is = is
  fits_grow k (Day day) is = is
  fits_grow k (Weight weight) is = is
  fits_grow k (Engine engine) is = engine_grows engine is
  fits_grow k (Flag flag) is = is
  fits_grow k (Action action) is = omega arith

  pub command_grows : (c : Command) → IsCommand n a c → IsCommand more actions c
  unfolding IsCommand
  command_grows c is = record {
    first = fits_grow (row_of (parts_of c).verb).first (parts_of c).first is.first;
    second = fits_grow (row_of (parts_of c).verb).second (parts_of c).second is.second;
    third = fits_grow (row_of (parts_of c).verb).third (parts_of c).third is.third;
  }

  module _ (given : List ℕ) where
    pub is_of_more : (commands : List Command) → All (IsOf given n a) commands → All (IsOf given more actions) commands
    is_of_more [] all = All-nil (IsOf given more actions)
    is_of_more (c ∷ commands) all =
        let one = All-head (IsOf given n a) c commands all in
        All-cons (IsOf given more actions) c commands (record { known = command_grows c one.known; gives = one.gives })
        (is_of_more commands (All-tail (IsOf given n a) c commands all))

    pub blocks_more : (blocks : List (List Command)) → All (λ block. All (IsOf given n a) block) blocks → All (λ block. All (IsOf given more actions) block) blocks
    blocks_more [] all = All-nil (λ block. All (IsOf given more actions) block)
    blocks_more (block ∷ blocks) all =
        All-cons (λ b. All (IsOf given more actions) b) block blocks (is_of_more block (All-head (λ b. All (IsOf given n a) b) block blocks all))
        (blocks_more blocks (All-tail (λ b. All (IsOf given n a) b) block blocks all))

-- names that a command gives to watchers are among all numbers that are small enough
pub up_to : ℕ → List ℕ
up_to zero = []
up_to (suc n) = n ∷ up_to n

among_up_to : (n name : ℕ) → name < n → Among name (up_to n)
unfolding up_to
among_up_to zero name low = omega arith
among_up_to (suc n) name low = elim (cases_lt name n) [
  | inl less ↦ inr (among_up_to n name less)
  | inr past ↦ inl (omega arith)
]

-- of a command of these names
gives_all : (all n a : ℕ) → n ≤ all → (c : Command) → IsCommand n a c → (name : ℕ) → Among name (watcher_names c) → Among name (up_to all)
unfolding IsCommand parts_of row_of
gives_all all n a le (command.Watch w action) is name among = elim among [
  | inl same ↦ subst (λ (x : ℕ). Among x (up_to all)) (sym same) (among_up_to all w (let low = is.first in omega arith))
  | inr none ↦ absurd none
]
gives_all all n a le (command.Quote q value) is name among = absurd among
gives_all all n a le (command.Sum q x y) is name among = absurd among
gives_all all n a le (command.Difference q x y) is name among = absurd among
gives_all all n a le (command.Handle q is_curve) is name among = absurd among
gives_all all n a le (command.Stock q x) is name among = absurd among
gives_all all n a le (command.Composite q) is name among = absurd among
gives_all all n a le (command.Member k i weight) is name among = absurd among
gives_all all n a le (command.Set q value) is name among = absurd among
gives_all all n a le (command.Unset q) is name among = absurd among
gives_all all n a le (command.Link h t) is name among = absurd among
gives_all all n a le (command.Unlink h) is name among = absurd among
gives_all all n a le (command.Engine i e) is name among = absurd among
gives_all all n a le (command.Today day) is name among = absurd among
gives_all all n a le (command.Fixing x day rate) is name among = absurd among
gives_all all n a le (command.Freeze o) is name among = absurd among
gives_all all n a le (command.Thaw o) is name among = absurd among
gives_all all n a le (command.Recalc o) is name among = absurd among
gives_all all n a le (command.Forward o is_on) is name among = absurd among
gives_all all n a le command.Defer is name among = absurd among
gives_all all n a le command.Resume is name among = absurd among
gives_all all n a le (command.Register w o) is name among = absurd among
gives_all all n a le (command.Unregister w o) is name among = absurd among
gives_all all n a le (command.Drop o) is name among = absurd among
gives_all all n a le (command.Ask o) is name among = absurd among
gives_all all n a le (command.Df c day) is name among = absurd among

pub is_of_all : (all n a : ℕ) → n ≤ all → (c : Command) → IsCommand n a c → IsOf (up_to all) n a c
is_of_all all n a le c known = record { known = known; gives = gives_all all n a le c known }

-- A NAME MORE
pub stands_learn : (given : List ℕ) (n a : ℕ) (text : List ℕ) (p : Standing) → Stands given n a p → Stands given (n + 1) a (learn text p)
stands_learn given n a text p s = record {
  watchers = record {
    size = s.watchers.size;
    named = λ w is. ((let low = (s.watchers.named w is).0 in omega arith), (s.watchers.named w is).1);
    alone = s.watchers.alone;
  };
  blocks = blocks_more n (n + 1) a a (omega arith) (omega arith) given p.actions s.blocks;
  names = let long = length-append p.names (text ∷ []) in let was = s.names in omega arith;
}

below_more : (n : ℕ) (o : Option ℕ) → IsBelow n o → IsBelow (n + 1) o
below_more n None low = tt
below_more n (Some x) low = omega arith

pub named_learn : (n a : ℕ) (text : List ℕ) (p : Standing) → IsNamed n a p → IsNamed (n + 1) a (learn text p)
named_learn n a text p named = record {
  some = omega arith;
  names = let long = length-append p.names (text ∷ []) in let was = named.names in omega arith;
  watching = let long = length-append p.watching (None ∷ []) in let was = named.watching in omega arith;
  actions = named.actions;
  objects = λ o. below_more n (slice_get p.of_object o) (named.objects o);
  linked = λ w. subst (λ (o : Option ℕ). IsBelow a o) (sym (past_end p.watching 1 w None)) (named.linked w);
}

-- AN ACTION MORE
pub stands_action : (given : List ℕ) (n a : ℕ) (block : List Command) (p : Standing) → Stands given n a p → All (IsOf given n (a + 1)) block
    → Stands given n (a + 1) (with_action block p)
stands_action given n a block p s all = record {
  watchers = record { size = s.watchers.size; named = s.watchers.named; alone = s.watchers.alone };
  blocks = All-push (λ b. All (IsOf given n (a + 1)) b) p.actions block (blocks_more n n a (a + 1) (omega arith) (omega arith) given p.actions s.blocks) all;
  names = s.names;
}

pub named_action : (n a : ℕ) (block : List Command) (p : Standing) → IsNamed n a p → IsNamed n (a + 1) (with_action block p)
named_action n a block p named = record {
  some = named.some;
  names = named.names;
  watching = named.watching;
  actions = let long = length-append p.actions (block ∷ []) in let was = named.actions in omega arith;
  objects = named.objects;
  linked = λ w. below_more a (get_or p.watching w None) (named.linked w);
}
