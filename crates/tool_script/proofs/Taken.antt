-- A script in which everything fits.
use Rattle.std.proofs.Common.{◌≡◌, ℕ, Bool, true, false, not, ◌||◌, if◌then◌else◌, ◌≤◌, List, length, Option, Some, None, refl, arith, All}
use Rattle.std.specs.Prelude.{nat_lt}
use Rattle.std.specs.List.{list_all}
use Rattle.std.proofs.lemmas.Bool.Decides.{nat_tests}
use Rattle.std.proofs.lemmas.List.Elements.{All-weaker}
use Rattle.std.proofs.lemmas.List.Sums.{AllPass-from_list_all}
use Rattle.session_commands.specs.declared.command.Command.{Command}
use Rattle.session_commands.specs.declared.script.Script.{Script}
use Rattle.tool_script.specs.Kinds.{is_move, is_ask}
use Rattle.tool_script.specs.ShapeLaws.{IsTaken}
use Rattle.tool_script.specs.declared.shape.Blocks.{Blocks}
use Rattle.tool_script.specs.declared.shape.Blocks.TheVariants.{Scenarios, Steps}
use Rattle.tool_script.specs.declared.shape.TheConstants.{BASE}
use Rattle.tool_script.specs.Shape.{are_moves, is_block_name, is_over, scenarios_shape, steps_shape, unless_total, shape_of}

-- none of four faults is there
record AreNone (a b d : Bool) : Type 0 where
  pub moves : a ≡ true
  pub asks : b ≡ true
  pub over : d ≡ false

abbrev first_of : Bool → Bool → Bool → Bool → Option ℕ
first_of moves asks base over =
    if not moves then Some 1 else if not asks then Some 2 else if base then Some 3 else if over then Some 4 else None

none_of : (moves asks base over : Bool)
    → first_of moves asks base over ≡ None → AreNone moves asks over
none_of true true false false e = record { moves = refl; asks = refl; over = refl }
none_of true true false true e = absurd (cc)
none_of true true true over e = absurd (cc)
none_of true false base over e = absurd (cc)
none_of false asks base over e = absurd (cc)

few : (a b : ℕ) → (nat_lt 1000 a || nat_lt 1000 b) ≡ false → (a ≤ 1000) × (b ≤ 1000)
few a b e = (grind (arith, nat_tests), grind (arith, nat_tests))

of_scenarios : (names : List (List ℕ)) (script : Script) → scenarios_shape names script ≡ None → IsTaken script
unfolding scenarios_shape
of_scenarios names script e =
    let h = none_of (list_all are_moves script.actions) (list_all is_ask script.commands) (is_block_name names script.action_names BASE.now) (is_over script) e in
    record {
      moves = All-weaker (λ block. are_moves block ≡ true) (λ block. All (λ c. is_move c ≡ true) block)
          (λ block fit. AllPass-from_list_all is_move block fit) script.actions
          (AllPass-from_list_all are_moves script.actions h.moves);
      asks = AllPass-from_list_all is_ask script.commands h.asks;
      blocks = (few (length script.actions) (length script.commands) h.over).0;
      few = (few (length script.actions) (length script.commands) h.over).1;
    }

unless_none : (is_total : Bool) (fault : Option ℕ) → unless_total is_total fault ≡ None → fault ≡ None
unless_none is_total (Some n) e = absurd (cc)
unless_none is_total None e = refl

pub is_taken : (blocks : Blocks) (names : List (List ℕ)) (script : Script) → shape_of blocks names script ≡ None → IsTaken script
unfolding steps_shape
is_taken Scenarios names script e = of_scenarios names script e
is_taken Steps names script e = of_scenarios names script (unless_none _ (scenarios_shape names script) e)
