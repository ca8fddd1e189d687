use Rattle.std.proofs.Common.{◌≡◌, false, drop}
use Rattle.desk_terms.specs.Reading.{Calc}
use Rattle.desk_model.specs.Sound.{IsSound}
use Rattle.bump_model.specs.Moves.{moved, all_set, is_limit, AreLive}
use Rattle.bump_ladder.proofs.sides.move_all.Given as goal

-- the quotes that are left leave the state that all of them leave
abbrev pub invariant-loop-quoted : goal.invariant-loop-quoted
invariant-loop-quoted l = record {
  left : all_set (moved l.shift) (drop l.quoted-index l.group) l.desk ≡ all_set (moved l.shift) l.group l.initial.desk;
  live : AreLive l.desk.market (drop l.quoted-index l.group);
  within : is_limit l.shift (drop l.quoted-index l.group) ≡ false;
  sound : (calc : Calc) → IsSound calc l.initial.desk → IsSound calc l.desk;
}
