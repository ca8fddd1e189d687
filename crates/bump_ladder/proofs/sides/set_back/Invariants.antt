use Rattle.std.proofs.Common.{◌≡◌, drop}
use Rattle.desk_terms.specs.Reading.{Calc}
use Rattle.desk_model.specs.Sound.{IsSound}
use Rattle.bump_model.specs.Moves.{all_set, AreLive}
use Rattle.bump_ladder.proofs.sides.set_back.Given as goal

-- the quotes that are left leave the state that all of them leave
abbrev pub invariant-loop-quoted : goal.invariant-loop-quoted
invariant-loop-quoted l = record {
  left : all_set (λ value. value) (drop l.quoted-index l.group) l.desk ≡ all_set (λ value. value) l.group l.initial.desk;
  live : AreLive l.desk.market (drop l.quoted-index l.group);
  sound : (calc : Calc) → IsSound calc l.initial.desk → IsSound calc l.desk;
}
