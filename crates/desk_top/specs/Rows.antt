-- The lines of checks and of loads, written by hand.
use Rattle.std.specs.Prelude.{◌≡◌, [], codes}
use Rattle.desk_top.specs.Report.{check_line}
use Rattle.desk_top.specs.Summary.{summary, tally_of}

pub record AreWritten : Type 0 where
  pub nothing : check_line 0 0 ≡ codes "market ok objects 0 fixings 0\n"
  pub some : check_line 12 3_456 ≡ codes "market ok objects 12 fixings 3456\n"

pub record AreSummedUp : Type 0 where
  pub nothing : summary 1 (tally_of []) ≡ codes "load 1 lines 0 bytes 0\n"
  pub two : summary 2 (tally_of (codes "c2 6.000000 fresh 4\nc2 7.000000 fresh 3\n")) ≡
      codes "load 2 lines 2 bytes 40\nc2 7.000000 fresh 3\n"
  pub begun : summary 1_000 (tally_of (codes "a\nb")) ≡ codes "load 1000 lines 1 bytes 3\nb"
