use Rattle.std.proofs.Common.{◌∙◌, ℕ, List, take, get_or, refl, sym, ap, arith}
use Rattle.std.proofs.lemmas.List.{take_more}
use Rattle.desk_top.specs.Summary.{Tally, with_byte, with_bytes}
use Rattle.desk_top.proofs.Tallies.{bytes_more}
use Rattle.desk_top.proofs.tally.Tally.add.Goals as goal

pub loop-byte-init : goal.loop-byte-init
unfolding with_bytes
loop-byte-init c = record { tally = refl; bytes = omega arith }

pub loop-byte-preserved : goal.loop-byte-preserved
loop-byte-preserved c =
    let at = c.loop-byte.byte-index in
    let piece = c.args.piece.now in
    let pushed = c.in_ok-push.ensures in
    record {
      tally = pushed ∙ (ap (λ (t : Tally). with_byte t (get_or piece at 0)) c.loop-byte.invariant.tally
          ∙ (bytes_more c.args.self.now (take at piece) (get_or piece at 0)
          ∙ ap (λ (l : List ℕ). with_bytes c.args.self.now l) (sym (take_more piece at 0 c.loop-byte-test.true))));
      bytes = ap (λ (t : Tally). t.bytes) pushed ∙ omega (arith, c.loop-byte.invariant.bytes);
    }
