-- What every session shows.
use Rattle.session_model.specs.Standing.{start_with}
use Rattle.session_model.specs.Course.{Meaning, running}
use Rattle.session_model.specs.Ends.{IsPicking}
use Rattle.session_model.specs.Shows.{EverySessionShows}
use Rattle.session_model.proofs.Moments.{transcript_of}
use Rattle.session_model.proofs.Afresh.{answers_are}
use Rattle.session_model.proofs.Ends.{every_round}

pub every_session : {P : Type 0} → (m : Meaning P) → IsPicking m → EverySessionShows m
every_session m picking picker today names made actions commands blocks known = record {
  transcript = transcript_of m (running picker (start_with today names made actions)) commands;
  answers = answers_are m (running picker (start_with today names made actions)) commands;
  rounds = every_round m picking picker today names made actions commands blocks known;
}
