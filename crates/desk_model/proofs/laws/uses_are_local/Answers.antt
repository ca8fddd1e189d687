use Rattle.desk_model.proofs.Bounds.{ranks_of}
use Rattle.desk_model.proofs.Locality.{uses_same, reading_same}
use Rattle.desk_model.proofs.laws.uses_are_local.Goals as goal

pub returns : goal.returns
returns c = λ m n links longer o here near. let r = ranks_of m links in record { uses = uses_same m n r.0 r.1 r.2 longer o here near; reading = λ terms inputs is. reading_same m n o terms inputs is near }
