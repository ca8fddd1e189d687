use Rattle.desk_model.proofs.Carried.{sound_kept}
use Rattle.desk_model.proofs.laws.what_is_kept_is_sound.Goals as goal

pub returns : goal.returns
returns c = λ s t keeps calc sound. sound_kept calc s t keeps sound
