use Rattle.tool_script.proofs.Taken.{is_taken}
use Rattle.tool_script.proofs.shape_laws.a_shape_says_what_it_takes.Goals as goal

pub returns : goal.returns
returns c = is_taken
