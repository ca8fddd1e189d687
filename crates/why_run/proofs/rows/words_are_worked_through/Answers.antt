use Rattle.std.proofs.Common.{refl}
use Rattle.desk_names.specs.Name.{is_name, has_form, is_name_byte, is_reserved}
use Rattle.why_run.proofs.rows.words_are_worked_through.Goals as goal

pub returns : goal.returns
unfolding is_name has_form is_name_byte is_reserved
returns c = record {
  three = refl;
  help = refl;
  two = refl;
  four = refl;
  verb = refl;
  option = refl;
  name = refl;
  two_lines = refl;
  two_words = refl;
  reserved = refl;
  empty = refl;
}
