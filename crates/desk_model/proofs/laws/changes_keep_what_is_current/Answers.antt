use Rattle.desk_model.specs.declared.slot.Slot.TheVariants.{Watcher, Live}
use Rattle.desk_model.specs.Effect.{made, watching}
use Rattle.desk_model.proofs.Changes.{revised_keeps, today_keeps}
use Rattle.desk_model.proofs.Commands.{quote_keeps, relink_keeps, engine_keeps, member_keeps, fixing_keeps}
use Rattle.desk_model.proofs.KindsKept.{may_be_made, quote_kinded, relink_kinded, engine_kinded, member_kinded, fixing_kinded, today_kinded, added_kinded, dropped_kinded}
use Rattle.desk_model.proofs.Births.{added_keeps, dropped_keeps}
use Rattle.desk_model.proofs.Registrations.{register_keeps, unregister_keeps, hand_out_keeps}
use Rattle.desk_model.proofs.Flags.{freeze_keeps, forward_keeps, defer_keeps, resume_keeps}
use Rattle.desk_model.proofs.Thaw.{thaw_keeps}
use Rattle.desk_model.proofs.laws.changes_keep_what_is_current.Goals as goal

pub returns-clause-terms : goal.returns-clause-terms
returns-clause-terms c = λ s whole x terms kind may. revised_keeps s x terms whole kind may

pub returns-clause-commands : goal.returns-clause-commands
unfolding made watching
returns-clause-commands c = λ s whole. record {
  quote = quote_keeps s whole;
  link = relink_keeps s whole;
  engine = engine_keeps s whole;
  member = member_keeps s whole;
  fixing = fixing_keeps s whole;
  today = λ day. today_keeps s day whole;
  make = λ terms kinds. added_keeps s (Live terms) whole (may_be_made s whole terms kinds);
  watch = added_keeps s Watcher whole (λ y among. absurd among);
  drop = λ x other unused. dropped_keeps s x whole other unused;
  register = register_keeps s whole;
  unregister = unregister_keeps s whole;
  hand_out = hand_out_keeps s whole;
  freeze = λ x lazy. freeze_keeps s x lazy whole;
  thaw = λ x lazy. thaw_keeps s x whole lazy;
  forward = λ x on lazy. forward_keeps s x on lazy whole;
  defer = defer_keeps s whole;
  resume = resume_keeps s whole;
}

pub returns-clause-kinds : goal.returns-clause-kinds
unfolding made watching
returns-clause-kinds c = λ s whole kinds. record {
  quote = quote_kinded s whole kinds;
  link = relink_kinded s whole kinds;
  engine = engine_kinded s whole kinds;
  member = member_kinded s whole kinds;
  fixing = fixing_kinded s whole kinds;
  today = λ day. today_kinded s day kinds;
  make = λ terms own. added_kinded s (Live terms) own kinds;
  watch = added_kinded s Watcher tt kinds;
  drop = λ x other unused. dropped_kinded s x whole other unused kinds;
}
