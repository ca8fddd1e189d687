use Rattle.std.proofs.Common.{List, ◌∙◌, ap}
use Rattle.std.specs.Prelude.{length, slice_index_or}
use Rattle.desk_terms.specs.declared.terms.Part.{Part}
use Rattle.desk_model.specs.declared.slot.Slot.{Slot}
use Rattle.desk_model.specs.declared.slot.Slot.TheVariants.{Free}
use Rattle.desk_model.specs.Market.{kind_in}
use Rattle.object_store.proofs.Lent.{joins}
use Rattle.lazy_objects.proofs.Weighed.{parts_at, parts_stand, kind_after, taken_back}
use Rattle.lazy_objects.proofs.weights.join.Goals as goal

pub keep_parts-requires : goal.keep_parts-requires
keep_parts-requires c =
    ap (λ (l : List Slot). kind_in (slice_index_or l c.args.composite Free)) (c.in_ok-push_part.ensures.pushed (parts_at c.args.objects.now c.args.composite c.requires.composite) (parts_stand c.args.objects.now c.args.composite c.requires.composite))
    ∙ kind_after c.args.objects.now c.args.composite c.requires.composite _

pub returns-in-Err-clause-same : goal.returns-in-Err-clause-same
returns-in-Err-clause-same c =
    taken_back c.args.objects.now c.args.composite c.requires.composite c.push_part.new.self c.keep_parts.new.self _ _
    (c.in_ok-push_part.ensures.pushed (parts_at c.args.objects.now c.args.composite c.requires.composite) (parts_stand c.args.objects.now c.args.composite c.requires.composite))
    c.keep_parts.ensures (ap (λ (l : List Part). length l) c.parts_of-len.ensures)

pub returns-clause-watched : goal.returns-clause-watched
returns-clause-watched c = joins c.store.inside c.store.invariant c.args.store.now c.store.view_is c.watch.new.self c.args.member c.args.composite c.in_default.ensures.ok
