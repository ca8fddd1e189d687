use Rattle.std.proofs.Common.{◌≡◌, refl, sym, ap}
use Rattle.std.specs.Prelude.{map}
use Rattle.std.specs.String.{string_bytes}
use Rattle.tool_script.specs.Asking.{Wanted, script_asks, found_in}
use Rattle.tool_script.specs.declared.status.Status.{Status}
use Rattle.tool_script.specs.declared.status.Status.TheVariants.{Usage, NoMemory}
use Rattle.tool_script.specs.Found.{run_in}
use Rattle.tool_script.specs.Status.{script_ends}
use Rattle.tool_frame.specs.Words.{Pair, pair_in, pair_of}
use Rattle.tool_frame.proofs.Finds.{then_lost, then_found, then_refused}
use Rattle.tool_script.specs.declared.blocks_status.BlocksStatus.TheVariants.{Of, Shape}
use Rattle.tool_script.specs.BlocksStatus.{blocks_ends}
use Rattle.tool_script.specs.BlocksAsking.{in_shape, unless_shape}
use Rattle.tool_script.proofs.wanted.open_blocks.Goals as goal

same : (s t : Status) → Of s ≡ Of t → s ≡ t
same s t is = cc

pub returns-in-Err-clause-found : goal.returns-in-Err-clause-found
returns-in-Err-clause-found g c =
    then_lost script_ends blocks_ends (script_asks pair_of (λ pair. pair.market) (λ pair. pair.other)) (found_in pair_in) run_in Of
    (λ (wanted : Wanted Pair). in_shape c.args.blocks wanted.run) (map string_bytes c.args.words.now) _ (λ s. refl) refl
    c.in-Err.status (same c.in-Err.status Usage) (same c.in-Err.status NoMemory) c.in-Err.ensures.found

pub returns-in-Some-clause-found : goal.returns-in-Some-clause-found
returns-in-Some-clause-found g c =
    then_refused script_ends blocks_ends (script_asks pair_of (λ pair. pair.market) (λ pair. pair.other)) (found_in pair_in) run_in Of
    (λ (wanted : Wanted Pair). in_shape c.args.blocks wanted.run) (map string_bytes c.args.words.now) _ (λ s. refl) refl
    c.in-Ok.found (Shape c.in-Some.fault) (ap (unless_shape (run_in c.in-Ok.found.run)) (sym c.in-Some.ensures)) refl (λ is. cc) c.in-Ok.ensures.found

pub returns-in-None-clause-found : goal.returns-in-None-clause-found
returns-in-None-clause-found g c =
    then_found script_ends blocks_ends (script_asks pair_of (λ pair. pair.market) (λ pair. pair.other)) (found_in pair_in) run_in Of
    (λ (wanted : Wanted Pair). in_shape c.args.blocks wanted.run) (map string_bytes c.args.words.now) _ (λ s. refl) refl
    c.in-Ok.found c.in-Ok.found.run (ap (unless_shape (run_in c.in-Ok.found.run)) (sym c.in-None.ensures)) c.in-Ok.ensures.found
