use Rattle.std.proofs.Common.{◌≡◌, ◌∙◌, ◌+◌, ◌≤◌, ℕ, max, List, Option, Some, None, ap, refl, sym, subst, arith}
use Rattle.std.specs.Prelude.{slice_set}
use Rattle.observer_graph.specs.GraphView.{GraphView}
use Rattle.link_table.specs.declared.links.Link.{Link}
use Rattle.link_table.specs.Links.{ChangesAt, Fits, IsHolder, free_count}
use Rattle.link_table.proofs.Maps.{changes_set}
use Rattle.link_table.proofs.Counting.{count_added, free_most, free_same}
use Rattle.link_table.proofs.Fitting.{fits_added, fits_same}
use Rattle.link_table.proofs.links.Links.add.Goals as goal

pub returns-in_err-grow-clause-fit : goal.returns-in_err-grow-clause-fit
returns-in_err-grow-clause-fit c = fits_same c.self.inside.links.items c.grow.new.links.items c.args.graph.now
    c.grow.ensures.same (subst (λ (l : List (Option Link)). Fits l c.args.graph.now) (sym c.self.view_is)
    c.requires.fit)

pub returns-in_err-reserve_for-clause-fit : goal.returns-in_err-reserve_for-clause-fit
returns-in_err-reserve_for-clause-fit c = subst (Fits c.grow.new.links.items) (sym c.in_err-reserve_for.ensures.err)
    (fits_same c.self.inside.links.items c.grow.new.links.items c.args.graph.now
    c.grow.ensures.same (subst (λ (l : List (Option Link)). Fits l c.args.graph.now) (sym c.self.view_is)
    c.requires.fit))

all_counted : (c : goal.After-self-2-1) → free_count (slice_set c.grow.new.links.items c.place.result
    (Some (record { target = None }))) ≡ c.self.inside.free + 1
all_counted c = count_added c.self.inside.links.items c.grow.new.links.items c.place.result c.args.holder c.place.ensures
    c.in_ok-grow.ensures.ok c.grow.ensures.same
    (λ is. c.requires.new (subst (λ (l : List (Option Link)). IsHolder l c.args.holder) c.self.view_is is))
    ∙ ap (λ (n : ℕ). n + 1) (sym c.self.invariant)

pub returns-clause-graph : goal.returns-clause-graph
returns-clause-graph c = c.in_ok-reserve_for.ensures.ok
    ∙ ap (λ (n : ℕ). record c.args.graph.now { spare = max c.args.graph.now.spare n }) (sym (all_counted c))

pub returns-clause-fit : goal.returns-clause-fit
returns-clause-fit c = subst (Fits (slice_set c.grow.new.links.items c.place.result (Some (record { target = None }))))
    (sym c.in_ok-reserve_for.ensures.ok)
    (fits_added c.self.inside.links.items (slice_set c.grow.new.links.items c.place.result
    (Some (record { target = None }))) c.args.graph.now c.args.holder
    (max c.args.graph.now.spare (c.self.inside.free + 1))
    (changes_set c.self.inside.links.items c.grow.new.links.items c.place.result c.args.holder
    (Some (record { target = None })) c.place.ensures c.in_ok-grow.ensures.ok c.grow.ensures.same)
    (let all = all_counted c in omega arith)
    (subst (λ (l : List (Option Link)). Fits l c.args.graph.now) (sym c.self.view_is) c.requires.fit))

pub invariant_of-self : goal.invariant_of-self
invariant_of-self c = c.self.invariant ∙ sym (free_same c.self.inside.links.items c.grow.new.links.items c.grow.ensures.same)

pub invariant_of-self-in_err-reserve_for : goal.invariant_of-self-in_err-reserve_for
invariant_of-self-in_err-reserve_for c = c.self.invariant
    ∙ sym (free_same c.self.inside.links.items c.grow.new.links.items c.grow.ensures.same)

pub invariant_of-self-2 : goal.invariant_of-self-2
invariant_of-self-2 c = sym (all_counted c)

pub overflow_add-self-inside : goal.overflow_add-self-inside
overflow_add-self-inside c = let most = free_most c.self.inside.links.items in let count = c.self.invariant in
    let len = c.self.inside.links.ok.0 in let held = c.self.inside.links.ok.1 in let small = c.self.inside.links.small in
    omega arith

pub overflow_add-self : goal.overflow_add-self
overflow_add-self c = let most = free_most c.self.inside.links.items in let count = c.self.invariant in
    let len = c.self.inside.links.ok.0 in let held = c.self.inside.links.ok.1 in let small = c.self.inside.links.small in
    omega arith
