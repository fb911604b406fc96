use Rattle.std.proofs.Common.{ap, sym, ◌∙◌}
use Rattle.std.specs.FinMap.{remove}
use Rattle.std.specs.BTreeMap as btree
use Rattle.std.specs.Ordering.{nat_cmp}
use Rattle.ddt_resolver.specs.Table.{Held}
use Rattle.ddt_resolver.proofs.TableLemmas.{if_some, not_given, not_noted, in_map, only_one, taken_table, taken_map, taken_count, others_taken, on_some}
use Rattle.ddt_resolver.proofs.table.Table.take.Goals as goal

pub returns-then-nonce-self-clause-none : goal.returns-then-nonce-self-clause-none
returns-then-nonce-self-clause-none c = not_given c.self.inside.lookups c.self.invariant c.self.view_is c.args.nonce c.if-nonce-self.true

pub returns-in-None-clause-none : goal.returns-in-None-clause-none
returns-in-None-clause-none c = not_noted c.self.inside.lookups c.self.invariant c.self.view_is c.args.nonce (sym c.remove.ensures.value ∙ c.in-None.is)

pub invariant_of-self : goal.invariant_of-self
invariant_of-self c =
    let held = c.self.invariant.0.held c.args.nonce c.in-Some.slot (sym c.remove.ensures.value ∙ c.in-Some.is) c.if-nonce-self.false in (
      taken_table c.try_remove.ensures.updates held.1 c.self.invariant.0 (btree.get nat_cmp c.remove.new.self) (ap (btree.get nat_cmp c.remove.new.self) held.2 ∙ c.remove.ensures.updates.1)
          (λ q other. others_taken c.self.inside.slots c.remove.new.self c.args.nonce c.remove.ensures.updates q (λ same. other (same ∙ sym held.2))),
      taken_count c.try_remove.ensures.updates held.1 c.self.invariant.0 c.self.invariant.1 (on_some c.try_remove.result held.0 c.try_remove.ensures.len (c.try_remove.ensures.value ∙ held.1)),
    )

pub returns-in-Some-clause-found : goal.returns-in-Some-clause-found
returns-in-Some-clause-found c = if_some _ _ (λ w e. in_map c.self.inside.lookups c.self.invariant c.self.view_is c.in-Some.slot w (sym c.try_remove.ensures.value ∙ e))

pub returns-in-Some-clause-only : goal.returns-in-Some-clause-only
returns-in-Some-clause-only c = if_some _ _ (λ w e.
    only_one c.self.inside.lookups c.self.invariant c.self.view_is c.args.nonce c.in-Some.slot (sym c.remove.ensures.value ∙ c.in-Some.is) w (sym c.try_remove.ensures.value ∙ e))

pub returns-in-Some-clause-taken : goal.returns-in-Some-clause-taken
returns-in-Some-clause-taken c = if_some _ _ (λ w e.
    taken_map c.try_remove.ensures.updates (sym c.try_remove.ensures.value ∙ e) c.self.invariant.0 ∙ ap (λ (h : Held). remove h.lookups w.ticket) c.self.view_is)
