use Rattle.std.proofs.Common.{ap, sym, ◌∙◌}
use Rattle.std.proofs.lemmas.Option.{none-some}
use Rattle.std.specs.FinMap.{get, insert}
use Rattle.std.specs.BTreeMap as btree
use Rattle.std.specs.Ordering.{nat_cmp}
use Rattle.ddt_resolver.specs.Table.{Held}
use Rattle.ddt_resolver.proofs.TableLemmas.{under, in_map, IsPut, put_table, put_map, put_count}
use Rattle.ddt_resolver.proofs.table.Table.add.Goals as goal
use Rattle.ddt_resolver.proofs.table.Table.add.Goals.{After-note}

put : (c : After-note)
    → IsPut c.self.inside.lookups c.insert_reserved-slot.new.self (btree.get nat_cmp c.self.inside.slots) (btree.get nat_cmp c.note.new.slots)
    c.self.inside.next c.insert_reserved-slot.result (under c.args.ticket c.args.lookup)
put c = record {
  is = c.self.invariant.0;
  updates = c.insert_reserved-slot.ensures.updates;
  vacant = c.insert_reserved-slot.ensures.was_vacant;
  nonce = c.requires.next.nonce ∙ sym (ap (λ (h : Held). h.next) c.self.view_is);
  here = c.note.ensures.here;
  others = c.note.ensures.others;
  latest = λ j v here. c.requires.next.latest v.ticket v.lookup (in_map c.self.inside.lookups c.self.invariant c.self.view_is j v here);
  fresh = λ j v here same. none-some v.lookup (sym c.requires.ticket ∙ ap (get c.args.self.now.lookups) (sym same) ∙ in_map c.self.inside.lookups c.self.invariant c.self.view_is j v here);
}

pub invariant_of-self : goal.invariant_of-self
invariant_of-self c = let p = put (goal.at.invariant_of-self c).After-note in (put_table p, put_count p c.self.invariant.1 c.insert_reserved-slot.ensures.len)

pub returns-clause-lookups : goal.returns-clause-lookups
returns-clause-lookups c = put_map (put (goal.at.returns-clause-lookups c).After-note) ∙ ap (λ (h : Held). insert h.lookups c.args.ticket c.args.lookup) c.self.view_is
