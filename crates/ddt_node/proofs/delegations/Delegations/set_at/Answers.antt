use Rattle.std.proofs.Common.{rules}
use Rattle.ddt_node.proofs.DelegationLemmas.{place_within, set_within, set_read}
use Rattle.ddt_node.proofs.delegations.Delegations.set_at.Goals as goal

pub index-requires : goal.index-requires
index-requires c =
    let lt = place_within c.self.inside.sets.items c.self.inside.prefixes.items c.self.inside.places.items c.args.place (rw c.self.view_is c.requires) in
    search (rules, lt)

pub index-requires-2 : goal.index-requires-2
index-requires-2 c =
    let lt = set_within c.self.inside.sets.items c.self.inside.prefixes.items c.self.inside.places.items c.args.place c.index.result.now c.self.invariant (rw c.self.view_is c.requires) c.index.ensures in
    search (rules, lt)

pub returns : goal.returns
returns c child is =
    set_read _ _ _ c.args.place c.index.result.now c.index-2.result.now child c.self.invariant c.index.ensures c.index-2.ensures (rw c.self.view_is is)
