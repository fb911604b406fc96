use Rattle.std.proofs.Common.{◌≡◌, ◌≤◌, length, map, take}
use Rattle.ddt_node.proofs.DelegationLemmas.{AreAt}
use Rattle.ddt_node.proofs.delegations.Delegations.of.Given as goal

abbrev pub invariant-loop-child : goal.invariant-loop-child
invariant-loop-child l = record {
  prefixes : l.prefixes.items ≡ map (λ c. c.prefix) (take l.child-index l.children);
  sets : AreAt l.sets.items l.places.items (take l.child-index l.children);
  few : length l.sets.items ≤ l.child-index;
}
