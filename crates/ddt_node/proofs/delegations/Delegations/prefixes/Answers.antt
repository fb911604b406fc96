use Rattle.ddt_node.proofs.DelegationLemmas.{same_prefixes}
use Rattle.ddt_node.proofs.delegations.Delegations.prefixes.Goals as goal

pub returns : goal.returns
returns c = rw (c.as_slice.ensures.value, ← c.self.view_is) (same_prefixes _ _ _ c.self.invariant.paired)
