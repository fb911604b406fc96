use Rattle.ddt_node.specs.Etrs.{authority_with}
use Rattle.ddt_node.proofs.EtrLemmas.{IsMappedSoFar}
use Rattle.ddt_node.proofs.site_etrs.set_in_each.Given as goal

abbrev pub invariant-loop-at : goal.invariant-loop-at
invariant-loop-at g l = IsMappedSoFar (authority_with l.prefix l.etrs) l.fn.authorities l.at l.authorities
