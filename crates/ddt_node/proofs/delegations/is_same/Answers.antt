use Rattle.std.proofs.Common.{rules}
use Rattle.std.proofs.lemmas.Slice.Eq.{slice_eq-Decides}
use Rattle.ddt_node.proofs.delegations.is_same.Goals as goal

pub returns-then-eq : goal.returns-then-eq
returns-then-eq c told =
    let same = (slice_eq-Decides (λ a b. search rules) c.as_slice.result.now c.as_slice-then-eq.result.now c.eq-then-eq.result c.eq-then-eq.ensures).0 told in
    search (rules, same)
