use Rattle.std.proofs.Common.{◌≡◌, true, map, arith}
use Rattle.std.proofs.lemmas.Bool.{le-leb}
use Rattle.std.proofs.lemmas.List.{length-map}
use Rattle.ddt_path.specs.Locators.{most_locators}
use Rattle.ddt_config.specs.Shaped.{fits}
use Rattle.ddt_node.specs.Etrs.{authority_with}
use Rattle.ddt_node.proofs.EtrLemmas.{index_kept, shape_kept, own_sites, written_back}
use Rattle.ddt_node.proofs.server.Server.set_etrs.Goals as goal

pub set_in_each-requires-clause-own : goal.set_in_each-requires-clause-own
set_in_each-requires-clause-own g c =
    rw c.deref_mut.ensures.value (own_sites c.self.inside.role c.self.inside.locators c.self.inside.authorities.items c.self.invariant.0)

pub invariant_of-self : goal.invariant_of-self
invariant_of-self g c =
    let p = c.args.prefix in
    let e = c.args.etrs in
    let was = c.self.inside.authorities.items in
    let few : fits e ≡ true = le-leb _ most_locators c.as_slice-few.ensures.bound in
    let changed = rw c.deref_mut.ensures.value at c.set_in_each.ensures in
    let len = length-map was (authority_with p e) in
    let back = written_back c.self.inside.authorities.len was (map (authority_with p e) was) (omega arith) (omega arith) in
    rw (changed, back) (shape_kept p e c.self.inside.role c.self.inside.locators was few c.self.invariant.0, index_kept p e was _ _ c.self.invariant.1)
