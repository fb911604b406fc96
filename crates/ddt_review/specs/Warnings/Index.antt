-- What the index of a register holds.
use Rattle.std.specs.Prelude.{◌≡◌, List}
use Rattle.ddt_path.specs.declared.locator.Locator.{Locator}
use Rattle.ddt_register.specs.declared.register.Register.{Register}
use Rattle.ddt_trie.specs.Trie.{trie_content}
use Rattle.ddt_review.specs.declared.warnings.index.Index.{Index}
use Rattle.ddt_review.specs.Warnings.Found.{IsTree, HasItems, HasParents, HasMixed, HasServers, HasNames, HasAddresses, HasUsual, HasHosts, HasGuests, AreListedInOrder}
use Rattle.ddt_review.specs.Warnings.UnreachableReason.{is_on_loopback}

-- the register whose index it is
abbrev pub register_of : Index → Register
register_of index = index.tree.register.now

-- the addresses of Map-Resolvers that it was made with
abbrev pub resolvers_of : Index → List Locator
resolvers_of index = index.resolvers.now

-- the index holds what is in the register
pub record IsIndex (index : Index) : Type 0 where
  pub tree : IsTree index.tree
  pub parents : HasParents (register_of index) index.children.parents
  pub mixed : HasMixed (register_of index) index.children.mixed
  pub sites : HasItems (λ s. s.prefix) (register_of index).sites (trie_content index.sites)
  pub order : AreListedInOrder (register_of index) index.order.items
  pub servers : HasServers (register_of index).groups index.servers
  pub known : HasAddresses (resolvers_of index) index.known
  pub usual : HasUsual (register_of index) index.delegations.usual
  pub hosts : HasHosts (register_of index) index.delegations.hosts
  pub guests : HasGuests (register_of index) index.delegations.guests
  pub named : HasNames (register_of index).zones index.named
  pub rig : index.is_rig ≡ is_on_loopback (register_of index)
