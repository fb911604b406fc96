-- Which servers a lookup asks: those of a group of the register.
use Rattle.std.proofs.Common.{◌≡◌, ◌<◌, length, List, [], Option, Some, None, refl, subst}
use Rattle.std.specs.Prelude.{IsTrue}
use Rattle.std.specs.Option.{option_map_or}
use Rattle.std.proofs.lemmas.Bool.{false≢true}
use Rattle.ddt_path.specs.declared.locator.Locator.{Locator}
use Rattle.ddt_path.specs.Locators.{lists}
use Rattle.ddt_path.specs.Names.{is_same_name}
use Rattle.ddt_path.specs.laws.Member.{contained, found_in}
use Rattle.ddt_register.specs.declared.group.Group.{Group}
use Rattle.ddt_register.specs.declared.register.Register.{Register}
use Rattle.ddt_check.specs.Zones.{group_named}
use Rattle.ddt_resolver.specs.declared.pending.Pending.{Pending}
use Rattle.ddt_resolver.specs.State.{server}
use Rattle.ddt_sim.specs.Honest.{IsServer}
use Rattle.ddt_sim.specs.Sound.{IsSoundLookup}
use Rattle.ddt_path.specs.laws.Locator.{lists_at}

-- the server that a sound lookup asks is one of the register
pub asks_a_server : (r : Register) (me : Locator) (l : Pending) → IsSoundLookup r l → l.server_index < length l.servers → IsServer r (server me l)
asks_a_server r me l sound place = by (group_named r sound.zone.group) refl (subst (λ (set : List Locator). IsTrue (lists set (server me l))) sound.servers (lists_at l.servers l.server_index me place))
  where
    by : (found : Option Group) → group_named r sound.zone.group ≡ found → IsTrue (lists (option_map_or (λ (g : Group). g.locators) found []) (server me l)) → IsServer r (server me l)
    by None e none = absurd (false≢true none)
    by (Some g) e listed = (g, contained r.groups g (found_in (λ (h : Group). is_same_name h.name sound.zone.group) r.groups g e), listed)
