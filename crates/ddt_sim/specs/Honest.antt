-- What honest servers of a register answer (RFC 8111, sections 6.1, 7.1 and 7.2).
use Rattle.std.specs.Prelude.{ℕ, IsTrue, List, Option, Contains}
use Rattle.ddt_path.specs.declared.locator.Locator.{Locator}
use Rattle.ddt_path.specs.Locators.{lists}
use Rattle.ddt_path.specs.Path.{xeid_path}
use Rattle.ddt_register.specs.declared.group.Group.{Group}
use Rattle.ddt_register.specs.declared.register.Register.{Register}
use Rattle.ddt_check.specs.Says.{says}
use Rattle.ddt_wire.specs.Referral.{message_of}
use Rattle.ddt_ecm.specs.Request.{Message}
use Rattle.ddt_node.specs.Server.{HasReply}

-- a locator of some group of the register
abbrev pub IsServer : Register → Locator → Type 0
IsServer r l = (g : Group) × Contains r.groups g × IsTrue (lists g.locators l)

-- a reply that spells the request's nonce and what the register says at a locator of the request's identifier
abbrev pub IsHonestReply : Register → Locator → Message → Option (List ℕ) → Type 0
IsHonestReply r l m reply = HasReply reply (message_of m.nonce (says r l (xeid_path m.xeid)))
