-- How an xTR is known (RFC 9301, section 5.6).
use Rattle.std.specs.Prelude.{Bool, true, false, ◌==◌, ◌&&◌, Option, Some, None}
use Rattle.ddt_path.specs.declared.locator.Locator.{Locator}
use Rattle.ddt_path.specs.Locators.{is_same_locator}
use Rattle.ddt_map_register.specs.declared.map_register.XtrId.{XtrId}
use Rattle.ddt_registrar.specs.declared.sender.Sender.{Sender}
use Rattle.ddt_registrar.specs.declared.sender.Sender.TheVariants.{Named, At}

-- one xTR-ID in one site
abbrev pub is_same_xtr : XtrId → XtrId → Bool
is_same_xtr a b = a.xtr == b.xtr && a.site == b.site

-- both messages name one xTR, or neither does
abbrev pub is_same_id : Option XtrId → Option XtrId → Bool
is_same_id (Some a) (Some b) = is_same_xtr a b
is_same_id None None = true
is_same_id (Some a) None = false
is_same_id None (Some b) = false

-- one xTR: of one name, or without a name at one address
abbrev pub is_same_sender : Sender → Sender → Bool
is_same_sender (Named a) (Named b) = is_same_xtr a b
is_same_sender (At a) (At b) = is_same_locator a b
is_same_sender (Named a) (At b) = false
is_same_sender (At a) (Named b) = false

-- the sender of a message with this xTR-ID, from this address
abbrev pub sender_of : Option XtrId → Locator → Sender
sender_of (Some id) source = Named id
sender_of None source = At source
