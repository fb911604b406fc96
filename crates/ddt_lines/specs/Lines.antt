-- The lines that the program prints: an outcome, a register that is accepted, a Map-Referral, a negative Map-Reply, a
-- hop of a lookup, an encapsulated Map-Request.
use Rattle.std.specs.Prelude.{ℕ, Bool, true, false, List, ◌++◌, codes, decimal}
use Rattle.std.specs.List.{flat_map}
use Rattle.std.specs.Int.{w64, to_be_bytes}
use Rattle.hex.specs.Hex.{encode_lower}
use Rattle.ddt_path.specs.declared.locator.Locator.{Locator}
use Rattle.ddt_path.specs.declared.record.Outcome.{Outcome}
use Rattle.ddt_path.specs.declared.record.Outcome.TheVariants.{Registered, NotRegistered, Hole}
use Rattle.ddt_path.specs.Actions as action
use Rattle.ddt_text.specs.Written.{written_locator, written_prefix, written_xeid}
use Rattle.ddt_wire.specs.declared.negative_reply.NegativeReply.{NegativeReply}
use Rattle.ddt_wire.specs.Referral as referral
use Rattle.ddt_ecm.specs.Request as request

-- a line and its end
abbrev pub ended : List ℕ → List ℕ
ended line = line ++ codes "\n"

-- each locator behind a blank
abbrev pub spaced : List Locator → List ℕ
spaced locators = flat_map (λ l. codes " " ++ written_locator l) locators

-- the word of an outcome, and its XEID-prefix; behind them the locators of the Map-Servers, unless it is a hole
abbrev pub outcome_text : Outcome → List ℕ
outcome_text (Registered prefix servers) = codes "registered " ++ written_prefix prefix ++ spaced servers
outcome_text (NotRegistered prefix servers) = codes "not-registered " ++ written_prefix prefix ++ spaced servers
outcome_text (Hole prefix) = codes "hole " ++ written_prefix prefix

-- so many zones, sites and groups
abbrev pub counts_text : ℕ → ℕ → ℕ → List ℕ
counts_text zones sites groups =
    codes "accepted " ++ decimal zones ++ codes " zones " ++ decimal sites ++ codes " sites " ++ decimal groups
    ++ codes " groups"

-- sixteen digits
unfoldable pub nonce_text : ℕ → List ℕ
nonce_text nonce = encode_lower (to_be_bytes w64 nonce)

-- whether a Map-Referral has the Incomplete bit, with a blank in front
abbrev pub whole_text : Bool → List ℕ
whole_text true = codes " incomplete"
whole_text false = codes " complete"

-- a Map-Referral: nonce, action, XEID-prefix, TTL in minutes, Incomplete bit, and the locators of its referral set
abbrev pub referral_text : referral.Message → List ℕ
referral_text v =
    codes "referral nonce " ++ nonce_text v.nonce ++ codes " " ++ action.name v.action ++ codes " "
    ++ written_prefix v.prefix
    ++ codes " ttl " ++ decimal v.ttl ++ whole_text v.incomplete ++ spaced v.locators

-- a negative Map-Reply: nonce, XEID-prefix, and TTL in minutes
abbrev pub reply_text : NegativeReply → List ℕ
reply_text v =
    codes "negative nonce " ++ nonce_text v.nonce ++ codes " " ++ written_prefix v.prefix ++ codes " ttl "
    ++ decimal v.ttl

-- a server that was asked, and what its Map-Referral says: action, prefix, minutes, locators
abbrev pub hop_text : Locator → referral.Message → List ℕ
hop_text to v =
    written_locator to ++ codes " " ++ action.name v.action ++ codes " " ++ written_prefix v.prefix ++ codes " "
    ++ decimal v.ttl ++ spaced v.locators

-- a DDT client or an ITR asks
abbrev pub client_text : Bool → List ℕ
client_text true = codes " ddt "
client_text false = codes " plain "

-- an encapsulated Map-Request: nonce, whether it has the bit D, XEID, inner source port, and all its ITR-RLOCs
abbrev pub request_text : request.Message → List ℕ
request_text v =
    codes "request nonce " ++ nonce_text v.nonce ++ client_text v.ddt ++ written_xeid v.xeid
    ++ codes " port " ++ decimal v.port ++ codes " itr" ++ spaced v.rlocs
