-- What a Map-Server knows of the sites whose ETRs register (RFC 9301, section 5.6). Moments are in milliseconds.
use Rattle.std.specs.Prelude.{ℕ, Bool, List}
use Rattle.ddt_path.specs.declared.locator.Locator.{Locator}
use Rattle.ddt_foreign.specs.declared.order.Ranked.{Ranked}
use Rattle.ddt_registrar.specs.declared.key.Replay.{Replay}
use Rattle.ddt_registrar.specs.declared.sender.Sender.{Sender}
use Rattle.ddt_registrar.specs.declared.registration.LastNonce.{LastNonce}

-- a secret of a site: its Key ID, its Algorithm ID, and whether nonces have to increase
pub record Key : Type 0 where
  pub id : ℕ
  pub algorithm : ℕ
  pub secret : List ℕ
  pub replay : Replay

-- the ETRs that an xTR has registered under the key of a Key ID and an Algorithm ID, until a deadline
pub record Registration : Type 0 where
  pub sender : Sender
  pub key_id : ℕ
  pub algorithm : ℕ
  pub etrs : List Ranked
  pub deadline : ℕ

-- a site with its keys, the ETRs that its configuration names, what is registered, and the last nonces
pub record Site : Type 0 where
  pub prefix : List ℕ
  pub keys : List Key
  pub configured : List Locator
  pub falls_back : Bool
  pub has_registered : Bool
  pub live : List Registration
  pub nonces : List LastNonce
