-- What the records of a Map-Register are going to change, with all the memory that it takes.
use Rattle.std.specs.Prelude.{ℕ, ◌≡◌, ◌+◌, ◌<◌, ◌==◌, ◌||◌, not, if◌then◌else◌, List, [], ◌∷◌, length, map, filter, Option}
use Rattle.std.specs.Option.{option_map_or}
use Rattle.std.specs.Vec.{vec_capacity}
use Rattle.ddt_map_register.specs.MapRegister.{Message}
use Rattle.ddt_map_register.specs.RegisterRecord.{RegisterRecord}
use Rattle.ddt_node.specs.laws.Changed.{at_prefix}
use Rattle.ddt_registrar.specs.declared.sender.Sender.{Sender}
use Rattle.ddt_registrar.specs.declared.site_change.SiteChange.{SiteChange}
use Rattle.ddt_registrar.specs.Checks.{site_of}
use Rattle.ddt_registrar.specs.Lists.{put_by}
use Rattle.ddt_registrar.specs.Registration.{is_same_registrant}
use Rattle.ddt_registrar.specs.Sender.{is_same_sender}
use Rattle.ddt_registrar.specs.State.{Site}
use Rattle.ddt_registrar.specs.Taking.{registration_of, nonces_after}

-- how many registrations a site has, if there is one
abbrev pub live_count : Option Site → ℕ
live_count site = option_map_or (λ s. length s.live) site 0

-- how many last nonces are known of it
abbrev pub nonce_count : Option Site → ℕ
nonce_count site = option_map_or (λ s. length s.nonces) site 0

-- The lists of a change are empty, and have room for what the site has, for one item more by each of the records before,
-- and for one item.
pub record HasRoom (site : Option Site) (before : ℕ) (c : SiteChange) : Type 0 where
  pub no_live : c.live.items ≡ []
  pub live_room : live_count site + before < vec_capacity c.live
  pub no_nonces : c.nonces.items ≡ []
  pub nonce_room : nonce_count site + before < vec_capacity c.nonces

-- the change of a site by a record, before which there are as many others
pub record IsPrepared (now : ℕ) (m : Message) (x : Sender) (site : Option Site) (before : ℕ) (r : RegisterRecord)
    (c : SiteChange) : Type 0 where
  pub prefix : c.prefix ≡ r.prefix
  pub withdraws : c.is_withdrawal ≡ (r.ttl == 0)
  pub registers : c.registration ≡ registration_of now m r x
  pub room : HasRoom site before c

-- the changes by these records, before which there are as many others
abbrev pub ArePrepared : ℕ → Message → Sender → List Site → ℕ → List RegisterRecord → List SiteChange → Type 0
ArePrepared now m x sites before [] [] = Unit {0}
ArePrepared now m x sites before [] (c ∷ cs) = ⊥
ArePrepared now m x sites before (r ∷ rs) [] = ⊥
ArePrepared now m x sites before (r ∷ rs) (c ∷ cs) =
    IsPrepared now m x (site_of r sites) before r c × ArePrepared now m x sites (before + 1) rs cs

-- a site after a change that was prepared of a message
abbrev pub site_changed : Message → Sender → SiteChange → Site → Site
site_changed m x c s = record {
  prefix = s.prefix;
  keys = s.keys;
  configured = s.configured;
  falls_back = s.falls_back;
  has_registered = s.has_registered || not c.is_withdrawal;
  live =
      if c.is_withdrawal then filter (λ g. not (is_same_sender g.sender x)) s.live
      else put_by (λ old. is_same_registrant old c.registration) c.registration s.live;
  nonces = nonces_after m s.keys s.nonces;
}

-- all sites after it: that of its prefix has changed
abbrev pub sites_changed : Message → Sender → SiteChange → List Site → List Site
sites_changed m x c = map (at_prefix (λ s. s.prefix) c.prefix (site_changed m x c))
