-- What a Map-Register and the clock change of what is registered, and what they never change (RFC 9301, section 5.6).
use Rattle.std.specs.Prelude.{ℕ, ◌<◌, ◌≤◌, ◌≡◌, ◌↔◌, true, false, List, map, Some, slice_get, Contains, Ok, Err}
use Rattle.ddt_config.specs.Shaped.{have_own_prefixes}
use Rattle.ddt_map_register.specs.MapRegister.{Message}
use Rattle.ddt_map_register.specs.RegisterRecord.{RegisterRecord}
use Rattle.ddt_registrar.specs.declared.key.Replay.TheVariants.{Increasing}
use Rattle.ddt_registrar.specs.declared.sender.Sender.{Sender}
use Rattle.ddt_registrar.specs.declared.registration.LastNonce.{LastNonce}
use Rattle.ddt_registrar.specs.declared.refusal.Refusal.{Refusal}
use Rattle.ddt_registrar.specs.Carried.{is_still_key, carried, carried_from}
use Rattle.ddt_registrar.specs.Checks.{key_named, key_of, bears_code, nonce_of, is_fresh, has_room, checked}
use Rattle.ddt_registrar.specs.Registration.{is_of_same_xtr}
use Rattle.ddt_registrar.specs.Sender.{is_same_sender}
use Rattle.ddt_registrar.specs.State.{Key, Registration, Site}
use Rattle.ddt_registrar.specs.Taking.{site_after, after_all, site_at}

-- a message is refused
abbrev pub IsRefused : Message → Sender → List Site → Type 0
IsRefused m x sites = (why : Refusal) × (checked m x sites ≡ Err why)

-- a key is the one that a message names, and the message bears its code under the secret
pub record IsUnder (k : Key) (m : Message) : Type 0 where
  pub id : k.id ≡ m.head.key_id
  pub algorithm : k.algorithm ≡ m.head.algorithm
  pub authentic : bears_code k.secret m ≡ true

-- a record may be registered: the key that the message names at its site is one under which it is authentic and no
-- replay, and there is room
pub record MayRegister (m : Message) (x : Sender) (sites : List Site) (r : RegisterRecord) : Type 0 where
  pub site : Site
  pub key : Key
  pub is_kept : Contains sites site
  pub of_prefix : site.prefix ≡ r.prefix
  pub named : key_of m.head site.keys ≡ Some key
  pub of_site : Contains site.keys key
  pub under : IsUnder key m
  pub fresh : is_fresh key.replay (nonce_of m) site.nonces ≡ true
  pub room : has_room key.replay m r x site ≡ true

-- ---- which messages are taken

-- A message is taken only if each of its records may be registered.
abbrev pub MessagesAreTakenWhole : Type 0
MessagesAreTakenWhole = (m : Message) (x : Sender) (sites : List Site) (key : Key) → checked m x sites ≡ Ok key
    → (r : RegisterRecord) → Contains m.records r → MayRegister m x sites r

-- A message is refused where no key of one of the sites that it names makes it authentic.
abbrev pub UnauthenticIsRefused : Type 0
UnauthenticIsRefused = (m : Message) (x : Sender) (sites : List Site) (r : RegisterRecord) → Contains m.records r
    → ((s : Site) (k : Key) → Contains sites s → s.prefix ≡ r.prefix → Contains s.keys k → IsUnder k m → ⊥)
    → IsRefused m x sites

-- A message is refused where the site of one of its records has seen its nonce or a later one of the same xTR, and the
-- nonces of the key that it names have to increase there.
abbrev pub ReplaysAreRefused : Type 0
ReplaysAreRefused = (m : Message) (x : Sender) (sites : List Site) (r : RegisterRecord) (s : Site) (last : LastNonce)
    → have_own_prefixes (λ s. s.prefix) sites ≡ true → Contains m.records r → Contains sites s → s.prefix ≡ r.prefix
    → ((k : Key) → Contains s.keys k → IsUnder k m → k.replay ≡ Increasing)
    → Contains s.nonces last → is_of_same_xtr last (nonce_of m) ≡ true → m.head.nonce ≤ last.nonce
    → IsRefused m x sites

-- A message that was taken is refused when it comes again, whoever sends it, where the nonces of the key that it names
-- have to increase.
abbrev pub NoMessageIsTakenTwice : Type 0
NoMessageIsTakenTwice = (now : ℕ) (m : Message) (x y : Sender) (sites : List Site) (key : Key) (r : RegisterRecord)
    → have_own_prefixes (λ s. s.prefix) sites ≡ true → checked m x sites ≡ Ok key → Contains m.records r
    → ((s : Site) (k : Key) → Contains sites s → s.prefix ≡ r.prefix → Contains s.keys k → IsUnder k m
    → k.replay ≡ Increasing)
    → IsRefused m y (after_all now m x m.records sites)

-- ---- what changes

-- A site stays as it is after a message that is taken, where none of the site's own keys makes the message authentic.
abbrev pub OnlyUnderItsOwnKey : Type 0
OnlyUnderItsOwnKey = (now : ℕ) (m : Message) (x : Sender) (sites : List Site) (key : Key) (n : ℕ) (s : Site)
    → have_own_prefixes (λ s. s.prefix) sites ≡ true → checked m x sites ≡ Ok key → slice_get sites n ≡ Some s
    → ((k : Key) → Contains s.keys k → IsUnder k m → ⊥)
    → slice_get (after_all now m x m.records sites) n ≡ Some s

-- After a record, what other xTRs have registered is still there.
abbrev pub OthersStayRegistered : Type 0
OthersStayRegistered = (now : ℕ) (m : Message) (x : Sender) (r : RegisterRecord) (s : Site) (g : Registration)
    → Contains s.live g → is_same_sender g.sender x ≡ false → Contains (site_after now m x r s).live g

-- After a record, the nonce of the message is known where the nonces of the key that it names have to increase, and
-- those of other xTRs and keys still are.
pub record NoNonceIsForgotten (now : ℕ) (m : Message) (x : Sender) (r : RegisterRecord) (s : Site) : Type 0 where
  pub last : (k : Key) → key_of m.head s.keys ≡ Some k → k.replay ≡ Increasing
      → Contains (site_after now m x r s).nonces (nonce_of m)
  pub others : (n : LastNonce) → Contains s.nonces n → is_of_same_xtr n (nonce_of m) ≡ false
      → Contains (site_after now m x r s).nonces n

-- At a moment, what is registered is what was, but for that whose deadline has come.
abbrev pub WhatIsOverIsGone : Type 0
WhatIsOverIsGone = (now : ℕ) (s : Site) (g : Registration)
    → Contains (site_at now s).live g ↔ (Contains s.live g × (now < g.deadline))

-- No message and no moment changes which sites there are, or their keys.
pub record KeysStay (sites later : List Site) : Type 0 where
  pub prefixes : map (λ s. s.prefix) later ≡ map (λ s. s.prefix) sites
  pub keys : map (λ s. s.keys) later ≡ map (λ s. s.keys) sites
  pub configured : map (λ s. s.configured) later ≡ map (λ s. s.configured) sites
  pub fall_back : map (λ s. s.falls_back) later ≡ map (λ s. s.falls_back) sites

-- ---- what is carried over

-- A message that was taken is refused when it comes again after the sites were read anew, whoever sends it, where the
-- nonces of the key that it names had to increase and have to.
abbrev pub NoMessageIsTakenAfterReload : Type 0
NoMessageIsTakenAfterReload = (now : ℕ) (m : Message) (x y : Sender) (before sites : List Site) (key : Key) (r : RegisterRecord)
    → have_own_prefixes (λ s. s.prefix) before ≡ true → checked m x before ≡ Ok key → Contains m.records r
    → ((s : Site) (k : Key) → Contains before s → s.prefix ≡ r.prefix → Contains s.keys k → IsUnder k m
    → k.replay ≡ Increasing)
    → ((s : Site) (k : Key) → Contains sites s → s.prefix ≡ r.prefix → Contains s.keys k → IsUnder k m
    → k.replay ≡ Increasing)
    → IsRefused m y (map (carried_from (after_all now m x m.records before)) sites)

-- A registration of before goes on if and only if the key of before that its message named is still the same.
abbrev pub RevokedKeysEnd : Type 0
RevokedKeysEnd = (b s : Site) (g : Registration) (k : Key) → key_named g.key_id g.algorithm b.keys ≡ Some k
    → Contains (carried b s).live g ↔ (Contains b.live g × (is_still_key s.keys k ≡ true))
