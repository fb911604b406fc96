-- Which Map-Registers are taken (RFC 9301, section 5.6), and why others are not.
use Rattle.std.specs.Prelude.{ℕ, Bool, true, false, ◌==◌, ◌&&◌, ◌||◌, not, nat_lt, nat_le, if◌then◌else◌, List, [], ◌∷◌, length, find, Option, Some, None, Result, Ok, Err}
use Rattle.std.specs.List.{list_all, list_any}
use Rattle.std.specs.Option.{unwrap_or, option_map_or}
use Rattle.ddt_path.specs.Covers.{is_same_path}
use Rattle.ddt_path.specs.Locators.{most_locators}
use Rattle.ddt_path.specs.Steps.{◌>>=◌}
use Rattle.ddt_map_register.specs.declared.register_head.RegisterHead.{RegisterHead}
use Rattle.ddt_map_register.specs.Authentic.{is_known, code_of}
use Rattle.ddt_map_register.specs.MapRegister.{Message}
use Rattle.ddt_map_register.specs.RegisterRecord.{RegisterRecord}
use Rattle.ddt_registrar.specs.declared.key.Replay.{Replay}
use Rattle.ddt_registrar.specs.declared.key.Replay.TheVariants.{Increasing, Any}
use Rattle.ddt_registrar.specs.declared.sender.Sender.{Sender}
use Rattle.ddt_registrar.specs.declared.registration.LastNonce.{LastNonce}
use Rattle.ddt_registrar.specs.declared.refusal.Refusal.{Refusal}
use Rattle.ddt_registrar.specs.declared.refusal.Refusal.TheVariants.{NoRecord, NoSite, NoKey, WrongCode, Replayed, TooMany}
use Rattle.ddt_registrar.specs.Registration.{etrs_in, is_of_same_xtr}
use Rattle.ddt_registrar.specs.Sender.{is_same_sender}
use Rattle.ddt_registrar.specs.State.{Key, Site}

-- how many xTRs register for a site at most
abbrev pub most_xtrs : ℕ
most_xtrs = 8

-- how many last nonces are known of a site at most
abbrev pub most_nonces : ℕ
most_nonces = 32

-- the first key of a Key ID and an Algorithm ID
abbrev pub key_named : ℕ → ℕ → List Key → Option Key
key_named id algorithm = find (λ k. k.id == id && k.algorithm == algorithm)

-- the key that a message names
abbrev pub key_of : RegisterHead → List Key → Option Key
key_of head = key_named head.key_id head.algorithm

-- the message bears its code under the secret
abbrev pub bears_code : List ℕ → Message → Bool
bears_code secret m =
    is_known m.head.algorithm m.head.code_len
    && is_same_path (code_of m.head.algorithm m.head.code_len secret m.covered) m.code

-- the nonce of a message, as it is remembered
abbrev pub nonce_of : Message → LastNonce
nonce_of m = record {
  key_id = m.head.key_id;
  algorithm = m.head.algorithm;
  xtr = m.id;
  nonce = m.head.nonce;
}

-- it is above the last one of the same xTR under the same key
abbrev pub is_above : LastNonce → LastNonce → Bool
is_above new old = not (is_of_same_xtr old new) || nat_lt old.nonce new.nonce

-- nonces have to increase
abbrev pub is_increasing : Replay → Bool
is_increasing Increasing = true
is_increasing Any = false

-- the nonce of a message is remembered: the key that it names is one whose nonces have to increase
abbrev pub is_remembered : RegisterHead → List Key → Bool
is_remembered head keys = option_map_or (λ k. is_increasing k.replay) (key_of head keys) false

-- nonces have to increase under a key that says so
abbrev pub is_fresh : Replay → LastNonce → List LastNonce → Bool
is_fresh Increasing new nonces = list_all (is_above new) nonces
is_fresh Any new nonces = true

-- one of the items is the same, or there is room for one more
abbrev pub has_place : {A : Type 0} → (A → Bool) → ℕ → List A → Bool
has_place same most items = list_any same items || nat_lt (length items) most

-- there is room for a nonce: under a key of any nonce none is remembered
abbrev pub has_nonce_room : Replay → LastNonce → List LastNonce → Bool
has_nonce_room Increasing new nonces = has_place (λ old. is_of_same_xtr old new) most_nonces nonces
has_nonce_room Any new nonces = true

-- the record has eight ETRs at most, and its xTR is known or there is room for it
abbrev pub has_room : Replay → Message → RegisterRecord → Sender → Site → Bool
has_room replay m r x s =
    nat_le (length (etrs_in r)) most_locators
    && has_place (λ g. is_same_sender g.sender x) most_xtrs s.live
    && has_nonce_room replay (nonce_of m) s.nonces

-- the key under which a record of a site may be registered, or why it may not
abbrev pub checked_under : Message → RegisterRecord → Sender → Site → Option Key → Result Key Refusal
checked_under m r x s None = Err NoKey
checked_under m r x s (Some k) =
    if not (bears_code k.secret m) then Err WrongCode
    else if not (is_fresh k.replay (nonce_of m) s.nonces) then Err Replayed
    else if not (has_room k.replay m r x s) then Err TooMany
    else Ok k

-- the site of a record
abbrev pub site_of : RegisterRecord → List Site → Option Site
site_of r = find (λ s. is_same_path s.prefix r.prefix)

-- the same of a site that is to be found
abbrev pub checked_at : Message → RegisterRecord → Sender → Option Site → Result Key Refusal
checked_at m r x None = Err NoSite
checked_at m r x (Some s) = checked_under m r x s (key_of m.head s.keys)

-- the key of the first record, where each of these may be registered; or the first refusal
abbrev pub checked_from : Message → Sender → List Site → List RegisterRecord → Option Key → Result Key Refusal
checked_from m x sites [] None = Err NoRecord
checked_from m x sites [] (Some first) = Ok first
checked_from m x sites (r ∷ others) first =
    checked_at m r x (site_of r sites) >>= λ key. checked_from m x sites others (Some (unwrap_or first key))

-- The key under which a message is taken, that of its first record, or why it isn't: each of its records has to be one
-- that may be registered.
abbrev pub checked : Message → Sender → List Site → Result Key Refusal
checked m x sites = checked_from m x sites m.records None
