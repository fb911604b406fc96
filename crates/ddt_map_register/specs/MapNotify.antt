-- The Map-Notify that acknowledges a Map-Register (RFC 9301, section 5.7). It has no bit I, so neither xTR-ID nor
-- Site-ID.
use Rattle.std.specs.Prelude.{ℕ, ◌≤◌, ◌*◌, List, ◌∷◌, [], ◌++◌, length, replicate}
use Rattle.ddt_map_register.specs.declared.register_head.RegisterHead.{RegisterHead}
use Rattle.ddt_map_register.specs.MapRegister.{Message, SpellsRegister, key_bytes}
use Rattle.ddt_map_register.specs.Authentic.{code_of}

-- the type of a Map-Notify
abbrev pub map_notify : ℕ
map_notify = 4

-- all that comes before its authentication data: its type and zeros, then as in the Map-Register
abbrev pub notify_head : RegisterHead → List ℕ
notify_head h = (map_notify * 16 ∷ 0 ∷ 0 ∷ h.count ∷ []) ++ key_bytes h

-- a Map-Notify of these records, with a code of its own under the secret
abbrev pub notify_of : RegisterHead → List ℕ → List ℕ → List ℕ
notify_of h secret records =
    notify_head h
    ++ code_of h.algorithm h.code_len secret (notify_head h ++ replicate h.code_len 0 ++ records) ++ records

-- the Map-Notify that acknowledges a Map-Register under the secret: it has all its records
abbrev pub notify_to : List ℕ → Message → List ℕ
notify_to secret m = notify_of m.head secret m.record_bytes

-- the Map-Notify is never longer than the Map-Register that it acknowledges
abbrev pub NotifiesAreShort : Type 0
NotifiesAreShort = (bytes secret : List ℕ) (m : Message) → SpellsRegister bytes m
    → length (notify_to secret m) ≤ length bytes
