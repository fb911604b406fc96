-- Sections that are passed over by a length in their head: the signature sections of a record (RFC 8111, section
-- 6.4.1) and the keys in an LCAF of type 11 (RFC 8060, section 4.7).
use Rattle.std.specs.Prelude.{ℕ, zero, suc, ◌+◌, nat_lt, if◌then◌else◌, List, length, drop, Result, Ok, Err}
use Rattle.byteorder.specs.Endian.{big_number}
use Rattle.ddt_path.specs.Steps.{◌>>=◌}
use Rattle.ddt_foreign.specs.declared.fault.ForeignFault.{ForeignFault}
use Rattle.ddt_foreign.specs.declared.fault.ForeignFault.TheVariants.{Short}

-- the bytes after one section, whose head has so many bytes, of which two at this place say how many follow the head
unfoldable pub section_at : ℕ → ℕ → List ℕ → Result (List ℕ) ForeignFault
section_at head place bytes =
    if nat_lt (length bytes) head then Err Short
    else if nat_lt (length bytes) (head + big_number 2 (drop place bytes)) then Err Short
    else Ok (drop (head + big_number 2 (drop place bytes)) bytes)

-- the bytes after so many sections
unfoldable pub sections_at : ℕ → ℕ → ℕ → List ℕ → Result (List ℕ) ForeignFault
sections_at head place zero bytes = Ok bytes
sections_at head place (suc n) bytes = section_at head place bytes >>= sections_at head place n

-- a signature section: original TTL, expiration, inception (4 bytes each), key tag, the length of the signature (2
-- bytes each), its algorithm, three reserved bytes, the signature
abbrev pub signature_head : ℕ
signature_head = 20

-- where its length is
abbrev pub signature_place : ℕ
signature_place = 14

-- a key: the length of its material in two bytes, the material
abbrev pub key_head : ℕ
key_head = 2
