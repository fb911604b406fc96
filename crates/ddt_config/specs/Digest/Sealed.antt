-- The seal of a configuration: what is said of it, where that stands in a table, and what a text with it is.
use Rattle.std.specs.Prelude.{◌≡◌, ℕ, pos, Bool, false, ◌||◌, ◌==◌, nat_le, if◌then◌else◌, codes, List, Option, Some, None, is_some, Result, Ok, Err}
use Rattle.std.specs.Str.{bytes_eq}
use Rattle.hex.specs.Hex.{encode_lower, decode_sized}
use Rattle.sha2.specs.Sha256.{sha256}
use Rattle.toml.specs.Data.{Data, string, integer, Members, get_member}
use Rattle.toml.specs.Parse.{parse_document}
use Rattle.toml.specs.Text.{IsDocumentText}
use Rattle.ddt_path.specs.Steps.{◌>>=◌}
use Rattle.ddt_config.specs.Table.{Outline}
use Rattle.ddt_config.specs.Writing.{inserted, written_config}
use Rattle.ddt_config.specs.declared.digest.seal.Seal.{Seal}
use Rattle.ddt_config.specs.declared.digest.fault.Key.{Key}
use Rattle.ddt_config.specs.declared.digest.fault.Key.TheVariants as key
use Rattle.ddt_config.specs.declared.digest.fault.SealFault.{SealFault}
use Rattle.ddt_config.specs.declared.digest.fault.SealFault.TheVariants.{Missing, Value, Count, Digest}
use Rattle.ddt_config.specs.Digest.Counted.{most_count, counts_in}

-- ---- of which configuration a seal is

-- the SHA-256 of the text that is written for the configuration without a seal
abbrev pub IsDigestOf : List ℕ → Outline → Type 0
IsDigestOf digest o = (text : List ℕ) × IsDocumentText false (written_config o) text × (digest ≡ sha256 text)

abbrev pub IsSealOf : Seal → Outline → Type 0
IsSealOf s o = (s.counts ≡ counts_in o) × IsDigestOf s.digest o

-- two counts at a key are the same, else the fault
abbrev pub same_count : Key → ℕ → ℕ → Result (Unit {0}) SealFault
same_count k said found = if said == found then Ok tt else Err (Count k said found)

abbrev pub same_digest : List ℕ → List ℕ → Result (Unit {0}) SealFault
same_digest said found = if bytes_eq said found then Ok tt else Err Digest

-- a seal that is said and that of the configuration are the same, else the first difference
abbrev pub compared : Seal → Seal → Result (Unit {0}) SealFault
compared said own = do
  _ ← same_count key.Authorities said.counts.authorities own.counts.authorities
  _ ← same_count key.Children said.counts.children own.counts.children
  _ ← same_count key.Sites said.counts.sites own.counts.sites
  same_digest said.digest own.digest

-- a seal is said that differs so from that of the configuration
pub record IsOtherSeal (said : Option Seal) (o : Outline) (fault : SealFault) : Type 0 where
  pub seal : Seal
  pub own : Seal
  pub is_said : said ≡ Some seal
  pub is_own : IsSealOf own o
  pub differs : compared seal own ≡ Err fault

-- ---- the keys of a seal in a table

abbrev pub key_text : Key → List ℕ
key_text key.Authorities = codes "authorities"
key_text key.Children = codes "children"
key_text key.Digest = codes "digest"
key_text key.Sites = codes "sites"

-- the count that a value is
abbrev pub count_of : Key → Data → Result ℕ SealFault
count_of k (integer (pos n)) = if nat_le n most_count then Ok n else Err (Value k)
count_of k _ = Err (Value k)

-- a value that must be there
abbrev pub needed : {A : Type 0} → Key → (Data → Result A SealFault) → Option Data → Result A SealFault
needed k read None = Err (Missing k)
needed k read (Some d) = read d

abbrev pub count_at : Key → Members → Result ℕ SealFault
count_at k ms = needed k (count_of k) (get_member (key_text k) ms)

-- bytes in hexadecimal digits
abbrev pub decoded : {E : Type 0} → Result (List ℕ) E → Result (List ℕ) SealFault
decoded (Ok digest) = Ok digest
decoded (Err _) = Err (Value key.Digest)

-- the digest that a value is: a text of 64 hexadecimal digits
abbrev pub digest_of : Data → Result (List ℕ) SealFault
digest_of (string text) = decoded (decode_sized text 32)
digest_of _ = Err (Value key.Digest)

abbrev pub digest_at : Members → Result (List ℕ) SealFault
digest_at ms = needed key.Digest digest_of (get_member (key_text key.Digest) ms)

abbrev pub has_key : Members → Key → Bool
has_key ms k = is_some (get_member (key_text k) ms)

abbrev pub has_seal_key : Members → Bool
has_seal_key ms = has_key ms key.Authorities || has_key ms key.Children || has_key ms key.Digest || has_key ms key.Sites

-- the seal of a table that has all four keys, else the first fault
abbrev pub sealed_in : Members → Result Seal SealFault
sealed_in ms = do
  authorities ← count_at key.Authorities ms
  children ← count_at key.Children ms
  digest ← digest_at ms
  sites ← count_at key.Sites ms
  Ok (record { counts = record { authorities = authorities; children = children; sites = sites }; digest = digest })

-- the same of any table: none where it has no such key
abbrev pub seal_in : Members → Result (Option Seal) SealFault
seal_in ms = if has_seal_key ms then (sealed_in ms >>= λ seal. Ok (Some seal)) else Ok None

-- ---- a text with a seal

-- the members with those of a seal
abbrev pub with_seal : Seal → Members → Members
with_seal s ms =
    let ms = inserted (key_text key.Authorities) (integer (pos s.counts.authorities)) ms in
    let ms = inserted (key_text key.Children) (integer (pos s.counts.children)) ms in
    let ms = inserted (key_text key.Digest) (string (encode_lower s.digest)) ms in
    inserted (key_text key.Sites) (integer (pos s.counts.sites)) ms

-- the text of the configuration's table with its seal
pub record IsSealedText (text : List ℕ) (o : Outline) : Type 0 where
  pub seal : Seal
  pub is_own : IsSealOf seal o
  pub is_text : IsDocumentText false (with_seal seal (written_config o)) text
  pub is_read : parse_document text ≡ Some (with_seal seal (written_config o))
