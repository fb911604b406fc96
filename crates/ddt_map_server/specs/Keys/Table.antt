-- Which TOML table stands for which keys. The table's form is this project's own. The tables are examined from first to
-- last, in each the members in the order `prefix`, `accept_more_specifics`, `id`, `algorithm`, the secret, `replay`,
-- `static_etrs`, and the first fault decides.
use Rattle.std.specs.Prelude.{◌==◌, ◌||◌, nat_lt, ℕ, ℤ, pos, negsuc, Bool, true, false, if◌then◌else◌, codes, List, [], ◌∷◌, length, Option, None, Some, Result, Ok, Err}
use Rattle.std.specs.Option.{option_map}
use Rattle.std.specs.Result.{result_ok}
use Rattle.std.specs.Str.{bytes_eq}
use Rattle.toml.specs.Data.{Data, Items, no_items, item, Members, get_member, as_str, as_integer, as_bool, as_array, as_table}
use Rattle.toml.specs.Parse.{parse_document}
use Rattle.hex.specs.Hex.{decode_of}
use Rattle.ddt_path.specs.Steps.{◌>>=◌}
use Rattle.ddt_text.specs.FirstFault.{prefix_in}
use Rattle.ddt_registrar.specs.declared.key.Replay.{Replay}
use Rattle.ddt_registrar.specs.declared.key.Replay.TheVariants.{Increasing, Any}
use Rattle.ddt_map_server.specs.declared.keys.fault.Member.{Member}
use Rattle.ddt_map_server.specs.declared.keys.fault.Member.TheVariants as member
use Rattle.ddt_map_server.specs.declared.keys.fault.KeysFault.{KeysFault}
use Rattle.ddt_map_server.specs.declared.keys.fault.KeysFault.TheVariants.{Toml, Field, Value, Secrets}
use Rattle.ddt_map_server.specs.declared.keys.site_key.SiteKey.{SiteKey}

-- the words of the text
abbrev pub member_text : Member → List ℕ
member_text member.Key = codes "key"
member_text member.Prefix = codes "prefix"
member_text member.AcceptMoreSpecifics = codes "accept_more_specifics"
member_text member.Id = codes "id"
member_text member.Algorithm = codes "algorithm"
member_text member.Secret = codes "secret"
member_text member.SecretHex = codes "secret_hex"
member_text member.Replay = codes "replay"
member_text member.StaticEtrs = codes "static_etrs"

-- a list examined from first to last
abbrev pub each : {A B : Type 0} → (A → Result B KeysFault) → List A → Result (List B) KeysFault
each examine [] = Ok []
each examine (a ∷ rest) = examine a >>= λ b. each examine rest >>= λ bs. Ok (b ∷ bs)

-- a value of the kind that the member asks for
abbrev pub of_kind : {A : Type 0} → Member → Option A → Result A KeysFault
of_kind m None = Err (Field m)
of_kind m (Some a) = Ok a

-- a value of the form that the member asks for
abbrev pub of_form : {A : Type 0} → Member → Option A → Result A KeysFault
of_form m None = Err (Value m)
of_form m (Some a) = Ok a

-- the values of an array
abbrev pub listed : Items → List Data
listed no_items = []
listed (item d ds) = d ∷ listed ds

-- what a value is; a value of another kind is the fault Field of the member
abbrev pub array_of : Member → Data → Result (List Data) KeysFault
array_of m d = of_kind m (option_map listed (as_array d))

abbrev pub table_of : Member → Data → Result Members KeysFault
table_of m d = of_kind m (as_table d)

abbrev pub text_of : Member → Data → Result (List ℕ) KeysFault
text_of m d = of_kind m (as_str d)

-- the text at a member that must be there
abbrev pub text_at : Member → Members → Result (List ℕ) KeysFault
text_at m ms = of_kind m (get_member (member_text m) ms) >>= text_of m

-- the text at a member, or another where it is missing
abbrev pub text_or : Member → List ℕ → Option Data → Result (List ℕ) KeysFault
text_or m missing None = Ok missing
text_or m missing (Some d) = text_of m d

-- the prefix, as a configuration spells it
abbrev pub path_in : Members → Result (List ℕ) KeysFault
path_in ms = text_at member.Prefix ms >>= λ text. of_form member.Prefix (result_ok (prefix_in text))

-- whether the key is also of the sites inside its prefix: false where the member is missing
abbrev pub accepts_in : Option Data → Result Bool KeysFault
accepts_in None = Ok false
accepts_in (Some d) = of_kind member.AcceptMoreSpecifics (as_bool d)

-- a number from 0 to 255
abbrev pub byte_of : ℤ → Option ℕ
byte_of (pos n) = if nat_lt n 256 then Some n else None
byte_of (negsuc n) = None

-- the Key ID
abbrev pub id_in : Option Data → Result ℕ KeysFault
id_in None = Err (Field member.Id)
id_in (Some d) = of_kind member.Id (as_integer d) >>= λ z. of_form member.Id (byte_of z)

-- The Algorithm ID (RFC 9301, section 12.5): 1 for HMAC-SHA-1-96, 2 for HMAC-SHA-256-128.
abbrev pub algorithm_of : List ℕ → Result ℕ KeysFault
algorithm_of text = if bytes_eq text (codes "sha1") then Ok 1 else if bytes_eq text (codes "sha256") then Ok 2
    else Err (Value member.Algorithm)

abbrev pub algorithm_in : Members → Result ℕ KeysFault
algorithm_in ms = text_at member.Algorithm ms >>= algorithm_of

-- a secret of 1 to 64 bytes
abbrev pub fitting : Member → List ℕ → Result (List ℕ) KeysFault
fitting m secret = if length secret == 0 || nat_lt 64 (length secret) then Err (Value m) else Ok secret

-- the bytes of a text, or those that hexadecimal digits stand for
abbrev pub text_secret_of : Data → Result (List ℕ) KeysFault
text_secret_of d = text_of member.Secret d >>= fitting member.Secret

abbrev pub hex_secret_of : Data → Result (List ℕ) KeysFault
hex_secret_of d = text_of member.SecretHex d >>= λ text. of_form member.SecretHex (result_ok (decode_of text))
    >>= fitting member.SecretHex

-- the secret, at just one of two members
abbrev pub secret_of : Option Data → Option Data → Result (List ℕ) KeysFault
secret_of None None = Err (Field member.Secret)
secret_of None (Some d) = hex_secret_of d
secret_of (Some d) None = text_secret_of d
secret_of (Some d) (Some e) = Err Secrets

abbrev pub secret_in : Members → Result (List ℕ) KeysFault
secret_in ms = secret_of (get_member (member_text member.Secret) ms) (get_member (member_text member.SecretHex) ms)

-- whether nonces have to increase, which they do where nothing is said
abbrev pub replay_of : List ℕ → Result Replay KeysFault
replay_of text = if bytes_eq text (codes "increasing") then Ok Increasing
    else if bytes_eq text (codes "any") then Ok Any else Err (Value member.Replay)

abbrev pub replay_in : Members → Result Replay KeysFault
replay_in ms = text_or member.Replay (codes "increasing") (get_member (member_text member.Replay) ms) >>= replay_of

-- whether the configured ETRs are used again after the last registration, which they aren't where nothing is said
abbrev pub falls_back_of : List ℕ → Result Bool KeysFault
falls_back_of text = if bytes_eq text (codes "until_registered") then Ok false
    else if bytes_eq text (codes "fallback") then Ok true else Err (Value member.StaticEtrs)

abbrev pub falls_back_in : Members → Result Bool KeysFault
falls_back_in ms = text_or member.StaticEtrs (codes "until_registered")
    (get_member (member_text member.StaticEtrs) ms) >>= falls_back_of

-- the key that a table stands for, or its first fault
unfoldable pub site_key_in : Members → Result SiteKey KeysFault
site_key_in ms = do
  prefix ← path_in ms
  accepts ← accepts_in (get_member (member_text member.AcceptMoreSpecifics) ms)
  id ← id_in (get_member (member_text member.Id) ms)
  algorithm ← algorithm_in ms
  secret ← secret_in ms
  replay ← replay_in ms
  falls_back ← falls_back_in ms
  Ok (record {
    prefix = prefix;
    accepts_more_specifics = accepts;
    key = record { id = id; algorithm = algorithm; secret = secret; replay = replay };
    falls_back = falls_back;
  })

-- the key that a value of the array stands for, which has to be a table
abbrev pub entry_of : Data → Result SiteKey KeysFault
entry_of d = table_of member.Key d >>= site_key_in

-- the keys that a table stands for, or the first fault; the member `key` must be there
abbrev pub keys_in : Members → Result (List SiteKey) KeysFault
keys_in ms = of_kind member.Key (get_member (member_text member.Key) ms) >>= array_of member.Key >>= each entry_of

-- the same of a text, as TOML reads it
abbrev pub keys_in_document : Option Members → Result (List SiteKey) KeysFault
keys_in_document None = Err Toml
keys_in_document (Some ms) = keys_in ms

-- the keys that a text stands for, or its first fault: Toml where the text is no TOML
abbrev pub keys_in_text : List ℕ → Result (List SiteKey) KeysFault
keys_in_text text = keys_in_document (parse_document text)
