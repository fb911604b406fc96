-- Whether a Map-Register is authentic under a secret (RFC 9301, section 5.6). No proof says that a code can't be
-- forged: a message is authentic if it bears its own code.
use Rattle.std.specs.Prelude.{ℕ, ◌≡◌, ◌==◌, ◌&&◌, ◌||◌, Bool, true, if◌then◌else◌, List, take}
use Rattle.ddt_map_register.specs.Hmac.Hmac.{hmac_sha256, hmac_sha1}
use Rattle.ddt_map_register.specs.MapRegister.{Message}

-- Algorithm ID 1, HMAC-SHA-1-96, of which some implementations send all 20 bytes
abbrev pub sha1_96 : ℕ
sha1_96 = 1

-- Algorithm ID 2, HMAC-SHA-256-128
abbrev pub sha256_128 : ℕ
sha256_128 = 2

-- the algorithm is known, and has codes of this length
abbrev pub is_known : ℕ → ℕ → Bool
is_known algorithm n =
    (algorithm == sha256_128 && n == 16) || (algorithm == sha1_96 && (n == 12 || n == 20))

-- the code of a message under a secret, cut to this length
abbrev pub code_of : ℕ → ℕ → List ℕ → List ℕ → List ℕ
code_of algorithm n secret message =
    take n (if algorithm == sha256_128 then hmac_sha256 secret message else hmac_sha1 secret message)

-- the message bears its code under the secret
pub record IsAuthentic (secret : List ℕ) (m : Message) : Type 0 where
  pub known : is_known m.head.algorithm m.head.code_len ≡ true
  pub same : code_of m.head.algorithm m.head.code_len secret m.covered ≡ m.code
