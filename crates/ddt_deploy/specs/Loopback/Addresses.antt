-- The addresses that servers get on one machine: those of 127.0.0.0/8, which never leave it (RFC 1122, section
-- 3.2.1.3).
use Rattle.std.specs.Prelude.{ℕ, ◌+◌, Bool, false, ◌==◌, ◌&&◌, not, nat_lt, if◌then◌else◌, List, map}
use Rattle.std.specs.List.{range_with_len}
use Rattle.ddt_path.specs.declared.locator.Locator.{Locator}
use Rattle.ddt_path.specs.declared.locator.Locator.TheVariants.{V4, V6}

-- the numbers of 127.0.0.0 and of 127.255.255.255
abbrev pub network : ℕ
network = 2130706432

-- The last address of 127.0.0.0/8, which is for broadcasts and no server's.
abbrev pub broadcast : ℕ
broadcast = 2147483647

-- The number of 127.0.0.53, from which `ddt loop` asks.
abbrev pub resolver : ℕ
resolver = 2130706485

-- an address of 127.0.0.0/8 that may be a server's: not its first, not its last, and not the resolver's
abbrev pub is_server_address : Locator → Bool
is_server_address (V4 a) = (nat_lt network a && nat_lt a broadcast) && not (a == resolver)
is_server_address (V6 a) = false

-- how many locators the groups of an accepted register have at most: 8 in each of 65,535 rows
abbrev pub most_servers : ℕ
most_servers = 524280

-- the address of the server of a number, from 0 on: 127.0.0.1 and on, but for 127.0.0.53
abbrev pub server_address : ℕ → Locator
server_address n = V4 (network + (if nat_lt n 52 then 1 else 2) + n)

-- the addresses of the first n servers
abbrev pub server_addresses : ℕ → List Locator
server_addresses n = map server_address (range_with_len 0 n)
