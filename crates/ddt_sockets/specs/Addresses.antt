-- Locators as the addresses of the system's sockets.
use Rattle.std.specs.declared.net.ip_addr.IpAddr.{IpAddr}
use Rattle.std.specs.declared.net.ip_addr.IpAddr.TheVariants as ip
use Rattle.std.specs.Net.Addr.{ipv4_bits, ipv6_bits, IsIpv4OfBits, IsIpv6OfBits}
use Rattle.ddt_path.specs.declared.locator.Locator.{Locator}
use Rattle.ddt_path.specs.declared.locator.Locator.TheVariants.{V4, V6}

-- the locator at an address: its bits, the first byte the most significant
abbrev pub locator_at : IpAddr → Locator
locator_at (ip.V4 a) = V4 (ipv4_bits a)
locator_at (ip.V6 a) = V6 (ipv6_bits a)

-- the address of a locator: of its family, with its bits
abbrev pub IsAddressOf : IpAddr → Locator → Type 0
IsAddressOf (ip.V4 a) (V4 bits) = IsIpv4OfBits a bits
IsAddressOf (ip.V6 a) (V6 bits) = IsIpv6OfBits a bits
IsAddressOf a l = ⊥
