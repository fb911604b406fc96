-- Which locators can't be reached from elsewhere: the unspecified one, and those of a host, of a link and of a group of
-- receivers (RFC 6890 lists the blocks).
use Rattle.std.specs.Prelude.{ℕ, ◌-◌, ◌/◌, ◌^◌, Bool, true, false, ◌==◌, not, if◌then◌else◌, List, codes, Option, None, Some}
use Rattle.std.specs.List.{list_all}
use Rattle.ddt_path.specs.declared.locator.Locator.{Locator}
use Rattle.ddt_path.specs.declared.locator.Locator.TheVariants.{V4, V6}
use Rattle.ddt_register.specs.declared.register.Register.{Register}
use Rattle.ddt_review.specs.declared.warnings.unreachable_locators.UnreachableReason.{UnreachableReason}
use Rattle.ddt_review.specs.declared.warnings.unreachable_locators.UnreachableReason.TheVariants.{Unspecified, Loopback, LinkLocal, Multicast, Broadcast}

-- 0.0.0.0, 127.0.0.0/8, 169.254.0.0/16, 224.0.0.0/4 and 255.255.255.255
abbrev pub reach4 : ℕ → Option UnreachableReason
reach4 a = if a == 0 then Some Unspecified else if a / 2 ^ 24 == 127 then Some Loopback else
    if a / 2 ^ 16 == 43518 then Some LinkLocal else if a / 2 ^ 28 == 14 then Some Multicast else
    if a == 2 ^ 32 - 1 then Some Broadcast else None

-- ::, ::1, fe80::/10 and ff00::/8
abbrev pub reach6 : ℕ → Option UnreachableReason
reach6 a = if a == 0 then Some Unspecified else if a == 1 then Some Loopback else
    if a / 2 ^ 118 == 1018 then Some LinkLocal else if a / 2 ^ 120 == 255 then Some Multicast else None

-- why a locator can't be reached from elsewhere; none of one that can
abbrev pub unreachable_reason : Locator → Option UnreachableReason
unreachable_reason (V4 a) = reach4 a
unreachable_reason (V6 a) = reach6 a

-- why a locator can't be reached, as printed
abbrev pub reach_text : UnreachableReason → List ℕ
reach_text Unspecified = codes "unspecified"
reach_text Loopback = codes "loopback"
reach_text LinkLocal = codes "link-local"
reach_text Multicast = codes "multicast"
reach_text Broadcast = codes "broadcast"

-- an address of the own host: 127.0.0.0/8, or ::1
abbrev pub is_loopback : Option UnreachableReason → Bool
is_loopback None = false
is_loopback (Some Unspecified) = false
is_loopback (Some Loopback) = true
is_loopback (Some LinkLocal) = false
is_loopback (Some Multicast) = false
is_loopback (Some Broadcast) = false

-- a rig on one host: each locator of each group is a loopback one
abbrev pub is_on_loopback : Register → Bool
is_on_loopback r = list_all (λ g. list_all (λ l. is_loopback (unreachable_reason l)) g.locators) r.groups

-- what can't be reached, except for loopback addresses in a register wholly on the loopback
abbrev pub is_out_of_reach : Bool → Option UnreachableReason → Bool
is_out_of_reach rig None = false
is_out_of_reach rig (Some Unspecified) = true
is_out_of_reach rig (Some Loopback) = not rig
is_out_of_reach rig (Some LinkLocal) = true
is_out_of_reach rig (Some Multicast) = true
is_out_of_reach rig (Some Broadcast) = true

-- a locator of the register that can't be reached from elsewhere
abbrev pub is_unreachable : Register → Locator → Bool
is_unreachable r l = is_out_of_reach (is_on_loopback r) (unreachable_reason l)
