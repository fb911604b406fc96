-- The one text that is written: IPv6 in the form of RFC 5952, section 4, without a dotted part.
use Rattle.std.specs.Prelude.{ℕ, ◌==◌, if◌then◌else◌, List, ◌++◌, codes, decimal}
use Rattle.std.specs.Int.{w32, w128, to_be_bytes}
use Rattle.std.specs.Net.Addr.{segments_of}
use Rattle.std.specs.Net.Text.{ipv4_text, hex_groups_text}
use Rattle.ddt_path.specs.declared.locator.Locator.{Locator}
use Rattle.ddt_path.specs.declared.locator.Locator.TheVariants.{V4, V6}
use Rattle.ddt_path.specs.declared.xeid.Xeid.{Xeid}
use Rattle.ddt_path.specs.declared.form.Form.{Form}
use Rattle.ddt_path.specs.declared.form.Form.TheVariants.{Range, Block}
use Rattle.ddt_path.specs.FormOf.{form_of}

-- Lower-case digits with no leading zero; `::` stands for the longest run of at least two zero groups, and of runs of
-- one length for the first.
abbrev pub written_locator : Locator → List ℕ
written_locator (V4 address) = ipv4_text (to_be_bytes w32 address)
written_locator (V6 address) = hex_groups_text (segments_of (to_be_bytes w128 address))

-- An identifier, as `[7]2001:db8::1`: the Instance ID in decimal without leading zeros, then the address.
abbrev pub written_xeid : Xeid → List ℕ
written_xeid x = codes "[" ++ decimal x.iid ++ codes "]" ++ written_locator x.address

-- A prefix: `*` for everything, which is a range of length 0; else a range, as `[16/28]*`, or a block, as
-- `[0]10.0.0.0/8`.
abbrev pub written_form : Form → List ℕ
written_form (Range iid len) = if len == 0 then codes "*" else codes "[" ++ decimal iid ++ codes "/" ++ decimal len
    ++ codes "]*"
written_form (Block iid address len) = codes "[" ++ decimal iid ++ codes "]" ++ written_locator address ++ codes "/"
    ++ decimal len

-- a prefix is seen as its path, from which its form is read off
abbrev pub written_prefix : List ℕ → List ℕ
written_prefix path = written_form (form_of path)
