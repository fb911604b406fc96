-- What is written spells the value.
use Rattle.std.proofs.Common.{◌≡◌, ℕ, zero, suc, ◌+◌, ◌*◌, ◌/◌, ◌%◌, ◌^◌, ◌<◌, List, [], ◌∷◌, length, take, All, refl, sym, ap, ◌∙◌, subst, arith, inl, inr, eq-eqb, ne_eqb}
use Rattle.std.specs.Int.{w32, w128, to_be_bytes, from_be_bytes}
use Rattle.std.specs.declared.net.ipv4_addr.Ipv4Addr.{Ipv4Addr}
use Rattle.std.specs.declared.net.ipv6_addr.Ipv6Addr.{Ipv6Addr}
use Rattle.std.specs.declared.net.display.HexGroups.{HexGroups}
use Rattle.std.specs.Net.Addr.{octets_of, segments_of, ipv4_octets, ipv6_segments, IsIpv4OfBits, IsIpv6OfBits}
use Rattle.std.specs.Net.Text.{ipv4_text, hex_groups_text, hex_groups_addr}
use Rattle.std.proofs.lemmas.Bool.{cases_eq}
use Rattle.std.proofs.lemmas.Nat.{from_be_bytes-to_be_bytes_4}
use Rattle.std.proofs.NetLemmas.Alphabet.{IsHexOrColon, All-hex_groups_text}
use Rattle.std.proofs.NetLemmas.Texts.{AllSegments, IsDotted-ipv4_text, IsColonHex-hex_groups_text}
use Rattle.ddt_path.specs.declared.locator.Locator.{Locator}
use Rattle.ddt_path.specs.declared.locator.Locator.TheVariants.{V4, V6}
use Rattle.ddt_path.specs.declared.xeid.Xeid.{Xeid}
use Rattle.ddt_path.specs.declared.form.Form.{Form}
use Rattle.ddt_path.specs.declared.form.Form.TheVariants.{Range, Block}
use Rattle.ddt_path.specs.Path.{path as path_of, IsForm, digits, address_number, address_width}
use Rattle.ddt_path.specs.FormOf.{form_of}
use Rattle.ddt_path.specs.FormLemmas.{form_of-path}
use Rattle.ddt_path.specs.laws.Prefix.{prefix_of-made}
use Rattle.ddt_text.specs.Grammar.{SpellsLocator, SpellsXeid, SpellsPrefix}
use Rattle.ddt_text.specs.Written.{written_locator, written_xeid, written_form, written_prefix}
use Rattle.ddt_path.specs.Steps.{IsBytes}
use Rattle.ddt_path.specs.laws.Byte.{IsBytes-number, from_16_bytes}
use Rattle.ddt_text.specs.laws.Byte.{Lacks}
use Rattle.ddt_text.specs.laws.Address.{colon_hex-narrower}

segments_fit : (bs : List ℕ) → IsBytes bs → AllSegments (segments_of bs)
segments_fit [] h k = omega arith
segments_fit (a ∷ []) h k = omega arith
segments_fit (a ∷ b ∷ bs) h zero = omega (arith, h.at 0, h.at 1)
segments_fit (a ∷ b ∷ bs) h (suc k) = segments_fit bs (record { at = λ i. h.at (suc (suc i)) }) k

-- sixteen bytes through eight segments
restored : (k : ℕ) (bs : List ℕ) → length bs ≡ k + k → IsBytes bs → octets_of (segments_of bs) ≡ bs
restored k [] l h = refl
restored k (a ∷ []) l h = absurd (omega arith)
restored zero (a ∷ b ∷ bs) l h = absurd (omega arith)
restored (suc k) (a ∷ b ∷ bs) l h =
    let high : (a * 256 + b) / 256 ≡ a = omega (arith, h.at 1) in
    let low : (a * 256 + b) % 256 ≡ b = omega (arith, h.at 1) in
    let rest = restored k bs (omega arith) (record { at = λ i. h.at (suc (suc i)) }) in
    λ i. high i ∷ low i ∷ rest i

-- locators
hex_groups_lack_dot : (text : List ℕ) → All IsHexOrColon text → Lacks 46 text
hex_groups_lack_dot [] h = refl
hex_groups_lack_dot (c ∷ text) h = rw (ne_eqb c 46 (not_dot c (h 0 0 (omega arith)))) (hex_groups_lack_dot text (λ k d l. h (suc k) d (omega arith)))
  where
    not_dot : (c : ℕ) → IsHexOrColon c → c ≡ 46 → ⊥
    not_dot c (inl r) e = omega arith
    not_dot c (inr r) e = omega arith

pub written_locator-spells : (a : Locator) → address_number a < 2 ^ address_width a → SpellsLocator (written_locator a) a
written_locator-spells (V4 n) h =
    let bytes : IsBytes (to_be_bytes w32 n) = IsBytes-number 4 n in
    (to_be_bytes w32 n, IsDotted-ipv4_text (to_be_bytes w32 n) refl bytes.at, sym (from_be_bytes-to_be_bytes_4 n h))
written_locator-spells (V6 n) h =
    let bytes : IsBytes (to_be_bytes w128 n) = IsBytes-number 16 n in
    let groups = segments_of (to_be_bytes w128 n) in
    let fits = segments_fit (to_be_bytes w128 n) bytes in
    let spelled = colon_hex-narrower (hex_groups_text groups) groups (hex_groups_lack_dot (hex_groups_text groups) (All-hex_groups_text groups fits)) (IsColonHex-hex_groups_text groups refl fits) in
    (groups, spelled, sym (ap (from_be_bytes w128) (restored 8 (to_be_bytes w128 n) refl bytes) ∙ from_16_bytes n h))

-- identifiers
pub written_xeid-spells : (x : Xeid) → x.iid < 2 ^ 32 → address_number x.address < 2 ^ address_width x.address → SpellsXeid (written_xeid x) x
written_xeid-spells x fits h = record {
  address_text = written_locator x.address;
  spelled = refl;
  fits = fits;
  address = written_locator-spells x.address h;
}

-- prefixes
written_block-spells : (iid : ℕ) (address : Locator) (len : ℕ) → IsForm (Block iid address len) → SpellsPrefix (written_form (Block iid address len)) (path_of (Block iid address len))
written_block-spells iid address len h = inr (inr (record {
  iid = iid;
  address = address;
  address_text = written_locator address;
  len = len;
  spelled = refl;
  fits = h.0;
  address_spelled = written_locator-spells address h.1;
  value = prefix_of-made (Block iid address len) h.2 h.3;
}))

pub written_form-spells : (form : Form) → IsForm form → SpellsPrefix (written_form form) (path_of form)
written_form-spells (Range iid len) h =
    elim (cases_eq len 0) [
      | inl none ↦ rw (eq-eqb len 0 none) (inl (refl, ap (λ k. take k (digits 32 iid)) none))
      | inr some ↦ rw (ne_eqb len 0 some) (inr (inl (record {
        iid = iid;
        len = len;
        spelled = refl;
        fits = h.0;
        some = omega arith;
        value = prefix_of-made (Range iid len) h.1 h.2;
      })))
    ]
written_form-spells (Block iid address len) h = written_block-spells iid address len h

pub written_prefix-spells : (form : Form) → IsForm form → SpellsPrefix (written_prefix (path_of form)) (path_of form)
written_prefix-spells form h = subst (λ f. SpellsPrefix (written_form f) (path_of form)) (sym (form_of-path form h)) (written_form-spells form h)

-- what std's printing shows
pub shown_v4 : (a : Ipv4Addr) (n : ℕ) (l : Locator) → IsIpv4OfBits a n → l ≡ V4 n → written_locator l ≡ ipv4_text (ipv4_octets a)
unfolding IsIpv4OfBits
shown_v4 a n l bits is = ap written_locator is ∙ ap ipv4_text (sym bits)

pub shown_v6 : (a : Ipv6Addr) (groups : HexGroups) (n : ℕ) (l : Locator) → IsIpv6OfBits a n → hex_groups_addr groups ≡ a → l ≡ V6 n → written_locator l ≡ hex_groups_text (ipv6_segments (hex_groups_addr groups))
unfolding IsIpv6OfBits
shown_v6 a groups n l bits of is = ap written_locator is ∙ ap hex_groups_text (sym (ap ipv6_segments of ∙ bits))

pub shown_prefix : (form : Form) (path : List ℕ) → path_of form ≡ path → IsForm form → written_form form ≡ written_prefix path
shown_prefix form path is h = ap written_form (sym (form_of-path form h) ∙ ap form_of is)

pub ruleset shown = (shown_v4, shown_v6)
