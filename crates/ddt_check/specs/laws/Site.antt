-- A zone of Map-Servers has no zone below, and covers each site that covers an identifier inside it.
use Rattle.std.proofs.Common.{◌≡◌, ℕ, ◌≤◌, true, false, not, ◌&&◌, List, length, Option, Some, None, refl, sym, ap, ◌∙◌, arith, inl, inr}
use Rattle.std.specs.List.{filter}
use Rattle.std.specs.Option.{option_map_or}
use Rattle.std.proofs.lemmas.Bool.{cases_lt, both_ways, true≢false}
use Rattle.ddt_path.specs.declared.record.Role.{Role}
use Rattle.ddt_path.specs.declared.record.Role.TheVariants.{Node, Ms}
use Rattle.ddt_path.specs.Covers.{covers, is_strictly_below}
use Rattle.ddt_path.specs.Matching.{longest_match}
use Rattle.ddt_path.specs.laws.Cover.{covers_trans, length-covered}
use Rattle.ddt_register.specs.declared.zone.Zone.{Zone}
use Rattle.ddt_register.specs.declared.site.Site.{Site}
use Rattle.ddt_register.specs.declared.register.Register.{Register}
use Rattle.ddt_check.specs.declared.fault.Rule.TheVariants as rules
use Rattle.ddt_check.specs.Zones.{is_ms, zone_of, site_of}
use Rattle.ddt_check.specs.Says.{next_zone}
use Rattle.ddt_check.specs.Rules.{IsAccepted, is_below_map_server, is_outside}
use Rattle.ddt_check.specs.laws.Zone.{zone_prefix, site_prefix}
use Rattle.ddt_check.specs.Zones.{is_site_in}
use Rattle.ddt_path.specs.laws.Member.{IsIn, fails_at}
use Rattle.ddt_register.specs.laws.Rising.{rule_kept}
use Rattle.ddt_path.specs.declared.matches.Preference.TheVariants.{Longest}
use Rattle.ddt_path.specs.laws.Front.{front_covers, front_below}
use Rattle.ddt_check.specs.laws.Next.{next_none}
use Rattle.ddt_path.specs.laws.Matching.{best_member, best_match-filter}

none_below : (r : Register) → IsAccepted r → (p z : Zone) → IsIn p r.zones → p.kind ≡ Ms → IsIn z r.zones → is_strictly_below z.prefix p.prefix ≡ false
none_below r accepted p z j ms k =
    let e = rule_kept (λ (y : Zone). y.row) (is_below_map_server r) r.zones (accepted rules.BelowMapServer) z k in
    ap (λ (role : Role). is_ms role && is_strictly_below z.prefix p.prefix) (sym ms) ∙ fails_at (λ (y : Zone). is_ms y.kind && is_strictly_below z.prefix y.prefix) r.zones p e j

-- two zones that cover a path, the less specific of Map-Servers
pub no_longer_zone : (r : Register) → IsAccepted r → (p z : Zone) (x : List ℕ) → IsIn p r.zones → p.kind ≡ Ms → covers p.prefix x ≡ true → IsIn z r.zones → covers z.prefix x ≡ true → length z.prefix ≤ length p.prefix
no_longer_zone r accepted p z x j ms c k d =
    elim (cases_lt (length p.prefix) (length z.prefix)) [
      | inl lt ↦ absurd (both_ways (is_strictly_below z.prefix p.prefix) (none_below r accepted p z j ms k) (front_below p.prefix z.prefix x c d lt))
      | inr le ↦ le
    ]

pub no_next_zone : (r : Register) → IsAccepted r → (p : Zone) (x : List ℕ) → IsIn p r.zones → p.kind ≡ Ms → covers p.prefix x ≡ true → next_zone r (length p.prefix) x ≡ None
no_next_zone r accepted p x j ms c = next_none r (length p.prefix) x (λ z k d. no_longer_zone r accepted p z x j ms c k d)

-- a site has a zone of Map-Servers
role_is_ms : (role : Role) → not (is_ms role) ≡ false → role ≡ Ms
role_is_ms Node e = absurd (true≢false e)
role_is_ms Ms e = refl

zone_of_site : (r : Register) (s : Site) (found : Option Zone) → zone_of r s.prefix ≡ found → option_map_or (λ (z : Zone). not (is_ms z.kind)) found true ≡ false → (w : Zone) × IsIn w r.zones × (covers w.prefix s.prefix ≡ true) × (w.kind ≡ Ms)
zone_of_site r s None e inside = absurd (true≢false inside)
zone_of_site r s (Some w) e inside =
    let p = best_member Longest zone_prefix s.prefix r.zones w e in
    (w, p.0, p.1, role_is_ms w.kind inside)

pub site_inside : (r : Register) → IsAccepted r → (p : Zone) (s : Site) (x : List ℕ) → IsIn p r.zones → covers p.prefix x ≡ true → IsIn s r.sites → covers s.prefix x ≡ true → covers p.prefix s.prefix ≡ true
site_inside r accepted p s x j c k d =
    let w = zone_of_site r s (zone_of r s.prefix) refl (rule_kept (λ (t : Site). t.row) (is_outside r) r.sites (accepted rules.SiteOutside) s k) in
    let le : length p.prefix ≤ length w.0.prefix = no_longer_zone r accepted w.0 p x w.1 w.3 (covers_trans w.0.prefix s.prefix x w.2 d) j c in
    let short : length w.0.prefix ≤ length s.prefix = length-covered w.0.prefix s.prefix w.2 in
    front_covers p.prefix s.prefix x c d (omega arith)

-- so the longest site inside a zone is the longest of all
pub longest_site : (r : Register) → IsAccepted r → (p : Zone) (x : List ℕ) → IsIn p r.zones → covers p.prefix x ≡ true → longest_match site_prefix (filter (is_site_in p) r.sites) x ≡ site_of r x
longest_site r accepted p x j c = best_match-filter Longest site_prefix x (is_site_in p) r.sites (λ s k d. site_inside r accepted p s x j c k d)
