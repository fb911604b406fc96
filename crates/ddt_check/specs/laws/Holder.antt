-- The zone that holds a site of an accepted register: of Map-Servers, one alone, and in the order of prefixes the last up
-- to the site's.
use Rattle.std.proofs.Common.{◌≡◌, ℕ, ◌+◌, ◌-◌, ◌<◌, ◌≤◌, true, false, ◌&&◌, List, length, get_or, IsPermutation, refl, sym, ap, subst, ◌∙◌, arith}
use Rattle.std.specs.List.Sorted.{IsPartitionPoint}
use Rattle.std.proofs.lemmas.Bool.{true≢false, false≢true, and_parts, both_ways, not-false, false_from_ne_true}
use Rattle.ddt_path.specs.declared.record.Role.{Role}
use Rattle.ddt_path.specs.declared.record.Role.TheVariants.{Node, Ms}
use Rattle.ddt_path.specs.Covers.{covers, is_same_path}
use Rattle.ddt_path.specs.laws.Cover.{same_path, path_itself}
use Rattle.ddt_path.specs.laws.Front.{one_front}
use Rattle.ddt_path.specs.laws.Member.{IsIn, iff_same}
use Rattle.ddt_register.specs.declared.zone.Zone.{Zone}
use Rattle.ddt_register.specs.declared.site.Site.{Site}
use Rattle.ddt_register.specs.declared.group.Group.{Group}
use Rattle.ddt_register.specs.declared.register.Register.{Register}
use Rattle.ddt_register.specs.laws.Rising.{rule_kept}
use Rattle.ddt_check.specs.declared.fault.Rule.TheVariants as fault
use Rattle.ddt_check.specs.Order.{IsInOrder}
use Rattle.ddt_check.specs.Rules.{IsAccepted, is_outside}
use Rattle.ddt_check.specs.Zones.{is_ms, is_site_in, is_served_by}
use Rattle.ddt_check.specs.laws.Kept.{one_zone}
use Rattle.ddt_check.specs.laws.Site.{no_longer_zone}
use Rattle.ddt_check.specs.laws.Outside.{is_up_to, outside_at, outside_first}

-- ---- of two zones of Map-Servers that hold a site

module _ (r : Register) (accepted : IsAccepted r) (z y : Zone) (s : Site) (k : IsIn z r.zones) (ms : z.kind ≡ Ms) (j : IsIn y r.zones) (also : y.kind ≡ Ms) (over : is_site_in y s ≡ true) where
  pub one_holder : is_site_in z s ≡ true → y ≡ z
  one_holder inside =
      let low : length y.prefix ≤ length z.prefix = no_longer_zone r accepted z y s.prefix k ms inside j over in
      let high : length z.prefix ≤ length y.prefix = no_longer_zone r accepted y z s.prefix j also over k inside in
      one_zone r accepted y z j k (one_front y.prefix z.prefix s.prefix over inside (omega arith))

  -- the sites that a zone holds are those in it
  pub holds_site : is_same_path y.prefix z.prefix ≡ is_site_in z s
  holds_site = iff_same (is_same_path y.prefix z.prefix) (is_site_in z s)
      (λ same. subst (λ (q : List ℕ). covers q s.prefix ≡ true) (same_path y.prefix z.prefix same) over)
      (λ inside. path_itself y.prefix z.prefix (ap (λ (w : Zone). w.prefix) (one_holder inside)))

  -- what a zone of another group holds isn't in a zone of the group
  pub held_elsewhere : (g : Group) → is_served_by g z ≡ true → is_served_by g y ≡ false → is_site_in z s ≡ false
  held_elsewhere g own other = false_from_ne_true (is_site_in z s) (λ inside.
      both_ways (is_served_by g y) other (subst (λ (w : Zone). is_served_by g w ≡ true) (sym (one_holder inside)) own))

-- ---- the last zone up to a site

ms_kind : (kind : Role) → is_ms kind ≡ true → kind ≡ Ms
ms_kind Node e = absurd (false≢true e)
ms_kind Ms e = refl

module _ (r : Register) (accepted : IsAccepted r) (s : Site) (k : IsIn s r.sites) (xs : List Zone) (sorted : IsInOrder (λ (z : Zone). z.prefix) (λ (z : Zone). z.row) xs) (moved : IsPermutation r.zones xs) (after : ℕ)
    (point : IsPartitionPoint (λ y. is_up_to xs sorted s.prefix y ≡ true) (λ y. is_up_to xs sorted s.prefix y ≡ false) xs after) where
  inside_one : is_outside r s ≡ false
  inside_one = rule_kept (λ (t : Site). t.row) (is_outside r) r.sites (accepted fault.SiteOutside) s k

  pub some_holder : after ≡ 0 → ⊥
  some_holder nil = true≢false (outside_first xs sorted s.prefix r moved after point nil ∙ inside_one)

  pub holder_is : (w : Zone) → after ≡ (after - 1) + 1 → after - 1 < length xs → w ≡ get_or xs (after - 1) w → (w.kind ≡ Ms) × (is_site_in w s ≡ true)
  holder_is w next lt is =
      let d = get_or xs (after - 1) w in
      let e = outside_at xs sorted s.prefix r moved after point (accepted fault.DuplicateZone) (accepted fault.BelowMapServer) (after - 1) w next lt ∙ inside_one in
      let p = and_parts (is_ms d.kind) (covers d.prefix s.prefix) (not-false (is_ms d.kind && covers d.prefix s.prefix) e) in
      (subst (λ (y : Zone). y.kind ≡ Ms) (sym is) (ms_kind d.kind p.0), subst (λ (y : Zone). covers y.prefix s.prefix ≡ true) (sym is) p.1)

pub node≢ms : Node ≡ Ms → ⊥
node≢ms e = false≢true (ap is_ms e)
