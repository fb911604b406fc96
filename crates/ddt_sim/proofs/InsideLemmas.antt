-- What an honest server says lies inside each zone of the identifier that it serves.
use Rattle.std.proofs.Common.{◌≡◌, ℕ, ◌<◌, ◌≤◌, Bool, true, false, cond, ◌==◌, List, length, Option, Some, None, refl, sym, ap, subst, ◌∙◌, arith, inl, inr, ◌⊎◌, Contains}
use Rattle.std.specs.Prelude.{◌≢◌, IsTrue, not}
use Rattle.std.specs.FinMap.{get}
use Rattle.std.specs.Option.{option_map_or}
use Rattle.std.proofs.lemmas.Option.{none-some, same_Some}
use Rattle.std.proofs.lemmas.Bool.{true≢false, and_parts}
use Rattle.ddt_path.specs.declared.locator.Locator.{Locator}
use Rattle.ddt_path.specs.declared.action.Action.{Action}
use Rattle.ddt_path.specs.declared.action.Action.TheVariants.{NodeReferral, MsReferral, MsAck, MsNotRegistered, DelegationHole, NotAuthoritative}
use Rattle.ddt_path.specs.declared.matches.Preference.TheVariants.{Longest}
use Rattle.ddt_path.specs.declared.record.Outcome.{Outcome}
use Rattle.ddt_path.specs.declared.record.Outcome.TheVariants.{Registered, NotRegistered, Hole}
use Rattle.ddt_path.specs.declared.record.ReferralRecord.{ReferralRecord}
use Rattle.ddt_path.specs.declared.record.Role.{Role}
use Rattle.ddt_path.specs.declared.record.Role.TheVariants.{Node, Ms}
use Rattle.ddt_path.specs.Actions.{IsReferral}
use Rattle.ddt_path.specs.Covers.{covers}
use Rattle.ddt_path.specs.Free.{free, hole_of, overlaps_none}
use Rattle.ddt_path.specs.Locators.{lists}
use Rattle.ddt_path.specs.Path.{xeid_path}
use Rattle.ddt_path.specs.Records.{record_of}
use Rattle.ddt_path.specs.laws.Cover.{covers_trans}
use Rattle.ddt_path.specs.laws.Front.{front_covers}
use Rattle.ddt_path.specs.laws.Hole.{hole_is_free}
use Rattle.ddt_path.specs.laws.Locator.{lists_at}
use Rattle.ddt_path.specs.laws.Member.{IsIn, in_contained}
use Rattle.ddt_path.specs.laws.Matching.{best_member, best_there, best_unbeaten}
use Rattle.ddt_register.specs.declared.zone.Zone.{Zone}
use Rattle.ddt_register.specs.declared.site.Site.{Site}
use Rattle.ddt_register.specs.declared.register.Register.{Register}
use Rattle.ddt_register.specs.laws.Rising.{rule_kept}
use Rattle.ddt_check.specs.declared.fault.Rule.TheVariants as rules
use Rattle.ddt_check.specs.Rules.{IsAccepted, is_outside}
use Rattle.ddt_check.specs.Zones.{is_ms, zone_of, site_of, locators_of}
use Rattle.ddt_check.specs.Assignment.{assignment, assigned_in, assigned_site, prefixes_in, prefixes_below_site}
use Rattle.ddt_check.specs.Says.{says}
use Rattle.ddt_check.specs.laws.Site.{site_inside, no_longer_zone}
use Rattle.ddt_check.specs.laws.Statements.{IsFinal, IsItsZone, EachIdentifierHasOneZone, ServersReferDownwards, ReferralsAreToZones, FinalAnswersAreTheAssignment, AnswersCover}
use Rattle.ddt_check.specs.laws.Zone.{site_prefix, assigned_at}
use Rattle.ddt_resolver.specs.declared.pending.Pending.{Pending}
use Rattle.ddt_resolver.specs.State.{State, server}
use Rattle.ddt_resolver.specs.Order.{IsStateInOrder}
use Rattle.ddt_resolver.specs.Within.{first_of}
use Rattle.ddt_sim.specs.Sound.{IsSound, IsSoundLookup}
use Rattle.ddt_sim.specs.Inside.{IsInside, IsTrueStart, zone, site, StartsAreTrue, HonestRepliesAreInside}

-- the laws that this stands on
pub record InsideLaws (r : Register) : Type 0 where
  pub zones : EachIdentifierHasOneZone r
  pub downwards : ServersReferDownwards r
  pub to_zones : ReferralsAreToZones r
  pub decided : FinalAnswersAreTheAssignment r
  pub cover : AnswersCover r

-- ---- a hole lies inside its authority

hole_inside : (authority : List ℕ) (keys : List (List ℕ)) (x : List ℕ) → covers authority x ≡ true → covers authority (hole_of authority keys x) ≡ true
hole_inside authority keys x inside = go (free authority keys x) refl
  where
    go : (found : Option (List ℕ)) → free authority keys x ≡ found → covers authority (hole_of authority keys x) ≡ true
    go None e = rw e inside
    go (Some q) e =
        let is = hole_is_free authority keys x q inside e in
        rw e (and_parts (covers authority q) (overlaps_none keys q) (and_parts (covers q x) _ is).1).0

module _ (r : Register) (accepted : IsAccepted r) (laws : InsideLaws r) where
  -- ---- an assignment lies inside the zone, and inside the longest site

  site_part : (z : Zone) (s : Site) (x : List ℕ) (b : Bool) → covers s.prefix x ≡ true
      → covers s.prefix (record_of (cond b (NotRegistered (hole_of s.prefix (prefixes_below_site r s) x) (locators_of r z.group)) (Registered s.prefix (locators_of r z.group)))).prefix ≡ true
  site_part z s x true over = hole_inside s.prefix (prefixes_below_site r s) x over
  site_part z s x false over = front_covers s.prefix s.prefix x over over (omega arith)

  in_site : (z : Zone) (s : Site) (x : List ℕ) → covers s.prefix x ≡ true → covers s.prefix (record_of (assigned_site r z s x)).prefix ≡ true
  in_site z s x over = site_part z s x (length s.etrs == 0) over

  in_ms_zone : (z : Zone) (x : List ℕ) → Contains r.zones z → covers z.prefix x ≡ true → (found : Option Site) → site_of r x ≡ found
      → covers z.prefix (record_of (option_map_or (λ s. assigned_site r z s x) found (Hole (hole_of z.prefix (prefixes_in r z Ms) x)))).prefix ≡ true
  in_ms_zone z x is over None e = hole_inside z.prefix (prefixes_in r z Ms) x over
  in_ms_zone z x is over (Some s) e =
      let m = best_member Longest site_prefix x r.sites s e in
      covers_trans z.prefix s.prefix _ (site_inside r accepted z s x (in_contained r.zones z is) over m.0 m.1) (in_site z s x m.1)

  in_zone : (z : Zone) (x : List ℕ) → Contains r.zones z → covers z.prefix x ≡ true → (kind : Role) → covers z.prefix (record_of (assigned_in r z kind x)).prefix ≡ true
  in_zone z x is over Node = hole_inside z.prefix (prefixes_in r z Node) x over
  in_zone z x is over Ms = in_ms_zone z x is over (site_of r x) refl

  assigned_inside : (z : Zone) (x : List ℕ) → Contains r.zones z → covers z.prefix x ≡ true → covers z.prefix (record_of (assignment r x)).prefix ≡ true
  assigned_inside z x is over =
      let h = laws.zones x in
      let own = h.2 in
      let wider : covers z.prefix h.0.prefix ≡ true = elim (own.longest z is over) [
        | inl same ↦ rw same (front_covers h.0.prefix h.0.prefix x own.covers_it own.covers_it (omega arith))
        | inr lt ↦ front_covers z.prefix h.0.prefix x over own.covers_it (omega (arith, lt))
      ] in
      rw (assigned_at r x h.0 h.1) (covers_trans z.prefix h.0.prefix _ wider (in_zone h.0 x own.is_zone own.covers_it h.0.kind))

  -- ---- what is said lies inside

  by_action : (a : Action) → a ≢ NotAuthoritative → IsReferral a ⊎ IsFinal a
  by_action NodeReferral h = inl (inl refl)
  by_action MsReferral h = inl (inr refl)
  by_action MsAck h = inr (inl refl)
  by_action MsNotRegistered h = inr (inr (inl refl))
  by_action DelegationHole h = inr (inr (inr refl))
  by_action NotAuthoritative h = absurd (h refl)

  said_inside : (z : Zone) (l : Locator) (x : List ℕ) → Contains r.zones z → covers z.prefix x ≡ true → lists (locators_of r z.group) l ≡ true
      → covers z.prefix (says r l x).prefix ≡ true
  said_inside z l x is over lists_it =
      let down = laws.downwards z l x is over lists_it in
      elim (by_action (says r l x).action down.0) [
        | inl refers ↦ let lt = down.1 refers in front_covers z.prefix (says r l x).prefix x over (laws.cover l x) (omega (arith, lt))
        | inr final ↦ rw (laws.decided l x final) (assigned_inside z x is over)
      ]

  -- ---- at a site

  ms_role : (kind : Role) → not (is_ms kind) ≡ false → kind ≡ Ms
  ms_role Node e = absurd (true≢false e)
  ms_role Ms e = refl

  no_referral : (z : Zone) (l : Locator) (x : List ℕ) → Contains r.zones z → z.kind ≡ Ms → covers z.prefix x ≡ true → IsReferral (says r l x).action
      → length z.prefix < length (says r l x).prefix → ⊥
  no_referral z l x is ms over refers lt =
      let w = laws.to_zones l x refers in
      let le : length w.0.prefix ≤ length z.prefix = no_longer_zone r accepted z w.0 x (in_contained r.zones z is) ms over (in_contained r.zones w.0 w.1) w.2 in
      let same : length (says r l x).prefix ≡ length w.0.prefix = ap (λ (v : ReferralRecord). length v.prefix) w.3 in
      omega (arith, le, lt, same)

  longest_inside : (s : Site) (z : Zone) (x : List ℕ) → Contains r.sites s → covers s.prefix x ≡ true → (found : Option Site) → site_of r x ≡ found
      → covers s.prefix (record_of (option_map_or (λ t. assigned_site r z t x) found (Hole (hole_of z.prefix (prefixes_in r z Ms) x)))).prefix ≡ true
  longest_inside s z x is over None e = absurd (best_there Longest site_prefix x r.sites s e (in_contained r.sites s is) over)
  longest_inside s z x is over (Some t) e =
      let m = best_member Longest site_prefix x r.sites t e in
      let le : length s.prefix ≤ length t.prefix = best_unbeaten Longest site_prefix x r.sites t s e (in_contained r.sites s is) over in
      covers_trans s.prefix t.prefix _ (front_covers s.prefix t.prefix x over m.1 le) (in_site z t x m.1)

  assigned_in_site : (s : Site) (z : Zone) (x : List ℕ) → Contains r.sites s → Contains r.zones z → z.kind ≡ Ms → covers z.prefix x ≡ true → covers s.prefix x ≡ true
      → covers s.prefix (record_of (assignment r x)).prefix ≡ true
  assigned_in_site s z x is is_zone ms over_x over =
      let h = laws.zones x in
      let own = h.2 in
      let le : length h.0.prefix ≤ length z.prefix = no_longer_zone r accepted z h.0 x (in_contained r.zones z is_zone) ms over_x (in_contained r.zones h.0 own.is_zone) own.covers_it in
      let same : z ≡ h.0 = elim (own.longest z is_zone over_x) [ inl one ↦ one | inr lt ↦ absurd (omega (arith, le, lt)) ] in
      rw (assigned_at r x z (rw same h.1), ms) (longest_inside s z x is over (site_of r x) refl)

  said_in_site : (s : Site) (z : Zone) (l : Locator) (x : List ℕ) → Contains r.sites s → zone_of r s.prefix ≡ Some z → covers s.prefix x ≡ true
      → lists (locators_of r z.group) l ≡ true → covers s.prefix (says r l x).prefix ≡ true
  said_in_site s z l x is its over lists_it =
      let h = laws.zones s.prefix in
      let own : IsItsZone r s.prefix z = subst (IsItsZone r s.prefix) (same_Some h.0 z (sym h.1 ∙ its)) h.2 in
      let outside = rule_kept (λ (t : Site). t.row) (is_outside r) r.sites (accepted rules.SiteOutside) s (in_contained r.sites s is) in
      let ms : z.kind ≡ Ms = ms_role z.kind (rw its at outside) in
      let over_x : covers z.prefix x ≡ true = covers_trans z.prefix s.prefix x own.covers_it over in
      let down = laws.downwards z l x own.is_zone over_x lists_it in
      elim (by_action (says r l x).action down.0) [
        | inl refers ↦ absurd (no_referral z l x own.is_zone ms over_x refers (down.1 refers))
        | inr final ↦ rw (laws.decided l x final) (assigned_in_site s z x is own.is_zone ms over_x over)
      ]

  -- ---- of a lookup

  module _ (s : State) (o : IsStateInOrder s) (i : IsSound r s) (starts : StartsAreTrue r s) (source : Locator) (t : ℕ) (l : Pending) (here : get s.pending t ≡ Some l)
      (from : source ≡ server s.me l) where
    z : IsSoundLookup r l
    z = i.lookups t l here

    listed : lists l.servers source ≡ true
    listed = rw from (lists_at l.servers l.server_index s.me (o.lookups t l here).lookup.place)

    abbrev said : List ℕ
    said = (says r source (xeid_path l.x)).prefix

    at_zone : (y : Zone) → Contains r.zones y → covers y.prefix (xeid_path l.x) ≡ true → l.servers ≡ locators_of r y.group → covers y.prefix said ≡ true
    at_zone y is over servers = said_inside y source (xeid_path l.x) is over (subst (λ (set : List Locator). lists set source ≡ true) servers listed)

    at_start : (p : List ℕ) → covers p (xeid_path l.x) ≡ true → IsTrueStart r l.servers p → covers p said ≡ true
    at_start p over (zone y is same servers) = rw same at (at_zone y is (rw same over) servers)
    at_start p over (site t y is same its servers) =
        rw same at (said_in_site t y source (xeid_path l.x) is (rw same its) (rw same over) (subst (λ (set : List Locator). lists set source ≡ true) servers listed))

    pub inside : (saved start : Option (List ℕ)) → l.last_referral ≡ saved → l.start_entry ≡ start → IsInside (first_of saved start) said
    inside (Some p) start e f = elim z.saved [
      | inl none ↦ absurd (none-some p (sym none ∙ e))
      | inr own ↦ let same : z.zone.prefix ≡ p = same_Some z.zone.prefix p (sym own ∙ e) in rw same at (at_zone z.zone z.is_zone z.covers_x z.servers)
    ]
    inside None None e f = tt
    inside None (Some p) e f = at_start p ((o.lookups t l here).lookup.start p f) (starts t l p here e f)

outside_no_zone : (p said : List ℕ) → IsInside (Some p) said → covers p said ≡ false → ⊥
outside_no_zone p said within out = true≢false (sym within ∙ out)

pub honest_inside : ((r : Register) → IsAccepted r → InsideLaws r) → HonestRepliesAreInside
honest_inside laws r s source bytes l rec p accepted o i starts wide fair =
    let from = wide.from_server in
    let in_zone = inside r accepted (laws r accepted) s o i starts source wide.ticket l from.reply.is_pending from.same_source l.last_referral l.start_entry refl refl in
    outside_no_zone p _ (rw wide.beyond.asked at in_zone) (rw fair at wide.beyond.outside)
