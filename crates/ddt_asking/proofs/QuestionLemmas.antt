-- Where the questions for an identifier lead: the servers that are asked are those of a zone that covers it, and the
-- next zone is longer.
use Rattle.std.proofs.Common.{◌≡◌, ℕ, ◌+◌, ◌-◌, ◌<◌, ◌≤◌, Bool, true, false, List, [], ◌∷◌, ◌++◌, length, map, arith, refl, sym, ap, subst, ◌∙◌, inl, inr, append_assoc, append-nil}
use Rattle.std.specs.Prelude.{IsTrue, if◌then◌else◌}
use Rattle.std.specs.List.{Contains}
use Rattle.ddt_path.specs.declared.locator.Locator.{Locator}
use Rattle.ddt_path.specs.declared.action.Action.{Action}
use Rattle.ddt_path.specs.declared.action.Action.TheVariants.{NodeReferral, MsReferral, MsAck, MsNotRegistered, DelegationHole, NotAuthoritative}
use Rattle.ddt_path.specs.declared.record.ReferralRecord.{ReferralRecord}
use Rattle.ddt_path.specs.Actions.{IsReferral}
use Rattle.ddt_path.specs.Covers.{covers}
use Rattle.ddt_path.specs.Locators.{lists}
use Rattle.ddt_path.specs.laws.Cover.{length-covered}
use Rattle.ddt_path.specs.laws.Locator.{lists_at}
use Rattle.ddt_register.specs.declared.zone.Zone.{Zone}
use Rattle.ddt_register.specs.declared.register.Register.{Register}
use Rattle.ddt_check.specs.Zones.{locators_of, first_locator}
use Rattle.ddt_check.specs.Says.{says}
use Rattle.ddt_check.specs.laws.Statements.{TheRootIsServed, EachZoneHasServers, ReferralsAreToZones, ServersReferDownwards, AreServers}
use Rattle.ddt_asking.specs.declared.question.Question.{Question}
use Rattle.ddt_asking.specs.Questions.{refers, question_to, root_referral, AreBehind, none_more, each_server}

-- a record whose servers are those of a zone that covers the identifier, and whose prefix is the zone's
pub record IsLed (r : Register) (x : List ℕ) (rec : ReferralRecord) : Type 0 where
  pub zone : Zone
  pub is_zone : Contains r.zones zone
  pub covers_it : IsTrue (covers zone.prefix x)
  pub its_servers : rec.servers ≡ locators_of r zone.group
  pub its_prefix : rec.prefix ≡ zone.prefix

pub led_at_root : (r : Register) (x : List ℕ) → TheRootIsServed r → IsLed r x (root_referral r)
led_at_root r x root = record {
  zone = root.0;
  is_zone = root.1.is_zone;
  covers_it = subst (λ (p : List ℕ). covers p x ≡ true) (sym root.1.is_everything) refl;
  its_servers = sym root.1.its_servers;
  its_prefix = sym root.1.is_everything;
}

is_referral : (action : Action) → refers action ≡ true → IsReferral action
is_referral NodeReferral is = inl refl
is_referral MsReferral is = inr refl
is_referral MsAck is = absurd (cc)
is_referral MsNotRegistered is = absurd (cc)
is_referral DelegationHole is = absurd (cc)
is_referral NotAuthoritative is = absurd (cc)

first_is_listed : (ls : List Locator) → 0 < length ls → lists ls (first_locator ls) ≡ true
first_is_listed [] some = absurd (omega (arith, some))
first_is_listed (l ∷ ls) some = lists_at (l ∷ ls) 0 l some

module _ (r : Register) (x : List ℕ) (rec : ReferralRecord) (led : IsLed r x rec) (served : EachZoneHasServers r) where
  pub servers_there : AreServers rec.servers
  servers_there =
      let g = served led.zone led.is_zone in
      subst (λ (ls : List Locator). AreServers ls) (sym (led.its_servers ∙ g.1.its_servers)) g.1.are_servers

  first_is_its : IsTrue (lists (locators_of r led.zone.group) (first_locator rec.servers))
  first_is_its =
      subst (λ (ls : List Locator). lists ls (first_locator rec.servers) ≡ true) led.its_servers
      (first_is_listed rec.servers servers_there.0)

  pub led_on : ReferralsAreToZones r → refers (says r (first_locator rec.servers) x).action ≡ true
      → IsLed r x (says r (first_locator rec.servers) x)
  led_on zones refer =
      let w = zones (first_locator rec.servers) x
      (is_referral (says r (first_locator rec.servers) x).action refer) in record {
        zone = w.0;
        is_zone = w.1;
        covers_it = w.2;
        its_servers = ap (λ (v : ReferralRecord). v.servers) w.3;
        its_prefix = ap (λ (v : ReferralRecord). v.prefix) w.3;
      }

  goes_down : ServersReferDownwards r → refers (says r (first_locator rec.servers) x).action ≡ true
      → length rec.prefix < length (says r (first_locator rec.servers) x).prefix
  goes_down down refer =
      let d = down led.zone (first_locator rec.servers) x led.is_zone led.covers_it first_is_its in
      let lt = d.1 (is_referral (says r (first_locator rec.servers) x).action refer) in
      omega (arith, lt, ap (λ (p : List ℕ). length p) led.its_prefix)

-- how often a record of an identifier with so many digits can still lead on
abbrev pub steps_left : ℕ → ReferralRecord → ℕ
steps_left digits rec = if refers rec.action then 1 + (digits - length rec.prefix) else 0

within : (r : Register) (x : List ℕ) (rec : ReferralRecord) → IsLed r x rec → length rec.prefix ≤ length x
within r x rec led =
    let le = length-covered led.zone.prefix x led.covers_it in
    let same = ap (λ (p : List ℕ). length p) led.its_prefix in
    omega (arith, le, same)

pub leads_on_less : (r : Register) (x : List ℕ) (rec : ReferralRecord) → refers rec.action ≡ true → IsLed r x rec
    → EachZoneHasServers r → ReferralsAreToZones r → ServersReferDownwards r
    → steps_left (length x) (says r (first_locator rec.servers) x) < steps_left (length x) rec
leads_on_less r x rec refer led served zones down =
    go (refers (says r (first_locator rec.servers) x).action) refl
  where
    go : (b : Bool) → refers (says r (first_locator rec.servers) x).action ≡ b
        → steps_left (length x) (says r (first_locator rec.servers) x) < steps_left (length x) rec
    go true e =
        let lt = goes_down r x rec led served down e in
        let le = within r x (says r (first_locator rec.servers) x) (led_on r x rec led served zones e) in
        rw (e, refer) (omega (arith, lt, le))
    go false e = rw (e, refer) (omega arith)

-- what is behind a record once its servers are asked
pub behind_on : (r : Register) (x : List ℕ) (start rec : ReferralRecord) (questions more : List Question)
    → refers rec.action ≡ true
    → ((later : List Question) → AreBehind r x rec later → AreBehind r x start (questions ++ later))
    → more ≡ questions ++ map (question_to r x) rec.servers
    → (later : List Question) → AreBehind r x (says r (first_locator rec.servers) x) later
    → AreBehind r x start (more ++ later)
behind_on r x start rec questions more refer so_far is later behind =
    subst (λ (qs : List Question). AreBehind r x start qs)
    (sym (append_assoc questions (map (question_to r x) rec.servers) later)
    ∙ ap (λ (qs : List Question). qs ++ later) (sym is))
    (so_far (map (question_to r x) rec.servers ++ later) (each_server rec later refer behind))

pub behind_at_end : (r : Register) (x : List ℕ) (start rec : ReferralRecord) (questions : List Question)
    → refers rec.action ≡ false
    → ((later : List Question) → AreBehind r x rec later → AreBehind r x start (questions ++ later))
    → AreBehind r x start questions
behind_at_end r x start rec questions ends so_far =
    subst (λ (qs : List Question). AreBehind r x start qs) (append-nil questions)
    (so_far [] (none_more rec ends))
