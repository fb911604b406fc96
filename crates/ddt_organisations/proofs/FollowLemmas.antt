-- Referrals that are followed over the servers of all organisations of a tree.
use Rattle.std.proofs.Common.{◌≡◌, ◌≢◌, ◌⊎◌, ℕ, zero, suc, ◌+◌, ◌<◌, Bool, true, false, List, length, Some, refl, sym, ap, subst, ◌∙◌, arith, inl, inr}
use Rattle.std.specs.Prelude.{IsTrue, Contains}
use Rattle.std.proofs.lemmas.Bool.{both_ways}
use Rattle.std.proofs.lemmas.Option.{same_Some}
use Rattle.ddt_path.specs.declared.action.Action.{Action}
use Rattle.ddt_path.specs.declared.action.Action.TheVariants.{NodeReferral, MsReferral, MsAck, MsNotRegistered, DelegationHole, NotAuthoritative}
use Rattle.ddt_path.specs.declared.locator.Locator.{Locator}
use Rattle.ddt_path.specs.declared.record.ReferralRecord.{ReferralRecord}
use Rattle.ddt_path.specs.Actions.{IsReferral}
use Rattle.ddt_path.specs.Covers.{covers, is_strictly_below}
use Rattle.ddt_path.specs.Locators.{lists}
use Rattle.ddt_path.specs.Records.{record_of}
use Rattle.ddt_path.specs.laws.Cover.{length-covered}
use Rattle.ddt_path.specs.laws.Front.{front_below}
use Rattle.ddt_path.specs.laws.Member.{contained, in_contained}
use Rattle.ddt_register.specs.declared.zone.Zone.{Zone}
use Rattle.ddt_check.specs.Assignment.{assignment}
use Rattle.ddt_check.specs.Says.{says}
use Rattle.ddt_check.specs.Zones.{zone_of, locators_of, roots}
use Rattle.ddt_check.specs.laws.Statements.{IsFinal, IsItsZone}
use Rattle.ddt_organisations.specs.Seam.Walk as walk
use Rattle.ddt_organisations.specs.Seam.Walk.{Replies, IsWalk}
use Rattle.ddt_organisations.specs.Tree.{Organisation, IsDelegated, IsTree}
use Rattle.ddt_organisations.specs.Charge as charge
use Rattle.ddt_organisations.specs.Charge.{IsInCharge, IsOwn, AreRunByAll}
use Rattle.ddt_organisations.specs.Laws.{WalksEndInCharge, SomeoneIsInCharge, HandsOn, TreesHandOn}
use Rattle.ddt_organisations.proofs.CrossLemmas.{RegisterLaws, AllLaws, across}
use Rattle.ddt_organisations.proofs.GroupLemmas.{named}
use Rattle.ddt_organisations.proofs.ZoneLemmas.{from_zone, final_zone}

-- what is no referral, nor NOT-AUTHORITATIVE, ends a lookup
final_of : (a : Action) → (a ≢ NotAuthoritative) → ¬ IsReferral a → IsFinal a
final_of NodeReferral aware none = absurd (none (inl refl))
final_of MsReferral aware none = absurd (none (inr refl))
final_of MsAck aware none = inl refl
final_of MsNotRegistered aware none = inr (inl refl)
final_of DelegationHole aware none = inr (inr refl)
final_of NotAuthoritative aware none = absurd (aware refl)

module _ (laws : AllLaws) (top : Organisation) (all : List Organisation) (tree : IsTree top all) (x : List ℕ) where
  known : (o : Organisation) → Contains all o → RegisterLaws o.register
  known o one = laws.register o.register (tree.accepted o one)

  -- ---- the zone that is delegated

  -- it is the identifier's own zone: nothing is said inside it
  own_zone : (o : Organisation) → Contains all o → (z : Zone) → IsDelegated o z → covers z.prefix x ≡ true
      → zone_of o.register x ≡ Some z
  own_zone o one z delegated over =
      let v = (known o one).one_zone x in
      elim (v.2.longest z delegated.is_zone over) [
        | inl same ↦ v.1 ∙ ap (λ (y : Zone). Some y) (sym same)
        | inr lt ↦ absurd (both_ways (is_strictly_below v.0.prefix z.prefix)
            (tree.inside o one z v.0 delegated v.2.is_zone)
            (front_below z.prefix v.0.prefix x over v.2.covers_it lt))
      ]

  delegated_at : (o : Organisation) (z w : Zone) → IsOwn o x z → Contains o.register.zones w → covers w.prefix x ≡ true
      → o.runs w.group ≡ false → length z.prefix < length w.prefix → IsDelegated o w
  delegated_at o z w own k over not_run lt = record {
    is_zone = k;
    not_run = not_run;
    above = z;
    is_above = contained o.register.zones z own.is_zone;
    is_run = own.is_run;
    is_below = front_below z.prefix w.prefix x own.covers_it over lt;
  }

  -- the same zone as the other organisation has it
  crossed : (o other : Organisation) → Contains all o → Contains all other → (z : Zone) → IsDelegated o z
      → covers z.prefix x ≡ true → other.runs z.group ≡ true
      → (y : Zone) × IsOwn other x y × (y.prefix ≡ z.prefix)
      × (locators_of o.register z.group ≡ locators_of other.register y.group)
  crossed o other one two z delegated over runs =
      let y = across laws o other (tree.accepted o one) (tree.accepted other two)
      (tree.seams o other z one two delegated runs) z (in_contained o.register.zones z delegated.is_zone) runs in (
        y.0,
        record {
          is_zone = y.1;
          covers_it = subst (λ (p : List ℕ). covers p x ≡ true) (sym y.2) over;
          is_run = y.3;
        },
        y.2,
        y.4,
      )

  -- ---- a walk

  module _ (last : Organisation) (reply : Replies) (run : AreRunByAll all reply) where
    -- who is in charge where the identifier's own zone isn't run
    handed_on : (o : Organisation) (z : Zone) → zone_of o.register x ≡ Some z → o.runs z.group ≡ false
        → IsInCharge all x o last
        → (other : Organisation) × Contains all other × (other.runs z.group ≡ true) × IsInCharge all x other last
    handed_on o z e not (charge.itself y f its) =
        let same = same_Some y z (sym f ∙ e) in
        absurd (both_ways (o.runs z.group) not (subst (λ (w : Zone). o.runs w.group ≡ true) same its))
    handed_on o z e not (charge.another y other f none k its more) =
        let same = same_Some y z (sym f ∙ e) in
        (other, k, subst (λ (w : Zone). other.runs w.group ≡ true) same its, more)

    -- where a walk is: at the servers of a zone that one of the organisations runs
    record Place (servers : List Locator) : Type 0 where
      o : Organisation
      one : Contains all o
      z : Zone
      own : IsOwn o x z
      its_servers : servers ≡ locators_of o.register z.group
      in_charge : IsInCharge all x o last

    module _ {servers : List Locator} (at : Place servers) (l : Locator) (listed : IsTrue (lists servers l)) where
      here : lists (locators_of at.o.register at.z.group) l ≡ true
      here = subst (λ (ls : List Locator). lists ls l ≡ true) at.its_servers listed

      replied : reply l x ≡ says at.o.register l x
      replied =
          let g = (known at.o at.one).served at.z (contained at.o.register.zones at.z at.own.is_zone) in
          let listed_there = subst (λ (ls : List Locator). lists ls l ≡ true) g.1.its_servers here in
          let name = named at.o.register at.z.group g.0 g.1.its_group in
          run at.o g.0 l x at.one g.1.is_group (ap at.o.runs name ∙ at.own.is_run) listed_there
          ∙ laws.honest at.o.register g.0 (tree.accepted at.o at.one) g.1.is_group l x listed_there

      down : (z : Zone) → IsOwn at.o x z → lists (locators_of at.o.register z.group) l ≡ true
          → ((says at.o.register l x).action ≢ NotAuthoritative)
          × (IsReferral (says at.o.register l x).action → length z.prefix < length (says at.o.register l x).prefix)
      down z own k = (known at.o at.one).downwards z l x (contained at.o.register.zones z own.is_zone) own.covers_it k

      aware : (says at.o.register l x).action ≢ NotAuthoritative
      aware = (down at.z at.own here).0

      -- ---- where it ends

      module _ (final : ¬ IsReferral (reply l x).action) where
        no_referral : ¬ IsReferral (says at.o.register l x).action
        no_referral refers = final (subst (λ (v : ReferralRecord). IsReferral v.action) (sym replied) refers)

        last_zone : (z : Zone) × (zone_of at.o.register x ≡ Some z) × (at.o.runs z.group ≡ true)
        last_zone =
            let z = from_zone at.o.register l x aware in (
              z.0,
              final_zone at.o.register l x z.0 z.1 (tree.accepted at.o at.one) no_referral,
              ap at.o.runs ((known at.o at.one).one_group z.0 at.z l z.1.its_server here) ∙ at.own.is_run,
            )

        same_last : (o : Organisation) (z : Zone) → zone_of o.register x ≡ Some z → o.runs z.group ≡ true
            → IsInCharge all x o last → assignment o.register x ≡ assignment last.register x
        same_last o z e runs (charge.itself y f its) = refl
        same_last o z e runs (charge.another y other f not k its more) =
            absurd (both_ways (o.runs z.group) (subst (λ (w : Zone). o.runs w.group ≡ false) (same_Some y z (sym f ∙ e)) not) runs)

        ended : reply l x ≡ record_of (assignment last.register x)
        ended =
            replied
            ∙ (known at.o at.one).decided l x (final_of (says at.o.register l x).action aware no_referral)
            ∙ ap record_of (same_last at.o last_zone.0 last_zone.1 last_zone.2 at.in_charge)

      -- ---- where it goes on

      module _ (refers : IsReferral (reply l x).action) where
        referred : IsReferral (says at.o.register l x).action
        referred = subst (λ (v : ReferralRecord). IsReferral v.action) replied refers

        next : (w : Zone) × Contains at.o.register.zones w × IsTrue (covers w.prefix x)
            × ((reply l x).servers ≡ locators_of at.o.register w.group) × (length at.z.prefix < length w.prefix)
        next =
            let w = (known at.o at.one).to_zones l x referred in (
              w.0,
              w.1,
              w.2,
              ap (λ (v : ReferralRecord). v.servers) (replied ∙ w.3),
              subst (λ (v : ReferralRecord). length at.z.prefix < length v.prefix) w.3 ((down at.z at.own here).1 referred),
            )

        over_the_seam : at.o.runs next.0.group ≡ false → Place (reply l x).servers
        over_the_seam not =
            let delegated = delegated_at at.o at.z next.0 at.own next.1 next.2 not next.4 in
            let more = handed_on at.o next.0 (own_zone at.o at.one next.0 delegated next.2) not at.in_charge in
            let v = crossed at.o more.0 at.one more.1 next.0 delegated next.2 more.2 in
            record { o = more.0; one = more.1; z = v.0; own = v.1; its_servers = next.3 ∙ v.3; in_charge = more.3 }

        goes_to : (b : Bool) → at.o.runs next.0.group ≡ b → Place (reply l x).servers
        goes_to true runs = record {
          o = at.o;
          one = at.one;
          z = next.0;
          own = record {
            is_zone = in_contained at.o.register.zones next.0 next.1;
            covers_it = next.2;
            is_run = runs;
          };
          its_servers = next.3;
          in_charge = at.in_charge;
        }
        goes_to false runs = over_the_seam runs

        after : Place (reply l x).servers
        after = goes_to (at.o.runs next.0.group) refl

    walked : {servers : List Locator} {end : ReferralRecord} → IsWalk reply x servers end → Place servers
        → end ≡ record_of (assignment last.register x)
    walked (walk.ends l listed final is) at = is ∙ ended at l listed final
    walked (walk.goes_on l listed refers rest) at = walked rest (after at l listed refers)

  -- ---- from the root

  root_zone : (z : Zone) × IsOwn top x z × (locators_of top.register z.group ≡ roots top.register)
  root_zone =
      let z = (known top tree.top_is_one).root in (
        z.0,
        record {
          is_zone = in_contained top.register.zones z.0 z.1.is_zone;
          covers_it = subst (λ (p : List ℕ). covers p x ≡ true) (sym z.1.is_everything) refl;
          is_run = tree.root_is_run z.0 z.1.is_zone z.1.is_everything;
        },
        z.1.its_servers,
      )

  pub from_root : (last : Organisation) (reply : Replies) (end : ReferralRecord) → AreRunByAll all reply
      → IsWalk reply x (roots top.register) end → IsInCharge all x top last
      → end ≡ record_of (assignment last.register x)
  from_root last reply end run walk in_charge = walked last reply run walk (record {
    o = top;
    one = tree.top_is_one;
    z = root_zone.0;
    own = root_zone.1;
    its_servers = sym root_zone.2;
    in_charge = in_charge;
  })

  -- ---- someone is in charge

  -- whoever is in charge by another organisation that runs a longer zone is so by this one
  record IsPassedOn (o : Organisation) (z : Zone) : Type 0 where
    other : Organisation
    one : Contains all other
    zone : Zone
    own : IsOwn other x zone
    longer : length z.prefix < length zone.prefix
    passed : (last : Organisation) → IsInCharge all x other last → IsInCharge all x o last

  module _ (o : Organisation) (one : Contains all o) (z : Zone) (own : IsOwn o x z) where
    longest : (v : Zone) × (zone_of o.register x ≡ Some v) × IsItsZone o.register x v
    longest = (known o one).one_zone x

    passed_on : o.runs longest.0.group ≡ false → length z.prefix < length longest.0.prefix → IsPassedOn o z
    passed_on not lt =
        let delegated = delegated_at o z longest.0 own longest.2.is_zone longest.2.covers_it not lt in
        let found = tree.each_is_run o longest.0 one delegated in
        let y = crossed o found.0 one found.1 longest.0 delegated longest.2.covers_it found.2 in
        record {
          other = found.0;
          one = found.1;
          zone = y.0;
          own = y.1;
          longer = subst (λ (p : List ℕ). length z.prefix < length p) (sym y.2) lt;
          passed = λ last more. charge.another longest.0 found.0 longest.1 not found.1 found.2 more;
        }

    decided_by : (b : Bool) → o.runs longest.0.group ≡ b → IsInCharge all x o o ⊎ IsPassedOn o z
    decided_by true runs = inl (charge.itself longest.0 longest.1 runs)
    decided_by false not =
        elim (longest.2.longest z (contained o.register.zones z own.is_zone) own.covers_it) [
          | inl same ↦ absurd (both_ways (o.runs longest.0.group) not
              (subst (λ (w : Zone). o.runs w.group ≡ true) same own.is_run))
          | inr lt ↦ inr (passed_on not lt)
        ]

    asked : IsInCharge all x o o ⊎ IsPassedOn o z
    asked = decided_by (o.runs longest.0.group) refl

  found_by : (n : ℕ) (o : Organisation) → Contains all o → (z : Zone) → IsOwn o x z → length x < length z.prefix + n
      → (last : Organisation) × Contains all last × IsInCharge all x o last
  found_by zero o one z own most =
      let le = length-covered z.prefix x own.covers_it in
      absurd (omega arith)
  found_by (suc n) o one z own most =
      elim (asked o one z own) [
        | inl in_charge ↦ (o, one, in_charge)
        | inr on ↦
            let lt = on.longer in
            let more = found_by n on.other on.one on.zone on.own (omega arith) in
            (more.0, more.1, on.passed more.0 more.2)
      ]

  pub someone : (last : Organisation) × Contains all last × IsInCharge all x top last
  someone = found_by (suc (length x)) top tree.top_is_one root_zone.0 root_zone.1 (omega arith)

  -- ---- a longer zone is handed on

  module _ (o : Organisation) (one : Contains all o) (z v : Zone) (own : IsOwn o x z)
      (its : zone_of o.register x ≡ Some v) (not : o.runs v.group ≡ false) where
    same_zone : (longest o one z own).0 ≡ v
    same_zone = same_Some (longest o one z own).0 v (sym (longest o one z own).1 ∙ its)

    zone_is : IsItsZone o.register x v
    zone_is = subst (λ (w : Zone). IsItsZone o.register x w) same_zone (longest o one z own).2

    below : (length z.prefix < length v.prefix) × IsDelegated o v
    below = elim (zone_is.longest z (contained o.register.zones z own.is_zone) own.covers_it) [
      | inl same ↦ absurd (both_ways (o.runs v.group) not
          (subst (λ (w : Zone). o.runs w.group ≡ true) same own.is_run))
      | inr lt ↦ (lt, delegated_at o z v own zone_is.is_zone zone_is.covers_it not lt)
    ]

    run_by_somebody : (other : Organisation) × Contains all other × (other.runs v.group ≡ true)
    run_by_somebody = tree.each_is_run o v one below.1

    longer_there : (other : Organisation) → Contains all other → other.runs v.group ≡ true
        → (y : Zone) × IsOwn other x y × (length z.prefix < length y.prefix)
    longer_there other two runs =
        let y = crossed o other one two v below.1 zone_is.covers_it runs in (
          y.0,
          y.1,
          subst (λ (p : List ℕ). length z.prefix < length p) (sym y.2) below.0,
        )

  pub hands_on : HandsOn top all x
  hands_on = record {
    root = (root_zone.0, root_zone.1);
    longest = λ o one. let v = (known o one).one_zone x in (v.0, v.1);
    somebody = λ o z v one own its not. run_by_somebody o one z v own its not;
    longer = λ o other z v one two own its not runs. longer_there o one z v own its not other two runs;
  }

pub ends_in_charge : AllLaws → WalksEndInCharge
ends_in_charge laws top last all reply x end tree run walk in_charge =
    from_root laws top all tree x last reply end run walk in_charge

pub has_someone : AllLaws → SomeoneIsInCharge
has_someone laws top all x tree = someone laws top all tree x

pub trees_hand_on : AllLaws → TreesHandOn
trees_hand_on laws top all x tree = hands_on laws top all tree x
