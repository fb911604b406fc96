-- A walk over servers that answer as the joined register has it: it stays among zones that cover the identifier.
use Rattle.std.proofs.Common.{◌≡◌, ◌≢◌, ◌⊎◌, ℕ, true, List, [], refl, sym, ap, subst, ◌∙◌, inl, inr}
use Rattle.std.specs.Prelude.{IsTrue, Contains}
use Rattle.ddt_path.specs.declared.action.Action.{Action}
use Rattle.ddt_path.specs.declared.action.Action.TheVariants.{NodeReferral, MsReferral, MsAck, MsNotRegistered, DelegationHole, NotAuthoritative}
use Rattle.ddt_path.specs.declared.locator.Locator.{Locator}
use Rattle.ddt_path.specs.declared.record.ReferralRecord.{ReferralRecord}
use Rattle.ddt_path.specs.Actions.{IsReferral}
use Rattle.ddt_path.specs.Covers.{covers}
use Rattle.ddt_path.specs.Locators.{lists}
use Rattle.ddt_path.specs.Records.{record_of}
use Rattle.ddt_register.specs.declared.group.Group.{Group}
use Rattle.ddt_register.specs.declared.zone.Zone.{Zone}
use Rattle.ddt_register.specs.declared.register.Register.{Register}
use Rattle.ddt_check.specs.Assignment.{assignment}
use Rattle.ddt_check.specs.Rules.{IsAccepted}
use Rattle.ddt_check.specs.Says.{says}
use Rattle.ddt_check.specs.Zones.{locators_of, roots}
use Rattle.ddt_check.specs.laws.Statements.{IsFinal, EachZoneHasServers, TheRootIsServed, ServersReferDownwards, ReferralsAreToZones, FinalAnswersAreTheAssignment}
use Rattle.ddt_organisations.specs.Seam.Laws.{SidesAnswerAsJoined, WalksEndInTheAssignment}
use Rattle.ddt_organisations.specs.Seam.Walk as walk
use Rattle.ddt_organisations.specs.Seam.Walk.{Replies, AnswersFrom, AreOfBothSides, IsWalk}

-- what is no referral, nor NOT-AUTHORITATIVE, ends a lookup
final_of : (a : Action) → (a ≢ NotAuthoritative) → ¬ IsReferral a → IsFinal a
final_of NodeReferral other none = absurd (none (inl refl))
final_of MsReferral other none = absurd (none (inr refl))
final_of MsAck other none = inl refl
final_of MsNotRegistered other none = inr (inl refl)
final_of DelegationHole other none = inr (inr refl)
final_of NotAuthoritative other none = absurd (other refl)

-- what the laws of an accepted register promise
pub record WalkLaws (r : Register) : Type 0 where
  pub root : TheRootIsServed r
  pub served : EachZoneHasServers r
  pub downwards : ServersReferDownwards r
  pub to_zones : ReferralsAreToZones r
  pub decided : FinalAnswersAreTheAssignment r

module _ (ours theirs joined : Register) (reply : Replies) (ours_whole : IsAccepted ours)
    (theirs_whole : IsAccepted theirs) (accepted : IsAccepted joined) (sides : SidesAnswerAsJoined)
    (laws : WalkLaws joined) (both : AreOfBothSides ours theirs joined reply) (x : List ℕ) where
  from_side : (side : Register) → IsAccepted side → (g : Group) (l : Locator) → Contains joined.groups g
      → IsTrue (lists g.locators l) → AnswersFrom side joined g l reply → reply l x ≡ says joined l x
  from_side side whole g l there listed from =
      let a = sides side joined g from.config whole accepted there from.run from.compiled in
      from.answers x ∙ a.0 l x (subst (λ (ls : List Locator). IsTrue (lists ls l)) (sym a.1) listed)

  at_zone : (z : Zone) (l : Locator) → Contains joined.zones z → IsTrue (lists (locators_of joined z.group) l)
      → reply l x ≡ says joined l x
  at_zone z l k listed =
      let g = laws.served z k in
      let here = subst (λ (ls : List Locator). IsTrue (lists ls l)) g.1.its_servers listed in
      elim (both g.0 l g.1.is_group here) [
        | inl from ↦ from_side ours ours_whole g.0 l g.1.is_group here from
        | inr from ↦ from_side theirs theirs_whole g.0 l g.1.is_group here from
      ]

  go : {servers : List Locator} {end : ReferralRecord} → IsWalk reply x servers end → (z : Zone)
      → Contains joined.zones z → IsTrue (covers z.prefix x) → servers ≡ locators_of joined z.group
      → end ≡ record_of (assignment joined x)
  go (walk.ends l listed final is) z k over set =
      let here = subst (λ (ls : List Locator). IsTrue (lists ls l)) set listed in
      let same = at_zone z l k here in
      let down = laws.downwards z l x k over here in
      is ∙ same ∙ laws.decided l x (final_of (says joined l x).action down.0
      (λ refers. final (subst (λ (v : ReferralRecord). IsReferral v.action) (sym same) refers)))
  go (walk.goes_on l listed refers rest) z k over set =
      let same = at_zone z l k (subst (λ (ls : List Locator). IsTrue (lists ls l)) set listed) in
      let w = laws.to_zones l x (subst (λ (v : ReferralRecord). IsReferral v.action) same refers) in
      go rest w.0 w.1 w.2 (ap (λ (v : ReferralRecord). v.servers) (same ∙ w.3))

  pub from_root : (end : ReferralRecord) → IsWalk reply x (roots joined) end → end ≡ record_of (assignment joined x)
  from_root end walked =
      let z = laws.root in
      go walked z.0 z.1.is_zone (subst (λ (p : List ℕ). IsTrue (covers p x)) (sym z.1.is_everything) refl)
      (sym z.1.its_servers)

pub walks_end : SidesAnswerAsJoined → ((r : Register) → IsAccepted r → WalkLaws r) → WalksEndInTheAssignment
walks_end sides laws ours theirs joined reply x end ours_whole theirs_whole accepted both walked =
    from_root ours theirs joined reply ours_whole theirs_whole accepted sides (laws joined accepted) both x end walked
