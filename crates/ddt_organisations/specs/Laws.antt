-- What holds of the servers of all organisations of a tree.
use Rattle.std.specs.Prelude.{◌≡◌, ◌<◌, ℕ, true, false, List, length, Some, Contains}
use Rattle.ddt_path.specs.declared.record.ReferralRecord.{ReferralRecord}
use Rattle.ddt_path.specs.Records.{record_of}
use Rattle.ddt_check.specs.Assignment.{assignment}
use Rattle.ddt_register.specs.declared.zone.Zone.{Zone}
use Rattle.ddt_check.specs.Zones.{roots, zone_of}
use Rattle.ddt_organisations.specs.Seam.Walk.{Replies, IsWalk}
use Rattle.ddt_organisations.specs.Tree.{Organisation, IsTree}
use Rattle.ddt_organisations.specs.Charge.{IsInCharge, IsOwn, AreRunByAll}

-- Whoever follows the referrals of all servers from the root ends with what the register in charge of the identifier
-- assigns.
abbrev pub WalksEndInCharge : Type 0
WalksEndInCharge =
    (top last : Organisation) (all : List Organisation) (reply : Replies) (x : List ℕ) (end : ReferralRecord)
    → IsTree top all → AreRunByAll all reply → IsWalk reply x (roots top.register) end → IsInCharge all x top last
    → end ≡ record_of (assignment last.register x)

-- Each identifier has a register in charge of it, which is that of one of the organisations.
abbrev pub SomeoneIsInCharge : Type 0
SomeoneIsInCharge =
    (top : Organisation) (all : List Organisation) (x : List ℕ) → IsTree top all
    → (last : Organisation) × Contains all last × IsInCharge all x top last

-- From the root of a tree each identifier leads to what the register in charge of it assigns, whichever servers of a
-- set are asked.
abbrev pub EndsInCharge : Organisation → List Organisation → Type 0
EndsInCharge top all =
    (x : List ℕ) → (last : Organisation) × Contains all last × IsInCharge all x top last
    × ((reply : Replies) (end : ReferralRecord) → AreRunByAll all reply → IsWalk reply x (roots top.register) end
    → end ≡ record_of (assignment last.register x))

-- In a tree each organisation has a zone for each identifier, and the top runs one. Where an organisation runs one, and
-- not the longest that it has, somebody runs that, and each who does has a longer one than this.
pub record HandsOn (top : Organisation) (all : List Organisation) (x : List ℕ) : Type 0 where
  pub root : (z : Zone) × IsOwn top x z
  pub longest : (o : Organisation) → Contains all o → (v : Zone) × (zone_of o.register x ≡ Some v)
  pub somebody : (o : Organisation) (z v : Zone) → Contains all o → IsOwn o x z → zone_of o.register x ≡ Some v
      → o.runs v.group ≡ false → (other : Organisation) × Contains all other × (other.runs v.group ≡ true)
  pub longer : (o other : Organisation) (z v : Zone) → Contains all o → Contains all other → IsOwn o x z
      → zone_of o.register x ≡ Some v → o.runs v.group ≡ false → other.runs v.group ≡ true
      → (y : Zone) × IsOwn other x y × (length z.prefix < length y.prefix)

-- So it is in each tree.
abbrev pub TreesHandOn : Type 0
TreesHandOn = (top : Organisation) (all : List Organisation) (x : List ℕ) → IsTree top all → HandsOn top all x
