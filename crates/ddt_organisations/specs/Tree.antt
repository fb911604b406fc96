-- The registers of many organisations, each of which runs some of the servers of one tree (RFC 8111, section 4). Each
-- has the rows of its own register alone: no register has the rows of all.
use Rattle.std.specs.Prelude.{◌≡◌, ℕ, Bool, true, false, IsTrue, List, [], Contains}
use Rattle.ddt_path.specs.Covers.{is_strictly_below}
use Rattle.ddt_register.specs.declared.zone.Zone.{Zone}
use Rattle.ddt_register.specs.declared.register.Register.{Register}
use Rattle.ddt_check.specs.Rules.{IsAccepted}
use Rattle.ddt_organisations.specs.Seam.Joined.{IsJoined}
use Rattle.ddt_organisations.specs.Seam.Seam.{is_good_seam}

-- an organisation: its register, and the names of the groups whose servers it runs
pub record Organisation : Type 0 where
  pub register : Register
  pub runs : List ℕ → Bool

-- A zone that an organisation delegates to the servers of another: it runs a zone above it, and not this one. So a zone
-- above all that it runs, as the root in most registers, isn't delegated.
pub record IsDelegated (o : Organisation) (z : Zone) : Type 0 where
  pub is_zone : Contains o.register.zones z
  pub not_run : o.runs z.group ≡ false
  pub above : Zone
  pub is_above : Contains o.register.zones above
  pub is_run : o.runs above.group ≡ true
  pub is_below : IsTrue (is_strictly_below z.prefix above.prefix)

-- The seam of two organisations is good, the groups of the second being run from its own register.
pub record HaveGoodSeam (o other : Organisation) : Type 0 where
  pub joined : Register
  pub is_joined : IsJoined o.register other.register joined
  pub is_accepted : IsAccepted joined
  pub is_good : IsTrue (is_good_seam other.runs o.register other.register joined)

-- An organisation doesn't say what is inside a zone that it delegates.
abbrev pub SaysNothingInside : Organisation → Type 0
SaysNothingInside o = (z y : Zone) → IsDelegated o z → Contains o.register.zones y
    → is_strictly_below y.prefix z.prefix ≡ false

-- Organisations make a tree below one of them. It runs the root. None says what is inside what it delegates. Each zone
-- that is delegated is run by one of them, and all that meet so have a good seam.
pub record IsTree (top : Organisation) (all : List Organisation) : Type 0 where
  pub top_is_one : Contains all top
  pub accepted : (o : Organisation) → Contains all o → IsAccepted o.register
  pub root_is_run : (z : Zone) → Contains top.register.zones z → z.prefix ≡ [] → top.runs z.group ≡ true
  pub inside : (o : Organisation) → Contains all o → SaysNothingInside o
  pub each_is_run : (o : Organisation) (z : Zone) → Contains all o → IsDelegated o z
      → (other : Organisation) × Contains all other × (other.runs z.group ≡ true)
  pub seams : (o other : Organisation) (z : Zone) → Contains all o → Contains all other → IsDelegated o z
      → other.runs z.group ≡ true → HaveGoodSeam o other
