-- The zone by which a lookup asks its server, and what a resolver hears of a reply that reaches beyond it.
use Rattle.std.specs.Prelude.{ℕ, ◌≡◌, ◌≢◌, false, List, Option, None, Some}
use Rattle.std.specs.FinMap.{get}
use Rattle.ddt_path.specs.declared.action.Action.TheVariants.{NotAuthoritative}
use Rattle.ddt_path.specs.declared.locator.Locator.{Locator}
use Rattle.ddt_path.specs.declared.record.ReferralRecord.{ReferralRecord}
use Rattle.ddt_path.specs.Covers.{covers}
use Rattle.ddt_path.specs.Path.{xeid_path}
use Rattle.ddt_wire.specs.Referral.{Spells, message_of, written}
use Rattle.ddt_resolver.specs.declared.pending.Pending.{Pending}
use Rattle.ddt_resolver.specs.Records.{IsAbout}
use Rattle.ddt_resolver.specs.State.{State}
use Rattle.ddt_resolver.specs.MatchReply.{IsFromServer}

-- the saved prefix, or that of the entry at which the pass started
abbrev pub first_of : Option (List ℕ) → Option (List ℕ) → Option (List ℕ)
first_of (Some p) start = Some p
first_of None start = start

-- The prefix by which a lookup asks its server: of the referral that it followed last, or of the remembered entry at
-- which its pass started. None for the root, which answers for everything (RFC 8111, section 7.3).
abbrev pub asked_within : Pending → Option (List ℕ)
asked_within l = first_of l.last_referral l.start_entry

-- A record's prefix doesn't lie inside the zone by which a lookup asks. A server that says it isn't in charge is
-- believed for any prefix.
pub record IsBeyond (l : Pending) (rec : ReferralRecord) (zone : List ℕ) : Type 0 where
  pub in_charge : rec.action ≢ NotAuthoritative
  pub asked : asked_within l ≡ Some zone
  pub outside : covers zone rec.prefix ≡ false

-- A reply from the server that a lookup asked is about the lookup's identifier, and reaches beyond the zone.
pub record IsWide (s : State) (source : Locator) (bytes : List ℕ) (l : Pending) (rec : ReferralRecord) (zone : List ℕ) :
    Type 0 where
  pub ticket : ℕ
  pub from_server : IsFromServer s source bytes ticket l rec
  pub about : IsAbout rec (xeid_path l.x)
  pub beyond : IsBeyond l rec zone

-- a record cut to a zone: all else that it says stays
abbrev pub cut_to : List ℕ → ReferralRecord → ReferralRecord
cut_to zone rec = record rec { prefix = zone }

-- What is heard in the place of a datagram. `whole`: the datagram, as it came. `cut`: a wide reply is heard as if its
-- server had said the same of its zone alone.
pub data IsCut (s : State) (source : Locator) (bytes : List ℕ) (heard : Option (List ℕ)) : Type 0 where
  whole : ((l : Pending) (rec : ReferralRecord) (zone : List ℕ) → IsWide s source bytes l rec zone → ⊥) → heard ≡ None
      → IsCut s source bytes heard
  cut : (l : Pending) (rec : ReferralRecord) (zone : List ℕ) → IsWide s source bytes l rec zone
      → heard ≡ Some (written l.nonce (cut_to zone rec))
      → Spells (written l.nonce (cut_to zone rec)) (message_of l.nonce (cut_to zone rec))
      → IsCut s source bytes heard
