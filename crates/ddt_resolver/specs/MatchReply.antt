-- Which datagrams a resolver takes as a reply: six tests in order, which change nothing.
use Rattle.std.specs.Prelude.{ℕ, ◌≡◌, ◌≢◌, ◌<◌, ◌≤◌, List, Some}
use Rattle.std.specs.FinMap.{get}
use Rattle.ddt_path.specs.declared.locator.Locator.{Locator}
use Rattle.ddt_path.specs.declared.record.ReferralRecord.{ReferralRecord}
use Rattle.ddt_path.specs.Path.{xeid_path}
use Rattle.ddt_wire.specs.Referral.{Message, Spells, message_record}
use Rattle.ddt_resolver.specs.declared.pending.Pending.{Pending}
use Rattle.ddt_resolver.specs.declared.results.Ignored.{Ignored}
use Rattle.ddt_resolver.specs.declared.results.Ignored.TheVariants.{Undecodable, UnknownNonce, WrongSource, Late, NotCovering, NoServers}
use Rattle.ddt_resolver.specs.State.{State, server}
use Rattle.ddt_resolver.specs.Records.{IsAbout, NamesServer}

-- the bytes spell a Map-Referral of this nonce, with this record, of which the first eight locators are kept
pub record TellsReply (bytes : List ℕ) (nonce : ℕ) (rec : ReferralRecord) : Type 0 where
  pub message : Message
  pub spells : Spells bytes message
  pub same_nonce : message.nonce ≡ nonce
  pub same_record : message_record message ≡ rec

-- the bytes answer the last request of a pending lookup by its nonce
pub record IsReplyTo (s : State) (bytes : List ℕ) (t : ℕ) (l : Pending) (rec : ReferralRecord) : Type 0 where
  pub is_pending : get s.pending t ≡ Some l
  pub tells : TellsReply bytes l.nonce rec

-- and they come from the server that was asked
pub record IsFromServer (s : State) (source : Locator) (bytes : List ℕ) (t : ℕ) (l : Pending) (rec : ReferralRecord) :
    Type 0 where
  pub reply : IsReplyTo s bytes t l rec
  pub same_source : source ≡ server s.me l

-- and before the deadline
pub record IsBeforeDeadline (s : State) (source : Locator) (bytes : List ℕ) (t : ℕ) (l : Pending)
    (rec : ReferralRecord) : Type 0 where
  pub from_server : IsFromServer s source bytes t l rec
  pub early : s.known.time < l.deadline

-- and they are about its identifier, and name a server where they refer to others: all six tests are passed
pub record IsTaken (s : State) (source : Locator) (bytes : List ℕ) (t : ℕ) (l : Pending) (rec : ReferralRecord) : Type 0
  where
    pub in_time : IsBeforeDeadline s source bytes t l rec
    pub about : IsAbout rec (xeid_path l.x)
    pub names_server : NamesServer rec

-- The six reasons to ignore a datagram; of each, the tests before it are passed.
pub data Ignores (s : State) (source : Locator) (bytes : List ℕ) (why : Ignored) : Type 0 where
  undecodable : ((v : Message) → Spells bytes v → ⊥) → why ≡ Undecodable → Ignores s source bytes why
  unknown_nonce : (nonce : ℕ) (rec : ReferralRecord) → TellsReply bytes nonce rec
      → ((t : ℕ) (l : Pending) → get s.pending t ≡ Some l → l.nonce ≢ nonce) → why ≡ UnknownNonce
      → Ignores s source bytes why
  wrong_source : (t : ℕ) (l : Pending) (rec : ReferralRecord) → IsReplyTo s bytes t l rec
      → source ≢ server s.me l → why ≡ WrongSource → Ignores s source bytes why
  late : (t : ℕ) (l : Pending) (rec : ReferralRecord) → IsFromServer s source bytes t l rec
      → l.deadline ≤ s.known.time → why ≡ Late → Ignores s source bytes why
  not_covering : (t : ℕ) (l : Pending) (rec : ReferralRecord) → IsBeforeDeadline s source bytes t l rec
      → (IsAbout rec (xeid_path l.x) → ⊥) → why ≡ NotCovering → Ignores s source bytes why
  no_servers : (t : ℕ) (l : Pending) (rec : ReferralRecord) → IsBeforeDeadline s source bytes t l rec
      → IsAbout rec (xeid_path l.x) → (NamesServer rec → ⊥) → why ≡ NoServers → Ignores s source bytes why
