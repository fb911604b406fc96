-- Which replies reach beyond the zone by which their server was asked.
use Rattle.std.proofs.Common.{◌≡◌, ℕ, List, Some, sym, ◌∙◌, subst}
use Rattle.std.specs.Prelude.{◌≢◌}
use Rattle.std.specs.FinMap.{get}
use Rattle.ddt_path.specs.declared.locator.Locator.{Locator}
use Rattle.ddt_path.specs.declared.record.ReferralRecord.{ReferralRecord}
use Rattle.ddt_path.specs.Path.{xeid_path}
use Rattle.ddt_resolver.specs.declared.pending.Pending.{Pending}
use Rattle.ddt_resolver.specs.State.{State, server}
use Rattle.ddt_resolver.specs.Records.{IsAbout}
use Rattle.ddt_resolver.specs.MatchReply.{IsReplyTo}
use Rattle.ddt_resolver.specs.Order.{IsStateInOrder}
use Rattle.ddt_resolver.specs.Within.{IsBeyond, IsWide}
use Rattle.ddt_resolver.proofs.ReplyLemmas.{this_one}

pub wide_is : {s : State} {source : Locator} {bytes : List ℕ} {t : ℕ} {l : Pending} {rec : ReferralRecord} {zone : List ℕ}
    → IsReplyTo s bytes t l rec → source ≡ server s.me l → IsAbout rec (xeid_path l.x) → IsBeyond l rec zone → IsWide s source bytes l rec zone
wide_is {t = t} reply from about beyond =
    record { ticket = t; from_server = record { reply = reply; same_source = from }; about = about; beyond = beyond }

-- what is wide is the reply that was found
module _ {s : State} (o : IsStateInOrder s) {source : Locator} {bytes : List ℕ} {t : ℕ} {l : Pending} {rec : ReferralRecord} (reply : IsReplyTo s bytes t l rec)
    (m : Pending) (told : ReferralRecord) (zone : List ℕ) (wide : IsWide s source bytes m told zone) where
  same : (wide.ticket ≡ t) × (m ≡ l) × (told ≡ rec)
  same = this_one s o source bytes t l rec reply.is_pending reply.tells wide.ticket m told wide.from_server.reply

  pub from_its_server : source ≡ server s.me l
  from_its_server = rw same.1 at wide.from_server.same_source

  pub about_its_identifier : IsAbout rec (xeid_path l.x)
  about_its_identifier = rw (same.1, same.2) at wide.about

  pub beyond_its_zone : IsBeyond l rec zone
  beyond_its_zone = rw (same.1, same.2) at wide.beyond
