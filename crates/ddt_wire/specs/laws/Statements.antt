-- What holds of every Map-Referral and record, whichever way they are read and written; and which values lie in the
-- ranges of their types.
use Rattle.std.specs.Prelude.{ℕ, ◌<◌, ◌≤◌, ◌^◌, ◌≡◌, List, length}
use Rattle.std.specs.List.{AllByRecursion}
use Rattle.ddt_path.specs.declared.form.Form.{Form}
use Rattle.ddt_path.specs.declared.record.ReferralRecord.{ReferralRecord}
use Rattle.ddt_path.specs.Locators.{most_locators}
use Rattle.ddt_path.specs.Path.{path, IsForm}
use Rattle.ddt_path.specs.Steps.{IsBytes}
use Rattle.ddt_path.specs.Reader.{AreRead}
use Rattle.ddt_wire.specs.Address.{IsAddress}
use Rattle.ddt_wire.specs.declared.negative_reply.NegativeReply.{NegativeReply}
use Rattle.ddt_wire.specs.Referral.{Spells, message_of, message_record, message_in}

-- the path of a prefix
abbrev pub IsPrefix : List ℕ → Type 0
IsPrefix p = (form : Form) × IsForm form × (path form ≡ p)

-- a nonce and a record whose numbers lie in the ranges of their types
pub record IsRecord (nonce : ℕ) (r : ReferralRecord) : Type 0 where
  pub nonce_fits : nonce < 2 ^ 64
  pub ttl_fits : r.ttl < 2 ^ 32
  pub prefix_is : IsPrefix r.prefix
  pub count_fits : length r.servers ≤ most_locators
  pub servers_fit : AllByRecursion IsAddress r.servers

-- a negative Map-Reply whose numbers lie in the ranges of their types
pub record IsReply (v : NegativeReply) : Type 0 where
  pub nonce_fits : v.nonce < 2 ^ 64
  pub ttl_fits : v.ttl < 2 ^ 32
  pub prefix_is : IsPrefix v.prefix

-- what is spelled is read, and what is read is spelled
abbrev pub MessagesAreRead : Type 0
MessagesAreRead = AreRead IsBytes Spells message_in

-- the record of the message of a record is this record, if it has at most eight servers
abbrev pub RecordsComeBack : Type 0
RecordsComeBack =
    (nonce : ℕ) (r : ReferralRecord) → length r.servers ≤ most_locators
    → message_record (message_of nonce r) ≡ r
