use Rattle.std.proofs.Common.{arith, ◌≡◌, List, ℕ, subst, sym}
use Rattle.std.proofs.lemmas.List.Elements.{recursion_from_All}
use Rattle.std.specs.List.{flat_map}
use Rattle.ddt_wire.specs.Address.{IsAddress}
use Rattle.ddt_wire.specs.Head.{head_bytes}
use Rattle.ddt_wire.specs.Eid.{written_eid}
use Rattle.ddt_wire.specs.LocatorRecord.{written_locator}
use Rattle.ddt_wire.specs.Referral.{Spells, lent_record, message_of, written, written_head}
use Rattle.ddt_wire.specs.laws.Statements.{IsRecord}
use Rattle.ddt_wire.specs.laws.Message.{written_spells}
use Rattle.ddt_wire.proofs.AppendLemmas.{three_parts}
use Rattle.ddt_wire.proofs.referral.fill.Goals as goal

pub returns-clause-spelled : goal.returns-clause-spelled
returns-clause-spelled c =
    let r = lent_record c.args.referral.now in
    let fits : IsRecord c.args.nonce r = record {
      nonce_fits = omega arith;
      ttl_fits = rw c.referral_head-head.ensures at c.in_ok-put_head.ensures.ttl;
      prefix_is = c.write_eid.ensures.path;
      count_fits = c.requires;
      servers_fit = recursion_from_All IsAddress r.servers c.in_ok-put_locators.ensures.fit;
    } in
    let head : c.put_head.new.bytes.items ≡ head_bytes 6 0 (written_head c.args.nonce r) = rw (c.in_ok-reserve.ensures.items, c.clear.ensures.items, c.referral_head-head.ensures) at c.in_ok-put_head.ensures.written in
    let e : c.put_locators.new.bytes.items ≡ written c.args.nonce r =
    three_parts (head_bytes 6 0 (written_head c.args.nonce r)) (written_eid r.prefix) (flat_map written_locator r.servers)
    c.put_head.new.bytes.items c.write_eid.new.bytes.items c.put_locators.new.bytes.items
    head c.in_ok-write_eid.ensures.written c.in_ok-put_locators.ensures.written in
    subst (λ (bytes : List ℕ). Spells bytes (message_of c.args.nonce r)) (sym e) (written_spells c.args.nonce r fits)
