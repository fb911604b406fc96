use Rattle.std.proofs.Common.{arith, ◌≡◌, List, ℕ, ◌++◌, ap, ◌∙◌, subst, sym}
use Rattle.ddt_wire.specs.Head.{head_bytes}
use Rattle.ddt_wire.specs.Eid.{written_eid, written_mask_len}
use Rattle.ddt_wire.specs.NegativeReply.{SpellsReply, reply_head, reply_of, written_reply}
use Rattle.ddt_wire.specs.laws.Statements.{IsReply}
use Rattle.ddt_wire.specs.laws.Message.{written_reply_spells}
use Rattle.ddt_wire.proofs.negative_reply.put_negative_reply.Goals as goal

pub returns-clause-spelled : goal.returns-clause-spelled
returns-clause-spelled c =
    let v = reply_of c.args.nonce c.args.ttl c.args.prefix in
    let fits : IsReply v = record { nonce_fits = omega arith; ttl_fits = omega arith; prefix_is = c.write_eid.ensures.path } in
    let head : c.put_head.new.bytes.items ≡ head_bytes 2 0 (reply_head (written_mask_len c.args.prefix) 0 0 v) = rw (c.clear.ensures.items, c.mask_len.ensures) at c.in_ok-put_head.ensures.written in
    let e : c.write_eid.new.bytes.items ≡ written_reply v = c.in_ok-write_eid.ensures.written ∙ ap (λ (t : List ℕ). t ++ written_eid c.args.prefix) head in
    subst (λ (bytes : List ℕ). SpellsReply bytes v) (sym e) (written_reply_spells v fits)
