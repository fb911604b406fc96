use Rattle.std.proofs.Common.{◌≡◌, ◌+◌, ◌*◌, ◌^◌, [], ◌∷◌, ◌++◌}
use Rattle.std.specs.Int.{w16, w32, w64, to_be_bytes}
use Rattle.ddt_wire.proofs.AppendLemmas.{appended_more, appended_after}
use Rattle.ddt_wire.proofs.head.put_head.Goals as goal

pub returns-clause-written : goal.returns-clause-written
returns-clause-written c =
    let h = c.args.head.now in
    let old = c.args.bytes.now.items in
    let one = to_be_bytes w32 (c.args.message_type * 2 ^ 28 + 1) in
    let two = one ++ to_be_bytes w64 h.nonce in
    let three = two ++ to_be_bytes w32 h.ttl in
    let four = three ++ (h.locators ∷ h.mask_len ∷ []) in
    let five = four ++ to_be_bytes w16 h.flags in
    let at_1 : c.extend_from_slice.new.self.items ≡ old ++ one = rw (c.to_be_bytes.ensures, c.from.ensures) at c.in_ok-extend_from_slice.ensures.items in
    let at_2 = appended_more old c.extend_from_slice.new.self.items c.extend_from_slice-2.new.self.items one (to_be_bytes w64 h.nonce) at_1 (rw c.to_be_bytes-2.ensures at c.in_ok-extend_from_slice-2.ensures.items) in
    let at_3 = appended_more old c.extend_from_slice-2.new.self.items c.extend_from_slice-3.new.self.items two (to_be_bytes w32 h.ttl) at_2 (rw c.to_be_bytes-3.ensures at c.in_ok-extend_from_slice-3.ensures.items) in
    let at_4 = appended_more old c.extend_from_slice-3.new.self.items c.extend_from_slice-4.new.self.items three (h.locators ∷ h.mask_len ∷ []) at_3 c.in_ok-extend_from_slice-4.ensures.items in
    let at_5 = appended_more old c.extend_from_slice-4.new.self.items c.extend_from_slice-5.new.self.items four (to_be_bytes w16 h.flags) at_4 (rw c.to_be_bytes-4.ensures at c.in_ok-extend_from_slice-5.ensures.items) in
    appended_after c.extend_from_slice-6.result old c.extend_from_slice-5.new.self.items c.extend_from_slice-6.new.self.items five (to_be_bytes w16 h.version) at_5 (rw c.to_be_bytes-5.ensures at c.extend_from_slice-6.ensures.items)
