use Rattle.std.proofs.Common.{◌≡◌, ℕ, refl, sym, ◌∙◌, ap, arith}
use Rattle.std.proofs.lemmas.List.{length-replicate, length-set, take_all}
use Rattle.ddt_map_register.specs.Hmac.Hmac.{xor_each}
use Rattle.ddt_map_register.proofs.HmacLemmas.Codes.{xor_step}
use Rattle.ddt_map_register.proofs.hmac.code.padded.Goals as goal

pub loop-i-init : goal.loop-i-init
loop-i-init c = (length-replicate {A = ℕ} 64 0, refl)

pub loop-i-preserved : goal.loop-i-preserved
loop-i-preserved c =
    let len = c.loop-i.invariant.0 in (
      length-set _ _ _ ∙ len,
      xor_step c.args.pad c.loop-i.i c.loop-i.out c.args.block.now (omega arith) (omega arith) c.loop-i.invariant.1,
    )

pub returns : goal.returns
returns c =
    let len = c.loop-i.invariant.0 in
    let done : c.loop-i.i ≡ 64 = omega arith in
    sym (take_all 64 c.loop-i.out (omega arith)) ∙ rw done at c.loop-i.invariant.1
    ∙ ap (xor_each c.args.pad) (take_all 64 c.args.block.now (omega arith))
