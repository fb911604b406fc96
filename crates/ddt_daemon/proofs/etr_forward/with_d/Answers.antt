use Rattle.std.proofs.Common.{◌≡◌, length, ◌∙◌, ap, arith}
use Rattle.std.specs.Prelude.{vec_len}
use Rattle.ddt_daemon.specs.Onward.{with_d}
use Rattle.ddt_daemon.proofs.BitLemmas.{with_d-set, with_d-empty}
use Rattle.ddt_daemon.proofs.etr_forward.with_d.Goals as goal
use Rattle.ddt_daemon.proofs.etr_forward.with_d.Goals.{then-not-is_empty, else-not-is_empty}

pub returns : goal.returns
returns c =
    let bytes = c.into_vec-bytes.result in
    let same : bytes.items ≡ c.args.request = c.into_vec-bytes.ensures in
    let len : vec_len bytes ≡ length bytes.items = omega (arith, bytes.ok.0) in
    c.of.ensures ∙ elim c.if-not-is_empty.branch [
      | then-not-is_empty w ↦ ap (λ v. v.items) w.bytes-is ∙ with_d-set bytes.items _ _ len w.if-not-is_empty.ensures w.index_mut.ensures.value (omega arith) ∙ ap with_d same
      | else-not-is_empty w ↦ ap (λ v. v.items) w.bytes-is ∙ with_d-empty bytes.items _ len w.if-not-is_empty.ensures ∙ ap with_d same
    ]
