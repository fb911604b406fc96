use Rattle.std.proofs.Common.{◌≡◌, length, ◌∙◌, ap, arith}
use Rattle.std.specs.Prelude.{vec_len}
use Rattle.ddt_node.specs.Server.{without_d}
use Rattle.ddt_daemon.proofs.TurnLemmas.{without_d-set, without_d-empty}
use Rattle.ddt_daemon.proofs.sending.without_d.Goals as goal
use Rattle.ddt_daemon.proofs.sending.without_d.Goals.{then-not-is_empty, else-not-is_empty}

pub returns : goal.returns
returns c =
    let bytes = c.in_ok-bytes.bytes in
    let same : bytes.items ≡ c.args.request.now = c.in_ok-bytes.ensures.items in
    let len : vec_len bytes ≡ length bytes.items = omega (arith, bytes.ok.0) in
    elim c.if-not-is_empty.branch [
      | then-not-is_empty w ↦ ap (λ v. v.items) w.bytes-is ∙ without_d-set bytes.items _ _ len w.if-not-is_empty.ensures w.index-first.ensures ∙ ap without_d same
      | else-not-is_empty w ↦ ap (λ v. v.items) w.bytes-is ∙ without_d-empty bytes.items _ len w.if-not-is_empty.ensures ∙ ap without_d same
    ]
