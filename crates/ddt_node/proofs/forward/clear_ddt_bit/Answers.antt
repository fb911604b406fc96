use Rattle.std.proofs.Common.{◌≡◌, ◌<◌, List, ℕ, get_or, length, ◌∙◌, ap, arith}
use Rattle.std.specs.Prelude.{vec_len}
use Rattle.ddt_node.specs.Server.{without_d}
use Rattle.ddt_node.proofs.BitLemmas.{without_d-set, without_d-empty}
use Rattle.ddt_node.proofs.forward.clear_ddt_bit.Goals as goal
use Rattle.ddt_node.proofs.forward.clear_ddt_bit.Goals.{then-not-is_empty, else-not-is_empty}

pub returns : goal.returns
returns c =
    let bytes = c.in_ok-bytes.bytes in
    let same : bytes.items ≡ c.args.request.now = c.in_ok-bytes.ensures.items in
    let fits : get_or bytes.items 0 0 < 256 = omega (arith, ap (λ (l : List ℕ). get_or l 0 0) same, c.type_inv.request 0) in
    let len : vec_len bytes ≡ length bytes.items = omega (arith, bytes.ok.0) in
    elim c.if-not-is_empty.branch [
      | then-not-is_empty w ↦ ap (λ v. v.items) w.bytes-is ∙ without_d-set bytes.items _ _ len w.if-not-is_empty.ensures w.index_mut.ensures.value fits ∙ ap without_d same
      | else-not-is_empty w ↦ ap (λ v. v.items) w.bytes-is ∙ without_d-empty bytes.items _ len w.if-not-is_empty.ensures ∙ ap without_d same
    ]
