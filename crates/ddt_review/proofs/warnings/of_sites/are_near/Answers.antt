use Rattle.std.proofs.Common.{◌≡◌, ℕ, length, nat_lt, ap, ◌∙◌, arith}
use Rattle.std.specs.Prelude.{max}
use Rattle.std.proofs.lemmas.List.{length-take}
use Rattle.ddt_path.specs.Covers.{shared_len}
use Rattle.ddt_path.specs.laws.Share.{shared_len-le}
use Rattle.ddt_review.specs.Warnings.Index.{register_of}
use Rattle.ddt_review.specs.Warnings.Warnings.{len_above}
use Rattle.ddt_review.proofs.warnings.of_sites.are_near.Goals as goal

pub returns : goal.returns
returns c =
    let r = register_of c.args.index.now in
    let p = c.args.before.now.prefix in
    let q = c.args.behind.now.prefix in
    let le = shared_len-le p q in
    let n : c.len.result ≡ shared_len p q =
    c.len.ensures.digits ∙ ap length c.longest_common.ensures.digits ∙ length-take (shared_len p q) p ∙ omega arith in
    let m : c.max.result ≡ max (len_above r c.args.site.now) 32 =
    c.max.ensures ∙ ap (λ (k : ℕ). max k 32) c.len_above.ensures in
    ap (λ (k : ℕ). nat_lt c.max.result k) n ∙ ap (λ (k : ℕ). nat_lt k (shared_len p q)) m
