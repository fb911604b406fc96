use Rattle.std.proofs.Common.{◌≡◌, ℕ, length, drop, ap, ◌∙◌, arith}
use Rattle.ddt_path.specs.Covers.{covers}
use Rattle.ddt_path.specs.DigitLemmas.{length-digits}
use Rattle.ddt_path.specs.Path.{digits, address_path}
use Rattle.ddt_review.proofs.WarningsLemmas.DelegationLemmas.{covers_part}
use Rattle.ddt_review.proofs.warnings.of_sites.covers_address.Goals as goal

pub returns : goal.returns
returns c = λ long.
    let p = c.args.prefix in
    let n : length (digits 32 c.inner-iid.result.iid) ≡ 32 = length-digits 32 c.inner-iid.result.iid in
    c.covers_xeid.ensures
    ∙ covers_part (digits 32 c.inner-iid.result.iid) p (address_path c.args.address) (address_path c.inner-iid.result.address)
    c.inner-iid.ensures.front (omega arith)
    ∙ ap (λ (k : ℕ). covers (drop k p) (address_path c.args.address)) n
