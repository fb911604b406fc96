use Rattle.std.proofs.Common.{sym, ◌∙◌, ap, ℕ, ◌+◌}
use Rattle.ddt_path.specs.Path.{digits, address_path}
use Rattle.ddt_path.specs.Covers.{shared_len}
use Rattle.ddt_path.specs.DigitLemmas.{length-digits}
use Rattle.ddt_path.specs.laws.Share.{shared_len-append_all, shared_len-append_some}
use Rattle.ddt_path.proofs.xeid.Xeid.shared.Goals as goal

pub returns-then-shared-eq32 : goal.returns-then-shared-eq32
returns-then-shared-eq32 c =
    let n = length-digits 32 c.args.self.iid in
    ap (λ (k : ℕ). 32 + k) c.shared.ensures.digits
    ∙ sym (shared_len-append_all (digits 32 c.args.self.iid) (digits 32 c.args.other.iid) (address_path c.args.self.address) (address_path c.args.other.address)
    (n ∙ sym (length-digits 32 c.args.other.iid)) (sym c.shared32-shared.ensures.digits ∙ c.if-shared-eq32.true ∙ sym n)
    ∙ ap (λ (k : ℕ). k + shared_len (address_path c.args.self.address) (address_path c.args.other.address)) n)

pub returns-else-shared-eq32 : goal.returns-else-shared-eq32
returns-else-shared-eq32 c =
    c.shared32-shared.ensures.digits
    ∙ sym (shared_len-append_some (digits 32 c.args.self.iid) (digits 32 c.args.other.iid) (address_path c.args.self.address) (address_path c.args.other.address)
    (length-digits 32 c.args.self.iid ∙ sym (length-digits 32 c.args.other.iid)) (λ e. c.if-shared-eq32.false (c.shared32-shared.ensures.digits ∙ e ∙ length-digits 32 c.args.self.iid)))
