use Rattle.std.proofs.Common.{sym, ◌∙◌}
use Rattle.ddt_text.specs.laws.XeidText.{trailing_case}
use Rattle.ddt_text.proofs.xeid_text.read_xeid.Goals as goal

pub returns-in_default : goal.returns-in_default
returns-in_default c =
    trailing_case c.args.text.now c.in_ok-inner.inner.now c.in_ok-inner.rest.now c.cut.result.0.now c.cut.result.1.now c.in_ok-iid.iid c.in_ok-address.address
    c.in_ok-inner.ensures (sym c.read_u32.ensures.value ∙ c.in_ok-iid.ensures.ok_part) c.cut.ensures.front c.cut.ensures.back (sym c.read_address.ensures ∙ c.in_ok-address.ensures.ok_part) c.in_default.len_at_least
