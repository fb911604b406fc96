use Rattle.std.proofs.Common.{◌<◌, length, subst, arith}
use Rattle.ddt_path.specs.declared.locator.Locator.{Locator}
use Rattle.ddt_path.specs.DigitLemmas.{length-digits}
use Rattle.ddt_path.specs.Path.{address_path}
use Rattle.ddt_path.proofs.locator.Locator.symbol.Goals as goal

pub digit32-requires : goal.digit32-requires
digit32-requires c =
    let within = subst (λ (l : Locator). c.args.at < length (address_path l)) c.in-V4-2.is c.requires in
    omega (arith, within, length-digits 32 c.in-V4-2.number, c.if-at-eq0.false)

pub digit128-requires : goal.digit128-requires
digit128-requires c =
    let within = subst (λ (l : Locator). c.args.at < length (address_path l)) c.in-V6-2.is c.requires in
    omega (arith, within, length-digits 128 c.in-V6-2.number, c.if-at-eq0-2.false)
