use Rattle.std.proofs.Common.{◌≡◌, ◌+◌, ◌-◌, length, ap, ◌∙◌, arith}
use Rattle.std.specs.Prelude.{slice_get}
use Rattle.std.proofs.lemmas.List.{length-append}
use Rattle.ddt_path.specs.DigitLemmas.{length-digits}
use Rattle.ddt_path.specs.Path.{digits, address_path, xeid_path}
use Rattle.ddt_path.specs.laws.Place.{slice_get-front, slice_get-behind}
use Rattle.ddt_path.proofs.xeid.Xeid.digit.Goals as goal

pub symbol-requires : goal.symbol-requires
symbol-requires c =
    let x = c.args.self in
    omega (arith, length-append (digits 32 x.iid) (address_path x.address), length-digits 32 x.iid, c.requires, c.if-at-lt32.false)

pub returns-then-at-lt32 : goal.returns-then-at-lt32
returns-then-at-lt32 c =
    let x = c.args.self in
    slice_get-front (digits 32 x.iid) (address_path x.address) c.args.at (omega (arith, length-digits 32 x.iid, c.if-at-lt32.true)) ∙ c.digit32.ensures

pub returns-else-at-lt32 : goal.returns-else-at-lt32
returns-else-at-lt32 c =
    let x = c.args.self in
    let e : c.args.at ≡ length (digits 32 x.iid) + (c.args.at - 32) = omega (arith, length-digits 32 x.iid, c.if-at-lt32.false) in
    ap (slice_get (xeid_path x)) e ∙ slice_get-behind (digits 32 x.iid) (address_path x.address) (c.args.at - 32) ∙ c.symbol.ensures
