use Rattle.std.proofs.Common.{◌∙◌, ap, sym, refl}
use Rattle.ddt_path.specs.declared.form.Form.TheVariants.{Block}
use Rattle.ddt_path.specs.declared.locator.Locator.{Locator}
use Rattle.ddt_path.specs.declared.locator.Locator.TheVariants.{V4, V6}
use Rattle.ddt_plan.specs.Blocks.{family_bit}
use Rattle.ddt_plan.proofs.HalfLemmas.{in_range_half, in_family_half, in_block_half, block_goes_on}
use Rattle.ddt_plan.proofs.prefix_halves.inside_half.Goals as goal

pub half32-requires-in-Block-default-V4-default-clause-within : goal.half32-requires-in-Block-default-V4-default-clause-within
half32-requires-in-Block-default-V4-default-clause-within c =
    let b = c.in-Block-default-V4-default in
    block_goes_on c.form.result c.args.whole c.form.ensures.path c.form.ensures.kept c.args.upper b.iid (V4 b.number) b.len (b.is ∙ ap (λ (a : Locator). Block b.iid a b.len) b.address-is) c.requires

pub half128-requires-clause-within : goal.half128-requires-clause-within
half128-requires-clause-within c =
    let b = c.in-Block-default-V6-default in
    block_goes_on c.form.result c.args.whole c.form.ensures.path c.form.ensures.kept c.args.upper b.iid (V6 b.number) b.len (b.is ∙ ap (λ (a : Locator). Block b.iid a b.len) b.address-is) c.requires

pub returns-in-Range-clause-front : goal.returns-in-Range-clause-front
returns-in-Range-clause-front c =
    in_range_half c.form.result c.args.whole c.form.ensures.path c.form.ensures.kept c.args.upper c.in-Range.iid c.in-Range.len c.half32.result (V4 0) c.in-Range.is c.if-len-lt32.true c.half32.ensures

pub returns-then-upper-clause-front : goal.returns-then-upper-clause-front
returns-then-upper-clause-front c =
    in_family_half c.form.result c.args.whole c.form.ensures.path c.form.ensures.kept c.args.upper c.in-Range.iid c.in-Range.len (V6 0) c.in-Range.is c.if-len-lt32.false
    (ap family_bit (sym c.if-upper.true))

pub returns-else-upper-clause-front : goal.returns-else-upper-clause-front
returns-else-upper-clause-front c =
    in_family_half c.form.result c.args.whole c.form.ensures.path c.form.ensures.kept c.args.upper c.in-Range.iid c.in-Range.len (V4 0) c.in-Range.is c.if-len-lt32.false
    (ap family_bit (sym c.if-upper.false))

pub returns-in-Block-default-V4-default-clause-front : goal.returns-in-Block-default-V4-default-clause-front
returns-in-Block-default-V4-default-clause-front c =
    let b = c.in-Block-default-V4-default in
    in_block_half c.form.result c.args.whole c.form.ensures.path c.form.ensures.kept c.args.upper b.iid (V4 b.number) (V4 c.half32-in-Block-default-V4-default.result) b.len (b.is ∙ ap (λ (a : Locator). Block b.iid a b.len) b.address-is) refl c.half32-in-Block-default-V4-default.ensures

pub returns-in-Block-default-V6-default-clause-front : goal.returns-in-Block-default-V6-default-clause-front
returns-in-Block-default-V6-default-clause-front c =
    let b = c.in-Block-default-V6-default in
    in_block_half c.form.result c.args.whole c.form.ensures.path c.form.ensures.kept c.args.upper b.iid (V6 b.number) (V6 c.half128.result) b.len (b.is ∙ ap (λ (a : Locator). Block b.iid a b.len) b.address-is) refl c.half128.ensures
