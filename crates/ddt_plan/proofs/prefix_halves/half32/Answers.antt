use Rattle.std.proofs.Common.{◌∙◌, ap, ◌∷◌, [], ◌++◌, take, ◌-◌, Bool, sym, arith}
use Rattle.ddt_path.specs.Path.{digits}
use Rattle.ddt_plan.specs.Blocks.{bit}
use Rattle.ddt_plan.proofs.HalfLemmas.{upper_digits, upper_fits, lower_digits}
use Rattle.ddt_plan.proofs.prefix_halves.half32.Goals as goal

pub overflow_add-result : goal.overflow_add-result
overflow_add-result c = record { fits = upper_fits 32 c.args.at c.args.number c.requires.within c.ranges.number.fits c.requires.zero (31 - c.args.at) (omega arith) }

pub returns-then-upper : goal.returns-then-upper
returns-then-upper c =
    upper_digits 32 c.args.at c.args.number c.requires.within c.ranges.number.fits c.requires.zero (31 - c.args.at) (omega arith)
    ∙ ap (λ (u : Bool). take c.args.at (digits 32 c.args.number) ++ bit u ∷ []) (sym c.if-upper.true)

pub returns-else-upper : goal.returns-else-upper
returns-else-upper c =
    lower_digits 32 c.args.at c.args.number c.requires.within c.ranges.number.fits c.requires.zero
    ∙ ap (λ (u : Bool). take c.args.at (digits 32 c.args.number) ++ bit u ∷ []) (sym c.if-upper.false)
