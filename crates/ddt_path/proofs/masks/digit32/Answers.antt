use Rattle.std.proofs.Common.{◌-◌, Some, sym, ap, ◌∙◌, ℕ}
use Rattle.std.proofs.lemmas.Nat.Bits.{shr_and_one}
use Rattle.ddt_path.specs.laws.Place.{digit-at}
use Rattle.ddt_path.proofs.masks.digit32.Goals as goal

pub returns : goal.returns
returns c = digit-at 32 c.args.number c.args.at c.requires ∙ ap (λ (d : ℕ). Some d) (sym (shr_and_one c.args.number (31 - c.args.at)))
