use Rattle.std.proofs.Common.{sym, ◌∙◌, ap}
use Rattle.std.specs.Prelude.{Bool, ◌&&◌}
use Rattle.ddt_path.specs.Covers.{covers}
use Rattle.ddt_path.specs.laws.Share.{covers_both, not_covered}
use Rattle.ddt_path.proofs.prefix.PrefixPartialEq.eq.Goals as goal

pub returns-then-covers : goal.returns-then-covers
returns-then-covers c =
    c.covers-then-covers.ensures
    ∙ sym (ap (λ (b : Bool). b && covers c.args.other.now c.args.self.now) (sym c.covers.ensures ∙ c.if-covers.true))
    ∙ covers_both c.args.self.now c.args.other.now

pub returns-else-covers : goal.returns-else-covers
returns-else-covers c = c.if-covers.false ∙ not_covered c.args.self.now c.args.other.now (sym c.covers.ensures ∙ c.if-covers.false)
