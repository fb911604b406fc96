use Rattle.std.proofs.Common.{◌≡◌, Bool, drop}
use Rattle.std.specs.List.{filter}
use Rattle.std.specs.Option.{option_copied}
use Rattle.ddt_path.specs.Matching.{best_match, AnswersAs}
use Rattle.ddt_path.specs.laws.Matching.{best_of}
use Rattle.ddt_path.proofs.matches.best_match.Given as goal

abbrev pub invariant-loop-item : goal.invariant-loop-item
invariant-loop-item g l = (passes : _ → Bool) → AnswersAs g.F.Fn l.test passes →
    best_of l.preference g.T.Prefixed.path (option_copied l.best) (best_match l.preference g.T.Prefixed.path (filter passes (drop l.item-index l.items)) l.x)
    ≡ best_match l.preference g.T.Prefixed.path (filter passes l.items) l.x
