use Rattle.std.proofs.Common.{◌∙◌, ap, rules, true, List}
use Rattle.ddt_path.specs.declared.matches.Preference.TheVariants.{Longest}
use Rattle.ddt_path.specs.Matching.{best_match}
use Rattle.ddt_path.specs.laws.Filter.{filter_everything}
use Rattle.ddt_path.proofs.matches.longest_match.Goals as goal

pub returns : goal.returns
returns g c =
    c.best_match.ensures (λ _. true) (λ item answer h. search rules)
    ∙ ap (λ (items : List _). best_match Longest g.T.Prefixed.path items c.args.x) (filter_everything c.args.items.now)
