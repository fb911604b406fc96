use Rattle.std.proofs.Common.{◌≡◌, ◌∷◌, List, ℕ, Ok, subst, rules}
use Rattle.std.specs.Prelude.{◌↔◌}
use Rattle.ddt_text.specs.Grammar.{SpellsPrefix}
use Rattle.ddt_config.proofs.settings.rloc_prefix.parse_rloc_prefix.Goals as goal

pub returns-clause-spelled : goal.returns-clause-spelled
returns-clause-spelled c = λ p.
    let is : c.deref.result.now ≡ 91 ∷ 48 ∷ 93 ∷ c.args.text.now = search rules in
    subst (λ (text : List ℕ). (c.parse_bracketed.result ≡ Ok p) ↔ SpellsPrefix text p) is (c.parse_bracketed.ensures.spelled p)
