use Rattle.std.proofs.Common.{inl, inr}
use Rattle.ddt_cache.specs.laws.Ends.{listed_but}
use Rattle.ddt_cache.proofs.ends_by_time.Ends.strike.Goals as goal

pub returns-clause-others : goal.returns-clause-others
returns-clause-others c p n noted = elim noted [
  | inl l ↦ elim (listed_but c.args.self.now.listed c.remove.new.self (c.args.end, c.args.prefix) (n, p) c.remove.ensures.updates.0 l) [
    | inl same ↦ inl same
    | inr left ↦ inr (inl left)
  ]
  | inr u ↦ inr (inr u)
]
