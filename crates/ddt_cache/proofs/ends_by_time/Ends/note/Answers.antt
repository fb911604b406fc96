use Rattle.std.proofs.Common.{inl, inr}
use Rattle.ddt_cache.specs.laws.Ends.{listed_still}
use Rattle.ddt_cache.proofs.ends_by_time.Ends.note.Goals as goal

pub returns-in-Ok-clause-others : goal.returns-in-Ok-clause-others
returns-in-Ok-clause-others c p n noted = elim noted [
  | inl l ↦ inl (listed_still c.args.self.now.listed c.insert.new.self (c.args.end, c.args.prefix) (n, p) c.in-Ok.ensures.updates.0 l)
  | inr u ↦ inr u
]
