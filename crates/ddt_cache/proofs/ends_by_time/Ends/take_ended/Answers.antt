use Rattle.std.proofs.Common.{inl, inr, arith}
use Rattle.ddt_cache.specs.laws.Ends.{first_least}
use Rattle.ddt_cache.proofs.ends_by_time.Ends.take_ended.Goals as goal

pub returns-then-time-end-clause-later : goal.returns-then-time-end-clause-later
returns-then-time-end-clause-later c p n noted = elim noted [
  | inl l ↦
      let least = first_least c.in_ok-end.field-0.now (n, p) (c.in_ok-end.ensures.least (n, p) l) in
      inl (omega (arith, least, c.if-time-end.true, c.in_ok-end.end-is))
  | inr u ↦ inr u
]
