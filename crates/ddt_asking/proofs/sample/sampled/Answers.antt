use Rattle.std.proofs.Common.{ℕ, ◌<◌, length}
use Rattle.std.proofs.lemmas.List.Sorted.{All-permutation}
use Rattle.ddt_asking.proofs.sample.sampled.Goals as goal

pub at_places-requires : goal.at_places-requires
at_places-requires g c =
    rw c.deref.ensures.value
    (All-permutation (λ (place : ℕ). place < length c.args.identifiers.now) c.into_vec-places.result.items
    c.sort_unstable.new.self.items c.sort_unstable.ensures.permutation
    (rw c.into_vec-places.ensures c.in_ok-sample.ensures.in_range))
