use Rattle.std.proofs.Common.{◌≡◌, map, take}
use Rattle.std.specs.Prelude.{Some, slice_get}
use Rattle.ddt_asking.proofs.sample.at_places.Given as goal

-- the identifiers at the places so far
abbrev pub invariant-loop-place : goal.invariant-loop-place
invariant-loop-place l = map (slice_get l.identifiers) (take l.place-index l.places) ≡ map Some l.some.items
